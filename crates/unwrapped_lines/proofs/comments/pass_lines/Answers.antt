use Rattle.std.proofs.Common.{◌≡◌, ◌≤◌, ◌+◌, ◌-◌, ◌++◌, ◌∷◌, ◌∙◌, List, arith, ap, sym}
use Rattle.unwrapped_lines.specs.Comments.{Tree, begins_from, list_of}
use Rattle.unwrapped_lines.specs.Lines.{lines_between}
use Rattle.unwrapped_lines.specs.declared.part.Begin.{Begin}
use Rattle.unwrapped_lines.specs.Inside.{parts_with}
use Rattle.unwrapped_lines.proofs.Passed.{lines_on}
use Rattle.unwrapped_lines.proofs.comments.pass_lines.Goals as goal

pub loop-next-preserved : goal.loop-next-preserved
loop-next-preserved c =
    let comments = c.args.comments.now in
    let count = c.args.count in
    let walk = c.loop-next.walk in
    let inv = c.loop-next.invariant in
    let next = c.in-Some.next in
    let tree : Tree = record { lines = c.args.lines.now; total = c.args.total; end_level = c.args.end_level } in
    let behind : List Begin = begins_from tree (parts_with (count - (next.begin.first + 1)) (next.begin.first + 1) comments) (next.begin.first + 1) next.marks in
    let most : next.begin.first + 1 ≤ count = omega (arith, c.in-Some.ensures.near, c.next_comment-end.ensures.most) in
    let row : begins_from tree (parts_with (count - walk.index) walk.index comments) walk.index walk.marks ≡ next.begin ∷ behind =
    c.in-Some.ensures.row c.args.total c.args.end_level count comments inv.run most (c.next_comment-end.ensures.follow (next.begin.first + 1) (omega (arith, c.in-Some.ensures.near))) in
    record {
      same = lines_on count c.loop-next.out.items c.end_line.new.lines.items walk.current next.begin behind c.in_ok-end_line.ensures ∙ (ap (λ (begins : List Begin). c.loop-next.out.items ++ lines_between count (list_of walk.current ++ begins)) (sym row) ∙ inv.same);
      most = most;
      on = omega (arith, inv.on, c.in-Some.ensures.on);
      seen = c.in-Some.ensures.seen inv.seen;
      begun = omega (arith, inv.begun, c.in-Some.ensures.begun, c.in-Some.ensures.on);
      run = c.in-Some.ensures.run;
    }
