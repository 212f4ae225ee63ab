use Rattle.std.proofs.Common.{◌∙◌, ◌+◌, ◌-◌, List, ap, arith, sym}
use Rattle.item_classes.specs.declared.part.Part.{Part}
use Rattle.unwrapped_lines.specs.Comments.{Tree, begins_from}
use Rattle.unwrapped_lines.specs.declared.part.Begin.{Begin}
use Rattle.unwrapped_lines.specs.Inside.{parts_with}
use Rattle.unwrapped_lines.proofs.Passed.{all_told, last_line, went_on}
use Rattle.unwrapped_lines.proofs.comments.comment_lines.Goals as goal

pub places-preserved : goal.places-preserved
places-preserved c =
    let count = c.args.count in
    let walk = c.pass_tokens-walk.result in
    let tree : Tree = record { lines = c.args.lines.now; total = c.args.total; end_level = c.args.end_level } in
    let behind : List Begin = begins_from tree (parts_with (count - (walk.index + 1)) (walk.index + 1) c.part_at-part.result.1.now) (walk.index + 1) c.pass_place-step.result.marks in
    record {
      same =
          went_on count _ _ _ _ _ _ _ _ _ behind (c.in_ok-current.ensures count behind) c.pass_place-step.ensures.told
          (sym (ap (λ (ps : List Part). begins_from tree ps walk.index walk.marks) c.part_at-part.ensures) ∙ c.pass_tokens-walk.ensures.same) c.pass_tokens-walk.ensures.current
          (c.in_ok-behind.ensures.same ∙ c.places.invariant.same);
      most = omega (arith, c.if-count-walk.false);
      seen = c.pass_place-step.ensures.seen;
      begun = c.pass_place-step.ensures.begun;
    }

pub returns-then-count-walk : goal.returns-then-count-walk
returns-then-count-walk c =
    let walk = c.pass_tokens-walk.result in
    all_told c.args.count _ _ _ _ _ _ _
    (last_line (record { lines = c.args.lines.now; total = c.args.total; end_level = c.args.end_level }) c.args.count walk.index c.places.rest.now walk.marks _ _ walk.current c.if-count-walk.true c.in_ok-end_line.ensures)
    c.pass_tokens-walk.ensures.same c.pass_tokens-walk.ensures.current (c.in_ok-behind.ensures.same ∙ c.places.invariant.same)
