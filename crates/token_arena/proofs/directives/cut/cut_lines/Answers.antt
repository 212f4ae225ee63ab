use Rattle.std.proofs.Common.{arith, ◌≡◌, ◌∙◌, ◌≤◌, ◌+◌, ◌++◌, ◌∷◌, [], ap, refl, sym, length, drop}
use Rattle.std.specs.List.{slice_range}
use Rattle.token_arena.specs.declared.directives.Section.TheVariants.{Dir}
use Rattle.token_arena.specs.Sections.{sections_from, lines_of}
use Rattle.token_arena.proofs.Hashes.{ahead_numbers, ahead_text, ahead_within, all_numbers, from_number, none_last, pushed_last, text_left}
use Rattle.token_arena.proofs.LinesOf.{with_text, range_long, text_line, directive_line, after_directive, pushed_text, pushed_none}
use Rattle.token_arena.proofs.directives.cut.cut_lines.Goals as goal
use Rattle.token_arena.proofs.directives.cut.cut_lines.Goals.{then-from-start+in_ok-push, else-from-start, then-from-count+in_ok-push-3, else-from-count}

pub loop-hashes-init : goal.loop-hashes-init
loop-hashes-init c = record {
  order = omega arith;
  within = omega arith;
  same = rw c.in_ok-done.ensures.items refl;
  left = all_numbers c.args.arena.now.tokens ∙ ap (from_number 0) (sym c.hashes-hashes.ensures);
}

pub line_start-start-requires-clause-within : goal.line_start-start-requires-clause-within
line_start-start-requires-clause-within c =
    let v = c.loop-hashes.invariant in
    ahead_within c.args.arena.now.tokens c.loop-hashes.at c.loop-hashes.hashes.now v.within v.left c.in-len1-up.len_at_least c.if-hash-at.false

pub line_end-at-requires : goal.line_end-at-requires
line_end-at-requires c =
    let v = c.loop-hashes.invariant in
    let within = ahead_within c.args.arena.now.tokens c.loop-hashes.at c.loop-hashes.hashes.now v.within v.left c.in-len1-up.len_at_least c.if-hash-at.false in
    omega (arith, within, c.line_start-start.ensures.most)

pub loop-hashes-preserved : goal.loop-hashes-preserved
loop-hashes-preserved c =
    let v = c.loop-hashes.invariant in
    let arena = c.args.arena.now in
    let start = c.line_start-start.result in
    let end = c.line_end-at.result in
    let line = slice_range arena.tokens start end in
    let long : start + length line ≡ end = range_long arena.tokens start end (omega (arith, c.line_end-at.ensures.behind)) c.line_end-at.ensures.within in
    let order : c.loop-hashes.from ≤ start = omega (arith, v.order, c.line_start-start.ensures.from) in
    let skipped = ahead_text arena.dialect arena.tokens c.loop-hashes.from c.loop-hashes.at start c.loop-hashes.hashes.now v.within v.left c.in-len1-up.len_at_least c.if-hash-at.false c.line_start-start.ensures.from c.line_start-start.ensures.most
    c.line_start-start.ensures.begins v.order in
    let text = text_line arena.dialect arena.tokens line c.loop-hashes.from start end c.line_end-at.ensures.line long c.line_end-at.ensures.behind order c.in_default-directive_in.ensures in
    record {
      order = omega (arith, order, c.line_end-at.ensures.behind);
      within = c.line_end-at.ensures.within;
      same = ap (λ xs. c.loop-hashes.done.items ++ xs) (sym (skipped ∙ text)) ∙ v.same;
      left = ahead_numbers arena.tokens c.loop-hashes.at end c.loop-hashes.hashes.now v.left c.in-len1-up.len_at_least c.if-hash-at.false (omega (arith, c.line_start-start.ensures.from, c.line_end-at.ensures.behind));
    }

pub loop-hashes-preserved-in-Some : goal.loop-hashes-preserved-in-Some
loop-hashes-preserved-in-Some c =
    let v = c.loop-hashes.invariant in
    let arena = c.args.arena.now in
    let start = c.line_start-start.result in
    let end = c.line_end-at.result in
    let line = slice_range arena.tokens start end in
    let long : start + length line ≡ end = range_long arena.tokens start end (omega (arith, c.line_end-at.ensures.behind)) c.line_end-at.ensures.within in
    let order : c.loop-hashes.from ≤ start = omega (arith, v.order, c.line_start-start.ensures.from) in
    let skipped = ahead_text arena.dialect arena.tokens c.loop-hashes.from c.loop-hashes.at start c.loop-hashes.hashes.now v.within v.left c.in-len1-up.len_at_least c.if-hash-at.false c.line_start-start.ensures.from c.line_start-start.ensures.most
    c.line_start-start.ensures.begins v.order in
    let rest = sections_from arena.dialect end (lines_of (drop end arena.tokens)) in
    let dir = c.in-Some.directive in
    let whole = directive_line arena.dialect arena.tokens line c.loop-hashes.from start end dir c.line_end-at.ensures.line long c.in-Some.ensures in
    let text : c.if-from-start.done.items ++ (Dir dir ∷ rest) ≡ c.loop-hashes.done.items ++ with_text c.loop-hashes.from start (Dir dir ∷ rest) =
    elim c.if-from-start.branch [
      | then-from-start+in_ok-push w ↦ rw w.done-is (pushed_text c.loop-hashes.from start c.loop-hashes.done.items w.push.new.self.items dir rest w.if-from-start.true w.in_ok-push.ensures.items)
      | else-from-start w ↦ rw w.done-is (pushed_none c.loop-hashes.from start c.loop-hashes.done.items (Dir dir ∷ rest) order w.if-from-start.false)
    ] in
    record {
      order = omega arith;
      within = c.line_end-at.ensures.within;
      same = after_directive c.if-from-start.done.items c.push-in-Some.new.self.items dir rest end c.in_ok-push-2.ensures.items
          ∙ (text ∙ (sym (ap (λ xs. c.loop-hashes.done.items ++ xs) (skipped ∙ whole)) ∙ v.same));
      left = ahead_numbers arena.tokens c.loop-hashes.at end c.loop-hashes.hashes.now v.left c.in-len1-up.len_at_least c.if-hash-at.false (omega (arith, c.line_start-start.ensures.from, c.line_end-at.ensures.behind));
    }

pub returns : goal.returns
returns c =
    let v = c.loop-hashes.invariant in
    let arena = c.args.arena.now in
    let from = c.loop-hashes.from in
    let count = c.len-count.result in
    let last = text_left arena.dialect arena.tokens from c.loop-hashes.at count c.loop-hashes.hashes.now v.left c.in_default.len_below c.len-count.ensures.count v.within v.order in
    let order : from ≤ count = omega (arith, v.order, v.within, c.len-count.ensures.count) in
    let all : c.if-from-count.done.items ≡ c.loop-hashes.done.items ++ with_text from count [] =
    elim c.if-from-count.branch [
      | then-from-count+in_ok-push-3 w ↦ rw w.done-is (pushed_last from count c.loop-hashes.done.items w.push-then-from-count.new.self.items w.if-from-count.true w.in_ok-push-3.ensures.items)
      | else-from-count w ↦ rw w.done-is (none_last from count c.loop-hashes.done.items order w.if-from-count.false)
    ] in
    c.into_bump_slice.ensures ∙ (all ∙ (sym (ap (λ xs. c.loop-hashes.done.items ++ xs) last) ∙ v.same))
