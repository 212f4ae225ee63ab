use Rattle.std.proofs.Common.{◌∙◌, ◌<◌, ℕ, List, false, length, get_or, refl, sym, ap, arith}
use Rattle.replacements.specs.declared.slot.Slot.{Slot}
use Rattle.replacements.specs.Decisions.{decided_all}
use Rattle.run_parts.specs.KeptGaps.{column_through}
use Rattle.run_parts.proofs.GapsKept.{none_kept, next_kept}
use Rattle.run_parts.proofs.kept.keep_gaps.Goals as goal

pub returns-then-not-some_marked-clause-plan : goal.returns-then-not-some_marked-clause-plan
returns-then-not-some_marked-clause-plan c =
    let none = none_kept c.args.style.now c.args.arena.now 0 c.args.view.now c.args.marks.now (sym c.some_marked.ensures ∙ c.if-not-some_marked.true) in
    sym (ap (λ (made : List (ℕ × Slot)). decided_all c.args.plan.now made) none)

pub loop-place-preserved : goal.loop-place-preserved
loop-place-preserved c =
    let style = c.args.style.now in
    let arena = c.args.arena.now in
    let ids = c.args.view.now in
    let marks = c.args.marks.now in
    let k = c.loop-place.place in
    let id = c.at-id.result.0 in
    let within : k < length ids = omega (arith, c.loop-place-test.true, c.len-place-end.ensures.count) in
    let start = c.column_through-start.ensures ∙ ap (λ (gap : List ℕ). column_through style.tab_width c.loop-place.column gap) c.gap.ensures in
    record {
      len = c.keep.ensures.len ∙ c.loop-place.invariant.len;
      rest = next_kept style arena c.loop-place.plan c.keep.new.plan c.loop-place.column c.column_through-start.result c.column_behind-column.result k id ids (get_or marks k false) marks
          within c.requires.count (c.at-id.ensures 0) refl start c.column_behind-column.ensures c.keep.ensures.plan
          ∙ c.loop-place.invariant.rest;
    }
