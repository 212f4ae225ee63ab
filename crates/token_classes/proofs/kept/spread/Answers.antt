use Rattle.std.proofs.Common.{◌<◌, ◌∙◌, false, length, nat_lt, arith, sym, ap}
use Rattle.std.proofs.lemmas.List.{get_or_default}
use Rattle.std.proofs.lemmas.List.FromFn.{fill_by_all}
use Rattle.token_classes.specs.Kept.{is_inside}
use Rattle.token_classes.proofs.KeptPlaces.{done_next, left_next, reached_alone, reached_brace, reached_other}
use Rattle.token_classes.proofs.kept.spread.Goals as goal
use Rattle.token_classes.proofs.kept.spread.Goals.{then-is_brace+in-Some, then-is_brace+in_default, else-is_brace}

pub loop-place-preserved : goal.loop-place-preserved
loop-place-preserved c =
    let i = c.loop-place.place in
    let old = c.args.marks.now in
    let partners = c.args.partners.now in
    let within : i < length c.loop-place.marks = omega (arith, c.loop-place-test.true) in
    let here : i < length partners = omega (arith, within, c.loop-place.auto.marks, c.requires) in
    record {
      done = done_next c.loop-place.marks old partners i c.loop-place.end within (c.loop-place.invariant.reached i) c.loop-place.invariant.done;
      left = left_next c.loop-place.marks old i _ c.loop-place.invariant.left;
      reached = λ k. elim c.if-is_brace.branch [
        | then-is_brace+in-Some w ↦
            ap (nat_lt k) (w.end-is ∙ w.max-end.ensures) ∙ reached_brace old partners i c.loop-place.end w.in-Some.partner k (sym (c.loop-place.invariant.left i (omega arith)) ∙ w.if-is_brace.true) (get_or_default partners i _ _ here ∙ sym w.index-partners-place.is ∙ sym w.place.ensures ∙ w.in-Some.is) (c.loop-place.invariant.reached k)
        | then-is_brace+in_default w ↦
            ap (nat_lt k) w.end-is ∙ reached_alone old partners i c.loop-place.end k (sym (c.loop-place.invariant.left i (omega arith)) ∙ w.if-is_brace.true) (get_or_default partners i _ _ here ∙ sym w.index-partners-place.is ∙ sym w.place.ensures ∙ w.in_default.is) (c.loop-place.invariant.reached k)
        | else-is_brace w ↦
            ap (nat_lt k) w.end-is ∙ reached_other old partners i c.loop-place.end k (sym (c.loop-place.invariant.left i (omega arith)) ∙ w.if-is_brace.false) (c.loop-place.invariant.reached k)
      ];
    }

pub returns : goal.returns
returns c = fill_by_all (is_inside c.args.marks.now c.args.partners.now) c.loop-place.marks (length c.args.marks.now) false c.loop-place.auto.marks (λ k h. c.loop-place.invariant.done k (omega (arith, c.loop-place-test.false)))
