use Rattle.std.proofs.Common.{◌≡◌, ◌∙◌, ℕ, Option, None, List, reverse, sym, ap, arith, rules}
use Rattle.std.specs.Prelude.{if◌then◌else◌}
use Rattle.std.proofs.lemmas.List.{reverse-reverse, take_all}
use Rattle.std.proofs.lemmas.Slice.Eq.{slice_eq-Decides}
use Rattle.token_classes.specs.Classes.{is_close_brace}
use Rattle.part_walk.specs.declared.bodies.Head.{Head}
use Rattle.part_walk.specs.Places.{Place}
use Rattle.part_walk.proofs.bodies.place_behind.Goals.{in-Some, in_default+else-loop-body-test}
use Rattle.part_walk.proofs.bodies.place_behind.Goals as goal

pub returns : goal.returns
returns c =
    let walk = c.args.walk.now in
    let bodies = c.args.bodies.now in
    let heads : c.match-begins.heads.now ≡ bodies = elim c.match-begins.branch [
      | in-Some w ↦ ap (λ h. h.now) w.heads-is ∙ (slice_eq-Decides (λ a b. search rules) _ _ _ w.eq.ensures).0 w.if-eq.true
      | in_default+else-loop-body-test w ↦ ap (λ h. h.now) w.heads-is ∙ (w.into_bump_slice-heads.ensures ∙ (w.loop-body.invariant ∙ take_all w.loop-body.body-index bodies (omega (arith, w.loop-body-test.false))))
    ] in
    let opened : c.if-is_close_brace.result ≡ (if is_close_brace walk.last.class then walk.last.block else None) = search rules in
    ap (λ (hs : List Head). place_so hs c.if-is_close_brace.result) (heads ∙ sym (reverse-reverse bodies)) ∙ ap (λ o. place_so (reverse (reverse bodies)) o) opened
  where
    place_so : List Head → Option ℕ → Place
    place_so heads opened = record { heads = heads; opened = opened; ended = c.args.walk.now.last.id; declaration = c.args.walk.now.declaration }
