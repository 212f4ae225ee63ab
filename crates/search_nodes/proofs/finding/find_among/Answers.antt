use Rattle.std.proofs.lemmas.Bool.{OnFalse_at}
use Rattle.std.proofs.Common.{◌≡◌, ℕ, ◌-◌, arith, suc, inr, refl}
use Rattle.std.proofs.lemmas.Option.{slice_get_past, slice_get_read}
use Rattle.search_nodes.specs.Groups.{LacksPlace}
use Rattle.search_nodes.proofs.NodeChains.{walk_all, walk_on, walk_past, lacks_here}
use Rattle.search_nodes.proofs.finding.find_among.Goals as goal

pub returns-in_default-clause-none : goal.returns-in_default-clause-none
returns-in_default-clause-none c =
    let e : c.back.end ≡ suc (c.back.end - 1) = omega (arith, c.if-end-gt0.true) in
    walk_past (λ (v : ℕ). LacksPlace c.args.nodes.now v c.args.state.now) _ _ _ _ _ _ c.back.invariant e (slice_get_past _ _ c.in_default.ensures.lookup.3)

pub back-preserved : goal.back-preserved
back-preserved c =
    let e : c.back.end ≡ suc (c.back.end - 1) = omega (arith, c.if-end-gt0.true) in
    let more : c.back.left ≡ suc (c.back.left - 1) = omega (arith, c.back-test.true) in
    walk_on (λ (v : ℕ). LacksPlace c.args.nodes.now v c.args.state.now) _ _ _ _ _ _ c.in-Some.node.now c.back.invariant e (slice_get_read _ _ _ c.in-Some.node.now refl c.in-Some.ensures.lookup.3.0 c.in-Some.ensures.lookup.1) _ more
    (lacks_here c.args.nodes.now c.args.state.now (c.back.end - 1) c.in-Some.node.now (slice_get_read _ _ _ c.in-Some.node.now refl c.in-Some.ensures.lookup.3.0 c.in-Some.ensures.lookup.1) (OnFalse_at c.if-is_same_place.false c.is_same_place.ensures.no))

pub returns-else-end-gt0-clause-none : goal.returns-else-end-gt0-clause-none
returns-else-end-gt0-clause-none c = walk_all (λ (v : ℕ). LacksPlace c.args.nodes.now v c.args.state.now) _ _ _ _ _ c.back.invariant (inr (omega (arith, c.if-end-gt0.false)))
