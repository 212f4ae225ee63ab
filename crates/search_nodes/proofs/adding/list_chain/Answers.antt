use Rattle.std.proofs.Common.{◌≡◌, ℕ, ◌-◌, arith, suc, inr, refl}
use Rattle.std.proofs.lemmas.Option.{slice_get_past, slice_get_read}
use Rattle.search_nodes.proofs.NodeChains.{IsListedNode, walk_all, walk_on, walk_past, walk_kept, listed_here}
use Rattle.search_nodes.proofs.adding.list_chain.Goals as goal

pub returns-in_default-clause-listed : goal.returns-in_default-clause-listed
returns-in_default-clause-listed c =
    let e : c.back.end ≡ suc (c.back.end - 1) = omega (arith, c.if-end-gt0.true) in
    λ u node at among. walk_past (λ (v : ℕ). IsListedNode c.args.nodes.now c.back.groups.items v) _ _ _ _ _ _ c.back.invariant.0 e (slice_get_past _ _ c.in_default.ensures.lookup.3) u among node at

pub back-preserved : goal.back-preserved
back-preserved c =
    let e : c.back.end ≡ suc (c.back.end - 1) = omega (arith, c.if-end-gt0.true) in
    let more : c.back.left ≡ suc (c.back.left - 1) = omega (arith, c.back-test.true) in (
      walk_on (λ (v : ℕ). IsListedNode c.args.nodes.now c.enter.new.groups.items v) _ _ _ _ _ _ c.in-Some.node.now (walk_kept _ _ _ c.enter.ensures.kept _ _ _ _ c.back.invariant.0) e (slice_get_read _ _ _ c.in-Some.node.now refl c.in-Some.ensures.lookup.3.0 c.in-Some.ensures.lookup.1) _ more
          (listed_here _ _ _ c.in-Some.node.now (slice_get_read _ _ _ c.in-Some.node.now refl c.in-Some.ensures.lookup.3.0 c.in-Some.ensures.lookup.1) c.in_ok-enter.ensures.added),
      (λ i d u h. c.enter.ensures.kept i d u (c.back.invariant.1 i d u h)),
    )

pub returns-else-end-gt0-clause-listed : goal.returns-else-end-gt0-clause-listed
returns-else-end-gt0-clause-listed c = λ u node at among. walk_all (λ (v : ℕ). IsListedNode c.args.nodes.now c.back.groups.items v) _ _ _ _ _ c.back.invariant.0 (inr (omega (arith, c.if-end-gt0.false))) u among node at
