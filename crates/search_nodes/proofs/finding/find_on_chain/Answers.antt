use Rattle.std.proofs.lemmas.Bool.{OnFalse_at}
use Rattle.std.proofs.Common.{◌≡◌, ◌-◌, arith, suc, refl}
use Rattle.std.proofs.lemmas.Option.{slice_get_past, slice_get_read}
use Rattle.search_nodes.proofs.ListedNodes.{walked_on, walked_all, walked_past}
use Rattle.search_nodes.proofs.finding.find_on_chain.Goals as goal

pub returns-in_default-clause-none : goal.returns-in_default-clause-none
returns-in_default-clause-none c =
    let e : c.back.end ≡ suc (c.back.end - 1) = omega (arith, c.back-test.true) in
    walked_past _ _ _ _ _ _ c.back.invariant _ e (slice_get_past _ _ c.in_default.ensures.lookup.3)

pub back-preserved : goal.back-preserved
back-preserved c =
    let e : c.back.end ≡ suc (c.back.end - 1) = omega (arith, c.back-test.true) in
    rw c.min-end.ensures (walked_on _ _ _ _ _ _ c.back.invariant _ c.in-Some.link.now e (slice_get_read _ _ _ c.in-Some.link.now refl c.in-Some.ensures.lookup.3.0 c.in-Some.ensures.lookup.1) (OnFalse_at c.if-tells.false c.tells.ensures.no))

pub returns-clause-none : goal.returns-clause-none
returns-clause-none c = walked_all _ _ _ _ _ _ c.back.invariant c.back-test.false
