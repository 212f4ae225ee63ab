use Rattle.std.proofs.Common.{◌≡◌, ◌-◌, arith, suc}
use Rattle.frame_store.proofs.Sharing.{walked_on, walked_all, walked_past}
use Rattle.frame_store.proofs.Tests.{on_false_at}
use Rattle.frame_store.proofs.store.find_on_chain.Goals as goal

pub returns-in_default-clause-none : goal.returns-in_default-clause-none
returns-in_default-clause-none c =
    let e : c.back.end ≡ suc (c.back.end - 1) = omega (arith, c.back-test.true) in
    walked_past _ _ _ _ _ _ _ c.back.invariant _ e c.in_default.ensures.none

pub back-preserved : goal.back-preserved
back-preserved c =
    let e : c.back.end ≡ suc (c.back.end - 1) = omega (arith, c.back-test.true) in
    rw c.min-end.ensures (walked_on _ _ _ _ _ _ _ c.back.invariant _ c.in-Some.link.now e c.in-Some.ensures.some (on_false_at _ _ c.if-tells.false c.tells.ensures.no))

pub returns-clause-none : goal.returns-clause-none
returns-clause-none c = walked_all _ _ _ _ _ _ _ c.back.invariant c.back-test.false
