use Rattle.std.proofs.Common.{false, true, arith}
use Rattle.line_state.specs.StoredStates.{layout_in, state_in}
use Rattle.line_walk.proofs.Walking.{next_told, none_told, next_known, next_told_grown, none_told_grown}
use Rattle.line_walk.proofs.LeastBreaks.{never_stuck, stays_on, breaks_on}
use Rattle.line_walk.proofs.walk.least_next.Goals as goal

pub returns-in-Some-clause-next : goal.returns-in-Some-clause-next
returns-in-Some-clause-next c = next_told c.args.line.now (state_in c.args.store.now c.args.state.now) false c.successor.new.store _ c.in_ok-next.ensures.gives c.in-Some.next c.in-Some.is

pub returns-in-Some-clause-known : goal.returns-in-Some-clause-known
returns-in-Some-clause-known c = next_known c.successor.new.store _ c.in_ok-next.ensures.known c.in-Some.next c.in-Some.is

pub returns-in-Some-clause-stay : goal.returns-in-Some-clause-stay
returns-in-Some-clause-stay c =
    stays_on c.args.line.now (layout_in c.args.store.now c.args.state.now) c.args.state.now.cost (state_in c.successor.new.store c.in-Some.next) c.requires.stay
    (next_told c.args.line.now (state_in c.args.store.now c.args.state.now) false c.successor.new.store _ c.in_ok-next.ensures.gives c.in-Some.next c.in-Some.is)

pub successor-requires-2-clause-known : goal.successor-requires-2-clause-known
successor-requires-2-clause-known c = omega (arith, c.requires.known, c.successor.ensures.grown.longer)

pub unreachable-requires : goal.unreachable-requires
unreachable-requires c =
    never_stuck c.args.line.now (layout_in c.args.store.now c.args.state.now) c.requires.stay c.requires.some c.requires.next
    (none_told c.args.line.now (state_in c.args.store.now c.args.state.now) false c.successor.new.store _ c.in_ok-next.ensures.gives c.in_default.is)
    (none_told_grown c.args.line.now c.args.state.now true c.args.store.now c.successor.new.store c.successor-2.new.store c.successor.ensures.grown c.requires.known _ c.in_ok-next-2.ensures.gives c.in_default-2.is)

pub returns-clause-next : goal.returns-clause-next
returns-clause-next c =
    next_told_grown c.args.line.now c.args.state.now true c.args.store.now c.successor.new.store c.successor-2.new.store c.successor.ensures.grown c.requires.known _ c.in_ok-next-2.ensures.gives c.in-Some-2.next c.in-Some-2.is

pub returns-clause-known : goal.returns-clause-known
returns-clause-known c = next_known c.successor-2.new.store _ c.in_ok-next-2.ensures.known c.in-Some-2.next c.in-Some-2.is

pub returns-clause-stay : goal.returns-clause-stay
returns-clause-stay c =
    breaks_on c.args.line.now (layout_in c.args.store.now c.args.state.now) c.args.state.now.cost (state_in c.successor-2.new.store c.in-Some-2.next) c.requires.stay c.requires.some c.requires.next
    (none_told c.args.line.now (state_in c.args.store.now c.args.state.now) false c.successor.new.store _ c.in_ok-next.ensures.gives c.in_default.is)
    (next_told_grown c.args.line.now c.args.state.now true c.args.store.now c.successor.new.store c.successor-2.new.store c.successor.ensures.grown c.requires.known _ c.in_ok-next-2.ensures.gives c.in-Some-2.next c.in-Some-2.is)
