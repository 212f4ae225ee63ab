use Rattle.std.proofs.Common.{◌+◌, refl, ap, arith, ℕ}
use Rattle.line_state.specs.StoredStates.{layout_in}
use Rattle.break_search.proofs.Reaching.{is_known}
use Rattle.break_search.proofs.Descending.{try_known, try_within, try_cheap, try_some, try_more, try_nowhere, try_dear, try_ends, try_goes}
use Rattle.break_search.proofs.descent.go.Goals as goal

pub successor-requires-clause-known : goal.successor-requires-clause-known
successor-requires-clause-known c = try_known _ c.requires.line.some c.requires.line.short _ _ _ _ _ c.args.breaks c.requires.tries _ c.requires.top

pub successor-requires-clause-some : goal.successor-requires-clause-some
successor-requires-clause-some c = try_some _ c.requires.line.some c.requires.line.short _ _ _ _ _ c.args.breaks c.requires.tries _ c.requires.top

pub successor-requires-clause-next : goal.successor-requires-clause-next
successor-requires-clause-next c = try_more _ c.requires.line.some c.requires.line.short _ _ _ _ _ c.args.breaks c.requires.tries _ c.requires.top

pub successor-requires-clause-cheap : goal.successor-requires-clause-cheap
successor-requires-clause-cheap c = try_cheap _ c.requires.line.some c.requires.line.short _ _ _ _ _ c.args.breaks c.requires.tries _ c.requires.top

pub known_ahead-requires-clause-some : goal.known_ahead-requires-clause-some
known_ahead-requires-clause-some c = try_some _ c.requires.line.some c.requires.line.short _ _ _ _ _ c.args.breaks c.requires.tries _ c.requires.top

pub known_ahead-requires-clause-more : goal.known_ahead-requires-clause-more
known_ahead-requires-clause-more c = try_more _ c.requires.line.some c.requires.line.short _ _ _ _ _ c.args.breaks c.requires.tries _ c.requires.top

pub returns-in_default : goal.returns-in_default
returns-in_default c = rw c.after-trying.ensures (try_nowhere _ c.requires.line.some c.requires.line.short _ _ _ _ _ c.args.breaks c.requires.tries _ c.requires.top _ c.successor.ensures.grown _ c.in_ok-state.ensures.gives c.in_default.is)

pub returns-then-least-trying : goal.returns-then-least-trying
returns-then-least-trying c =
    rw c.after-trying-then-least-trying.ensures (try_dear _ c.requires.line.some c.requires.line.short _ _ _ _ _ c.args.breaks c.requires.tries _ c.requires.top _ c.successor.ensures.grown _ c.in_ok-state.ensures.gives _ c.in-Some.is _ (omega (arith, c.from.ensures, c.known_ahead.ensures (layout_in c.successor.new.store c.in-Some.state) refl refl)) (omega (arith, c.if-least-trying.true)) _ c.min-trying.ensures)

pub overflow_add-own : goal.overflow_add-own
overflow_add-own c =
    let within = try_within _ c.requires.line.some c.requires.line.short _ _ _ _ _ c.args.breaks c.requires.tries _ c.requires.top in
    omega (arith, within, c.requires.budget, c.cells_in.ensures.small)

pub returns-then-state-count : goal.returns-then-state-count
returns-then-state-count c =
    let within = is_known _ _ _ c.in-Some.is c.in_ok-state.ensures.known in
    try_ends _ c.requires.line.some c.requires.line.short _ _ _ _ _ c.args.breaks c.requires.tries _ c.requires.top _ c.successor.ensures.grown _ c.in_ok-state.ensures.gives _ c.in-Some.is within (omega (arith, c.if-least-trying.false)) _ (ap (λ (k : ℕ). c.args.here.now.own + k) c.cells_in.ensures.value) (omega (arith, c.if-own-budget.false)) _ c.in_ok-push.ensures (omega (arith, c.if-state-count.true, c.count.ensures))

pub returns : goal.returns
returns c =
    let within = is_known _ _ _ c.in-Some.is c.in_ok-state.ensures.known in
    try_goes _ c.requires.line.some c.requires.line.short _ _ _ _ _ c.args.breaks c.requires.tries _ c.requires.top _ c.successor.ensures.grown _ c.in_ok-state.ensures.gives _ c.in-Some.is within (omega (arith, c.if-least-trying.false)) _ (ap (λ (k : ℕ). c.args.here.now.own + k) c.cells_in.ensures.value) (omega (arith, c.if-own-budget.false)) _ c.in_ok-push.ensures (λ e. absurd (c.if-state-count.false (omega (arith, e, c.count.ensures))))
