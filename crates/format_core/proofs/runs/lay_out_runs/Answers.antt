use Rattle.std.proofs.Common.{◌≡◌, ◌∙◌, ◌+◌, ◌≤◌, ◌-◌, suc, List, length, sym, ap, subst, arith}
use Rattle.branch_runs.specs.declared.mark.Mark.{Mark}
use Rattle.branch_runs.specs.Reading.{read}
use Rattle.branch_runs.specs.Runs.{need}
use Rattle.view_parts.specs.declared.known.KnownSpan.{KnownSpan}
use Rattle.part_walk.specs.Places.{place_in}
use Rattle.run_parts.specs.Bounds.{AreBounds}
use Rattle.run_parts.specs.Runs.{runs_of, seen_by}
use Rattle.format_core.specs.RunsTold.{AreRunsTold}
use Rattle.format_core.specs.InStep.{AreInStep}
use Rattle.run_parts.specs.declared.bounds.KnownBound.{KnownBound}
use Rattle.run_parts.proofs.RunsFew.{runs_few}
use Rattle.format_core.proofs.RunsTold.{runs_begin, run_done, runs_end}
use Rattle.run_parts.proofs.SeenEarlier.{none_seen, behind_change, before_change, run_bounds}
use Rattle.format_core.proofs.SeenBefore.{run_seen, nothing_new_told}
use Rattle.format_core.proofs.Failed.{not_done}
use Rattle.format_core.proofs.runs.lay_out_runs.Goals as goal

pub loop-number-init : goal.loop-number-init
loop-number-init c = record {
  room = omega (arith, c.requires.none);
  state = record {
    made_is = c.requires.made;
    known = c.in_ok-known.ensures.known c.args.context.now.arena.now;
    rows = c.in_ok-known.ensures.rows c.args.made.now.plan;
    spans = c.in_ok-known.ensures.spans c.args.context.now.arena.now;
  };
  bounds = λ later. absurd (omega (arith, later));
  none = λ first. ap (λ (xs : List KnownBound). length xs) c.in_ok-known.ensures.bounds;
  seen = none_seen c.args.context.now.arena.now c.args.made.now.plan;
  on = runs_begin c.args.context.now.style.now c.args.context.now.budget c.args.context.now.arena.now c.args.made.now.plan c.runs-count.result (c.runs-count.result - 0) c.args.made.now.tally (omega arith);
}

pub loop-number-preserved-then-change-eq0 : goal.loop-number-preserved-then-change-eq0
loop-number-preserved-then-change-eq0 c =
    let arena = c.args.context.now.arena.now in
    let number = c.loop-number.number in
    let count = c.runs-count.result in
    let v = c.loop-number.invariant in
    let changed = c.change_of-change.ensures in
    let more : count - number ≡ suc (count - (number + 1)) = omega (arith, c.loop-number-test.true) in
    let here : number ≡ number + 1 - 1 = omega arith in
    let told = nothing_new_told c.args.context.now.style.now c.args.context.now.budget arena c.loop-number.made.plan number c.change_of-change.result.end c.loop-number.made.tally v.seen changed.all changed.behind c.if-change-eq0.true in
    let left =
    run_bounds c.args.context.now.arena.now c.loop-number.number c.loop-number.known.bounds.items c.last_bound-bound.new.bounds.items c.change_of-change.result.first c.last_bound-bound.result.item c.last_bound-bound.result.told (place_in c.last_bound-bound.result.inside) v.bounds v.none changed.before
    c.last_bound-bound.ensures.low (c.last_bound-bound.ensures.bounds c.args.context.now.arena.now) (c.last_bound-bound.ensures.last c.args.context.now.arena.now) in
    record {
      room = omega (arith, v.room);
      state = v.state;
      bounds = λ later. (c.last_bound-bound.result.told, subst (λ r. AreBounds arena (seen_by arena r) c.last_bound-bound.new.bounds.items c.last_bound-bound.result.told) here left.bounds);
      none = λ first. absurd (omega (arith, first));
      seen = run_seen c.args.context.now.style.now c.args.context.now.budget arena c.loop-number.made.plan c.loop-number.made.plan number c.loop-number.made.tally c.loop-number.made.tally v.state.made_is.whole v.seen told;
      on = run_done c.args.context.now.style.now c.args.context.now.budget arena c.args.made.now.plan count c.args.made.now.tally c.loop-number.made.tally c.loop-number.made.tally c.loop-number.made.plan c.loop-number.made.plan number (count - (number + 1)) (count - number) more v.on told;
    }

pub lay_out_seen-requires-clause-room : goal.lay_out_seen-requires-clause-room
lay_out_seen-requires-clause-room c =
    let v = c.loop-number.invariant in
    let all : c.runs-count.result ≡ runs_of c.args.context.now.arena.now = c.runs-count.ensures.need ∙ ap (λ (tree : List Mark). need (read tree)) c.requires.tree.marks in
    let most : c.len-items.result ≤ 8388608 = c.len-items.ensures.most in
    omega (arith, v.room, c.loop-number-test.true, all, runs_few c.args.context.now.arena.now, most, c.len-items.ensures.count)

pub lay_out_seen-requires-clause-state : goal.lay_out_seen-requires-clause-state
lay_out_seen-requires-clause-state c =
    subst (λ (kept : List KnownSpan). AreInStep c.args.context.now.arena.now c.loop-number.made c.loop-number.known.ends kept) (sym c.note_from.ensures.same) c.loop-number.invariant.state

pub lay_out_seen-requires-clause-bound : goal.lay_out_seen-requires-clause-bound
lay_out_seen-requires-clause-bound c =
    let v = c.loop-number.invariant in
    let changed = c.change_of-change.ensures in
    let left =
    run_bounds c.args.context.now.arena.now c.loop-number.number c.loop-number.known.bounds.items c.last_bound-bound.new.bounds.items c.change_of-change.result.first c.last_bound-bound.result.item c.last_bound-bound.result.told (place_in c.last_bound-bound.result.inside) v.bounds v.none changed.before
    c.last_bound-bound.ensures.low (c.last_bound-bound.ensures.bounds c.args.context.now.arena.now) (c.last_bound-bound.ensures.last c.args.context.now.arena.now) in
    left.bound

pub lay_out_seen-requires-clause-bounds : goal.lay_out_seen-requires-clause-bounds
lay_out_seen-requires-clause-bounds c =
    let v = c.loop-number.invariant in
    let changed = c.change_of-change.ensures in
    let left =
    run_bounds c.args.context.now.arena.now c.loop-number.number c.loop-number.known.bounds.items c.last_bound-bound.new.bounds.items c.change_of-change.result.first c.last_bound-bound.result.item c.last_bound-bound.result.told (place_in c.last_bound-bound.result.inside) v.bounds v.none changed.before
    c.last_bound-bound.ensures.low (c.last_bound-bound.ensures.bounds c.args.context.now.arena.now) (c.last_bound-bound.ensures.last c.args.context.now.arena.now) in
    left.bounds

pub lay_out_seen-requires-clause-before : goal.lay_out_seen-requires-clause-before
lay_out_seen-requires-clause-before c =
    let v = c.loop-number.invariant in
    let changed = c.change_of-change.ensures in
    let left =
    run_bounds c.args.context.now.arena.now c.loop-number.number c.loop-number.known.bounds.items c.last_bound-bound.new.bounds.items c.change_of-change.result.first c.last_bound-bound.result.item c.last_bound-bound.result.told (place_in c.last_bound-bound.result.inside) v.bounds v.none changed.before
    c.last_bound-bound.ensures.low (c.last_bound-bound.ensures.bounds c.args.context.now.arena.now) (c.last_bound-bound.ensures.last c.args.context.now.arena.now) in
    λ id early sees.
    before_change c.args.context.now.arena.now c.loop-number.made.plan c.loop-number.number c.change_of-change.result.first v.seen changed.first changed.before id (omega (arith, early, left.bound.order, c.last_bound-bound.ensures.low)) sees

pub lay_out_seen-requires-clause-behind : goal.lay_out_seen-requires-clause-behind
lay_out_seen-requires-clause-behind c =
    let v = c.loop-number.invariant in
    let changed = c.change_of-change.ensures in
    behind_change c.args.context.now.arena.now c.loop-number.made.plan c.loop-number.number c.change_of-change.result.end v.seen changed.all changed.behind

pub loop-number-preserved : goal.loop-number-preserved
loop-number-preserved c =
    let arena = c.args.context.now.arena.now in
    let number = c.loop-number.number in
    let count = c.runs-count.result in
    let v = c.loop-number.invariant in
    let made = c.in_ok-lay_out_seen.ensures in
    let more : count - number ≡ suc (count - (number + 1)) = omega (arith, c.loop-number-test.true) in
    let here : number ≡ number + 1 - 1 = omega arith in
    record {
      room = omega (arith, made.room, v.room);
      state = made.state;
      bounds = λ later. (made.bounds.0, subst (λ r. AreBounds arena (seen_by arena r) c.lay_out_seen.new.known.bounds.items made.bounds.0) here made.bounds.1);
      none = λ first. absurd (omega (arith, first));
      seen = run_seen c.args.context.now.style.now c.args.context.now.budget arena c.loop-number.made.plan c.lay_out_seen.new.made.plan number c.loop-number.made.tally c.lay_out_seen.new.made.tally v.state.made_is.whole v.seen made.told;
      on = run_done c.args.context.now.style.now c.args.context.now.budget arena c.args.made.now.plan count c.args.made.now.tally c.loop-number.made.tally c.lay_out_seen.new.made.tally c.loop-number.made.plan c.lay_out_seen.new.made.plan number (count - (number + 1)) (count - number) more v.on made.told;
    }

pub returns-clause-told : goal.returns-clause-told
returns-clause-told c =
    let number = c.loop-number.number in
    let count = c.runs-count.result in
    let all : count ≡ runs_of c.args.context.now.arena.now = c.runs-count.ensures.need ∙ ap (λ (tree : List Mark). need (read tree)) c.requires.tree.marks in
    subst (λ n. AreRunsTold c.args.context.now.style.now c.args.context.now.budget c.args.context.now.arena.now c.args.made.now.plan 0 n c.loop-number.made.plan c.args.made.now.tally c.loop-number.made.tally) all
    (runs_end c.args.context.now.style.now c.args.context.now.budget c.args.context.now.arena.now c.args.made.now.plan count number (count - number) c.args.made.now.tally c.loop-number.made.tally c.loop-number.made.plan (omega (arith, c.loop-number-test.false)) c.loop-number.invariant.on)

pub returns-clause-made : goal.returns-clause-made
returns-clause-made c = c.loop-number.invariant.state.made_is

pub returns-in_err-known : goal.returns-in_err-known
returns-in_err-known c =
    let result = c.from_residual.result in
    let err = c.from_residual.ensures.0 in
    record { told = not_done result _ err; made = not_done result _ err }

pub returns-in_err-lay_out_seen : goal.returns-in_err-lay_out_seen
returns-in_err-lay_out_seen c =
    let result = c.from_residual-in_err-lay_out_seen.result in
    let err = c.from_residual-in_err-lay_out_seen.ensures.0 in
    record { told = not_done result _ err; made = not_done result _ err }

pub change_of-change-requires : goal.change_of-change-requires
change_of-change-requires c =
    let all : c.runs-count.result ≡ runs_of c.args.context.now.arena.now = c.runs-count.ensures.need ∙ ap (λ (tree : List Mark). need (read tree)) c.requires.tree.marks in
    record { tree = c.requires.tree.marks; number = omega (arith, c.loop-number-test.true, all) }

pub lay_out_seen-requires-clause-ready : goal.lay_out_seen-requires-clause-ready
lay_out_seen-requires-clause-ready c = c.requires.ready

pub lay_out_seen-requires-clause-tree : goal.lay_out_seen-requires-clause-tree
lay_out_seen-requires-clause-tree c = c.requires.tree

pub lay_out_seen-requires-clause-number : goal.lay_out_seen-requires-clause-number
lay_out_seen-requires-clause-number c =
    let all : c.runs-count.result ≡ runs_of c.args.context.now.arena.now = c.runs-count.ensures.need ∙ ap (λ (tree : List Mark). need (read tree)) c.requires.tree.marks in
    omega (arith, c.loop-number-test.true, all)

pub lay_out_seen-requires-clause-new : goal.lay_out_seen-requires-clause-new
lay_out_seen-requires-clause-new c = c.change_of-change.ensures.end
