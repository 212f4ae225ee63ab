use Rattle.std.proofs.Common.{◌≡◌, ◌∙◌, ◌+◌, ◌<◌, ◌≤◌, ℕ, Option, List, length, get_or, sym, ap, subst, arith}
use Rattle.std.specs.Prelude.{All, IfSome, IsTrue}
use Rattle.line_tokens.specs.declared.TokenId.{TokenId}
use Rattle.branch_runs.specs.declared.mark.Mark.{Mark}
use Rattle.branch_runs.specs.Anew.{items_between}
use Rattle.branch_runs.specs.Reading.{read}
use Rattle.branch_runs.specs.Runs.{need, view_of}
use Rattle.part_walk.specs.declared.bodies.BodyPlace.{BodyPlace}
use Rattle.part_walk.specs.Places.{place_in}
use Rattle.run_parts.specs.Bounds.{AreBounds, BeginTold}
use Rattle.format_core.specs.InStep.{IsBegun}
use Rattle.format_core.specs.PartByPart.{GoesOnFrom}
use Rattle.run_parts.specs.Runs.{seen_by}
use Rattle.format_core.proofs.FromBound.{behind_new, from_bound}
use Rattle.run_parts.proofs.BoundsDecided.{bound_decided, bound_placed}
use Rattle.run_parts.proofs.PlacesStand.{placed_has}
use Rattle.run_parts.proofs.Seen.{seen_within}
use Rattle.run_parts.proofs.SeenInOrder.{seen_increases, seen_few}
use Rattle.run_parts.proofs.Stretches.{front_short, window_fits, next_window}
use Rattle.format_core.proofs.Failed.{not_done}
use Rattle.format_core.proofs.runs.lay_out_seen.Goals as goal

pub loop-window-init : goal.loop-window-init
loop-window-init c =
    let arena = c.args.context.now.arena.now in
    let number = c.args.turn.now.number in
    let bound = c.args.turn.now.bound in
    let increase = seen_increases arena number in
    let seen = seen_by arena number in
    let most : c.len-items.result ≤ 8388608 = c.len-items.ensures.most in
    let placed = bound_placed arena seen bound.item bound.told (place_in bound.inside) increase c.requires.bound.begin in
    record {
      order = omega (arith, c.max-end.ensures);
      new = omega (arith, c.max-end.ensures, c.min.ensures, c.saturating_add.ensures, c.requires.new, c.len-items.ensures.count, most);
      place = front_short bound.item seen increase;
      room = omega arith;
      state = c.requires.state;
      begin = λ later. c.requires.bound.begin;
      begun = record {
        before = placed.before;
        items = placed_has (λ id. id < length arena.tokens) seen 0 (place_in bound.inside) (length (items_between 0 bound.item seen)) (seen_within arena number) placed;
        decided = bound_decided arena c.args.made.now.plan seen bound.item bound.told (place_in bound.inside) increase c.requires.bound.begin c.requires.before;
      };
      bounds = c.requires.bounds;
      on = from_bound c.args.context.now.style.now c.args.context.now.budget arena number c.args.made.now.plan seen c.args.made.now.tally bound.item bound.told (place_in bound.inside) increase c.requires.bound.begin c.requires.before;
    }

pub lay_out_window-requires-clause-begun : goal.lay_out_window-requires-clause-begun
lay_out_window-requires-clause-begun c =
    let arena = c.args.context.now.arena.now in
    let seen = seen_by arena c.args.turn.now.number in
    subst (λ (b : Option BodyPlace). IsBegun arena c.loop-window.made.plan seen (place_in b) (length (items_between 0 c.loop-window.first seen))) (sym c.start-way.ensures.inside) c.loop-window.invariant.begun

pub lay_out_window-requires-clause-room : goal.lay_out_window-requires-clause-room
lay_out_window-requires-clause-room c =
    let most : c.len-items.result ≤ 8388608 = c.len-items.ensures.most in
    omega (arith, most, c.loop-window.invariant.room, c.loop-window.invariant.place, seen_few c.args.context.now.arena.now c.args.turn.now.number, c.requires.room, c.len-items.ensures.count)

pub returns-in_default-clause-told : goal.returns-in_default-clause-told
returns-in_default-clause-told c =
    let arena = c.args.context.now.arena.now in
    let number = c.args.turn.now.number in
    let seen = seen_by arena number in
    let v = c.loop-window.invariant in
    let first = c.loop-window.first in
    let end = c.loop-window.end in
    let laid = c.in_ok-stopped.ensures in
    let is : c.in_ok-view_between.field-0 ≡ items_between first end seen = c.in_ok-view_between.ensures.view ∙ ap (λ (tree : List Mark). items_between first end (view_of (read tree) number)) c.requires.tree.marks in
    let fits = window_fits first end seen (seen_increases arena number) v.order in
    let as_many : length c.in_ok-view_between.field-0 ≡ length (items_between first end seen) = ap (λ (xs : List ℕ). length xs) is in
    let inside : length (items_between 0 first seen) + c.lay_out_window.new.way.first ≤ length seen = omega (arith, fits, as_many, laid.inside) in
    let on : GoesOnFrom c.args.context.now.style.now c.args.context.now.budget arena number c.args.made.now.plan seen c.args.made.now.tally c.loop-window.made.plan (place_in c.start-way.result.inside) (length (items_between 0 first seen)) c.loop-window.made.tally =
    subst (λ (b : Option BodyPlace). GoesOnFrom c.args.context.now.style.now c.args.context.now.budget arena number c.args.made.now.plan seen c.args.made.now.tally c.loop-window.made.plan (place_in b) (length (items_between 0 first seen)) c.loop-window.made.tally)
    (sym c.start-way.ensures.inside) v.on in
    behind_new c.args.context.now.style.now c.args.context.now.budget arena number c.args.made.now.plan seen c.args.made.now.tally c.lay_out_window.new.made.tally c.lay_out_window.new.made.plan
    (place_in c.lay_out_window.new.way.inside) (length (items_between 0 first seen) + c.lay_out_window.new.way.first) c.args.turn.now.new_end inside (laid.done c.in_default.is) c.requires.behind laid.begun.decided laid.begun.before (seen_increases arena number) (laid.on c.args.made.now.plan c.args.made.now.tally on)

pub returns-in_default-clause-room : goal.returns-in_default-clause-room
returns-in_default-clause-room c =
    let arena = c.args.context.now.arena.now in
    let number = c.args.turn.now.number in
    let seen = seen_by arena number in
    let v = c.loop-window.invariant in
    let first = c.loop-window.first in
    let end = c.loop-window.end in
    let laid = c.in_ok-stopped.ensures in
    let is : c.in_ok-view_between.field-0 ≡ items_between first end seen = c.in_ok-view_between.ensures.view ∙ ap (λ (tree : List Mark). items_between first end (view_of (read tree) number)) c.requires.tree.marks in
    let fits = window_fits first end seen (seen_increases arena number) v.order in
    let as_many : length c.in_ok-view_between.field-0 ≡ length (items_between first end seen) = ap (λ (xs : List ℕ). length xs) is in
    let most : c.len-items.result ≤ 8388608 = c.len-items.ensures.most in
    omega (arith, most, c.len-items.ensures.count, seen_few arena number, fits, as_many, laid.inside, laid.room, v.room)

pub overflow_sub-end : goal.overflow_sub-end
overflow_sub-end c =
    let arena = c.args.context.now.arena.now in
    let number = c.args.turn.now.number in
    let seen = seen_by arena number in
    let first = c.loop-window.first in
    let end = c.loop-window.end in
    let laid = c.in_ok-stopped.ensures in
    let is : c.in_ok-view_between.field-0 ≡ items_between first end seen = c.in_ok-view_between.ensures.view ∙ ap (λ (tree : List Mark). items_between first end (view_of (read tree) number)) c.requires.tree.marks in
    let next = next_window first end seen c.in_ok-view_between.field-0 c.lay_out_window.new.way.first c.in-Some.id.0 (seen_increases arena number) c.loop-window.invariant.order is (subst (λ (o : Option TokenId). IfSome o (λ id. id.0 ≡ get_or c.in_ok-view_between.field-0 c.lay_out_window.new.way.first 0)) c.in-Some.is laid.stopped) (subst (λ (o : Option TokenId). IfSome o (λ id. c.lay_out_window.new.way.first < length c.in_ok-view_between.field-0)) c.in-Some.is laid.here) in
    omega (arith, next.before)

pub loop-window-smaller : goal.loop-window-smaller
loop-window-smaller c =
    let arena = c.args.context.now.arena.now in
    let number = c.args.turn.now.number in
    let seen = seen_by arena number in
    let first = c.loop-window.first in
    let end = c.loop-window.end in
    let laid = c.in_ok-stopped.ensures in
    let is : c.in_ok-view_between.field-0 ≡ items_between first end seen = c.in_ok-view_between.ensures.view ∙ ap (λ (tree : List Mark). items_between first end (view_of (read tree) number)) c.requires.tree.marks in
    let next = next_window first end seen c.in_ok-view_between.field-0 c.lay_out_window.new.way.first c.in-Some.id.0 (seen_increases arena number) c.loop-window.invariant.order is (subst (λ (o : Option TokenId). IfSome o (λ id. id.0 ≡ get_or c.in_ok-view_between.field-0 c.lay_out_window.new.way.first 0)) c.in-Some.is laid.stopped) (subst (λ (o : Option TokenId). IfSome o (λ id. c.lay_out_window.new.way.first < length c.in_ok-view_between.field-0)) c.in-Some.is laid.here) in
    let short : end < length arena.tokens = (subst (λ (o : Option TokenId). IfSome o (λ id. end < length arena.tokens)) c.in-Some.is laid.short) in
    omega (arith, next.before, short, c.min-end.ensures, c.len-items.ensures.count)

pub loop-window-preserved : goal.loop-window-preserved
loop-window-preserved c =
    let arena = c.args.context.now.arena.now in
    let number = c.args.turn.now.number in
    let seen = seen_by arena number in
    let v = c.loop-window.invariant in
    let first = c.loop-window.first in
    let end = c.loop-window.end in
    let laid = c.in_ok-stopped.ensures in
    let is : c.in_ok-view_between.field-0 ≡ items_between first end seen = c.in_ok-view_between.ensures.view ∙ ap (λ (tree : List Mark). items_between first end (view_of (read tree) number)) c.requires.tree.marks in
    let next = next_window first end seen c.in_ok-view_between.field-0 c.lay_out_window.new.way.first c.in-Some.id.0 (seen_increases arena number) c.loop-window.invariant.order is (subst (λ (o : Option TokenId). IfSome o (λ id. id.0 ≡ get_or c.in_ok-view_between.field-0 c.lay_out_window.new.way.first 0)) c.in-Some.is laid.stopped) (subst (λ (o : Option TokenId). IfSome o (λ id. c.lay_out_window.new.way.first < length c.in_ok-view_between.field-0)) c.in-Some.is laid.here) in
    let short : end < length arena.tokens = (subst (λ (o : Option TokenId). IfSome o (λ id. end < length arena.tokens)) c.in-Some.is laid.short) in
    let begin : IsTrue c.args.turn.now.later → BeginTold arena (items_between 0 c.lay_out_window.new.way.told seen) (length (items_between 0 first seen) + c.lay_out_window.new.way.first) (place_in c.lay_out_window.new.way.inside) =
    subst (λ (o : Option TokenId). IfSome o (λ id. IsTrue c.args.turn.now.later → BeginTold arena (items_between 0 c.lay_out_window.new.way.told seen) (length (items_between 0 first seen) + c.lay_out_window.new.way.first) (place_in c.lay_out_window.new.way.inside))) c.in-Some.is laid.begin in
    let on : GoesOnFrom c.args.context.now.style.now c.args.context.now.budget arena number c.args.made.now.plan seen c.args.made.now.tally c.loop-window.made.plan (place_in c.start-way.result.inside) (length (items_between 0 first seen)) c.loop-window.made.tally =
    subst (λ (b : Option BodyPlace). GoesOnFrom c.args.context.now.style.now c.args.context.now.budget arena number c.args.made.now.plan seen c.args.made.now.tally c.loop-window.made.plan (place_in b) (length (items_between 0 first seen)) c.loop-window.made.tally)
    (sym c.start-way.ensures.inside) v.on in
    record {
      order = omega (arith, next.before, short, c.min-end.ensures, c.len-items.ensures.count);
      new = omega (arith, v.new, next.before, short, c.min-end.ensures, c.len-items.ensures.count);
      place = front_short c.in-Some.id.0 seen (seen_increases arena number);
      room = omega (arith, v.room, laid.room, next.stands);
      state = laid.state;
      begin = λ later. subst (λ k. BeginTold arena (items_between 0 c.lay_out_window.new.way.told seen) k (place_in c.lay_out_window.new.way.inside)) (sym next.stands) (begin later);
      begun = subst (λ k. IsBegun arena c.lay_out_window.new.made.plan seen (place_in c.lay_out_window.new.way.inside) k) (sym next.stands) laid.begun;
      bounds = laid.bounds;
      on = subst (λ k. GoesOnFrom c.args.context.now.style.now c.args.context.now.budget arena number c.args.made.now.plan seen c.args.made.now.tally c.lay_out_window.new.made.plan (place_in c.lay_out_window.new.way.inside) k c.lay_out_window.new.made.tally) (sym next.stands)
          (laid.on c.args.made.now.plan c.args.made.now.tally on);
    }

pub returns-in_err-view_between : goal.returns-in_err-view_between
returns-in_err-view_between c =
    let result = c.from_residual.result in
    let err = c.from_residual.ensures.0 in
    record {
      told = not_done result _ err;
      room = not_done result _ err;
      state = not_done result _ err;
      bounds = not_done result _ err;
    }

pub returns-in_err-stopped : goal.returns-in_err-stopped
returns-in_err-stopped c =
    let result = c.from_residual-in_err-stopped.result in
    let err = c.from_residual-in_err-stopped.ensures.0 in
    record {
      told = not_done result _ err;
      room = not_done result _ err;
      state = not_done result _ err;
      bounds = not_done result _ err;
    }

pub view_between-requires : goal.view_between-requires
view_between-requires c = omega (arith, c.requires.number, ap (λ (tree : List Mark). need (read tree)) c.requires.tree.marks)

pub lay_out_window-requires-clause-ready : goal.lay_out_window-requires-clause-ready
lay_out_window-requires-clause-ready c = c.requires.ready

pub lay_out_window-requires-clause-within : goal.lay_out_window-requires-clause-within
lay_out_window-requires-clause-within c = subst (λ n. All (λ id. id < n) c.in_ok-view_between.field-0) c.requires.tree.end c.in_ok-view_between.ensures.within

pub lay_out_window-requires-clause-window : goal.lay_out_window-requires-clause-window
lay_out_window-requires-clause-window c = record {
  items = c.in_ok-view_between.ensures.view ∙ ap (λ (tree : List Mark). items_between c.loop-window.first c.loop-window.end (view_of (read tree) c.args.turn.now.number)) c.requires.tree.marks;
  order = c.loop-window.invariant.order;
}

pub lay_out_window-requires-clause-new : goal.lay_out_window-requires-clause-new
lay_out_window-requires-clause-new c = c.loop-window.invariant.new

pub lay_out_window-requires-clause-start : goal.lay_out_window-requires-clause-start
lay_out_window-requires-clause-start c = c.start-way.ensures.first

pub lay_out_window-requires-clause-state : goal.lay_out_window-requires-clause-state
lay_out_window-requires-clause-state c = c.loop-window.invariant.state

pub lay_out_window-requires-clause-begin : goal.lay_out_window-requires-clause-begin
lay_out_window-requires-clause-begin c = λ later.
    let arena = c.args.context.now.arena.now in
    let seen = seen_by arena c.args.turn.now.number in
    let place = length (items_between 0 c.loop-window.first seen) in
    subst (λ (b : Option BodyPlace). BeginTold arena (items_between 0 c.start-way.result.told seen) place (place_in b)) (sym c.start-way.ensures.inside)
    (subst (λ k. BeginTold arena (items_between 0 k seen) place (place_in c.loop-window.inside)) (sym c.start-way.ensures.told) (c.loop-window.invariant.begin later))

pub lay_out_window-requires-clause-bounds : goal.lay_out_window-requires-clause-bounds
lay_out_window-requires-clause-bounds c =
    let arena = c.args.context.now.arena.now in
    subst (λ k. AreBounds arena (seen_by arena c.args.turn.now.number) c.loop-window.known.bounds.items k) (sym c.start-way.ensures.told) c.loop-window.invariant.bounds

pub returns-in_default-clause-state : goal.returns-in_default-clause-state
returns-in_default-clause-state c = c.in_ok-stopped.ensures.state

pub returns-in_default-clause-bounds : goal.returns-in_default-clause-bounds
returns-in_default-clause-bounds c = (c.lay_out_window.new.way.told, c.in_ok-stopped.ensures.bounds)
