use Rattle.std.proofs.Common.{◌≡◌, ◌∙◌, ◌+◌, ◌-◌, ◌<◌, ◌≤◌, List, Option, get_or, length, sym, ap, subst, arith}
use Rattle.std.specs.Prelude.{IfSome}
use Rattle.std.specs.Option.{ForSome}
use Rattle.branch_runs.specs.Anew.{items_between}
use Rattle.item_classes.proofs.Lists.{few_below}
use Rattle.view_parts.specs.declared.known.PartsEnd.{PartsEnd}
use Rattle.part_walk.specs.declared.bodies.BodyPlace.{BodyPlace}
use Rattle.part_walk.specs.Places.{place_in}
use Rattle.view_parts.specs.Parts.{StandsBefore}
use Rattle.run_parts.specs.Bounds.{AreBounds, BeginTold}
use Rattle.run_parts.specs.declared.bounds.KnownBound.{KnownBound}
use Rattle.format_core.specs.InStep.{AreNext, IsBegun}
use Rattle.format_core.specs.PartByPart.{GoesOnFrom}
use Rattle.replacements.specs.declared.slot.Slot.{Slot}
use Rattle.run_parts.specs.Runs.{seen_by}
use Rattle.run_parts.specs.Windows.{place_before}
use Rattle.run_parts.proofs.Between.{in_order}
use Rattle.run_parts.proofs.PlacesStand.{never_none}
use Rattle.run_parts.proofs.SeenInOrder.{seen_increases}
use Rattle.run_parts.proofs.WindowParts.{seen_item, behind_window, stands_in_seen}
use Rattle.part_walk.proofs.Failed.{no_value}
use Rattle.format_core.proofs.Failed.{not_done}
use Rattle.format_core.proofs.runs.lay_out_window.Goals as goal

pub prove-unreachable-requires : goal.prove-unreachable-requires
prove-unreachable-requires c =
    let view = c.args.window.now.view in
    let items = length c.args.context.now.arena.now.tokens in
    let few : length view ≤ items - 0 = few_below 0 items view c.len-count.ensures.increase c.requires.within in
    omega (arith, few, c.if-prove.true, c.len-count.ensures.count, c.len-items.ensures.count)

pub loop-way-init : goal.loop-way-init
loop-way-init c =
    let arena = c.args.context.now.arena.now in
    let window = c.args.window.now in
    let seen = seen_by arena window.number in
    let place = place_before arena window.number window.first in
    let way = c.args.way.now in
    let made = c.args.made.now in
    let here : place ≡ place + way.first = omega (arith, c.requires.start) in
    record {
      inside = omega (arith, c.requires.start);
      room = omega arith;
      state = c.requires.state;
      begin = λ later short. subst (λ k. BeginTold arena (items_between 0 way.told seen) k (place_in way.inside)) here (c.requires.begin later);
      begun = subst (λ k. IsBegun arena made.plan seen (place_in way.inside) k) here c.requires.begun;
      bounds = c.requires.bounds;
      on = λ plan before from. subst (λ k. GoesOnFrom c.args.context.now.style.now c.args.context.now.budget arena window.number plan seen before made.plan (place_in way.inside) k made.tally) here from;
    }

pub at_near-id-requires : goal.at_near-id-requires
at_near-id-requires c = omega (arith, c.loop-way-test.true, c.len-count.ensures.count)

pub returns-then-id-window : goal.returns-then-id-window
returns-then-id-window c =
    let v = c.loop-way.invariant in
    let arena = c.args.context.now.arena.now in
    let window = c.args.window.now in
    let first = c.loop-way.way.first in
    let here : first < length window.view = omega (arith, c.loop-way-test.true, c.len-count.ensures.count) in
    let item = seen_item arena window.number window.first window.end window.view first c.requires.window here in
    record {
      state = v.state;
      on = v.on;
      room = v.room;
      inside = v.inside;
      bounds = v.bounds;
      begin = tt;
      stopped = tt;
      here = tt;
      begun = v.begun;
      short = tt;
      done = λ none k low high.
          let order = in_order 0 (seen_by arena window.number) (place_before arena window.number window.first + first) k (seen_increases arena window.number) low high in
          omega (arith, item, order, c.at_near-id.ensures 0, c.if-id-window.true);
    }

pub lay_out_next-requires : goal.lay_out_next-requires
lay_out_next-requires c =
    let v = c.loop-way.invariant in
    let arena = c.args.context.now.arena.now in
    let window = c.args.window.now in
    let first = c.loop-way.way.first in
    let here : first < length window.view = omega (arith, c.loop-way-test.true, c.len-count.ensures.count) in
    let item = seen_item arena window.number window.first window.end window.view first c.requires.window here in
    let most : c.len-items.result ≤ 8388608 = c.len-items.ensures.most in
    record {
      ready = c.requires.ready;
      within = c.requires.within;
      window = c.requires.window;
      here = here;
      item = c.at_near-id.ensures;
      begun = record {
        before = subst (λ id. ForSome (place_in c.loop-way.way.inside) (λ place. StandsBefore place id)) item v.begun.before;
        items = v.begun.items;
        decided = v.begun.decided;
      };
      room = omega (arith, v.room, c.requires.room, c.len-count.ensures.count, here, most, c.if-prove.false);
      state = v.state;
    }

pub returns-in_default-clause-on : goal.returns-in_default-clause-on
returns-in_default-clause-on c = λ plan before from. c.in_ok-found.ensures.on plan before (c.loop-way.invariant.on plan before from)

pub returns-in_default-clause-state : goal.returns-in_default-clause-state
returns-in_default-clause-state c = c.in_ok-found.ensures.state

pub returns-in_default-clause-room : goal.returns-in_default-clause-room
returns-in_default-clause-room c = let stays = c.in_ok-found.ensures.stays c.in_default.is in omega (arith, c.in_ok-found.ensures.room, c.loop-way.invariant.room, stays.0)

pub returns-in_default-clause-inside : goal.returns-in_default-clause-inside
returns-in_default-clause-inside c = c.in_ok-found.ensures.within

pub returns-in_default-clause-bounds : goal.returns-in_default-clause-bounds
returns-in_default-clause-bounds c =
    let ids = seen_by c.args.context.now.arena.now c.args.window.now.number in
    subst (λ k. AreBounds c.args.context.now.arena.now ids c.lay_out_next.new.known.bounds.items k) (sym c.in_ok-found.ensures.same)
    (subst (λ (bounds : List KnownBound). AreBounds c.args.context.now.arena.now ids bounds c.loop-way.way.told) (sym c.in_ok-found.ensures.bounds) c.loop-way.invariant.bounds)

pub returns-in_default-clause-begin : goal.returns-in_default-clause-begin
returns-in_default-clause-begin c = λ later.
    let arena = c.args.context.now.arena.now in
    let window = c.args.window.now in
    let seen = seen_by arena window.number in
    let place = place_before arena window.number window.first in
    let first = c.loop-way.way.first in
    let way = c.lay_out_next.new.way in
    let here : first < length window.view = omega (arith, c.loop-way-test.true, c.len-count.ensures.count) in
    let stays = c.in_ok-found.ensures.stays c.in_default.is in
    subst (λ (b : Option BodyPlace). BeginTold arena (items_between 0 way.told seen) (place + way.first) (place_in b)) (sym stays.1)
    (subst (λ k. BeginTold arena (items_between 0 way.told seen) (place + k) (place_in c.loop-way.way.inside)) (sym stays.0)
    (subst (λ k. BeginTold arena (items_between 0 k seen) (place + first) (place_in c.loop-way.way.inside)) (sym c.in_ok-found.ensures.same) (c.loop-way.invariant.begin later here)))

pub returns-in_default-clause-stopped : goal.returns-in_default-clause-stopped
returns-in_default-clause-stopped c = let stays = c.in_ok-found.ensures.stays c.in_default.is in sym (ap (λ k. get_or c.args.window.now.view k 0) stays.0 ∙ c.at_near-id.ensures 0)

pub returns-in_default-clause-here : goal.returns-in_default-clause-here
returns-in_default-clause-here c = let stays = c.in_ok-found.ensures.stays c.in_default.is in omega (arith, stays.0, c.loop-way-test.true, c.len-count.ensures.count)

pub returns-in_default-clause-begun : goal.returns-in_default-clause-begun
returns-in_default-clause-begun c =
    let arena = c.args.context.now.arena.now in
    let window = c.args.window.now in
    let seen = seen_by arena window.number in
    let place = place_before arena window.number window.first in
    let way = c.lay_out_next.new.way in
    let was = c.loop-way.made.plan in
    let stays = c.in_ok-found.ensures.stays c.in_default.is in
    subst (λ (plan : List (Option Slot)). IsBegun arena plan seen (place_in way.inside) (place + way.first)) (sym stays.2)
    (subst (λ (b : Option BodyPlace). IsBegun arena was seen (place_in b) (place + way.first)) (sym stays.1)
    (subst (λ k. IsBegun arena was seen (place_in c.loop-way.way.inside) (place + k)) (sym stays.0) c.loop-way.invariant.begun))

pub returns-in_default-clause-short : goal.returns-in_default-clause-short
returns-in_default-clause-short c = c.in_ok-found.ensures.none c.in_default.is

pub returns-in_default-clause-done : goal.returns-in_default-clause-done
returns-in_default-clause-done c = never_none c.at_near-id.result _

pub note_bound-requires : goal.note_bound-requires
note_bound-requires c =
    let arena = c.args.context.now.arena.now in
    let window = c.args.window.now in
    let first = c.loop-way.way.first in
    let begins = place_in c.loop-way.way.inside in
    let next = c.in_ok-found.ensures in
    let here : first < length window.view = omega (arith, c.loop-way-test.true, c.len-count.ensures.count) in
    let parts = subst (λ (found : Option PartsEnd). IfSome found (AreNext arena window.view begins first)) c.in-Some.is next.next in
    record {
      within = c.requires.within;
      window = c.requires.window;
      some = parts.some;
      told = parts.told;
      whole = parts.whole;
      begin = λ later. subst (λ k. BeginTold arena (items_between 0 k (seen_by arena window.number)) (place_before arena window.number window.first + first) begins) (sym next.same) (c.loop-way.invariant.begin later here);
      bounds =
          subst (λ k. AreBounds arena (seen_by arena window.number) c.lay_out_next.new.known.bounds.items k) (sym next.same)
          (subst (λ (bounds : List KnownBound). AreBounds arena (seen_by arena window.number) bounds c.loop-way.way.told) (sym next.bounds) c.loop-way.invariant.bounds);
    }

pub loop-way-preserved : goal.loop-way-preserved
loop-way-preserved c =
    let arena = c.args.context.now.arena.now in
    let window = c.args.window.now in
    let style = c.args.context.now.style.now in
    let budget = c.args.context.now.budget in
    let seen = seen_by arena window.number in
    let place = place_before arena window.number window.first in
    let v = c.loop-way.invariant in
    let next = c.in_ok-found.ensures in
    let note = c.in_ok-note_bound.ensures in
    let parts = c.in-Some.parts in
    let way = c.lay_out_next.new.way in
    let noted = c.note_bound.new.way in
    let made = c.lay_out_next.new.made in
    let end : way.first ≡ parts.end = subst (λ (found : Option PartsEnd). IfSome found (λ parts. way.first ≡ parts.end)) c.in-Some.is next.end in
    let entered : noted.inside ≡ parts.inside = note.inside ∙ subst (λ (found : Option PartsEnd). IfSome found (λ parts. way.inside ≡ parts.inside)) c.in-Some.is next.inside in
    let placed = subst (λ (found : Option PartsEnd). IfSome found (λ parts. IsBegun arena made.plan window.view (place_in parts.inside) parts.end)) c.in-Some.is next.begun in
    let told = subst (λ (found : Option PartsEnd). IfSome found (AreNext arena window.view (place_in c.loop-way.way.inside) c.loop-way.way.first)) c.in-Some.is next.next in
    let some : c.loop-way.way.first < parts.end = told.some in
    record {
      inside = omega (arith, note.first, next.within);
      room = omega (arith, next.room, v.room, some, end, note.first);
      state = next.state;
      begin = λ later short.
          subst (λ (b : Option BodyPlace). BeginTold arena (items_between 0 noted.told seen) (place + noted.first) (place_in b)) (sym entered)
          (subst (λ k. BeginTold arena (items_between 0 noted.told seen) (place + k) (place_in parts.inside)) (sym (note.first ∙ end)) (note.begin later (omega (arith, short, note.first, end))));
      begun =
          subst (λ (b : Option BodyPlace). IsBegun arena made.plan seen (place_in b) (place + noted.first)) (sym entered)
          (subst (λ k. IsBegun arena made.plan seen (place_in parts.inside) (place + k)) (sym (note.first ∙ end)) (record {
            before = stands_in_seen arena window.number window.first window.end window.view (place_in parts.inside) parts.end c.requires.window placed.before;
            items = placed.items;
            decided = placed.decided;
          }));
      bounds = note.bounds;
      on = λ plan before from.
          subst (λ (b : Option BodyPlace). GoesOnFrom style budget arena window.number plan seen before made.plan (place_in b) (place + noted.first) made.tally) (sym note.inside)
          (subst (λ k. GoesOnFrom style budget arena window.number plan seen before made.plan (place_in way.inside) (place + k) made.tally) (sym note.first) (next.on plan before (v.on plan before from)));
    }

pub returns : goal.returns
returns c =
    let v = c.loop-way.invariant in
    let arena = c.args.context.now.arena.now in
    let window = c.args.window.now in
    let place = place_before arena window.number window.first in
    record {
      state = v.state;
      on = v.on;
      room = v.room;
      inside = v.inside;
      bounds = v.bounds;
      begin = tt;
      stopped = tt;
      here = tt;
      begun = v.begun;
      short = tt;
      done = λ none k low high.
          let past : place + length window.view ≤ k = omega (arith, low, c.loop-way-test.false, c.len-count.ensures.count) in
          let behind = behind_window arena window.number window.first window.end window.view k c.requires.window past high in
          omega (arith, behind, c.requires.new);
    }

pub returns-in_err-found : goal.returns-in_err-found
returns-in_err-found c =
    let result = c.from_residual.result in
    let err = c.from_residual.ensures.0 in
    record {
      state = not_done result _ err;
      on = not_done result _ err;
      room = not_done result _ err;
      inside = not_done result _ err;
      bounds = not_done result _ err;
      begin = no_value result _ err;
      stopped = no_value result _ err;
      here = no_value result _ err;
      begun = not_done result _ err;
      short = no_value result _ err;
      done = no_value result _ err;
    }

pub returns-in_err-note_bound : goal.returns-in_err-note_bound
returns-in_err-note_bound c =
    let result = c.from_residual-in_err-note_bound.result in
    let err = c.from_residual-in_err-note_bound.ensures.0 in
    record {
      state = not_done result _ err;
      on = not_done result _ err;
      room = not_done result _ err;
      inside = not_done result _ err;
      bounds = not_done result _ err;
      begin = no_value result _ err;
      stopped = no_value result _ err;
      here = no_value result _ err;
      begun = not_done result _ err;
      short = no_value result _ err;
      done = no_value result _ err;
    }
