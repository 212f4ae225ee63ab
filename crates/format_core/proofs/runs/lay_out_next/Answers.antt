use Rattle.std.proofs.Common.{◌≡◌, ◌∙◌, ◌+◌, ◌<◌, ◌≤◌, ℕ, Some, None, Option, List, length, refl, sym, ap, subst, arith}
use Rattle.std.specs.Prelude.{IsSome, slice_range}
use Rattle.part_walk.specs.declared.bodies.BodyPlace.{BodyPlace}
use Rattle.part_walk.specs.Places.{place_in}
use Rattle.view_parts.specs.Parts.{laid_items}
use Rattle.replacements.specs.Decisions.{slot_of}
use Rattle.run_parts.specs.Runs.{AreDecided, AreRowsDecided, seen_by}
use Rattle.format_core.specs.PartByPart.{GoesOnFrom}
use Rattle.format_core.specs.RunsTold.{AreItemsTold}
use Rattle.run_parts.specs.Windows.{AreToldIn, place_before}
use Rattle.run_parts.proofs.FirstParts.{stop_at}
use Rattle.format_core.proofs.PartsTold.{from_part}
use Rattle.run_parts.proofs.PlacesStand.{never_none, next_has, none_before, none_stands, rest_have}
use Rattle.format_core.proofs.RowsPassed.{from_row}
use Rattle.format_core.proofs.RowsStay.{place_decided, rows_behind}
use Rattle.run_parts.proofs.SeenInOrder.{seen_increases}
use Rattle.run_parts.proofs.WindowParts.{isnt_told, stop_is, window_increases, window_inside, window_laid, window_part}
use Rattle.run_parts.proofs.WindowParts.{window_row, window_slice}
use Rattle.part_walk.proofs.Failed.{no_value}
use Rattle.format_core.proofs.Failed.{not_done}
use Rattle.format_core.proofs.runs.lay_out_next.Goals as goal
use Rattle.format_core.proofs.runs.lay_out_next.Goals.{else-is_none-via-then-is_none+else-window-len}
use Rattle.format_core.proofs.runs.lay_out_next.Goals.{else-is_none-via-else-is_none}

pub returns-in-Some-clause-on : goal.returns-in-Some-clause-on
returns-in-Some-clause-on c = λ plan before from.
    let style = c.args.context.now.style.now in
    let budget = c.args.context.now.budget in
    let arena = c.args.context.now.arena.now in
    let window = c.args.window.now in
    let seen = seen_by arena window.number in
    let place = place_before arena window.number window.first in
    let first = c.args.way.now.first in
    let end = c.in-Some.parts.end in
    let passed = c.in-Some.ensures in
    let state = c.requires.state in
    let here = c.args.made.now.plan in
    let tally = c.args.made.now.tally in
    let parts = window_row arena window.number window.first window.end window.view None None first end c.in-Some.parts.told c.requires.window passed.some passed.always passed.told in
    let inside : place + end ≤ length seen = omega (arith, window_inside arena window.number window.first window.end window.view c.requires.window, passed.inside) in
    let decided : AreDecided here (slice_range seen (place + first) (place + end)) =
    subst (λ (ids : List ℕ). AreDecided here ids) (sym (window_slice arena window.number window.first window.end window.view first end c.requires.window (omega (arith, passed.some)) passed.inside)) (passed.decided here state.rows) in
    let outside : GoesOnFrom style budget arena window.number plan seen before here None (place + first) tally =
    subst (λ (b : Option BodyPlace). GoesOnFrom style budget arena window.number plan seen before here (place_in b) (place + first) tally) passed.begins from in
    subst (λ k. GoesOnFrom style budget arena window.number plan seen before here (place_in c.pass_row.new.way.inside) (place + k) tally) (sym passed.end)
    (subst (λ (b : Option BodyPlace). GoesOnFrom style budget arena window.number plan seen before here (place_in b) (place + end) tally) (sym (c.pass_row.ensures.place ∙ passed.begins))
    (from_row style budget arena window.number plan seen before tally here (place + first) (stop_at (place + end) None) (seen_increases arena window.number) inside parts decided outside))

pub pass_row-requires : goal.pass_row-requires
pass_row-requires c = record { here = c.requires.here; item = c.requires.item; known = c.requires.state.known }

pub returns-in-Some-clause-state : goal.returns-in-Some-clause-state
returns-in-Some-clause-state c =
    let state = c.requires.state in
    record {
      made_is = state.made_is;
      known = c.pass_row.ensures.known;
      rows = c.pass_row.ensures.rows c.args.made.now.plan state.rows;
      spans = state.spans;
    }

pub returns-in-Some-clause-room : goal.returns-in-Some-clause-room
returns-in-Some-clause-room c = omega arith

pub returns-in-Some-clause-within : goal.returns-in-Some-clause-within
returns-in-Some-clause-within c = omega (arith, c.in-Some.ensures.end, c.in-Some.ensures.inside)

pub returns-in-Some-clause-end : goal.returns-in-Some-clause-end
returns-in-Some-clause-end c = c.in-Some.ensures.end

pub returns-in-Some-clause-inside : goal.returns-in-Some-clause-inside
returns-in-Some-clause-inside c = c.pass_row.ensures.place ∙ (c.in-Some.ensures.begins ∙ sym c.in-Some.ensures.outside)

pub returns-in-Some-clause-none : goal.returns-in-Some-clause-none
returns-in-Some-clause-none c = never_none c.in-Some.parts _

pub returns-in-Some-clause-stays : goal.returns-in-Some-clause-stays
returns-in-Some-clause-stays c = never_none c.in-Some.parts _

pub returns-in-Some-clause-bounds : goal.returns-in-Some-clause-bounds
returns-in-Some-clause-bounds c = refl

pub returns-in-Some-clause-same : goal.returns-in-Some-clause-same
returns-in-Some-clause-same c = c.pass_row.ensures.same

pub known_part_end-requires : goal.known_part_end-requires
known_part_end-requires c = record {
  within = c.requires.within;
  all = c.requires.ready.all;
  here = c.requires.here;
  begins = c.requires.begun.before;
  known = c.pass_row.ensures.known;
  spans = c.requires.state.spans;
}

pub returns-then-window-len-clause-end : goal.returns-then-window-len-clause-end
returns-then-window-len-clause-end c = tt

pub returns-then-window-len-clause-inside : goal.returns-then-window-len-clause-inside
returns-then-window-len-clause-inside c = tt

pub returns-then-window-len-clause-bounds : goal.returns-then-window-len-clause-bounds
returns-then-window-len-clause-bounds c = refl

pub returns-then-window-len-clause-same : goal.returns-then-window-len-clause-same
returns-then-window-len-clause-same c = c.pass_row.ensures.same

pub lay_out_part-requires : goal.lay_out_part-requires
lay_out_part-requires c =
    let state = c.requires.state in
    let part = c.in_ok-part.ensures in
    record {
      ready = c.requires.ready;
      within = c.requires.within;
      some = part.some;
      inside = part.inside;
      item = c.requires.item;
      made = state.made_is;
      begun = c.requires.begun;
      room = omega (arith, c.requires.room, part.inside);
    }

pub pass_part-requires : goal.pass_part-requires
pass_part-requires c = record { known = c.in_ok-part.ensures.known }

pub returns-clause-state : goal.returns-clause-state
returns-clause-state c =
    let arena = c.args.context.now.arena.now in
    let state = c.requires.state in
    let plan = c.lay_out_part.new.made.plan in
    let part = c.in_ok-part.ensures in
    let laid = c.in_ok-lay_out_part.ensures in
    let behind : AreRowsDecided plan c.known_part_end.new.known =
    rows_behind c.args.context.now.style.now c.args.context.now.budget arena c.args.window.now.number c.args.made.now.plan plan c.args.window.now.view (place_in c.args.way.now.inside) c.args.way.now.first c.in_ok-part.part.end c.pass_row.new.known c.known_part_end.new.known
    c.args.made.now.tally c.lay_out_part.new.made.tally state.made_is.whole c.requires.within c.requires.begun.items part.inside part.rows laid.told (c.pass_row.ensures.rows c.args.made.now.plan state.rows) in
    record {
      made_is = laid.made;
      known = c.pass_part.ensures.known;
      rows = c.pass_part.ensures.rows plan behind;
      spans = part.spans;
    }

pub returns-clause-on : goal.returns-clause-on
returns-clause-on c = λ plan before from.
    let style = c.args.context.now.style.now in
    let budget = c.args.context.now.budget in
    let arena = c.args.context.now.arena.now in
    let window = c.args.window.now in
    let seen = seen_by arena window.number in
    let place = place_before arena window.number window.first in
    let begins = place_in c.args.way.now.inside in
    let first = c.args.way.now.first in
    let end = c.in_ok-part.part.end in
    let inside = place_in c.in_ok-part.part.inside in
    let part = c.in_ok-part.ensures in
    let here = c.args.made.now.plan in
    let tally = c.args.made.now.tally in
    let after = c.lay_out_part.new.made.plan in
    let now = c.lay_out_part.new.made.tally in
    let long = window_inside arena window.number window.first window.end window.view c.requires.window in
    let whole : c.in_ok-part.part.told ≡ None → length arena.tokens ≤ window.end =
    λ none. elim c.else-is_none.branch [
      | else-is_none-via-then-is_none+else-window-len w ↦ omega (arith, w.if-window-len.false, w.len.ensures.count)
      | else-is_none-via-else-is_none w ↦ absurd (isnt_told c.in_ok-part.part.told c.is_none.result c.is_none.ensures w.if-is_none.false none)
    ] in
    let told : (t : ℕ) → c.in_ok-part.part.told ≡ Some t → AreToldIn arena window.view begins first end inside t = λ t is. record { tell = part.told t is; later = part.later t is; below = part.below t is } in
    let stop = stop_is arena window.view begins inside first end part.end part.begun in
    let ends = window_part arena window.number window.first window.end window.view begins first (stop_at end inside) c.in_ok-part.part.told c.requires.window part.some part.inside told whole stop in
    let laid : AreItemsTold style budget arena window.number here (laid_items begins seen (place + first) (place + end)) after tally now =
    subst (λ (ids : List ℕ). AreItemsTold style budget arena window.number here ids after tally now)
    (sym (window_laid arena window.number window.first window.end window.view begins first end c.requires.window (omega (arith, part.some)) part.inside)) c.in_ok-lay_out_part.ensures.told in
    let next = from_part style budget arena window.number plan seen before tally now here after begins (place + first) (stop_at (place + end) inside)
    (omega (arith, long, part.some, part.inside)) (omega (arith, part.some)) ends from laid in
    subst (λ k. GoesOnFrom style budget arena window.number plan seen before after (place_in c.pass_part.new.way.inside) (place + k) now) (sym c.pass_part.ensures.end)
    (subst (λ (b : Option BodyPlace). GoesOnFrom style budget arena window.number plan seen before after (place_in b) (place + end) now) (sym c.pass_part.ensures.inside) next)

pub returns-clause-room : goal.returns-clause-room
returns-clause-room c = omega (arith, c.in_ok-lay_out_part.ensures.room, c.pass_part.ensures.end)

pub returns-clause-within : goal.returns-clause-within
returns-clause-within c = omega (arith, c.pass_part.ensures.end, c.in_ok-part.ensures.inside)

pub returns-clause-end : goal.returns-clause-end
returns-clause-end c = c.pass_part.ensures.end

pub returns-clause-inside : goal.returns-clause-inside
returns-clause-inside c = c.pass_part.ensures.inside

pub returns-clause-none : goal.returns-clause-none
returns-clause-none c = never_none c.in_ok-part.part _

pub returns-clause-stays : goal.returns-clause-stays
returns-clause-stays c = never_none c.in_ok-part.part _

pub returns-clause-bounds : goal.returns-clause-bounds
returns-clause-bounds c = refl

pub returns-clause-same : goal.returns-clause-same
returns-clause-same c = c.pass_part.ensures.same ∙ c.pass_row.ensures.same

pub returns-in-Some-clause-begun : goal.returns-in-Some-clause-begun
returns-in-Some-clause-begun c =
    let outside = ap place_in c.in-Some.ensures.outside in
    record {
      before = none_stands (place_in c.in-Some.parts.inside) _ outside;
      items = none_before (λ id. id < length c.args.context.now.arena.now.tokens) (place_in c.in-Some.parts.inside) outside;
      decided = none_before (λ id. IsSome (slot_of c.args.made.now.plan id)) (place_in c.in-Some.parts.inside) outside;
    }

pub returns-in-Some-clause-next : goal.returns-in-Some-clause-next
returns-in-Some-clause-next c =
    let passed = c.in-Some.ensures in
    let arena = c.args.context.now.arena.now in
    let view = c.args.window.now.view in
    let first = c.args.way.now.first in
    let end = c.in-Some.parts.end in
    record {
      some = passed.some;
      told = λ told is.
          subst (λ (b : Option BodyPlace). AreToldIn arena view (place_in b) first end (place_in c.in-Some.parts.inside) told) (sym passed.begins)
          (subst (λ (b : Option BodyPlace). AreToldIn arena view None first end (place_in b) told) (sym passed.outside) (passed.told told is));
      whole = passed.whole;
    }

pub returns-then-window-len-clause-begun : goal.returns-then-window-len-clause-begun
returns-then-window-len-clause-begun c = tt

pub returns-then-window-len-clause-next : goal.returns-then-window-len-clause-next
returns-then-window-len-clause-next c = tt

pub returns-clause-begun : goal.returns-clause-begun
returns-clause-begun c =
    let arena = c.args.context.now.arena.now in
    let window = c.args.window.now in
    let view = window.view in
    let begins = place_in c.args.way.now.inside in
    let first = c.args.way.now.first in
    let part = c.in_ok-part.ensures in
    let inside = place_in c.in_ok-part.part.inside in
    let plan = c.lay_out_part.new.made.plan in
    let begun = c.requires.begun in
    let within = λ (id : ℕ). id < length arena.tokens in
    let increase = window_increases arena window.number window.first window.end view c.requires.window in
    record {
      before = part.place;
      items = next_has within arena view begins inside first increase begun.before begun.items (rest_have within view first c.requires.within) part.begun;
      decided = place_decided c.args.context.now.style.now c.args.context.now.budget arena window.number c.args.made.now.plan plan view begins inside first c.in_ok-part.part.end c.args.made.now.tally c.lay_out_part.new.made.tally
          c.requires.state.made_is.whole increase c.requires.within begun.items begun.before part.inside part.begun part.place c.in_ok-lay_out_part.ensures.told;
    }

pub returns-clause-next : goal.returns-clause-next
returns-clause-next c =
    let part = c.in_ok-part.ensures in
    record {
      some = part.some;
      told = λ told is. record { tell = part.told told is; later = part.later told is; below = part.below told is };
      whole = part.whole;
    }

pub returns-in_err-part : goal.returns-in_err-part
returns-in_err-part c =
    let result = c.from_residual.result in
    let err = c.from_residual.ensures.0 in
    record {
      state = not_done result _ err;
      on = not_done result _ err;
      room = not_done result _ err;
      within = not_done result _ err;
      end = no_value result _ err;
      inside = no_value result _ err;
      begun = no_value result _ err;
      next = no_value result _ err;
      none = no_value result _ err;
      stays = no_value result _ err;
      bounds = not_done result _ err;
      same = not_done result _ err;
    }

pub returns-in_err-lay_out_part : goal.returns-in_err-lay_out_part
returns-in_err-lay_out_part c =
    let result = c.from_residual-in_err-lay_out_part.result in
    let err = c.from_residual-in_err-lay_out_part.ensures.0 in
    record {
      state = not_done result _ err;
      on = not_done result _ err;
      room = not_done result _ err;
      within = not_done result _ err;
      end = no_value result _ err;
      inside = no_value result _ err;
      begun = no_value result _ err;
      next = no_value result _ err;
      none = no_value result _ err;
      stays = no_value result _ err;
      bounds = not_done result _ err;
      same = not_done result _ err;
    }

pub returns-then-window-len-clause-on : goal.returns-then-window-len-clause-on
returns-then-window-len-clause-on c = λ plan before from.
    let style = c.args.context.now.style.now in
    let budget = c.args.context.now.budget in
    let arena = c.args.context.now.arena.now in
    let number = c.args.window.now.number in
    let seen = seen_by arena number in
    let place = place_before arena number c.args.window.now.first in
    let here = c.args.made.now.plan in
    let tally = c.args.made.now.tally in
    let passed = c.pass_row.ensures in
    subst (λ k. GoesOnFrom style budget arena number plan seen before here (place_in c.pass_row.new.way.inside) (place + k) tally) (sym (passed.stays c.in_default.is))
    (subst (λ (b : Option BodyPlace). GoesOnFrom style budget arena number plan seen before here (place_in b) (place + c.args.way.now.first) tally) (sym passed.place) from)

pub returns-then-window-len-clause-room : goal.returns-then-window-len-clause-room
returns-then-window-len-clause-room c = omega arith

pub returns-then-window-len-clause-within : goal.returns-then-window-len-clause-within
returns-then-window-len-clause-within c = omega (arith, c.pass_row.ensures.stays c.in_default.is, c.requires.here)

pub returns-then-window-len-clause-none : goal.returns-then-window-len-clause-none
returns-then-window-len-clause-none c = λ none. omega (arith, c.if-window-len.true, c.len.ensures.count)

pub returns-then-window-len-clause-stays : goal.returns-then-window-len-clause-stays
returns-then-window-len-clause-stays c = λ none. (c.pass_row.ensures.stays c.in_default.is, c.pass_row.ensures.place, refl)
