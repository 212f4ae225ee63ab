use Rattle.std.proofs.Common.{◌≡◌, ◌∙◌, ◌<◌, ℕ, Bool, false, List, Option, Some, None, length, refl, subst, sym, ap, arith}
use Rattle.std.specs.Prelude.{All, is_some, slice_range}
use Rattle.std.specs.Bool.{OnTrue}
use Rattle.std.proofs.lemmas.Result.{on_ok_weaker}
use Rattle.line_gaps.specs.OpenGaps.{IsRowDecided}
use Rattle.view_parts.specs.Parts.{items_before, laid_items}
use Rattle.part_walk.specs.declared.bodies.BodyPlace.{BodyPlace}
use Rattle.part_walk.specs.Places.{Place, place_in}
use Rattle.format_core.specs.RunsTold.{AreItemsTold}
use Rattle.run_parts.proofs.Parts.{all_decided_of, laid_decided, laid_have, part_length, part_within}
use Rattle.run_parts.proofs.PlacesStand.{laid_few}
use Rattle.run_parts.proofs.RowsDecided.{own_items, own_segment, row_decided}
use Rattle.format_core.proofs.RunsTold.{items_told_nothing}
use Rattle.format_core.proofs.Failed.{not_done}
use Rattle.format_core.proofs.runs.lay_out_part.Goals as goal

-- outside bodies no place is before a part
no_place : (inside : Option BodyPlace) → is_some inside ≡ false → place_in inside ≡ None
no_place None e = refl
no_place (Some place) e = cc

pub returns-then-is_part_decided-clause-told : goal.returns-then-is_part_decided-clause-told
returns-then-is_part_decided-clause-told c =
    let plan = c.args.made.now.plan in
    items_told_nothing c.args.context.now.style.now c.args.context.now.budget c.args.context.now.arena.now c.args.window.now.number plan (laid_items (place_in c.args.inside) c.args.window.now.view c.args.first c.args.end) c.args.made.now.tally
    (laid_decided plan c.args.window.now.view (place_in c.args.inside) c.args.first c.args.end (all_decided_of plan (items_before (place_in c.args.inside)) c.requires.begun.decided) (c.is_part_decided.ensures.0 c.if-is_part_decided.true))

pub returns-then-is_row_decided-clause-told : goal.returns-then-is_row_decided-clause-told
returns-then-is_row_decided-clause-told c =
    let plan = c.args.made.now.plan in
    let row = c.in-Some.row in
    let all : IsRowDecided plan row.first row.end = subst (λ (b : Bool). OnTrue b (IsRowDecided plan row.first row.end)) c.if-is_row_decided.true c.is_row_decided.ensures.yes in
    items_told_nothing c.args.context.now.style.now c.args.context.now.budget c.args.context.now.arena.now c.args.window.now.number plan (laid_items (place_in c.args.inside) c.args.window.now.view c.args.first c.args.end) c.args.made.now.tally
    (laid_decided plan c.args.window.now.view (place_in c.args.inside) c.args.first c.args.end (all_decided_of plan (items_before (place_in c.args.inside)) c.requires.begun.decided) (row_decided plan row.first row.end (slice_range c.args.window.now.view c.args.first c.args.end) c.in-Some.ensures.items all))

pub from_segments-own-requires : goal.from_segments-own-requires
from_segments-own-requires c = own_segment c.in-Some.row c.in-Some.ensures.some c.in-Some.ensures.before

pub lay_out_items-requires-clause-within : goal.lay_out_items-requires-clause-within
lay_out_items-requires-clause-within c =
    let tokens = length c.args.context.now.arena.now.tokens in
    let own = own_items c.in-Some.row (slice_range c.args.window.now.view c.args.first c.args.end) c.in-Some.ensures.items in
    subst (λ (ids : List ℕ). All (λ id. id < tokens) ids) (sym (c.from_segments-own.ensures.items ∙ own)) (part_within c.args.window.now.view (λ id. id < tokens) c.args.first c.args.end c.requires.within)

pub lay_out_items-requires-2-clause-within : goal.lay_out_items-requires-2-clause-within
lay_out_items-requires-2-clause-within c =
    let tokens = length c.args.context.now.arena.now.tokens in
    subst (λ (ids : List ℕ). All (λ id. id < tokens) ids) (sym c.in_ok-laid.ensures.items)
    (laid_have (λ id. id < tokens) c.args.window.now.view (place_in c.args.inside) c.args.first c.args.end c.requires.begun.items c.requires.within)

pub lay_out_items-requires-2-clause-room : goal.lay_out_items-requires-2-clause-room
lay_out_items-requires-2-clause-room c =
    let few = laid_few (place_in c.args.inside) c.args.window.now.view c.args.first c.args.end c.requires.some c.requires.inside c.requires.begun.before in
    omega (arith, few, ap (λ (ids : List ℕ). length ids) c.in_ok-laid.ensures.items, c.requires.room)

pub returns-clause-told : goal.returns-clause-told
returns-clause-told c =
    on_ok_weaker c.lay_out_items-2.result (λ told.
    subst (λ (ids : List ℕ). AreItemsTold c.args.context.now.style.now c.args.context.now.budget c.args.context.now.arena.now c.args.window.now.number c.args.made.now.plan ids c.lay_out_items-2.new.made.plan c.args.made.now.tally c.lay_out_items-2.new.made.tally)
    c.in_ok-laid.ensures.items told) c.lay_out_items-2.ensures.told

pub returns-clause-room : goal.returns-clause-room
returns-clause-room c =
    let few = laid_few (place_in c.args.inside) c.args.window.now.view c.args.first c.args.end c.requires.some c.requires.inside c.requires.begun.before in
    on_ok_weaker c.lay_out_items-2.result (λ room. omega (arith, room, few, ap (λ (ids : List ℕ). length ids) c.in_ok-laid.ensures.items)) c.lay_out_items-2.ensures.room

pub row_of_part-requires : goal.row_of_part-requires
row_of_part-requires c = record { within = c.requires.within; some = c.requires.some; inside = c.requires.inside; item = c.requires.item }

pub is_part_decided-requires : goal.is_part_decided-requires
is_part_decided-requires c = record { within = c.requires.within; inside = c.requires.inside; whole = c.requires.made.whole }

pub laid_view-requires : goal.laid_view-requires
laid_view-requires c = record { some = c.requires.some; within = c.requires.inside; begins = c.requires.begun.before }

pub lay_out_items-requires-clause-ready : goal.lay_out_items-requires-clause-ready
lay_out_items-requires-clause-ready c = c.requires.ready

pub lay_out_items-requires-clause-made : goal.lay_out_items-requires-clause-made
lay_out_items-requires-clause-made c = c.requires.made

pub lay_out_items-requires-2-clause-ready : goal.lay_out_items-requires-2-clause-ready
lay_out_items-requires-2-clause-ready c = c.requires.ready

pub lay_out_items-requires-2-clause-made : goal.lay_out_items-requires-2-clause-made
lay_out_items-requires-2-clause-made c = c.requires.made

pub returns-then-is_row_decided-clause-made : goal.returns-then-is_row_decided-clause-made
returns-then-is_row_decided-clause-made c = c.requires.made

pub returns-then-is_row_decided-clause-room : goal.returns-then-is_row_decided-clause-room
returns-then-is_row_decided-clause-room c = omega arith

pub returns-then-is_part_decided-clause-made : goal.returns-then-is_part_decided-clause-made
returns-then-is_part_decided-clause-made c = c.requires.made

pub returns-then-is_part_decided-clause-room : goal.returns-then-is_part_decided-clause-room
returns-then-is_part_decided-clause-room c = omega arith

pub returns-then-is_none-clause-made : goal.returns-then-is_none-clause-made
returns-then-is_none-clause-made c = c.lay_out_items.ensures.made

pub returns-clause-made : goal.returns-clause-made
returns-clause-made c = c.lay_out_items-2.ensures.made

pub returns-in_err-laid : goal.returns-in_err-laid
returns-in_err-laid c =
    let result = c.from_residual.result in
    let err = c.from_residual.ensures.0 in
    record { told = not_done result _ err; made = not_done result _ err; room = not_done result _ err }

pub is_row_decided-requires : goal.is_row_decided-requires
is_row_decided-requires c = omega (arith, c.in-Some.ensures.below, c.requires.made.whole)

pub lay_out_items-requires-clause-room : goal.lay_out_items-requires-clause-room
lay_out_items-requires-clause-room c =
    let view = c.args.window.now.view in
    let own = own_items c.in-Some.row (slice_range view c.args.first c.args.end) c.in-Some.ensures.items in
    omega (arith, ap (λ (ids : List ℕ). length ids) (c.from_segments-own.ensures.items ∙ own), part_length view c.args.first c.args.end, c.requires.room, c.requires.some)

pub returns-then-is_none-clause-told : goal.returns-then-is_none-clause-told
returns-then-is_none-clause-told c =
    let context = c.args.context.now in
    let window = c.args.window.now in
    let plan = c.args.made.now.plan in
    let tally = c.args.made.now.tally in
    let after = c.lay_out_items.new.made in
    let own = own_items c.in-Some.row (slice_range window.view c.args.first c.args.end) c.in-Some.ensures.items in
    on_ok_weaker c.lay_out_items.result (λ told.
    subst (λ (begins : Option Place). AreItemsTold context.style.now context.budget context.arena.now window.number plan (laid_items begins window.view c.args.first c.args.end) after.plan tally after.tally)
    (sym (no_place c.args.inside c.if-is_none.ensures))
    (subst (λ (ids : List ℕ). AreItemsTold context.style.now context.budget context.arena.now window.number plan ids after.plan tally after.tally) (c.from_segments-own.ensures.items ∙ own) told)) c.lay_out_items.ensures.told

pub returns-then-is_none-clause-room : goal.returns-then-is_none-clause-room
returns-then-is_none-clause-room c =
    let view = c.args.window.now.view in
    let own = own_items c.in-Some.row (slice_range view c.args.first c.args.end) c.in-Some.ensures.items in
    on_ok_weaker c.lay_out_items.result (λ room. omega (arith, room, ap (λ (ids : List ℕ). length ids) (c.from_segments-own.ensures.items ∙ own), part_length view c.args.first c.args.end, c.requires.some)) c.lay_out_items.ensures.room
