use Rattle.std.proofs.Common.{◌≡◌, ◌∙◌, Bool, None, refl, ap}
use Rattle.std.specs.Prelude.{not}
use Rattle.std.proofs.lemmas.Bool.{OnTrue_at}
use Rattle.std.proofs.lemmas.Result.{IfOk-weaker}
use Rattle.view_parts.specs.declared.known.PartsEnd.{PartsEnd}
use Rattle.part_walk.specs.Places.{place_in}
use Rattle.view_parts.specs.Told.{IsEndOfPart}
use Rattle.view_parts.proofs.EndsOfParts.{any_ok, from_outside, none_of, on_ok, part_tells, same_rows}
use Rattle.view_parts.proofs.known.known_part_end.Goals as goal

pub noted_part_end-requires : goal.noted_part_end-requires
noted_part_end-requires c = record {
  within = c.requires.within;
  all = c.requires.all;
  here = c.requires.here;
  item = c.at_near-id.ensures 0;
  stored = OnTrue_at c.if-has_place.true c.has_place.ensures.yes;
  known = c.requires.known;
  spans = c.requires.spans;
}

pub returns-then-has_place : goal.returns-then-has_place
returns-then-has_place c =
    let arena = c.args.source.now.arena.now in
    let view = c.args.source.now.view.now in
    let part = c.noted_part_end.ensures.part in
    let none : c.args.begin.inside ≡ None = none_of c.args.begin.inside (c.is_none.ensures ∙ ap (λ (b : Bool). not b) c.if-is_none.true) in
    let from : (part : PartsEnd) → IsEndOfPart arena None view c.args.begin.first part → IsEndOfPart arena (place_in c.args.begin.inside) view c.args.begin.first part = λ part is. from_outside arena c.args.begin.inside view c.args.begin.first part none is in
    record {
      end = IfOk-weaker c.noted_part_end.result _ _ (λ part is. (from part is).end) part;
      begun = IfOk-weaker c.noted_part_end.result _ _ (λ part is. (from part is).begun) part;
      place = IfOk-weaker c.noted_part_end.result _ _ (λ part is. (from part is).place) part;
      some = IfOk-weaker c.noted_part_end.result _ _ (λ part is. (from part is).some) part;
      inside = IfOk-weaker c.noted_part_end.result _ _ (λ part is. (from part is).inside) part;
      told = IfOk-weaker c.noted_part_end.result _ _ (λ part is. (from part is).told) part;
      later = IfOk-weaker c.noted_part_end.result _ _ (λ part is. (from part is).later) part;
      below = IfOk-weaker c.noted_part_end.result _ _ (λ part is. (from part is).below) part;
      whole = IfOk-weaker c.noted_part_end.result _ _ (λ part is. (from part is).whole) part;
      untold = c.noted_part_end.ensures.untold;
      known = c.noted_part_end.ensures.known;
      rows = c.noted_part_end.ensures.rows;
      spans = c.noted_part_end.ensures.spans;
    }

pub part_end-requires : goal.part_end-requires
part_end-requires c = record { within = c.requires.within; all = c.requires.all; here = c.requires.here; begins = c.requires.begins }

pub returns : goal.returns
returns c =
    let part = c.part_end.ensures in
    record {
      end = part.end;
      begun = part.inside;
      place = part.place;
      some = part.some;
      inside = part.within;
      told = part_tells c.part_end.result c.args.source.now.arena.now (place_in c.args.begin.inside) c.args.source.now.view.now c.args.begin.first part.some part.later part.below part.told;
      later = part.later;
      below = part.below;
      whole = part.whole;
      untold = any_ok c.part_end.result _ (λ end none. refl);
      known = c.requires.known;
      rows = any_ok c.part_end.result _ (λ end. same_rows _ _ _ _);
      spans = on_ok c.part_end.result _ c.requires.spans;
    }
