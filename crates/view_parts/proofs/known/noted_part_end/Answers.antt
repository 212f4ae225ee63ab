use Rattle.std.proofs.Common.{None, refl, sym, subst}
use Rattle.view_parts.specs.declared.known.KnownEnd.{KnownEnd}
use Rattle.view_parts.specs.Known.{IsKnown}
use Rattle.part_walk.specs.Places.{place_in}
use Rattle.part_walk.proofs.Failed.{no_value}
use Rattle.view_parts.proofs.EndsOfParts.{none_some, same_rows}
use Rattle.view_parts.proofs.Told.{part_told}
use Rattle.view_parts.proofs.known.noted_part_end.Goals as goal

pub recalled-requires : goal.recalled-requires
recalled-requires c = record {
  here = c.requires.here;
  item = c.requires.item;
  known = subst (λ (known : KnownEnd). IsKnown c.args.source.now.arena.now c.args.first.id.0 known) (sym c.get.ensures) (c.requires.known c.args.first.id.0 c.requires.stored);
  spans = c.requires.spans;
}

pub returns-in-Some : goal.returns-in-Some
returns-in-Some c = record { part = c.in-Some.ensures; untold = λ none. refl; known = c.requires.known; rows = same_rows _ _ _ _; spans = c.requires.spans }

pub part_end-requires : goal.part_end-requires
part_end-requires c = record { within = c.requires.within; all = c.requires.all; here = c.requires.here; begins = λ place none. absurd (none_some place none) }

pub returns-in_err-part : goal.returns-in_err-part
returns-in_err-part c =
    let result = c.from_residual.result in
    let err = c.from_residual.ensures.0 in
    record { part = no_value result _ err; untold = no_value result _ err; known = c.requires.known; rows = no_value result _ err; spans = no_value result _ err }

pub note_part-requires : goal.note_part-requires
note_part-requires c =
    let part = c.in_ok-part.ensures in
    record {
      within = c.requires.within;
      item = c.requires.item;
      stored = c.requires.stored;
      some = part.some;
      later = part.later;
      below = part.below;
      ends = part.told;
      known = c.requires.known;
      spans = c.requires.spans;
    }

pub returns-in_err-note_part : goal.returns-in_err-note_part
returns-in_err-note_part c =
    let result = c.from_residual-in_err-note_part.result in
    let err = c.from_residual-in_err-note_part.ensures.0 in
    record { part = no_value result _ err; untold = no_value result _ err; known = c.note_part.ensures.known; rows = no_value result _ err; spans = no_value result _ err }

pub returns : goal.returns
returns c =
    let part = c.in_ok-part.ensures in
    let first = c.args.first.place in
    record {
      part = record {
        end = part.end;
        begun = part.inside;
        place = part.place;
        some = part.some;
        inside = part.within;
        told = λ told is. part_told c.args.source.now.arena.now None (place_in c.in_ok-part.part.inside) c.args.source.now.view.now first c.in_ok-part.part.end told part.some (part.later told is) (part.below told is) (part.told told is);
        later = part.later;
        below = part.below;
        whole = part.whole;
      };
      untold = c.note_part.ensures.untold;
      known = c.note_part.ensures.known;
      rows = c.note_part.ensures.rows;
      spans = c.in_ok-note_part.ensures.spans;
    }
