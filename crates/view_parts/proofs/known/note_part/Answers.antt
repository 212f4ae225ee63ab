use Rattle.std.proofs.Common.{◌∙◌, ◌-◌, refl, sym}
use Rattle.std.specs.Prelude.{slice_range}
use Rattle.part_walk.proofs.Failed.{no_value}
use Rattle.view_parts.proofs.EndsOfParts.{ends_outside, none_of, none_some, on_ok, same_rows, set_known, set_rows}
use Rattle.view_parts.proofs.known.note_part.Goals as goal

pub returns-in_default : goal.returns-in_default
returns-in_default c = record { untold = λ none. refl; known = c.requires.known; rows = same_rows _ _ _ _; spans = c.requires.spans }

pub returns-then-is_some : goal.returns-then-is_some
returns-then-is_some c = record { untold = λ none. refl; known = c.requires.known; rows = same_rows _ _ _ _; spans = c.requires.spans }

pub noted_part-requires : goal.noted_part-requires
noted_part-requires c =
    let part = c.args.part.now in
    let first = c.args.first.place in
    record {
      within = c.requires.within;
      told = record {
        item = c.requires.item;
        some = c.requires.some;
        later = c.requires.later _ c.in-Some.is;
        inside = c.requires.below _ c.in-Some.is;
        ends = ends_outside c.args.source.now.arena.now (slice_range c.args.source.now.view.now first c.in-Some.told) (part.end - first) part.inside (none_of part.inside (sym c.is_some.ensures ∙ c.if-is_some.false)) (c.requires.ends _ c.in-Some.is);
      };
      known = c.requires.spans;
    }

pub returns-in_err-noted : goal.returns-in_err-noted
returns-in_err-noted c = record { untold = λ none. refl; known = c.requires.known; rows = same_rows _ _ _ _; spans = no_value c.from_residual.result _ c.from_residual.ensures.0 }

pub returns : goal.returns
returns c =
    let first = c.args.first in
    let known = c.args.known.now in
    let noted = c.in_ok-noted.noted in
    record {
      untold = λ none. absurd (none_some _ (sym none ∙ c.in-Some.is));
      known = set_known c.set.result c.args.source.now.arena.now known c.set.new.self first.id.0 noted c.set.ensures.set c.set.ensures.same c.in_ok-noted.ensures.end c.requires.stored c.requires.known;
      rows = set_rows c.set.result known c.set.new.self c.args.source.now.view.now first.place c.args.part.now.end first.id.0 noted c.set.ensures.set c.set.ensures.same c.requires.stored c.in_ok-noted.ensures.row;
      spans = on_ok c.set.result _ c.in_ok-noted.ensures.known;
    }
