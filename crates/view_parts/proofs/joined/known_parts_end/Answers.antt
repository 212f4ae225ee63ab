use Rattle.std.proofs.Common.{◌≡◌, ◌∙◌, ◌+◌, ◌-◌, ◌<◌, Some, length, get_or, refl, sym, ap, arith}
use Rattle.view_parts.specs.declared.known.KnownEnd.{KnownEnd}
use Rattle.view_parts.specs.declared.known.KnownEnd.TheVariants.{Unknown}
use Rattle.view_parts.specs.Known.{AreKnownRows, row_of}
use Rattle.view_parts.proofs.EndsOfParts.{none_some}
use Rattle.view_parts.proofs.RowParts.{any_known, rows_of, rows_in_view, some_is}
use Rattle.view_parts.proofs.NotedRows.{row_in_view}
use Rattle.view_parts.proofs.Told.{rows_told}
use Rattle.view_parts.proofs.joined.known_parts_end.Goals as goal

pub returns-in_default : goal.returns-in_default
returns-in_default c = record { parts = tt; row = tt; outside = tt; some = tt; inside = tt; told = tt; later = tt; below = tt; always = tt; whole = tt }

pub returns-then-behind-count : goal.returns-then-behind-count
returns-then-behind-count c = record { parts = tt; row = tt; outside = tt; some = tt; inside = tt; told = tt; later = tt; below = tt; always = tt; whole = tt }

pub returns : goal.returns
returns c =
    let arena = c.args.arena.now in
    let view = c.args.view.now in
    let first = c.args.first in
    let id = c.args.id.0 in
    let row = c.in-Some.row in
    let behind = row.seen - 1 - id in
    let increase = c.len-count.ensures.increase in
    let noted : row_of (get_or c.args.known.now id Unknown) ≡ Some row = sym (ap (λ (known : KnownEnd). row_of known) c.get.ensures) ∙ (sym c.row.ensures ∙ c.in-Some.is) in
    let are : AreKnownRows arena id row = rows_of arena id (get_or c.args.known.now id Unknown) row noted (any_known arena c.args.known.now id c.requires.known) in
    let within : first + behind < length view = omega (arith, c.if-behind-count.false, c.len-count.ensures.count, c.requires.here) in
    let is : c.at_near.result.0 ≡ row.seen - 1 = omega (arith, c.if-at_near-last.false) in
    let last : get_or view (first + behind) 0 ≡ row.seen - 1 = c.at_near.ensures 0 ∙ is in
    let far : get_or view (first + behind) 0 ≡ id + behind = omega (arith, last, are.some, are.later) in
    record {
      parts = rows_in_view arena view first id behind row increase within (c.requires.item 0) last refl are;
      row = record { row = row; noted = noted; has = row_in_view view first id behind _ row increase within (c.requires.item 0) far are.some (omega (arith, are.some, are.later)) refl };
      outside = refl;
      some = omega (arith, are.some);
      inside = omega (arith, within, are.some, are.later);
      told = rows_told arena view first id behind row increase within (c.requires.item 0) last refl are;
      later = λ told e. (let same : first + behind + 1 ≡ told = some_is _ told e in omega (arith, same, are.some, are.later));
      below = λ told e. (let same : first + behind + 1 ≡ told = some_is _ told e in omega (arith, same, within));
      always = refl;
      whole = λ e. absurd (none_some _ (sym e));
    }
