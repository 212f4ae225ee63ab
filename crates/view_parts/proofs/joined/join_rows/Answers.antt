use Rattle.std.proofs.Common.{◌≡◌, ◌∙◌, List, Some, sym, ap, subst, get_or}
use Rattle.view_parts.specs.declared.known.KnownEnd.{KnownEnd}
use Rattle.view_parts.specs.declared.known.KnownEnd.TheVariants.{Unknown}
use Rattle.view_parts.specs.Known.{AreKnown, joined}
use Rattle.view_parts.proofs.RowParts.{joined_known, joined_stands}
use Rattle.view_parts.proofs.joined.join_rows.Goals as goal

pub returns-in-Some-clause-known : goal.returns-in-Some-clause-known
returns-in-Some-clause-known c =
    let knowns = c.args.known.now in
    let next = c.args.next.0 in
    let first = c.args.first.0 in
    let is : joined (get_or knowns first Unknown) next (get_or knowns next Unknown) ≡ Some c.in-Some.row = sym (ap (λ (first : KnownEnd). joined first next c.get-2.result) c.get.ensures ∙ ap (λ (later : KnownEnd). joined (get_or knowns first Unknown) next later) c.get-2.ensures) ∙ (sym c.joined.ensures ∙ c.in-Some.is) in
    let stands = joined_stands knowns c.replace.new.self first next c.in-Some.row c.replace.result is c.replace.ensures.yes c.replace.ensures.none in
    subst (λ (ends : List KnownEnd). AreKnown c.args.arena.now ends) (sym stands) (joined_known c.args.arena.now knowns first next c.in-Some.row is c.requires)
