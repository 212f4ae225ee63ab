use Rattle.std.proofs.Common.{◌≡◌, ◌∙◌, List, [], ap, rules}
use Rattle.view_parts.specs.declared.notes.Note.{Note}
use Rattle.view_parts.specs.Notes.{known_ends}
use Rattle.view_parts.proofs.NoteChains.{no_ends}
use Rattle.view_parts.proofs.notes.KnownEnds.none.Goals as goal

pub returns : goal.returns
returns c =
    let newest = c.in_ok-vec.field-0.items in
    let none : c.new.result.items ≡ [] = search rules in
    ap (λ (them : List Note). known_ends them newest c.args.items) none ∙ no_ends newest c.args.items
