use Rattle.std.proofs.Common.{sym, subst}
use Rattle.token_arena.specs.Entries.{told_by}
use Rattle.replacements.specs.declared.gap_text.Decision.{Decision}
use Rattle.replacements.specs.Same.{IsSame}
use Rattle.replacements.proofs.same.has_same_blanks.Goals as goal

pub returns-in-Some : goal.returns-in-Some
returns-in-Some c = λ h style crlf.
    subst (λ (d : Decision). IsSame style crlf c.args.arena.now c.args.at c.args.place d (told_by c.args.token.now)) (sym c.in-Some.ensures)
    (c.are_same_blanks.ensures h style crlf)
