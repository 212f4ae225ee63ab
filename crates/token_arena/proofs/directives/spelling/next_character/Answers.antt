use Rattle.std.proofs.Common.{◌∙◌, sym}
use Rattle.token_arena.proofs.Spellings.{plain_first}
use Rattle.token_arena.proofs.directives.spelling.next_character.Goals as goal

pub returns-then-is_plain : goal.returns-then-is_plain
returns-then-is_plain c =
    plain_first c.args.dialect c.args.bytes.now c.in-len1-up.len_at_least (sym c.is_plain.ensures ∙ c.if-is_plain.true)
