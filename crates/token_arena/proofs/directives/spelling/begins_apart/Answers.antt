use Rattle.std.proofs.Common.{◌==◌, ◌<◌, arith, sym, ◌∙◌, length, get_or}
use Rattle.std.proofs.lemmas.Bool.{not-true}
use Rattle.std.proofs.lemmas.Bool.Decides.{nat_tests}
use Rattle.token_arena.proofs.Spellings.{apart}
use Rattle.token_arena.proofs.directives.spelling.begins_apart.Goals as goal

pub returns-then-is_plain : goal.returns-then-is_plain
returns-then-is_plain c =
    let some : 0 < length c.args.raw.now = grind (arith, nat_tests, c.is_empty.ensures, c.if-is_empty.false) in
    let more : 0 < length c.args.word.now = grind (arith, nat_tests, c.is_empty-else-is_empty.ensures, c.if-is_empty-2.false) in
    λ other d.
    apart d c.args.raw.now c.args.word.now some more (sym c.is_plain.ensures ∙ c.if-is_plain.true)
    (not-true (get_or c.args.raw.now 0 0 == get_or c.args.word.now 0 0) other)
