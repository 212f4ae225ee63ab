use Rattle.std.proofs.Common.{◌∙◌, ◌+◌, ◌<◌, arith, length, drop, get_or}
use Rattle.std.proofs.lemmas.List.{drop_more}
use Rattle.c_grammar.specs.Rewritten.{read_alone}
use Rattle.token_arena.proofs.Spellings.{front_none}
use Rattle.token_arena.proofs.directives.spelling.behind_each_byte.Goals as goal

pub returns-in-None : goal.returns-in-None
returns-in-None c =
    let word = c.args.word.now in
    let at = c.loop-byte.byte-index in
    let within : at < length word = omega arith in
    c.loop-byte.invariant.front ∙ front_none (get_or word at 0) (drop at word) (read_alone c.args.dialect c.loop-byte.rest.now) (drop (at + 1) word) (drop_more word at 0 within) c.in-None.ensures
