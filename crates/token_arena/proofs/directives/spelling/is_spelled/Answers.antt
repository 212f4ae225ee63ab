use Rattle.std.proofs.Common.{sym}
use Rattle.c_grammar.specs.Rewritten.{read_alone}
use Rattle.token_arena.proofs.Spellings.{word_alone, word_and_more, same_front}
use Rattle.token_arena.proofs.directives.spelling.is_spelled.Goals as goal

pub returns-in-Some-next_character : goal.returns-in-Some-next_character
returns-in-Some-next_character c =
    word_and_more c.args.word.now (read_alone c.args.dialect c.args.raw.now) (read_alone c.args.dialect c.in-Some.rest.now) (read_alone c.args.dialect c.in-Some-next_character.field-0.1.now) c.in-Some-next_character.field-0.0 c.in-Some.ensures c.in-Some-next_character.ensures

pub returns-in-None-next_character : goal.returns-in-None-next_character
returns-in-None-next_character c = word_alone c.args.word.now (read_alone c.args.dialect c.args.raw.now) (read_alone c.args.dialect c.in-Some.rest.now) c.in-Some.ensures c.in-None-next_character.ensures

pub returns-in-None : goal.returns-in-None
returns-in-None c = sym (same_front c.args.word.now (read_alone c.args.dialect c.args.raw.now) c.in-None.ensures)
