use Rattle.c_grammar.specs.Rewritten.{read_alone}
use Rattle.token_arena.proofs.Spellings.{begins}
use Rattle.token_arena.proofs.directives.spelling.begins_with.Goals as goal

pub returns-in-Some : goal.returns-in-Some
returns-in-Some c = begins c.args.word.now (read_alone c.args.dialect c.args.raw.now) (read_alone c.args.dialect c.in-Some.field-0.now) c.in-Some.ensures
