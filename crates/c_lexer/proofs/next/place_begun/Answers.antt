use Rattle.c_lexer.proofs.Plains.{begun_first}
use Rattle.c_lexer.proofs.next.place_begun.Goals as goal

pub past_begun-requires-clause-first : goal.past_begun-requires-clause-first
past_begun-requires-clause-first c = begun_first c.args.begun.now.text c.args.begun.now.behind c.args.begun.now.first c.requires.begun
