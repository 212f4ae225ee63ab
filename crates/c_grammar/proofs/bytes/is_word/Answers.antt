use Rattle.std.proofs.Common.{◌∙◌}
use Rattle.c_grammar.proofs.WordBytes.{word_is}
use Rattle.c_grammar.proofs.bytes.is_word.Goals as goal

pub returns : goal.returns
returns c = c.is_word_byte.ensures ∙ word_is c.args.byte
