use Rattle.std.proofs.Common.{◌∙◌}
use Rattle.c_chars.specs.Characters.{bytes_of}
use Rattle.c_lexer.proofs.FirstBytes.{pair_at}
use Rattle.c_lexer.proofs.unit.begins_pair.Goals as goal

pub returns : goal.returns
returns c = c.is_pair.ensures ∙ pair_at c.args.dialect (bytes_of c.args.text.now.chars) c.byte_at.result c.byte_at-2.result c.byte_at.ensures c.byte_at-2.ensures
