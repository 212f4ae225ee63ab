use Rattle.std.proofs.Common.{◌∙◌, sym, ap}
use Rattle.c_chars.specs.Characters.{bytes_of}
use Rattle.c_grammar.specs.Grammar.{is_exponent}
use Rattle.touching.specs.Spelling.{spelling}
use Rattle.touching.proofs.Ends.{ends_after, ends_after_none}
use Rattle.touching.proofs.spelling.ends_in_exponent.Goals as goal

pub returns : goal.returns
returns c = ap (λ z. ends_after is_exponent c.loop-character.last (bytes_of z)) (sym c.in_default.ensures.none.0) ∙ (c.loop-character.invariant ∙ ends_after_none is_exponent (spelling c.args.dialect c.args.raw.now))
