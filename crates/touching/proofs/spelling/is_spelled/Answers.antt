use Rattle.std.proofs.Common.{◌∙◌, sym, ap, drop}
use Rattle.c_chars.specs.Characters.{bytes_of}
use Rattle.c_grammar.specs.Grammar.{is_same}
use Rattle.touching.proofs.Words.{same_short, same_end}
use Rattle.touching.proofs.spelling.is_spelled.Goals as goal

pub returns-in-None : goal.returns-in-None
returns-in-None c =
    sym (same_short c.args.word.now c.loop-byte.byte-index c.loop-byte-test.true)
    ∙ (ap (λ z. is_same (bytes_of z) (drop c.loop-byte.byte-index c.args.word.now)) (sym c.in-None.ensures.none.0) ∙ c.loop-byte.invariant)

pub returns : goal.returns
returns c = c.is_ended.ensures ∙ (sym (same_end (bytes_of c.loop-byte.chars.chars) c.args.word.now c.loop-byte.byte-index c.loop-byte-test.false) ∙ c.loop-byte.invariant)
