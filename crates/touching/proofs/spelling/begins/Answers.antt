use Rattle.std.proofs.Common.{◌∙◌, ◌++◌, sym, ap, drop}
use Rattle.std.specs.Option.{option_to_list}
use Rattle.c_chars.specs.Characters.{bytes_of}
use Rattle.c_grammar.specs.Touch.{is_front}
use Rattle.touching.proofs.Words.{front_differs, front_last, front_end}
use Rattle.touching.proofs.spelling.begins.Goals as goal

pub returns-then-character-byte : goal.returns-then-character-byte
returns-then-character-byte c =
    sym (front_differs c.in-Some.character.byte (bytes_of c.next.new.self.chars ++ option_to_list c.args.right) c.args.word.now c.loop-byte.byte-index c.loop-byte-test.true c.if-character-byte.true)
    ∙ (ap (λ z. is_front (bytes_of z ++ option_to_list c.args.right) (drop c.loop-byte.byte-index c.args.word.now)) (sym c.in-Some.ensures.some.0) ∙ c.loop-byte.invariant)

pub returns-in-None : goal.returns-in-None
returns-in-None c =
    c.follows.ensures
    ∙ (sym (front_last c.args.right c.args.word.now c.loop-byte.byte-index c.loop-byte-test.true)
    ∙ (ap (λ z. is_front (bytes_of z ++ option_to_list c.args.right) (drop c.loop-byte.byte-index c.args.word.now)) (sym c.in-None.ensures.none.0) ∙ c.loop-byte.invariant))

pub returns : goal.returns
returns c = c.is_done.ensures ∙ (sym (front_end (bytes_of c.loop-byte.chars.chars ++ option_to_list c.args.right) c.args.word.now c.loop-byte.byte-index c.loop-byte-test.false) ∙ c.loop-byte.invariant)
