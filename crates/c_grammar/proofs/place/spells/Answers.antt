use Rattle.std.proofs.Common.{◌∙◌, ◌==◌, sym, inl, inr}
use Rattle.std.proofs.lemmas.Bool.{both_ways, cases_Bool, eq-eqb, eqb-true}
use Rattle.c_chars.proofs.Fronts.{none_first, other_first}
use Rattle.c_grammar.proofs.Places.{spelled_yes, spelled_no, spelled_other, word_read}
use Rattle.c_grammar.proofs.place.spells.Goals as goal

pub returns-then-character-byte : goal.returns-then-character-byte
returns-then-character-byte c = λ n i l.
    spelled_other c.args.text.now c.args.word.now n
    (sym c.loop-byte.invariant.0
    ∙ other_first c.args.word.now c.loop-byte.byte-index c.loop-byte-test.true c.loop-byte.rest.chars c.next.new.self.chars c.in-Some.character c.in-Some.ensures.some.0 c.if-character-byte.true)
    i

pub returns-in-None : goal.returns-in-None
returns-in-None c = λ n i l.
    spelled_other c.args.text.now c.args.word.now n
    (sym c.loop-byte.invariant.0 ∙ none_first c.args.word.now c.loop-byte.byte-index c.loop-byte-test.true c.loop-byte.rest.chars c.in-None.ensures.none.0) i

pub returns : goal.returns
returns c = λ n i l.
    let read = word_read c.args.text.now c.loop-byte.rest c.args.word.now c.loop-byte.byte-index c.loop-byte-test.false c.loop-byte.invariant.0 c.loop-byte.invariant.1 in
    elim (cases_Bool (c.at.result == c.at-2.result)) [
      | inl y ↦
          y
          ∙ spelled_yes c.args.text.now c.loop-byte.rest c.args.left.now c.args.word.now n c.requires read.0 read.1
          (sym c.at.ensures ∙ (eqb-true c.at.result c.at-2.result y ∙ c.at-2.ensures)) i l
      | inr m ↦
          m
          ∙ spelled_no c.args.text.now c.loop-byte.rest c.args.left.now c.args.word.now n read.1
          (λ z. both_ways (c.at.result == c.at-2.result) m (eq-eqb c.at.result c.at-2.result (c.at.ensures ∙ (z ∙ sym c.at-2.ensures)))) i l
    ]
