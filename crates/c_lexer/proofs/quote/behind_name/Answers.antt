use Rattle.std.proofs.Common.{◌∙◌, sym}
use Rattle.std.proofs.lemmas.Bool.{ne_eqb}
use Rattle.c_chars.specs.Characters.{bytes_of}
use Rattle.c_lexer.proofs.Passing.{name_done, name_found, name_next}
use Rattle.c_lexer.proofs.quote.behind_name.Goals as goal

pub loop-character-preserved : goal.loop-character-preserved
loop-character-preserved c =
    let step = name_next c.args.last c.loop-character.some c.loop-character.rest c.next_of_line.new.chars c.in-Some.character c.in-Some.ensures.some.0 c.in-Some.ensures.some.1 c.next_of_line.ensures.dialect c.in-Some.ensures.some.2
    (ne_eqb c.in-Some.character.byte c.args.last c.if-character-last.false) in
    (sym step.0 ∙ c.loop-character.invariant.0, sym step.1 ∙ c.loop-character.invariant.1)

pub returns : goal.returns
returns c = sym c.loop-character.invariant.0 ∙ name_done c.args.last c.loop-character.some (bytes_of c.loop-character.rest.chars) c.in_default.ensures.none.0

pub returns-then-some : goal.returns-then-some
returns-then-some c =
    let step = name_found c.args.last c.loop-character.some c.loop-character.rest c.next_of_line.new.chars c.in-Some.character c.in-Some.ensures.some.0 c.in-Some.ensures.some.1 c.next_of_line.ensures.dialect c.in-Some.ensures.some.2 c.if-character-last.true in
    (sym c.loop-character.invariant.0 ∙ (step.0 ∙ c.if-some.true), sym step.1 ∙ c.loop-character.invariant.1)

pub returns-else-some : goal.returns-else-some
returns-else-some c =
    let step = name_found c.args.last c.loop-character.some c.loop-character.rest c.next_of_line.new.chars c.in-Some.character c.in-Some.ensures.some.0 c.in-Some.ensures.some.1 c.next_of_line.ensures.dialect c.in-Some.ensures.some.2 c.if-character-last.true in
    sym c.loop-character.invariant.0 ∙ (step.0 ∙ c.if-some.false)
