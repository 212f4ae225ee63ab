use Rattle.std.proofs.Common.{◌≡◌, ◌∙◌, sym, subst}
use Rattle.c_chars.specs.Characters.{bytes_of}
use Rattle.c_chars.specs.Coming.{behind}
use Rattle.c_lexer.specs.Quote.{closes_quote, quote_len}
use Rattle.c_lexer.proofs.Passing.{quote_next}
use Rattle.c_lexer.proofs.quote.behind_quote.Goals as goal

pub loop-character-preserved : goal.loop-character-preserved
loop-character-preserved c =
    let step = quote_next c.args.quote c.loop-character.escaped c.loop-character.rest c.next_of_line.new.chars c.in-Some.character c.in-Some.ensures.some.0 c.in-Some.ensures.some.1 c.next_of_line.ensures.dialect c.in-Some.ensures.some.2
    (sym c.stands_for.ensures ∙ c.if-stands_for.false) in
    let e = c.stands_for-escaped.ensures in
    let passed = c.pass_within_quote-in-Some.ensures in (
      passed.closes
          ∙ (subst (λ b. closes_quote c.args.quote b (bytes_of c.next_of_line.new.chars.chars) ≡ closes_quote c.args.quote c.loop-character.escaped (bytes_of c.loop-character.rest.chars)) (sym e) (sym step.0) ∙ c.loop-character.invariant.0),
      passed.rest
          ∙ (subst (λ b. behind c.next_of_line.new.chars (quote_len c.args.quote b (bytes_of c.next_of_line.new.chars.chars)) ≡ behind c.loop-character.rest (quote_len c.args.quote c.loop-character.escaped (bytes_of c.loop-character.rest.chars))) (sym e) (sym step.1) ∙ c.loop-character.invariant.1),
    )
