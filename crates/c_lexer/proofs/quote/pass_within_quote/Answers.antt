use Rattle.std.proofs.Common.{◌≡◌, ◌∙◌, Bool, subst, sym}
use Rattle.c_chars.specs.Characters.{bytes_of, is_text_byte}
use Rattle.c_chars.specs.Coming.{behind}
use Rattle.c_lexer.specs.Quote.{closes_quote, quote_len}
use Rattle.c_lexer.proofs.Passing.{passed_quote, fewer_left}
use Rattle.c_lexer.proofs.quote.pass_within_quote.Goals as goal

pub returns-then-is_quote_mark-clause-closes : goal.returns-then-is_quote_mark-clause-closes
returns-then-is_quote_mark-clause-closes c =
    subst (λ (b : Bool). closes_quote c.args.quote b (bytes_of c.pass_text.new.self.chars) ≡ closes_quote c.args.quote b (bytes_of c.args.chars.now.chars)) (sym c.if-not-escaped.true)
    (passed_quote c.args.quote c.args.chars.now c.pass_text.new.self (sym c.is_quote_mark.ensures ∙ c.if-is_quote_mark.true) c.pass_text.ensures).0

pub returns-then-is_quote_mark-clause-rest : goal.returns-then-is_quote_mark-clause-rest
returns-then-is_quote_mark-clause-rest c =
    subst
    (λ (b : Bool). behind c.pass_text.new.self (quote_len c.args.quote b (bytes_of c.pass_text.new.self.chars)) ≡ behind c.args.chars.now (quote_len c.args.quote b (bytes_of c.args.chars.now.chars)))
    (sym c.if-not-escaped.true) (passed_quote c.args.quote c.args.chars.now c.pass_text.new.self (sym c.is_quote_mark.ensures ∙ c.if-is_quote_mark.true) c.pass_text.ensures).1

pub returns-then-is_quote_mark-clause-fewer : goal.returns-then-is_quote_mark-clause-fewer
returns-then-is_quote_mark-clause-fewer c = fewer_left is_text_byte c.args.chars.now c.pass_text.new.self c.pass_text.ensures
