use Rattle.std.proofs.Common.{◌∙◌, subst, sym}
use Rattle.c_chars.specs.Characters.{is_quiet_byte}
use Rattle.c_chars.specs.Coming.{AreBytesPassed, ArePassed}
use Rattle.c_lexer.proofs.Quiet.{quiet_char, quiet_literal, quiet_string}
use Rattle.c_lexer.proofs.quote.cut_plain_quote.Goals as goal

pub returns-then-quote-eq39-clause-off : goal.returns-then-quote-eq39-clause-off
returns-then-quote-eq39-clause-off c =
    let begun = c.args.begun.now in
    quiet_char begun.text begun.behind c.pass_quiet.new.self c.next_plain.new.self begun.first c.in_ok-second.second c.in_ok-last.last c.requires.begun
    (sym c.is_quote_mark.ensures ∙ c.if-not-is_quote_mark.false) c.if-quote-eq39.true c.in_ok-second.ensures.some c.if-second-eq39.false
    (subst (λ z. ArePassed is_quiet_byte z c.pass_quiet.new.self) c.ahead-left.ensures c.pass_quiet.ensures.passed) c.if-last-quote.false
    (record { chars_are = c.in_ok-last.ensures.some.0; at_is = c.in_ok-last.ensures.some.1; dialect_is = c.next_plain.ensures.dialect; from_is = c.in_ok-last.ensures.plain.0; to_is = c.in_ok-last.ensures.plain.1 })

pub returns-then-quote-eq39-clause-plain : goal.returns-then-quote-eq39-clause-plain
returns-then-quote-eq39-clause-plain c =
    let begun = c.args.begun.now in
    quiet_literal begun.behind c.pass_quiet.new.self c.next_plain.new.self begun.first c.in_ok-last.last (sym c.is_quote_mark.ensures ∙ c.if-not-is_quote_mark.false)
    (subst (λ z. AreBytesPassed is_quiet_byte z c.pass_quiet.new.self) c.ahead-left.ensures c.pass_quiet.ensures.bytes) c.if-last-quote.false
    (record { chars_are = c.in_ok-last.ensures.some.0; at_is = c.in_ok-last.ensures.some.1; dialect_is = c.next_plain.ensures.dialect; from_is = c.in_ok-last.ensures.plain.0; to_is = c.in_ok-last.ensures.plain.1 })

pub returns-else-quote-eq39-clause-off : goal.returns-else-quote-eq39-clause-off
returns-else-quote-eq39-clause-off c =
    let begun = c.args.begun.now in
    quiet_string begun.text begun.behind c.pass_quiet.new.self c.next_plain.new.self begun.first c.in_ok-last.last c.requires.begun (sym c.is_quote_mark.ensures ∙ c.if-not-is_quote_mark.false) c.if-quote-eq39.false
    (subst (λ z. ArePassed is_quiet_byte z c.pass_quiet.new.self) c.ahead-left.ensures c.pass_quiet.ensures.passed) c.if-last-quote.false
    (record { chars_are = c.in_ok-last.ensures.some.0; at_is = c.in_ok-last.ensures.some.1; dialect_is = c.next_plain.ensures.dialect; from_is = c.in_ok-last.ensures.plain.0; to_is = c.in_ok-last.ensures.plain.1 })

pub returns-else-quote-eq39-clause-plain : goal.returns-else-quote-eq39-clause-plain
returns-else-quote-eq39-clause-plain c =
    let begun = c.args.begun.now in
    quiet_literal begun.behind c.pass_quiet.new.self c.next_plain.new.self begun.first c.in_ok-last.last (sym c.is_quote_mark.ensures ∙ c.if-not-is_quote_mark.false)
    (subst (λ z. AreBytesPassed is_quiet_byte z c.pass_quiet.new.self) c.ahead-left.ensures c.pass_quiet.ensures.bytes) c.if-last-quote.false
    (record { chars_are = c.in_ok-last.ensures.some.0; at_is = c.in_ok-last.ensures.some.1; dialect_is = c.next_plain.ensures.dialect; from_is = c.in_ok-last.ensures.plain.0; to_is = c.in_ok-last.ensures.plain.1 })
