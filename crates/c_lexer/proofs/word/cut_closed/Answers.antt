use Rattle.std.proofs.Common.{◌∙◌, ap, refl, sym, false}
use Rattle.c_chars.specs.Characters.{bytes_of}
use Rattle.c_chars.specs.Coming.{behind}
use Rattle.c_lexer.specs.Quote.{closes_quote, quote_len}
use Rattle.c_lexer.proofs.CutOffs.{unclosed_off}
use Rattle.c_lexer.proofs.word.cut_closed.Goals as goal

pub returns-then-closed : goal.returns-then-closed
returns-then-closed c = record {
  closed = ap (λ z. closes_quote c.args.quote false (bytes_of z.chars)) (sym c.behind.ensures) ∙ (sym c.behind_quote-closed.ensures.closed ∙ c.if-closed.true);
  left_is = c.behind_quote-closed.ensures.rest ∙ ap (λ z. behind z (quote_len c.args.quote false (bytes_of z.chars))) c.behind.ensures;
  kind_is = refl;
}

pub returns-else-closed : goal.returns-else-closed
returns-else-closed c =
    unclosed_off c.args.text.now c.behind.result c.args.quote c.args.head c.behind.ensures (sym c.behind_quote-closed.ensures.closed ∙ c.if-closed.false)
