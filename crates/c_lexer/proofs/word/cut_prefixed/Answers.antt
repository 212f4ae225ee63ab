use Rattle.std.proofs.Common.{◌≡◌, ◌∙◌, ◌==◌, ◌||◌, ◌&&◌, ◌+◌, not, true, false, drop, sym, subst, inl, inr}
use Rattle.std.specs.Prelude.{codes}
use Rattle.c_chars.specs.Characters.{bytes_of}
use Rattle.c_grammar.specs.Grammar.{is_char_prefix}
use Rattle.c_grammar.specs.Touch.{starts}
use Rattle.c_lexer.proofs.Literals.{prefix_none, prefix_there, prefixed_char, prefixed_none, prefixed_string}
use Rattle.c_lexer.proofs.word.cut_prefixed.Goals.{else-quote-eq39-via-then-quote-eq39+else-begins_constant, else-quote-eq39-via-else-quote-eq39}
use Rattle.c_lexer.proofs.word.cut_prefixed.Goals as goal

pub returns-then-len-eq0 : goal.returns-then-len-eq0
returns-then-len-eq0 c = prefix_none c.args.text.now.dialect (bytes_of c.args.text.now.chars) (sym c.if-len-eq0.true ∙ c.prefix_len-len.ensures.len)

pub returns-then-quote-eq34 : goal.returns-then-quote-eq34
returns-then-quote-eq34 c =
    prefixed_string c.args.text.now c.cut_closed.result c.prefix_len-len.result c.byte_at-quote.result (prefix_there c.args.text.now.dialect (bytes_of c.args.text.now.chars) c.prefix_len-len.result c.prefix_len-len.ensures.len c.if-len-eq0.false)
    c.byte_at-quote.ensures c.if-quote-eq34.true c.cut_closed.ensures

pub returns-then-begins_constant : goal.returns-then-begins_constant
returns-then-begins_constant c =
    prefixed_char c.args.text.now c.cut_closed-then-begins_constant.result c.prefix_len-len.result c.byte_at-quote.result
    (prefix_there c.args.text.now.dialect (bytes_of c.args.text.now.chars) c.prefix_len-len.result c.prefix_len-len.ensures.len c.if-len-eq0.false) c.byte_at-quote.ensures c.if-quote-eq39.true
    (subst (λ d. ((c.prefix_len-len.result == 1 || is_char_prefix d (codes "u8")) && not (starts (λ k. k == 39) (drop (c.prefix_len-len.result + 1) (bytes_of c.args.text.now.chars)))) ≡ true) c.requires
    (sym c.begins_constant.ensures ∙ c.if-begins_constant.true)) c.cut_closed-then-begins_constant.ensures

pub returns : goal.returns
returns c =
    prefixed_none c.args.text.now.dialect (bytes_of c.args.text.now.chars) c.prefix_len-len.result c.byte_at-quote.result
    (prefix_there c.args.text.now.dialect (bytes_of c.args.text.now.chars) c.prefix_len-len.result c.prefix_len-len.ensures.len c.if-len-eq0.false) c.byte_at-quote.ensures c.if-quote-eq34.false
    (elim c.else-quote-eq39.branch [
      | else-quote-eq39-via-then-quote-eq39+else-begins_constant w ↦
          inr (subst (λ d. ((c.prefix_len-len.result == 1 || is_char_prefix d (codes "u8")) && not (starts (λ k. k == 39) (drop (c.prefix_len-len.result + 1) (bytes_of c.args.text.now.chars)))) ≡ false) c.requires
          (sym w.begins_constant.ensures ∙ w.if-begins_constant.false))
      | else-quote-eq39-via-else-quote-eq39 w ↦ inl w.if-quote-eq39.false
    ])
