use Rattle.std.proofs.Common.{◌∙◌, sym, ap}
use Rattle.c_chars.specs.Characters.{bytes_of}
use Rattle.c_chars.specs.Coming.{behind}
use Rattle.c_lexer.specs.Comment.{line_len}
use Rattle.c_lexer.proofs.Passing.{line_begin, line_black, line_white, line_end}
use Rattle.c_lexer.proofs.comment.behind_line.Goals as goal

pub loop-character-preserved-then-not-is_white : goal.loop-character-preserved-then-not-is_white
loop-character-preserved-then-not-is_white c =
    ap (λ k. line_end c.in-Some.character.byte c.pass_within_line-then-not-is_white.new.chars k) c.ahead-kept-then-not-is_white.ensures
    ∙ (line_begin c.in-Some.character.byte c.pass_within_line-then-not-is_white.new.chars ∙ (c.pass_within_line-then-not-is_white.ensures.rest ∙ sym (line_begin c.in-Some.character.byte c.next_of_line.new.chars)))
    ∙ (line_black c.loop-character.last c.loop-character.rest c.next_of_line.new.chars c.loop-character.kept c.in-Some.character c.in-Some.ensures.some.0 c.in-Some.ensures.some.1 c.next_of_line.ensures.dialect c.in-Some.ensures.some.2
    (sym c.is_white.ensures ∙ c.if-not-is_white.true) ∙ c.loop-character.invariant)

pub loop-character-preserved : goal.loop-character-preserved
loop-character-preserved c =
    line_white c.loop-character.last c.loop-character.rest c.next_of_line.new.chars c.loop-character.kept c.in-Some.character c.in-Some.ensures.some.0 c.in-Some.ensures.some.1 c.next_of_line.ensures.dialect c.in-Some.ensures.some.2
    (sym c.is_white.ensures ∙ c.if-not-is_white.false) ∙ c.loop-character.invariant

pub loop-character-init : goal.loop-character-init
loop-character-init c =
    ap (λ k. line_end 47 c.pass_within_line.new.chars k) c.ahead-kept.ensures
    ∙ (line_begin 47 c.pass_within_line.new.chars ∙ (c.pass_within_line.ensures.rest ∙ ap (λ z. behind z (line_len 47 (bytes_of z.chars))) c.ahead-rest.ensures))
