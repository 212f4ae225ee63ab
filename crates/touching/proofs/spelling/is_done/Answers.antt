use Rattle.std.proofs.Common.{◌∙◌, ◌++◌, [], sym, ap}
use Rattle.std.specs.Option.{option_to_list}
use Rattle.c_chars.specs.Characters.{bytes_of}
use Rattle.c_grammar.specs.Touch.{is_front}
use Rattle.touching.proofs.Words.{left_front, left_none}
use Rattle.touching.proofs.spelling.is_done.Goals as goal

pub returns-in-Some : goal.returns-in-Some
returns-in-Some c = sym (left_front c.args.chars.now.chars c.in-Some.field-0 (option_to_list c.args.right) (sym c.peek.ensures ∙ c.in-Some.is))

pub returns-in-Some-right : goal.returns-in-Some-right
returns-in-Some-right c =
    ap (λ z. is_front (option_to_list z) []) (sym c.in-Some-right.is)
    ∙ ap (λ z. is_front (bytes_of z ++ option_to_list c.args.right) []) (sym (left_none c.args.chars.now.chars (sym c.peek.ensures ∙ c.in-None.is)))

pub returns-in-None-right : goal.returns-in-None-right
returns-in-None-right c =
    ap (λ z. is_front (option_to_list z) []) (sym c.in-None-right.is)
    ∙ ap (λ z. is_front (bytes_of z ++ option_to_list c.args.right) []) (sym (left_none c.args.chars.now.chars (sym c.peek.ensures ∙ c.in-None.is)))
