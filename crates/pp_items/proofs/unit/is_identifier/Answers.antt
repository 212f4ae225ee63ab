use Rattle.std.proofs.Common.{◌∙◌, ◌<◌, length, sym, subst}
use Rattle.c_grammar.specs.Grammar.{is_letter_unit, is_word_unit}
use Rattle.pp_items.specs.Units.{word_len}
use Rattle.pp_items.proofs.Sequences.{headed_yes, headed_no, headed_short, letter_has}
use Rattle.pp_items.proofs.unit.is_identifier.Goals as goal

pub returns-then-text-len : goal.returns-then-text-len
returns-then-text-len c = sym (headed_short is_letter_unit is_word_unit word_len c.args.text.now letter_has (subst (λ n. length c.args.text.now < n) c.word_len-len.ensures.len c.if-text-len.true))

pub returns-then-is_letter_unit : goal.returns-then-is_letter_unit
returns-then-is_letter_unit c =
    headed_yes is_letter_unit is_word_unit word_len c.args.text.now c.split_at.result.0.now c.split_at.result.1.now c.word_len-len.result c.are_units.result letter_has c.word_len-len.ensures.len
    c.split_at.ensures.front c.split_at.ensures.back (sym c.is_letter_unit.ensures ∙ c.if-is_letter_unit.true) c.are_units.ensures

pub returns-else-is_letter_unit : goal.returns-else-is_letter_unit
returns-else-is_letter_unit c =
    c.if-is_letter_unit.false
    ∙ headed_no is_letter_unit is_word_unit word_len c.args.text.now c.split_at.result.0.now c.word_len-len.result letter_has c.word_len-len.ensures.len c.split_at.ensures.front
    (sym c.is_letter_unit.ensures ∙ c.if-is_letter_unit.false)
