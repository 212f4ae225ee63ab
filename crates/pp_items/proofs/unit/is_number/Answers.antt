use Rattle.std.proofs.Common.{◌∙◌, ◌<◌, length, sym, subst}
use Rattle.c_grammar.specs.Grammar.{is_number_head, is_number_unit}
use Rattle.pp_items.specs.Units.{head_len}
use Rattle.pp_items.proofs.Sequences.{headed_yes, headed_no, headed_short, head_has}
use Rattle.pp_items.proofs.unit.is_number.Goals as goal

pub returns-then-text-len : goal.returns-then-text-len
returns-then-text-len c =
    sym (headed_short is_number_head (is_number_unit c.args.dialect) head_len c.args.text.now (head_has c.args.dialect) (subst (λ n. length c.args.text.now < n) c.head_len-len.ensures c.if-text-len.true))

pub returns-then-is_number_head : goal.returns-then-is_number_head
returns-then-is_number_head c =
    headed_yes is_number_head (is_number_unit c.args.dialect) head_len c.args.text.now c.split_at.result.0.now c.split_at.result.1.now c.head_len-len.result c.are_units.result (head_has c.args.dialect) c.head_len-len.ensures
    c.split_at.ensures.front c.split_at.ensures.back (sym c.is_number_head.ensures ∙ c.if-is_number_head.true) c.are_units.ensures

pub returns-else-is_number_head : goal.returns-else-is_number_head
returns-else-is_number_head c =
    c.if-is_number_head.false
    ∙ headed_no is_number_head (is_number_unit c.args.dialect) head_len c.args.text.now c.split_at.result.0.now c.head_len-len.result (head_has c.args.dialect) c.head_len-len.ensures c.split_at.ensures.front
    (sym c.is_number_head.ensures ∙ c.if-is_number_head.false)
