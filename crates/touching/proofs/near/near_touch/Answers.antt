use Rattle.std.proofs.Common.{◌∙◌, sym, length}
use Rattle.touching.proofs.PlainBytes.{near_is, nonempty}
use Rattle.touching.proofs.near.near_touch.Goals as goal

pub returns : goal.returns
returns c =
    near_is c.args.dialect c.args.left c.args.right c.args.left_raw.now c.args.right_raw.now c.word_by_word.result c.in_ok-goes_on.goes_on
    (nonempty (length c.args.left_raw.now) c.is_empty.result c.is_empty.ensures c.if-is_empty.false)
    (nonempty (length c.args.right_raw.now) c.is_empty-else-is_empty.result c.is_empty-else-is_empty.ensures c.if-is_empty-2.false)
    (sym c.is_plain.ensures ∙ c.if-not-is_plain.false) (sym c.is_plain-2.ensures ∙ c.if-not-is_plain-2.false)
    (sym c.word_by_quote.ensures ∙ c.if-word_by_quote.false) (sym c.number_may_go_on.ensures ∙ c.if-number_may_go_on.false)
    (sym c.point_by_number.ensures ∙ c.if-point_by_number.false) (sym c.keeps_apart.ensures ∙ c.if-keeps_apart.false)
    c.word_by_word.ensures c.in_ok-goes_on.ensures
