use Rattle.std.proofs.Common.{◌∙◌}
use Rattle.pp_items.proofs.Spelled.{not_closed, test_yes, test_no, closes_ends}
use Rattle.pp_items.proofs.kinds.is_between_quotes.Goals as goal

pub returns-in_default : goal.returns-in_default
returns-in_default c = not_closed c.args.quote c.args.may_be_empty c.args.text.now c.in_default.len_below

pub returns-then-last-quote : goal.returns-then-last-quote
returns-then-last-quote c = c.is_inside.ensures ∙ test_yes _ _ _ _ c.if-last-quote.true (test_yes _ _ _ _ c.if-first-quote.true (closes_ends c.args.quote c.args.may_be_empty c.args.text.now c.in-len2-up.len_at_least))

pub returns-else-last-quote : goal.returns-else-last-quote
returns-else-last-quote c = test_no _ _ _ _ c.if-last-quote.false (test_yes _ _ _ _ c.if-first-quote.true (closes_ends c.args.quote c.args.may_be_empty c.args.text.now c.in-len2-up.len_at_least))

pub returns-else-first-quote : goal.returns-else-first-quote
returns-else-first-quote c = test_no _ _ _ _ c.if-first-quote.false (closes_ends c.args.quote c.args.may_be_empty c.args.text.now c.in-len2-up.len_at_least)
