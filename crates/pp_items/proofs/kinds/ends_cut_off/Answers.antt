use Rattle.std.proofs.Common.{◌∙◌}
use Rattle.pp_items.proofs.Spelled.{test_yes, test_no, cut_off_end}
use Rattle.pp_items.proofs.kinds.ends_cut_off.Goals as goal

pub returns-then-last-eq92 : goal.returns-then-last-eq92
returns-then-last-eq92 c = c.are_units.ensures ∙ test_yes _ _ _ _ c.if-last-eq92.true (cut_off_end c.args.quote c.args.text.now c.in-len1-up.len_at_least)

pub returns-else-last-eq92 : goal.returns-else-last-eq92
returns-else-last-eq92 c = test_no _ _ _ _ c.if-last-eq92.false (cut_off_end c.args.quote c.args.text.now c.in-len1-up.len_at_least)
