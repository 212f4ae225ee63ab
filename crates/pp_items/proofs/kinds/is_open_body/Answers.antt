use Rattle.std.proofs.Common.{◌∙◌, sym}
use Rattle.pp_items.proofs.Spelled.{open_body, or_yes, or_no}
use Rattle.pp_items.proofs.kinds.is_open_body.Goals as goal

pub returns-then-are_units : goal.returns-then-are_units
returns-then-are_units c = c.if-are_units.true ∙ or_yes _ _ _ (sym c.are_units.ensures ∙ c.if-are_units.true) (open_body c.args.quote c.args.text.now)

pub returns-else-are_units : goal.returns-else-are_units
returns-else-are_units c = c.ends_cut_off.ensures ∙ or_no _ _ _ (sym c.are_units.ensures ∙ c.if-are_units.false) (open_body c.args.quote c.args.text.now)
