use Rattle.std.proofs.Common.{◌∙◌, sym}
use Rattle.c_chars.proofs.FirstUnits.{at_trigraph, at_plain}
use Rattle.c_chars.proofs.units.unit.Goals as goal

pub returns-then-replaces-clause-unit : goal.returns-then-replaces-clause-unit
returns-then-replaces-clause-unit c = at_trigraph c.args.dialect c.args.bytes.now c.trigraph.result (sym c.replaces.ensures ∙ c.if-replaces.true) c.trigraph.ensures

pub returns-else-begins_return-clause-unit : goal.returns-else-begins_return-clause-unit
returns-else-begins_return-clause-unit c = at_plain c.args.dialect c.args.bytes.now c.requires (sym c.replaces.ensures ∙ c.if-replaces.false) (sym c.begins_return.ensures ∙ c.if-begins_return.false)
