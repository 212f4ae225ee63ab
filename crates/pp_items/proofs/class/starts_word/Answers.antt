use Rattle.std.proofs.Common.{◌∙◌}
use Rattle.unicode_ident.specs.Ident.{is_xid_start}
use Rattle.pp_items.proofs.WideUnits.{wide_told, wide_none}
use Rattle.pp_items.proofs.class.starts_word.Goals as goal

pub returns-in-Some : goal.returns-in-Some
returns-in-Some c = c.is_xid_start.ensures.value ∙ wide_told is_xid_start c.in-Some.character c.args.unit.now c.in-Some.ensures

pub returns-in-None : goal.returns-in-None
returns-in-None c = wide_none is_xid_start c.args.unit.now c.in-None.ensures
