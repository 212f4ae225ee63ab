use Rattle.std.proofs.Common.{◌∙◌, not, ap}
use Rattle.unicode_ident.specs.Ident.{is_xid_start}
use Rattle.pp_items.proofs.WideUnits.{wide_told, wide_none}
use Rattle.pp_items.proofs.class.starts_no_word.Goals as goal

pub returns-in-Some : goal.returns-in-Some
returns-in-Some c = ap not c.is_xid_start.ensures.value ∙ wide_told (λ e. not (is_xid_start e)) c.in-Some.character c.args.unit.now c.in-Some.ensures

pub returns-in-None : goal.returns-in-None
returns-in-None c = wide_none (λ e. not (is_xid_start e)) c.args.unit.now c.in-None.ensures
