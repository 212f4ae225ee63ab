use Rattle.std.proofs.Common.{◌∙◌, length, sym}
use Rattle.std.proofs.lemmas.List.{take_rest}
use Rattle.pp_items.specs.Literals.{closes}
use Rattle.pp_items.proofs.Spelled.{front_yes, front_no}
use Rattle.pp_items.proofs.kinds.is_literal.Goals as goal

pub returns-then-starts_with : goal.returns-then-starts_with
returns-then-starts_with c =
    front_yes c.args.prefix.now c.args.text.now (closes c.args.quote c.args.may_be_empty) c.is_between_quotes.result _ (sym c.starts_with.ensures.value ∙ c.if-starts_with.true) (take_rest c.args.text.now (length c.args.prefix.now))
    c.is_between_quotes.ensures

pub returns-else-starts_with : goal.returns-else-starts_with
returns-else-starts_with c =
    c.if-starts_with.false ∙ front_no c.args.prefix.now c.args.text.now (closes c.args.quote c.args.may_be_empty) (sym c.starts_with.ensures.value ∙ c.if-starts_with.false)
