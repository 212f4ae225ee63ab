use Rattle.std.proofs.Common.{◌∙◌, ◌∷◌, [], sym}
use Rattle.std.proofs.lemmas.List.{take_rest}
use Rattle.pp_model.specs.Finding.{is_in_line}
use Rattle.pp_items.proofs.Spelled.{front_yes, front_no}
use Rattle.pp_items.proofs.kinds.is_empty_quotes.Goals as goal

pub returns-then-starts_with : goal.returns-then-starts_with
returns-then-starts_with c =
    front_yes (39 ∷ 39 ∷ []) c.args.text.now is_in_line c.is_in_line.result _ (sym c.starts_with.ensures.value ∙ c.if-starts_with.true) (take_rest c.args.text.now 2) c.is_in_line.ensures

pub returns-else-starts_with : goal.returns-else-starts_with
returns-else-starts_with c = c.if-starts_with.false ∙ front_no (39 ∷ 39 ∷ []) c.args.text.now is_in_line (sym c.starts_with.ensures.value ∙ c.if-starts_with.false)
