use Rattle.std.proofs.Common.{◌∷◌, [], ap, arith}
use Rattle.std.proofs.lemmas.List.{get_or-map}
use Rattle.token_classes.specs.Inside.{no_row}
use Rattle.token_classes.specs.Words.{class_in}
use Rattle.token_classes.proofs.listed.row_at.Goals as goal

pub returns : goal.returns
returns c = λ s other. ap (λ row. class_in (row ∷ []) s other) (get_or-map (λ r. (r.0.now, r.1)) c.args.rows.now c.args.row _ no_row (omega (arith, c.requires, c.told-rows)))
