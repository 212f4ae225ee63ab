use Rattle.std.proofs.Common.{◌≡◌, ◌∙◌, ◌+◌, get_or, ap, subst, sym, arith}
use Rattle.std.proofs.lemmas.Grind.{get_or_default_zero}
use Rattle.view_parts.specs.Rows.{IsRow}
use Rattle.view_parts.specs.declared.row.Row.{Row}
use Rattle.view_parts.proofs.Rows.{place_low, row_of}
use Rattle.view_parts.proofs.row.item_at.Goals.{then-place-row, else-place-row}
use Rattle.view_parts.proofs.row.item_at.Goals as goal

pub overflow_sub-row : goal.overflow_sub-row
overflow_sub-row c = place_low c.args.view.now c.args.place c.at_near-id.result.0 c.requires.increase c.requires.here (c.at_near-id.ensures 0)

pub returns-clause-row : goal.returns-clause-row
returns-clause-row c = elim c.if-place-row.branch [
  | then-place-row w ↦ row_of c.args.view.now c.args.place w.at_near-id.result.0 w.row_behind-behind.result c.if-place-row.row c.requires.increase w.row_behind-behind.ensures.within w.row_behind-behind.ensures.fits (w.at_near-id.ensures 0)
      w.row_behind-behind.ensures.row w.row-is
  | else-place-row w ↦ subst (λ (r : Row). IsRow c.args.view.now c.args.place r) (sym w.row-is) c.requires.row
]

pub returns-clause-item : goal.returns-clause-item
returns-clause-item c = λ d.
    let view = c.args.view.now in
    let place = c.args.place in
    let at : get_or view place 0 ≡ place + c.if-place-row.row.shift = elim c.if-place-row.branch [
      | then-place-row w ↦
          let is = row_of view place w.at_near-id.result.0 w.row_behind-behind.result c.if-place-row.row c.requires.increase w.row_behind-behind.ensures.within w.row_behind-behind.ensures.fits (w.at_near-id.ensures 0) w.row_behind-behind.ensures.row w.row-is in
          is.items place (omega arith) (let e = ap (λ (r : Row). r.end) w.row-is in omega (arith, e))
      | else-place-row w ↦
          let is = subst (λ (r : Row). IsRow view place r) (sym w.row-is) c.requires.row in
          is.items place (omega arith) (let e = ap (λ (r : Row). r.end) w.row-is in omega (arith, e, w.if-place-row.false))
    ] in
    get_or_default_zero view place d c.requires.here ∙ at
