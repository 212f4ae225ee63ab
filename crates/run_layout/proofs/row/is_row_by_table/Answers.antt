use Rattle.std.proofs.Common.{◌≡◌, ◌∙◌, ◌+◌, ◌-◌, suc, slice_get, refl, sym, ap, subst, arith}
use Rattle.std.proofs.lemmas.Bool.{leb-true}
use Rattle.line_tokens.specs.Columns.{columns}
use Rattle.run_layout.specs.OneRow.{IsOneRow}
use Rattle.run_layout.proofs.RowSteps.{row_begins, row_begins_free, row_goes_on, row_ends}
use Rattle.run_layout.proofs.row.is_row_by_table.Goals as goal

pub loop-at-init : goal.loop-at-init
loop-at-init c = record {
  from = omega arith;
  left = c.token_at-left.ensures;
  few = omega (arith, c.open_behind-frames.ensures.few);
  row = λ line is. row_begins line c.args.style.now c.args.column c.args.tokens.now c.args.first is c.token_at-left.result.now c.stored_or-start.result c.end_of-behind.result c.open_behind-frames.result _
      c.requires.some c.token_at-left.ensures c.stored_or-start.ensures c.end_of-behind.ensures c.open_behind-frames.ensures.is refl;
  free = λ line is. row_begins_free line c.args.style.now c.args.column c.args.tokens.now c.args.first is c.token_at-left.result.now c.stored_or-start.result c.requires.some c.token_at-left.ensures c.stored_or-start.ensures
      (c.first_fits.ensures c.if-not-first_fits.false);
}

pub loop-at-preserved : goal.loop-at-preserved
loop-at-preserved c =
    let at = c.loop-at.at in
    let v = c.loop-at.invariant in
    let here : at + 1 - 1 ≡ at = omega arith in
    let next : suc (at - 1) ≡ at = omega (arith, v.from) in
    let placed : at - 1 + 1 ≡ at + 1 - 1 = omega (arith, v.from) in record {
      from = omega arith;
      left = ap (λ i. slice_get c.args.tokens.now i) here ∙ c.token_at-right.ensures;
      few = omega (arith, c.if-cells-budget.false, c.requires.budget);
      row = λ line is.
          subst (λ n. IsOneRow line n c.end_of-behind-in-loop-at.result c.open_behind-frames-in-loop-at.result (c.loop-at.cells + (c.open_behind-frames-in-loop-at.result + 1))) placed
          (row_goes_on line c.args.style.now c.args.column c.args.tokens.now c.args.first is (at - 1) c.loop-at.behind c.loop-at.frames c.loop-at.cells c.saturating_add-start.result c.open_behind-frames-in-loop-at.result
          (c.loop-at.cells + (c.open_behind-frames-in-loop-at.result + 1)) c.end_of-behind-in-loop-at.result c.loop-at.left.now c.token_at-right.result.now (v.row line is) v.left
          (ap (λ i. slice_get c.args.tokens.now i) next ∙ c.token_at-right.ensures) (sym c.must_break.ensures ∙ c.if-must_break.false)
          (c.saturating_add-start.ensures ∙ ap (λ x. columns c.loop-at.behind x) (c.from.ensures ∙ c.before-in-loop-at.ensures.table)) (c.fits.ensures c.if-not-fits.false)
          c.open_behind-frames-in-loop-at.ensures.is refl c.end_of-behind-in-loop-at.ensures);
      free = v.free;
    }

pub returns : goal.returns
returns c = λ yes line is.
    let v = c.loop-at.invariant in
    row_ends line c.args.style.now c.args.column c.args.tokens.now c.args.first is c.args.budget (c.loop-at.at - 1) c.loop-at.behind c.loop-at.frames c.loop-at.cells (v.row line is)
    (omega (arith, v.from, c.loop-at-test.false, c.loop-at.auto.at-end c.requires.some)) (leb-true c.loop-at.cells c.args.budget yes) (v.free line is)
