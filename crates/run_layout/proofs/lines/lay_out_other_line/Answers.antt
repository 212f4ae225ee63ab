use Rattle.std.proofs.Common.{◌≡◌, ◌∙◌, List, Option, length, ap, subst, sym, arith}
use Rattle.std.specs.Prelude.{IfOk, OnOk}
use Rattle.replacements.specs.declared.slot.Slot.{Slot}
use Rattle.line_gaps.specs.OpenGaps.{IsOpen}
use Rattle.run_layout.specs.Told.{IsLaid}
use Rattle.line_gaps.specs.InputColumns.{input_before}
use Rattle.run_layout.proofs.LineOutcomes.{past_laid, row_laid}
use Rattle.run_layout.proofs.Failed.{no_value, not_done}
use Rattle.run_layout.proofs.lines.lay_out_other_line.Goals as goal

pub is_line_decided-requires : goal.is_line_decided-requires
is_line_decided-requires c = record {
  items = c.requires.ready.within;
  some = c.requires.some;
  places = c.requires.places;
  whole = c.requires.whole;
}

pub line_cells_past-requires : goal.line_cells_past-requires
line_cells_past-requires c = record {
  budget = c.requires.ready.budget;
  some = c.requires.some;
  within = omega (arith, c.requires.places, c.requires.ready.tell.as_many);
}

pub report_line-requires : goal.report_line-requires
report_line-requires c = record {
  tab = c.requires.ready.range.least_tab_width;
  items = c.requires.ready.within;
  classes = c.requires.ready.classes;
  some = c.requires.some;
  places = c.requires.places;
  whole = c.requires.whole;
  before = c.requires.before;
  column = c.requires.column;
}

pub returns-in-Some : goal.returns-in-Some
returns-in-Some c =
    let layout = c.args.layout.now in
    record {
      laid = past_laid layout.style.now layout.budget layout.arena.now layout.view.now layout.tokens.now c.args.plan.now c.args.line.now c.in-Some.cells c.report_line.new.plan c.if-is_line_decided.ensures.no c.in-Some.ensures.limit
          c.in-Some.ensures.over c.report_line.ensures.plan;
      len = c.report_line.ensures.len;
      before = omega (arith, c.report_line.ensures.place);
      column = subst (λ k. c.report_line.new.cursor.column ≡ input_before layout.style.now layout.arena.now layout.view.now k) (sym c.report_line.ensures.place) c.report_line.ensures.column;
    }

pub between-requires : goal.between-requires
between-requires c = record { order = omega (arith, c.requires.some); within = omega (arith, c.requires.places, c.requires.ready.tell.as_many) }

pub lay_out_row-requires : goal.lay_out_row-requires
lay_out_row-requires c = record {
  ready = c.requires.ready;
  tell = c.requires.tell;
  tokens = c.in_ok-tokens.ensures;
  some = c.requires.some;
  places = c.requires.places;
  whole = c.requires.whole;
}

pub returns-then-lay_out_row-clause-laid : goal.returns-then-lay_out_row-clause-laid
returns-then-lay_out_row-clause-laid c =
    row_laid c.args.layout.now.style.now c.args.layout.now.budget c.args.layout.now.arena.now c.args.layout.now.view.now c.args.layout.now.tokens.now c.args.plan.now c.args.line.now c.lay_out_row.new.plan c.if-is_line_decided.ensures.no c.if-lay_out_row.ensures.limit
    c.if-lay_out_row.ensures.row c.if-lay_out_row.ensures.plan

pub lay_out_searched-requires : goal.lay_out_searched-requires
lay_out_searched-requires c =
    let same : c.lay_out_row.new.plan ≡ c.args.plan.now = c.if-lay_out_row.ensures.same in
    record {
      ready = c.requires.ready;
      tell = c.requires.tell;
      tokens = c.in_ok-tokens.ensures;
      some = c.requires.some;
      places = c.requires.places;
      whole = ap (λ (plan : List (Option Slot)). length plan) same ∙ c.requires.whole;
      opens = subst (λ (plan : List (Option Slot)). IsOpen plan c.args.layout.now.view.now c.args.line.now) (sym same) c.if-is_line_decided.ensures.no;
      before = c.requires.before;
      column = c.requires.column;
    }

pub returns : goal.returns
returns c =
    let layout = c.args.layout.now in
    let same : c.lay_out_row.new.plan ≡ c.args.plan.now = c.if-lay_out_row.ensures.same in
    record {
      laid = subst (λ (plan : List (Option Slot)). IfOk c.lay_out_searched.result (IsLaid layout.style.now layout.budget layout.arena.now layout.view.now layout.tokens.now plan c.args.line.now c.lay_out_searched.new.plan)) same c.lay_out_searched.ensures.laid;
      len = subst (λ (plan : List (Option Slot)). OnOk c.lay_out_searched.result (length c.lay_out_searched.new.plan ≡ length plan)) same c.lay_out_searched.ensures.len;
      before = c.lay_out_searched.ensures.before;
      column = c.lay_out_searched.ensures.column;
    }

pub returns-in_err-tokens : goal.returns-in_err-tokens
returns-in_err-tokens c =
    let result = c.from_residual.result in
    let err = c.from_residual.ensures.0 in
    record {
      laid = no_value result _ err;
      len = not_done result _ err;
      before = not_done result _ err;
      column = not_done result _ err;
    }
