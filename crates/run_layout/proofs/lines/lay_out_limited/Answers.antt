use Rattle.std.proofs.Common.{◌≡◌, arith, subst, sym}
use Rattle.searched_line.specs.Searched.{line_of}
use Rattle.break_search.specs.Outcome.{IsFound, IsOutcome, IsOver}
use Rattle.line_walk.specs.Starts.{IsAdmissible}
use Rattle.break_search.specs.declared.outcome.Outcome.{Outcome}
use Rattle.line_gaps.specs.InputColumns.{input_before}
use Rattle.run_layout.proofs.LineOutcomes.{found_admissible, least_laid, open_searched, over_laid}
use Rattle.run_layout.proofs.Failed.{no_value, not_done}
use Rattle.run_layout.proofs.lines.lay_out_limited.Goals as goal

pub search-requires : goal.search-requires
search-requires c =
    let told = open_searched c.args.layout.now c.args.plan.now c.args.open_line.now c.requires.ready c.requires.line in
    record { some = told.some; short = told.short; even = told.even; range = c.requires.ready.range; budget = c.requires.ready.budget }

pub write_broken-requires : goal.write_broken-requires
write_broken-requires c =
    let layout = c.args.layout.now in
    let o = c.args.open_line.now in
    let l = line_of layout.style.now c.start_column-column.result o.tokens.now o.fixed.now in
    let found : IsFound l layout.budget c.in-Found.breaks.now c.in-Found.cost = subst (λ (told : Outcome). IsOutcome l layout.budget told) c.in-Found.is c.in_ok-breaks.ensures in
    record {
      ready = c.requires.ready;
      tell = c.requires.tell;
      line = c.requires.line;
      admissible = subst (λ x. IsAdmissible (line_of layout.style.now x o.tokens.now o.fixed.now) c.in-Found.breaks.now) c.start_column-column.ensures (found_admissible l layout.budget c.in-Found.breaks.now c.in-Found.cost found);
    }

pub returns-in_ok-write_broken-in-Found : goal.returns-in_ok-write_broken-in-Found
returns-in_ok-write_broken-in-Found c =
    let layout = c.args.layout.now in
    let o = c.args.open_line.now in
    let h = c.requires.line in
    let l = line_of layout.style.now c.start_column-column.result o.tokens.now o.fixed.now in
    let found : IsFound l layout.budget c.in-Found.breaks.now c.in-Found.cost = subst (λ (told : Outcome). IsOutcome l layout.budget told) c.in-Found.is c.in_ok-breaks.ensures in
    record {
      laid = least_laid layout.style.now layout.budget layout.arena.now layout.view.now layout.tokens.now c.args.plan.now o.line.now c.start_column-column.result o.tokens.now o.fixed.now c.requires.ready.tell h.tokens_are c.start_column-column.ensures h.fixed_are h.opens
          c.in-Found.breaks.now c.in-Found.cost c.write_broken.new.plan c.requires.limit found c.in_ok-write_broken-in-Found.ensures.plan;
      len = c.in_ok-write_broken-in-Found.ensures.len;
      before = omega (arith, c.requires.before, h.some);
      column = c.requires.column;
    }

pub report_line-requires : goal.report_line-requires
report_line-requires c = record {
  tab = c.requires.ready.range.least_tab_width;
  items = c.requires.ready.within;
  classes = c.requires.ready.classes;
  some = c.requires.line.some;
  places = c.requires.line.places;
  whole = c.requires.line.whole;
  before = c.requires.before;
  column = c.requires.column;
}

pub returns-in-OverBudget : goal.returns-in-OverBudget
returns-in-OverBudget c =
    let layout = c.args.layout.now in
    let o = c.args.open_line.now in
    let h = c.requires.line in
    let l = line_of layout.style.now c.start_column-column.result o.tokens.now o.fixed.now in
    let over : IsOver l layout.budget c.in-OverBudget.cells = subst (λ (told : Outcome). IsOutcome l layout.budget told) c.in-OverBudget.is c.in_ok-breaks.ensures in
    record {
      laid = over_laid layout.style.now layout.budget layout.arena.now layout.view.now layout.tokens.now c.args.plan.now o.line.now c.start_column-column.result o.tokens.now o.fixed.now c.requires.ready.tell h.tokens_are c.start_column-column.ensures h.fixed_are h.opens
          c.in-OverBudget.cells c.report_line.new.plan c.requires.limit over c.report_line.ensures.plan;
      len = c.report_line.ensures.len;
      before = omega (arith, c.report_line.ensures.place);
      column = subst (λ k. c.report_line.new.cursor.column ≡ input_before layout.style.now layout.arena.now layout.view.now k) (sym c.report_line.ensures.place) c.report_line.ensures.column;
    }

pub returns-in_err-breaks : goal.returns-in_err-breaks
returns-in_err-breaks c =
    let result = c.from_residual.result in
    let err = c.from_residual.ensures.0 in
    record {
      laid = no_value result _ err;
      len = not_done result _ err;
      before = not_done result _ err;
      column = not_done result _ err;
    }

pub returns-in_err-write_broken-in-Found : goal.returns-in_err-write_broken-in-Found
returns-in_err-write_broken-in-Found c =
    let result = c.from_residual-in_err-write_broken-in-Found.result in
    let err = c.from_residual-in_err-write_broken-in-Found.ensures.0 in
    record {
      laid = no_value result _ err;
      len = not_done result _ err;
      before = not_done result _ err;
      column = not_done result _ err;
    }
