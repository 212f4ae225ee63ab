use Rattle.std.proofs.Common.{◌≡◌, List, length, ap, arith, subst}
use Rattle.std.specs.Prelude.{IfSome}
use Rattle.line_tokens.specs.declared.LineTok.{LineTok}
use Rattle.line_state.specs.Line.{Line}
use Rattle.break_search.specs.Outcome.{IsOver}
use Rattle.run_layout.specs.Broken.{of_line}
use Rattle.run_layout.proofs.BrokenLines.{length_of_line}
use Rattle.run_layout.proofs.LineOutcomes.{above_zero}
use Rattle.run_layout.proofs.past_budget.line_cells_past.Goals as goal

pub returns-then-is_too_long : goal.returns-then-is_too_long
returns-then-is_too_long c =
    let line = c.args.line.now in
    let toks = c.args.layout.now.tokens.now in
    record {
      limit = above_zero c.args.layout.now.style.now.column_limit c.if-layout-eq0.false;
      over = λ l is. c.if-is_too_long.ensures.yes l (omega (arith, ap (λ (xs : List LineTok). length xs) is, length_of_line line toks c.requires.within, c.requires.some));
    }

pub returns-clause-over : goal.returns-clause-over
returns-clause-over c =
    let are : c.in-Some.row ≡ of_line c.args.line.now c.args.layout.now.tokens.now = c.in-Some.ensures.tokens in
    subst (λ xs. IfSome c.row_cells_past.result (λ cells. (l : Line) → l.tokens ≡ xs → IsOver l c.args.layout.now.budget cells)) are c.row_cells_past.ensures
