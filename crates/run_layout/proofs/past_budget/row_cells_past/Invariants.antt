use Rattle.std.proofs.Common.{◌≡◌, ◌≤◌}
use Rattle.break_search.proofs.Counting.{sum_to}
use Rattle.run_layout.proofs.OpenFrames.{cells_at, frames_to}
use Rattle.run_layout.proofs.past_budget.row_cells_past.Given as goal

abbrev pub invariant-loop-at : goal.invariant-loop-at
invariant-loop-at l = record {
  frames_are : l.frames ≡ frames_to l.tokens l.at;
  cells_are : l.cells ≡ sum_to (cells_at l.tokens) l.at;
  few : l.cells ≤ l.budget;
}
