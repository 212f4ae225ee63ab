-- What is counted of the lines of a text.
use Rattle.std.specs.Prelude.{◌≡◌, List, length}
use Rattle.token_arena.specs.Gaps.{Contents}
use Rattle.run_layout.specs.Outcomes.{LaidLine}
use Rattle.run_layout.specs.Reports.{reports_of, searched_of, cost_of}
use Rattle.run_layout.specs.declared.report.Counts.{Counts}
use Rattle.run_parts.specs.Runs.{runs_of}

-- these are the counts of a text's lines
pub record AreCounts (arena : Contents) (done : List LaidLine) (counts : Counts) : Type 0 where
  pub runs : counts.runs ≡ runs_of arena
  pub searched : counts.searched ≡ searched_of done
  pub over : counts.over ≡ length (reports_of done)
  pub cost : counts.cost ≡ cost_of done
