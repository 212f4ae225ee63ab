use Rattle.std.proofs.Common.{◌≡◌, ◌<◌, ◌^◌, ℕ, length, drop, replicate}
use Rattle.branch_runs.specs.Visible.{text_at}
use Rattle.branch_runs.specs.Anew.{no_change}
use Rattle.branch_runs.specs.Noted.{noted}
use Rattle.branch_runs.proofs.change.changes_of.Given as goal

abbrev pub invariant-loop-text : goal.invariant-loop-text
invariant-loop-text l = record {
  left : noted l.changes (drop l.text-index l.texts) ≡ noted (replicate l.runs no_change) l.texts;
  count : length l.changes ≡ l.runs;
  small : (k : ℕ) → k < l.text-index → (text_at l.texts k).first < 2 ^ 32;
}
