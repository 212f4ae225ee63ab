use Rattle.std.proofs.Common.{ℕ, ◌+◌, ◌≤◌, length}
use Rattle.std.specs.Prelude.{vec_capacity}
use Rattle.searched_line.specs.Searched.{line_of}
use Rattle.searched_line.proofs.AheadTable.{AreStretched}
use Rattle.searched_line.proofs.Ruling.{AreTold}
use Rattle.searched_line.proofs.ahead.gaps_of.Given as goal

abbrev pub invariant-loop-left : goal.invariant-loop-left
invariant-loop-left l = record {
  stretched : (column : ℕ) → AreStretched (line_of l.style column l.tokens l.fixed) l.gaps.items l.next l.left;
  told : AreTold l.style l.tokens l.fixed l.gaps.items l.left;
  room : length l.tokens + 1 ≤ vec_capacity l.gaps;
}
