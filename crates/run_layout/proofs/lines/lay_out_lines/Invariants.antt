use Rattle.std.proofs.Common.{◌≡◌, ◌≤◌, ◌+◌, ◌*◌, length, drop}
use Rattle.line_gaps.specs.Counted.{IsCounted}
use Rattle.run_layout.proofs.RunSteps.{GoesOnLines, IsAhead}
use Rattle.run_layout.proofs.lines.lay_out_lines.Given as goal

abbrev pub invariant-loop-line : goal.invariant-loop-line
invariant-loop-line l = record {
  len : length l.plan ≡ length l.initial.plan;
  ahead : IsAhead l.layout.style.now l.layout.arena.now l.layout.view.now l.cursor.place l.cursor.column (drop l.line-index l.lines);
  room : l.tally.searched ≤ l.initial.tally.searched + l.line-index;
  cheap : l.tally.cost ≤ l.tally.searched * 18446744073709551615;
  counted : IsCounted l.layout.arena.now l.tally.lines;
  on : GoesOnLines l.layout.style.now l.layout.budget l.layout.arena.now l.layout.view.now l.layout.tokens.now l.number l.initial.plan l.lines l.initial.tally l.plan (drop l.line-index l.lines) l.tally;
}
