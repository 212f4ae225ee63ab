use Rattle.std.proofs.Common.{◌≡◌, length, map}
use Rattle.line_state.specs.Layout.{Layout}
use Rattle.searched_line.specs.Searched.{line_of}
use Rattle.line_walk.specs.Indents.{TellStarts}
use Rattle.run_layout.specs.Broken.{number}
use Rattle.run_layout.proofs.Writing.{IsWritten}
use Rattle.run_layout.proofs.broken.write_breaks.Given as goal

abbrev pub invariant-loop-at : goal.invariant-loop-at
invariant-loop-at l = record {
  len : length l.plan ≡ length l.initial.plan;
  layout : Layout;
  told : TellStarts l.style l.starts layout;
  written : IsWritten (line_of l.style l.column l.tokens l.fixed) l.line (map number l.tokens) l.breaks l.initial.plan l.plan layout l.at;
}
