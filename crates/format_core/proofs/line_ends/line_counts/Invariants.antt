use Rattle.std.proofs.Common.{◌≡◌, ◌+◌, ◌≤◌, false, drop}
use Rattle.format_core.specs.LineEnds.{feed_lines, return_lines}
use Rattle.format_core.proofs.line_ends.line_counts.Given as goal

abbrev pub invariant-loop-byte : goal.invariant-loop-byte
invariant-loop-byte l = record {
  returns : l.counts.returns + return_lines l.after (drop l.byte-index l.text) ≡ return_lines false l.text;
  feeds : l.counts.feeds + feed_lines l.after (drop l.byte-index l.text) ≡ feed_lines false l.text;
  few : l.counts.returns + l.counts.feeds ≤ l.byte-index;
}
