use Rattle.std.proofs.Common.{◌≡◌, ◌≤◌, ◌^◌, ◌+◌, ◌++◌, length}
use Rattle.style_config.specs.Lines.{document_text, lines_in, numbered_from}
use Rattle.style_config.proofs.line.lines_of.Given as goal

abbrev pub invariant-loop-line : goal.invariant-loop-line
invariant-loop-line l = record {
  can_next : (goal.iterator-loop-line).can_next l.line-iterator;
  is_finite : (goal.iterator-loop-line).is_finite l.line-iterator;
  lines : document_text l.lines.items ++ numbered_from l.number l.line-iterator ≡ lines_in l.fn.text;
  room : l.number + length l.line-iterator ≤ 2 ^ 20 + 1;
}
