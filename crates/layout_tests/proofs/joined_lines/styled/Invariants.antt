use Rattle.style_table.specs.Range.{IsInRange}
use Rattle.layout_tests.proofs.joined_lines.styled.Given as goal

abbrev pub invariant-loop-with : goal.invariant-loop-with
invariant-loop-with l = IsInRange l.style
