use Rattle.std.proofs.Common.{◌≡◌, length}
use Rattle.pp_items.specs.Walk.{before, past, first_line_end}
use Rattle.pp_items.proofs.Walks.{first_or}
use Rattle.pp_items.proofs.reader.pass_gap.Given as goal

abbrev pub invariant-loop-character : goal.invariant-loop-character
invariant-loop-character l = record {
  found : first_or l.line_end (first_line_end (before l.end l.chars.chars)) ≡ first_line_end (before l.end l.initial.chars.chars);
  rest : past l.end l.chars.chars ≡ past l.end l.initial.chars.chars;
}

abbrev pub decreases-loop-character : goal.decreases-loop-character
decreases-loop-character l = length l.chars.chars
