use Rattle.std.proofs.Common.{◌≡◌}
use Rattle.std.specs.Prelude.{reverse, slice_range}
use Rattle.line_joiner.specs.Facts.{first_role}
use Rattle.line_joiner.proofs.facts.last_among.Given as goal

abbrev pub invariant-loop-at : goal.invariant-loop-at
invariant-loop-at l = first_role (reverse (slice_range l.tokens l.first l.at)) ≡ first_role (reverse (slice_range l.tokens l.first l.end))
