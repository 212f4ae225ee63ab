use Rattle.std.proofs.Common.{◌≡◌}
use Rattle.std.specs.List.{slice_range}
use Rattle.branch_runs.specs.Zero.{without_comments}
use Rattle.branch_runs.proofs.zero.first_token.Given as goal

abbrev pub invariant-loop-at : goal.invariant-loop-at
invariant-loop-at l = without_comments (slice_range l.arena.tokens l.from l.end) ≡ without_comments (slice_range l.arena.tokens l.at l.end)
