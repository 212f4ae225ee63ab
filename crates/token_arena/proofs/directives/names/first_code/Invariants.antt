use Rattle.std.proofs.Common.{◌≡◌}
use Rattle.std.specs.List.{slice_range}
use Rattle.token_arena.specs.Directives.{past_comments}
use Rattle.token_arena.proofs.directives.names.first_code.Given as goal

abbrev pub invariant-loop-at : goal.invariant-loop-at
invariant-loop-at l = past_comments (slice_range l.arena.tokens l.initial.at l.end) ≡ past_comments (slice_range l.arena.tokens l.at l.end)
