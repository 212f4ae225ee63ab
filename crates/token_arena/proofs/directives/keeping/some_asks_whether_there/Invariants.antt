use Rattle.std.proofs.Common.{◌≡◌}
use Rattle.std.specs.List.{slice_range, list_any}
use Rattle.token_arena.specs.Keeping.{asks_whether_there}
use Rattle.token_arena.proofs.directives.keeping.some_asks_whether_there.Given as goal

abbrev pub invariant-loop-at : goal.invariant-loop-at
invariant-loop-at l =
    list_any (asks_whether_there l.arena.dialect) (slice_range l.arena.tokens l.initial.at l.end) ≡ list_any (asks_whether_there l.arena.dialect) (slice_range l.arena.tokens l.at l.end)
