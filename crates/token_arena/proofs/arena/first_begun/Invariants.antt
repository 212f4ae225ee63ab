use Rattle.std.proofs.Common.{◌≡◌, ℕ, ◌<◌, false, get_or}
use Rattle.token_arena.specs.Entries.{is_begun}
use Rattle.token_arena.specs.declared.arena.Entry.{Entry}
use Rattle.token_arena.proofs.arena.first_begun.Given as goal

abbrev pub invariant-loop-i : goal.invariant-loop-i
invariant-loop-i l = (k : ℕ) (none : Entry) → k < l.i → is_begun (get_or l.entries k none) ≡ false
