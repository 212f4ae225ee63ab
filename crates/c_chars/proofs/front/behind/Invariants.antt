use Rattle.std.proofs.Common.{◌≡◌, ◌-◌, ◌≤◌}
use Rattle.c_chars.specs.Coming.{behind}
use Rattle.c_chars.proofs.front.behind.Given as goal

abbrev pub invariant-loop : goal.invariant-loop
invariant-loop l = (l.counter ≤ l.count) × (behind l.rest (l.count - l.counter) ≡ behind l.text l.count)
