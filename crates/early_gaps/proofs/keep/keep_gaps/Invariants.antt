use Rattle.std.proofs.Common.{◌≡◌, ◌≤◌, ◌+◌, ◌-◌, length}
use Rattle.replacements.specs.Decisions.{decided_all}
use Rattle.early_gaps.specs.Kept.{IsBehind, IsColumn, kept_at}
use Rattle.early_gaps.specs.Made.{made_from}
use Rattle.early_gaps.proofs.keep.keep_gaps.Given as goal

abbrev pub invariant-loop-place : goal.invariant-loop-place
invariant-loop-place l = record {
  within : l.place ≤ length l.arena.tokens + 1;
  known : IsColumn l.tab l.arena l.known;
  order : l.known.place ≤ l.place;
  behind : IsBehind l.arena l.place l.behind;
  len : length l.plan ≡ length l.initial.plan;
  rest : decided_all l.plan (made_from (kept_at l.tab l.arena l.frozen) l.place (length l.arena.tokens + 1 - l.place)) ≡ decided_all l.initial.plan (made_from (kept_at l.tab l.arena l.frozen) 0 (length l.arena.tokens + 1));
}

abbrev pub decreases-loop-place : goal.decreases-loop-place
decreases-loop-place l = length l.arena.tokens + 1 - l.place
