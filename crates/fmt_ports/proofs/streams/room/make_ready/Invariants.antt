use Rattle.std.proofs.Common.{◌≡◌, ◌≤◌, ℕ, length}
use Rattle.std.specs.List.{slice_range}
use Rattle.fmt_ports.proofs.streams.room.make_ready.Given as goal

abbrev pub invariant-loop-page : goal.invariant-loop-page
invariant-loop-page l = record {
  within : l.end ≤ length l.bytes.items;
  same : (sent : ℕ) → sent ≤ l.end → slice_range l.bytes.items sent l.end ≡ slice_range l.initial.bytes.items sent l.end;
}
