use Rattle.std.proofs.Common.{◌≡◌, ◌-◌, ◌≤◌, drop, length}
use Rattle.std.specs.Int.{is_in_range}
use Rattle.std.specs.List.{list_all}
use Rattle.token_arena.proofs.facts.behind_printable.Given as goal

abbrev pub invariant-loop-eight : goal.invariant-loop-eight
invariant-loop-eight l = record {
  same : list_all (is_in_range 0x20 0x7E) l.rest ≡ list_all (is_in_range 0x20 0x7E) l.row;
  rest_is : l.rest ≡ drop (length l.row - length l.rest) l.row;
  within : length l.rest ≤ length l.row;
}

abbrev pub decreases-loop-eight : goal.decreases-loop-eight
decreases-loop-eight l = length l.rest
