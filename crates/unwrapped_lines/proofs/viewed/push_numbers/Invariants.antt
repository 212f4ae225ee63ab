use Rattle.std.proofs.Common.{◌≡◌, ◌≤◌, ◌+◌, ◌-◌, ◌++◌, length}
use Rattle.std.specs.Prelude.{vec_capacity}
use Rattle.std.specs.List.{range_with_len}
use Rattle.unwrapped_lines.proofs.viewed.push_numbers.Given as goal

abbrev pub invariant-loop-number : goal.invariant-loop-number
invariant-loop-number l = record {
  same : l.numbers.items ++ range_with_len l.number (l.fn.first + l.fn.count - l.number) ≡ l.fn.numbers.items ++ range_with_len l.fn.first l.fn.count;
  count : length l.numbers.items + l.fn.first ≡ length l.fn.numbers.items + l.number;
  room : vec_capacity l.numbers ≡ vec_capacity l.fn.numbers;
  low : l.fn.first ≤ l.number;
  high : l.number ≤ l.fn.first + l.fn.count;
}
