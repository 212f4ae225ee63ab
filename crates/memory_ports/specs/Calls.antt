-- Ends in memory, whose calls fail by plan.
use Rattle.std.specs.Prelude.{◌+◌, ◌-◌, ◌^◌, ℕ, min, List, Contains}

-- how many calls have been made, and the numbers, counted from 1, of those that fail
pub record Calls : Type 0 where
  pub made : ℕ
  pub failing : List ℕ

-- no call yet
abbrev pub calls_to_make : List ℕ → Calls
calls_to_make failing = record { made = 0; failing = failing }

-- the number of the next call; the counter stays at its last value
abbrev pub next_call : Calls → ℕ
next_call calls = min (calls.made + 1) (2 ^ 64 - 1)

-- the next call is to fail
abbrev pub IsToFail : Calls → Type 0
IsToFail calls = Contains calls.failing (next_call calls)

-- one call more
abbrev pub after_call : Calls → Calls
after_call calls = record calls { made = next_call calls }

-- the bytes that a source in memory is still to give, how often it has failed, and its calls
pub record SourceState : Type 0 where
  pub left : List ℕ
  pub faults : ℕ
  pub calls : Calls

-- the bytes that a sink in memory has taken, how often it has failed, and its calls
pub record SinkState : Type 0 where
  pub taken : List ℕ
  pub faults : ℕ
  pub calls : Calls
