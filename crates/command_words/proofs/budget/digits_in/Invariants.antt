use Rattle.std.proofs.Common.{◌≡◌, ℕ, ◌^◌, ◌<◌, List, drop}
use Rattle.std.specs.Str.Parse.{digits_value, digits_value_after}
use Rattle.command_words.specs.Budget.{are_digits}
use Rattle.command_words.proofs.budget.digits_in.Given as goal

-- what is left is digits where all is, and goes on with the number so far
pub record Behind (text rest : List ℕ) (so_far count : ℕ) : Type 0 where
  pub digits : are_digits rest ≡ are_digits text
  pub number : digits_value_after 10 so_far rest ≡ digits_value 10 text
  pub small : so_far < 10 ^ count

abbrev pub invariant-loop-byte : goal.invariant-loop-byte
invariant-loop-byte l = Behind l.text (drop l.byte-index l.text) l.number l.byte-index
