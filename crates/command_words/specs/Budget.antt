-- How many cells the search of a line may have: docs/PROFILE.md, "Words of the command".
use Rattle.std.specs.Prelude.{ℕ, Bool, Option, Some, None, ◌&&◌, length, nat_le, if◌then◌else◌}
use Rattle.std.specs.Char.{is_digit}
use Rattle.std.specs.List.{list_all}
use Rattle.std.specs.Str.Parse.{digits_value}
use Rattle.clap.specs.Words.{Text}

-- decimal digits alone
abbrev pub are_digits : Text → Bool
are_digits text = list_all (λ c. is_digit c 10) text

-- the number that 1 to 9 decimal digits write
abbrev pub number_of : Text → Option ℕ
number_of text =
    if nat_le 1 (length text) && nat_le (length text) 9 && are_digits text then Some (digits_value 10 text) else None

-- a number that a budget may be: 1 to 16000000
abbrev pub as_budget : Option ℕ → Option ℕ
as_budget None = None
as_budget (Some number) = if nat_le 1 number && nat_le number 16000000 then Some number else None

-- the budget that a value of `--states` tells, 2000000 where there is none
abbrev pub budget_of : Option Text → Option ℕ
budget_of None = Some 2000000
budget_of (Some word) = as_budget (number_of word)
