-- The input that `--generate` makes: docs/PROFILE.md, "Words of the command".
use Rattle.std.specs.Prelude.{ℕ, Bool, ◌==◌, ◌&&◌, Option, Some, None, nat_le, if◌then◌else◌}
use Rattle.std.specs.List.{after_first, before_first}
use Rattle.clap.specs.Words.{Text}
use Rattle.command_words.specs.Budget.{number_of}
use Rattle.command_words.specs.declared.pieces.Generate.{Generate}

abbrev pub is_colon : ℕ → Bool
is_colon c = c == 58

-- N and COUNT, where both are numbers, and COUNT is 1 to 100000
abbrev pub numbers_of : (seed count : Option ℕ) → Option Generate
numbers_of None count = None
numbers_of (Some seed) None = None
numbers_of (Some seed) (Some count) =
    if nat_le 1 count && nat_le count 100000 then Some (record { seed = seed; count = count }) else None

-- what a value of `--generate` tells: the numbers before and behind its first colon
abbrev pub generate_in : Text → Option Generate
generate_in word = numbers_of (number_of (before_first is_colon word)) (number_of (after_first is_colon word))

-- the input that is to be made, none without a value of `--generate`
abbrev pub generate_of : Option Text → Option Generate
generate_of None = None
generate_of (Some word) = generate_in word
