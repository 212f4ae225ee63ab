-- The number that digits give to a line.
use Rattle.std.specs.Prelude.{ℕ, ◌&&◌, nat_le, List, true, false, Option, Some, None}
use Rattle.std.specs.Str.{all_ascii_digits}
use Rattle.pp_model.specs.Preprocess.{is_line_number, number_of}

-- the value of a spelling that is digits alone and isn't too great (C11 6.10.4p3)
abbrev pub digits_value : List ℕ → Option ℕ
digits_value s =
    elim (all_ascii_digits s && nat_le (number_of s) 2147483647) [ true ↦ Some (number_of s) | false ↦ None ]

-- the number that a spelling gives to a line, where it may
abbrev pub line_number : List ℕ → Option ℕ
line_number s = elim (is_line_number s) [ true ↦ Some (number_of s) | false ↦ None ]
