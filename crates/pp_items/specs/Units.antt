-- Sequences of units, and how many characters each has.
use Rattle.std.specs.Prelude.{◌==◌, ◌&&◌, ◌||◌, ℕ, ◌+◌, Bool, false, List, [], ◌∷◌, if◌then◌else◌}
use Rattle.std.specs.Str.{continuation_len}
use Rattle.c_grammar.specs.Grammar.{is_exponent, is_sign, is_word_unit, is_number_unit, is_quoted_unit}
use Rattle.pp_items.specs.declared.unit.Units.{Units}
use Rattle.pp_items.specs.declared.unit.Units.TheVariants.{Word, Number, Quoted}

-- one of the units (C11 6.4.2.1, 6.4.8, 6.4.4.4)
abbrev pub passes : Units → List ℕ → Bool
passes Word u = is_word_unit u
passes (Number d) u = is_number_unit d u
passes (Quoted q) u = is_quoted_unit q u

-- the characters of a universal character name, by its letter
abbrev pub name_len : List ℕ → ℕ
name_len [] = 1
name_len (k ∷ s) = if k == 85 then 10 else 6

-- the characters of the unit of a word that begins this text, if one does
abbrev pub word_len : List ℕ → ℕ
word_len [] = 1
word_len (b ∷ s) = if b == 92 then name_len s else continuation_len b + 1

-- an exponent and a sign begin it, or an apostrophe
abbrev pub begins_two : List ℕ → Bool
begins_two [] = false
begins_two (b ∷ []) = false
begins_two (b ∷ c ∷ s) = (is_exponent b && is_sign c) || (b == 39)

-- the characters of the unit of a number
abbrev pub number_len : List ℕ → ℕ
number_len s = if begins_two s then 2 else word_len s

-- the characters of a unit between quotes
abbrev pub quoted_len : List ℕ → ℕ
quoted_len [] = 1
quoted_len (b ∷ s) = if b == 92 then 2 else 1

-- the characters of the unit that begins this text, if one does
abbrev pub unit_len : Units → List ℕ → ℕ
unit_len Word s = word_len s
unit_len (Number d) s = number_len s
unit_len (Quoted q) s = quoted_len s

-- the characters of the head of a number
abbrev pub head_len : List ℕ → ℕ
head_len [] = 1
head_len (b ∷ s) = if b == 46 then 2 else 1
