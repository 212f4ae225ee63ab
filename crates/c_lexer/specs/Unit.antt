-- Units of words and numbers, and the longest front of a text.
use Rattle.std.specs.Prelude.{◌≡◌, ◌==◌, ◌||◌, ◌&&◌, ℕ, zero, suc, Bool, true, false, List, [], ◌∷◌, ◌++◌, length, drop}
use Rattle.std.specs.Prelude.{nat_eq, IsTrue}
use Rattle.std.specs.List.{starts_with}
use Rattle.c_chars.specs.Characters.{bytes_of}
use Rattle.c_chars.specs.Coming.{Coming, behind}
use Rattle.c_chars.specs.declared.Dialect.{Dialect}
use Rattle.c_grammar.specs.Grammar.{AreUnits, is_letter, is_digit, is_hex, is_sign, is_exponent, is_separated}
use Rattle.c_grammar.specs.Grammar.{is_universal_name, is_wide}

-- A unit begins the text.
pub record BeginsUnit (p : List ℕ → Bool) (s : List ℕ) : Type 0 where
  pub unit : List ℕ
  pub rest : List ℕ
  pub passes : IsTrue (p unit)
  pub whole : s ≡ unit ++ rest

-- a universal character name, or a character past ASCII that passes
unfoldable pub is_rare_unit : (ℕ → Bool) → List ℕ → Bool
is_rare_unit p u = is_universal_name u || is_wide p u

-- The front holds, and nothing that goes on from it into the rest does.
pub record IsLongestHeld (Holds : List ℕ → Type 0) (front rest : List ℕ) : Type 0 where
  pub holds : Holds front
  pub longest : (c : ℕ) (more left : List ℕ) → rest ≡ (c ∷ more) ++ left → Holds (front ++ c ∷ more) → ⊥

-- The text begins with the longest front of it that holds, and then that is left.
pub record IsFrontOff (Holds : List ℕ → Type 0) (text left : Coming) : Type 0 where
  pub front : List ℕ
  pub rest : List ℕ
  pub whole : bytes_of text.chars ≡ front ++ rest
  pub held : IsLongestHeld Holds front rest
  pub left_is : left ≡ behind text (length front)

-- the longest unit that the text begins with, and what is left behind it
abbrev pub IsUnitOff : (List ℕ → Bool) → Coming → Coming → Type 0
IsUnitOff p text left = IsFrontOff (λ u. IsTrue (p u)) text left

-- the most units that the text begins with, and what is left behind them
abbrev pub IsRunOff : (List ℕ → Bool) → Coming → Coming → Type 0
IsRunOff p text left = IsFrontOff (AreUnits p) text left

-- so many hexadecimal digits begin the text
abbrev pub begins_hex : ℕ → List ℕ → Bool
begins_hex zero s = true
begins_hex (suc n) [] = false
begins_hex (suc n) (c ∷ s) = is_hex c && begins_hex n s

-- a backslash, this letter and so many hexadecimal digits begin it
abbrev pub begins_name : ℕ → ℕ → List ℕ → Bool
begins_name letter n s = starts_with nat_eq s (92 ∷ letter ∷ []) && begins_hex n (drop 2 s)

-- a unit of a number by itself: a letter, a digit or a point
abbrev pub is_single : ℕ → Bool
is_single c = (is_letter c || is_digit c) || c == 46

-- these two characters are a unit of a number: an exponent and its sign, or in C23 an apostrophe and what it separates
abbrev pub is_pair : Dialect → ℕ → ℕ → Bool
is_pair d c e = (is_exponent c && is_sign e) || is_separated d (c ∷ e ∷ [])

-- such a pair begins the text
abbrev pub begins_pair : Dialect → List ℕ → Bool
begins_pair d [] = false
begins_pair d (c ∷ []) = false
begins_pair d (c ∷ e ∷ s) = is_pair d c e
