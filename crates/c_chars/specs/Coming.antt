-- What is left to read.
use Rattle.std.specs.Prelude.{◌≡◌, ℕ, zero, suc, ◌+◌, ◌≤◌, ◌<◌, Bool, List, [], ◌∷◌, ◌++◌, length, take, IsTrue}
use Rattle.std.specs.List.{list_all}
use Rattle.c_chars.specs.Characters.{are_words, bytes_of, placed, is_space_byte}
use Rattle.c_chars.specs.declared.Dialect.{Dialect}
use Rattle.c_chars.specs.declared.LogicalChar.{LogicalChar}

-- the dialect that a text is read in, the offset behind the last character that was read, and the characters that are
-- still to come
pub record Coming : Type 0 where
  pub dialect : Dialect
  pub at : ℕ
  pub chars : List LogicalChar

-- The characters stand one behind another between these offsets, and each has a byte or more.
abbrev pub AreBetween : ℕ → List LogicalChar → ℕ → Type 0
AreBetween low [] high = low ≤ high
AreBetween low (c ∷ s) high = (low ≤ c.from) × (c.from < c.to) × AreBetween c.to s high

-- what is to come behind n more of these characters
abbrev pub passed : Dialect → ℕ → List LogicalChar → ℕ → Coming
passed d at s zero = record { dialect = d; at = at; chars = s }
passed d at [] (suc n) = record { dialect = d; at = at; chars = [] }
passed d at (c ∷ s) (suc n) = passed d c.to s n

-- what is to come behind the next n characters
abbrev pub behind : Coming → ℕ → Coming
behind x n = passed x.dialect x.at x.chars n

-- Some of the next characters of `old` were passed, each of these holds, and `new` is what is to come behind them.
pub record ArePassed (p : ℕ → Bool) (old new : Coming) : Type 0 where
  pub n : ℕ
  pub within : n ≤ length old.chars
  pub all : IsTrue (list_all p (take n (bytes_of old.chars)))
  pub new_is : new ≡ behind old n

-- Bytes were passed of which each holds: `old` begins with them, each one byte of the text, and `new` is what is to
-- come behind them.
pub record AreBytesPassed (p : ℕ → Bool) (old new : Coming) : Type 0 where
  pub bytes : List ℕ
  pub all : IsTrue (list_all p bytes)
  pub chars_are : old.chars ≡ placed old.at bytes ++ new.chars
  pub at_is : new.at ≡ old.at + length bytes

-- Spaces and tabs were passed: `old` begins with n of them, each one byte of the text, and `new` is what is to come
-- behind them.
pub record AreSpacesPassed (old new : Coming) (n : ℕ) : Type 0 where
  pub bytes : List ℕ
  pub count : n ≡ length bytes
  pub all : IsTrue (list_all is_space_byte bytes)
  pub chars_are : old.chars ≡ placed old.at bytes ++ new.chars
  pub at_is : new.at ≡ old.at + n
  pub dialect_is : new.dialect ≡ old.dialect

-- Words were passed: some of the next characters of `old`, and `new` is what is to come behind them.
pub record AreWordsPassed (old new : Coming) : Type 0 where
  pub n : ℕ
  pub within : n ≤ length old.chars
  pub all : IsTrue (are_words (take n (bytes_of old.chars)))
  pub new_is : new ≡ behind old n
