-- Classes of characters that tell what may begin, and the first character.
use Rattle.std.specs.Prelude.{◌≡◌, ◌==◌, ◌||◌, ℕ, Bool, List, ◌∷◌, nat_le, codes}
use Rattle.c_grammar.specs.Grammar.{is_of}

-- an apostrophe or a quotation mark
abbrev pub is_quote_mark : ℕ → Bool
is_quote_mark c = is_of (codes "'\"") c

-- the first character of a punctuator
unfoldable pub begins_punctuator : ℕ → Bool
begins_punctuator c = is_of (codes "[](){}.-+&*~!/%<>=^|?:;,#") c

-- a backslash, or past ASCII
unfoldable pub is_beyond : ℕ → Bool
is_beyond c = (c == 92) || nat_le 128 c

-- the characters begin with this one
pub record IsFirst (c : ℕ) (s : List ℕ) : Type 0 where
  pub rest : List ℕ
  pub whole : s ≡ c ∷ rest
