-- What the first characters of two items tell of whether they may touch.
use Rattle.std.specs.Prelude.{◌==◌, ◌&&◌, not, ℕ, Bool, List, [], ◌∷◌, codes}
use Rattle.std.specs.List.{list_any}
use Rattle.c_grammar.specs.Grammar.{common_punctuators}
use Rattle.c_grammar.specs.Touch.{is_front}

-- a byte that is a character wherever it stands, and no `?`
abbrev pub is_plain : ℕ → Bool
is_plain b = not (b == 63) && (not (b == 13) && (not (b == 92) && not (b == 239)))

-- `::`, what begins a comment, and the punctuators
abbrev pub going_on : List (List ℕ)
going_on = codes "::" ∷ codes "//" ∷ codes "/*" ∷ common_punctuators

-- the second characters of these
abbrev pub seconds : List ℕ
seconds = codes ":/*>+-<=&|#%."

-- the third characters of these
abbrev pub thirds : List ℕ
thirds = codes "=.%"

-- two characters begin one of these
abbrev pub pair_goes_on : ℕ → ℕ → Bool
pair_goes_on l r = list_any (is_front (l ∷ r ∷ [])) going_on
