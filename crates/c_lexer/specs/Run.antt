-- How far the lexer reads on.
use Rattle.std.specs.Prelude.{◌==◌, ◌||◌, ◌&&◌, not, ℕ, Bool, false, List, [], ◌∷◌, if◌then◌else◌, take, drop}
use Rattle.std.specs.Prelude.{length, codes, nat_eq}
use Rattle.std.specs.List.{starts_with}
use Rattle.c_grammar.specs.Grammar.{is_of, is_digit, Shape}
use Rattle.c_grammar.specs.Items.{IsLongest}
use Rattle.c_grammar.specs.Touch.{starts}
use Rattle.c_chars.specs.declared.Dialect.{Dialect}
use Rattle.c_chars.specs.declared.Dialect.TheVariants.{C11, C23}

-- a digit, or a point before a digit
abbrev pub begins_number : List ℕ → Bool
begins_number [] = false
begins_number (f ∷ s) = is_digit f || (f == 46 && starts is_digit s)

-- The first n characters are the longest that spell an item.
abbrev pub IsCut : Dialect → Shape → List ℕ → ℕ → Type 0
IsCut d k s n = IsLongest d k (take n s) (drop n s)

-- the punctuators of two characters and more that both dialects have, each before those that it begins with
abbrev pub common_long : List (List ℕ)
common_long =
    codes "->" ∷ codes "==" ∷ codes "&&" ∷ codes "++" ∷ codes "||" ∷ codes "!=" ∷ codes "+=" ∷ codes "<=" ∷ codes ">="
    ∷ codes "--"
    ∷ codes "<<=" ∷ codes "<<" ∷ codes ">>=" ∷ codes ">>" ∷ codes "-=" ∷ codes "|=" ∷ codes "&=" ∷ codes "*="
    ∷ codes "/=" ∷ codes "%="
    ∷ codes "^=" ∷ codes "..." ∷ codes "##" ∷ codes "<:" ∷ codes ":>" ∷ codes "<%" ∷ codes "%>" ∷ codes "%:%:"
    ∷ codes "%:" ∷ []

-- those of the dialect
abbrev pub long : Dialect → List (List ℕ)
long C11 = common_long
long C23 = codes "::" ∷ common_long

-- the length of the first of these that begins the text, otherwise 1
abbrev pub first_front : List (List ℕ) → List ℕ → ℕ
first_front [] s = 1
first_front (p ∷ ps) s = if starts_with nat_eq s p then length p else first_front ps s

-- some punctuator of two characters and more begins with this one
unfoldable pub begins_long : ℕ → Bool
begins_long c = is_of (codes "-=&+|!<>*/%^.#:") c

-- some punctuator has this second character
unfoldable pub goes_on_long : ℕ → Bool
goes_on_long c = is_of (codes "=>&+|-<.:#%") c

-- these two characters are a punctuator, and none that is longer begins with them
unfoldable pub is_pair_mark : ℕ → ℕ → Bool
is_pair_mark a b =
    if b == 61 then is_of (codes "=!+<>-|&*/%^") a
    else (if b == 62 then a == 45 else (is_of (codes "&+|-#") b && a == b))

-- these two characters are a shift, and only an equals sign behind them makes it longer
unfoldable pub is_shift_mark : ℕ → ℕ → Bool
is_shift_mark a b = is_of (codes "<>") a && a == b

-- a punctuator is the first of these characters alone where the second comes behind it, whatever that begins
unfoldable pub is_alone_mark : ℕ → ℕ → Bool
is_alone_mark a b = not (goes_on_long b || is_of (codes "./") a)
