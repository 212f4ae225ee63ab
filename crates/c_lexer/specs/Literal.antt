-- Literals with a prefix, as the lexer reads them.
use Rattle.std.specs.Prelude.{◌==◌, ◌||◌, ◌&&◌, ◌+◌, not, ℕ, Bool, false, List, [], ◌∷◌, ◌++◌, length, drop, codes}
use Rattle.std.specs.Prelude.{nat_eq, if◌then◌else◌}
use Rattle.std.specs.List.{list_any, starts_with}
use Rattle.c_chars.specs.declared.Dialect.{Dialect}
use Rattle.c_grammar.specs.Grammar.{is_char_prefix, is_of}
use Rattle.c_grammar.specs.Touch.{starts}
use Rattle.c_lexer.specs.Quote.{closes_quote}

-- this prefix and a string literal's body between its quotes begin the characters
abbrev pub is_string_at : List ℕ → List ℕ → Bool
is_string_at p s = starts_with nat_eq s (p ++ 34 ∷ []) && closes_quote 34 false (drop (length p + 1) s)

-- this prefix and a character constant's body between its apostrophes begin them
abbrev pub is_constant_at : List ℕ → List ℕ → Bool
is_constant_at p s =
    starts_with nat_eq s (p ++ 39 ∷ [])
    && (not (starts (λ c. c == 39) (drop (length p + 1) s)) && closes_quote 39 false (drop (length p + 1) s))

-- a literal with this prefix begins them
abbrev pub is_literal : Dialect → List ℕ → List ℕ → Bool
is_literal d p s = is_string_at p s || (is_char_prefix d p && is_constant_at p s)

-- a literal with a prefix begins them
abbrev pub begins_literal : Dialect → List ℕ → Bool
begins_literal d s = list_any (λ p. is_literal d p s) (codes "L" ∷ codes "u" ∷ codes "U" ∷ codes "u8" ∷ [])

-- how many characters the prefix of a literal has that begins them; 0 where none does
abbrev pub prefix_len : List ℕ → ℕ
prefix_len s = if starts_with nat_eq s (codes "u8") then 2 else (if starts (is_of (codes "LuU")) s then 1 else 0)
