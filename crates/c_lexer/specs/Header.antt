-- Header names, as the lexer reads them.
use Rattle.std.specs.Prelude.{◌==◌, ℕ, ◌+◌, Bool, true, false, List, [], ◌∷◌, if◌then◌else◌}
use Rattle.c_grammar.specs.Grammar.{is_new_line}

-- the line has this last character of a name, and a character before it; `some`: one stands before these characters
abbrev pub ends_name : ℕ → Bool → List ℕ → Bool
ends_name last some [] = false
ends_name last some (c ∷ s) = if is_new_line c then false else (if c == last then some else ends_name last true s)

-- how many characters stand through that one
abbrev pub name_len : ℕ → List ℕ → ℕ
name_len last [] = 0
name_len last (c ∷ s) = if c == last then 1 else 1 + name_len last s

-- a header name begins these characters
abbrev pub begins_header : List ℕ → Bool
begins_header [] = false
begins_header (c ∷ s) = if c == 60 then ends_name 62 false s else (if c == 34 then ends_name 34 false s else false)

-- how many of them it has
abbrev pub header_len : List ℕ → ℕ
header_len [] = 0
header_len (c ∷ s) = 1 + name_len (if c == 60 then 62 else 34) s
