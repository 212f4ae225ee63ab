-- How far the lexer reads on in a comment.
use Rattle.std.specs.Prelude.{◌==◌, ◌||◌, ◌&&◌, not, ℕ, ◌+◌, Bool, false, List, [], ◌∷◌, if◌then◌else◌}
use Rattle.c_grammar.specs.Grammar.{is_white, is_new_line}

-- `*/` stands in these characters, before which a star stands or doesn't
abbrev pub closes_block : Bool → List ℕ → Bool
closes_block star [] = false
closes_block star (c ∷ s) = (star && c == 47) || closes_block (c == 42) s

-- how many of them stand through the first `*/`
abbrev pub block_len : Bool → List ℕ → ℕ
block_len star [] = 0
block_len star (c ∷ s) = if star && c == 47 then 1 else 1 + block_len (c == 42) s

-- of white space and then m characters that a comment has, where it keeps its white space or doesn't
abbrev pub over_white : Bool → ℕ → ℕ
over_white keeps m = if m == 0 && not keeps then 0 else 1 + m

-- how many characters the line comment has whose last character that isn't white space is this one
abbrev pub line_len : ℕ → List ℕ → ℕ
line_len last [] = 0
line_len last (c ∷ s) =
    if is_new_line c then 0 else (if is_white c then over_white (last == 92) (line_len last s) else 1 + line_len c s)
