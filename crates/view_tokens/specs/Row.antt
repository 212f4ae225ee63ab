-- Tokens whose items follow one another in the text.
use Rattle.std.specs.Prelude.{◌≤◌, ℕ, ◌+◌, Bool, false, List, [], ◌∷◌, length, take}
use Rattle.line_tokens.specs.declared.LineTok.{LineTok}
use Rattle.token_arena.specs.Gaps.{Contents}
use Rattle.token_roles.specs.declared.mark.Mark.{Mark}
use Rattle.token_roles.specs.Held.{is_held}
use Rattle.view_tokens.specs.Tokens.{tok_of}

-- the tokens of items from this one on, of which this is told; a directive stands before the first of them or doesn't
abbrev pub row_from : Contents → ℕ → Bool → List Mark → List LineTok
row_from arena id apart [] = []
row_from arena id apart (mark ∷ marks) =
    tok_of arena id apart mark (is_held (mark ∷ marks)) ∷ row_from arena (id + 1) false marks

-- so many of them; whether one stays where it stood is told by those behind it too
abbrev pub row_of : Contents → ℕ → Bool → List Mark → ℕ → List LineTok
row_of arena id apart marks count = take count (row_from arena id apart marks)

-- so many of them are items of the text, and something is told of each
pub record IsRow (arena : Contents) (id : ℕ) (marks : List Mark) (count : ℕ) : Type 0 where
  pub items : id + count ≤ length arena.tokens
  pub told : count ≤ length marks
