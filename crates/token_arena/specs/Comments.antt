-- The comments among the items of a text.
use Rattle.std.specs.Prelude.{ℕ, ◌+◌, List, [], ◌∷◌, if◌then◌else◌}
use Rattle.c_grammar.specs.Fitting.{is_comment}
use Rattle.token_arena.specs.Stored.{Stored}

-- the numbers of the comments among these items, of which the first has this number
abbrev pub comments_from : ℕ → List Stored → List ℕ
comments_from at [] = []
comments_from at (token ∷ tokens) =
    if is_comment token.kind then at ∷ comments_from (at + 1) tokens else comments_from (at + 1) tokens
