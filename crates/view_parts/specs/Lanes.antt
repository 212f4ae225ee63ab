-- Tokens that are told by the numbers of their classes.
use Rattle.std.specs.Prelude.{Bool, ◌||◌, not}
use Rattle.token_classes.specs.declared.class.TokenClass.{TokenClass}
use Rattle.token_classes.specs.Classes.{is_close_brace, is_open_brace}

-- a token that is no `{` or `}`
abbrev pub is_flat : TokenClass → Bool
is_flat class = not (is_open_brace class || is_close_brace class)
