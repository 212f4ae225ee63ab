-- What stands at a place of a view: a token, or a comment of one of three kinds.
use Rattle.std.specs.Prelude.{◌||◌, not, ℕ, ◌+◌, nat_le, Bool, if◌then◌else◌, length}
use Rattle.token_arena.specs.Gaps.{Contents, item_began}
use Rattle.token_classes.specs.declared.class.TokenClass.{TokenClass}
use Rattle.item_classes.specs.declared.part.Part.{Part}
use Rattle.item_classes.specs.declared.part.Part.TheVariants.{Token, Own, Trailing, Inner}
use Rattle.token_classes.specs.Classes.{is_comment, is_line_comment}

-- a new-line or the end of the file comes behind the item with this number
abbrev pub line_ends_behind : Contents → ℕ → Bool
line_ends_behind arena id = nat_le (length arena.tokens) (id + 1) || item_began arena (id + 1)

-- What an item of this class is, and whether a token that is no comment stands before it. At the view's start every
-- comment is on lines of its own, and so is one that began its line in the input.
abbrev pub part_of : Contents → ℕ → Bool → TokenClass → Part
part_of arena id started c =
    if not (is_comment c) then Token
    else (if not started || item_began arena id then Own
    else (if is_line_comment c || line_ends_behind arena id then Trailing else Inner))
