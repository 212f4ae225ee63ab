-- The classes of the items of a text, and of those of a view.
use Rattle.std.specs.Prelude.{◌<◌, ◌==◌, ◌&&◌, not, ℕ, Bool, List, Option, Some, None, All, length, map, slice_get}
use Rattle.c_chars.specs.declared.Dialect.{Dialect}
use Rattle.item_kinds.specs.declared.ItemKind.{ItemKind}
use Rattle.c_grammar.specs.Rewritten.{read_alone}
use Rattle.token_arena.specs.Gaps.{Contents}
use Rattle.token_arena.specs.Stored.{Stored}
use Rattle.token_classes.specs.declared.class.TokenClass.{TokenClass}
use Rattle.token_classes.specs.declared.class.TokenClass.TheVariants.{Literal, Text, LineComment, BlockComment, Other}
use Rattle.token_classes.specs.declared.class.TokenClass.TheVariants.{Nothing}
use Rattle.token_classes.specs.Words.{class_in, word_class, punctuators}

-- ## One item

-- the class of an item of this kind that is spelled so
abbrev pub class_spelled : ItemKind → List ℕ → TokenClass
class_spelled ItemKind.Identifier s = word_class s
class_spelled ItemKind.Punct s = class_in punctuators s Other
class_spelled ItemKind.StringLit s = Text
class_spelled ItemKind.Number s = Literal
class_spelled ItemKind.CharConst s = Literal
class_spelled ItemKind.HeaderName s = Literal
class_spelled ItemKind.LineComment s = LineComment
class_spelled ItemKind.BlockComment s = BlockComment
class_spelled _ s = Other

-- the class of an item of a text
abbrev pub class_of : Dialect → Stored → TokenClass
class_of d token = class_spelled token.kind (read_alone d token.raw)

-- a byte that begins neither a trigraph nor a splice nor a line end
abbrev pub is_itself : ℕ → Bool
is_itself b = not (b == 63) && (not (b == 13) && not (b == 92))

-- ## The items of a text, and of a view

-- each number is the number of an item
abbrev pub AreWithin : Contents → List ℕ → Type 0
AreWithin arena ids = All (λ id. id < length arena.tokens) ids

abbrev pub class_or_nothing : Dialect → Option Stored → TokenClass
class_or_nothing d None = Nothing
class_or_nothing d (Some token) = class_of d token

-- the class of the item with this number
abbrev pub item_class : Contents → ℕ → TokenClass
item_class arena id = class_or_nothing arena.dialect (slice_get arena.tokens id)

-- the class of each item of a text, in its order
abbrev pub item_classes : Contents → List TokenClass
item_classes arena = map (class_of arena.dialect) arena.tokens

-- the classes of the items with these numbers
abbrev pub classes_of : Contents → List ℕ → List TokenClass
classes_of arena ids = map (item_class arena) ids
