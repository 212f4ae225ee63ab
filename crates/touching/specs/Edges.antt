-- What the first bytes of an item tell of the items beside it.
use Rattle.std.specs.Prelude.{◌==◌, ◌||◌, ◌&&◌, ℕ, nat_le, Bool, true, false, if◌then◌else◌, Option, Some, None, List}
use Rattle.std.specs.Prelude.{[], ◌∷◌, codes}
use Rattle.c_grammar.specs.Grammar.{is_of}
use Rattle.item_kinds.specs.declared.ItemKind.{ItemKind}
use Rattle.item_kinds.specs.declared.ItemKind.TheVariants.{Identifier, Punct, StringLit, CharConst}
use Rattle.item_kinds.specs.declared.ItemKind.TheVariants.{Number as NumberKind}
use Rattle.item_kinds.specs.declared.ItemKind.TheVariants.{BlockComment, LineComment}
use Rattle.touching.specs.declared.edge.Edge.{Edge}
use Rattle.touching.specs.declared.edge.Edge.TheVariants.{Name, Number, Quiet, Operator, Text, Comment, Ending, Point}
use Rattle.touching.specs.declared.edge.Edge.TheVariants.{Unknown}

-- a letter of ASCII or `_`
abbrev pub is_name_byte : ℕ → Bool
is_name_byte b = ((nat_le 65 b && nat_le b 90) || (nat_le 97 b && nat_le b 122)) || b == 95

-- a digit
abbrev pub is_number_byte : ℕ → Bool
is_number_byte b = nat_le 48 b && nat_le b 57

-- a punctuator by itself, with which no other begins, and which is no later character of another
abbrev pub is_quiet : ℕ → Bool
is_quiet b = is_of (codes "(),;[]{}") b

-- a character of the other punctuators, but for `.` and `?`
abbrev pub is_operator : ℕ → Bool
is_operator b = is_of (codes "!#%&*+-/:<=>^|~") b

-- an edge, where that is known
abbrev pub known : Edge → Bool → Edge
known edge is = if is then edge else Unknown

-- what a punctuator of one byte is to the items beside it
abbrev pub byte_edge : ℕ → Edge
byte_edge b = if is_quiet b then Quiet else (if is_operator b then Operator else (if b == 46 then Point else Unknown))

-- what a punctuator with these bytes is to the items beside it
abbrev pub punct_edge : List ℕ → Edge
punct_edge [] = Unknown
punct_edge (a ∷ []) = byte_edge a
punct_edge (a ∷ b ∷ []) = known Operator (is_operator a && is_operator b)
punct_edge (a ∷ b ∷ c ∷ raw) = Unknown

-- the first byte passes
abbrev pub begins_with : (ℕ → Bool) → List ℕ → Bool
begins_with test [] = false
begins_with test (b ∷ raw) = test b

-- what an item of this kind with these bytes is to the items beside it
abbrev pub edge_of : ItemKind → List ℕ → Edge
edge_of Identifier raw = known Name (begins_with is_name_byte raw)
edge_of NumberKind raw = known Number (begins_with is_number_byte raw)
edge_of Punct raw = punct_edge raw
edge_of StringLit raw = known Text (begins_with (λ b. b == 34) raw)
edge_of CharConst raw = known Text (begins_with (λ b. b == 39) raw)
edge_of BlockComment raw = known Comment (begins_with (λ b. b == 47) raw)
edge_of LineComment raw = known Ending (begins_with (λ b. b == 47) raw)
edge_of _ raw = Unknown

-- behind a name
abbrev pub touch_of_name : Edge → Option Bool
touch_of_name Unknown = None
touch_of_name Name = Some false
touch_of_name Number = Some false
touch_of_name Text = None
touch_of_name _ = Some true

-- behind a number
abbrev pub touch_of_number : Edge → Option Bool
touch_of_number Unknown = None
touch_of_number Name = Some false
touch_of_number Number = Some false
touch_of_number Operator = None
touch_of_number Text = None
touch_of_number Point = None
touch_of_number _ = Some true

-- behind an operator
abbrev pub touch_of_operator : Edge → Option Bool
touch_of_operator Unknown = None
touch_of_operator Operator = None
touch_of_operator Comment = None
touch_of_operator Ending = None
touch_of_operator Point = None
touch_of_operator _ = Some true

-- behind a point
abbrev pub touch_of_point : Edge → Option Bool
touch_of_point Name = Some true
touch_of_point _ = None

-- behind an item with which nothing goes on
abbrev pub touch_behind : Bool → Edge → Option Bool
touch_behind touch Unknown = None
touch_behind touch _ = Some touch

-- whether two items may touch, where what they are to one another tells it
abbrev pub touch_of : Edge → Edge → Option Bool
touch_of Name right = touch_of_name right
touch_of Number right = touch_of_number right
touch_of Quiet right = touch_behind true right
touch_of Operator right = touch_of_operator right
touch_of Text right = touch_behind true right
touch_of Comment right = touch_behind true right
touch_of Ending right = touch_behind false right
touch_of Point right = touch_of_point right
touch_of Unknown right = None
