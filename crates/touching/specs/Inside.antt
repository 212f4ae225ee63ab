-- What the tables of edges tell, which only the functions of this crate look at.
use Rattle.std.specs.Prelude.{◌==◌, ℕ, Bool, true, false, if◌then◌else◌, List, [], ◌∷◌, ◌&&◌}
use Rattle.item_kinds.specs.declared.ItemKind.{ItemKind}
use Rattle.item_kinds.specs.declared.ItemKind.TheVariants.{Identifier, CharConst, StringLit, Punct}
use Rattle.item_kinds.specs.declared.ItemKind.TheVariants.{Number as NumberKind}
use Rattle.item_kinds.specs.declared.ItemKind.TheVariants.{HeaderName, StrayQuote, Other as OtherKind, BlockComment}
use Rattle.item_kinds.specs.declared.ItemKind.TheVariants.{LineComment}
use Rattle.touching.specs.declared.edge.Edge.{Edge}
use Rattle.touching.specs.declared.edge.Edge.TheVariants.{Name, Number, Quiet, Operator, Text, Comment, Ending, Point}
use Rattle.touching.specs.declared.edge.Edge.TheVariants.{Unknown}
use Rattle.touching.specs.declared.edge.First.{First}
use Rattle.touching.specs.declared.edge.First.TheVariants.{Letter, Digit, QuietMark, Mark, Slash, Quote, Apostrophe}
use Rattle.touching.specs.declared.edge.First.TheVariants.{Other}
use Rattle.touching.specs.Edges.{is_name_byte, is_number_byte, is_quiet, is_operator, known}

-- the row of a kind
abbrev pub kind_number : ItemKind → ℕ
kind_number Identifier = 0
kind_number NumberKind = 1
kind_number CharConst = 2
kind_number StringLit = 3
kind_number Punct = 4
kind_number HeaderName = 5
kind_number StrayQuote = 6
kind_number OtherKind = 7
kind_number BlockComment = 8
kind_number LineComment = 9

-- the column of a first byte
abbrev pub first_number : First → ℕ
first_number Letter = 0
first_number Digit = 1
first_number QuietMark = 2
first_number Mark = 3
first_number Slash = 4
first_number Quote = 5
first_number Apostrophe = 6
first_number Other = 7

-- the place of an edge
abbrev pub edge_number : Edge → ℕ
edge_number Name = 0
edge_number Number = 1
edge_number Quiet = 2
edge_number Operator = 3
edge_number Text = 4
edge_number Comment = 5
edge_number Ending = 6
edge_number Point = 7
edge_number Unknown = 8

-- what a byte is as the first of an item
abbrev pub first_of : ℕ → First
first_of b =
    if is_name_byte b then Letter
    else (if is_number_byte b then Digit
    else (if is_quiet b then QuietMark
    else (if b == 47 then Slash
    else (if is_operator b then Mark
    else (if b == 34 then Quote
    else (if b == 39 then Apostrophe
    else Other))))))

-- what a punctuator of one byte is to the items beside it, or a longer one as far as the first byte tells
abbrev pub mark_by : Bool → First → Edge
mark_by true first = Unknown
mark_by false QuietMark = Quiet
mark_by false Mark = Operator
mark_by false Slash = Operator
mark_by false _ = Unknown

-- what an item of this kind is to the items beside it, as far as its first byte tells it, and whether it is longer
abbrev pub edge_by : ItemKind → Bool → First → Edge
edge_by Identifier long Letter = Name
edge_by NumberKind long Digit = Number
edge_by CharConst long Apostrophe = Text
edge_by StringLit long Quote = Text
edge_by Punct long first = mark_by long first
edge_by BlockComment long Slash = Comment
edge_by LineComment long Slash = Ending
edge_by _ long first = Unknown

-- what an item is to the items beside it, where its first byte doesn't tell it
abbrev pub long_edge : ItemKind → List ℕ → Edge
long_edge Punct (a ∷ []) = known Point (a == 46)
long_edge Punct (a ∷ b ∷ []) = known Operator (is_operator a && is_operator b)
long_edge kind raw = Unknown
