-- The items of a text of bytes: read over its logical characters, with their places in the text.
use Rattle.std.specs.Prelude.{◌≡◌, ℕ, ◌-◌, List, [], ◌∷◌, ◌++◌, take, drop, map, IsTrue}
use Rattle.c_grammar.specs.Items.{Place, LineStart, past_gap, past_item, is_gap, IsNext, Piece, Reads}
use Rattle.c_chars.specs.Characters.{bytes_of, logical}
use Rattle.c_chars.specs.declared.Dialect.{Dialect}
use Rattle.c_chars.specs.declared.LogicalChar.{LogicalChar}
use Rattle.item_kinds.specs.declared.ItemKind.{ItemKind}

-- an item as it is read from a text: the characters of the gap before it, and its own
pub record ReadItem : Type 0 where
  pub kind : ItemKind
  pub gap : List LogicalChar
  pub chars : List LogicalChar

-- the item without the places of its characters
abbrev pub piece_of : ReadItem → Piece
piece_of item = record { gap = bytes_of item.gap; kind = item.kind; spelling = bytes_of item.chars }

-- where these characters begin in the text; 0 where there is none
abbrev pub begin_of : List LogicalChar → ℕ
begin_of [] = 0
begin_of (c ∷ s) = c.from

-- where they end; 0 where there is none
abbrev pub finish_of : List LogicalChar → ℕ
finish_of [] = 0
finish_of (c ∷ []) = c.to
finish_of (c ∷ e ∷ s) = finish_of (e ∷ s)

-- the offset of the item's first byte
abbrev pub start_of : ReadItem → ℕ
start_of item = begin_of item.chars

-- the offset behind its last byte
abbrev pub end_of : ReadItem → ℕ
end_of item = finish_of item.chars

-- its bytes in the text, splices and trigraphs among them
abbrev pub raw_of : List ℕ → ReadItem → List ℕ
raw_of text item = take (end_of item - start_of item) (drop (start_of item) text)

-- the characters of the items with their gaps, and of the last gap
abbrev pub characters_of : List ReadItem → List LogicalChar → List LogicalChar
characters_of [] last = last
characters_of (item ∷ items) last = item.gap ++ (item.chars ++ characters_of items last)

-- These are the items of the text, and this is its last gap.
pub record LexesText (d : Dialect) (text : List ℕ) (items : List ReadItem) (last : List LogicalChar) : Type 0 where
  pub whole : logical d text ≡ characters_of items last
  pub reads : Reads d LineStart (map piece_of items) (bytes_of last)

-- what is left to read, and where it stands
pub record Left : Type 0 where
  pub place : Place
  pub chars : List LogicalChar

-- From what was left this item is next, and then that is left.
pub record IsStep (d : Dialect) (old new : Left) (item : ReadItem) : Type 0 where
  pub whole : old.chars ≡ item.gap ++ (item.chars ++ new.chars)
  pub white : IsTrue (is_gap (bytes_of item.gap))
  pub next : IsNext d (past_gap old.place (bytes_of item.gap)) item.kind (bytes_of item.chars) (bytes_of new.chars)
  pub place : new.place ≡ past_item d (past_gap old.place (bytes_of item.gap)) item.kind (bytes_of item.chars)

-- Each of these items is what stands next, and then that is left.
abbrev pub ReadsUpTo : Dialect → Left → List ReadItem → Left → Type 0
ReadsUpTo d old [] left = old ≡ left
ReadsUpTo d old (item ∷ items) left = (new : Left) × IsStep d old new item × ReadsUpTo d new items left

-- These items have been read from the start of the text, and that is left.
pub record IsReadUpTo (d : Dialect) (text : List ℕ) (items : List ReadItem) (left : Left) : Type 0 where
  pub steps : ReadsUpTo d (record { place = LineStart; chars = logical d text }) items left

-- A text has one list of items, and one last gap.
abbrev pub TextHasOneList : Type 0
TextHasOneList =
    (d : Dialect) (text : List ℕ) (items others : List ReadItem) (last end : List LogicalChar) →
    LexesText d text items last →
    LexesText d text others end →
    (items ≡ others) × (last ≡ end)
