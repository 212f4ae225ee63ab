-- Other bytes between the items of a text, where lines are broken and joined among them and gaps go.
use Rattle.std.specs.Prelude.{◌≡◌, ℕ, List, [], ◌∷◌, ◌++◌, take, map, IsTrue, IsFalse, ⊤}
use Rattle.c_chars.specs.Characters.{bytes_of, mark_len}
use Rattle.c_chars.specs.declared.Dialect.{Dialect}
use Rattle.c_chars.specs.declared.LogicalChar.{LogicalChar}
use Rattle.item_kinds.specs.declared.ItemKind.{ItemKind}
use Rattle.c_grammar.specs.Grammar.{is_same}
use Rattle.c_grammar.specs.Items.{Place, LineStart, past_gap, past_item, is_gap, Piece}
use Rattle.c_grammar.specs.Touch.{takes_line, may_touch, regapped}
use Rattle.c_grammar.specs.Text.{ReadItem, piece_of, raw_of, LexesText}
use Rattle.c_grammar.specs.Twin.{IsTwin}
use Rattle.c_grammar.specs.Regapping.{regapped_text}
use Rattle.c_grammar.specs.Fitting.{in_directive, no_hash_comes, IsFitEnd}
use Rattle.c_grammar.specs.Rewritten.{read_alone, IsGuarded, AreFitBytes}
use Rattle.touching.specs.Spelling.{spelling}
use Rattle.replacements.specs.OneLine.{AreLineBytes}

-- Between an item of this kind at this place and this item, before these others, a line may end or go on: the place is
-- in no directive (C11 6.10p2, p5), the left item doesn't take its line, and no `#` stands next, comments aside.
pub record MayBreak (place : Place) (left : ItemKind) (item : Piece) (after : List Piece) : Type 0 where
  pub in_text : IsFalse (in_directive place)
  pub goes_on : IsFalse (takes_line left)
  pub no_hash : IsTrue (no_hash_comes (regapped [] item ∷ after))

-- There a gap may stand that isn't empty, with or without a new-line, whatever stood there.
pub record IsTextGap (place : Place) (left : ItemKind) (item : Piece) (after : List Piece) (new : List ℕ) : Type 0 where
  pub breaks : MayBreak place left item after
  pub white : IsTrue (is_gap new)
  pub some : IsFalse (is_same new [])

-- Bytes that read as such a gap, and are guarded.
pub record AreTextBytes (d : Dialect) (place : Place) (left item : ReadItem) (after : List ReadItem) (new : List ℕ) :
    Type 0 where
  pub gap : IsTextGap place left.kind (piece_of item) (map piece_of after) (read_alone d new)
  pub guarded : IsGuarded left new

-- Where a line may end or go on, what stands between the two may go: they may touch as they are spelled.
pub record MayClose (d : Dialect) (text : List ℕ) (place : Place) (left item : ReadItem) (after : List ReadItem) :
    Type 0 where
  pub touch : IsTrue (may_touch left.kind (spelling d (raw_of text left)) item.kind (spelling d (raw_of text item)))
  pub breaks : MayBreak place left.kind (piece_of item) (map piece_of after)

-- Bytes that may stand between two items, the left one at the first place and the gap at the second, before these
-- others: such as may stand for the old ones, such as read as a gap of a text, none where those may go, or such as may
-- stand in a line.
pub data AreFreeBytes (d : Dialect) (text : List ℕ) (stood place : Place) (left item : ReadItem)
    (after : List ReadItem) (new : List ℕ) : Type 0 where
  FitBytes : AreFitBytes d place left item new → AreFreeBytes d text stood place left item after new
  TextBytes : AreTextBytes d place left item after new → AreFreeBytes d text stood place left item after new
  NoBytes : IsTrue (is_same new []) → MayClose d text place left item after →
      AreFreeBytes d text stood place left item after new
  LineBytes : AreLineBytes d text stood place left item new → AreFreeBytes d text stood place left item after new

-- such bytes before each of the items that come behind this one, which stands at the first place and leads to the
-- second, its places in the old text, and guarded bytes at the end
abbrev pub FreeBehind : Dialect → List ℕ → Place → Place → ReadItem → List (List ℕ) → List ReadItem → List ℕ → Type 0
FreeBehind d text stood place left [] [] end = IsGuarded left end
FreeBehind d text stood place left (gap ∷ gaps) (item ∷ items) end =
    AreFreeBytes d text stood place left item items gap
    × FreeBehind d text (past_gap place (bytes_of item.gap))
    (past_item d (past_gap place (bytes_of item.gap)) item.kind (bytes_of item.chars)) item gaps items end
FreeBehind d text stood place left [] (item ∷ items) end = ⊥
FreeBehind d text stood place left (gap ∷ gaps) [] end = ⊥

-- bytes before each item of a text: any gap before the first, and such ones before the others
abbrev pub FreeText : Dialect → List ℕ → List (List ℕ) → List ReadItem → List ℕ → Type 0
FreeText d text [] [] end = ⊤
FreeText d text (gap ∷ gaps) (item ∷ items) end =
    IsTrue (is_gap (read_alone d gap))
    × FreeBehind d text LineStart (past_item d LineStart item.kind (bytes_of item.chars)) item gaps items end
FreeText d text [] (item ∷ items) end = ⊥
FreeText d text (gap ∷ gaps) [] end = ⊥

-- Such bytes between the items of a text, and a last gap that may stand for the old one, give a twin, where no byte
-- order mark comes.
abbrev pub RewritesFreeGaps : Type 0
RewritesFreeGaps =
    (d : Dialect) (text : List ℕ) (items : List ReadItem) (last : List LogicalChar) (gaps : List (List ℕ))
    (end : List ℕ) →
    LexesText d text items last →
    FreeText d text gaps items end →
    IsFitEnd (map piece_of items) (bytes_of last) (read_alone d end) →
    (mark_len text ≡ 0 → mark_len (regapped_text gaps items text end) ≡ 0) →
    IsTwin d text (take (mark_len text) text ++ regapped_text gaps items text end)

-- Behind no first gap the first item begins with no byte order mark.
abbrev pub BeginsNoMark : List ℕ → List (List ℕ) → List ReadItem → Type 0
BeginsNoMark text (gap ∷ gaps) (item ∷ items) = gap ≡ [] → mark_len (raw_of text item) ≡ 0
BeginsNoMark text (gap ∷ gaps) [] = ⊤
BeginsNoMark text [] items = ⊤

-- Then no byte order mark comes of such bytes.
abbrev pub KeepsMarksAway : Type 0
KeepsMarksAway =
    (d : Dialect) (text : List ℕ) (items : List ReadItem) (last : List LogicalChar) (gaps : List (List ℕ))
    (end : List ℕ) →
    LexesText d text items last →
    FreeText d text gaps items end →
    IsTrue (is_gap (read_alone d end)) →
    BeginsNoMark text gaps items →
    mark_len (regapped_text gaps items text end) ≡ 0
