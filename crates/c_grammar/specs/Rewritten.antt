-- Other bytes between the items of a text.
use Rattle.std.specs.Prelude.{◌≡◌, ◌==◌, ◌||◌, ◌&&◌, not, ℕ, ◌-◌, Bool, true, false, List, [], ◌∷◌, ◌++◌, take, drop}
use Rattle.std.specs.Prelude.{map, IsTrue, IsFalse, ⊤}
use Rattle.c_chars.specs.Characters.{bytes_of, chars, mark_len, begins_line_end}
use Rattle.c_chars.specs.declared.Dialect.{Dialect}
use Rattle.c_chars.specs.declared.LogicalChar.{LogicalChar}
use Rattle.c_grammar.specs.Grammar.{is_same}
use Rattle.c_grammar.specs.Items.{Place, LineStart, past_gap, past_item, is_gap}
use Rattle.c_grammar.specs.Touch.{starts, ends}
use Rattle.c_grammar.specs.Text.{ReadItem, piece_of, start_of, end_of, LexesText}
use Rattle.c_grammar.specs.Twin.{IsTwin}
use Rattle.c_grammar.specs.Regapping.{regapped_text}
use Rattle.c_grammar.specs.Fitting.{IsFitGap, IsFitEnd}

-- what bytes read as by themselves
abbrev pub read_alone : Dialect → List ℕ → List ℕ
read_alone d bytes = bytes_of (chars d 0 bytes)

-- The bytes behind an item make no splice with its last backslash, and no `\r\n` with its last carriage return.
pub record IsGuarded (left : ReadItem) (new : List ℕ) : Type 0 where
  pub backslash : IsFalse (ends (λ c. c == 92) (bytes_of left.chars) && begins_line_end new)
  pub return : IsFalse (ends (λ c. c == 13) (bytes_of left.chars) && starts (λ c. c == 10) new)

-- Bytes that may stand between two items, the right one at this place: what they read as may stand for the gap, they
-- are guarded, and there are none only where there were none.
pub record AreFitBytes (d : Dialect) (place : Place) (left item : ReadItem) (new : List ℕ) : Type 0 where
  pub fits : IsFitGap place left.kind (bytes_of item.gap) (read_alone d new)
  pub guarded : IsGuarded left new
  pub some : IsTrue (not (is_same new []) || (end_of left == start_of item))

-- such bytes before each of the items that come behind this one at this place, and guarded bytes at the end
abbrev pub FitBehind : Dialect → Place → ReadItem → List (List ℕ) → List ReadItem → List ℕ → Type 0
FitBehind d place left [] [] end = IsGuarded left end
FitBehind d place left (gap ∷ gaps) (item ∷ items) end =
    AreFitBytes d place left item gap
    × FitBehind d (past_item d (past_gap place (bytes_of item.gap)) item.kind (bytes_of item.chars)) item gaps items
    end
FitBehind d place left [] (item ∷ items) end = ⊥
FitBehind d place left (gap ∷ gaps) [] end = ⊥

-- bytes before each item of a text: any gap before the first, and such ones before the others
abbrev pub FitText : Dialect → List (List ℕ) → List ReadItem → List ℕ → Type 0
FitText d [] [] end = ⊤
FitText d (gap ∷ gaps) (item ∷ items) end =
    IsTrue (is_gap (read_alone d gap))
    × FitBehind d (past_item d LineStart item.kind (bytes_of item.chars)) item gaps items end
FitText d [] (item ∷ items) end = ⊥
FitText d (gap ∷ gaps) [] end = ⊥

-- Other bytes between the items, of which none read otherwise than as gaps that may stand for the old ones, give a
-- twin, where no byte order mark comes.
abbrev pub RewritesGaps : Type 0
RewritesGaps =
    (d : Dialect) (text : List ℕ) (items : List ReadItem) (last : List LogicalChar) (gaps : List (List ℕ))
    (end : List ℕ) →
    LexesText d text items last →
    FitText d gaps items end →
    IsFitEnd (map piece_of items) (bytes_of last) (read_alone d end) →
    (mark_len text ≡ 0 → mark_len (regapped_text gaps items text end) ≡ 0) →
    IsTwin d text (take (mark_len text) text ++ regapped_text gaps items text end)

-- the bytes between two items of a text
abbrev pub kept_bytes : List ℕ → ReadItem → ReadItem → List ℕ
kept_bytes text left item = take (start_of item - end_of left) (drop (end_of left) text)

-- The bytes between two items that stand side by side may stay there.
abbrev pub KeptBytesFit : Type 0
KeptBytesFit =
    (d : Dialect) (text : List ℕ) (before after : List ReadItem) (left item : ReadItem) (last : List LogicalChar)
    (place : Place) →
    LexesText d text (before ++ left ∷ item ∷ after) last →
    AreFitBytes d place left item (kept_bytes text left item)

-- White space as it is written: a blank, a tab, a line end and a splice, these two as `\n` or as `\r\n`.
pub data White : Type 0 where
  Blank : White
  Tab : White
  LineEnd : Bool → White
  Splice : Bool → White

-- a line end, `\r\n` or `\n`
abbrev pub line_end : Bool → List ℕ
line_end true = 13 ∷ 10 ∷ []
line_end false = 10 ∷ []

-- its bytes
abbrev pub white_bytes : List White → List ℕ
white_bytes [] = []
white_bytes (Blank ∷ ws) = 32 ∷ white_bytes ws
white_bytes (Tab ∷ ws) = 9 ∷ white_bytes ws
white_bytes (LineEnd crlf ∷ ws) = line_end crlf ++ white_bytes ws
white_bytes (Splice crlf ∷ ws) = 92 ∷ (line_end crlf ++ white_bytes ws)

-- its characters
abbrev pub white_chars : List White → List ℕ
white_chars [] = []
white_chars (Blank ∷ ws) = 32 ∷ white_chars ws
white_chars (Tab ∷ ws) = 9 ∷ white_chars ws
white_chars (LineEnd crlf ∷ ws) = 10 ∷ white_chars ws
white_chars (Splice crlf ∷ ws) = white_chars ws

-- White space reads as it is meant.
abbrev pub WhiteReadsSo : Type 0
WhiteReadsSo = (d : Dialect) (ws : List White) → read_alone d (white_bytes ws) ≡ white_chars ws
