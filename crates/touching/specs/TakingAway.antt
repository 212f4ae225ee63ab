-- A text without the bytes between two of its items.
use Rattle.std.specs.Prelude.{◌&&◌, ℕ, Bool, false, List, [], ◌∷◌, ◌++◌, take, drop, map, codes, IsTrue, IsFalse}
use Rattle.std.specs.List.{list_any}
use Rattle.c_chars.specs.Characters.{bytes_of}
use Rattle.c_chars.specs.declared.Dialect.{Dialect}
use Rattle.c_chars.specs.declared.LogicalChar.{LogicalChar}
use Rattle.c_grammar.specs.Grammar.{is_new_line, is_same}
use Rattle.c_grammar.specs.Items.{Place, LineStart, AfterMacroName}
use Rattle.c_grammar.specs.Text.{ReadItem, piece_of, start_of, end_of, raw_of, LexesText}
use Rattle.c_grammar.specs.Touch.{is_punct, may_touch}
use Rattle.c_grammar.specs.Fitting.{place_behind}
use Rattle.c_grammar.specs.Twin.{IsTwin}
use Rattle.touching.specs.Spelling.{spelling}

-- the text without what stands between these two items
abbrev pub without_gap : List ℕ → ReadItem → ReadItem → List ℕ
without_gap text left item = take (end_of left) text ++ drop (start_of item) text

-- directly behind a macro's name the item would open its parameters, 6.10.3p10
abbrev pub would_open : Place → ReadItem → Bool
would_open AfterMacroName item = is_punct item.kind && is_same (bytes_of item.chars) (codes "(")
would_open place item = false

-- Where two items may touch as they are spelled, no new-line stands between them and the right one isn't the `(` behind
-- the name of a macro, the text without what stands between them is a twin of it.
abbrev pub TakesGapsAway : Type 0
TakesGapsAway =
    (d : Dialect) (text : List ℕ) (before after : List ReadItem) (l r : ReadItem) (last : List LogicalChar) →
    LexesText d text (before ++ l ∷ r ∷ after) last →
    IsTrue (may_touch l.kind (spelling d (raw_of text l)) r.kind (spelling d (raw_of text r))) →
    IsFalse (list_any is_new_line (bytes_of r.gap)) →
    IsFalse (would_open (place_behind d LineStart (map piece_of (before ++ l ∷ []))) r) →
    IsTwin d text (without_gap text l r)
