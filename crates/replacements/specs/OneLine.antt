-- Bytes between two items of one line: white space without new-lines, splices among it, or nothing. A directive is such
-- a line (C11 6.10p2).
use Rattle.std.specs.Prelude.{◌≡◌, ◌⊎◌, ◌==◌, ◌||◌, ◌&&◌, not, ℕ, Bool, false, List, [], codes, IsTrue, IsFalse}
use Rattle.std.specs.List.{list_any}
use Rattle.c_chars.specs.Characters.{bytes_of}
use Rattle.c_chars.specs.declared.Dialect.{Dialect}
use Rattle.item_kinds.specs.declared.ItemKind.{ItemKind}
use Rattle.c_grammar.specs.Grammar.{is_new_line, is_same, is_of}
use Rattle.c_grammar.specs.Items.{Place, AfterInclude, is_gap}
use Rattle.c_grammar.specs.Text.{ReadItem, start_of, end_of, raw_of}
use Rattle.c_grammar.specs.Touch.{starts, is_punct, takes_line, may_touch}
use Rattle.c_grammar.specs.Rewritten.{read_alone, IsGuarded}
use Rattle.touching.specs.Spelling.{spelling}
use Rattle.touching.specs.TakingAway.{would_open}

-- Behind `include` a `<` directly before an item that begins with `>` begins no header name, since there is nothing in
-- it; with white space between the two it would (C11 6.4.7). The left item, of this kind, stands at this place.
abbrev pub would_name : Place → ItemKind → List ℕ → List ℕ → Bool
would_name AfterInclude kind left item = is_punct kind && (is_same left (codes "<") && starts (is_of (codes ">")) item)
would_name stood kind left item = false

-- Two items that don't stand side by side stay apart: white space stands between them where some stood, and bytes stand
-- there where some stood.
pub record IsKeptApart (d : Dialect) (left item : ReadItem) (new : List ℕ) : Type 0 where
  pub white : IsTrue (is_same (bytes_of item.gap) [] || not (is_same (read_alone d new) []))
  pub some : IsTrue (not (is_same new []) || (end_of left == start_of item))

-- Bytes that may stand between two items of one line, where the left one stands at the first place and the gap at the
-- second. They read as white space without new-lines, or as nothing, as splices do, and are guarded. The two may touch,
-- or are kept apart. Before a `(` directly behind a macro's name white space stands where some stood, and only there
-- (6.10.3p10). No header name comes.
pub record AreLineBytes (d : Dialect) (text : List ℕ) (stood place : Place) (left item : ReadItem) (new : List ℕ) :
    Type 0 where
  pub one_line : IsFalse (list_any is_new_line (bytes_of item.gap))
  pub goes_on : IsFalse (takes_line left.kind)
  pub white : IsTrue (is_gap (read_alone d new))
  pub no_line : IsFalse (list_any is_new_line (read_alone d new))
  pub apart : IsTrue (may_touch left.kind (spelling d (raw_of text left)) item.kind (spelling d (raw_of text item)))
      ⊎ IsKeptApart d left item new
  pub opens : IsTrue (would_open place item) → is_same (read_alone d new) [] ≡ is_same (bytes_of item.gap) []
  pub names : IsTrue (would_name stood left.kind (bytes_of left.chars) (bytes_of item.chars)) →
      IsTrue (is_same (read_alone d new) [])
  pub guarded : IsGuarded left new
