-- What is kept of an item: its kind and bytes, the gap before it, its line, its rows, and whether a backslash ends it.
use Rattle.std.specs.Prelude.{chars, ◌==◌, ◌||◌, not, ℕ, ◌+◌, ◌-◌, Bool, true, false, List, [], ◌∷◌, length, take}
use Rattle.std.specs.Prelude.{count_by, if◌then◌else◌}
use Rattle.std.specs.List.{position_or_len, before_first, after_last}
use Rattle.std.specs.Io.BufRead.{strip_last}
use Rattle.std.specs.Str.Lossy.{utf8_valid_len}
use Rattle.unicode_width.specs.Width.{str_width}
use Rattle.c_chars.specs.Characters.{mark_len}
use Rattle.c_grammar.specs.Text.{ReadItem, start_of, end_of, raw_of}
use Rattle.item_kinds.specs.declared.ItemKind.{ItemKind}
pub use Rattle.c_lexer.specs.Reading.{new_lines, bytes_in, ends_in_backslash}
use Rattle.line_tokens.specs.declared.GapFacts.{GapFacts}

-- The white space before an item.

-- the gap before an item that begins at this offset, and is the first of its text or not
abbrev pub gap_facts : Bool → ℕ → ReadItem → GapFacts
gap_facts is_first from item = record {
  lines = new_lines item.gap;
  empty = start_of item == from;
  white = not (length item.gap == 0);
  splice = not (bytes_in item.gap == start_of item - from);
  began = is_first || not (new_lines item.gap == 0);
}

-- Physical lines.

abbrev pub is_line_feed : ℕ → Bool
is_line_feed b = b == 10

-- the physical line, from 1, in which the byte at this offset stands
abbrev pub line_at : List ℕ → ℕ → ℕ
line_at text at = 1 + count_by is_line_feed (take at text)

-- how many physical lines these bytes stand in
abbrev pub rows_of : List ℕ → ℕ
rows_of raw = 1 + count_by is_line_feed raw

-- the bytes of the first line of these, without the line end
abbrev pub first_row : List ℕ → List ℕ
first_row raw =
    if position_or_len is_line_feed raw == length raw then raw else strip_last 13 (before_first is_line_feed raw)

-- the bytes of the last line of these
abbrev pub last_row : List ℕ → List ℕ
last_row raw = after_last is_line_feed raw

-- how many columns a row takes: by the widths of its characters (Unicode Standard Annex 11); a row that is no UTF-8
-- takes one for each byte
abbrev pub width_of : List ℕ → ℕ
width_of row = if utf8_valid_len row == length row then str_width false (chars row) else length row

-- The item.

-- what is kept of an item
pub record Stored : Type 0 where
  pub kind : ItemKind
  pub start : ℕ
  pub raw : List ℕ
  pub gap : GapFacts
  pub line : ℕ
  pub rows : ℕ
  pub first_width : ℕ
  pub last_width : ℕ
  pub back : Bool

-- what is kept of an item of the text whose gap begins at this offset
abbrev pub stored_of : List ℕ → Bool → ℕ → ReadItem → Stored
stored_of text is_first from item = record {
  kind = item.kind;
  start = start_of item;
  raw = raw_of text item;
  gap = gap_facts is_first from item;
  line = line_at text (start_of item);
  rows = rows_of (raw_of text item);
  first_width = width_of (first_row (raw_of text item));
  last_width = width_of (last_row (raw_of text item));
  back = ends_in_backslash item.chars;
}

-- what is kept of items that follow one another, where the first gap begins at this offset
abbrev pub stored_from : List ℕ → Bool → ℕ → List ReadItem → List Stored
stored_from text is_first from [] = []
stored_from text is_first from (item ∷ items) =
    stored_of text is_first from item ∷ stored_from text false (end_of item) items

-- what is kept of all items of a text
abbrev pub stored_items : List ℕ → List ReadItem → List Stored
stored_items text items = stored_from text true (mark_len text) items
