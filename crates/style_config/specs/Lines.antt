-- The lines of a configuration, and its documents. docs/PROFILE.md states the rules under "Configuration".
use Rattle.std.specs.Prelude.{ℕ, ◌+◌, Bool, true, false, ◌==◌, ◌||◌, ◌&&◌, Option, Some, None, if◌then◌else◌, List, []}
use Rattle.std.specs.Prelude.{◌∷◌, map, filter, length, nat_lt, bytes_eq, codes, slice_index, unwrap_or}
use Rattle.std.specs.List.{slice_split}
use Rattle.std.specs.Borrow.{Bor}
use Rattle.bstr.specs.Text.{lines_of, without_terminator}
use Rattle.style_table.specs.declared.style.Style.{Style}
use Rattle.style_table.specs.Named.{named}
use Rattle.style_config.specs.Texts.{Pair, pair_of, blanks_of, without_first_blanks, without_last_blanks}
use Rattle.style_config.specs.Texts.{begins_with_hash}
use Rattle.style_config.specs.declared.pair.Pair.{Pair as ReadPair}
use Rattle.style_config.specs.declared.line.Line.{Line as ReadLine}
use Rattle.style_config.specs.declared.line.Line.TheVariants as Read
use Rattle.style_config.specs.declared.line.NumberedLine.{NumberedLine as ReadNumberedLine}

-- what a line is, if it is no blank line and no comment: the mark of a document's begin or end; a key with its
-- value; a line that belongs to the last key, behind so many blanks; or none of these
pub data Line : Type 0 where
  Marker : Line
  Entry : Pair → Line
  Nested : ℕ → List ℕ → Line
  Malformed : Line

-- a blank line, or a comment
abbrev pub is_passed_over : List ℕ → Bool
is_passed_over text = let rest = without_first_blanks text in (length rest == 0) || begins_with_hash rest

-- a line that begins with blanks or with `- ` belongs to the last key
abbrev pub belongs_to_key : List ℕ → Bool
belongs_to_key text = nat_lt 0 (blanks_of text) || ((slice_index text 0 == 45) && (slice_index text 1 == 32))

-- `---` or `...`, blanks at the end aside
abbrev pub is_mark : List ℕ → Bool
is_mark text = let rest = without_last_blanks text in bytes_eq rest (codes "---") || bytes_eq rest (codes "...")

-- a line of the form of an entry, or of no form
abbrev pub entry_or_none : Option Pair → Line
entry_or_none (Some pair) = Entry pair
entry_or_none None = Malformed

-- what a line is; none where it is passed over
abbrev pub line_of : List ℕ → Option Line
line_of text =
    if is_passed_over text then None
    else if slice_index text 0 == 9 then Some Malformed
    else if belongs_to_key text then Some (Nested (blanks_of text) (without_first_blanks text))
    else if is_mark text then Some Marker
    else Some (entry_or_none (pair_of text))

-- a line with its number, counted from 1
pub record NumberedLine : Type 0 where
  pub number : ℕ
  pub line : Line

-- a line that isn't passed over is put before others
abbrev pub with_line : ℕ → Option Line → List NumberedLine → List NumberedLine
with_line number (Some line) rest = record { number = number; line = line } ∷ rest
with_line number None rest = rest

-- the lines that aren't passed over, the first text being that of this number
unfoldable pub numbered_from : ℕ → List (List ℕ) → List NumberedLine
numbered_from number [] = []
numbered_from number (text ∷ rest) = with_line number (line_of text) (numbered_from (number + 1) rest)

-- the lines of a text, cut at each `\n`, a `\r` before it dropped
abbrev pub lines_in : List ℕ → List NumberedLine
lines_in text = numbered_from 1 (map without_terminator (lines_of text))

abbrev pub is_marker : Line → Bool
is_marker Marker = true
is_marker _ = false

-- the documents: what stands between the marks
abbrev pub documents : List NumberedLine → List (List NumberedLine)
documents lines = slice_split (λ line. is_marker line.line) lines

-- the value of this key, if it is that of the line
abbrev pub value_at : List ℕ → Line → Option (List ℕ)
value_at key (Entry pair) = if bytes_eq pair.key key then Some pair.value else None
value_at key Marker = None
value_at key (Nested width text) = None
value_at key Malformed = None

-- the languages that a document may be for
abbrev pub is_language_of_c : List ℕ → Bool
is_language_of_c value = bytes_eq value (codes "Cpp") || bytes_eq value (codes "C")

-- by the value, if there is one, or else by another answer
abbrev pub by_value : Option (List ℕ) → (List ℕ → Bool) → Bool → Bool
by_value (Some value) test other = test value
by_value None test other = other

-- a document is for C where its first `Language` says so, or none says anything
unfoldable pub is_for_c : List NumberedLine → Bool
is_for_c [] = true
is_for_c (line ∷ rest) = by_value (value_at (codes "Language") line.line) is_language_of_c (is_for_c rest)

-- the documents that are read
abbrev pub documents_for_c : List NumberedLine → List (List NumberedLine)
documents_for_c lines = filter is_for_c (documents lines)

-- the style that a line is based on, or the one before
abbrev pub based_on : Style → Option (List ℕ) → Style
based_on style (Some value) = unwrap_or (named value) style
based_on style None = style

-- the style that the last `BasedOnStyle` of a document names, or the one before
unfoldable pub base_after : Style → List NumberedLine → Style
base_after style [] = style
base_after style (line ∷ rest) = base_after (based_on style (value_at (codes "BasedOnStyle") line.line)) rest

-- the texts of lines that were read
abbrev pub pair_text : ReadPair → Pair
pair_text pair = record { key = pair.key.now; value = pair.value.now; is_quoted = pair.is_quoted }

abbrev pub line_text : ReadLine → Line
line_text Read.Marker = Marker
line_text (Read.Entry pair) = Entry (pair_text pair)
line_text (Read.Nested width text) = Nested width text.now
line_text Read.Malformed = Malformed

abbrev pub numbered_text : ReadNumberedLine → NumberedLine
numbered_text line = record { number = line.number; line = line_text line.line }

abbrev pub document_text : List ReadNumberedLine → List NumberedLine
document_text lines = map numbered_text lines

-- the texts of documents that were read
abbrev pub documents_text : List (Bor (List ReadNumberedLine)) → List (List NumberedLine)
documents_text documents = map (λ document. document_text document.now) documents

-- the style that all these documents are based on
unfoldable pub base_of : Style → List (List NumberedLine) → Style
base_of style [] = style
base_of style (document ∷ rest) = base_of (base_after style document) rest
