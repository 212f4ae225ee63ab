-- A walk over the characters of a text, item by item.
use Rattle.std.specs.Prelude.{◌≡◌, ◌<◌, ◌==◌, ◌||◌, not, ℕ, Bool, List, [], ◌∷◌, ◌++◌, length, find, Option, option_map}
use Rattle.std.specs.Prelude.{codes, nat_lt, if◌then◌else◌}
use Rattle.c_chars.specs.Characters.{bytes_of}
use Rattle.c_chars.specs.declared.LogicalChar.{LogicalChar}
use Rattle.c_grammar.specs.Grammar.{is_new_line, is_same}
use Rattle.c_grammar.specs.Items.{Place, past_gap}
use Rattle.c_grammar.specs.Text.{ReadItem, start_of, raw_of}
use Rattle.c_grammar.specs.Twin.{Part, part_of}
use Rattle.item_kinds.specs.declared.ItemKind.{ItemKind}
use Rattle.c_lexer.specs.Reading.{new_lines}
use Rattle.c_lexer.specs.declared.item.Lexeme.{Lexeme}
use Rattle.pp_model.specs.Stream.{Streamed, line_at, line_begun}

-- the characters up to the first that doesn't begin before this offset
abbrev pub before : ℕ → List LogicalChar → List LogicalChar
before end [] = []
before end (c ∷ s) = if nat_lt c.from end then c ∷ before end s else []

-- that character and those behind it
abbrev pub past : ℕ → List LogicalChar → List LogicalChar
past end [] = []
past end (c ∷ s) = if nat_lt c.from end then past end s else c ∷ s

-- the offset behind the first new-line of a gap
abbrev pub first_line_end : List LogicalChar → Option ℕ
first_line_end gap = option_map (λ c. c.to) (find (λ c. is_new_line c.byte) gap)

-- what an item is to a directive, behind white space or behind nothing
abbrev pub part_here : Place → (white : Bool) → ItemKind → List ℕ → Part
part_here place white kind s = part_of place (if white then codes " " else []) kind s

-- an item as phase 4 meets it, behind a comment or not, where what stands before its gap has this place
abbrev pub streamed_at : List ℕ → (after_comment : Bool) → Place → ReadItem → Streamed
streamed_at text after place i = record {
  part = part_of (past_gap place (bytes_of i.gap)) (bytes_of i.gap) i.kind (bytes_of i.chars);
  kind = i.kind;
  text = bytes_of i.chars;
  white = after || not (is_same (bytes_of i.gap) []);
  line = line_at text (start_of i);
  begun = line_begun text i.gap;
}

-- The lexer tells of these characters that this item is next, and then the rest comes.
pub record IsNextOf (text : List ℕ) (chars : List LogicalChar) (lexeme : Lexeme) (read : ReadItem)
    (rest : List LogicalChar) : Type 0 where
  pub whole : chars ≡ read.gap ++ (read.chars ++ rest)
  pub some : 0 < length read.chars
  pub kind_is : lexeme.item.kind ≡ read.kind
  pub start_is : lexeme.item.start ≡ start_of read
  pub raw_is : lexeme.item.raw.now ≡ raw_of text read
  pub lines_are : lexeme.lines ≡ new_lines read.gap
  pub white_is : lexeme.white ≡ not (length read.gap == 0)

-- It tells so of some item.
abbrev pub HasNext : List ℕ → List LogicalChar → Lexeme → Type 0
HasNext text chars lexeme = (read : ReadItem) × (rest : List LogicalChar) × IsNextOf text chars lexeme read rest
