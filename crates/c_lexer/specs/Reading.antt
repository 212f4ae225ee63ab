-- A text that is being read, the item that comes next, and what it and the gap before it tell.
use Rattle.std.specs.Prelude.{◌≡◌, ◌≤◌, ◌==◌, ◌||◌, ◌&&◌, not, ℕ, ◌+◌, ◌-◌, Bool, false, List, [], ◌∷◌, ⊤, length, take}
use Rattle.std.specs.Prelude.{get_or, sum_by, count_by, IsTrue}
use Rattle.std.specs.Int.{is_in_range}
use Rattle.std.specs.List.{prefix_len}
use Rattle.c_chars.specs.Characters.{bytes_of, is_plain}
use Rattle.c_chars.specs.Coming.{Coming, AreBytesPassed, behind}
use Rattle.c_chars.specs.declared.Dialect.{Dialect}
use Rattle.c_chars.specs.declared.LogicalChar.{LogicalChar}
use Rattle.c_grammar.specs.Grammar.{is_white, is_new_line}
use Rattle.item_kinds.specs.declared.ItemKind.{ItemKind}
use Rattle.c_grammar.specs.Text.{Left, ReadItem, IsStep, start_of, raw_of}
use Rattle.c_lexer.specs.declared.item.Lexeme.{Lexeme}

-- a text, the dialect that it is read in, what is left of it, and the offset behind the last item that was read
pub record Reading : Type 0 where
  pub text : List ℕ
  pub dialect : Dialect
  pub left : Left
  pub at : ℕ

-- The next item of the text has this kind, starts at this offset and has these bytes; `new` is what is left behind it.
pub record IsNextItem (old new : Reading) (kind : ItemKind) (start : ℕ) (raw : List ℕ) : Type 0 where
  pub read : ReadItem
  pub step : IsStep old.dialect old.left new.left read
  pub kind_is : kind ≡ read.kind
  pub start_is : start ≡ start_of read
  pub raw_is : raw ≡ raw_of old.text read

-- how many new-lines there are among these characters
abbrev pub new_lines : List LogicalChar → ℕ
new_lines s = count_by (λ c. is_new_line c.byte) s

-- how many bytes of the text these characters are; a spliced line end is in no character
abbrev pub bytes_in : List LogicalChar → ℕ
bytes_in s = sum_by (λ c. c.to - c.from) s

-- a backslash is the last of these characters
abbrev pub ends_in_backslash : List LogicalChar → Bool
ends_in_backslash [] = false
ends_in_backslash (c ∷ []) = c.byte == 92
ends_in_backslash (c ∷ e ∷ s) = ends_in_backslash (e ∷ s)

-- the gap that these characters begin with (C11 6.4p3)
abbrev pub first_gap : List LogicalChar → List LogicalChar
first_gap s = take (prefix_len (λ c. is_white c || is_new_line c) (bytes_of s)) s

-- The gap that the text begins with has so many new-lines and its characters so many bytes, and then that is left.
pub record IsGap (text : Coming) (lines bytes : ℕ) (rest : Coming) : Type 0 where
  pub lines_are : lines ≡ new_lines (first_gap text.chars)
  pub bytes_are : bytes ≡ bytes_in (first_gap text.chars)
  pub rest_is : rest ≡ behind text (prefix_len (λ c. is_white c || is_new_line c) (bytes_of text.chars))

-- The text begins with this character, and then that is left.
pub record IsBegun (text : Coming) (first : LogicalChar) (left : Coming) : Type 0 where
  pub chars_are : text.chars ≡ first ∷ left.chars
  pub at_is : left.at ≡ first.to
  pub dialect_is : left.dialect ≡ text.dialect

-- a printable character of ASCII that is a character by itself, whatever stands behind it
unfoldable pub is_own_byte : ℕ → Bool
is_own_byte b = is_in_range 0x20 0x7E b && is_plain b

-- An item begins with this character, goes on behind it up to what is left, and is of such characters; those behind the
-- first are bytes by themselves.
pub record AreOwnBytes (first : LogicalChar) (behind left : Coming) : Type 0 where
  pub first_is : IsTrue (is_own_byte first.byte)
  pub rest_are : AreBytesPassed is_own_byte behind left

-- The next item of the text is this one, and this is what its characters and those of its gap tell.
pub record IsNextLexeme (old new : Reading) (lexeme : Lexeme) : Type 0 where
  pub next : IsNextItem old new lexeme.item.kind lexeme.item.start lexeme.item.raw.now
  pub lines_are : lexeme.lines ≡ new_lines next.read.gap
  pub bytes_are : lexeme.bytes ≡ bytes_in next.read.gap
  pub white_is : lexeme.white ≡ not (length next.read.gap == 0)
  pub back_is : lexeme.back ≡ ends_in_backslash next.read.chars

-- a backslash may end with these two bytes: by itself, or as its trigraph (C11 5.2.1.1)
unfoldable pub ends_backslash : ℕ → ℕ → Bool
ends_backslash before last = last == 92 || (before == 63 && last == 47)

-- The raw bytes of each backslash among these characters of the text end so.
abbrev pub AreSlashed : List ℕ → List LogicalChar → Type 0
AreSlashed text [] = ⊤
AreSlashed text (c ∷ s) =
    (c.byte ≡ 92 → IsTrue (ends_backslash (get_or text (c.to - 2) 0) (get_or text (c.to - 1) 0))) × AreSlashed text s

-- Each of these characters of the text that has one byte is that byte.
abbrev pub AreRaw : List ℕ → List LogicalChar → Type 0
AreRaw text [] = ⊤
AreRaw text (c ∷ s) = (c.to ≡ c.from + 1 → c.byte ≡ get_or text c.from 0) × AreRaw text s

-- It holds of the characters up to what is left of them.
abbrev pub BeforeLeft : Coming → Coming → (List LogicalChar → Type 0) → Type 0
BeforeLeft chars left Holds = (n : ℕ) → n ≤ length chars.chars → left ≡ behind chars n → Holds (take n chars.chars)
