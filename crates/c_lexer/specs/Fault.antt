-- Why no item is read, and where a lexer stands in its text.
use Rattle.std.specs.Prelude.{◌≡◌, ◌||◌, ℕ, List, [], length, drop}
use Rattle.std.specs.List.{prefix_len}
use Rattle.c_chars.specs.Characters.{bytes_of}
use Rattle.c_chars.specs.Coming.{Coming, AreBetween}
use Rattle.c_chars.specs.declared.Dialect.{Dialect}
use Rattle.c_chars.specs.declared.LogicalChar.{LogicalChar}
use Rattle.c_grammar.specs.Grammar.{Unended, is_white, is_new_line}
use Rattle.c_grammar.specs.Items.{IsLongest}
use Rattle.c_grammar.specs.Text.{ReadItem, Left, IsReadUpTo, begin_of}
use Rattle.c_lexer.specs.Reading.{Reading}
use Rattle.c_lexer.specs.declared.cut.Stop.{Stop}
use Rattle.c_lexer.specs.declared.cut.Stop.TheVariants.{Unterminated}
use Rattle.c_lexer.specs.declared.fault.LexFault.{LexFault}
use Rattle.c_lexer.specs.declared.fault.LexFault.TheVariants.{UnterminatedComment}

-- what stands behind the gap that these characters begin with
abbrev pub past_blank : List LogicalChar → List LogicalChar
past_blank s = drop (prefix_len (λ c. is_white c || is_new_line c) (bytes_of s)) s

-- Behind the gap a block comment begins that nothing ends.
abbrev pub IsFault : Reading → LexFault → Type 0
IsFault old (UnterminatedComment start) =
    (start ≡ begin_of (past_blank old.left.chars))
    × IsLongest old.dialect Unended (bytes_of (past_blank old.left.chars)) []

-- why no item is cut off at this offset
abbrev pub fault_of : Stop → ℕ → LexFault
fault_of Unterminated start = UnterminatedComment start

-- These characters are to come in this text.
pub record IsAt (text : List ℕ) (dialect : Dialect) (chars : Coming) : Type 0 where
  pub dialect_is : chars.dialect ≡ dialect
  pub spans : AreBetween chars.at chars.chars (length text)

-- The text doesn't lex: behind these items and the gap after them a block comment begins at this offset, and nothing
-- ends it.
pub record IsOpenAt (d : Dialect) (text : List ℕ) (at : ℕ) : Type 0 where
  pub items : List ReadItem
  pub left : Left
  pub read : IsReadUpTo d text items left
  pub unended : IsLongest d Unended (bytes_of (past_blank left.chars)) []
  pub start : at ≡ begin_of (past_blank left.chars)
