-- How far the lexer reads on behind a quote.
use Rattle.std.specs.Prelude.{◌≡◌, ◌==◌, ◌&&◌, not, ℕ, ◌+◌, Bool, true, false, List, [], ◌∷◌, if◌then◌else◌, IsTrue}
use Rattle.c_chars.specs.Characters.{bytes_of}
use Rattle.c_chars.specs.Coming.{Coming, behind}
use Rattle.c_grammar.specs.Grammar.{is_new_line}
use Rattle.item_kinds.specs.declared.ItemKind.{ItemKind}

-- the quote stands in this line, not behind a backslash that stands for itself; `escaped`: such a one stands before
-- these characters
abbrev pub closes_quote : ℕ → Bool → List ℕ → Bool
closes_quote quote escaped [] = false
closes_quote quote escaped (c ∷ s) =
    if is_new_line c then false
    else (if not escaped && c == quote then true else closes_quote quote (not escaped && c == 92) s)

-- how many characters stand through that quote; where there is none, in the line
abbrev pub quote_len : ℕ → Bool → List ℕ → ℕ
quote_len quote escaped [] = 0
quote_len quote escaped (c ∷ s) =
    if is_new_line c then 0
    else (if not escaped && c == quote then 1 else 1 + quote_len quote (not escaped && c == 92) s)

-- A literal of the first kind, whose quote stands before the text, is closed; it was told to have the second, and then
-- that is left.
pub record IsClosed (kind : ItemKind) (quote : ℕ) (text left : Coming) (told : ItemKind) : Type 0 where
  pub closed : IsTrue (closes_quote quote false (bytes_of text.chars))
  pub left_is : left ≡ behind text (quote_len quote false (bytes_of text.chars))
  pub kind_is : told ≡ kind
