-- A reader that goes along with the lexer.
use Rattle.std.specs.Prelude.{◌≡◌, ℕ, List, length}
use Rattle.c_chars.specs.Coming.{AreBetween}
use Rattle.c_chars.specs.declared.LogicalChar.{LogicalChar}
use Rattle.c_grammar.specs.Items.{Place}
use Rattle.c_grammar.specs.Text.{ReadItem}
use Rattle.pp_model.specs.Finding.{is_comment}
use Rattle.pp_items.specs.View.{streamed_shown}
use Rattle.pp_items.specs.Walk.{streamed_at}
use Rattle.pp_items.specs.declared.item.Streamed.{Streamed}
use Rattle.pp_items.specs.declared.reader.Reader.{Reader}

-- It is in this text, and its characters aren't before the offset whose line it knows.
pub record IsReaderOf (text : List ℕ) (r : Reader) : Type 0 where
  pub text_is : r.lines.text.now ≡ text
  pub spans : AreBetween r.lines.at r.chars.chars (length text)

-- The reader has read this item, as phase 4 meets it, where what stands before its gap has this place, and stands
-- behind it.
pub record IsRead (text : List ℕ) (place : Place) (old new : Reader) (s : Streamed) (read : ReadItem)
    (rest : List LogicalChar) : Type 0 where
  pub item : streamed_shown s ≡ streamed_at text old.after_comment place read
  pub chars : new.chars.chars ≡ rest
  pub after : new.after_comment ≡ is_comment read.kind
