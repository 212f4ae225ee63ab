-- The item that stands next, and what is left behind it.
use Rattle.std.specs.Prelude.{◌≡◌, ℕ, ◌<◌, ◌≤◌, length, take, drop}
use Rattle.c_chars.specs.Characters.{bytes_of}
use Rattle.c_chars.specs.Coming.{Coming, behind}
use Rattle.c_grammar.specs.Items.{Place, IsNext}
use Rattle.item_kinds.specs.declared.ItemKind.{ItemKind}

-- At this place the text's first characters are the item that stands next, it has this kind, and then that is left.
pub record IsCutNext (place : Place) (text left : Coming) (kind : ItemKind) : Type 0 where
  pub n : ℕ
  pub some : 0 < n
  pub within : n ≤ length text.chars
  pub left_is : left ≡ behind text n
  pub next : IsNext text.dialect place kind (take n (bytes_of text.chars)) (drop n (bytes_of text.chars))
