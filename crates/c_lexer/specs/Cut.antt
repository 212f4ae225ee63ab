-- The item that a text begins with, and what is left behind it.
use Rattle.std.specs.Prelude.{◌≡◌, ℕ, ◌<◌, []}
use Rattle.c_chars.specs.Characters.{bytes_of}
use Rattle.c_chars.specs.Coming.{Coming, behind}
use Rattle.c_grammar.specs.Grammar.{Whole, Unended}
use Rattle.c_grammar.specs.Items.{IsLongest}
use Rattle.c_lexer.specs.declared.cut.Stop.{Stop}
use Rattle.c_lexer.specs.declared.cut.Stop.TheVariants.{Unterminated}
use Rattle.item_kinds.specs.declared.ItemKind.{ItemKind}
use Rattle.c_lexer.specs.Run.{IsCut}

-- The text's first characters are the longest that spell an item, it has this kind, and then that is left.
pub record IsCutOff (text left : Coming) (kind : ItemKind) : Type 0 where
  pub n : ℕ
  pub some : 0 < n
  pub left_is : left ≡ behind text n
  pub cut : IsCut text.dialect (Whole kind) (bytes_of text.chars) n

-- Why no item is cut off: a block comment begins that nothing ends.
abbrev pub IsStop : Coming → Stop → Type 0
IsStop text Unterminated = IsLongest text.dialect Unended (bytes_of text.chars) []
