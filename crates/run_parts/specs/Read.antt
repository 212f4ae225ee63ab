-- What is read of the items of a view.
use Rattle.std.specs.Prelude.{◌≡◌, ℕ, List, length}
use Rattle.style_table.specs.declared.style.Style.{Style}
use Rattle.line_tokens.specs.Lines.{CutPlaces}
use Rattle.token_arena.specs.Gaps.{Contents}
use Rattle.item_classes.specs.Items.{TellItems}
use Rattle.token_classes.specs.Kept.{kept_gaps_of}
use Rattle.item_classes.specs.Viewed.{classes_of}
use Rattle.annotator.specs.Tokens.{toks_of_lines}
use Rattle.unwrapped_lines.specs.Lines.{lines_of_items}
use Rattle.run_parts.specs.declared.read.ReadItems.{ReadItems}

-- these are the classes of the items, the gaps that stay, their unwrapped lines and their tokens
pub record IsRead (style : Style) (arena : Contents) (ids : List ℕ) (read : ReadItems) : Type 0 where
  pub classes : read.classes.now ≡ classes_of arena ids
  pub kept : read.kept.now ≡ kept_gaps_of (classes_of arena ids)
  pub marks : length read.kept.now ≡ length ids
  pub lines : read.lines.now ≡ lines_of_items style arena ids
  pub cut : CutPlaces 0 (length ids) read.lines.now
  pub tokens : read.tokens ≡ toks_of_lines arena ids (lines_of_items style arena ids)
  pub count : length read.tokens ≡ length ids
  pub tell : TellItems arena ids read.tokens
