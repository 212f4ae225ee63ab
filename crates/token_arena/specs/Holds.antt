-- What an arena of tokens is to its text.
use Rattle.std.specs.Prelude.{◌≡◌, ◌≤◌, List, length}
use Rattle.c_chars.specs.Characters.{mark_len}
use Rattle.c_chars.specs.declared.TheConstants.{LIMIT}
use Rattle.c_chars.specs.declared.LogicalChar.{LogicalChar}
use Rattle.c_grammar.specs.Text.{ReadItem, LexesText}
use Rattle.token_arena.specs.Stored.{stored_items}
use Rattle.token_arena.specs.Gaps.{Contents, StandFrom}

-- It holds exactly the items of its text, each once and in order (C11 6.4p4).
pub record HoldsItems (arena : Contents) : Type 0 where
  pub items : List ReadItem
  pub last : List LogicalChar
  pub lexes : LexesText arena.dialect arena.text items last
  pub tokens : arena.tokens ≡ stored_items arena.text items

-- What every arena keeps: the items stand in their text in order, the text is within the limit, and these are its
-- items.
pub record IsSound (arena : Contents) : Type 0 where
  pub stand : StandFrom arena.text (mark_len arena.text) arena.tokens
  pub fits : length arena.text ≤ LIMIT
  pub holds : HoldsItems arena
