-- What the building of an arena ends with.
use Rattle.std.specs.Prelude.{◌≡◌, ◌≤◌, ◌<◌, ℕ, List, length}
use Rattle.c_chars.specs.declared.Dialect.{Dialect}
use Rattle.c_chars.specs.declared.TheConstants.{LIMIT}
use Rattle.c_lexer.specs.Fault.{IsOpenAt}
use Rattle.token_arena.specs.Gaps.{Contents}
use Rattle.token_arena.specs.Holds.{HoldsItems}
use Rattle.token_arena.specs.declared.fault.ArenaFault.{ArenaFault}
use Rattle.token_arena.specs.declared.fault.ArenaFault.TheVariants.{UnterminatedComment, TooLarge, NoMemory}

-- The arena is of this text in this dialect, and holds exactly its items.
pub record IsArenaOf (text : List ℕ) (d : Dialect) (arena : Contents) : Type 0 where
  pub text_is : arena.text ≡ text
  pub dialect_is : arena.dialect ≡ d
  pub fits : length text ≤ LIMIT
  pub holds : HoldsItems arena

-- Why a text has no arena. The size is tested first; only a text within the limit can want memory.
abbrev pub IsCause : Dialect → List ℕ → ArenaFault → Type 0
IsCause d text (UnterminatedComment start) = (length text ≤ LIMIT) × IsOpenAt d text start
IsCause d text (TooLarge bytes) = (LIMIT < length text) × (bytes ≡ length text)
IsCause d text NoMemory = length text ≤ LIMIT
