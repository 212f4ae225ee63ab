-- Why a text isn't formatted.
use Rattle.std.specs.Prelude.{◌≡◌, ◌≤◌, ◌<◌, ℕ, List, length}
use Rattle.c_chars.specs.declared.TheConstants.{LIMIT}
use Rattle.c_chars.specs.declared.Dialect.{Dialect}
use Rattle.c_lexer.specs.Fault.{IsOpenAt}
use Rattle.format_core.specs.declared.fault.FormatFault.{FormatFault}
use Rattle.format_core.specs.declared.fault.FormatFault.TheVariants as Format
use Rattle.token_arena.specs.declared.fault.ArenaFault.{ArenaFault}
use Rattle.token_arena.specs.declared.fault.ArenaFault.TheVariants.{UnterminatedComment, TooLarge, NoMemory}

-- the same cause
abbrev pub fault_of : ArenaFault → FormatFault
fault_of (UnterminatedComment start) = Format.UnterminatedComment start
fault_of (TooLarge bytes) = Format.TooLarge bytes
fault_of NoMemory = Format.NoMemory

-- Why a text in this dialect isn't formatted. Its size is tested first.
abbrev pub IsCause : Dialect → List ℕ → FormatFault → Type 0
IsCause d text (Format.UnterminatedComment start) = (length text ≤ LIMIT) × IsOpenAt d text start
IsCause d text (Format.TooLarge bytes) = (LIMIT < length text) × (bytes ≡ length text)
IsCause d text Format.NoMemory = length text ≤ LIMIT
