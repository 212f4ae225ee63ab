-- Which style is in force: docs/PROFILE.md, "Words of the command".
use Rattle.std.specs.Prelude.{◌≡◌, ◌≢◌, ◌≤◌, ◌<◌, ◌⊎◌, ⊤, ℕ, List, [], Option, Some, None, Ok, Err, IsSomeAnd, codes}
use Rattle.std.specs.Prelude.{length}
use Rattle.std.specs.Io.KnownBytes.{Keeps}
use Rattle.fmt_ports.specs.Causes.{AppendsPart}
use Rattle.fmt_ports.specs.Files.{Held, HeldAt}
use Rattle.std.specs.Borrow.{Bor}
use Rattle.fmt_ports.specs.declared.files.FileFault.{FileFault}
use Rattle.fmt_ports.specs.declared.files.FileFault.TheVariants as File
use Rattle.style_table.specs.declared.style.Style.{Style}
use Rattle.style_table.specs.Named.{named}
use Rattle.style_config.specs.declared.TheConstants.{LIMIT}
use Rattle.style_config.specs.declared.skipped.SkippedKey.{SkippedKey}
use Rattle.style_config.specs.declared.fault.ConfigFault.{ConfigFault}
use Rattle.style_config.specs.declared.fault.ConfigFault.TheVariants as Config
use Rattle.style_config.specs.Reading.{Reads}
use Rattle.command_words.specs.declared.read.StyleChoice.{StyleChoice}
use Rattle.command_words.specs.declared.read.StyleChoice.TheVariants.{File as DefaultFile, FileAt, Named}
use Rattle.command_refusals.specs.declared.refusal.Refusal.{Refusal}
use Rattle.command_refusals.specs.declared.refusal.Refusal.TheVariants.{UnknownStyle, LongConfiguration}
use Rattle.command_refusals.specs.declared.refusal.Refusal.TheVariants.{BadConfiguration, FileFailed, NotesFailed}
use Rattle.command_refusals.specs.declared.refusal.Refusal.TheVariants.{Missing, NoMemory}
use Rattle.command_refusals.specs.Notes.{skipped_rows}

-- where the files are told, this one has these bytes
abbrev pub IsHeld : Held → List ℕ → List ℕ → Type 0
IsHeld held name bytes = HeldAt held name (λ b. b ≡ Some bytes)

-- where the files are told, this one isn't there
abbrev pub IsMissing : Held → List ℕ → Type 0
IsMissing held name = HeldAt held name (λ b. b ≡ None)

-- where the files are told, this one is longer than a limit
abbrev pub IsLonger : Held → List ℕ → ℕ → Type 0
IsLonger held name limit = HeldAt held name (λ b. IsSomeAnd b (λ bytes. limit < length bytes))

-- the style that configurations change is LLVM
abbrev pub IsBase : Style → Type 0
IsBase style = named (codes "LLVM") ≡ Some style

-- the configuration of the working folder
abbrev pub default_file : List ℕ
default_file = codes ".clang-format"

-- a configuration within the limit makes this style of the base, and these rows tell its skipped keys
abbrev pub Configures : List ℕ → List ℕ → Style → List ℕ → Type 0
Configures file text style rows =
    (length text ≤ LIMIT)
    × ((base : Style) × (skipped : List SkippedKey) × IsBase base × Reads text base (Ok (style, skipped))
    × (rows ≡ skipped_rows file skipped))

-- a configuration is at fault
abbrev pub IsAtFault : List ℕ → ConfigFault → Type 0
IsAtFault text fault = (base : Style) × IsBase base × (fault ≢ Config.NoMemory) × Reads text base (Err fault)

-- This style is in force, and these rows tell the skipped keys of its configuration: the named style; the base changed
-- by the configuration; or the base where the default's file isn't there.
abbrev pub IsInForce : StyleChoice → Held → Style → List ℕ → Type 0
IsInForce (Named name) held style rows = (named name.now ≡ Some style) × (rows ≡ [])
IsInForce (FileAt path) held style rows =
    (text : List ℕ) × IsHeld held path.now text × Configures path.now text style rows
IsInForce DefaultFile held style rows =
    ((text : List ℕ) × IsHeld held default_file text × Configures default_file text style rows)
    ⊎ (IsMissing held default_file × IsBase style × (rows ≡ []))

-- the configuration that a choice names
abbrev pub configuration_of : StyleChoice → Option (List ℕ)
configuration_of DefaultFile = Some default_file
configuration_of (FileAt path) = Some path.now
configuration_of (Named name) = None

-- why no style is in force
abbrev pub IsStyleCause : StyleChoice → Held → Refusal → Type 0
IsStyleCause choice held (UnknownStyle name) = (choice ≡ Named name) × (named name.now ≡ None)
IsStyleCause choice held (LongConfiguration file) =
    (configuration_of choice ≡ Some file.now) × IsLonger held file.now LIMIT
IsStyleCause choice held (BadConfiguration file fault) =
    (configuration_of choice ≡ Some file.now) × ((text : List ℕ) × IsHeld held file.now text × IsAtFault text fault)
IsStyleCause choice held (FileFailed file) = configuration_of choice ≡ Some file.now
IsStyleCause choice held (Missing file) = (choice ≡ FileAt file) × IsMissing held file.now
IsStyleCause choice held NoMemory = ⊤
IsStyleCause choice held refusal = ⊥

-- The choice of a style ended in this refusal: its rows couldn't be told, or no style is in force.
abbrev pub IsStyleRefused : StyleChoice → Held → Option (List ℕ) → Option (List ℕ) → Refusal → Type 0
IsStyleRefused choice held old new NotesFailed =
    (style : Style) × (rows : List ℕ) × IsInForce choice held style rows × AppendsPart old new rows
IsStyleRefused choice held old new refusal = Keeps old new × IsStyleCause choice held refusal

-- The reading of a configuration of these bytes ended in this refusal: its rows couldn't be told, or it is at fault.
abbrev pub IsConfigurationRefused : Bor (List ℕ) → List ℕ → Option (List ℕ) → Option (List ℕ) → Refusal → Type 0
IsConfigurationRefused file text old new NotesFailed =
    (style : Style) × (rows : List ℕ) × Configures file.now text style rows × AppendsPart old new rows
IsConfigurationRefused file text old new (BadConfiguration at fault) =
    Keeps old new × (at ≡ file) × IsAtFault text fault
IsConfigurationRefused file text old new NoMemory = Keeps old new
IsConfigurationRefused file text old new refusal = ⊥

-- why a configuration can't be had
abbrev pub lacking_refusal : Bor (List ℕ) → FileFault → Refusal
lacking_refusal file File.Missing = Missing file
lacking_refusal file File.Failed = FileFailed file
lacking_refusal file File.TooLong = LongConfiguration file
lacking_refusal file File.NoMemory = NoMemory
