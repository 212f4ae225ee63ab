-- What a status says of the words, the style and the inputs: README.md, "Use".
use Rattle.std.specs.Prelude.{◌≡◌, ◌⊎◌, ℕ, List, [], ◌∷◌, Option, Some, None, Ok, IsFalse, IsSome, codes}
use Rattle.fmt_ports.specs.Files.{Held}
use Rattle.command_words.specs.declared.pieces.Generate.{Generate}
use Rattle.command_words.specs.declared.read.Words.{Words}
use Rattle.command_words.specs.declared.read.StyleChoice.{StyleChoice}
use Rattle.command_words.specs.declared.read.StyleChoice.TheVariants.{FileAt}
use Rattle.off_regions.specs.declared.fault.RangeFault.{RangeFault}
use Rattle.command_words.specs.Budget.{budget_of}
use Rattle.command_words.specs.Command.{Gives, IsOfForm, generate_word, rows_of_words, states_word}
use Rattle.command_words.specs.Generate.{generate_of}
use Rattle.command_words.specs.Said.{AreOthersFine, GeneratesBeside, HasBadGenerate, HasBadLines, HasBadStates}
use Rattle.command_words.specs.Said.{HasLines, HasManyFiles, LacksFile, Reads}
use Rattle.command_refusals.specs.declared.refusal.Refusal.{Refusal}
use Rattle.command_refusals.specs.InForce.{IsMissing, IsStyleCause}
use Rattle.command_refusals.specs.Notes.{status_of}
use Rattle.format_cli.specs.Account.{files_of}
use Rattle.format_cli.specs.Generated.{text_of}
use Rattle.format_cli.specs.Inputs.{IsFileCause, IsSourceCause, IsTextCause}

-- the statuses that there are
abbrev pub IsStatus : ℕ → Type 0
IsStatus status =
    (status ≡ 0) ⊎ (status ≡ 1) ⊎ (status ≡ 2) ⊎ (status ≡ 3) ⊎ (status ≡ 4) ⊎ (status ≡ 5) ⊎ (status ≡ 6)
    ⊎ (status ≡ 7)

-- the words aren't of the command's form, `--lines` is no list of ranges, `--states` tells no budget, `-i` lacks its
-- FILE, `--lines` has two or more, or `--generate` isn't in form or stands beside a FILE, `-i` or `--dump-config`
abbrev pub AreBadWords : List (List ℕ) → Type 0
AreBadWords words =
    (¬ IsOfForm words)
    ⊎ (IsOfForm words × ((word : List ℕ) × (fault : RangeFault) × HasBadLines (rows_of_words words) word fault))
    ⊎ (IsOfForm words × HasLines (rows_of_words words) × ((word : List ℕ) × HasBadStates (rows_of_words words) word))
    ⊎ (IsOfForm words × HasLines (rows_of_words words) × IsSome (budget_of (states_word (rows_of_words words)))
    × LacksFile (rows_of_words words))
    ⊎ (IsOfForm words × HasLines (rows_of_words words) × IsSome (budget_of (states_word (rows_of_words words)))
    × HasManyFiles (rows_of_words words))
    ⊎ (IsOfForm words × AreOthersFine (rows_of_words words)
    × ((word : List ℕ) × HasBadGenerate (rows_of_words words) word))
    ⊎ (IsOfForm words × AreOthersFine (rows_of_words words)
    × IsSome (generate_of (generate_word (rows_of_words words))) × GeneratesBeside (rows_of_words words))

-- The words choose a style, and it isn't in force, for a cause of this status.
pub record HasNoStyle (words : List (List ℕ)) (held : Held) (status : ℕ) : Type 0 where
  pub said : Words
  pub reads : Reads words (Ok said)
  pub refusal : Refusal
  pub is_its : status_of refusal ≡ status
  pub cause : IsStyleCause said.style held refusal

-- a name is one of these
abbrev pub IsOneOf : List ℕ → List (List ℕ) → Type 0
IsOneOf name [] = ⊥
IsOneOf name (other ∷ others) = (name ≡ other) ⊎ IsOneOf name others

-- a choice names the configuration at this path
abbrev pub IsPath : StyleChoice → List ℕ → Type 0
IsPath (FileAt path) name = path.now ≡ name
IsPath choice name = ⊥

-- The words name a file that isn't there: the PATH of `file:PATH`, or a FILE, which counts only without
-- `--dump-config`.
pub record LacksName (words : List (List ℕ)) (held : Held) : Type 0 where
  pub said : Words
  pub reads : Reads words (Ok said)
  pub name : List ℕ
  pub named : IsPath said.style name ⊎ (IsFalse said.dump_config × IsOneOf name (files_of said))
  pub missing : IsMissing held name

-- An input is refused for its text, at this status: standard input, where the words give no FILE, one of the FILEs, or
-- the text that `--generate` makes.
pub record HasRefusedInput (words : List (List ℕ)) (input : Option (List ℕ)) (held : Held) (status : ℕ) : Type 0 where
  pub said : Words
  pub reads : Reads words (Ok said)
  pub refusal : Refusal
  pub is_its : status_of refusal ≡ status
  pub cause : ((files_of said ≡ []) × IsSourceCause input refusal × (said.generate ≡ None))
      ⊎ ((name : List ℕ) × IsOneOf name (files_of said) × IsFileCause held name refusal)
      ⊎ ((generate : Generate) × (said.generate ≡ Some generate)
      × IsTextCause (codes "<generated>") (text_of generate) refusal)

-- the words have `-i`, `--dry-run` or `--generate`, and not `--dump-config`
abbrev pub LeavesOutput : List (List ℕ) → Type 0
LeavesOutput words =
    (Gives (codes "in-place") (rows_of_words words) ⊎ Gives (codes "dry-run") (rows_of_words words)
    ⊎ IsSome (generate_word (rows_of_words words)))
    × (¬ Gives (codes "dump-config") (rows_of_words words))

-- the words don't have `-i`, or have `--dry-run` or `--dump-config`
abbrev pub LeavesFiles : List (List ℕ) → Type 0
LeavesFiles words =
    (¬ Gives (codes "in-place") (rows_of_words words)) ⊎ Gives (codes "dry-run") (rows_of_words words)
    ⊎ Gives (codes "dump-config") (rows_of_words words)

-- the words have `--dry-run` and `--Werror`, and not `--dump-config`
abbrev pub AsksWhetherChanged : List (List ℕ) → Type 0
AsksWhetherChanged words =
    Gives (codes "dry-run") (rows_of_words words) × Gives (codes "Werror") (rows_of_words words)
    × (¬ Gives (codes "dump-config") (rows_of_words words))
