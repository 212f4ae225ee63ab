-- Which refusal comes first, as names and bytes tell it: README.md, "Use".
use Rattle.std.specs.Prelude.{◌≡◌, ◌<◌, ◌⊎◌, ⊤, ℕ, List, [], ◌∷◌, ◌++◌, Option, Some, None, Ok, IsTrue, IsFalse, length}
use Rattle.std.specs.Io.KnownBytes.{Appends}
use Rattle.fmt_ports.specs.Files.{Held}
use Rattle.c_chars.specs.declared.TheConstants.{LIMIT}
use Rattle.c_chars.specs.declared.Dialect.TheVariants.{C11}
use Rattle.c_lexer.specs.Fault.{IsOpenAt}
use Rattle.style_table.specs.declared.style.Style.{Style}
use Rattle.command_words.specs.declared.pieces.Generate.{Generate}
use Rattle.command_words.specs.declared.read.Words.{Words}
use Rattle.command_words.specs.Said.{Reads}
use Rattle.command_refusals.specs.InForce.{IsInForce}
use Rattle.command_refusals.specs.Order.{HasStyle, IsThere, StyleStops, Tells}
use Rattle.format_cli.specs.Account.{files_of}
use Rattle.format_cli.specs.Generated.{text_of}
use Rattle.format_cli.specs.Statuses.{IsOneOf}

-- ---- the inputs

-- a text is refused: it is past the limit, or has a comment without an end
abbrev pub IsBadText : List ℕ → Type 0
IsBadText text = (LIMIT < length text) ⊎ ((at : ℕ) × IsOpenAt C11 text at)

-- The first of these FILEs that is refused is refused with this status: one that isn't there with 6, a text with 4.
abbrev pub FilesStop : Held → List (List ℕ) → ℕ → Type 0
FilesStop held [] status = ⊥
FilesStop held (name ∷ names) status =
    Tells held name (λ file. ((file ≡ None) × (status ≡ 6)) ⊎ (IsThere IsBadText file × (status ≡ 4)))
    ⊎ (Tells held name (IsThere (λ text. ¬ IsBadText text)) × FilesStop held names status)

-- no name stands twice
abbrev pub AreDifferent : List (List ℕ) → Type 0
AreDifferent [] = ⊤
AreDifferent (name ∷ names) = (¬ IsOneOf name names) × AreDifferent names

-- The first input that is refused is refused with this status. With `-i`, but in a dry run, this is told of FILEs that
-- are named once.
abbrev pub InputsStop : Words → Option (List ℕ) → Held → ℕ → Type 0
InputsStop said left held status =
    ((files_of said ≡ []) × IsThere IsBadText left × (status ≡ 4) × (said.generate ≡ None))
    ⊎ (FilesStop held (files_of said) status
    × (IsTrue said.in_place → IsFalse said.dry_run → AreDifferent (files_of said)))
    ⊎ ((generate : Generate) × (said.generate ≡ Some generate) × IsBadText (text_of generate) × (status ≡ 4))

-- ---- a whole call

-- The first refusal that the words, names and bytes tell has this status. The style goes before the inputs, and
-- with `--dump-config` there are none.
pub record StopsWith (words : List (List ℕ)) (left : Option (List ℕ)) (held : Held) (status : ℕ) : Type 0 where
  pub said : Words
  pub reads : Reads words (Ok said)
  pub stops : StyleStops said.style held status
      ⊎ (HasStyle said.style held × IsFalse said.dump_config × InputsStop said left held status)

-- A style is in force, and the notes haven't taken the rows of all its skipped keys.
pub record LacksRows (words : List (List ℕ)) (held : Held) (notes notes' : Option (List ℕ)) : Type 0 where
  pub said : Words
  pub reads : Reads words (Ok said)
  pub has_style : HasStyle said.style held
  pub lacks : (style : Style) (rows more : List ℕ) → IsInForce said.style held style rows →
      ¬ Appends notes notes' (rows ++ more)
