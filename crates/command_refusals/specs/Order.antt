-- Which refusal the choice of a style ends in, as names and bytes tell it: README.md, "Use".
use Rattle.std.specs.Prelude.{◌≡◌, ◌≢◌, ◌<◌, ◌⊎◌, ℕ, List, Option, Some, None, length}
use Rattle.fmt_ports.specs.Files.{Held}
use Rattle.style_table.specs.Named.{named}
use Rattle.style_config.specs.declared.TheConstants.{LIMIT as CONFIGURATION_LIMIT}
use Rattle.style_config.specs.declared.fault.ConfigFault.{ConfigFault}
use Rattle.command_words.specs.declared.read.StyleChoice.{StyleChoice}
use Rattle.command_words.specs.declared.read.StyleChoice.TheVariants.{File as DefaultFile, FileAt, Named}
use Rattle.command_refusals.specs.InForce.{IsAtFault, default_file}

-- the files tell what stands under this name, and this holds of it
abbrev pub Tells : Held → List ℕ → (Option (List ℕ) → Type 0) → Type 0
Tells None name P = ⊥
Tells (Some at) name P = P (at name)

-- a file is there, and this holds of its bytes
abbrev pub IsThere : (List ℕ → Type 0) → Option (List ℕ) → Type 0
IsThere P None = ⊥
IsThere P (Some text) = P text

-- a configuration is refused: it is past the limit, or at fault
abbrev pub IsBadConfiguration : List ℕ → Type 0
IsBadConfiguration text = (CONFIGURATION_LIMIT < length text) ⊎ ((fault : ConfigFault) × IsAtFault text fault)

-- The choice of a style is refused with this status: the name or the configuration with 3, a PATH that isn't there with
-- 6.
abbrev pub StyleStops : StyleChoice → Held → ℕ → Type 0
StyleStops (Named name) held status = (named name.now ≡ None) × (status ≡ 3)
StyleStops (FileAt path) held status =
    Tells held path.now (λ file. ((file ≡ None) × (status ≡ 6)) ⊎ (IsThere IsBadConfiguration file × (status ≡ 3)))
StyleStops DefaultFile held status = Tells held default_file (λ file. IsThere IsBadConfiguration file × (status ≡ 3))

-- a style is in force
abbrev pub HasStyle : StyleChoice → Held → Type 0
HasStyle (Named name) held = named name.now ≢ None
HasStyle (FileAt path) held = Tells held path.now (IsThere (λ text. ¬ IsBadConfiguration text))
HasStyle DefaultFile held =
    Tells held default_file (λ file. (file ≡ None) ⊎ IsThere (λ text. ¬ IsBadConfiguration text) file)
