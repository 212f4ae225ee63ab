-- What the output and the notes take of several FILEs.
use Rattle.std.specs.Prelude.{◌≡◌, ⊤, ℕ, List, [], ◌∷◌}
use Rattle.std.specs.List.{concat}
use Rattle.std.specs.Io.KnownBytes.{Appends}
use Rattle.fmt_ports.specs.Files.{Held}
use Rattle.command_refusals.specs.InForce.{IsHeld}
use Rattle.format_cli.specs.Options.{Options}
use Rattle.format_cli.specs.declared.input.Place.TheVariants.{Output}
use Rattle.format_cli.specs.Inputs.{AreDone, Ends, IsFormatted, rows_told}

-- this is the formatted text of a FILE, and these are the rows of its reports
abbrev pub IsText : Options → Held → (name text rows : List ℕ) → Type 0
IsText options held name text rows =
    (b : List ℕ) × IsHeld held name b × (made : IsFormatted options b text) × (rows ≡ rows_told Output name made)

-- these are the formatted texts of the FILEs in order, and the rows of their reports
abbrev pub AreFormatted : Options → Held → (names texts rows : List (List ℕ)) → Type 0
AreFormatted options held [] [] [] = ⊤
AreFormatted options held (name ∷ names) (text ∷ texts) (here ∷ rows) =
    IsText options held name text here × AreFormatted options held names texts rows
AreFormatted options held names texts rows = ⊥

-- Where every FILE was done without `-i`, the output took their formatted texts, joined in order, and the notes the
-- rows of their reports.
abbrev pub OutputsAreJoined : Type 0
OutputsAreJoined =
    (options : Options) (names : List (List ℕ)) (before now : Ends) → AreDone options Output names before now
    → (texts : List (List ℕ)) × (rows : List (List ℕ)) × AreFormatted options before.held names texts rows
    × Appends before.taken now.taken (concat texts)
    × Appends before.told now.told (concat rows)
