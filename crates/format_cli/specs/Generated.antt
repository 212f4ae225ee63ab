-- What is done with the input that `--generate` makes.
use Rattle.std.specs.Prelude.{◌≡◌, ◌≢◌, ◌⊎◌, ◌↔◌, ℕ, Bool, IsTrue, List, Option, codes}
use Rattle.std.specs.Io.KnownBytes.{Appends, Keeps}
use Rattle.fmt_ports.specs.Causes.{AppendsPart}
use Rattle.command_words.specs.declared.pieces.Generate.{Generate}
use Rattle.command_words.specs.Generated.{generated}
use Rattle.command_refusals.specs.declared.refusal.Refusal.{Refusal}
use Rattle.command_refusals.specs.declared.refusal.Refusal.TheVariants.{NotesFailed}
use Rattle.format_cli.specs.Options.{Options}
use Rattle.format_cli.specs.declared.input.Place.TheVariants.{Nowhere}
use Rattle.format_cli.specs.Inputs.{IsFormatted, IsTextCause, rows_told}

-- the text that is made
abbrev pub text_of : Generate → List ℕ
text_of generate = generated generate.seed generate.count

-- the notes took the rows of this text that was made, and its summary
abbrev pub IsGeneratedDone : Options → (b : List ℕ) → (told told' : Option (List ℕ)) → Type 0
IsGeneratedDone options b told told' =
    (c : List ℕ) × (made : IsFormatted options b c)
    × Appends told told' (rows_told Nowhere (codes "<generated>") made)

-- a text that was made was done, and this tells whether it changes
abbrev pub IsGeneratedDoneWith : Options → (b : List ℕ) → (told told' : Option (List ℕ)) → (changes : Bool) → Type 0
IsGeneratedDoneWith options b told told' changes =
    (done : IsGeneratedDone options b told told') × (IsTrue changes ↔ (done.0 ≢ b))

-- A text that was made was refused: no row was told, for this cause, or the notes failed and took a front of its rows.
abbrev pub IsGeneratedRefused : Options → (b : List ℕ) → (told told' : Option (List ℕ)) → Refusal → Type 0
IsGeneratedRefused options b told told' refusal =
    (Keeps told told' × IsTextCause (codes "<generated>") b refusal)
    ⊎ ((refusal ≡ NotesFailed)
    × ((c : List ℕ) × (made : IsFormatted options b c)
    × AppendsPart told told' (rows_told Nowhere (codes "<generated>") made)))
