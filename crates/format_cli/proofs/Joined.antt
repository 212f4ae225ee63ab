-- What the output and the notes take of several FILEs.
use Rattle.std.proofs.Common.{◌∙◌, ℕ, List, [], ◌∷◌, Some, None, refl, sym}
use Rattle.std.specs.List.{concat}
use Rattle.std.proofs.KnownBytes.{Appends-trans}
use Rattle.fmt_ports.specs.Files.{Held, KeepsAll}
use Rattle.command_refusals.specs.InForce.{IsHeld}
use Rattle.format_cli.specs.Options.{Options}
use Rattle.format_cli.specs.declared.input.Place.TheVariants.{Output}
use Rattle.format_cli.specs.Inputs.{rows_told}
use Rattle.format_cli.specs.Joined.{AreFormatted, OutputsAreJoined}
use Rattle.format_cli.proofs.Ends.{takes_nothing}

held_before : (a b : Held) (name text : List ℕ) → KeepsAll a b → IsHeld b name text → IsHeld a name text
held_before None b name text same k = tt
held_before (Some a) None name text same k = absurd same
held_before (Some a) (Some b) name text same k = sym (same name) ∙ k

formatted_before : (options : Options) (a b : Held) (names texts rows : List (List ℕ)) → KeepsAll a b → AreFormatted options b names texts rows → AreFormatted options a names texts rows
formatted_before options a b [] [] [] same k = tt
formatted_before options a b [] [] (here ∷ rows) same k = absurd k
formatted_before options a b [] (text ∷ texts) [] same k = absurd k
formatted_before options a b [] (text ∷ texts) (here ∷ rows) same k = absurd k
formatted_before options a b (name ∷ names) [] [] same k = absurd k
formatted_before options a b (name ∷ names) [] (here ∷ rows) same k = absurd k
formatted_before options a b (name ∷ names) (text ∷ texts) [] same k = absurd k
formatted_before options a b (name ∷ names) (text ∷ texts) (here ∷ rows) same k =
    ((k.0.0, held_before a b name k.0.0 same k.0.1, k.0.2, k.0.3), formatted_before options a b names texts rows same k.1)

-- where every FILE was done without `-i`, the output took their formatted texts and the notes the rows of their reports, each joined in order
pub outputs_are_joined : OutputsAreJoined
outputs_are_joined options [] before now k = ([], [], tt, takes_nothing before.taken now.taken k.taken, takes_nothing before.told now.told k.told)
outputs_are_joined options (name ∷ names) before now k =
    let rest = outputs_are_joined options names k.0 now k.2 in
    let rows : List ℕ = rows_told Output name k.1.3 in (
      k.1.1 ∷ rest.0,
      rows ∷ rest.1,
      ((k.1.0, k.1.2, k.1.3, refl), formatted_before options before.held k.0.held names rest.0 rest.1 k.1.4.1 rest.2),
      Appends-trans before.taken k.0.taken now.taken k.1.1 (concat rest.0) k.1.4.0 rest.3,
      Appends-trans before.told k.0.told now.told rows (concat rest.1) k.1.5 rest.4,
    )
