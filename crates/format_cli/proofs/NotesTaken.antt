-- What the notes take while inputs are done.
use Rattle.std.proofs.Common.{ℕ, List, [], ◌∷◌, ◌++◌, inl, inr}
use Rattle.std.specs.declared.option.Option.{Option}
use Rattle.std.proofs.KnownBytes.{Appends-trans}
use Rattle.std.specs.Io.KnownBytes.{Appends, Keeps}
use Rattle.fmt_ports.specs.Causes.{AppendsPart}
use Rattle.style_table.specs.declared.style.Style.{Style}
use Rattle.command_words.specs.declared.read.Words.{Words}
use Rattle.command_refusals.specs.declared.refusal.Refusal.{Refusal}
use Rattle.command_refusals.specs.declared.refusal.Refusal.TheVariants.{BadWords, BadLines, BadStates, NoInput, ManyFiles, BadGenerate, GenerateBeside, UnknownStyle, LongConfiguration, BadConfiguration, TooLarge, OpenComment, SourceFailed, FileFailed, OutFailed, NotesFailed, Missing, NoMemory}
use Rattle.format_cli.specs.Options.{Options}
use Rattle.format_cli.specs.declared.input.Place.{Place}
use Rattle.format_cli.specs.declared.input.Place.TheVariants.{Output, Itself, Nowhere}
use Rattle.format_cli.specs.Account.{IsNotPerformed, IsPerformed, World, files_of, options_of, place_of}
use Rattle.format_cli.specs.Generated.{IsGeneratedRefused, text_of}
use Rattle.format_cli.specs.Inputs.{AreDone, AreRefused, Ends, IsSourceRefused, PutFails, rows_told}
use Rattle.format_cli.proofs.Ends.{takes_nothing}

-- the notes took some rows
abbrev pub TakesRows : (old new : Option (List ℕ)) → Type 0
TakesRows old new = (rows : List ℕ) × Appends old new rows

none_taken : (old new : Option (List ℕ)) → Keeps old new → TakesRows old new
none_taken old new k = ([], takes_nothing old new k)

front_taken : (old new : Option (List ℕ)) (rows : List ℕ) → AppendsPart old new rows → TakesRows old new
front_taken old new rows k = (k.0, k.3)

more_taken : (a b c : Option (List ℕ)) → TakesRows a b → TakesRows b c → TakesRows a c
more_taken a b c h k = (h.0 ++ k.0, Appends-trans a b c h.0 k.0 h.1 k.1)

put_takes : (place : Place) (name b c rows : List ℕ) (before now : Ends) (refusal : Refusal) → PutFails place name b c rows before now refusal → TakesRows before.told now.told
put_takes Output name b c rows before now BadWords k = absurd k
put_takes Output name b c rows before now (BadLines its_word fault) k = absurd k
put_takes Output name b c rows before now (BadStates word) k = absurd k
put_takes Output name b c rows before now NoInput k = absurd k
put_takes Output name b c rows before now ManyFiles k = absurd k
put_takes Output name b c rows before now (BadGenerate word) k = absurd k
put_takes Output name b c rows before now GenerateBeside k = absurd k
put_takes Output name b c rows before now (UnknownStyle unknown) k = absurd k
put_takes Output name b c rows before now (LongConfiguration file) k = absurd k
put_takes Output name b c rows before now (BadConfiguration file fault) k = absurd k
put_takes Output name b c rows before now (TooLarge its_name) k = absurd k
put_takes Output name b c rows before now (OpenComment its_name at) k = absurd k
put_takes Output name b c rows before now SourceFailed k = absurd k
put_takes Output name b c rows before now (FileFailed file) k = absurd k
put_takes Output name b c rows before now OutFailed k = (rows, k.2)
put_takes Output name b c rows before now NotesFailed k = front_taken before.told now.told rows k.2
put_takes Output name b c rows before now (Missing file) k = absurd k
put_takes Output name b c rows before now NoMemory k = absurd k
put_takes Itself name b c rows before now BadWords k = absurd k
put_takes Itself name b c rows before now (BadLines its_word fault) k = absurd k
put_takes Itself name b c rows before now (BadStates word) k = absurd k
put_takes Itself name b c rows before now NoInput k = absurd k
put_takes Itself name b c rows before now ManyFiles k = absurd k
put_takes Itself name b c rows before now (BadGenerate word) k = absurd k
put_takes Itself name b c rows before now GenerateBeside k = absurd k
put_takes Itself name b c rows before now (UnknownStyle unknown) k = absurd k
put_takes Itself name b c rows before now (LongConfiguration file) k = absurd k
put_takes Itself name b c rows before now (BadConfiguration file fault) k = absurd k
put_takes Itself name b c rows before now (TooLarge its_name) k = absurd k
put_takes Itself name b c rows before now (OpenComment its_name at) k = absurd k
put_takes Itself name b c rows before now SourceFailed k = absurd k
put_takes Itself name b c rows before now (FileFailed file) k = (rows, k.4)
put_takes Itself name b c rows before now OutFailed k = absurd k
put_takes Itself name b c rows before now NotesFailed k = front_taken before.told now.told rows k.2
put_takes Itself name b c rows before now (Missing file) k = absurd k
put_takes Itself name b c rows before now NoMemory k = (rows, k.2)
put_takes Nowhere name b c rows before now BadWords k = absurd k
put_takes Nowhere name b c rows before now (BadLines its_word fault) k = absurd k
put_takes Nowhere name b c rows before now (BadStates word) k = absurd k
put_takes Nowhere name b c rows before now NoInput k = absurd k
put_takes Nowhere name b c rows before now ManyFiles k = absurd k
put_takes Nowhere name b c rows before now (BadGenerate word) k = absurd k
put_takes Nowhere name b c rows before now GenerateBeside k = absurd k
put_takes Nowhere name b c rows before now (UnknownStyle unknown) k = absurd k
put_takes Nowhere name b c rows before now (LongConfiguration file) k = absurd k
put_takes Nowhere name b c rows before now (BadConfiguration file fault) k = absurd k
put_takes Nowhere name b c rows before now (TooLarge its_name) k = absurd k
put_takes Nowhere name b c rows before now (OpenComment its_name at) k = absurd k
put_takes Nowhere name b c rows before now SourceFailed k = absurd k
put_takes Nowhere name b c rows before now (FileFailed file) k = absurd k
put_takes Nowhere name b c rows before now OutFailed k = absurd k
put_takes Nowhere name b c rows before now NotesFailed k = front_taken before.told now.told rows k.2
put_takes Nowhere name b c rows before now (Missing file) k = absurd k
put_takes Nowhere name b c rows before now NoMemory k = absurd k

source_takes : (options : Options) (place : Place) (input old new told now : Option (List ℕ)) (refusal : Refusal) → IsSourceRefused options place input old new told now refusal → TakesRows told now
source_takes options place input old new told now BadWords k = none_taken told now k.2
source_takes options place input old new told now (BadLines its_word fault) k = none_taken told now k.2
source_takes options place input old new told now (BadStates word) k = none_taken told now k.2
source_takes options place input old new told now NoInput k = none_taken told now k.2
source_takes options place input old new told now ManyFiles k = none_taken told now k.2
source_takes options place input old new told now (BadGenerate word) k = none_taken told now k.2
source_takes options place input old new told now GenerateBeside k = none_taken told now k.2
source_takes options place input old new told now (UnknownStyle unknown) k = none_taken told now k.2
source_takes options place input old new told now (LongConfiguration file) k = none_taken told now k.2
source_takes options place input old new told now (BadConfiguration file fault) k = none_taken told now k.2
source_takes options place input old new told now (TooLarge its_name) k = none_taken told now k.2
source_takes options place input old new told now (OpenComment its_name at) k = none_taken told now k.2
source_takes options place input old new told now SourceFailed k = none_taken told now k.2
source_takes options place input old new told now (FileFailed file) k = none_taken told now k.2
source_takes options place input old new told now OutFailed k = (_, k.5)
source_takes options place input old new told now NotesFailed k = front_taken told now _ k.5
source_takes options place input old new told now (Missing file) k = none_taken told now k.2
source_takes options place input old new told now NoMemory k = none_taken told now k.2

files_take : (options : Options) (place : Place) (names : List (List ℕ)) (before now : Ends) → AreDone options place names before now → TakesRows before.told now.told
files_take options place [] before now k = none_taken before.told now.told k.told
files_take options place (name ∷ names) before now k = more_taken before.told k.0.told now.told (rows_told place name k.1.3, k.1.5) (files_take options place names k.0 now k.2)

refused_take : (options : Options) (place : Place) (names : List (List ℕ)) (before now : Ends) (refusal : Refusal) → AreRefused options place names before now refusal → TakesRows before.told now.told
refused_take options place [] before now refusal k = absurd k
refused_take options place (name ∷ names) before now refusal (inl (inl k)) = none_taken before.told now.told k.0.told
refused_take options place (name ∷ names) before now refusal (inl (inr k)) = put_takes place name k.0 k.1 _ before now refusal k.4
refused_take options place (name ∷ names) before now refusal (inr k) =
    more_taken before.told k.0.told now.told (rows_told place name k.1.3, k.1.5) (refused_take options place names k.0 now refusal k.2)

-- while a call does what its words ask for
pub performed_takes : (said : Words) (style : Style) (before now : World) → IsPerformed said style before now → TakesRows before.ends.told now.ends.told
performed_takes said style before now (inl p) = none_taken before.ends.told now.ends.told p.1.told
performed_takes said style before now (inr (inl p)) = (_, p.2.done.5)
performed_takes said style before now (inr (inr (inr p))) = (_, p.1.done.2)
performed_takes said style before now (inr (inr (inl p))) = files_take (options_of said style) (place_of said.dry_run said.in_place) (files_of said) before.ends now.ends p.1.done

made_takes : (options : Options) (text : List ℕ) (told now : Option (List ℕ)) (refusal : Refusal) → IsGeneratedRefused options text told now refusal → TakesRows told now
made_takes options text told now refusal (inl k) = none_taken told now k.0
made_takes options text told now refusal (inr k) = front_taken told now _ k.1.2

-- also where one of the inputs is refused
pub not_performed_takes : (said : Words) (style : Style) (before now : World) (refusal : Refusal) → IsNotPerformed said style before now refusal → TakesRows before.ends.told now.ends.told
not_performed_takes said style before now refusal (inl p) = none_taken before.ends.told now.ends.told p.1.told
not_performed_takes said style before now refusal (inr (inl p)) =
    source_takes (options_of said style) (place_of said.dry_run said.in_place) before.left before.ends.taken now.ends.taken before.ends.told now.ends.told refusal p.2.refused
not_performed_takes said style before now refusal (inr (inr (inr p))) = made_takes (options_of said style) (text_of p.1.generate) before.ends.told now.ends.told refusal p.1.refused
not_performed_takes said style before now refusal (inr (inr (inl p))) =
    refused_take (options_of said style) (place_of said.dry_run said.in_place) (files_of said) before.ends now.ends refusal p.1.refused
