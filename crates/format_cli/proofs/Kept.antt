-- What stays as it was, and which name is missing.
use Rattle.std.proofs.Common.{◌≡◌, ◌≢◌, ◌<◌, ◌⊎◌, ◌∙◌, ℕ, Bool, true, false, List, [], ◌∷◌, Some, None, IsTrue, IsFalse, refl, sym, subst, inl, inr, ap, length, codes, IsSome, IsSomeAnd}
use Rattle.std.specs.Prelude.{⊤}
use Rattle.std.proofs.lemmas.Bool.{false≢true}
use Rattle.std.specs.declared.option.Option.{Option}
use Rattle.std.specs.Io.KnownBytes.{Keeps}
use Rattle.fmt_ports.specs.Files.{Held, HeldAt, KeepsAll, KeepsOthers}
use Rattle.c_chars.specs.declared.TheConstants.{LIMIT}
use Rattle.c_grammar.specs.Grammar.{is_same}
use Rattle.c_grammar.proofs.Lists.{same_is, same_refl}
use Rattle.style_table.specs.declared.style.Style.{Style}
use Rattle.command_words.specs.Command.{Gives, generate_word, rows_of_words}
use Rattle.command_words.specs.declared.pieces.Generate.{Generate}
use Rattle.command_words.specs.declared.read.Words.{Words}
use Rattle.command_refusals.specs.declared.refusal.Refusal.{Refusal}
use Rattle.command_refusals.specs.declared.refusal.Refusal.TheVariants.{BadWords, BadLines, BadStates, NoInput, ManyFiles, BadGenerate, GenerateBeside, UnknownStyle, LongConfiguration, BadConfiguration, TooLarge, OpenComment, SourceFailed, FileFailed, OutFailed, NotesFailed, Missing, NoMemory}
use Rattle.command_refusals.specs.InForce.{IsHeld, IsMissing}
use Rattle.command_refusals.specs.Notes.{status_of}
use Rattle.command_refusals.specs.Words.{AreWordsRefused}
use Rattle.command_refusals.proofs.Statuses.{style_not}
use Rattle.format_cli.specs.Options.{Options}
use Rattle.std.specs.Borrow.{Bor}
use Rattle.command_words.specs.declared.read.StyleChoice.{StyleChoice}
use Rattle.command_words.specs.declared.read.StyleChoice.TheVariants.{FileAt}
use Rattle.format_cli.specs.declared.input.Place.{Place}
use Rattle.format_cli.specs.declared.input.Place.TheVariants.{Output, Itself, Nowhere}
use Rattle.format_cli.specs.Account.{Answers, TextChanges, World, WouldFail, IsRefused, EndsWell, IsPerformed, IsNotPerformed, IsBegun, IsSourceNotWritten, IsSourceWritten, files_of, options_of, place_of}
use Rattle.format_cli.specs.Generated.{IsGeneratedRefused, text_of}
use Rattle.format_cli.specs.Inputs.{Ends, IsDone, IsFileCause, IsSourceCause, IsSourceRefused, IsTextCause, AreDone, AreRefused, PutFails, Puts, SourcePutFails, SourcePuts}
use Rattle.format_cli.specs.Statuses.{AsksWhetherChanged, HasRefusedInput, IsOneOf, IsPath, LacksName, LeavesFiles, LeavesOutput}
use Rattle.format_cli.proofs.Choice.{is_made, made_alone}
use Rattle.format_cli.proofs.Ends.{keeps_all_after}

keeps_after : (a b c : Option (List ℕ)) → Keeps a b → Keeps b c → Keeps a c
keeps_after None b c h k = tt
keeps_after (Some a) None c h k = absurd h
keeps_after (Some a) (Some b) None h k = absurd k
keeps_after (Some a) (Some b) (Some c) h k = k ∙ h

both : (b : Bool) → IsTrue b → IsFalse b → ⊥
both b h k = false≢true (sym k ∙ h)

-- ---- with `-i` or `--dry-run` the output stays

-- nothing goes from there to the output
abbrev pub LeavesOut : Place → Type 0
LeavesOut Output = ⊥
LeavesOut Itself = ⊤
LeavesOut Nowhere = ⊤

leaves_out : (dry_run in_place : Bool) → IsTrue in_place ⊎ IsTrue dry_run → LeavesOut (place_of dry_run in_place)
leaves_out true in_place k = tt
leaves_out false true k = tt
leaves_out false false (inl k) = absurd (false≢true k)
leaves_out false false (inr k) = absurd (false≢true k)

puts_keep : (place : Place) (name b c : List ℕ) (before now : Ends) → LeavesOut place → Puts place name b c before now → Keeps before.taken now.taken
puts_keep Output name b c before now leaves k = absurd leaves
puts_keep Itself name b c before now leaves k = k.0
puts_keep Nowhere name b c before now leaves k = k.0

put_keeps : (place : Place) (name b c rows : List ℕ) (before now : Ends) (refusal : Refusal) → LeavesOut place → PutFails place name b c rows before now refusal → Keeps before.taken now.taken
put_keeps Output name b c rows before now BadWords leaves k = absurd k
put_keeps Output name b c rows before now (BadLines its_word fault) leaves k = absurd k
put_keeps Output name b c rows before now (BadStates word) leaves k = absurd k
put_keeps Output name b c rows before now NoInput leaves k = absurd k
put_keeps Output name b c rows before now ManyFiles leaves k = absurd k
put_keeps Output name b c rows before now (BadGenerate word) leaves k = absurd k
put_keeps Output name b c rows before now GenerateBeside leaves k = absurd k
put_keeps Output name b c rows before now (UnknownStyle unknown) leaves k = absurd k
put_keeps Output name b c rows before now (LongConfiguration file) leaves k = absurd k
put_keeps Output name b c rows before now (BadConfiguration file fault) leaves k = absurd k
put_keeps Output name b c rows before now (TooLarge its_name) leaves k = absurd k
put_keeps Output name b c rows before now (OpenComment its_name at) leaves k = absurd k
put_keeps Output name b c rows before now SourceFailed leaves k = absurd k
put_keeps Output name b c rows before now (FileFailed file) leaves k = absurd k
put_keeps Output name b c rows before now OutFailed leaves k = absurd leaves
put_keeps Output name b c rows before now NotesFailed leaves k = k.0
put_keeps Output name b c rows before now (Missing file) leaves k = absurd k
put_keeps Output name b c rows before now NoMemory leaves k = absurd k
put_keeps Itself name b c rows before now BadWords leaves k = absurd k
put_keeps Itself name b c rows before now (BadLines its_word fault) leaves k = absurd k
put_keeps Itself name b c rows before now (BadStates word) leaves k = absurd k
put_keeps Itself name b c rows before now NoInput leaves k = absurd k
put_keeps Itself name b c rows before now ManyFiles leaves k = absurd k
put_keeps Itself name b c rows before now (BadGenerate word) leaves k = absurd k
put_keeps Itself name b c rows before now GenerateBeside leaves k = absurd k
put_keeps Itself name b c rows before now (UnknownStyle unknown) leaves k = absurd k
put_keeps Itself name b c rows before now (LongConfiguration file) leaves k = absurd k
put_keeps Itself name b c rows before now (BadConfiguration file fault) leaves k = absurd k
put_keeps Itself name b c rows before now (TooLarge its_name) leaves k = absurd k
put_keeps Itself name b c rows before now (OpenComment its_name at) leaves k = absurd k
put_keeps Itself name b c rows before now SourceFailed leaves k = absurd k
put_keeps Itself name b c rows before now (FileFailed file) leaves k = k.2
put_keeps Itself name b c rows before now OutFailed leaves k = absurd k
put_keeps Itself name b c rows before now NotesFailed leaves k = k.0
put_keeps Itself name b c rows before now (Missing file) leaves k = absurd k
put_keeps Itself name b c rows before now NoMemory leaves k = k.0
put_keeps Nowhere name b c rows before now BadWords leaves k = absurd k
put_keeps Nowhere name b c rows before now (BadLines its_word fault) leaves k = absurd k
put_keeps Nowhere name b c rows before now (BadStates word) leaves k = absurd k
put_keeps Nowhere name b c rows before now NoInput leaves k = absurd k
put_keeps Nowhere name b c rows before now ManyFiles leaves k = absurd k
put_keeps Nowhere name b c rows before now (BadGenerate word) leaves k = absurd k
put_keeps Nowhere name b c rows before now GenerateBeside leaves k = absurd k
put_keeps Nowhere name b c rows before now (UnknownStyle unknown) leaves k = absurd k
put_keeps Nowhere name b c rows before now (LongConfiguration file) leaves k = absurd k
put_keeps Nowhere name b c rows before now (BadConfiguration file fault) leaves k = absurd k
put_keeps Nowhere name b c rows before now (TooLarge its_name) leaves k = absurd k
put_keeps Nowhere name b c rows before now (OpenComment its_name at) leaves k = absurd k
put_keeps Nowhere name b c rows before now SourceFailed leaves k = absurd k
put_keeps Nowhere name b c rows before now (FileFailed file) leaves k = absurd k
put_keeps Nowhere name b c rows before now OutFailed leaves k = absurd k
put_keeps Nowhere name b c rows before now NotesFailed leaves k = k.0
put_keeps Nowhere name b c rows before now (Missing file) leaves k = absurd k
put_keeps Nowhere name b c rows before now NoMemory leaves k = absurd k

done_keeps : (options : Options) (place : Place) (names : List (List ℕ)) (before now : Ends) → LeavesOut place → AreDone options place names before now → Keeps before.taken now.taken
done_keeps options place [] before now leaves k = k.taken
done_keeps options place (name ∷ names) before now leaves k =
    keeps_after _ _ _ (puts_keep place name k.1.0 k.1.1 before k.0 leaves k.1.4) (done_keeps options place names k.0 now leaves k.2)

refused_keeps : (options : Options) (place : Place) (names : List (List ℕ)) (before now : Ends) (refusal : Refusal) → LeavesOut place → AreRefused options place names before now refusal →
    Keeps before.taken now.taken
refused_keeps options place [] before now refusal leaves k = absurd k
refused_keeps options place (name ∷ names) before now refusal leaves (inl (inl k)) = k.0.taken
refused_keeps options place (name ∷ names) before now refusal leaves (inl (inr k)) = put_keeps place name k.0 k.1 _ before now refusal leaves k.4
refused_keeps options place (name ∷ names) before now refusal leaves (inr k) =
    keeps_after _ _ _ (puts_keep place name k.1.0 k.1.1 before k.0 leaves k.1.4) (refused_keeps options place names k.0 now refusal leaves k.2)

nowhere : (dry_run in_place : Bool) → IsTrue dry_run → place_of dry_run in_place ≡ Nowhere
nowhere true in_place k = refl
nowhere false in_place k = absurd (false≢true k)

source_keeps : (place : Place) (c : List ℕ) (old new : Option (List ℕ)) → place ≡ Nowhere → SourcePuts place c old new → Keeps old new
source_keeps Output c old new leaves k = absurd (cc)
source_keeps Itself c old new leaves k = absurd (cc)
source_keeps Nowhere c old new leaves k = k

cut_keeps : (place : Place) (c : List ℕ) (old new : Option (List ℕ)) → place ≡ Nowhere → SourcePutFails place c old new → Keeps old new
cut_keeps Output c old new leaves k = absurd (cc)
cut_keeps Itself c old new leaves k = absurd (cc)
cut_keeps Nowhere c old new leaves k = absurd k

source_refused_keeps : (options : Options) (place : Place) (input old new told now : Option (List ℕ)) (refusal : Refusal) → place ≡ Nowhere →
    IsSourceRefused options place input old new told now refusal → Keeps old new
source_refused_keeps options place input old new told now BadWords leaves k = k.0
source_refused_keeps options place input old new told now (BadLines its_word fault) leaves k = k.0
source_refused_keeps options place input old new told now (BadStates word) leaves k = k.0
source_refused_keeps options place input old new told now NoInput leaves k = k.0
source_refused_keeps options place input old new told now ManyFiles leaves k = k.0
source_refused_keeps options place input old new told now (BadGenerate word) leaves k = k.0
source_refused_keeps options place input old new told now GenerateBeside leaves k = k.0
source_refused_keeps options place input old new told now (UnknownStyle unknown) leaves k = k.0
source_refused_keeps options place input old new told now (LongConfiguration file) leaves k = k.0
source_refused_keeps options place input old new told now (BadConfiguration file fault) leaves k = k.0
source_refused_keeps options place input old new told now (TooLarge its_name) leaves k = k.0
source_refused_keeps options place input old new told now (OpenComment its_name at) leaves k = k.0
source_refused_keeps options place input old new told now SourceFailed leaves k = k.0
source_refused_keeps options place input old new told now (FileFailed file) leaves k = k.0
source_refused_keeps options place input old new told now OutFailed leaves k = cut_keeps place k.1 old new leaves k.4
source_refused_keeps options place input old new told now NotesFailed leaves k = k.4
source_refused_keeps options place input old new told now (Missing file) leaves k = k.0
source_refused_keeps options place input old new told now NoMemory leaves k = k.0

-- the words that keep texts from the output
abbrev Leaves : List (List ℕ) → Type 0
Leaves words = Gives (codes "in-place") (rows_of_words words) ⊎ Gives (codes "dry-run") (rows_of_words words) ⊎ IsSome (generate_word (rows_of_words words))

-- a file to write to is named
lacks : (words : List (List ℕ)) (before begun : World) (said : Words) (style : Style) → Gives (codes "in-place") (rows_of_words words) →
    (Gives (codes "dump-config") (rows_of_words words) → ⊥) → IsBegun words before begun said style → files_of said ≡ [] → ⊥
lacks words before begun said style given no_dump k none = k.reads.1 (record { in_place = given; no_dump = no_dump; no_file = sym k.reads.2.files ∙ none })

leaves_of : (words : List (List ℕ)) (before begun : World) (said : Words) (style : Style) → LeavesOutput words → IsBegun words before begun said style → files_of said ≢ [] →
    LeavesOut (place_of said.dry_run said.in_place)
leaves_of words before begun said style w k some = leaves_out said.dry_run said.in_place (given w.0)
  where
    given : Leaves words → IsTrue said.in_place ⊎ IsTrue said.dry_run
    given (inl g) = inl (k.reads.2.in_place.1 g)
    given (inr (inl g)) = inr (k.reads.2.dry_run.1 g)
    given (inr (inr g)) = absurd (made_alone words said k.reads g some)

pub out_kept_well : (words : List (List ℕ)) (before now : World) (answer : ℕ) → LeavesOutput words → EndsWell words before now answer →
    Keeps before.ends.taken now.ends.taken
out_kept_well words before now answer w k = keeps_after _ _ _ k.begins.untouched.taken (performed k.performed)
  where
    source : Leaves words → files_of k.said ≡ [] → k.said.generate ≡ None →
        IsSourceWritten (options_of k.said k.style) (place_of k.said.dry_run k.said.in_place) k.begun now → Keeps k.begun.ends.taken now.ends.taken
    source (inl g) none unmade p = absurd (lacks words before k.begun k.said k.style g w.1 k.begins none)
    source (inr (inr g)) none unmade p = absurd (is_made words k.said k.begins.reads g unmade)
    source (inr (inl g)) none unmade p = source_keeps (place_of k.said.dry_run k.said.in_place) p.done.1 _ _ (nowhere k.said.dry_run k.said.in_place (k.begins.reads.2.dry_run.1 g)) p.done.4

    performed : IsPerformed k.said k.style k.begun now → Keeps k.begun.ends.taken now.ends.taken
    performed (inl p) = absurd (w.1 (k.begins.reads.2.dump_config.0 p.0))
    performed (inr (inl p)) = source w.0 p.1 p.3 p.2
    performed (inr (inr (inl p))) =
        done_keeps (options_of k.said k.style) (place_of k.said.dry_run k.said.in_place) (files_of k.said) k.begun.ends now.ends
        (leaves_of words before k.begun k.said k.style w k.begins p.1.some) p.1.done
    performed (inr (inr (inr p))) = p.1.taken

pub out_kept : (words : List (List ℕ)) (before now : World) (refusal : Refusal) → LeavesOutput words →
    IsRefused words before now refusal → Keeps before.ends.taken now.ends.taken
out_kept words before now refusal w (inl k) = k.untouched.taken
out_kept words before now refusal w (inr (inl k)) = k.untouched.taken
out_kept words before now refusal w (inr (inr k)) = keeps_after _ _ _ k.begins.untouched.taken (refused k.refused)
  where
    source : Leaves words → files_of k.said ≡ [] → k.said.generate ≡ None →
        IsSourceNotWritten (options_of k.said k.style) (place_of k.said.dry_run k.said.in_place) k.begun now refusal → Keeps k.begun.ends.taken now.ends.taken
    source (inl g) none unmade p = absurd (lacks words before k.begun k.said k.style g w.1 k.begins none)
    source (inr (inr g)) none unmade p = absurd (is_made words k.said k.begins.reads g unmade)
    source (inr (inl g)) none unmade p =
        source_refused_keeps (options_of k.said k.style) (place_of k.said.dry_run k.said.in_place) k.begun.left _ _ k.begun.ends.told now.ends.told refusal
        (nowhere k.said.dry_run k.said.in_place (k.begins.reads.2.dry_run.1 g)) p.refused

    refused : IsNotPerformed k.said k.style k.begun now refusal → Keeps k.begun.ends.taken now.ends.taken
    refused (inl p) = absurd (w.1 (k.begins.reads.2.dump_config.0 p.0))
    refused (inr (inl p)) = source w.0 p.1 p.3 p.2
    refused (inr (inr (inl p))) =
        refused_keeps (options_of k.said k.style) (place_of k.said.dry_run k.said.in_place) (files_of k.said) k.begun.ends now.ends refusal
        (leaves_of words before k.begun k.said k.style w k.begins p.1.some) p.1.refused
    refused (inr (inr (inr p))) = p.1.taken

-- ---- without `-i`, and with `--dry-run`, the files stay

-- nothing goes from there into a file
abbrev pub LeavesHeld : Place → Type 0
LeavesHeld Output = ⊤
LeavesHeld Itself = ⊥
LeavesHeld Nowhere = ⊤

leaves_held : (dry_run in_place : Bool) → (IsTrue in_place → ⊥) ⊎ IsTrue dry_run → LeavesHeld (place_of dry_run in_place)
leaves_held true in_place k = tt
leaves_held false true (inl k) = k refl
leaves_held false true (inr k) = absurd (false≢true k)
leaves_held false false k = tt

puts_stay : (place : Place) (name b c : List ℕ) (before now : Ends) → LeavesHeld place → Puts place name b c before now → KeepsAll before.held now.held
puts_stay Output name b c before now leaves k = k.1
puts_stay Itself name b c before now leaves k = absurd leaves
puts_stay Nowhere name b c before now leaves k = k.1

put_stays : (place : Place) (name b c rows : List ℕ) (before now : Ends) (refusal : Refusal) → LeavesHeld place → PutFails place name b c rows before now refusal → KeepsAll before.held now.held
put_stays Output name b c rows before now BadWords leaves k = absurd k
put_stays Output name b c rows before now (BadLines its_word fault) leaves k = absurd k
put_stays Output name b c rows before now (BadStates word) leaves k = absurd k
put_stays Output name b c rows before now NoInput leaves k = absurd k
put_stays Output name b c rows before now ManyFiles leaves k = absurd k
put_stays Output name b c rows before now (BadGenerate word) leaves k = absurd k
put_stays Output name b c rows before now GenerateBeside leaves k = absurd k
put_stays Output name b c rows before now (UnknownStyle unknown) leaves k = absurd k
put_stays Output name b c rows before now (LongConfiguration file) leaves k = absurd k
put_stays Output name b c rows before now (BadConfiguration file fault) leaves k = absurd k
put_stays Output name b c rows before now (TooLarge its_name) leaves k = absurd k
put_stays Output name b c rows before now (OpenComment its_name at) leaves k = absurd k
put_stays Output name b c rows before now SourceFailed leaves k = absurd k
put_stays Output name b c rows before now (FileFailed file) leaves k = absurd k
put_stays Output name b c rows before now OutFailed leaves k = k.1
put_stays Output name b c rows before now NotesFailed leaves k = k.1
put_stays Output name b c rows before now (Missing file) leaves k = absurd k
put_stays Output name b c rows before now NoMemory leaves k = absurd k
put_stays Itself name b c rows before now BadWords leaves k = absurd k
put_stays Itself name b c rows before now (BadLines its_word fault) leaves k = absurd k
put_stays Itself name b c rows before now (BadStates word) leaves k = absurd k
put_stays Itself name b c rows before now NoInput leaves k = absurd k
put_stays Itself name b c rows before now ManyFiles leaves k = absurd k
put_stays Itself name b c rows before now (BadGenerate word) leaves k = absurd k
put_stays Itself name b c rows before now GenerateBeside leaves k = absurd k
put_stays Itself name b c rows before now (UnknownStyle unknown) leaves k = absurd k
put_stays Itself name b c rows before now (LongConfiguration file) leaves k = absurd k
put_stays Itself name b c rows before now (BadConfiguration file fault) leaves k = absurd k
put_stays Itself name b c rows before now (TooLarge its_name) leaves k = absurd k
put_stays Itself name b c rows before now (OpenComment its_name at) leaves k = absurd k
put_stays Itself name b c rows before now SourceFailed leaves k = absurd k
put_stays Itself name b c rows before now (FileFailed file) leaves k = absurd leaves
put_stays Itself name b c rows before now OutFailed leaves k = absurd k
put_stays Itself name b c rows before now NotesFailed leaves k = k.1
put_stays Itself name b c rows before now (Missing file) leaves k = absurd k
put_stays Itself name b c rows before now NoMemory leaves k = k.1
put_stays Nowhere name b c rows before now BadWords leaves k = absurd k
put_stays Nowhere name b c rows before now (BadLines its_word fault) leaves k = absurd k
put_stays Nowhere name b c rows before now (BadStates word) leaves k = absurd k
put_stays Nowhere name b c rows before now NoInput leaves k = absurd k
put_stays Nowhere name b c rows before now ManyFiles leaves k = absurd k
put_stays Nowhere name b c rows before now (BadGenerate word) leaves k = absurd k
put_stays Nowhere name b c rows before now GenerateBeside leaves k = absurd k
put_stays Nowhere name b c rows before now (UnknownStyle unknown) leaves k = absurd k
put_stays Nowhere name b c rows before now (LongConfiguration file) leaves k = absurd k
put_stays Nowhere name b c rows before now (BadConfiguration file fault) leaves k = absurd k
put_stays Nowhere name b c rows before now (TooLarge its_name) leaves k = absurd k
put_stays Nowhere name b c rows before now (OpenComment its_name at) leaves k = absurd k
put_stays Nowhere name b c rows before now SourceFailed leaves k = absurd k
put_stays Nowhere name b c rows before now (FileFailed file) leaves k = absurd k
put_stays Nowhere name b c rows before now OutFailed leaves k = absurd k
put_stays Nowhere name b c rows before now NotesFailed leaves k = k.1
put_stays Nowhere name b c rows before now (Missing file) leaves k = absurd k
put_stays Nowhere name b c rows before now NoMemory leaves k = absurd k

done_stays : (options : Options) (place : Place) (names : List (List ℕ)) (before now : Ends) → LeavesHeld place → AreDone options place names before now → KeepsAll before.held now.held
done_stays options place [] before now leaves k = k.held
done_stays options place (name ∷ names) before now leaves k =
    keeps_all_after _ _ _ (puts_stay place name k.1.0 k.1.1 before k.0 leaves k.1.4) (done_stays options place names k.0 now leaves k.2)

refused_stays : (options : Options) (place : Place) (names : List (List ℕ)) (before now : Ends) (refusal : Refusal) → LeavesHeld place → AreRefused options place names before now refusal →
    KeepsAll before.held now.held
refused_stays options place [] before now refusal leaves k = absurd k
refused_stays options place (name ∷ names) before now refusal leaves (inl (inl k)) = k.0.held
refused_stays options place (name ∷ names) before now refusal leaves (inl (inr k)) = put_stays place name k.0 k.1 _ before now refusal leaves k.4
refused_stays options place (name ∷ names) before now refusal leaves (inr k) =
    keeps_all_after _ _ _ (puts_stay place name k.1.0 k.1.1 before k.0 leaves k.1.4) (refused_stays options place names k.0 now refusal leaves k.2)

held_of : (words : List (List ℕ)) (before begun : World) (said : Words) (style : Style) → LeavesFiles words → IsFalse said.dump_config → IsBegun words before begun said style →
    LeavesHeld (place_of said.dry_run said.in_place)
held_of words before begun said style w no_dump k = leaves_held said.dry_run said.in_place (given w)
  where
    given : LeavesFiles words → (IsTrue said.in_place → ⊥) ⊎ IsTrue said.dry_run
    given (inl g) = inl (λ is. g (k.reads.2.in_place.0 is))
    given (inr (inl g)) = inr (k.reads.2.dry_run.1 g)
    given (inr (inr g)) = absurd (both _ (k.reads.2.dump_config.1 g) no_dump)

pub files_kept_well : (words : List (List ℕ)) (before now : World) (answer : ℕ) → LeavesFiles words → EndsWell words before now answer →
    KeepsAll before.ends.held now.ends.held
files_kept_well words before now answer w k = keeps_all_after _ _ _ k.begins.untouched.held (performed k.performed)
  where
    performed : IsPerformed k.said k.style k.begun now → KeepsAll k.begun.ends.held now.ends.held
    performed (inl p) = p.1.held
    performed (inr (inl p)) = p.2.held
    performed (inr (inr (inl p))) =
        done_stays (options_of k.said k.style) (place_of k.said.dry_run k.said.in_place) (files_of k.said) k.begun.ends now.ends
        (held_of words before k.begun k.said k.style w p.0 k.begins) p.1.done
    performed (inr (inr (inr p))) = p.1.held

pub files_kept : (words : List (List ℕ)) (before now : World) (refusal : Refusal) → LeavesFiles words →
    IsRefused words before now refusal → KeepsAll before.ends.held now.ends.held
files_kept words before now refusal w (inl k) = k.untouched.held
files_kept words before now refusal w (inr (inl k)) = k.untouched.held
files_kept words before now refusal w (inr (inr k)) = keeps_all_after _ _ _ k.begins.untouched.held (refused k.refused)
  where
    refused : IsNotPerformed k.said k.style k.begun now refusal → KeepsAll k.begun.ends.held now.ends.held
    refused (inl p) = p.1.held
    refused (inr (inl p)) = p.2.held
    refused (inr (inr (inl p))) =
        refused_stays (options_of k.said k.style) (place_of k.said.dry_run k.said.in_place) (files_of k.said) k.begun.ends now.ends refusal
        (held_of words before k.begun k.said k.style w p.0 k.begins) p.1.refused
    refused (inr (inr (inr p))) = p.1.held

-- ---- status 1

-- status 1 comes where the words ask for it
pub asks : (words : List (List ℕ)) (before now : World) (answer : ℕ) → answer ≡ 1 → EndsWell words before now answer → AsksWhetherChanged words
asks words before now answer one k = by k.answers
  where
    changes_somewhere : (p : IsPerformed k.said k.style k.begun now) → TextChanges k.said k.style k.begun now p → IsFalse k.said.dump_config
    changes_somewhere (inl p) c = absurd c
    changes_somewhere (inr (inl p)) c = p.0
    changes_somewhere (inr (inr (inl p))) c = p.0
    changes_somewhere (inr (inr (inr p))) c = p.0

    by : Answers (WouldFail k.said (TextChanges k.said k.style k.begun now k.performed)) answer → AsksWhetherChanged words
    by (inl a) = (
      k.begins.reads.2.dry_run.0 a.0.0,
      k.begins.reads.2.werror.0 a.0.1,
      λ dump. both _ (k.begins.reads.2.dump_config.1 dump) (changes_somewhere k.performed a.0.2),
    )
    by (inr a) = let wrong : 0 ≡ 1 = sym a.1 ∙ one in absurd (cc)

-- ---- a name that is missing

missing_before : (a b : Held) (name : List ℕ) → KeepsAll a b → IsMissing b name → IsMissing a name
missing_before None b name h k = tt
missing_before (Some a) None name h k = absurd h
missing_before (Some a) (Some b) name h k = sym (h name) ∙ k

-- a file that was written isn't missing, and every other is where it was
missing_unwritten : (a b : Held) (written text name : List ℕ) → IsHeld b written text → KeepsOthers written a b → IsMissing b name → IsMissing a name
missing_unwritten None b written text name held others k = tt
missing_unwritten (Some a) None written text name held others k = absurd others
missing_unwritten (Some a) (Some b) written text name held others k = decide (is_same name written) refl
  where
    decide : (same : Bool) → is_same name written ≡ same → a name ≡ None
    decide true is = let at = same_is name written is in let there : b name ≡ Some text = rw at held in absurd (cc)
    decide false is = sym (others name (λ at. false≢true (sym is ∙ subst (λ (x : List ℕ). is_same name x ≡ true) at (same_refl name)))) ∙ k

missing_undone : (options : Options) (place : Place) (done name : List ℕ) (before now : Ends) → IsDone options place done before now → IsMissing now.held name → IsMissing before.held name
missing_undone options Output done name before now k m = missing_before _ _ name k.4.1 m
missing_undone options Nowhere done name before now k m = missing_before _ _ name k.4.1 m
missing_undone options Itself done name before now k m = put k.4.1
  where
    put : ((k.1 ≡ k.0) × KeepsAll before.held now.held) ⊎ ((k.1 ≢ k.0) × IsHeld now.held done k.1 × KeepsOthers done before.held now.held) → IsMissing before.held name
    put (inl p) = missing_before _ _ name p.1 m
    put (inr p) = missing_unwritten _ _ done k.1 name p.1 p.2 m

not_put : (place : Place) (name b c rows : List ℕ) (before now : Ends) (file : Bor (List ℕ)) → PutFails place name b c rows before now (Missing file) → ⊥
not_put Output name b c rows before now file k = k
not_put Itself name b c rows before now file k = k
not_put Nowhere name b c rows before now file k = k

missing_file : (options : Options) (place : Place) (names : List (List ℕ)) (before now : Ends) (file : Bor (List ℕ)) →
    AreRefused options place names before now (Missing file) → IsOneOf file.now names × IsMissing before.held file.now
missing_file options place [] before now file k = absurd k
missing_file options place (name ∷ names) before now file (inl (inl k)) = (inl k.1.0, subst (λ (x : List ℕ). IsMissing before.held x) (sym k.1.0) k.1.1)
missing_file options place (name ∷ names) before now file (inl (inr k)) = absurd (not_put place name k.0 k.1 _ before now file k.4)
missing_file options place (name ∷ names) before now file (inr k) =
    let later = missing_file options place names k.0 now file k.2 in
    (inr later.0, missing_undone options place name file.now before k.0 k.1 later.1)

made_not : (options : Options) (text : List ℕ) (told now : Option (List ℕ)) (file : Bor (List ℕ)) → IsGeneratedRefused options text told now (Missing file) → ⊥
made_not options text told now file (inl k) = k.1
made_not options text told now file (inr k) = let wrong : Missing file ≡ NotesFailed = k.0 in cc

path_is : (choice : StyleChoice) (file : Bor (List ℕ)) → choice ≡ FileAt file → IsPath choice file.now
path_is choice file is = subst (λ (x : StyleChoice). IsPath x file.now) (sym is) refl

-- status 6 comes for a name that isn't there
pub missing_name : (words : List (List ℕ)) (before now : World) (refusal : Refusal) → status_of refusal ≡ 6 →
    IsRefused words before now refusal → LacksName words before.ends.held
missing_name words before now BadWords is k = absurd (cc)
missing_name words before now (BadLines its_word fault) is k = absurd (cc)
missing_name words before now (BadStates word) is k = absurd (cc)
missing_name words before now NoInput is k = absurd (cc)
missing_name words before now ManyFiles is k = absurd (cc)
missing_name words before now (BadGenerate word) is k = absurd (cc)
missing_name words before now GenerateBeside is k = absurd (cc)
missing_name words before now (UnknownStyle unknown) is k = absurd (cc)
missing_name words before now (LongConfiguration file) is k = absurd (cc)
missing_name words before now (BadConfiguration file fault) is k = absurd (cc)
missing_name words before now (TooLarge its_name) is k = absurd (cc)
missing_name words before now (OpenComment its_name at) is k = absurd (cc)
missing_name words before now SourceFailed is k = absurd (cc)
missing_name words before now (FileFailed file) is k = absurd (cc)
missing_name words before now OutFailed is k = absurd (cc)
missing_name words before now NotesFailed is k = absurd (cc)
missing_name words before now (Missing file) is (inl k) = absurd k.cause
missing_name words before now (Missing file) is (inr (inl k)) = record { said = k.said; reads = k.reads; name = file.now; named = inl (path_is k.said.style file k.refused.1.0); missing = k.refused.1.1 }
missing_name words before now (Missing file) is (inr (inr k)) = of_inputs k.refused
  where
    of_inputs : IsNotPerformed k.said k.style k.begun now (Missing file) → LacksName words before.ends.held
    of_inputs (inl p) = let e = p.1.cause in absurd (cc)
    of_inputs (inr (inl p)) = absurd p.2.refused.1
    of_inputs (inr (inr (inr p))) = absurd (made_not (options_of k.said k.style) (text_of p.1.generate) k.begun.ends.told now.ends.told file p.1.refused)
    of_inputs (inr (inr (inl p))) =
        let found = missing_file (options_of k.said k.style) _ (files_of k.said) k.begun.ends now.ends file p.1.refused in
        record { said = k.said; reads = k.begins.reads; name = file.now; named = inr (p.0, found.0); missing = missing_before _ _ file.now k.begins.untouched.held found.1 }
missing_name words before now NoMemory is k = absurd (cc)

-- ---- an input that is refused for its text

at_before : (a b : Held) (name : List ℕ) (P : Option (List ℕ) → Type 0) → KeepsAll a b → HeldAt b name P → HeldAt a name P
at_before None b name P h k = tt
at_before (Some a) None name P h k = absurd h
at_before (Some a) (Some b) name P h k = subst P (h name) k

cause_before : (a b : Held) (name : List ℕ) (refusal : Refusal) → KeepsAll a b → IsFileCause b name refusal → IsFileCause a name refusal
cause_before a b name BadWords h k = absurd k
cause_before a b name (BadLines its_word fault) h k = absurd k
cause_before a b name (BadStates word) h k = absurd k
cause_before a b name NoInput h k = absurd k
cause_before a b name ManyFiles h k = absurd k
cause_before a b name (BadGenerate word) h k = absurd k
cause_before a b name GenerateBeside h k = absurd k
cause_before a b name (UnknownStyle unknown) h k = absurd k
cause_before a b name (LongConfiguration file) h k = absurd k
cause_before a b name (BadConfiguration file fault) h k = absurd k
cause_before a b name (TooLarge its_name) h k = (k.0, at_before a b name (λ bytes. IsSomeAnd bytes (λ text. LIMIT < length text)) h k.1)
cause_before a b name (OpenComment its_name at) h k = (k.0, (k.1.0, at_before a b name (λ bytes. bytes ≡ Some k.1.0) h k.1.1, k.1.2, k.1.3))
cause_before a b name SourceFailed h k = absurd k
cause_before a b name (FileFailed file) h k = k
cause_before a b name OutFailed h k = absurd k
cause_before a b name NotesFailed h k = absurd k
cause_before a b name (Missing file) h k = (k.0, missing_before a b name h k.1)
cause_before a b name NoMemory h k = tt

put_not : (place : Place) (name b c rows : List ℕ) (before now : Ends) (refusal : Refusal) → status_of refusal ≡ 4 → PutFails place name b c rows before now refusal → ⊥
put_not Output name b c rows before now BadWords is k = k
put_not Output name b c rows before now (BadLines its_word fault) is k = k
put_not Output name b c rows before now (BadStates word) is k = k
put_not Output name b c rows before now NoInput is k = k
put_not Output name b c rows before now ManyFiles is k = k
put_not Output name b c rows before now (BadGenerate word) is k = k
put_not Output name b c rows before now GenerateBeside is k = k
put_not Output name b c rows before now (UnknownStyle unknown) is k = k
put_not Output name b c rows before now (LongConfiguration file) is k = k
put_not Output name b c rows before now (BadConfiguration file fault) is k = k
put_not Output name b c rows before now (TooLarge its_name) is k = k
put_not Output name b c rows before now (OpenComment its_name at) is k = k
put_not Output name b c rows before now SourceFailed is k = k
put_not Output name b c rows before now (FileFailed file) is k = k
put_not Output name b c rows before now OutFailed is k = cc
put_not Output name b c rows before now NotesFailed is k = cc
put_not Output name b c rows before now (Missing file) is k = k
put_not Output name b c rows before now NoMemory is k = k
put_not Itself name b c rows before now BadWords is k = k
put_not Itself name b c rows before now (BadLines its_word fault) is k = k
put_not Itself name b c rows before now (BadStates word) is k = k
put_not Itself name b c rows before now NoInput is k = k
put_not Itself name b c rows before now ManyFiles is k = k
put_not Itself name b c rows before now (BadGenerate word) is k = k
put_not Itself name b c rows before now GenerateBeside is k = k
put_not Itself name b c rows before now (UnknownStyle unknown) is k = k
put_not Itself name b c rows before now (LongConfiguration file) is k = k
put_not Itself name b c rows before now (BadConfiguration file fault) is k = k
put_not Itself name b c rows before now (TooLarge its_name) is k = k
put_not Itself name b c rows before now (OpenComment its_name at) is k = k
put_not Itself name b c rows before now SourceFailed is k = k
put_not Itself name b c rows before now (FileFailed file) is k = cc
put_not Itself name b c rows before now OutFailed is k = k
put_not Itself name b c rows before now NotesFailed is k = cc
put_not Itself name b c rows before now (Missing file) is k = k
put_not Itself name b c rows before now NoMemory is k = cc
put_not Nowhere name b c rows before now BadWords is k = k
put_not Nowhere name b c rows before now (BadLines its_word fault) is k = k
put_not Nowhere name b c rows before now (BadStates word) is k = k
put_not Nowhere name b c rows before now NoInput is k = k
put_not Nowhere name b c rows before now ManyFiles is k = k
put_not Nowhere name b c rows before now (BadGenerate word) is k = k
put_not Nowhere name b c rows before now GenerateBeside is k = k
put_not Nowhere name b c rows before now (UnknownStyle unknown) is k = k
put_not Nowhere name b c rows before now (LongConfiguration file) is k = k
put_not Nowhere name b c rows before now (BadConfiguration file fault) is k = k
put_not Nowhere name b c rows before now (TooLarge its_name) is k = k
put_not Nowhere name b c rows before now (OpenComment its_name at) is k = k
put_not Nowhere name b c rows before now SourceFailed is k = k
put_not Nowhere name b c rows before now (FileFailed file) is k = k
put_not Nowhere name b c rows before now OutFailed is k = k
put_not Nowhere name b c rows before now NotesFailed is k = cc
put_not Nowhere name b c rows before now (Missing file) is k = k
put_not Nowhere name b c rows before now NoMemory is k = k

words_not : (words : List (List ℕ)) (refusal : Refusal) → status_of refusal ≡ 4 → AreWordsRefused words refusal → ⊥
words_not words BadWords is k = cc
words_not words (BadLines its_word fault) is k = cc
words_not words (BadStates word) is k = cc
words_not words NoInput is k = cc
words_not words ManyFiles is k = cc
words_not words (BadGenerate word) is k = cc
words_not words GenerateBeside is k = cc
words_not words (UnknownStyle unknown) is k = k
words_not words (LongConfiguration file) is k = k
words_not words (BadConfiguration file fault) is k = k
words_not words (TooLarge its_name) is k = k
words_not words (OpenComment its_name at) is k = k
words_not words SourceFailed is k = k
words_not words (FileFailed file) is k = k
words_not words OutFailed is k = k
words_not words NotesFailed is k = k
words_not words (Missing file) is k = k
words_not words NoMemory is k = cc

source_text : (options : Options) (place : Place) (input old new told now : Option (List ℕ)) (refusal : Refusal) → status_of refusal ≡ 4 → IsSourceRefused options place input old new told now refusal → IsSourceCause input refusal
source_text options place input old new told now BadWords is k = absurd (cc)
source_text options place input old new told now (BadLines its_word fault) is k = absurd (cc)
source_text options place input old new told now (BadStates word) is k = absurd (cc)
source_text options place input old new told now NoInput is k = absurd (cc)
source_text options place input old new told now ManyFiles is k = absurd (cc)
source_text options place input old new told now (BadGenerate word) is k = absurd (cc)
source_text options place input old new told now GenerateBeside is k = absurd (cc)
source_text options place input old new told now (UnknownStyle unknown) is k = absurd (cc)
source_text options place input old new told now (LongConfiguration file) is k = absurd (cc)
source_text options place input old new told now (BadConfiguration file fault) is k = absurd (cc)
source_text options place input old new told now (TooLarge its_name) is k = k.1
source_text options place input old new told now (OpenComment its_name at) is k = k.1
source_text options place input old new told now SourceFailed is k = absurd (cc)
source_text options place input old new told now (FileFailed file) is k = absurd (cc)
source_text options place input old new told now OutFailed is k = absurd (cc)
source_text options place input old new told now NotesFailed is k = absurd (cc)
source_text options place input old new told now (Missing file) is k = absurd (cc)
source_text options place input old new told now NoMemory is k = absurd (cc)

file_text : (options : Options) (place : Place) (names : List (List ℕ)) (before now : Ends) (refusal : Refusal) → LeavesHeld place → status_of refusal ≡ 4 →
    AreRefused options place names before now refusal → (name : List ℕ) × IsOneOf name names × IsFileCause before.held name refusal
file_text options place [] before now refusal leaves is k = absurd k
file_text options place (name ∷ names) before now refusal leaves is (inl (inl k)) = (name, inl refl, k.1)
file_text options place (name ∷ names) before now refusal leaves is (inl (inr k)) = absurd (put_not place name k.0 k.1 _ before now refusal is k.4)
file_text options place (name ∷ names) before now refusal leaves is (inr k) =
    let later = file_text options place names k.0 now refusal leaves is k.2 in
    (later.0, inr later.1, cause_before before.held k.0.held later.0 refusal (puts_stay place name k.1.0 k.1.1 before k.0 leaves k.1.4) later.2)

made_text : (options : Options) (text : List ℕ) (told now : Option (List ℕ)) (refusal : Refusal) → status_of refusal ≡ 4 → IsGeneratedRefused options text told now refusal →
    IsTextCause (codes "<generated>") text refusal
made_text options text told now refusal is (inl k) = k.1
made_text options text told now refusal is (inr k) = let five : status_of refusal ≡ 5 = ap status_of k.0 in absurd (cc)

-- status 4 comes for an input's text
pub refused_input : (words : List (List ℕ)) (before now : World) (refusal : Refusal) → status_of refusal ≡ 4 → LeavesFiles words →
    IsRefused words before now refusal → HasRefusedInput words before.left before.ends.held 4
refused_input words before now refusal is w (inl k) = absurd (words_not words refusal is k.cause)
refused_input words before now refusal is w (inr (inl k)) = absurd (style_not k.said.style before.ends.held before.ends.told now.ends.told refusal is k.refused)
refused_input words before now refusal is w (inr (inr k)) = record { said = k.said; reads = k.begins.reads; refusal = refusal; is_its = is; cause = cause w k.refused }
  where
    cause : LeavesFiles words → IsNotPerformed k.said k.style k.begun now refusal →
        ((files_of k.said ≡ []) × IsSourceCause before.left refusal × (k.said.generate ≡ None))
        ⊎ ((name : List ℕ) × IsOneOf name (files_of k.said) × IsFileCause before.ends.held name refusal)
        ⊎ ((generate : Generate) × (k.said.generate ≡ Some generate) × IsTextCause (codes "<generated>") (text_of generate) refusal)
    cause w (inl p) = let five : status_of refusal ≡ 5 = ap status_of p.1.cause in absurd (cc)
    cause w (inr (inl p)) =
        inl (
          p.1,
          subst (λ (left : Option (List ℕ)). IsSourceCause left refusal) k.begins.untouched.left
              (source_text (options_of k.said k.style) (place_of k.said.dry_run k.said.in_place) k.begun.left _ _ _ _ refusal is p.2.refused),
          p.3,
        )
    cause w (inr (inr (inr p))) =
        inr (inr (p.1.generate, p.1.given, made_text (options_of k.said k.style) (text_of p.1.generate) k.begun.ends.told now.ends.told refusal is p.1.refused))
    cause w (inr (inr (inl p))) =
        let found = file_text (options_of k.said k.style) (place_of k.said.dry_run k.said.in_place) (files_of k.said) k.begun.ends now.ends refusal
        (held_of words before k.begun k.said k.style w p.0 k.begins) is p.1.refused in
        inr (inl (found.0, found.1, cause_before before.ends.held k.begun.ends.held found.0 refusal k.begins.untouched.held found.2))
