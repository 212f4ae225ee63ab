-- What follows from a refusal and its status.
use Rattle.std.proofs.Common.{◌≡◌, ◌∙◌, ◌<◌, ◌==◌, ◌⊎◌, ℕ, false, List, [], ◌∷◌, Ok, Err, Some, None, refl, sym, ap, subst, inl, inr, arith}
use Rattle.std.proofs.lemmas.Bool.{both_ways, eq-eqb}
use Rattle.std.specs.Prelude.{⊤}
use Rattle.std.specs.declared.option.Option.{Option}
use Rattle.style_table.specs.declared.style.Style.{Style}
use Rattle.off_regions.specs.declared.fault.RangeFault.{RangeFault}
use Rattle.command_words.specs.Budget.{budget_of}
use Rattle.command_words.specs.Lines.{asked_by, lines_of}
use Rattle.command_words.specs.Command.{rows_of_words}
use Rattle.command_words.specs.declared.read.Words.{Words}
use Rattle.command_words.specs.Said.{HasBadLines, HasBadStates, Reads, Says}
use Rattle.fmt_ports.specs.Files.{Held}
use Rattle.command_refusals.specs.declared.refusal.Refusal.{Refusal}
use Rattle.command_refusals.specs.declared.refusal.Refusal.TheVariants.{BadWords, BadLines, BadStates, NoInput, ManyFiles, BadGenerate, GenerateBeside, UnknownStyle, LongConfiguration, BadConfiguration, TooLarge, OpenComment, SourceFailed, FileFailed, OutFailed, NotesFailed, Missing, NoMemory}
use Rattle.command_refusals.specs.Notes.{status_of}
use Rattle.command_refusals.specs.Words.{AreWordsRefused}
use Rattle.format_cli.specs.Options.{Options}
use Rattle.format_cli.specs.declared.input.Place.{Place}
use Rattle.format_cli.specs.declared.input.Place.TheVariants.{Output, Itself, Nowhere}
use Rattle.format_cli.specs.Account.{World, IsRefused, IsNotPerformed, options_of}
use Rattle.format_cli.specs.Generated.{IsGeneratedRefused, text_of}
use Rattle.format_cli.specs.Inputs.{Ends, IsFileRefused, AreRefused, IsSourceRefused, IsFileCause, IsTextCause, PutFails}
use Rattle.format_cli.specs.Statuses.{IsStatus, AreBadWords, HasNoStyle}

pub known : (refusal : Refusal) → IsStatus (status_of refusal)
known BadWords = inr (inr (inl refl))
known (BadLines its_word fault) = inr (inr (inl refl))
known (BadStates word) = inr (inr (inl refl))
known NoInput = inr (inr (inl refl))
known ManyFiles = inr (inr (inl refl))
known (BadGenerate word) = inr (inr (inl refl))
known GenerateBeside = inr (inr (inl refl))
known (UnknownStyle unknown) = inr (inr (inr (inl refl)))
known (LongConfiguration file) = inr (inr (inr (inl refl)))
known (BadConfiguration file fault) = inr (inr (inr (inl refl)))
known (TooLarge its_name) = inr (inr (inr (inr (inl refl))))
known (OpenComment its_name at) = inr (inr (inr (inr (inl refl))))
known SourceFailed = inr (inr (inr (inr (inr (inl refl)))))
known (FileFailed file) = inr (inr (inr (inr (inr (inl refl)))))
known OutFailed = inr (inr (inr (inr (inr (inl refl)))))
known NotesFailed = inr (inr (inr (inr (inr (inl refl)))))
known (Missing file) = inr (inr (inr (inr (inr (inr (inl refl))))))
known NoMemory = inr (inr (inr (inr (inr (inr (inr (refl)))))))

-- what an input or the output can be refused for
abbrev OfInputs : Refusal → Type 0
OfInputs BadWords = ⊥
OfInputs (BadLines its_word fault) = ⊥
OfInputs (BadStates word) = ⊥
OfInputs NoInput = ⊥
OfInputs ManyFiles = ⊥
OfInputs (BadGenerate word) = ⊥
OfInputs GenerateBeside = ⊥
OfInputs (UnknownStyle unknown) = ⊥
OfInputs (LongConfiguration file) = ⊥
OfInputs (BadConfiguration file fault) = ⊥
OfInputs refusal = ⊤

cause_of_inputs : (h : Held) (name : List ℕ) (refusal : Refusal) → IsFileCause h name refusal → OfInputs refusal
cause_of_inputs h name BadWords k = absurd k
cause_of_inputs h name (BadLines its_word fault) k = absurd k
cause_of_inputs h name (BadStates word) k = absurd k
cause_of_inputs h name NoInput k = absurd k
cause_of_inputs h name ManyFiles k = absurd k
cause_of_inputs h name (BadGenerate word) k = absurd k
cause_of_inputs h name GenerateBeside k = absurd k
cause_of_inputs h name (UnknownStyle unknown) k = absurd k
cause_of_inputs h name (LongConfiguration file) k = absurd k
cause_of_inputs h name (BadConfiguration file fault) k = absurd k
cause_of_inputs h name (TooLarge its_name) k = tt
cause_of_inputs h name (OpenComment its_name at) k = tt
cause_of_inputs h name SourceFailed k = absurd k
cause_of_inputs h name (FileFailed file) k = tt
cause_of_inputs h name OutFailed k = absurd k
cause_of_inputs h name NotesFailed k = absurd k
cause_of_inputs h name (Missing file) k = tt
cause_of_inputs h name NoMemory k = tt

put_of_inputs : (place : Place) (name b c rows : List ℕ) (before now : Ends) (refusal : Refusal) → PutFails place name b c rows before now refusal → OfInputs refusal
put_of_inputs Output name b c rows before now BadWords k = absurd k
put_of_inputs Output name b c rows before now (BadLines its_word fault) k = absurd k
put_of_inputs Output name b c rows before now (BadStates word) k = absurd k
put_of_inputs Output name b c rows before now NoInput k = absurd k
put_of_inputs Output name b c rows before now ManyFiles k = absurd k
put_of_inputs Output name b c rows before now (BadGenerate word) k = absurd k
put_of_inputs Output name b c rows before now GenerateBeside k = absurd k
put_of_inputs Output name b c rows before now (UnknownStyle unknown) k = absurd k
put_of_inputs Output name b c rows before now (LongConfiguration file) k = absurd k
put_of_inputs Output name b c rows before now (BadConfiguration file fault) k = absurd k
put_of_inputs Output name b c rows before now (TooLarge its_name) k = absurd k
put_of_inputs Output name b c rows before now (OpenComment its_name at) k = absurd k
put_of_inputs Output name b c rows before now SourceFailed k = absurd k
put_of_inputs Output name b c rows before now (FileFailed file) k = absurd k
put_of_inputs Output name b c rows before now OutFailed k = tt
put_of_inputs Output name b c rows before now NotesFailed k = tt
put_of_inputs Output name b c rows before now (Missing file) k = absurd k
put_of_inputs Output name b c rows before now NoMemory k = absurd k
put_of_inputs Itself name b c rows before now BadWords k = absurd k
put_of_inputs Itself name b c rows before now (BadLines its_word fault) k = absurd k
put_of_inputs Itself name b c rows before now (BadStates word) k = absurd k
put_of_inputs Itself name b c rows before now NoInput k = absurd k
put_of_inputs Itself name b c rows before now ManyFiles k = absurd k
put_of_inputs Itself name b c rows before now (BadGenerate word) k = absurd k
put_of_inputs Itself name b c rows before now GenerateBeside k = absurd k
put_of_inputs Itself name b c rows before now (UnknownStyle unknown) k = absurd k
put_of_inputs Itself name b c rows before now (LongConfiguration file) k = absurd k
put_of_inputs Itself name b c rows before now (BadConfiguration file fault) k = absurd k
put_of_inputs Itself name b c rows before now (TooLarge its_name) k = absurd k
put_of_inputs Itself name b c rows before now (OpenComment its_name at) k = absurd k
put_of_inputs Itself name b c rows before now SourceFailed k = absurd k
put_of_inputs Itself name b c rows before now (FileFailed file) k = tt
put_of_inputs Itself name b c rows before now OutFailed k = absurd k
put_of_inputs Itself name b c rows before now NotesFailed k = tt
put_of_inputs Itself name b c rows before now (Missing file) k = absurd k
put_of_inputs Itself name b c rows before now NoMemory k = tt
put_of_inputs Nowhere name b c rows before now BadWords k = absurd k
put_of_inputs Nowhere name b c rows before now (BadLines its_word fault) k = absurd k
put_of_inputs Nowhere name b c rows before now (BadStates word) k = absurd k
put_of_inputs Nowhere name b c rows before now NoInput k = absurd k
put_of_inputs Nowhere name b c rows before now ManyFiles k = absurd k
put_of_inputs Nowhere name b c rows before now (BadGenerate word) k = absurd k
put_of_inputs Nowhere name b c rows before now GenerateBeside k = absurd k
put_of_inputs Nowhere name b c rows before now (UnknownStyle unknown) k = absurd k
put_of_inputs Nowhere name b c rows before now (LongConfiguration file) k = absurd k
put_of_inputs Nowhere name b c rows before now (BadConfiguration file fault) k = absurd k
put_of_inputs Nowhere name b c rows before now (TooLarge its_name) k = absurd k
put_of_inputs Nowhere name b c rows before now (OpenComment its_name at) k = absurd k
put_of_inputs Nowhere name b c rows before now SourceFailed k = absurd k
put_of_inputs Nowhere name b c rows before now (FileFailed file) k = absurd k
put_of_inputs Nowhere name b c rows before now OutFailed k = absurd k
put_of_inputs Nowhere name b c rows before now NotesFailed k = tt
put_of_inputs Nowhere name b c rows before now (Missing file) k = absurd k
put_of_inputs Nowhere name b c rows before now NoMemory k = absurd k

source_of_inputs : (options : Options) (place : Place) (input old new told now : Option (List ℕ)) (refusal : Refusal) → IsSourceRefused options place input old new told now refusal → OfInputs refusal
source_of_inputs options place input old new told now BadWords k = absurd k.1
source_of_inputs options place input old new told now (BadLines its_word fault) k = absurd k.1
source_of_inputs options place input old new told now (BadStates word) k = absurd k.1
source_of_inputs options place input old new told now NoInput k = absurd k.1
source_of_inputs options place input old new told now ManyFiles k = absurd k.1
source_of_inputs options place input old new told now (BadGenerate word) k = absurd k.1
source_of_inputs options place input old new told now GenerateBeside k = absurd k.1
source_of_inputs options place input old new told now (UnknownStyle unknown) k = absurd k.1
source_of_inputs options place input old new told now (LongConfiguration file) k = absurd k.1
source_of_inputs options place input old new told now (BadConfiguration file fault) k = absurd k.1
source_of_inputs options place input old new told now (TooLarge its_name) k = tt
source_of_inputs options place input old new told now (OpenComment its_name at) k = tt
source_of_inputs options place input old new told now SourceFailed k = tt
source_of_inputs options place input old new told now (FileFailed file) k = absurd k.1
source_of_inputs options place input old new told now OutFailed k = tt
source_of_inputs options place input old new told now NotesFailed k = tt
source_of_inputs options place input old new told now (Missing file) k = absurd k.1
source_of_inputs options place input old new told now NoMemory k = tt

file_of_inputs : (options : Options) (place : Place) (name : List ℕ) (before now : Ends) (refusal : Refusal) → IsFileRefused options place name before now refusal → OfInputs refusal
file_of_inputs options place name before now refusal (inl k) = cause_of_inputs before.held name refusal k.1
file_of_inputs options place name before now refusal (inr k) = put_of_inputs place name k.0 k.1 _ before now refusal k.4

files_of_inputs : (options : Options) (place : Place) (names : List (List ℕ)) (before now : Ends) (refusal : Refusal) → AreRefused options place names before now refusal → OfInputs refusal
files_of_inputs options place [] before now refusal k = absurd k
files_of_inputs options place (name ∷ names) before now refusal (inl k) = file_of_inputs options place name before now refusal k
files_of_inputs options place (name ∷ names) before now refusal (inr k) = files_of_inputs options place names k.0 now refusal k.2

-- a text is refused for a cause of its own
text_of_inputs : (name text : List ℕ) (refusal : Refusal) → IsTextCause name text refusal → OfInputs refusal
text_of_inputs name text BadWords k = absurd k
text_of_inputs name text (BadLines its_word fault) k = absurd k
text_of_inputs name text (BadStates word) k = absurd k
text_of_inputs name text NoInput k = absurd k
text_of_inputs name text ManyFiles k = absurd k
text_of_inputs name text (BadGenerate word) k = absurd k
text_of_inputs name text GenerateBeside k = absurd k
text_of_inputs name text (UnknownStyle unknown) k = absurd k
text_of_inputs name text (LongConfiguration file) k = absurd k
text_of_inputs name text (BadConfiguration file fault) k = absurd k
text_of_inputs name text (TooLarge its_name) k = tt
text_of_inputs name text (OpenComment its_name at) k = tt
text_of_inputs name text SourceFailed k = absurd k
text_of_inputs name text (FileFailed file) k = absurd k
text_of_inputs name text OutFailed k = absurd k
text_of_inputs name text NotesFailed k = absurd k
text_of_inputs name text (Missing file) k = absurd k
text_of_inputs name text NoMemory k = tt

generated_of_inputs : (options : Options) (text : List ℕ) (told now : Option (List ℕ)) (refusal : Refusal) → IsGeneratedRefused options text told now refusal → OfInputs refusal
generated_of_inputs options text told now refusal (inl k) = text_of_inputs _ text refusal k.1
generated_of_inputs options text told now refusal (inr k) = subst OfInputs (sym k.0) tt

of_inputs : (said : Words) (style : Style) (before now : World) (refusal : Refusal) → IsNotPerformed said style before now refusal → OfInputs refusal
of_inputs said style before now refusal (inl k) = subst OfInputs (sym k.1.cause) tt
of_inputs said style before now refusal (inr (inl k)) = source_of_inputs (options_of said style) _ before.left before.ends.taken now.ends.taken before.ends.told now.ends.told refusal k.2.refused
of_inputs said style before now refusal (inr (inr (inl k))) = files_of_inputs (options_of said style) _ _ before.ends now.ends refusal k.1.refused
of_inputs said style before now refusal (inr (inr (inr k))) = generated_of_inputs (options_of said style) (text_of k.1.generate) before.ends.told now.ends.told refusal k.1.refused

-- status 2 comes for the words
pub bad_words : (words : List (List ℕ)) (before now : World) (refusal : Refusal) → status_of refusal ≡ 2 →
    IsRefused words before now refusal → AreBadWords words
bad_words words before now BadWords is (inl k) = inl k.cause
bad_words words before now BadWords is (inr (inl k)) = absurd k.refused.1
bad_words words before now BadWords is (inr (inr k)) = absurd (of_inputs k.said k.style k.begun now BadWords k.refused)
bad_words words before now (BadLines its_word fault) is (inl k) = inr (inl (k.cause.0, (its_word.now, fault, k.cause.1)))
bad_words words before now (BadStates word) is (inl k) = inr (inr (inl (k.cause.0, k.cause.1, (word.now, k.cause.2))))
bad_words words before now NoInput is (inl k) = inr (inr (inr (inl k.cause)))
bad_words words before now ManyFiles is (inl k) = inr (inr (inr (inr (inl k.cause))))
bad_words words before now (BadGenerate word) is (inl k) = inr (inr (inr (inr (inr (inl (k.cause.0, k.cause.1, (word.now, k.cause.2)))))))
bad_words words before now GenerateBeside is (inl k) = inr (inr (inr (inr (inr (inr k.cause)))))
bad_words words before now (BadLines its_word fault) is (inr (inl k)) = absurd k.refused.1
bad_words words before now (BadStates word) is (inr (inl k)) = absurd k.refused.1
bad_words words before now NoInput is (inr (inl k)) = absurd k.refused.1
bad_words words before now ManyFiles is (inr (inl k)) = absurd k.refused.1
bad_words words before now (BadGenerate word) is (inr (inl k)) = absurd k.refused.1
bad_words words before now GenerateBeside is (inr (inl k)) = absurd k.refused.1
bad_words words before now (BadLines its_word fault) is (inr (inr k)) = absurd (of_inputs k.said k.style k.begun now (BadLines its_word fault) k.refused)
bad_words words before now (BadStates word) is (inr (inr k)) = absurd (of_inputs k.said k.style k.begun now (BadStates word) k.refused)
bad_words words before now NoInput is (inr (inr k)) = absurd (of_inputs k.said k.style k.begun now NoInput k.refused)
bad_words words before now ManyFiles is (inr (inr k)) = absurd (of_inputs k.said k.style k.begun now ManyFiles k.refused)
bad_words words before now (BadGenerate word) is (inr (inr k)) = absurd (of_inputs k.said k.style k.begun now (BadGenerate word) k.refused)
bad_words words before now GenerateBeside is (inr (inr k)) = absurd (of_inputs k.said k.style k.begun now GenerateBeside k.refused)
bad_words words before now (UnknownStyle unknown) is k = absurd (cc)
bad_words words before now (LongConfiguration file) is k = absurd (cc)
bad_words words before now (BadConfiguration file fault) is k = absurd (cc)
bad_words words before now (TooLarge its_name) is k = absurd (cc)
bad_words words before now (OpenComment its_name at) is k = absurd (cc)
bad_words words before now SourceFailed is k = absurd (cc)
bad_words words before now (FileFailed file) is k = absurd (cc)
bad_words words before now OutFailed is k = absurd (cc)
bad_words words before now NotesFailed is k = absurd (cc)
bad_words words before now (Missing file) is k = absurd (cc)
bad_words words before now NoMemory is k = absurd (cc)

-- a value that tells no budget isn't said
pub no_budget : (words : List (List ℕ)) (word : List ℕ) (said : Words) → HasBadStates (rows_of_words words) word → Says (rows_of_words words) said → ⊥
no_budget words word said bad says = let e : Some said.budget ≡ None = sym says.budget ∙ (ap budget_of bad.given ∙ bad.bad) in cc

-- a value that is no list of ranges isn't said
pub no_lines : (words : List (List ℕ)) (word : List ℕ) (fault : RangeFault) (said : Words) → HasBadLines (rows_of_words words) word fault → Says (rows_of_words words) said → ⊥
no_lines words word fault said bad says =
    let e : Ok said.lines ≡ asked_by (Err fault) = sym says.lines ∙ (ap lines_of bad.given ∙ ap asked_by bad.bad) in cc

-- two numbers that differ
pub apart : (a b : ℕ) → (a == b) ≡ false → a ≡ b → ⊥
apart a b differs is = both_ways (a == b) differs (eq-eqb a b is)

-- a count that stays didn't rise
pub not_risen : (a b : ℕ) → b ≡ a → a < b → ⊥
not_risen a b same more = omega (arith, same, more)

-- bad words say nothing
pub not_read : (words : List (List ℕ)) (said : Words) → AreBadWords words → Reads words (Ok said) → ⊥
not_read words said (inl bad) reads = bad reads.0
not_read words said (inr (inl bad)) reads = no_lines words bad.1.0 bad.1.1 said bad.1.2 reads.2
not_read words said (inr (inr (inl bad))) reads = no_budget words bad.2.0 said bad.2.1 reads.2
not_read words said (inr (inr (inr (inl bad)))) reads = reads.1 bad.3
not_read words said (inr (inr (inr (inr (inl bad))))) reads = reads.3 bad.3
not_read words said (inr (inr (inr (inr (inr (inl bad)))))) reads = reads.4.in_form bad.2.0 bad.2.1
not_read words said (inr (inr (inr (inr (inr (inr bad)))))) reads = reads.4.alone bad.3

-- bad words give status 2, or memory ran out
pub form : (words : List (List ℕ)) (before now : World) (refusal : Refusal) → AreBadWords words →
    IsRefused words before now refusal → (status_of refusal ≡ 2) ⊎ (status_of refusal ≡ 7)
form words before now refusal bad (inl k) = of_words refusal k.cause
  where
    of_words : (r : Refusal) → AreWordsRefused words r → (status_of r ≡ 2) ⊎ (status_of r ≡ 7)
    of_words BadWords k = inl refl
    of_words (BadLines its_word fault) k = inl refl
    of_words (BadStates word) k = inl refl
    of_words NoInput k = inl refl
    of_words ManyFiles k = inl refl
    of_words (BadGenerate word) k = inl refl
    of_words GenerateBeside k = inl refl
    of_words (UnknownStyle unknown) k = absurd k
    of_words (LongConfiguration file) k = absurd k
    of_words (BadConfiguration file fault) k = absurd k
    of_words (TooLarge its_name) k = absurd k
    of_words (OpenComment its_name at) k = absurd k
    of_words SourceFailed k = absurd k
    of_words (FileFailed file) k = absurd k
    of_words OutFailed k = absurd k
    of_words NotesFailed k = absurd k
    of_words (Missing file) k = absurd k
    of_words NoMemory k = inr refl
form words before now refusal bad (inr (inl k)) = absurd (not_read words k.said bad k.reads)
form words before now refusal bad (inr (inr k)) = absurd (not_read words k.said bad k.begins.reads)

-- status 3 comes where no style is in force
pub no_style : (words : List (List ℕ)) (before now : World) (refusal : Refusal) → status_of refusal ≡ 3 →
    IsRefused words before now refusal → HasNoStyle words before.ends.held 3
no_style words before now BadWords is k = absurd (cc)
no_style words before now (BadLines its_word fault) is k = absurd (cc)
no_style words before now (BadStates word) is k = absurd (cc)
no_style words before now NoInput is k = absurd (cc)
no_style words before now ManyFiles is k = absurd (cc)
no_style words before now (BadGenerate word) is k = absurd (cc)
no_style words before now GenerateBeside is k = absurd (cc)
no_style words before now (UnknownStyle unknown) is (inl k) = absurd k.cause
no_style words before now (UnknownStyle unknown) is (inr (inl k)) = record { said = k.said; reads = k.reads; refusal = (UnknownStyle unknown); is_its = refl; cause = k.refused.1 }
no_style words before now (UnknownStyle unknown) is (inr (inr k)) = absurd (of_inputs k.said k.style k.begun now (UnknownStyle unknown) k.refused)
no_style words before now (LongConfiguration file) is (inl k) = absurd k.cause
no_style words before now (LongConfiguration file) is (inr (inl k)) = record { said = k.said; reads = k.reads; refusal = (LongConfiguration file); is_its = refl; cause = k.refused.1 }
no_style words before now (LongConfiguration file) is (inr (inr k)) = absurd (of_inputs k.said k.style k.begun now (LongConfiguration file) k.refused)
no_style words before now (BadConfiguration file fault) is (inl k) = absurd k.cause
no_style words before now (BadConfiguration file fault) is (inr (inl k)) = record { said = k.said; reads = k.reads; refusal = (BadConfiguration file fault); is_its = refl; cause = k.refused.1 }
no_style words before now (BadConfiguration file fault) is (inr (inr k)) = absurd (of_inputs k.said k.style k.begun now (BadConfiguration file fault) k.refused)
no_style words before now (TooLarge its_name) is k = absurd (cc)
no_style words before now (OpenComment its_name at) is k = absurd (cc)
no_style words before now SourceFailed is k = absurd (cc)
no_style words before now (FileFailed file) is k = absurd (cc)
no_style words before now OutFailed is k = absurd (cc)
no_style words before now NotesFailed is k = absurd (cc)
no_style words before now (Missing file) is k = absurd (cc)
no_style words before now NoMemory is k = absurd (cc)
