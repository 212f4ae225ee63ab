-- An input whose rows are told.
use Rattle.std.proofs.Common.{◌≡◌, ◌≢◌, ◌↔◌, ◌<◌, ℕ, List, Bool, true, false, IsTrue, Some, None, IfSome, length, not, refl, subst, sym, codes, inl, inr}
use Rattle.std.specs.declared.option.Option.{Option}
use Rattle.std.specs.Io.KnownBytes.{Appends, Keeps}
use Rattle.fmt_ports.specs.Causes.{AppendsPart}
use Rattle.fmt_ports.specs.Files.{Held, KeepsAll}
use Rattle.c_chars.specs.declared.TheConstants.{LIMIT}
use Rattle.c_grammar.specs.Grammar.{is_same}
use Rattle.run_layout.specs.declared.report.Counts.{Counts}
use Rattle.run_layout.specs.declared.report.Report.{Report}
use Rattle.command_refusals.specs.declared.refusal.Refusal.{Refusal}
use Rattle.command_refusals.specs.declared.refusal.Refusal.TheVariants.{BadWords, BadLines, BadStates, NoInput, ManyFiles, BadGenerate, GenerateBeside, UnknownStyle, LongConfiguration, BadConfiguration, TooLarge, OpenComment, SourceFailed, FileFailed, OutFailed, NotesFailed, Missing, NoMemory}
use Rattle.command_refusals.specs.InForce.{IsHeld}
use Rattle.format_cli.specs.Options.{Options}
use Rattle.format_cli.specs.declared.input.Place.{Place}
use Rattle.format_cli.specs.declared.input.Place.TheVariants.{Output, Itself, Nowhere}
use Rattle.format_cli.specs.Inputs.{Ends, ends, rows_told, FilePutFails, FilePuts, IsDoneWith, IsFileRefused, IsFormatted, IsSourceCause, IsSourceRefused, IsTextCause, IsTextRefused, IsTextTold, IsTold, PutFails, Puts}
use Rattle.format_cli.specs.Notes.{input_rows}
use Rattle.format_cli.proofs.Causes.{changes, file_cause, stays, write_refused}
use Rattle.format_cli.proofs.Ends.{keeps_all_after, keeps_self, others_after}

-- a formatted text that has these reports and counts
abbrev pub IsMade : (options : Options) (b c : List ℕ) (reports : List Report) (counts : Counts) → Type 0
IsMade options b c reports counts = (is : IsFormatted options b c) × (reports ≡ is.reports) × (counts ≡ is.counts)

rows_are : {options : Options} {b c : List ℕ} (place : Place) (name : List ℕ) (is : IsFormatted options b c) (reports : List Report) (counts : Counts) (changed : Bool) →
    reports ≡ is.reports → counts ≡ is.counts → changed ≡ not (is_same c b) → input_rows place name options.budget reports counts changed ≡ rows_told place name is
rows_are place name is reports counts changed p q r = rw p (rw q (rw r refl))

-- the rows of a formatted text were told
pub text_told : (options : Options) (place : Place) (name b c : List ℕ) (reports : List Report) (counts : Counts) (changed : Bool) (old new : Option (List ℕ)) → IsMade options b c reports counts →
    changed ≡ not (is_same c b) → Appends old new (input_rows place name options.budget reports counts changed) → IsTextTold options place name b c old new
text_told options place name b c reports counts changed old new made is rows =
    (made.0, subst (λ (xs : List ℕ). Appends old new xs) (rows_are place name made.0 reports counts changed made.1 made.2 is) rows)

-- the notes failed at the rows of a formatted text
pub text_untold : (options : Options) (place : Place) (name b c : List ℕ) (reports : List Report) (counts : Counts) (changed : Bool) (old new : Option (List ℕ)) → IsMade options b c reports counts →
    changed ≡ not (is_same c b) → AppendsPart old new (input_rows place name options.budget reports counts changed) → IsTextRefused options place name b old new NotesFailed
text_untold options place name b c reports counts changed old new made is rows =
    inr (refl, (c, made.0, subst (λ (xs : List ℕ). AppendsPart old new xs) (rows_are place name made.0 reports counts changed made.1 made.2 is) rows))

-- what `changed` tells
pub tells : (changed : Bool) (b c : List ℕ) → changed ≡ not (is_same c b) → IsTrue changed ↔ (c ≢ b)
tells true b c is = (λ k. changes true b c is refl, λ k. refl)
tells false b c is = (λ k. absurd (cc), λ apart. absurd (apart (stays false b c is refl)))

-- ---- standard input

longer_input : (input : Option (List ℕ)) (b : List ℕ) → IsTold input b → LIMIT < length b → IfSome input (λ x. LIMIT < length x)
longer_input None b is k = tt
longer_input (Some x) b is k = rw (← is) k

source_cause : (input : Option (List ℕ)) (b : List ℕ) (refusal : Refusal) → IsTold input b → IsTextCause (codes "<stdin>") b refusal → IsSourceCause input refusal
source_cause input b BadWords is k = absurd k
source_cause input b (BadLines its_word fault) is k = absurd k
source_cause input b (BadStates word) is k = absurd k
source_cause input b NoInput is k = absurd k
source_cause input b ManyFiles is k = absurd k
source_cause input b (BadGenerate word) is k = absurd k
source_cause input b GenerateBeside is k = absurd k
source_cause input b (UnknownStyle unknown) is k = absurd k
source_cause input b (LongConfiguration file) is k = absurd k
source_cause input b (BadConfiguration file fault) is k = absurd k
source_cause input b (TooLarge its_name) is k = (k.0, longer_input input b is k.1)
source_cause input b (OpenComment its_name at) is k = (k.0, (b, is, k.1, k.2))
source_cause input b SourceFailed is k = absurd k
source_cause input b (FileFailed file) is k = absurd k
source_cause input b OutFailed is k = absurd k
source_cause input b NotesFailed is k = absurd k
source_cause input b (Missing file) is k = absurd k
source_cause input b NoMemory is k = tt

-- standard input is refused, and nothing of it was written
pub source_refused : (options : Options) (place : Place) (input old told now : Option (List ℕ)) (refusal : Refusal) → Keeps told now → IsSourceCause input refusal →
    IsSourceRefused options place input old old told now refusal
source_refused options place input old told now BadWords same k = absurd k
source_refused options place input old told now (BadLines its_word fault) same k = absurd k
source_refused options place input old told now (BadStates word) same k = absurd k
source_refused options place input old told now NoInput same k = absurd k
source_refused options place input old told now ManyFiles same k = absurd k
source_refused options place input old told now (BadGenerate word) same k = absurd k
source_refused options place input old told now GenerateBeside same k = absurd k
source_refused options place input old told now (UnknownStyle unknown) same k = absurd k
source_refused options place input old told now (LongConfiguration file) same k = absurd k
source_refused options place input old told now (BadConfiguration file fault) same k = absurd k
source_refused options place input old told now (TooLarge its_name) same k = (keeps_self old, k, same)
source_refused options place input old told now (OpenComment its_name at) same k = (keeps_self old, k, same)
source_refused options place input old told now SourceFailed same k = (keeps_self old, k, same)
source_refused options place input old told now (FileFailed file) same k = absurd k
source_refused options place input old told now OutFailed same k = absurd k
source_refused options place input old told now NotesFailed same k = absurd k
source_refused options place input old told now (Missing file) same k = absurd k
source_refused options place input old told now NoMemory same k = (keeps_self old, k, same)

-- standard input is refused for its text, or the notes failed
pub source_untold : (options : Options) (place : Place) (input old told now : Option (List ℕ)) (b : List ℕ) (refusal : Refusal) → IsTold input b →
    IsTextRefused options place (codes "<stdin>") b told now refusal → IsSourceRefused options place input old old told now refusal
source_untold options place input old told now b refusal is k = elim k [
  | inl h ↦ source_refused options place input old told now refusal h.0 (source_cause input b refusal is h.1)
  | inr h ↦ subst (λ (r : Refusal). IsSourceRefused options place input old old told now r) (sym h.0) (b, h.1.0, is, h.1.1, keeps_self old, h.1.2)
]

-- ---- a FILE

not_told : (place : Place) (name b c rows : List ℕ) (before now : Ends) → Keeps before.taken now.taken → KeepsAll before.held now.held → AppendsPart before.told now.told rows
    → PutFails place name b c rows before now NotesFailed
not_told Output name b c rows before now taken held part = (taken, held, part)
not_told Itself name b c rows before now taken held part = (taken, held, part)
not_told Nowhere name b c rows before now taken held part = (taken, held, part)

-- a FILE is refused for its text, or the notes failed
pub file_untold : (options : Options) (place : Place) (name b : List ℕ) (taken told now : Option (List ℕ)) (old new : Held) (refusal : Refusal) → IsHeld old name b → KeepsAll old new →
    IsTextRefused options place name b told now refusal → IsFileRefused options place name (ends taken old told) (ends taken new now) refusal
file_untold options place name b taken told now old new refusal held same k = elim k [
  | inl h ↦ inl (record { taken = keeps_self taken; held = same; told = h.0 }, file_cause old name b refusal held h.1)
  | inr h ↦ subst (λ (r : Refusal). IsFileRefused options place name (ends taken old told) (ends taken new now) r) (sym h.0)
      (inr (b, h.1.0, held, h.1.1, not_told place name b h.1.0 (rows_told place name h.1.1) (ends taken old told) (ends taken new now) (keeps_self taken) same h.1.2))
]

puts : (place : Place) (name b c : List ℕ) (changed : Bool) (taken after told now : Option (List ℕ)) (old mid new : Held) → changed ≡ not (is_same c b) → KeepsAll old mid →
    FilePuts place name c changed taken after mid new → Puts place name b c (ends taken old told) (ends after new now)
puts Output name b c changed taken after told now old mid new is same k = (k.0, keeps_all_after old mid new same k.1)
puts Itself name b c true taken after told now old mid new is same k = (k.0, inr (changes true b c is refl, k.1, others_after name old mid new same k.2))
puts Itself name b c false taken after told now old mid new is same k = (k.0, inl (stays false b c is refl, keeps_all_after old mid new same k.1))
puts Nowhere name b c changed taken after told now old mid new is same k = (k.0, keeps_all_after old mid new same k.1)

-- a FILE was done, once its rows were told
pub file_done : (options : Options) (place : Place) (name b c : List ℕ) (changed : Bool) (taken after told now : Option (List ℕ)) (old mid new : Held) → IsHeld old name b →
    IsTextTold options place name b c told now → changed ≡ not (is_same c b) → KeepsAll old mid → FilePuts place name c changed taken after mid new →
    IsDoneWith options place name (ends taken old told) (ends after new now) changed
file_done options place name b c changed taken after told now old mid new held rows is same k =
    ((b, c, held, rows.0, puts place name b c changed taken after told now old mid new is same k, rows.1), tells changed b c is)

-- a FILE was refused where its text was to be put, once its rows were told
pub file_cut : (options : Options) (place : Place) (name b c : List ℕ) (changed : Bool) (taken after told now : Option (List ℕ)) (old mid new : Held) (refusal : Refusal) → IsHeld old name b →
    IsTextTold options place name b c told now → changed ≡ not (is_same c b) → KeepsAll old mid → FilePutFails place name c changed taken after mid new refusal →
    IsFileRefused options place name (ends taken old told) (ends after new now) refusal
file_cut options Output name b c changed taken after told now old mid new refusal held rows is same k =
    subst (λ (r : Refusal). IsFileRefused options Output name (ends taken old told) (ends after new now) r) (sym k.0)
    (inr (b, c, held, rows.0, (k.1, keeps_all_after old mid new same k.2, rows.1)))
file_cut options Itself name b c changed taken after told now old mid new refusal held rows is same k =
    write_refused options name b c taken after told now old mid new refusal held rows.0 rows.1 (changes changed b c is k.0) same k.1 k.2
file_cut options Nowhere name b c changed taken after told now old mid new refusal held rows is same k = absurd k
