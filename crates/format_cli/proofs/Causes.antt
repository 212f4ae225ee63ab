-- Why an input is refused, from why its text is.
use Rattle.std.proofs.Common.{◌≡◌, ◌≢◌, ◌<◌, ℕ, List, Some, None, length, inr, subst, sym, Bool, true, false, not, ◌∙◌, ap, refl}
use Rattle.std.proofs.lemmas.Bool.{false≢true}
use Rattle.std.specs.declared.option.Option.{Option}
use Rattle.fmt_ports.specs.Files.{Held, KeepsAll}
use Rattle.c_chars.specs.declared.TheConstants.{LIMIT}
use Rattle.std.specs.Io.KnownBytes.{Appends, Keeps}
use Rattle.command_refusals.specs.declared.refusal.Refusal.{Refusal}
use Rattle.command_refusals.specs.declared.refusal.Refusal.TheVariants.{BadWords, BadLines, BadStates, NoInput, ManyFiles, BadGenerate, GenerateBeside, UnknownStyle, LongConfiguration, BadConfiguration, TooLarge, OpenComment, SourceFailed, FileFailed, OutFailed, NotesFailed, Missing, NoMemory}
use Rattle.command_refusals.specs.InForce.{IsHeld, IsLonger}
use Rattle.format_cli.specs.Options.{Options}
use Rattle.format_cli.specs.declared.input.Place.TheVariants.{Itself}
use Rattle.format_cli.specs.Inputs.{ends, rows_told, IsFormatted, IsTextCause, IsFileCause, IsFileRefused, IsWriteRefused}
use Rattle.c_grammar.specs.Grammar.{is_same}
use Rattle.c_grammar.proofs.Lists.{same_is, same_refl}
use Rattle.format_cli.proofs.Ends.{others_after, keeps_all_after}

longer : (held : Held) (name text : List ℕ) → IsHeld held name text → LIMIT < length text → IsLonger held name LIMIT
longer None name text h k = tt
longer (Some at) name text h k = rw h k

-- a FILE is refused for its text
pub file_cause : (held : Held) (name text : List ℕ) (refusal : Refusal) → IsHeld held name text → IsTextCause name text refusal → IsFileCause held name refusal
file_cause held name text BadWords h k = absurd k
file_cause held name text (BadLines its_word fault) h k = absurd k
file_cause held name text (BadStates word) h k = absurd k
file_cause held name text NoInput h k = absurd k
file_cause held name text ManyFiles h k = absurd k
file_cause held name text (BadGenerate word) h k = absurd k
file_cause held name text GenerateBeside h k = absurd k
file_cause held name text (UnknownStyle unknown) h k = absurd k
file_cause held name text (LongConfiguration file) h k = absurd k
file_cause held name text (BadConfiguration file fault) h k = absurd k
file_cause held name text (TooLarge its_name) h k = (k.0, longer held name text h k.1)
file_cause held name text (OpenComment its_name at) h k = (k.0, (text, h, k.1, k.2))
file_cause held name text SourceFailed h k = absurd k
file_cause held name text (FileFailed file) h k = absurd k
file_cause held name text OutFailed h k = absurd k
file_cause held name text NotesFailed h k = absurd k
file_cause held name text (Missing file) h k = absurd k
file_cause held name text NoMemory h k = tt

-- a FILE is refused for the write of its text, which changed
pub write_refused : (options : Options) (name b c : List ℕ) (taken after told now : Option (List ℕ)) (old mid new : Held) (refusal : Refusal) → IsHeld old name b →
    (made : IsFormatted options b c) → Appends told now (rows_told Itself name made) → (c ≢ b) → KeepsAll old mid → Keeps taken after → IsWriteRefused name mid new refusal →
    IsFileRefused options Itself name (ends taken old told) (ends after new now) refusal
write_refused options name b c taken after told now old mid new BadWords held made rows changes same stays k = absurd k
write_refused options name b c taken after told now old mid new (BadLines its_word fault) held made rows changes same stays k = absurd k
write_refused options name b c taken after told now old mid new (BadStates word) held made rows changes same stays k = absurd k
write_refused options name b c taken after told now old mid new NoInput held made rows changes same stays k = absurd k
write_refused options name b c taken after told now old mid new ManyFiles held made rows changes same stays k = absurd k
write_refused options name b c taken after told now old mid new (BadGenerate word) held made rows changes same stays k = absurd k
write_refused options name b c taken after told now old mid new GenerateBeside held made rows changes same stays k = absurd k
write_refused options name b c taken after told now old mid new (UnknownStyle unknown) held made rows changes same stays k = absurd k
write_refused options name b c taken after told now old mid new (LongConfiguration file) held made rows changes same stays k = absurd k
write_refused options name b c taken after told now old mid new (BadConfiguration file fault) held made rows changes same stays k = absurd k
write_refused options name b c taken after told now old mid new (TooLarge its_name) held made rows changes same stays k = absurd k
write_refused options name b c taken after told now old mid new (OpenComment its_name at) held made rows changes same stays k = absurd k
write_refused options name b c taken after told now old mid new SourceFailed held made rows changes same stays k = absurd k
write_refused options name b c taken after told now old mid new (FileFailed file) held made rows changes same stays k = inr (b, c, held, made, (k.0, changes, stays, others_after name old mid new same k.1, rows))
write_refused options name b c taken after told now old mid new OutFailed held made rows changes same stays k = absurd k
write_refused options name b c taken after told now old mid new NotesFailed held made rows changes same stays k = absurd k
write_refused options name b c taken after told now old mid new (Missing file) held made rows changes same stays k = absurd k
write_refused options name b c taken after told now old mid new NoMemory held made rows changes same stays k = inr (b, c, held, made, (stays, keeps_all_after old mid new same k, rows))

-- what `changed` says
pub changes : (changed : Bool) (b c : List ℕ) → changed ≡ not (is_same c b) → changed ≡ true → c ≢ b
changes changed b c is holds same = false≢true (sym unchanged ∙ holds)
  where
    unchanged : changed ≡ false
    unchanged = is ∙ ap not (subst (λ (x : List ℕ). is_same x b ≡ true) (sym same) (same_refl b))

pub stays : (changed : Bool) (b c : List ℕ) → changed ≡ not (is_same c b) → changed ≡ false → c ≡ b
stays changed b c is fails = same_is c b (from_not (is_same c b) (sym is ∙ fails))
  where
    from_not : (x : Bool) → not x ≡ false → x ≡ true
    from_not true h = refl
    from_not false h = sym h
