-- Why no style is in force, from what its configuration says.
use Rattle.std.proofs.Common.{◌≡◌, ℕ, List, Some, None, [], subst, sym, arith}
use Rattle.std.proofs.lemmas.Grind.{common_steps}
use Rattle.std.specs.declared.option.Option.{Option}
use Rattle.std.specs.Borrow.{Bor}
use Rattle.std.specs.Io.KnownBytes.{Appends}
use Rattle.fmt_ports.specs.Files.{Held}
use Rattle.style_table.specs.declared.style.Style.{Style}
use Rattle.command_words.specs.declared.read.StyleChoice.{StyleChoice}
use Rattle.command_refusals.specs.declared.refusal.Refusal.{Refusal}
use Rattle.command_refusals.specs.declared.refusal.Refusal.TheVariants.{BadWords, BadLines, BadStates, NoInput, ManyFiles, BadGenerate, GenerateBeside, UnknownStyle, LongConfiguration, BadConfiguration, TooLarge, OpenComment, SourceFailed, FileFailed, OutFailed, NotesFailed, Missing, NoMemory}
use Rattle.command_refusals.specs.InForce.{IsHeld, IsInForce, IsStyleRefused, IsConfigurationRefused, Configures, configuration_of}

-- nothing is a text that may always be taken
pub appends_none : (x : Option (List ℕ)) → Appends x x []
appends_none None = tt
appends_none (Some x) = grind (arith, common_steps)

-- no style is in force for what its configuration says
pub style_refused : (choice : StyleChoice) (held : Held) (file : Bor (List ℕ)) (text : List ℕ) (old new : Option (List ℕ)) (refusal : Refusal) →
    IsHeld held file.now text → configuration_of choice ≡ Some file.now →
    ((style : Style) (rows : List ℕ) → Configures file.now text style rows → IsInForce choice held style rows) →
    IsConfigurationRefused file text old new refusal → IsStyleRefused choice held old new refusal
style_refused choice held file text old new BadWords h names gives k = absurd k
style_refused choice held file text old new (BadLines its_word fault) h names gives k = absurd k
style_refused choice held file text old new (BadStates word) h names gives k = absurd k
style_refused choice held file text old new NoInput h names gives k = absurd k
style_refused choice held file text old new ManyFiles h names gives k = absurd k
style_refused choice held file text old new (BadGenerate word) h names gives k = absurd k
style_refused choice held file text old new GenerateBeside h names gives k = absurd k
style_refused choice held file text old new (UnknownStyle unknown) h names gives k = absurd k
style_refused choice held file text old new (LongConfiguration at) h names gives k = absurd k
style_refused choice held file text old new (BadConfiguration at fault) h names gives k = (
  k.0,
  (
    subst (λ (x : Bor (List ℕ)). configuration_of choice ≡ Some x.now) (sym k.1) names,
    (text, subst (λ (x : Bor (List ℕ)). IsHeld held x.now text) (sym k.1) h, k.2),
  ),
)
style_refused choice held file text old new (TooLarge its_name) h names gives k = absurd k
style_refused choice held file text old new (OpenComment its_name at) h names gives k = absurd k
style_refused choice held file text old new SourceFailed h names gives k = absurd k
style_refused choice held file text old new (FileFailed at) h names gives k = absurd k
style_refused choice held file text old new OutFailed h names gives k = absurd k
style_refused choice held file text old new NotesFailed h names gives k = (k.0, k.1, gives k.0 k.1 k.2, k.3)
style_refused choice held file text old new (Missing at) h names gives k = absurd k
style_refused choice held file text old new NoMemory h names gives k = (k, tt)
