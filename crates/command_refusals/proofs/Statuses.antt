-- What follows from the status of a refusal, and from the counts that it raised.
use Rattle.std.proofs.Common.{◌≡◌, ◌<◌, ◌≤◌, ◌⊎◌, ℕ, List, refl, inl, inr, le_trans, subst, arith}
use Rattle.std.specs.declared.option.Option.{Option}
use Rattle.fmt_ports.specs.Causes.{Rose}
use Rattle.fmt_ports.specs.Files.{Held}
use Rattle.command_words.specs.declared.read.StyleChoice.{StyleChoice}
use Rattle.command_refusals.specs.declared.refusal.Refusal.{Refusal}
use Rattle.command_refusals.specs.declared.refusal.Refusal.TheVariants.{BadWords, BadLines, BadStates, NoInput, ManyFiles, BadGenerate, GenerateBeside, UnknownStyle, LongConfiguration, BadConfiguration, TooLarge, OpenComment, SourceFailed, FileFailed, OutFailed, NotesFailed, Missing, NoMemory}
use Rattle.command_refusals.specs.Counts.{Faults, Raises}
use Rattle.command_refusals.specs.InForce.{IsStyleRefused}
use Rattle.command_refusals.specs.Notes.{status_of}

pub not_zero : (refusal : Refusal) → status_of refusal ≡ 0 → ⊥
not_zero BadWords is = cc
not_zero (BadLines its_word fault) is = cc
not_zero (BadStates word) is = cc
not_zero NoInput is = cc
not_zero ManyFiles is = cc
not_zero (BadGenerate word) is = cc
not_zero GenerateBeside is = cc
not_zero (UnknownStyle unknown) is = cc
not_zero (LongConfiguration file) is = cc
not_zero (BadConfiguration file fault) is = cc
not_zero (TooLarge its_name) is = cc
not_zero (OpenComment its_name at) is = cc
not_zero SourceFailed is = cc
not_zero (FileFailed file) is = cc
not_zero OutFailed is = cc
not_zero NotesFailed is = cc
not_zero (Missing file) is = cc
not_zero NoMemory is = cc

pub not_one : (refusal : Refusal) → status_of refusal ≡ 1 → ⊥
not_one BadWords is = cc
not_one (BadLines its_word fault) is = cc
not_one (BadStates word) is = cc
not_one NoInput is = cc
not_one ManyFiles is = cc
not_one (BadGenerate word) is = cc
not_one GenerateBeside is = cc
not_one (UnknownStyle unknown) is = cc
not_one (LongConfiguration file) is = cc
not_one (BadConfiguration file fault) is = cc
not_one (TooLarge its_name) is = cc
not_one (OpenComment its_name at) is = cc
not_one SourceFailed is = cc
not_one (FileFailed file) is = cc
not_one OutFailed is = cc
not_one NotesFailed is = cc
not_one (Missing file) is = cc
not_one NoMemory is = cc

-- ---- counts

-- status 5 comes where a count of faults rose, and the notes' may rise further
pub failed : (refusal : Refusal) (a b : Faults) (notes : ℕ) → b.notes ≤ notes → status_of refusal ≡ 5 → Raises refusal a b →
    Rose a.source b.source ⊎ Rose a.out b.out ⊎ Rose a.notes notes ⊎ Rose a.files b.files
failed BadWords a b notes later is k = absurd (cc)
failed (BadLines its_word fault) a b notes later is k = absurd (cc)
failed (BadStates word) a b notes later is k = absurd (cc)
failed NoInput a b notes later is k = absurd (cc)
failed ManyFiles a b notes later is k = absurd (cc)
failed (BadGenerate word) a b notes later is k = absurd (cc)
failed GenerateBeside a b notes later is k = absurd (cc)
failed (UnknownStyle unknown) a b notes later is k = absurd (cc)
failed (LongConfiguration file) a b notes later is k = absurd (cc)
failed (BadConfiguration file fault) a b notes later is k = absurd (cc)
failed (TooLarge its_name) a b notes later is k = absurd (cc)
failed (OpenComment its_name at) a b notes later is k = absurd (cc)
failed SourceFailed a b notes later is k = inl k.1
failed (FileFailed file) a b notes later is k = inr (inr (inr k.1))
failed OutFailed a b notes later is k = inr (inl k.1)
failed NotesFailed a b notes later is k = inr (inr (inl (le_trans k.1 later)))
failed (Missing file) a b notes later is k = absurd (cc)
failed NoMemory a b notes later is k = absurd (cc)

-- a greater count of source gives status 5
pub source_fault : (refusal : Refusal) (a b : Faults) → Raises refusal a b → a.source < b.source → status_of refusal ≡ 5
source_fault BadWords a b k more = absurd (omega (arith, k.source))
source_fault (BadLines its_word fault) a b k more = absurd (omega (arith, k.source))
source_fault (BadStates word) a b k more = absurd (omega (arith, k.source))
source_fault NoInput a b k more = absurd (omega (arith, k.source))
source_fault ManyFiles a b k more = absurd (omega (arith, k.source))
source_fault (BadGenerate word) a b k more = absurd (omega (arith, k.source))
source_fault GenerateBeside a b k more = absurd (omega (arith, k.source))
source_fault (UnknownStyle unknown) a b k more = absurd (omega (arith, k.source))
source_fault (LongConfiguration file) a b k more = absurd (omega (arith, k.source))
source_fault (BadConfiguration file fault) a b k more = absurd (omega (arith, k.source))
source_fault (TooLarge its_name) a b k more = absurd (omega (arith, k.source))
source_fault (OpenComment its_name at) a b k more = absurd (omega (arith, k.source))
source_fault SourceFailed a b k more = refl
source_fault (FileFailed file) a b k more = refl
source_fault OutFailed a b k more = refl
source_fault NotesFailed a b k more = refl
source_fault (Missing file) a b k more = absurd (omega (arith, k.0.source))
source_fault NoMemory a b k more = absurd (omega (arith, k.source))

-- a greater count of out gives status 5
pub out_fault : (refusal : Refusal) (a b : Faults) → Raises refusal a b → a.out < b.out → status_of refusal ≡ 5
out_fault BadWords a b k more = absurd (omega (arith, k.out))
out_fault (BadLines its_word fault) a b k more = absurd (omega (arith, k.out))
out_fault (BadStates word) a b k more = absurd (omega (arith, k.out))
out_fault NoInput a b k more = absurd (omega (arith, k.out))
out_fault ManyFiles a b k more = absurd (omega (arith, k.out))
out_fault (BadGenerate word) a b k more = absurd (omega (arith, k.out))
out_fault GenerateBeside a b k more = absurd (omega (arith, k.out))
out_fault (UnknownStyle unknown) a b k more = absurd (omega (arith, k.out))
out_fault (LongConfiguration file) a b k more = absurd (omega (arith, k.out))
out_fault (BadConfiguration file fault) a b k more = absurd (omega (arith, k.out))
out_fault (TooLarge its_name) a b k more = absurd (omega (arith, k.out))
out_fault (OpenComment its_name at) a b k more = absurd (omega (arith, k.out))
out_fault SourceFailed a b k more = refl
out_fault (FileFailed file) a b k more = refl
out_fault OutFailed a b k more = refl
out_fault NotesFailed a b k more = refl
out_fault (Missing file) a b k more = absurd (omega (arith, k.0.out))
out_fault NoMemory a b k more = absurd (omega (arith, k.out))

-- a greater count of files gives status 5
pub files_fault : (refusal : Refusal) (a b : Faults) → Raises refusal a b → a.files < b.files → status_of refusal ≡ 5
files_fault BadWords a b k more = absurd (omega (arith, k.files))
files_fault (BadLines its_word fault) a b k more = absurd (omega (arith, k.files))
files_fault (BadStates word) a b k more = absurd (omega (arith, k.files))
files_fault NoInput a b k more = absurd (omega (arith, k.files))
files_fault ManyFiles a b k more = absurd (omega (arith, k.files))
files_fault (BadGenerate word) a b k more = absurd (omega (arith, k.files))
files_fault GenerateBeside a b k more = absurd (omega (arith, k.files))
files_fault (UnknownStyle unknown) a b k more = absurd (omega (arith, k.files))
files_fault (LongConfiguration file) a b k more = absurd (omega (arith, k.files))
files_fault (BadConfiguration file fault) a b k more = absurd (omega (arith, k.files))
files_fault (TooLarge its_name) a b k more = absurd (omega (arith, k.files))
files_fault (OpenComment its_name at) a b k more = absurd (omega (arith, k.files))
files_fault SourceFailed a b k more = refl
files_fault (FileFailed file) a b k more = refl
files_fault OutFailed a b k more = refl
files_fault NotesFailed a b k more = refl
files_fault (Missing file) a b k more = absurd (omega (arith, k.0.files))
files_fault NoMemory a b k more = absurd (omega (arith, k.files))

-- status 6 comes where the misses rose
pub missing : (refusal : Refusal) (a b : Faults) → status_of refusal ≡ 6 → Raises refusal a b → Rose a.misses b.misses
missing BadWords a b is k = absurd (cc)
missing (BadLines its_word fault) a b is k = absurd (cc)
missing (BadStates word) a b is k = absurd (cc)
missing NoInput a b is k = absurd (cc)
missing ManyFiles a b is k = absurd (cc)
missing (BadGenerate word) a b is k = absurd (cc)
missing GenerateBeside a b is k = absurd (cc)
missing (UnknownStyle unknown) a b is k = absurd (cc)
missing (LongConfiguration file) a b is k = absurd (cc)
missing (BadConfiguration file fault) a b is k = absurd (cc)
missing (TooLarge its_name) a b is k = absurd (cc)
missing (OpenComment its_name at) a b is k = absurd (cc)
missing SourceFailed a b is k = absurd (cc)
missing (FileFailed file) a b is k = absurd (cc)
missing OutFailed a b is k = absurd (cc)
missing NotesFailed a b is k = absurd (cc)
missing (Missing file) a b is k = k.1
missing NoMemory a b is k = absurd (cc)

-- greater misses give status 6
pub misses : (refusal : Refusal) (a b : Faults) → Raises refusal a b → a.misses < b.misses → status_of refusal ≡ 6
misses BadWords a b k more = absurd (omega (arith, k.misses))
misses (BadLines its_word fault) a b k more = absurd (omega (arith, k.misses))
misses (BadStates word) a b k more = absurd (omega (arith, k.misses))
misses NoInput a b k more = absurd (omega (arith, k.misses))
misses ManyFiles a b k more = absurd (omega (arith, k.misses))
misses (BadGenerate word) a b k more = absurd (omega (arith, k.misses))
misses GenerateBeside a b k more = absurd (omega (arith, k.misses))
misses (UnknownStyle unknown) a b k more = absurd (omega (arith, k.misses))
misses (LongConfiguration file) a b k more = absurd (omega (arith, k.misses))
misses (BadConfiguration file fault) a b k more = absurd (omega (arith, k.misses))
misses (TooLarge its_name) a b k more = absurd (omega (arith, k.misses))
misses (OpenComment its_name at) a b k more = absurd (omega (arith, k.misses))
misses SourceFailed a b k more = absurd (omega (arith, k.0.misses))
misses (FileFailed file) a b k more = absurd (omega (arith, k.0.misses))
misses OutFailed a b k more = absurd (omega (arith, k.0.misses))
misses NotesFailed a b k more = absurd (omega (arith, k.0.misses))
misses (Missing file) a b k more = refl
misses NoMemory a b k more = absurd (omega (arith, k.misses))

rose_further : (a b c : ℕ) → Rose a b → b ≤ c → Rose a c
rose_further a b c rose later = le_trans rose later

rose_since : (a b c : ℕ) → b ≡ a → Rose b c → Rose a c
rose_since a b c same rose = subst (λ (n : ℕ). Rose n c) same rose

-- the notes' faults that rose while a refusal was told rose in the call
pub notes_rose : (refusal : Refusal) (a b : Faults) (notes : ℕ) → Raises refusal a b → b.notes ≤ notes → Rose b.notes notes → Rose a.notes notes
notes_rose BadWords a b notes k later rose = rose_since a.notes b.notes notes k.notes rose
notes_rose (BadLines its_word fault) a b notes k later rose = rose_since a.notes b.notes notes k.notes rose
notes_rose (BadStates word) a b notes k later rose = rose_since a.notes b.notes notes k.notes rose
notes_rose NoInput a b notes k later rose = rose_since a.notes b.notes notes k.notes rose
notes_rose ManyFiles a b notes k later rose = rose_since a.notes b.notes notes k.notes rose
notes_rose (BadGenerate word) a b notes k later rose = rose_since a.notes b.notes notes k.notes rose
notes_rose GenerateBeside a b notes k later rose = rose_since a.notes b.notes notes k.notes rose
notes_rose (UnknownStyle unknown) a b notes k later rose = rose_since a.notes b.notes notes k.notes rose
notes_rose (LongConfiguration file) a b notes k later rose = rose_since a.notes b.notes notes k.notes rose
notes_rose (BadConfiguration file fault) a b notes k later rose = rose_since a.notes b.notes notes k.notes rose
notes_rose (TooLarge its_name) a b notes k later rose = rose_since a.notes b.notes notes k.notes rose
notes_rose (OpenComment its_name at) a b notes k later rose = rose_since a.notes b.notes notes k.notes rose
notes_rose SourceFailed a b notes k later rose = rose_since a.notes b.notes notes k.0.notes rose
notes_rose (FileFailed file) a b notes k later rose = rose_since a.notes b.notes notes k.0.notes rose
notes_rose OutFailed a b notes k later rose = rose_since a.notes b.notes notes k.0.notes rose
notes_rose NotesFailed a b notes k later rose = rose_further a.notes b.notes notes k.1 later
notes_rose (Missing file) a b notes k later rose = rose_since a.notes b.notes notes k.0.notes rose
notes_rose NoMemory a b notes k later rose = rose_since a.notes b.notes notes k.notes rose

-- no style is refused with status 4
pub style_not : (choice : StyleChoice) (held : Held) (old new : Option (List ℕ)) (refusal : Refusal) → status_of refusal ≡ 4 → IsStyleRefused choice held old new refusal → ⊥
style_not choice held old new BadWords is k = cc
style_not choice held old new (BadLines its_word fault) is k = cc
style_not choice held old new (BadStates word) is k = cc
style_not choice held old new NoInput is k = cc
style_not choice held old new ManyFiles is k = cc
style_not choice held old new (BadGenerate word) is k = cc
style_not choice held old new GenerateBeside is k = cc
style_not choice held old new (UnknownStyle unknown) is k = cc
style_not choice held old new (LongConfiguration file) is k = cc
style_not choice held old new (BadConfiguration file fault) is k = cc
style_not choice held old new (TooLarge its_name) is k = k.1
style_not choice held old new (OpenComment its_name at) is k = k.1
style_not choice held old new SourceFailed is k = cc
style_not choice held old new (FileFailed file) is k = cc
style_not choice held old new OutFailed is k = cc
style_not choice held old new NotesFailed is k = cc
style_not choice held old new (Missing file) is k = cc
style_not choice held old new NoMemory is k = cc
