-- Which count a refusal raised.
use Rattle.std.specs.Prelude.{◌≡◌, ℕ, MatchResult}
use Rattle.std.specs.declared.result.Result.{Result}
use Rattle.fmt_ports.specs.Causes.{Rose}
use Rattle.command_refusals.specs.declared.refusal.Refusal.{Refusal}
use Rattle.command_refusals.specs.declared.refusal.Refusal.TheVariants.{SourceFailed, FileFailed, OutFailed}
use Rattle.command_refusals.specs.declared.refusal.Refusal.TheVariants.{NotesFailed, Missing}

-- how often the source, the output, the notes and the files have failed, and how often a name wasn't there
pub record Faults : Type 0 where
  pub source : ℕ
  pub out : ℕ
  pub notes : ℕ
  pub files : ℕ
  pub misses : ℕ

-- no count rose
pub record SameFaults (before now : Faults) : Type 0 where
  pub source : now.source ≡ before.source
  pub out : now.out ≡ before.out
  pub notes : now.notes ≡ before.notes
  pub files : now.files ≡ before.files
  pub misses : now.misses ≡ before.misses

-- A failure raised its own count and no other; every other refusal raised none.
abbrev pub Raises : Refusal → Faults → Faults → Type 0
Raises SourceFailed before now = SameFaults (record before { source = now.source }) now × Rose before.source now.source
Raises OutFailed before now = SameFaults (record before { out = now.out }) now × Rose before.out now.out
Raises NotesFailed before now = SameFaults (record before { notes = now.notes }) now × Rose before.notes now.notes
Raises (FileFailed name) before now = SameFaults (record before { files = now.files }) now × Rose before.files now.files
Raises (Missing name) before now =
    SameFaults (record before { misses = now.misses }) now × Rose before.misses now.misses
Raises refusal before now = SameFaults before now

-- success raised no count, and a refusal what it raises
abbrev pub Counted : {T : Type 0} → Faults → Faults → Result T Refusal → Type 0
Counted before now result = MatchResult result (λ _. SameFaults before now) (λ refusal. Raises refusal before now)
