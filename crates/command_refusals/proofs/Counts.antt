-- Counts over several calls.
use Rattle.std.proofs.Common.{◌∙◌, ℕ, refl, subst, Ok, Err}
use Rattle.std.specs.declared.result.Result.{Result}
use Rattle.fmt_ports.specs.Causes.{Rose}
use Rattle.command_refusals.specs.Counts.{Faults, SameFaults, Raises, Counted}
use Rattle.command_refusals.specs.declared.refusal.Refusal.{Refusal}
use Rattle.command_refusals.specs.declared.refusal.Refusal.TheVariants.{BadWords, BadLines, BadStates, NoInput, ManyFiles, BadGenerate, GenerateBeside, UnknownStyle, LongConfiguration, BadConfiguration, TooLarge, OpenComment, SourceFailed, FileFailed, OutFailed, NotesFailed, Missing, NoMemory}

pub same_after : (a b c : Faults) → SameFaults a b → SameFaults b c → SameFaults a c
same_after a b c h k = record {
  source = k.source ∙ h.source;
  out = k.out ∙ h.out;
  notes = k.notes ∙ h.notes;
  files = k.files ∙ h.files;
  misses = k.misses ∙ h.misses;
}

-- a refusal raises what it raises, where no count rose before
pub raises_after : (refusal : Refusal) (a b c : Faults) → SameFaults a b → Raises refusal b c → Raises refusal a c
raises_after BadWords a b c h k = same_after a b c h k
raises_after (BadLines its_word fault) a b c h k = same_after a b c h k
raises_after (BadStates word) a b c h k = same_after a b c h k
raises_after NoInput a b c h k = same_after a b c h k
raises_after ManyFiles a b c h k = same_after a b c h k
raises_after (BadGenerate word) a b c h k = same_after a b c h k
raises_after GenerateBeside a b c h k = same_after a b c h k
raises_after (UnknownStyle name) a b c h k = same_after a b c h k
raises_after (LongConfiguration file) a b c h k = same_after a b c h k
raises_after (BadConfiguration file fault) a b c h k = same_after a b c h k
raises_after (TooLarge input) a b c h k = same_after a b c h k
raises_after (OpenComment input at) a b c h k = same_after a b c h k
raises_after NoMemory a b c h k = same_after a b c h k
raises_after SourceFailed a b c h k = (
  record { source = refl; out = k.0.out ∙ h.out; notes = k.0.notes ∙ h.notes; files = k.0.files ∙ h.files; misses = k.0.misses ∙ h.misses },
  subst (λ (n : ℕ). Rose n c.source) h.source k.1,
)
raises_after OutFailed a b c h k = (
  record { source = k.0.source ∙ h.source; out = refl; notes = k.0.notes ∙ h.notes; files = k.0.files ∙ h.files; misses = k.0.misses ∙ h.misses },
  subst (λ (n : ℕ). Rose n c.out) h.out k.1,
)
raises_after NotesFailed a b c h k = (
  record { source = k.0.source ∙ h.source; out = k.0.out ∙ h.out; notes = refl; files = k.0.files ∙ h.files; misses = k.0.misses ∙ h.misses },
  subst (λ (n : ℕ). Rose n c.notes) h.notes k.1,
)
raises_after (FileFailed file) a b c h k = (
  record { source = k.0.source ∙ h.source; out = k.0.out ∙ h.out; notes = k.0.notes ∙ h.notes; files = refl; misses = k.0.misses ∙ h.misses },
  subst (λ (n : ℕ). Rose n c.files) h.files k.1,
)
raises_after (Missing file) a b c h k = (
  record { source = k.0.source ∙ h.source; out = k.0.out ∙ h.out; notes = k.0.notes ∙ h.notes; files = k.0.files ∙ h.files; misses = refl },
  subst (λ (n : ℕ). Rose n c.misses) h.misses k.1,
)

pub counted_after : (T : Type 0) (result : Result T Refusal) (a b c : Faults) → SameFaults a b → Counted b c result → Counted a c result
counted_after T (Ok v) a b c h k = same_after a b c h k
counted_after T (Err refusal) a b c h k = raises_after refusal a b c h k
