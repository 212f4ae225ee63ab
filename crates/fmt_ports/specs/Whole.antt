-- What is said of all the bytes of a source.
use Rattle.std.specs.Prelude.{◌≡◌, ◌≤◌, ◌<◌, ℕ, List, length, ⊤, Ok, Err, IfSome, Vec}
use Rattle.std.specs.declared.option.Option.{Option}
use Rattle.std.specs.declared.result.Result.{Result}
use Rattle.std.specs.declared.alloc.Global.{Global}
use Rattle.std.specs.Io.KnownBytes.{Consumes, IsAtEnd}
use Rattle.fmt_ports.specs.Causes.{Rose}
use Rattle.fmt_ports.specs.declared.whole.InFault.{InFault}
use Rattle.fmt_ports.specs.declared.whole.InFault.TheVariants.{Failed, TooLong, NoMemory}

-- a failed read raised the count, and nothing else did
abbrev pub cause_of : {T : Type 0} → ℕ → ℕ → Result T InFault → Type 0
cause_of before now (Ok v) = now ≡ before
cause_of before now (Err Failed) = Rose before now
cause_of before now (Err TooLong) = now ≡ before
cause_of before now (Err NoMemory) = now ≡ before

-- a read of all that failed raised the count, and one that did not left it
pub record InCounts {T : Type 0} (before now : ℕ) (result : Result T InFault) : Type 0 where
  pub later : before ≤ now
  pub cause : cause_of before now result

-- all the bytes, where they are told and are within the limit; too long only past it
abbrev pub TellsAll : ℕ → Option (List ℕ) → Option (List ℕ) → Result (Vec ℕ Global) InFault → Type 0
TellsAll limit old new (Ok v) = (length v.items ≤ limit) × IfSome old (λ bytes. v.items ≡ bytes) × IsAtEnd new
TellsAll limit old new (Err Failed) = ⊤
TellsAll limit old new (Err TooLong) = IfSome old (λ bytes. limit < length bytes)
TellsAll limit old new (Err NoMemory) = ⊤

-- no more than so many bytes were taken from the front of those that are told
abbrev pub ConsumesAtMost : ℕ → Option (List ℕ) → Option (List ℕ) → Type 0
ConsumesAtMost limit old new = (front : List ℕ) × (length front ≤ limit) × Consumes old new front
