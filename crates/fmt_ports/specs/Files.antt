-- What is said of files that are told or not, and of the counts of faults and misses.
use Rattle.std.specs.Prelude.{◌≡◌, ◌≢◌, ◌≤◌, ◌<◌, ℕ, List, length, ⊤, Ok, Err, Some, None, IsSomeAnd, Vec}
use Rattle.std.specs.declared.option.Option.{Option}
use Rattle.std.specs.declared.result.Result.{Result}
use Rattle.std.specs.declared.alloc.Global.{Global}
use Rattle.fmt_ports.specs.Causes.{Rose}
use Rattle.fmt_ports.specs.declared.files.FileFault.{FileFault}
use Rattle.fmt_ports.specs.declared.files.FileFault.TheVariants.{Missing, Failed, TooLong, NoMemory}

-- the bytes under each name, where they are told
abbrev pub Held : Type 0
Held = Option (List ℕ → Option (List ℕ))

-- where the files are told, this holds of the one of this name
abbrev pub HeldAt : Held → List ℕ → (Option (List ℕ) → Type 0) → Type 0
HeldAt None name P = ⊤
HeldAt (Some at) name P = P (at name)

-- where the files are told, each is as it was
abbrev pub KeepsAll : Held → Held → Type 0
KeepsAll None new = ⊤
KeepsAll (Some at) None = ⊥
KeepsAll (Some at) (Some at') = (name : List ℕ) → at' name ≡ at name

-- where the files are told, each of another name is as it was
abbrev pub KeepsOthers : List ℕ → Held → Held → Type 0
KeepsOthers name None new = ⊤
KeepsOthers name (Some at) None = ⊥
KeepsOthers name (Some at) (Some at') = (other : List ℕ) → other ≢ name → at' other ≡ at other

-- what a read of at most so many bytes says of the files
abbrev pub Reads : Held → List ℕ → ℕ → Result (Vec ℕ Global) FileFault → Type 0
Reads held name limit (Ok v) = (length v.items ≤ limit) × HeldAt held name (λ bytes. bytes ≡ Some v.items)
Reads held name limit (Err Missing) = HeldAt held name (λ bytes. bytes ≡ None)
Reads held name limit (Err TooLong) = HeldAt held name (λ bytes. IsSomeAnd bytes (λ all. limit < length all))
Reads held name limit (Err Failed) = ⊤
Reads held name limit (Err NoMemory) = ⊤

-- the same, where a name that isn't held is no fault
abbrev pub Finds : Held → List ℕ → ℕ → Result (Option (Vec ℕ Global)) FileFault → Type 0
Finds held name limit (Ok (Some v)) = (length v.items ≤ limit) × HeldAt held name (λ bytes. bytes ≡ Some v.items)
Finds held name limit (Ok None) = HeldAt held name (λ bytes. bytes ≡ None)
Finds held name limit (Err Missing) = ⊥
Finds held name limit (Err TooLong) = HeldAt held name (λ bytes. IsSomeAnd bytes (λ all. limit < length all))
Finds held name limit (Err Failed) = ⊤
Finds held name limit (Err NoMemory) = ⊤

-- a write puts the bytes there, or fails, or finds no memory and changes no file
abbrev pub Writes : Held → Held → List ℕ → List ℕ → Result Unit FileFault → Type 0
Writes old new name bytes (Ok _) = HeldAt new name (λ held. held ≡ Some bytes)
Writes old new name bytes (Err Failed) = ⊤
Writes old new name bytes (Err NoMemory) = KeepsAll old new
Writes old new name bytes (Err Missing) = ⊥
Writes old new name bytes (Err TooLong) = ⊥

-- a failed call raised the faults alone, a missing file the misses alone, and nothing else either
abbrev pub file_causes : {T : Type 0} → ℕ → ℕ → ℕ → ℕ → Result T FileFault → Type 0
file_causes f f' m m' (Ok v) = (f' ≡ f) × (m' ≡ m)
file_causes f f' m m' (Err Missing) = (f' ≡ f) × Rose m m'
file_causes f f' m m' (Err Failed) = Rose f f' × (m' ≡ m)
file_causes f f' m m' (Err TooLong) = (f' ≡ f) × (m' ≡ m)
file_causes f f' m m' (Err NoMemory) = (f' ≡ f) × (m' ≡ m)

-- the counts of faults and of misses, before and after a call
pub record FileCounts {T : Type 0} (f f' m m' : ℕ) (result : Result T FileFault) : Type 0 where
  pub later : f ≤ f'
  pub later_misses : m ≤ m'
  pub cause : file_causes f f' m m' result
