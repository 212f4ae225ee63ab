-- Files in memory, whose calls fail by plan.
use Rattle.std.specs.Prelude.{◌≡◌, ◌≤◌, ◌<◌, ⊤, ℕ, List, Vec, Ok, Err, length}
use Rattle.std.specs.declared.option.Option.{Option}
use Rattle.std.specs.declared.alloc.Global.{Global}
use Rattle.std.specs.declared.result.Result.{Result}
use Rattle.std.specs.Option.{option_map}
use Rattle.std.specs.BTreeMap.{get_by_text}
use Rattle.fmt_ports.specs.declared.files.FileFault.{FileFault}
use Rattle.fmt_ports.specs.declared.files.FileFault.TheVariants.{Missing, Failed, TooLong, NoMemory}
use Rattle.memory_ports.specs.declared.files.MemFiles.{MemFiles}
use Rattle.memory_ports.specs.Calls.{Calls}

-- the bytes under a name
abbrev pub bytes_under : MemFiles → List ℕ → Option (List ℕ)
bytes_under files name = option_map (λ bytes. bytes.items) (get_by_text files.held name)

-- how many calls have been made, and which fail
abbrev pub calls_of : MemFiles → Calls
calls_of files = files.plan

-- the bytes themselves within the limit, and too long past it
abbrev pub CopiesWithin : List ℕ → ℕ → Result (Vec ℕ Global) FileFault → Type 0
CopiesWithin bytes limit (Ok copy) = (length bytes ≤ limit) × (copy.items ≡ bytes)
CopiesWithin bytes limit (Err TooLong) = limit < length bytes
CopiesWithin bytes limit (Err NoMemory) = ⊤
CopiesWithin bytes limit (Err Failed) = ⊥
CopiesWithin bytes limit (Err Missing) = ⊥
