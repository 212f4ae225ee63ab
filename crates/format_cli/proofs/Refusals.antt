-- What follows for an input from the fault that it is refused for.
use Rattle.std.proofs.Common.{ℕ, List, Err, refl}
use Rattle.std.specs.Borrow.{Bor}
use Rattle.fmt_ports.specs.Files.{Held, KeepsOthers, Reads, Writes, file_causes}
use Rattle.fmt_ports.specs.declared.files.FileFault.{FileFault}
use Rattle.fmt_ports.specs.declared.files.FileFault.TheVariants as File
use Rattle.c_chars.specs.declared.TheConstants.{LIMIT}
use Rattle.c_chars.specs.declared.Dialect.TheVariants.{C11}
use Rattle.format_core.specs.Faults.{IsCause}
use Rattle.format_core.specs.declared.fault.FormatFault.{FormatFault}
use Rattle.format_core.specs.declared.fault.FormatFault.TheVariants as Format
use Rattle.command_refusals.specs.Counts.{Faults, Raises}
use Rattle.format_cli.specs.Inputs.{IsFileCause, IsTextCause, IsWriteRefused, file_refusal, text_refusal}

-- a text isn't formatted
pub text_cause : (name : Bor (List ℕ)) (text : List ℕ) (fault : FormatFault) → IsCause C11 text fault → IsTextCause name.now text (text_refusal name fault)
text_cause name text (Format.UnterminatedComment start) k = (refl, k.0, k.1)
text_cause name text (Format.TooLarge bytes) k = (refl, k.0)
text_cause name text Format.NoMemory k = tt

pub text_raises : (name : Bor (List ℕ)) (fault : FormatFault) (f : Faults) → Raises (text_refusal name fault) f f
text_raises name (Format.UnterminatedComment start) f = record { source = refl; out = refl; notes = refl; files = refl; misses = refl }
text_raises name (Format.TooLarge bytes) f = record { source = refl; out = refl; notes = refl; files = refl; misses = refl }
text_raises name Format.NoMemory f = record { source = refl; out = refl; notes = refl; files = refl; misses = refl }

-- a FILE can't be read
pub read_refused : (held : Held) (name : Bor (List ℕ)) (fault : FileFault) → Reads held name.now LIMIT (Err fault) → IsFileCause held name.now (file_refusal name fault)
read_refused held name File.Missing k = (refl, k)
read_refused held name File.Failed k = refl
read_refused held name File.TooLong k = (refl, k)
read_refused held name File.NoMemory k = tt

-- a FILE can't be written
pub not_written : (old new : Held) (name : Bor (List ℕ)) (bytes : List ℕ) (fault : FileFault) → Writes old new name.now bytes (Err fault) → KeepsOthers name.now old new →
    IsWriteRefused name.now old new (file_refusal name fault)
not_written old new name bytes File.Missing k others = absurd k
not_written old new name bytes File.Failed k others = (refl, others)
not_written old new name bytes File.TooLong k others = absurd k
not_written old new name bytes File.NoMemory k others = k

pub file_raises : (T : Type 0) (name : Bor (List ℕ)) (fault : FileFault) (f : Faults) (faults faults' misses misses' : ℕ) → file_causes {T = T} faults faults' misses misses' (Err fault) →
    Raises (file_refusal name fault) (record f { files = faults; misses = misses }) (record f { files = faults'; misses = misses' })
file_raises T name File.Missing f faults faults' misses misses' k = (record { source = refl; out = refl; notes = refl; files = k.0; misses = refl }, k.1)
file_raises T name File.Failed f faults faults' misses misses' k = (record { source = refl; out = refl; notes = refl; files = refl; misses = k.1 }, k.0)
file_raises T name File.TooLong f faults faults' misses misses' k = record { source = refl; out = refl; notes = refl; files = k.0; misses = k.1 }
file_raises T name File.NoMemory f faults faults' misses misses' k = record { source = refl; out = refl; notes = refl; files = k.0; misses = k.1 }
