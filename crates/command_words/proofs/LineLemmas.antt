-- What reading a value of `--lines` gives.
use Rattle.std.proofs.Common.{◌≡◌, List, Option, Ok, Err, IsErr, IsErrAnd, IsOk, refl, sym, subst}
use Rattle.std.specs.declared.result.Result.{Result}
use Rattle.clap.specs.Words.{Row, Text}
use Rattle.off_regions.specs.declared.fault.RangeFault.{RangeFault}
use Rattle.off_regions.specs.declared.range.LineRange.{LineRange}
use Rattle.command_words.specs.Command.{lines_word}
use Rattle.command_words.specs.Lines.{IsLinesOrNot, lines_of}
use Rattle.command_words.specs.Said.{SaysOrNot}
use Rattle.command_words.specs.declared.fault.WordsFault.{WordsFault}
use Rattle.command_words.specs.declared.fault.WordsFault.TheVariants.{Form, BadLines, BadStates, NoInput, ManyFiles, BadGenerate, GenerateBeside, NoMemory}

-- `?` passes an error on as it is
pub passed : {T E : Type 0} (r : Result T E) (e : E) → IsErr r × IsErrAnd r (λ y. y ≡ e) → r ≡ Err e
passed (Ok v) e h = absurd h.1
passed (Err y) e h = rw h.1

-- a value that tells ranges is in form
pub lines_told : (value : Option Text) (lines : Option (List LineRange)) → lines_of value ≡ Ok lines → IsOk (lines_of value)
lines_told value lines is = subst (λ (r : Result (Option (List LineRange)) RangeFault). IsOk r) (sym is) refl

-- a value that tells none is refused
pub refused_lines : (rows : List Row) (fault : WordsFault) → IsLinesOrNot (lines_word rows) (Err fault) → SaysOrNot rows (Err fault)
refused_lines rows Form k = absurd k
refused_lines rows (BadLines word fault) k = k
refused_lines rows (BadStates word) k = absurd k
refused_lines rows NoInput k = absurd k
refused_lines rows ManyFiles k = absurd k
refused_lines rows (BadGenerate word) k = absurd k
refused_lines rows GenerateBeside k = absurd k
refused_lines rows NoMemory k = tt
