-- The rows of refusals and of skipped keys, and the statuses of refusals: README.md, "Use".
use Rattle.std.specs.Prelude.{ℕ, List, [], ◌++◌, codes, decimal, map}
use Rattle.std.specs.List.{concat}
use Rattle.off_regions.specs.declared.fault.RangeFault.{RangeFault}
use Rattle.off_regions.specs.declared.fault.RangeFault.TheVariants as Range
use Rattle.style_config.specs.declared.fault.ConfigFault.{ConfigFault}
use Rattle.style_config.specs.declared.fault.ConfigFault.TheVariants as Config
use Rattle.style_config.specs.declared.skipped.SkippedKey.{SkippedKey}
use Rattle.command_refusals.specs.declared.refusal.Refusal.{Refusal}
use Rattle.command_refusals.specs.declared.refusal.Refusal.TheVariants.{BadWords, BadLines, BadStates, NoInput}
use Rattle.command_refusals.specs.declared.refusal.Refusal.TheVariants.{ManyFiles, BadGenerate, GenerateBeside}
use Rattle.command_refusals.specs.declared.refusal.Refusal.TheVariants.{UnknownStyle, LongConfiguration}
use Rattle.command_refusals.specs.declared.refusal.Refusal.TheVariants.{BadConfiguration, TooLarge, OpenComment}
use Rattle.command_refusals.specs.declared.refusal.Refusal.TheVariants.{SourceFailed, FileFailed, OutFailed}
use Rattle.command_refusals.specs.declared.refusal.Refusal.TheVariants.{NotesFailed, Missing, NoMemory}

-- a row with a number in it
abbrev pub numbered_row : (name before : List ℕ) → ℕ → (end : List ℕ) → List ℕ
numbered_row name before number end = name ++ before ++ decimal number ++ end

-- the row of a configuration's fault
abbrev pub fault_row : List ℕ → ConfigFault → List ℕ
fault_row file (Config.NotUtf8 offset) = numbered_row file (codes ": not UTF-8 at byte ") offset (codes "\n")
fault_row file (Config.BadLine line) = numbered_row file (codes ":") line (codes ": bad line\n")
fault_row file (Config.UnknownStyle line) = numbered_row file (codes ":") line (codes ": unknown style\n")
fault_row file (Config.BadValue line) = numbered_row file (codes ":") line (codes ": bad value\n")
fault_row file (Config.OutOfRange line) = numbered_row file (codes ":") line (codes ": out of range\n")
fault_row file (Config.Repeated line) = numbered_row file (codes ":") line (codes ": repeated key\n")
fault_row file Config.NoMemory = codes "clang_format: no memory\n"

-- why a value of `--lines` is no list of ranges
abbrev pub range_row : RangeFault → List ℕ
range_row (Range.BadText place) = numbered_row [] (codes ": bad text at ") place (codes "\n")
range_row (Range.Reversed place) = numbered_row [] (codes ": reversed at ") place (codes "\n")
range_row (Range.ZeroLine place) = numbered_row [] (codes ": line zero at ") place (codes "\n")
range_row Range.TooMany = codes ": too many ranges\n"
range_row Range.NoMemory = codes ": no memory\n"

-- The row of a refusal, with the new-line that ends it. Notes that have failed take none.
abbrev pub row_of : Refusal → List ℕ
row_of BadWords =
    codes
    "usage: clang_format [--style S] [--lines L] [--states N] [-i] [--dry-run] [--Werror] [--dump-config] [--generate N:COUNT] [FILE ..]"
    ++ codes "\n"
row_of (BadLines word fault) = codes "clang_format: --lines " ++ word.now ++ range_row fault
row_of (BadStates word) = codes "clang_format: --states " ++ word.now ++ codes ": not 1 to 16000000\n"
row_of NoInput = codes "clang_format: -i needs a file\n"
row_of ManyFiles = codes "clang_format: --lines takes one file\n"
row_of (BadGenerate word) = codes "clang_format: --generate " ++ word.now ++ codes ": not N:COUNT\n"
row_of GenerateBeside = codes "clang_format: --generate takes no file, -i or --dump-config\n"
row_of (UnknownStyle name) = codes "clang_format: style " ++ name.now ++ codes ": unknown name\n"
row_of (LongConfiguration file) = file.now ++ codes ": more than 1048576 bytes\n"
row_of (BadConfiguration file fault) = fault_row file.now fault
row_of (TooLarge input) = input.now ++ codes ": more than 8388608 bytes\n"
row_of (OpenComment input at) = numbered_row input.now (codes ": comment without an end at byte ") at (codes "\n")
row_of SourceFailed = codes "<stdin>" ++ codes ": failed\n"
row_of (FileFailed file) = file.now ++ codes ": failed\n"
row_of OutFailed = codes "standard output: failed\n"
row_of NotesFailed = []
row_of (Missing file) = file.now ++ codes ": missing\n"
row_of NoMemory = codes "clang_format: no memory\n"

-- the exit status of a refusal
abbrev pub status_of : Refusal → ℕ
status_of BadWords = 2
status_of (BadLines word fault) = 2
status_of (BadStates word) = 2
status_of NoInput = 2
status_of ManyFiles = 2
status_of (BadGenerate word) = 2
status_of GenerateBeside = 2
status_of (UnknownStyle name) = 3
status_of (LongConfiguration file) = 3
status_of (BadConfiguration file fault) = 3
status_of (TooLarge input) = 4
status_of (OpenComment input at) = 4
status_of SourceFailed = 5
status_of (FileFailed file) = 5
status_of OutFailed = 5
status_of NotesFailed = 5
status_of (Missing file) = 6
status_of NoMemory = 7

-- the row of a key that no style has
abbrev pub skipped_row : List ℕ → SkippedKey → List ℕ
skipped_row file key = numbered_row file (codes ":") key.line (codes ": skipped ") ++ (key.key ++ codes "\n")

-- the rows of the keys that a configuration has and no style
abbrev pub skipped_rows : List ℕ → List SkippedKey → List ℕ
skipped_rows file keys = concat (map (skipped_row file) keys)
