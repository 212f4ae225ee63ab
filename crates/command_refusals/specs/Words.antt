-- Why words are refused: README.md, "Use".
use Rattle.std.specs.Prelude.{ℕ, List, Err}
use Rattle.command_words.specs.declared.fault.WordsFault.TheVariants as Fault
use Rattle.command_words.specs.Said.{Reads}
use Rattle.command_refusals.specs.declared.refusal.Refusal.{Refusal}
use Rattle.command_refusals.specs.declared.refusal.Refusal.TheVariants.{BadWords, BadLines, BadStates, NoInput}
use Rattle.command_refusals.specs.declared.refusal.Refusal.TheVariants.{ManyFiles, BadGenerate, GenerateBeside}
use Rattle.command_refusals.specs.declared.refusal.Refusal.TheVariants.{NoMemory}

-- why words are refused
abbrev pub AreWordsRefused : List (List ℕ) → Refusal → Type 0
AreWordsRefused words BadWords = Reads words (Err Fault.Form)
AreWordsRefused words (BadLines word fault) = Reads words (Err (Fault.BadLines word fault))
AreWordsRefused words (BadStates word) = Reads words (Err (Fault.BadStates word))
AreWordsRefused words NoInput = Reads words (Err Fault.NoInput)
AreWordsRefused words ManyFiles = Reads words (Err Fault.ManyFiles)
AreWordsRefused words (BadGenerate word) = Reads words (Err (Fault.BadGenerate word))
AreWordsRefused words GenerateBeside = Reads words (Err Fault.GenerateBeside)
AreWordsRefused words NoMemory = Reads words (Err Fault.NoMemory)
AreWordsRefused words refusal = ⊥
