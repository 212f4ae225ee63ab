-- What the command's words say, and how reading them ends: docs/PROFILE.md, "Words of the command".
use Rattle.std.specs.Prelude.{◌≡◌, ◌≢◌, ◌≤◌, ◌↔◌, ◌⊎◌, ◌++◌, List, [], ⊤, IsTrue, IsOk, IsSome, length, None, Some, Ok}
use Rattle.std.specs.Prelude.{Err, codes, map, option_map}
use Rattle.std.specs.declared.result.Result.{Result}
use Rattle.clap.specs.Words.{Row, Text}
use Rattle.command_words.specs.Command.{Gives, IsOfForm, file_names, generate_word, lines_word, rows_of_words}
use Rattle.command_words.specs.Command.{states_word, style_word}
use Rattle.command_words.specs.Budget.{budget_of}
use Rattle.command_words.specs.Generate.{generate_in, generate_of}
use Rattle.command_words.specs.Lines.{IsBadLines, lines_of}
use Rattle.off_regions.specs.declared.fault.RangeFault.{RangeFault}
use Rattle.command_words.specs.declared.read.StyleChoice.{StyleChoice}
use Rattle.command_words.specs.declared.read.StyleChoice.TheVariants.{File, FileAt, Named}
use Rattle.command_words.specs.declared.read.Words.{Words}
use Rattle.command_words.specs.declared.read.Given.{Given}
use Rattle.command_words.specs.declared.fault.WordsFault.{WordsFault}
use Rattle.command_words.specs.declared.fault.WordsFault.TheVariants.{Form, BadLines, BadStates, NoInput, ManyFiles}
use Rattle.command_words.specs.declared.fault.WordsFault.TheVariants.{BadGenerate, GenerateBeside, NoMemory}

-- `file` is the file of the working folder, `file:PATH` is the file PATH, and any other word is a style's name
abbrev pub Chooses : Text → StyleChoice → Type 0
Chooses word File = word ≡ codes "file"
Chooses word (FileAt path) = word ≡ codes "file:" ++ path.now
Chooses word (Named name) = (word ≡ name.now) × (word ≢ codes "file") × ((path : Text) → word ≢ codes "file:" ++ path)

-- the words say this, and `Generates` what they say with `--generate`
pub record Says (rows : List Row) (said : Words) : Type 0 where
  pub style : Chooses (style_word rows) said.style
  pub lines : lines_of (lines_word rows) ≡ Ok said.lines
  pub budget : budget_of (states_word rows) ≡ Some said.budget
  pub in_place : IsTrue said.in_place ↔ Gives (codes "in-place") rows
  pub dry_run : IsTrue said.dry_run ↔ Gives (codes "dry-run") rows
  pub werror : IsTrue said.werror ↔ Gives (codes "Werror") rows
  pub dump_config : IsTrue said.dump_config ↔ Gives (codes "dump-config") rows
  pub files : map (λ name. name.now) said.files.items ≡ file_names rows

-- the words have `-i`, and neither a FILE nor `--dump-config`
pub record LacksFile (rows : List Row) : Type 0 where
  pub in_place : Gives (codes "in-place") rows
  pub no_dump : ¬ Gives (codes "dump-config") rows
  pub no_file : file_names rows ≡ []

-- the words have `--lines`, and two FILEs or more
pub record HasManyFiles (rows : List Row) : Type 0 where
  pub lines : IsSome (lines_word rows)
  pub many : 2 ≤ length (file_names rows)

-- this value of `--lines` is no list of ranges, for this fault
abbrev pub HasBadLines : List Row → Text → RangeFault → Type 0
HasBadLines rows word fault = IsBadLines (lines_word rows) word fault

-- the value of `--lines`, if there is one, is a list of ranges
abbrev pub HasLines : List Row → Type 0
HasLines rows = IsOk (lines_of (lines_word rows))

-- this value of `--states` tells no budget
pub record HasBadStates (rows : List Row) (word : Text) : Type 0 where
  pub given : states_word rows ≡ Some word
  pub bad : budget_of (Some word) ≡ None

-- this value of `--generate` isn't in form
pub record HasBadGenerate (rows : List Row) (word : Text) : Type 0 where
  pub given : generate_word rows ≡ Some word
  pub bad : generate_in word ≡ None

-- the words have `--generate` beside `-i`, `--dump-config` or a FILE
pub record GeneratesBeside (rows : List Row) : Type 0 where
  pub generate : IsSome (generate_word rows)
  pub other : Gives (codes "in-place") rows ⊎ Gives (codes "dump-config") rows ⊎ (file_names rows ≢ [])

-- the words say which input is made, none without `--generate`: its value is in form, and it stands alone
pub record Generates (rows : List Row) (said : Words) : Type 0 where
  pub value : generate_of (generate_word rows) ≡ said.generate
  pub in_form : (word : Text) → ¬ HasBadGenerate rows word
  pub alone : ¬ GeneratesBeside rows

-- `--lines` and `--states` are in form, `-i` has its FILE and `--lines` no more than one
pub record AreOthersFine (rows : List Row) : Type 0 where
  pub lines : HasLines rows
  pub states : IsSome (budget_of (states_word rows))
  pub file : ¬ LacksFile rows
  pub files : ¬ HasManyFiles rows

-- Words are read exactly where they are of the form, `--lines` is a list of ranges, `--states` tells a budget, `-i` has
-- its FILE and `--lines` no more than one, and `--generate` is in form and stands alone; each fault has its own cause,
-- in this order, and want of memory may come at any time.
abbrev pub Reads : List Text → Result Words WordsFault → Type 0
Reads words (Ok said) =
    IsOfForm words × (¬ LacksFile (rows_of_words words)) × Says (rows_of_words words) said
    × (¬ HasManyFiles (rows_of_words words))
    × Generates (rows_of_words words) said
Reads words (Err Form) = ¬ IsOfForm words
Reads words (Err (BadLines word fault)) = IsOfForm words × HasBadLines (rows_of_words words) word.now fault
Reads words (Err (BadStates word)) =
    IsOfForm words × HasLines (rows_of_words words) × HasBadStates (rows_of_words words) word.now
Reads words (Err NoInput) =
    IsOfForm words × HasLines (rows_of_words words) × IsSome (budget_of (states_word (rows_of_words words)))
    × LacksFile (rows_of_words words)
Reads words (Err ManyFiles) =
    IsOfForm words × HasLines (rows_of_words words) × IsSome (budget_of (states_word (rows_of_words words)))
    × HasManyFiles (rows_of_words words)
Reads words (Err (BadGenerate word)) =
    IsOfForm words × AreOthersFine (rows_of_words words) × HasBadGenerate (rows_of_words words) word.now
Reads words (Err GenerateBeside) =
    IsOfForm words × AreOthersFine (rows_of_words words) × IsSome (generate_of (generate_word (rows_of_words words)))
    × GeneratesBeside (rows_of_words words)
Reads words (Err NoMemory) = ⊤

-- what the words say, but for `--generate`, of which this is the value
pub record SaysBut (rows : List Row) (given : Given) : Type 0 where
  pub says : Says rows given.said
  pub word : option_map (λ word. word.now) given.generate ≡ generate_word rows
  pub unread : given.said.generate ≡ None

-- the same without the rules on `--generate`
abbrev pub ReadsOthers : List Text → Result Given WordsFault → Type 0
ReadsOthers words (Ok given) =
    IsOfForm words × (¬ LacksFile (rows_of_words words)) × SaysBut (rows_of_words words) given
    × (¬ HasManyFiles (rows_of_words words))
ReadsOthers words (Err Form) = ¬ IsOfForm words
ReadsOthers words (Err (BadLines word fault)) = IsOfForm words × HasBadLines (rows_of_words words) word.now fault
ReadsOthers words (Err (BadStates word)) =
    IsOfForm words × HasLines (rows_of_words words) × HasBadStates (rows_of_words words) word.now
ReadsOthers words (Err NoInput) =
    IsOfForm words × HasLines (rows_of_words words) × IsSome (budget_of (states_word (rows_of_words words)))
    × LacksFile (rows_of_words words)
ReadsOthers words (Err ManyFiles) =
    IsOfForm words × HasLines (rows_of_words words) × IsSome (budget_of (states_word (rows_of_words words)))
    × HasManyFiles (rows_of_words words)
ReadsOthers words (Err (BadGenerate word)) = ⊥
ReadsOthers words (Err GenerateBeside) = ⊥
ReadsOthers words (Err NoMemory) = ⊤

-- the same without the rules on FILEs
abbrev pub ReadsForm : List Text → Result Given WordsFault → Type 0
ReadsForm words (Ok given) = IsOfForm words × SaysBut (rows_of_words words) given
ReadsForm words (Err Form) = ¬ IsOfForm words
ReadsForm words (Err (BadLines word fault)) = IsOfForm words × HasBadLines (rows_of_words words) word.now fault
ReadsForm words (Err (BadStates word)) =
    IsOfForm words × HasLines (rows_of_words words) × HasBadStates (rows_of_words words) word.now
ReadsForm words (Err NoInput) = ⊥
ReadsForm words (Err ManyFiles) = ⊥
ReadsForm words (Err (BadGenerate word)) = ⊥
ReadsForm words (Err GenerateBeside) = ⊥
ReadsForm words (Err NoMemory) = ⊤

-- what words of the form say, or why their values are refused
abbrev pub SaysOrNot : List Row → Result Given WordsFault → Type 0
SaysOrNot rows (Ok given) = SaysBut rows given
SaysOrNot rows (Err (BadLines word fault)) = HasBadLines rows word.now fault
SaysOrNot rows (Err (BadStates word)) = HasLines rows × HasBadStates rows word.now
SaysOrNot rows (Err NoMemory) = ⊤
SaysOrNot rows (Err fault) = ⊥
