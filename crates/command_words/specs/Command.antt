-- The command, its form, and what words of the form give: docs/PROFILE.md, "Words of the command".
-- The form is that of a simple command of the library `clap`.
use Rattle.std.specs.Prelude.{◌≡◌, List, ℕ, [], ◌∷◌, true, Option, Some, codes, unwrap_or, fold}
use Rattle.clap.specs.Words.{App, Kinds, Row, Rule, Text, all_of, fault_of, first_of, matches_of, new_app, new_rule}
use Rattle.clap.specs.Words.{with_rule}
use Rattle.clap.specs.declared.builder.action.ArgAction.TheVariants.{Set, Append, SetTrue}

-- ---- the kinds of words

-- an option with a value: `--NAME VALUE` or `--NAME=VALUE`
abbrev pub option_rule : Text → Rule
option_rule name = record (new_rule name) { long = Some name; action = Some Set }

-- a flag: `--NAME`
abbrev pub flag_rule : Text → Rule
flag_rule name = record (new_rule name) { long = Some name; action = Some SetTrue }

-- a flag that is written with one letter, given by its code: `-c`
abbrev pub letter_rule : Text → ℕ → Rule
letter_rule name letter = record (new_rule name) { short = Some letter; action = Some SetTrue }

-- words that are no options, in any number
abbrev pub names_rule : Text → Rule
names_rule name = record (new_rule name) { action = Some Append }

-- ---- the command

-- a command without words of its own: no `--help`, no `--version`, and no program's name before the words
abbrev pub bare : App
bare = let start = new_app (codes "clang_format") in
    record start
    { top = record start.top { no_binary_name = true; disable_help_flag = true; disable_version_flag = true } }

-- the words that are built: `--style S`, `--lines L`, `--states N`, `-i` (the letter's code is 105), `--dry-run`,
-- `--Werror`, `--dump-config`, `--generate N:COUNT` and FILE
abbrev pub rules : List Rule
rules = option_rule (codes "style")
    ∷ option_rule (codes "lines")
    ∷ option_rule (codes "states")
    ∷ letter_rule (codes "in-place") 105
    ∷ flag_rule (codes "dry-run")
    ∷ flag_rule (codes "Werror")
    ∷ flag_rule (codes "dump-config")
    ∷ option_rule (codes "generate")
    ∷ names_rule (codes "file")
    ∷ []

abbrev pub command : App
command = fold with_rule bare rules

-- ---- words

-- what is wrong with the words, nothing where they are of the command's form
unfoldable pub form_faults : List Text → Kinds
form_faults words = fault_of command words

-- the words are of the command's form
abbrev pub IsOfForm : List Text → Type 0
IsOfForm words = form_faults words ≡ []

-- what words of the form give, by the names of the rules
unfoldable pub rows_of_words : List Text → List Row
rows_of_words words = matches_of command words

-- the words have this flag
abbrev pub Gives : Text → List Row → Type 0
Gives flag rows = first_of flag rows ≡ Some (codes "true")

-- the value of `--style`, `file` where there is none
abbrev pub style_word : List Row → Text
style_word rows = unwrap_or (first_of (codes "style") rows) (codes "file")

-- the value of `--lines`, if there is one
abbrev pub lines_word : List Row → Option Text
lines_word rows = first_of (codes "lines") rows

-- the value of `--states`, if there is one
abbrev pub states_word : List Row → Option Text
states_word rows = first_of (codes "states") rows

-- the value of `--generate`, if there is one
abbrev pub generate_word : List Row → Option Text
generate_word rows = first_of (codes "generate") rows

-- the FILEs, in order
abbrev pub file_names : List Row → List Text
file_names rows = unwrap_or (all_of (codes "file") rows) []
