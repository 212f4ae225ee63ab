-- The text of a value.
use Rattle.std.specs.Prelude.{ℕ, ◌≤◌, List, length, decimal, ⊤}
use Rattle.style_table.specs.declared.value.Value.{Value}
use Rattle.style_table.specs.declared.value.Value.TheVariants.{Number, Word}

-- how a value is written
abbrev pub text_of : Value → List ℕ
text_of (Number number) = decimal number
text_of (Word word) = word.now

-- a word has at most 40 bytes
abbrev pub IsShort : Value → Type 0
IsShort (Number number) = ⊤
IsShort (Word word) = length word.now ≤ 40
