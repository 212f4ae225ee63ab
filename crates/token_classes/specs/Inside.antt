-- How a word of the language is found: only the functions of this crate tell each other that.
use Rattle.std.specs.Prelude.{◌+◌, ◌-◌, ◌*◌, ◌%◌, ℕ, List, [], length, get_or}
use Rattle.token_classes.specs.declared.class.TokenClass.{TokenClass}
use Rattle.token_classes.specs.declared.class.TokenClass.TheVariants.{Other}

-- what a word is looked for by: its first and its last character, and its length
abbrev pub key_of : List ℕ → ℕ
key_of s = (get_or s 0 0 + get_or s (length s - 1) 0 + length s % 16 * 36) % 256

-- the row that stands for no word
abbrev pub no_row : List ℕ × TokenClass
no_row = ([], Other)
