-- The bytes of a row, by what it is made of.
use Rattle.std.specs.Prelude.{ℕ, List, ◌++◌, codes, decimal}
use Rattle.command_refusals.specs.declared.rows.Row.{Row}
use Rattle.command_refusals.specs.declared.rows.Row.TheVariants.{AtByte, AtLine, AtPlace, Named, Plain, Quoted}

-- the row of a value of `--lines` that is at fault at a place
abbrev pub place_row : (word told : List ℕ) → (place : ℕ) → List ℕ
place_row word told place = codes "clang_format: --lines " ++ word ++ (told ++ decimal place ++ codes "\n")

-- the texts of a row, one behind another
abbrev pub bytes_of : Row → List ℕ
bytes_of (Plain text) = text.now
bytes_of (Named name told) = name.now ++ told.now
bytes_of (Quoted before word told) = before.now ++ word.now ++ told.now
bytes_of (AtByte name told at) = name.now ++ told.now ++ decimal at ++ codes "\n"
bytes_of (AtLine file line told) = file.now ++ codes ":" ++ decimal line ++ told.now
bytes_of (AtPlace word told place) = place_row word.now told.now place
