-- The parts of pieces by which the code's tables tell them.
use Rattle.std.specs.Prelude.{ℕ, List}
use Rattle.command_words.specs.declared.generator.Part.{Part}
use Rattle.command_words.specs.declared.generator.Part.TheVariants.{Text, Place, Value}

-- the text of a part, in a piece with these digits of its place and of its number
abbrev pub text_of : (place value : List ℕ) → Part → List ℕ
text_of place value (Text text) = text.now
text_of place value Place = place
text_of place value Value = value
