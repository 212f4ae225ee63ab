-- What a sink took that compares with a text.
use Rattle.std.specs.Prelude.{ℕ, Bool, List, [], ◌∷◌, ◌++◌, take, if◌then◌else◌}

-- so many bytes of a text, and then the byte that differs from the text's next one, where one does
abbrev pub taken_of : (text : List ℕ) (at : ℕ) (differs : Bool) (byte : ℕ) → List ℕ
taken_of text at differs byte = take at text ++ (if differs then byte ∷ [] else [])
