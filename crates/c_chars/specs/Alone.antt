-- The first character of bytes, wherever they stand.
use Rattle.std.specs.Prelude.{◌≡◌, ℕ, ◌+◌, List, [], ◌∷◌, drop}
use Rattle.c_chars.specs.Characters.{chars}
use Rattle.c_chars.specs.declared.Dialect.{Dialect}
use Rattle.c_chars.specs.declared.alone.FirstCharacter.{FirstCharacter}

-- the first character stands behind so many bytes of splices, and the characters of the bytes behind it follow
abbrev pub IsFirstCharacter : Dialect → List ℕ → FirstCharacter → Type 0
IsFirstCharacter d s c =
    (at : ℕ) →
    chars d at s
    ≡ record { byte = c.byte; from = at + c.before; to = (at + c.before) + c.len }
    ∷ chars d ((at + c.before) + c.len) (drop (c.before + c.len) s)

-- there is no character
abbrev pub HasNoCharacter : Dialect → List ℕ → Type 0
HasNoCharacter d s = (at : ℕ) → chars d at s ≡ []
