-- Which character bytes are in UTF-8.
use Rattle.std.specs.Prelude.{◌==◌, ℕ, Bool, true}

-- any character passes
abbrev pub any_char : ℕ → Bool
any_char c = true

-- this character passes
abbrev pub only : ℕ → ℕ → Bool
only c e = e == c
