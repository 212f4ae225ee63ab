-- The front of a list.
use Rattle.std.specs.Prelude.{◌≡◌, List, [], ◌∷◌}

-- the list begins with this value
abbrev pub IsFront : {T : Type 0} → List T → T → Type 0
IsFront [] x = ⊥
IsFront (y ∷ ys) x = y ≡ x
