-- What lies of some texts between two items.
use Rattle.std.specs.Prelude.{ℕ, nat_lt, min, max, List, [], ◌∷◌, if◌then◌else◌}
use Rattle.branch_runs.specs.declared.seen.SeenText.{SeenText}

-- the first item of a text and the first behind it
abbrev pub text_bounds : SeenText → ℕ × ℕ
text_bounds seen = (seen.first, seen.end)

-- what lies of these stretches from one item to before another
abbrev pub inside : ℕ → ℕ → List (ℕ × ℕ) → List (ℕ × ℕ)
inside first end [] = []
inside first end (stretch ∷ stretches) =
    if nat_lt (max first stretch.0) (min end stretch.1)
    then (max first stretch.0, min end stretch.1) ∷ inside first end stretches else inside first end stretches
