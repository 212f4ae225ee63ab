-- Tables of rows, read from the top: the first row whose condition holds decides.
use Rattle.std.specs.Prelude.{Bool, if◌then◌else◌, List, [], ◌∷◌}

-- what stands in the first row whose condition holds, and the last argument where none holds
abbrev pub first_row : {A : Type 0} → List (Bool × A) → A → A
first_row [] other = other
first_row (row ∷ rows) other = if row.0 then row.1 else first_row rows other
