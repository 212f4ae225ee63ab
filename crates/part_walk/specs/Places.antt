-- Places of bodies where parts begin.
use Rattle.std.specs.Prelude.{ℕ, Option, Some, None, List}
use Rattle.part_walk.specs.declared.bodies.BodyPlace.{BodyPlace}
use Rattle.part_walk.specs.declared.bodies.Head.{Head}
use Rattle.part_walk.specs.declared.walk.Declaration.{Declaration}

-- a place between two statements or members of a body
pub record Place : Type 0 where
  -- the heads of the bodies that are open, the outermost first
  pub heads : List Head
  -- the `{` of the block with which the statement before ends, where it ends with one
  pub opened : Option ℕ
  -- the `;` or `}` with which the statement before ends
  pub ended : ℕ
  -- what is known of the declaration outside brackets
  pub declaration : Declaration

-- the place that the code keeps
abbrev pub place_of : BodyPlace → Place
place_of place =
    record { heads = place.heads.now; opened = place.opened; ended = place.ended; declaration = place.declaration }

abbrev pub place_in : Option BodyPlace → Option Place
place_in None = None
place_in (Some place) = Some (place_of place)
