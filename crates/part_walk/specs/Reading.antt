-- What comes of an item of a part.
use Rattle.std.specs.Prelude.{ℕ}
use Rattle.part_walk.specs.declared.walk.Walk.{Walk}

pub data Reading : Type 0 where
  -- the part ends outside brackets, behind so many of its items
  EndsOutside : ℕ → Reading
  -- the part ends in a body, behind so many of its items
  EndsInBody : ℕ → Reading
  -- no part ends behind it
  Never : Reading
  -- the part goes on behind it
  GoesOn : Walk → Reading
