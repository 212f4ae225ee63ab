-- The conditionals of a text, one inside another (C11 6.10p1, group and if-section).
use Rattle.std.specs.Prelude.{ℕ, Bool}

-- A group is a list of texts and conditionals; a text is given by its first item and the first behind it.
-- A conditional is a list of branches, each of them a group, and live or that of a literal `#if 0`.
mutual
  pub data Group : Type 0 where
    nothing : Group
    text : ℕ → ℕ → Group → Group
    conditional : Branches → Group → Group

  pub data Branches : Type 0 where
    none : Branches
    branch : Bool → Group → Branches → Branches
