-- How open conditionals stand in one another.
use Rattle.std.specs.Prelude.{Bool, true, not, ◌&&◌, ◌||◌, List, [], ◌∷◌}
use Rattle.pp_model.specs.Condition.{Cond, is_active}

-- a group that is skipped, and of which no later group is taken
abbrev pub is_done : Cond → Bool
is_done c = c.taken && not c.active

-- Each conditional stands in groups that are all taken, or takes no group (C11 6.10.1p6): so the innermost alone tells
-- whether every group around is taken.
abbrev pub is_nested : List Cond → Bool
is_nested [] = true
is_nested (c ∷ cs) = (is_active cs || is_done c) && is_nested cs
