-- The items in the groups of a literal `#if 0`.
use Rattle.std.specs.Prelude.{ℕ, Bool, true, false, nat_le, nat_lt, ◌&&◌, List, [], ◌∷◌, if◌then◌else◌}
use Rattle.branch_runs.specs.declared.mark.MarkKind.{MarkKind}
use Rattle.branch_runs.specs.declared.mark.MarkKind.TheVariants.{Branch, LastBranch, Ends}
use Rattle.branch_runs.specs.declared.mark.Mark.{Mark}
use Rattle.branch_runs.specs.declared.mark.Open.{Open}
use Rattle.branch_runs.specs.declared.mark.Open.TheVariants.{Zero, Live, Last}
use Rattle.branch_runs.specs.Reading.{open_after, effects}

-- one of these conditionals is in the group of a literal `#if 0`
abbrev pub has_zero : List Open → Bool
has_zero [] = false
has_zero (Zero ∷ outer) = true
has_zero (Live ∷ outer) = has_zero outer
has_zero (Last ∷ outer) = has_zero outer

-- The open conditionals in whose groups a section stands. What begins or ends a group stands outside of it.
abbrev pub groups_around : MarkKind → List Open → List Open
groups_around Branch (_ ∷ outer) = outer
groups_around LastBranch (_ ∷ outer) = outer
groups_around Ends (_ ∷ outer) = outer
groups_around kind outer = outer

-- the section has the item
abbrev pub has_item : Mark → ℕ → Bool
has_item mark i = nat_le mark.first i && nat_lt i mark.end

-- the item stands in the group of a literal `#if 0`, where these conditionals are open before sections that do what
-- they say
abbrev pub is_dead_in : List Open → List Mark → ℕ → Bool
is_dead_in outer [] i = false
is_dead_in outer (mark ∷ marks) i =
    if has_item mark i then has_zero (groups_around mark.kind outer)
    else is_dead_in (open_after mark.kind outer) marks i

-- the item stands in the group of a literal `#if 0`
abbrev pub is_dead : List Mark → ℕ → Bool
is_dead marks = is_dead_in [] (effects marks)
