-- What the code keeps of the groups of a literal `#if 0`.
use Rattle.std.specs.Prelude.{◌≡◌, ℕ, ◌+◌, ◌-◌, Bool, ◌++◌, replicate, List, [], ◌∷◌}
use Rattle.branch_runs.specs.declared.mark.MarkKind.{MarkKind}
use Rattle.branch_runs.specs.declared.mark.MarkKind.TheVariants.{Flat}
use Rattle.branch_runs.specs.declared.mark.Mark.{Mark}
use Rattle.branch_runs.specs.declared.mark.Open.{Open}
use Rattle.branch_runs.specs.declared.mark.Open.TheVariants.{Zero, Live, Last}
use Rattle.branch_runs.specs.Reading.{open_after}
use Rattle.branch_runs.specs.Dead.{has_zero, groups_around}

-- for each item of the sections, one behind another, whether it is dead
abbrev pub flags_in : List Open → List Mark → List Bool
flags_in outer [] = []
flags_in outer (mark ∷ marks) =
    replicate (mark.end - mark.first) (has_zero (groups_around mark.kind outer))
    ++ flags_in (open_after mark.kind outer) marks

-- how many of these conditionals are in the group of a literal `#if 0`
abbrev pub zeros : List Open → ℕ
zeros [] = 0
zeros (Zero ∷ outer) = zeros outer + 1
zeros (Live ∷ outer) = zeros outer
zeros (Last ∷ outer) = zeros outer

-- A branch of this kind does what k says: nothing, or the innermost conditional is in this group from then on.
abbrev pub IsBranchStep : MarkKind → Open → List Open → MarkKind → List Open → Type 0
IsBranchStep kind group [] k new = (k ≡ Flat) × (new ≡ [])
IsBranchStep kind group (Last ∷ outer) k new = (k ≡ Flat) × (new ≡ Last ∷ outer)
IsBranchStep kind group (Live ∷ outer) k new = (k ≡ kind) × (new ≡ group ∷ outer)
IsBranchStep kind group (Zero ∷ outer) k new = (k ≡ kind) × (new ≡ group ∷ outer)
