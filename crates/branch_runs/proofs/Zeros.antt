-- How many groups of `#if 0` are open.
use Rattle.std.proofs.Common.{◌≡◌, ◌≤◌, Bool, true, false, List, [], ◌∷◌, length, refl, arith}
use Rattle.std.specs.Prelude.{nat_lt, ◌&&◌}
use Rattle.branch_runs.specs.declared.mark.Open.{Open}
use Rattle.branch_runs.specs.declared.mark.Open.TheVariants.{Zero, Live, Last}
use Rattle.branch_runs.specs.Dead.{has_zero, groups_around}
use Rattle.branch_runs.specs.Flags.{zeros}
use Rattle.branch_runs.specs.Reading.{open_after}
use Rattle.branch_runs.specs.declared.mark.MarkKind.{MarkKind}
use Rattle.branch_runs.specs.declared.mark.MarkKind.TheVariants.{Text, IfZero, Opens, Branch, LastBranch, Ends, Flat}

twice : (b : Bool) → (b && b) ≡ b
twice true = refl
twice false = refl

with_true : (b : Bool) → (b && true) ≡ b
with_true true = refl
with_true false = refl

pub zeros-off : (stack : List Open) → nat_lt 0 (zeros stack) ≡ has_zero stack
zeros-off [] = refl
zeros-off (Zero ∷ stack) = grind arith
zeros-off (Live ∷ stack) = zeros-off stack
zeros-off (Last ∷ stack) = zeros-off stack

pub zeros_length : (stack : List Open) → zeros stack ≤ length stack
zeros_length [] = omega arith
zeros_length (Zero ∷ stack) = omega (arith, zeros_length stack)
zeros_length (Live ∷ stack) = omega (arith, zeros_length stack)
zeros_length (Last ∷ stack) = omega (arith, zeros_length stack)

pub zeros_live : (o : Open) (stack : List Open) → has_zero (o ∷ []) ≡ false → zeros (o ∷ stack) ≡ zeros stack
zeros_live Zero stack h = cc
zeros_live Live stack h = refl
zeros_live Last stack h = refl

-- a section is dead where it is before it and after it
pub both_dead : (kind : MarkKind) (stack : List Open) → (has_zero stack && has_zero (open_after kind stack)) ≡ has_zero (groups_around kind stack)
both_dead Text stack = twice (has_zero stack)
both_dead Flat stack = twice (has_zero stack)
both_dead IfZero stack = with_true (has_zero stack)
both_dead Opens stack = twice (has_zero stack)
both_dead Branch [] = refl
both_dead Branch (Zero ∷ stack) = refl
both_dead Branch (Live ∷ stack) = twice (has_zero stack)
both_dead Branch (Last ∷ stack) = twice (has_zero stack)
both_dead LastBranch [] = refl
both_dead LastBranch (Zero ∷ stack) = refl
both_dead LastBranch (Live ∷ stack) = twice (has_zero stack)
both_dead LastBranch (Last ∷ stack) = twice (has_zero stack)
both_dead Ends [] = refl
both_dead Ends (Zero ∷ stack) = refl
both_dead Ends (Live ∷ stack) = twice (has_zero stack)
both_dead Ends (Last ∷ stack) = twice (has_zero stack)
