-- The marks and flags of sections, one section further.
use Rattle.std.proofs.Common.{◌≡◌, ◌∙◌, ℕ, ◌-◌, Bool, List, [], ◌∷◌, ◌++◌, replicate, subst, append_assoc}
use Rattle.branch_runs.specs.declared.mark.Mark.{Mark}
use Rattle.branch_runs.specs.declared.mark.MarkKind.{MarkKind}
use Rattle.branch_runs.specs.declared.mark.Open.{Open}
use Rattle.branch_runs.specs.Dead.{groups_around, has_zero}
use Rattle.branch_runs.specs.Flags.{flags_in}
use Rattle.branch_runs.specs.Reading.{effect_in, effects_in, kind_in, open_after}

-- the marks with what their sections do
pub one_marked : (m : Mark) (marks done new all : List Mark) (stack after : List Open) (kind : MarkKind) → kind ≡ kind_in m.kind stack → after ≡ open_after kind stack
    → new ≡ done ++ record { first = m.first; end = m.end; kind = kind } ∷ [] → done ++ effects_in stack (m ∷ marks) ≡ all → new ++ effects_in after marks ≡ all
one_marked m marks done new all stack after kind kind_is after_is new_is before =
    let behind : after ≡ open_after (kind_in m.kind stack) stack = subst (λ k. after ≡ open_after k stack) kind_is after_is in
    let here : new ≡ done ++ effect_in stack m ∷ [] = subst (λ k. new ≡ done ++ record { first = m.first; end = m.end; kind = k } ∷ []) kind_is new_is in
    rw (behind, here) (append_assoc done (effect_in stack m ∷ []) (effects_in (open_after (kind_in m.kind stack) stack) marks) ∙ before)

-- the flags of their items
pub one_flagged : (m : Mark) (marks : List Mark) (done new all : List Bool) (stack after : List Open) (kind : MarkKind) (dead : Bool) (count : ℕ) → kind ≡ kind_in m.kind stack → after ≡ open_after kind stack
    → dead ≡ has_zero (groups_around kind stack) → count ≡ m.end - m.first → new ≡ done ++ replicate count dead → done ++ flags_in stack (effects_in stack (m ∷ marks)) ≡ all
    → new ++ flags_in after (effects_in after marks) ≡ all
one_flagged m marks done new all stack after kind dead count kind_is after_is dead_is count_is new_is before =
    let behind : after ≡ open_after (kind_in m.kind stack) stack = subst (λ k. after ≡ open_after k stack) kind_is after_is in
    let told : dead ≡ has_zero (groups_around (kind_in m.kind stack) stack) = subst (λ k. dead ≡ has_zero (groups_around k stack)) kind_is dead_is in
    let own : List Bool = replicate (m.end - m.first) (has_zero (groups_around (kind_in m.kind stack) stack)) in
    let here : new ≡ done ++ own = rw (← told, ← count_is) new_is in
    rw (behind, here) (append_assoc done own (flags_in (open_after (kind_in m.kind stack) stack) (effects_in (open_after (kind_in m.kind stack) stack) marks)) ∙ before)
