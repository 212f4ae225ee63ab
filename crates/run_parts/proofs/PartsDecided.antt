-- Parts that follow one another and whose gaps are decided.
use Rattle.std.proofs.Common.{◌≡◌, ◌∙◌, ℕ, ◌+◌, ◌-◌, ◌<◌, ◌≤◌, Option, List, length, drop, get_or, sym, ap, subst}
use Rattle.std.proofs.Common.{arith}
use Rattle.std.specs.Prelude.{IsSome, slice_range}
use Rattle.token_arena.specs.Gaps.{Contents}
use Rattle.part_walk.specs.Places.{Place}
use Rattle.view_parts.specs.Parts.{items_before, part_inside, part_len}
use Rattle.replacements.specs.declared.slot.Slot.{Slot}
use Rattle.replacements.specs.Decisions.{slot_of}
use Rattle.run_parts.specs.Runs.{AreDecided}
use Rattle.run_parts.proofs.Parts.{part_length, part_item}

-- the gap before each item of a view at places from one to before another is decided
abbrev pub AreDecidedUpTo : List (Option Slot) → List ℕ → ℕ → ℕ → Type 0
AreDecidedUpTo plan ids first last = (k : ℕ) → first ≤ k → k < last → IsSome (slot_of plan (get_or ids k 0))

pub decided_up_to : (plan : List (Option Slot)) (ids : List ℕ) (first last : ℕ) → last ≤ length ids → AreDecided plan (slice_range ids first last) → AreDecidedUpTo plan ids first last
decided_up_to plan ids first last inside all = λ k low high.
    let e : first + (k - first) ≡ k = omega (arith, low) in
    let below : k - first < length (slice_range ids first last) = omega (arith, low, high, inside, part_length ids first last) in
    subst (λ id. IsSome (slot_of plan id)) (part_item ids first last (k - first) 0 below ∙ ap (λ j. get_or ids j 0) e) (all (k - first) below)

pub part_decided_in : (plan : List (Option Slot)) (ids : List ℕ) (first end last : ℕ) → end ≤ last → AreDecidedUpTo plan ids first last → AreDecided plan (slice_range ids first end)
part_decided_in plan ids first end last upto all = λ k below.
    subst (λ id. IsSome (slot_of plan id)) (sym (part_item ids first end k 0 below)) (all (first + k) (omega arith) (omega (arith, below, part_length ids first end, upto)))

-- what is so of each place where a part begins, and tells that the gaps of what stands for it are decided
pub record TellDecided (arena : Contents) (plan : List (Option Slot)) (ids : List ℕ) (last : ℕ) (Q : Option Place → ℕ → Type 0) : Type 0 where
  pub tells : (begins : Option Place) (first : ℕ) → first ≤ last → Q begins first → AreDecided plan (items_before begins)
  pub next : (begins : Option Place) (first : ℕ) → Q begins first → Q (part_inside arena begins (drop first ids)) (first + part_len arena begins (drop first ids))
