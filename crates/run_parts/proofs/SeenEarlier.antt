-- The gaps before the items that earlier runs see are decided.
use Rattle.std.proofs.Common.{◌≡◌, ◌∙◌, inl, inr, ℕ, ◌<◌, ◌≤◌, ◌-◌, Option, List, length, get_or, sym, subst, arith}
use Rattle.std.specs.Prelude.{IsSome}
use Rattle.std.specs.List.{Contains}
use Rattle.std.proofs.lemmas.List.{get_or_default}
use Rattle.token_arena.specs.Gaps.{Contents}
use Rattle.branch_runs.specs.Anew.{items_between}
use Rattle.part_walk.specs.Places.{Place}
use Rattle.replacements.specs.declared.slot.Slot.{Slot}
use Rattle.replacements.specs.Decisions.{slot_of}
use Rattle.run_parts.specs.Bounds.{AreBounds, IsBound}
use Rattle.run_parts.specs.Runs.{AreDecided, seen_by}
use Rattle.run_parts.specs.declared.bounds.KnownBound.{KnownBound}
use Rattle.run_parts.proofs.FirstParts.{bound_stays, bounds_stay}
use Rattle.run_parts.proofs.Seen.{here_or_later, seen_within}
use Rattle.run_parts.proofs.SeenInOrder.{seen_increases}
use Rattle.run_parts.proofs.Stretches.{in_same_front}

-- the gap before each item that one of so many runs sees is decided
abbrev pub AreSeenDecided : Contents → List (Option Slot) → ℕ → Type 0
AreSeenDecided arena plan count = (run : ℕ) → run < count → AreDecided plan (seen_by arena run)

pub none_seen : (arena : Contents) (plan : List (Option Slot)) → AreSeenDecided arena plan 0
none_seen arena plan run low = absurd (omega (arith, low))

seen_earlier : (arena : Contents) (plan : List (Option Slot)) (count run id : ℕ) → run < count → AreSeenDecided arena plan count → Contains (seen_by arena run) id → IsSome (slot_of plan id)
seen_earlier arena plan count run id low all (k, below, is) = subst (λ i. IsSome (slot_of plan i)) (get_or_default (seen_by arena run) k 0 id below ∙ is) (all run low k below)

-- each item that a run sees from where nothing of what changed is left on is decided
pub behind_change : (arena : Contents) (plan : List (Option Slot)) (run end : ℕ) → AreSeenDecided arena plan run → (run ≡ 0 → end ≡ length arena.tokens)
    → (0 < run → (id : ℕ) → end ≤ id → Contains (seen_by arena run) id → Contains (seen_by arena (run - 1)) id) → (id : ℕ) → end ≤ id → Contains (seen_by arena run) id → IsSome (slot_of plan id)
behind_change arena plan run end all whole behind id past sees =
    elim (here_or_later 0 run (omega arith)) [
      | inl first ↦
          let below : get_or (seen_by arena run) sees.0 id < length arena.tokens = seen_within arena run sees.0 id sees.1 in
          let is = sees.2 in
          let all_seen = whole (sym first) in
          absurd (omega (arith, below, is, past, all_seen))
      | inr later ↦ seen_earlier arena plan run (run - 1) id (omega (arith, later)) all (behind (omega (arith, later)) id past sees)
    ]

-- so is each before the first item that changed
pub before_change : (arena : Contents) (plan : List (Option Slot)) (run first : ℕ) → AreSeenDecided arena plan run → (run ≡ 0 → first ≡ 0)
    → (0 < run → items_between 0 first (seen_by arena run) ≡ items_between 0 first (seen_by arena (run - 1))) → (id : ℕ) → id < first → Contains (seen_by arena run) id → IsSome (slot_of plan id)
before_change arena plan run first all none same id early sees =
    elim (here_or_later 0 run (omega arith)) [
      | inl begins ↦ (let low = none (sym begins) in absurd (omega (arith, low, early)))
      | inr later ↦
          let is = same (omega (arith, later)) in
          let had = in_same_front first (seen_by arena run) (seen_by arena (run - 1)) (seen_increases arena run) (seen_increases arena (run - 1)) is id early sees in
          seen_earlier arena plan run (run - 1) id (omega (arith, later)) all had
    ]

-- the bounds that are left are bounds of what the run sees
pub record RunBounds (arena : Contents) (run : ℕ) (left : List KnownBound) (item told : ℕ) (inside : Option Place) : Type 0 where
  pub bound : IsBound arena (seen_by arena run) item told inside
  pub bounds : AreBounds arena (seen_by arena run) left told

pub run_bounds : (arena : Contents) (run : ℕ) (old left : List KnownBound) (first item told : ℕ) (inside : Option Place) → (0 < run → (was : ℕ) × AreBounds arena (seen_by arena (run - 1)) old was) → (run ≡ 0 → length old ≡ 0)
    → (0 < run → items_between 0 first (seen_by arena run) ≡ items_between 0 first (seen_by arena (run - 1))) → told ≤ first
    → ((view : List ℕ) (was : ℕ) → AreBounds arena view old was → AreBounds arena view left told) → ((view : List ℕ) (was : ℕ) → AreBounds arena view old was → IsBound arena view item told inside)
    → RunBounds arena run left item told inside
run_bounds arena run old left first item told inside were none same low still last =
    elim (here_or_later 0 run (omega arith)) [
      | inl begins ↦
          let empty = none (sym begins) in
          let are : AreBounds arena (seen_by arena run) old 0 =
          record { each = λ k below. absurd (omega (arith, below, empty)); order = λ j k order below. absurd (omega (arith, below, empty)); most = λ k below. absurd (omega (arith, below, empty)) } in
          record { bound = last (seen_by arena run) 0 are; bounds = still (seen_by arena run) 0 are }
      | inr later ↦
          let some : 0 < run = omega (arith, later) in
          let had = were some in
          let before = seen_by arena (run - 1) in
          record {
            bound = bound_stays arena before (seen_by arena run) item told inside first low (same some) (last before had.0 had.1);
            bounds = bounds_stay arena before (seen_by arena run) left told first low (same some) (still before had.0 had.1);
          }
    ]
