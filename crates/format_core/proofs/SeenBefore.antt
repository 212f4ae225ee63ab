-- A run that sees no item but those that earlier runs see has nothing to lay out.
use Rattle.std.proofs.Common.{◌≡◌, ◌⊎◌, inl, inr, ℕ, ◌+◌, ◌<◌, ◌≤◌, ◌-◌, Option, None, List, length, get_or, sym, subst}
use Rattle.std.proofs.Common.{arith}
use Rattle.std.specs.List.{Contains}
use Rattle.std.proofs.lemmas.List.{get_or_default}
use Rattle.style_table.specs.declared.style.Style.{Style}
use Rattle.token_arena.specs.Gaps.{Contents}
use Rattle.view_parts.specs.Parts.{part_ends}
use Rattle.replacements.specs.declared.slot.Slot.{Slot}
use Rattle.run_layout.specs.declared.report.Tally.{Tally}
use Rattle.line_gaps.proofs.MadeFor.{is_some-decided, decided-is_some}
use Rattle.run_parts.specs.Runs.{seen_by}
use Rattle.format_core.specs.RunsTold.{AreSeenTold}
use Rattle.format_core.proofs.RunsTold.{seen_told_nothing}
use Rattle.run_parts.proofs.SeenInOrder.{seen_increases}
use Rattle.format_core.proofs.SoundPlan.{parts_keep, seen_decided}
use Rattle.run_parts.proofs.SeenEarlier.{AreSeenDecided, behind_change}

earlier_or_here : (run count : ℕ) → run < count + 1 → (run < count) ⊎ (count ≡ run)
earlier_or_here run count low = grind (arith, low)

-- behind one more run
pub run_seen : (style : Style) (budget : ℕ) (arena : Contents) (plan final : List (Option Slot)) (run : ℕ) (before after : Tally) → length plan ≡ length arena.tokens + 1
    → AreSeenDecided arena plan run → AreSeenTold style budget arena run plan (seen_by arena run) final before after → AreSeenDecided arena final (run + 1)
run_seen style budget arena plan final run before after long all told seen low place below =
    let id = get_or (seen_by arena seen) place 0 in
    elim (earlier_or_here seen run low) [
      | inl earlier ↦
          let was = decided-is_some plan id (all seen earlier place below) in
          let ids = seen_by arena run in
          is_some-decided final id (was.0, parts_keep style budget arena run plan ids None 0 (part_ends arena ids) final told.done id was.0 told.seen was.1)
      | inr here ↦
          let sees : Contains (seen_by arena seen) id = (place, below, get_or_default (seen_by arena seen) place id 0 below) in
          is_some-decided final id (seen_decided style budget arena plan run id final told.done long (subst (λ r. Contains (seen_by arena r) id) (sym here) sees) told.seen)
    ]

-- a run that sees nothing new leaves the plan as it is, and tells nothing
pub nothing_new_told : (style : Style) (budget : ℕ) (arena : Contents) (plan : List (Option Slot)) (run end : ℕ) (tally : Tally) → AreSeenDecided arena plan run → (run ≡ 0 → end ≡ length arena.tokens)
    → (0 < run → (id : ℕ) → end ≤ id → Contains (seen_by arena run) id → Contains (seen_by arena (run - 1)) id) → end ≡ 0 → AreSeenTold style budget arena run plan (seen_by arena run) plan tally tally
nothing_new_told style budget arena plan run end tally all whole behind none =
    seen_told_nothing style budget arena run plan (seen_by arena run) tally (seen_increases arena run) (λ place below.
    let id = get_or (seen_by arena run) place 0 in
    behind_change arena plan run end all whole behind id (omega (arith, none)) (place, below, get_or_default (seen_by arena run) place id 0 below))
