use Rattle.std.proofs.Common.{◌≡◌, ◌≤◌, ◌<◌, ℕ, None, false}
use Rattle.replacements.specs.Decisions.{slot_of}
use Rattle.line_gaps.proofs.fixed_view.is_row_open.Given as goal

abbrev pub invariant-loop-id : goal.invariant-loop-id
invariant-loop-id l = l.decided ≡ false → (id : ℕ) → l.fn.first ≤ id → id < l.id → slot_of l.plan id ≡ None
