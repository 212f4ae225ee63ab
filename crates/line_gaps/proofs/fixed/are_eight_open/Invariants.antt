use Rattle.std.proofs.Common.{◌≡◌, ◌≤◌, ◌<◌, ℕ, None, false, get_or}
use Rattle.line_tokens.specs.declared.LineTok.{LineTok}
use Rattle.replacements.specs.Decisions.{slot_of}
use Rattle.line_gaps.proofs.fixed.are_eight_open.Given as goal

abbrev pub invariant-loop-at : goal.invariant-loop-at
invariant-loop-at l = l.decided ≡ false → (i : ℕ) (d : LineTok) → l.fn.first ≤ i → i < l.at → slot_of l.plan (get_or l.tokens i d).id.0 ≡ None
