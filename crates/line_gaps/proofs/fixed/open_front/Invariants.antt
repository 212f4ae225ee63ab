use Rattle.std.proofs.Common.{◌≡◌, ◌≤◌, ◌<◌, ◌-◌, ℕ, None, get_or, length}
use Rattle.line_tokens.specs.declared.LineTok.{LineTok}
use Rattle.replacements.specs.Decisions.{slot_of}
use Rattle.line_gaps.proofs.fixed.open_front.Given as goal

abbrev pub invariant-loop-first : goal.invariant-loop-first
invariant-loop-first l = record {
  within : l.first ≤ length l.tokens;
  front : (i : ℕ) (d : LineTok) → i < l.first → slot_of l.plan (get_or l.tokens i d).id.0 ≡ None;
}

abbrev pub decreases-loop-first : goal.decreases-loop-first
decreases-loop-first l = length l.tokens - l.first
