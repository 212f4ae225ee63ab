use Rattle.std.proofs.Common.{◌≡◌, ◌<◌, ℕ, Some, None, slice_get}
use Rattle.line_tokens.specs.declared.LineTok.{LineTok}
use Rattle.replacements.specs.Decisions.{slot_of}
use Rattle.run_layout.proofs.row.are_open_inside.Given as goal

abbrev pub invariant-loop-at : goal.invariant-loop-at
invariant-loop-at l = (i : ℕ) (token : LineTok) → 0 < i → i < l.at → slice_get l.tokens i ≡ Some token → slot_of l.plan token.id.0 ≡ None
