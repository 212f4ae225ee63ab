use Rattle.std.proofs.Common.{◌≡◌, drop}
use Rattle.token_roles.specs.Held.{is_held}
use Rattle.view_tokens.proofs.made.is_held.Given as goal

abbrev pub invariant-loop-mark : goal.invariant-loop-mark
invariant-loop-mark l = is_held (drop l.mark-index l.marks) ≡ is_held l.marks
