use Rattle.std.proofs.Common.{◌≡◌, ◌<◌, ◌-◌, Some, drop, slice_get}
use Rattle.token_arena.specs.Entries.{told_by}
use Rattle.directive_layout.specs.OperandStart.{operand_from, operand_first}
use Rattle.directive_layout.proofs.operand_start.operand_first.Given as goal

abbrev pub invariant-loop-place : goal.invariant-loop-place
invariant-loop-place l = record {
  some : 0 < l.place;
  left : slice_get l.arena.tokens (l.place - 1) ≡ Some (told_by l.left);
  rest : operand_from l.arena.dialect l.part (told_by l.left) l.place (drop l.place l.arena.tokens) (l.fn.dir.end - l.place) ≡ operand_first l.arena l.fn.dir;
}
