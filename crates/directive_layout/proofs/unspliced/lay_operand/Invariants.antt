use Rattle.std.proofs.Common.{◌≡◌, ◌<◌, ◌+◌, ◌-◌, ℕ, false, Some, length, drop, slice_get}
use Rattle.token_arena.specs.Entries.{told_by}
use Rattle.token_arena.specs.Stored.{Stored}
use Rattle.replacements.specs.Decisions.{decided_all}
use Rattle.directive_layout.specs.Laid.{has_splice, inner_from}
use Rattle.directive_layout.specs.declared.part.HeadPart.TheVariants.{Operand}
use Rattle.directive_layout.specs.declared.walk.Walk.{Walk}
use Rattle.directive_layout.proofs.Alike.{plain}
use Rattle.directive_layout.proofs.unspliced.lay_operand.Given as goal

abbrev pub invariant-loop-place : goal.invariant-loop-place
invariant-loop-place l = record {
  len : length l.plan ≡ length l.fn.plan;
  after : l.fn.first < l.place;
  left : slice_get l.arena.tokens (l.place - 1) ≡ Some (told_by l.left);
  unspliced : has_splice (drop l.place l.arena.tokens) (l.fn.end - l.place) ≡ false;
  rest : (depth longest : ℕ) (walk : Walk) (left : Stored) → walk.part ≡ Operand → walk.index ≡ 1 → slice_get l.arena.tokens l.fn.first ≡ Some left →
      decided_all l.plan (inner_from l.style l.arena.dialect depth l.staying l.toks longest l.place (plain Operand (l.place - l.fn.first)) (told_by l.left) (drop l.place l.arena.tokens) (l.fn.end - l.place))
      ≡ decided_all l.fn.plan (inner_from l.style l.arena.dialect depth l.staying l.toks longest (l.fn.first + 1) walk left (drop (l.fn.first + 1) l.arena.tokens) (l.fn.end - (l.fn.first + 1)));
}
