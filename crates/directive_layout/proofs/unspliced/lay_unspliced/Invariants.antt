use Rattle.std.proofs.Common.{◌≡◌, ◌<◌, ◌-◌, false, Some, length, drop, slice_get}
use Rattle.token_arena.specs.Entries.{told_by}
use Rattle.replacements.specs.Decisions.{decided_all}
use Rattle.directive_layout.specs.Laid.{has_splice, inner_from, is_operand, laid_between}
use Rattle.directive_layout.proofs.Alike.{plain}
use Rattle.directive_layout.proofs.unspliced.lay_unspliced.Given as goal

abbrev pub invariant-loop-place : goal.invariant-loop-place
invariant-loop-place l = record {
  len : length l.plan ≡ length l.fn.plan;
  some : 0 < l.place;
  head : is_operand l.part ≡ false;
  left : slice_get l.arena.tokens (l.place - 1) ≡ Some (told_by l.left);
  unspliced : has_splice (drop l.place l.arena.tokens) (l.fn.end - l.place) ≡ false;
  rest : decided_all l.plan (inner_from l.style l.arena.dialect l.depth l.staying l.toks 0 l.place (plain l.part 0) (told_by l.left) (drop l.place l.arena.tokens) (l.fn.end - l.place)) ≡ decided_all l.fn.plan (laid_between l.style l.arena l.depth l.staying l.toks l.fn.first l.fn.end);
}
