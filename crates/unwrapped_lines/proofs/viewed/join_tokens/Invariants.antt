use Rattle.std.proofs.Common.{◌≡◌, ◌≤◌, length, drop}
use Rattle.std.specs.Prelude.{vec_capacity}
use Rattle.unwrapped_lines.specs.Inside.{comment_places_from}
use Rattle.unwrapped_lines.proofs.Joins.{AreJoined}
use Rattle.unwrapped_lines.proofs.viewed.join_tokens.Given as goal

abbrev pub invariant-loop-comment : goal.invariant-loop-comment
invariant-loop-comment l = record {
  rest : comment_places_from l.from (drop l.from l.classes) ≡ drop l.comment-index l.comments;
  joined : AreJoined l.classes l.partners l.from l.joined.classes.items l.joined.partners.items l.joined.numbers.items;
  most : l.from ≤ length l.classes;
  room : length l.classes ≤ vec_capacity l.joined.numbers;
}
