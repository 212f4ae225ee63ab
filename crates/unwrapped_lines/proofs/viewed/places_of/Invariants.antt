use Rattle.std.proofs.Common.{◌≡◌, ◌≤◌, length, map, take}
use Rattle.std.specs.Prelude.{vec_capacity}
use Rattle.unwrapped_lines.specs.Inside.{comment_place}
use Rattle.unwrapped_lines.proofs.viewed.places_of.Given as goal

abbrev pub invariant-loop-comment : goal.invariant-loop-comment
invariant-loop-comment l = record {
  told : l.places.items ≡ map comment_place (take l.comment-index l.comments);
  count : length l.places.items ≡ l.comment-index;
  room : length l.comments ≤ vec_capacity l.places;
}
