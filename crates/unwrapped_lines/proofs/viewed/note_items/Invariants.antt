use Rattle.std.proofs.Common.{◌≤◌, ◌-◌, length}
use Rattle.unwrapped_lines.specs.Inside.{AreNoted}
use Rattle.unwrapped_lines.proofs.viewed.note_items.Given as goal

abbrev pub invariant-loop-place : goal.invariant-loop-place
invariant-loop-place l = record {
  noted : AreNoted l.arena l.view l.classes l.place l.noted.comments.items l.noted.touched.items;
  most : l.place ≤ length l.classes;
}

abbrev pub decreases-loop-place : goal.decreases-loop-place
decreases-loop-place l = length l.classes - l.place
