use Rattle.std.proofs.Common.{◌≡◌, ◌-◌, ◌+◌, reverse}
use Rattle.part_walk.specs.Brackets.{around_of}
use Rattle.part_walk.specs.Places.{place_in}
use Rattle.view_parts.specs.Rows.{IsRow}
use Rattle.view_parts.proofs.PartEnds.{IsRead}
use Rattle.view_parts.proofs.ends.part_end.Given as goal

abbrev pub invariant-loop-walk : goal.invariant-loop-walk
invariant-loop-walk l = record {
  read : IsRead l.source.arena.now (place_in l.begin.inside) l.source.view.now l.first l.walk (reverse l.brackets.bodies.items) (reverse l.brackets.waiting.items) l.brackets.braces;
  stands : l.brackets.around ≡ around_of (reverse l.brackets.bodies.items) (reverse l.brackets.waiting.items);
  row : IsRow l.source.view.now (l.first + l.walk.place) l.row;
}

abbrev pub decreases-loop-walk : goal.decreases-loop-walk
decreases-loop-walk l = l.count - l.walk.place
