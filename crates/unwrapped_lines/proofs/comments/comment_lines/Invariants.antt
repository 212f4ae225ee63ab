use Rattle.std.proofs.Common.{◌≡◌, ◌≤◌, ◌-◌, ◌++◌}
use Rattle.unwrapped_lines.specs.Comments.{begins_from, list_of, no_marks}
use Rattle.unwrapped_lines.specs.Lines.{lines_between}
use Rattle.unwrapped_lines.specs.Inside.{parts_with}
use Rattle.unwrapped_lines.proofs.comments.comment_lines.Given as goal

abbrev pub invariant-places : goal.invariant-places
invariant-places l = record {
  same : l.out.items ++ lines_between l.count (list_of l.walk.current ++ begins_from (record { lines = l.lines; total = l.total; end_level = l.end_level }) (parts_with (l.count - l.walk.index) l.walk.index l.rest) l.walk.index l.walk.marks)
      ≡ lines_between l.count (begins_from (record { lines = l.lines; total = l.total; end_level = l.end_level }) (parts_with l.count 0 l.comments) 0 no_marks);
  most : l.walk.index ≤ l.count;
  seen : l.walk.marks.seen ≤ l.walk.index;
  begun : l.walk.marks.begun ≤ l.walk.index;
}

abbrev pub decreases-places : goal.decreases-places
decreases-places l = l.count - l.walk.index
