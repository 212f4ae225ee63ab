use Rattle.std.proofs.Common.{◌≡◌, ◌≤◌, ◌-◌, ◌++◌, length, false}
use Rattle.unwrapped_lines.specs.Comments.{begins_from, is_begun, list_of}
use Rattle.unwrapped_lines.specs.Lines.{lines_between}
use Rattle.unwrapped_lines.specs.Inside.{parts_with}
use Rattle.unwrapped_lines.proofs.comments.pass_lines.Given as goal

abbrev pub invariant-loop-next : goal.invariant-loop-next
invariant-loop-next l = record {
  same : l.out.items ++ lines_between l.count (list_of l.walk.current ++ begins_from (record { lines = l.lines; total = l.total; end_level = l.end_level }) (parts_with (l.count - l.walk.index) l.walk.index l.comments) l.walk.index l.walk.marks)
      ≡ l.initial.out.items ++ lines_between l.count (list_of l.fn.from.current ++ begins_from (record { lines = l.lines; total = l.total; end_level = l.end_level }) (parts_with (l.count - l.fn.from.index) l.fn.from.index l.comments) l.fn.from.index l.fn.from.marks);
  most : l.walk.index ≤ l.count;
  on : l.fn.from.index ≤ l.walk.index;
  seen : l.walk.marks.seen ≤ l.walk.index;
  begun : l.walk.marks.begun ≤ l.walk.index;
  run : is_begun l.walk.marks.run ≡ false;
}

abbrev pub decreases-loop-next : goal.decreases-loop-next
decreases-loop-next l = length l.lines - l.walk.marks.begun
