use Rattle.unwrapped_lines.proofs.Passed.{place_told}
use Rattle.unwrapped_lines.proofs.comments.pass_place.Goals as goal

pub returns-clause-told : goal.returns-clause-told
returns-clause-told c =
    place_told (record { lines = c.args.lines.now; total = c.args.total; end_level = c.args.end_level }) c.args.index c.args.part _ c.args.marks c.next_marks.result c.line_at-next.result c.is_between-between.result c.begins_line-begins.result c.new_begin.result
    c.line_at-next.ensures c.is_between-between.ensures c.begins_line-begins.ensures c.new_begin.ensures c.next_marks.ensures.same
