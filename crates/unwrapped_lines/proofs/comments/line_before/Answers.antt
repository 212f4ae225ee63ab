use Rattle.std.proofs.Common.{◌≡◌, ◌+◌, ◌-◌, Some, slice_get, sym, arith}
use Rattle.std.proofs.lemmas.Option.{slice_get_within}
use Rattle.unwrapped_lines.proofs.Passed.{line_row}
use Rattle.unwrapped_lines.proofs.comments.line_before.Goals as goal

pub returns-clause-row : goal.returns-clause-row
returns-clause-row c = λ total end_level count comments run few follow.
    let lines = c.args.lines.now in
    let marks = c.args.marks in
    let line = c.in-Some.line in
    let inside = line.first - marks.seen in
    let found : slice_get lines marks.begun ≡ Some line = sym c.in-Some.ensures in
    let same : line.first ≡ marks.seen + inside = omega arith in
    line_row inside (record { lines = lines; total = total; end_level = end_level }) count c.args.index comments marks line found same run (omega (arith, few)) follow

pub returns-clause-up : goal.returns-clause-up
returns-clause-up c = slice_get_within c.args.lines.now c.args.marks.begun c.in-Some.line (sym c.in-Some.ensures)
