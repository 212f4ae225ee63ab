use Rattle.std.proofs.Common.{◌≤◌, ◌<◌, ◌+◌, arith}
use Rattle.unwrapped_lines.proofs.Passed.{inside_row}
use Rattle.unwrapped_lines.proofs.comments.pass_tokens.Goals as goal

pub returns-clause-same : goal.returns-clause-same
returns-clause-same c =
    let passed = c.min-passed.result in
    let next = c.next_first.result in
    let index = c.args.from.index in
    let some : 0 < passed = omega (arith, c.if-passed-eq0.false) in
    let near : index + passed ≤ c.next_comment-end.result = omega (arith, some, c.min-passed.ensures, c.saturating_sub.ensures) in
    let most : c.args.from.marks.seen + passed ≤ next = omega (arith, some, c.min-passed.ensures, c.saturating_sub-inside.ensures) in
    inside_row passed (record { lines = c.args.lines.now; total = c.args.total; end_level = c.args.end_level }) c.args.count index c.args.comments.now c.args.from.marks next some
    (omega (arith, near, c.next_comment-end.ensures.most)) (c.next_comment-end.ensures.follow (index + passed) near) most c.next_first.ensures
