use Rattle.std.proofs.Common.{◌≡◌, take, arith}
use Rattle.std.proofs.lemmas.List.{take_more}
use Rattle.fmt_ports.proofs.Compared.{same_front}
use Rattle.fmt_ports.proofs.streams.same.common_len.Goals as goal

pub returns-then-starts_with-clause-same : goal.returns-then-starts_with-clause-same
returns-then-starts_with-clause-same c =
    same_front c.args.left.now c.args.right.now c.starts_with.result c.starts_with.ensures.value c.if-starts_with.true

pub loop-at-preserved : goal.loop-at-preserved
loop-at-preserved c =
    let at = c.loop-at.at in
    let front : take at c.args.left.now ≡ take at c.args.right.now = c.loop-at.invariant in
    let left = take_more c.args.left.now at 0 (omega (arith, c.min-most.ensures, c.loop-at-test.true)) in
    let right = take_more c.args.right.now at 0 (omega (arith, c.min-most.ensures, c.loop-at-test.true)) in
    cc (left, right, c.if-left-at.false)
