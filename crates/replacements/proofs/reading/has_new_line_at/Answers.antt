use Rattle.std.proofs.Common.{arith}
use Rattle.replacements.proofs.Gaps.{gap_fits, last_gap}
use Rattle.replacements.proofs.reading.has_new_line_at.Goals as goal

pub has_new_line-requires : goal.has_new_line-requires
has_new_line-requires c = rw c.gap.ensures (omega (arith, gap_fits c.args.arena.now c.args.place, c.requires.fits))

pub returns-else-place-len : goal.returns-else-place-len
returns-else-place-len c =
    rw (c.has_new_line.ensures, c.dialect.ensures, c.gap.ensures) (last_gap c.args.arena.now c.args.place (omega (arith, c.if-place-len.false, c.len.ensures.count)))
