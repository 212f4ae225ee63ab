use Rattle.std.proofs.Common.{List, arith, sym, subst}
use Rattle.style_table.specs.declared.style.AlignTrailingCommentsKind.TheVariants.{Always, Never}
use Rattle.comment_rows.specs.Columns.{StandRight}
use Rattle.comment_rows.specs.declared.place.TrailRow.{TrailRow}
use Rattle.comment_rows.proofs.Lined.{lined_all, stands_right}
use Rattle.comment_rows.proofs.place.align.Goals as goal

pub returns-then-eq-clause-right : goal.returns-then-eq-clause-right
returns-then-eq-clause-right c = stands_right Never c.args.rows.now

pub returns-clause-right : goal.returns-clause-right
returns-clause-right c =
    let P : List TrailRow → Type 0 = λ rows. StandRight c.args.rows.now rows in
    let all = lined_all c.args.rows.now c.loop-index.rows c.loop-index.index c.loop-index.before (omega (arith, c.loop-index-test.false, c.loop-index.invariant.whole)) c.loop-index.invariant.done in
    subst P (sym all) (stands_right Always c.args.rows.now)
