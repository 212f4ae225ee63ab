use Rattle.std.proofs.Common.{arith, ◌∙◌, sym}
use Rattle.statement_lines.proofs.KeptLines.{level_kept}
use Rattle.statement_lines.proofs.lines.keep_levels.Goals as goal

pub loop-number-preserved : goal.loop-number-preserved
loop-number-preserved c =
    let v = c.loop-number.invariant in
    record {
      count = omega (arith, c.push_reserved.ensures.len, v.count, c.loop-number.levels.ok.0, c.push_reserved.new.self.ok.0);
      room = omega (arith, v.room, c.push_reserved.ensures.capacity);
      lines = level_kept c.args.rows.now c.loop-number.levels.items c.push_reserved.new.self.items c.loop-number.number _ (sym v.count) (omega (arith, c.loop-number-test.true)) c.push_reserved.ensures.items ∙ v.lines;
    }
