use Rattle.std.proofs.Common.{◌+◌, arith}
use Rattle.std.proofs.lemmas.List.{take_rest}
use Rattle.std.proofs.lemmas.Result.{err_from_is_err_and}
use Rattle.style_config.proofs.Effects.{Gives_fault, line_was_read, line_is_at_fault, lines_were_read}
use Rattle.style_config.proofs.whole.read_document.Goals as goal

pub returns-in_err-style-clause-read : goal.returns-in_err-style-clause-read
returns-in_err-style-clause-read c =
    let p = err_from_is_err_and c.from_residual.result c.from_residual.ensures.1 in
    rw (p.1, p.2) (Gives_fault _ _ _ _ _ c.in_err-style.ensures.read
    (line_is_at_fault _ _ _ c.args.document.now c.loop-at.at _ _ _ _ _ _ (omega (arith, c.loop-at-test.true)) c.item_of-item.ensures c.begins_nested.ensures (take_rest c.args.document.now (c.loop-at.at + 1)) c.loop-at.invariant.read))

pub loop-at-preserved : goal.loop-at-preserved
loop-at-preserved c = record {
  within = omega (arith, c.loop-at-test.true);
  read = line_was_read _ _ _ _ _ _ c.args.document.now c.loop-at.at _ _ _ _ _ (omega (arith, c.loop-at-test.true)) c.item_of-item.ensures c.begins_nested.ensures (take_rest c.args.document.now (c.loop-at.at + 1)) c.in_ok-style.ensures.read c.in_ok-style.ensures.seen c.after-owner.ensures c.loop-at.invariant.read;
  range = λ before. c.in_ok-style.ensures.range (c.loop-at.invariant.range before);
}

pub returns-clause-read : goal.returns-clause-read
returns-clause-read c = lines_were_read _ _ _ c.args.document.now c.loop-at.at _ (omega (arith, c.loop-at-test.false)) c.loop-at.invariant.read
