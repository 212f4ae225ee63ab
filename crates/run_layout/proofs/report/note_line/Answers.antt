use Rattle.run_layout.proofs.Failed.{not_done}
use Rattle.run_layout.proofs.report.note_line.Goals as goal

pub returns-in_err-push-in-Over : goal.returns-in_err-push-in-Over
returns-in_err-push-in-Over c =
    let result = c.from_residual.result in
    let err = c.from_residual.ensures.0 in
    record {
      reports = not_done result _ err;
      searched = not_done result _ err;
      cost = not_done result _ err;
      room = not_done result _ err;
      cheap = not_done result _ err;
      counted = not_done result _ err;
    }
