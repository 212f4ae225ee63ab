use Rattle.part_walk.proofs.Failed.{no_value}
use Rattle.view_parts.proofs.body.push_heads.Goals as goal

pub returns-in_err-push_stretch : goal.returns-in_err-push_stretch
returns-in_err-push_stretch c =
    let result = c.from_residual.result in
    let err = c.from_residual.ensures.0 in
    record { ascend = no_value result _ err; items = no_value result _ err; end = no_value result _ err }
