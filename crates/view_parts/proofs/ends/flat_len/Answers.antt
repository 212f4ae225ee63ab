use Rattle.std.proofs.Common.{arith}
use Rattle.view_parts.specs.Lanes.{is_flat}
use Rattle.token_classes.proofs.FirstTold.{first_few, first_pass}
use Rattle.view_parts.proofs.ends.flat_len.Goals as goal

pub returns-in-Some-clause-within : goal.returns-in-Some-clause-within
returns-in-Some-clause-within c =
    let cases = c.in-Some.ensures.cases in
    omega (arith, first_few is_flat c.args.classes.now _ c.flat_count.result cases.0 (omega (arith, cases.2)) c.flat_count.ensures, cases.2)

pub returns-in-Some-clause-flat : goal.returns-in-Some-clause-flat
returns-in-Some-clause-flat c =
    let cases = c.in-Some.ensures.cases in
    first_pass is_flat c.args.classes.now _ c.flat_count.result cases.0 (omega (arith, cases.2)) c.flat_count.ensures
