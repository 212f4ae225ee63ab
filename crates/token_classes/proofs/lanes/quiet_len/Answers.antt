use Rattle.std.proofs.Common.{arith}
use Rattle.token_classes.specs.Lanes.{is_quiet}
use Rattle.token_classes.proofs.FirstTold.{first_few, first_pass}
use Rattle.token_classes.proofs.lanes.quiet_len.Goals as goal

pub returns-in-Some-clause-within : goal.returns-in-Some-clause-within
returns-in-Some-clause-within c =
    let cases = c.in-Some.ensures.cases in
    omega (arith, first_few is_quiet c.args.classes.now _ c.quiet_in_sixteen.result cases.0 (omega (arith, cases.2)) c.quiet_in_sixteen.ensures, cases.2)

pub returns-in-Some-clause-quiet : goal.returns-in-Some-clause-quiet
returns-in-Some-clause-quiet c =
    let cases = c.in-Some.ensures.cases in
    first_pass is_quiet c.args.classes.now _ c.quiet_in_sixteen.result cases.0 (omega (arith, cases.2)) c.quiet_in_sixteen.ensures
