use Rattle.std.proofs.Common.{arith}
use Rattle.unwrapped_lines.specs.Inside.{is_usual}
use Rattle.token_classes.proofs.FirstTold.{first_few, first_pass}
use Rattle.unwrapped_lines.proofs.lanes.usual_len.Goals as goal

pub returns-in-Some-clause-within : goal.returns-in-Some-clause-within
returns-in-Some-clause-within c =
    let cases = c.in-Some.ensures.cases in
    omega (arith, first_few is_usual c.args.classes.now _ c.usual_in_sixteen.result cases.0 (omega (arith, cases.2)) c.usual_in_sixteen.ensures, cases.2)

pub returns-in-Some-clause-usual : goal.returns-in-Some-clause-usual
returns-in-Some-clause-usual c =
    let cases = c.in-Some.ensures.cases in
    first_pass is_usual c.args.classes.now _ c.usual_in_sixteen.result cases.0 (omega (arith, cases.2)) c.usual_in_sixteen.ensures
