use Rattle.std.proofs.Common.{false, arith}
use Rattle.part_walk.specs.declared.walk.Around.TheVariants.{Group}
use Rattle.view_parts.specs.Quiet.{is_quiet}
use Rattle.token_classes.proofs.FirstTold.{first_few, first_pass}
use Rattle.view_parts.proofs.groups.quiet_len.Goals as goal

pub returns-in-Some-clause-within : goal.returns-in-Some-clause-within
returns-in-Some-clause-within c =
    let cases = c.in-Some.ensures.cases in
    omega (arith, first_few (is_quiet Group false) c.args.classes.now _ c.quiet_in_group.result cases.0 (omega (arith, cases.2)) c.quiet_in_group.ensures, cases.2)

pub returns-in-Some-clause-quiet : goal.returns-in-Some-clause-quiet
returns-in-Some-clause-quiet c =
    let cases = c.in-Some.ensures.cases in
    first_pass (is_quiet Group false) c.args.classes.now _ c.quiet_in_group.result cases.0 (omega (arith, cases.2)) c.quiet_in_group.ensures
