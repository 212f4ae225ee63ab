use Rattle.part_walk.proofs.Failed.{no_value}
use Rattle.view_parts.proofs.EndsOfParts.{none_some}
use Rattle.view_parts.proofs.known.noted_span.Goals as goal

pub returns-then-segments-spans : goal.returns-then-segments-spans
returns-then-segments-spans c = record { end = tt; row = λ row none. absurd (none_some row none); known = c.requires.known }

pub returns-in_err-told : goal.returns-in_err-told
returns-in_err-told c =
    let result = c.from_residual.result in
    let err = c.from_residual.ensures.0 in
    record { end = no_value result _ err; row = no_value result _ err; known = no_value result _ err }

pub returns-in_err-push : goal.returns-in_err-push
returns-in_err-push c =
    let result = c.from_residual-in_err-push.result in
    let err = c.from_residual-in_err-push.ensures.0 in
    record { end = no_value result _ err; row = no_value result _ err; known = no_value result _ err }

pub returns-clause-end : goal.returns-clause-end
returns-clause-end c = tt

pub returns-clause-row : goal.returns-clause-row
returns-clause-row c = λ row none. absurd (none_some row none)
