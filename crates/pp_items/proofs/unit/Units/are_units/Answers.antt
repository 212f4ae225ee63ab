use Rattle.std.proofs.Common.{◌∙◌, ◌<◌, length, sym, ap, subst}
use Rattle.pp_model.specs.Finding.{are_units}
use Rattle.pp_items.specs.Units.{passes, unit_len}
use Rattle.pp_items.proofs.Sequences.{units_step, units_short, units_none, units_have, some_of}
use Rattle.pp_items.proofs.unit.Units.are_units.Goals as goal

pub returns-then-rest-len : goal.returns-then-rest-len
returns-then-rest-len c =
    let k = c.args.self in
    let some = some_of c.loop-rest.rest.now c.loop-rest-test.ensures in
    sym (units_short (passes k) (unit_len k) c.loop-rest.rest.now (units_have k) some (subst (λ n. length c.loop-rest.rest.now < n) c.unit_len-len.ensures.len c.if-rest-len.true)) ∙ c.loop-rest.invariant

pub returns-then-not-is_unit : goal.returns-then-not-is_unit
returns-then-not-is_unit c =
    let k = c.args.self in
    let some = some_of c.loop-rest.rest.now c.loop-rest-test.ensures in
    sym (units_none (passes k) (unit_len k) c.loop-rest.rest.now c.unit_len-len.result (units_have k) some c.unit_len-len.ensures.len (ap (passes k) (sym c.split_at.ensures.front) ∙ (sym c.is_unit.ensures ∙ c.if-not-is_unit.true))) ∙ c.loop-rest.invariant

pub loop-rest-preserved : goal.loop-rest-preserved
loop-rest-preserved c =
    let k = c.args.self in
    let some = some_of c.loop-rest.rest.now c.loop-rest-test.ensures in
    ap (are_units (passes k)) c.split_at.ensures.back
    ∙ (units_step (passes k) (unit_len k) c.loop-rest.rest.now c.unit_len-len.result (units_have k) some c.unit_len-len.ensures.len (ap (passes k) (sym c.split_at.ensures.front) ∙ (sym c.is_unit.ensures ∙ c.if-not-is_unit.false)) ∙ c.loop-rest.invariant)
