use Rattle.std.proofs.Common.{◌≡◌, false, refl, arith, length, rules}
use Rattle.std.specs.Prelude.{is_some}
use Rattle.replacements.specs.Decisions.{slot_of}
use Rattle.replacements.specs.Inside.{slots_in}
use Rattle.replacements.proofs.PlanEntries.{entry_set, fit_decided, is_free, long_as, none_grown}
use Rattle.replacements.proofs.plan.Plan.decide.Goals as goal

pub invariant_of-self : goal.invariant_of-self
invariant_of-self c =
    let plan = c.self.inside in
    let apart = plan.apart.items in
    let view : c.args.self.now ≡ slots_in plan.width apart plan.entries.now = search rules in
    let open_gap : is_some (slot_of c.args.self.now c.args.place) ≡ false = search rules in
    let long : length c.args.self.now ≡ length plan.entries.now = long_as plan.width apart plan.entries.now c.args.self.now view in
    fit_decided apart apart _ _ plan.entries.now c.args.place c.in-Some.entry c.self.invariant (none_grown apart) refl (c.in-Some.ensures.held apart) c.in-Some.ensures.decided (omega (arith, long, c.requires))
    (is_free plan.width apart plan.entries.now c.args.self.now c.args.place view c.self.invariant.held open_gap c.requires)

pub returns-in-Some-clause-plan : goal.returns-in-Some-clause-plan
returns-in-Some-clause-plan c =
    let plan = c.self.inside in
    let apart = plan.apart.items in
    let view : c.args.self.now ≡ slots_in plan.width apart plan.entries.now = search rules in
    let open_gap : is_some (slot_of c.args.self.now c.args.place) ≡ false = search rules in
    entry_set plan.width apart apart plan.entries.now c.args.self.now c.args.place c.in-Some.entry _ view c.self.invariant.held (none_grown apart) (c.in-Some.ensures.room plan.width apart) open_gap
