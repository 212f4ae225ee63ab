use Rattle.std.proofs.Common.{◌≡◌, ◌<◌, ap, arith, length, rules}
use Rattle.replacements.specs.Inside.{IsGrown, IsHeld, is_open, slots_in}
use Rattle.replacements.proofs.PlanEntries.{apart_grown, apart_held, apart_slot, entry_set, fit_decided, is_free, long_as, some_free}
use Rattle.replacements.proofs.plan.Plan.decide_apart.Goals as goal

pub set_apart-entry-requires-clause-room : goal.set_apart-entry-requires-clause-room
set_apart-entry-requires-clause-room c =
    let plan = c.self.inside in
    let view : c.args.self.now ≡ slots_in plan.width plan.apart.items plan.entries.now = search rules in
    let few : length plan.apart.items < length plan.entries.now = some_free plan.width plan.apart.items plan.entries.now c.args.self.now c.args.place _ view c.self.invariant c.requires.open_gap c.requires.within in
    omega (arith, few, c.self.invariant.room)

pub invariant_of-self : goal.invariant_of-self
invariant_of-self c =
    let plan = c.self.inside in
    let after = c.set_apart-entry.new.apart.items in
    let entry = c.set_apart-entry.result in
    let made = c.set_apart-entry.ensures in
    let view : c.args.self.now ≡ slots_in plan.width plan.apart.items plan.entries.now = search rules in
    let long : length c.args.self.now ≡ length plan.entries.now = long_as plan.width plan.apart.items plan.entries.now c.args.self.now view in
    let grown : IsGrown plan.apart.items after = apart_grown plan.apart.items after c.args.slot made.apart in
    let held : IsHeld after entry = apart_held plan.apart.items after c.args.slot entry made.apart made.entry in
    fit_decided plan.apart.items after _ _ plan.entries.now c.args.place entry c.self.invariant grown made.room held (ap is_open made.entry) (omega (arith, long, c.requires.within))
    (is_free plan.width plan.apart.items plan.entries.now c.args.self.now c.args.place view c.self.invariant.held c.requires.open_gap c.requires.within)

pub returns-clause-plan : goal.returns-clause-plan
returns-clause-plan c =
    let plan = c.self.inside in
    let after = c.set_apart-entry.new.apart.items in
    let entry = c.set_apart-entry.result in
    let made = c.set_apart-entry.ensures in
    let view : c.args.self.now ≡ slots_in plan.width plan.apart.items plan.entries.now = search rules in
    entry_set plan.width plan.apart.items after plan.entries.now c.args.self.now c.args.place entry c.args.slot view c.self.invariant.held (apart_grown plan.apart.items after c.args.slot made.apart)
    (apart_slot plan.width plan.apart.items after c.args.slot entry made.apart made.entry) c.requires.open_gap
