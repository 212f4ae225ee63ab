use Rattle.std.proofs.Common.{◌≡◌, rules}
use Rattle.std.proofs.lemmas.Bool.{OnFalse_at, OnFalse_from, OnTrue_at, OnTrue_from}
use Rattle.replacements.specs.Inside.{slots_in}
use Rattle.replacements.proofs.PlanEntries.{decided_between, open_between}
use Rattle.replacements.proofs.plan.Plan.are_decided.Goals as goal

pub returns-clause-yes : goal.returns-clause-yes
returns-clause-yes c =
    let plan = c.self.inside in
    let view : c.args.self.now ≡ slots_in plan.width plan.apart.items plan.entries.now = search rules in
    OnTrue_from _ _ (λ yes. decided_between plan.width plan.apart.items plan.entries.now c.args.self.now c.args.first c.args.end view c.self.invariant.held c.requires.within (OnTrue_at yes c.all_decided.ensures.yes))

pub returns-clause-no : goal.returns-clause-no
returns-clause-no c =
    let plan = c.self.inside in
    let view : c.args.self.now ≡ slots_in plan.width plan.apart.items plan.entries.now = search rules in
    OnFalse_from _ _ (λ no. open_between plan.width plan.apart.items plan.entries.now c.args.self.now c.args.first c.args.end view c.requires.within (OnFalse_at no c.all_decided.ensures.no))
