use Rattle.std.proofs.Common.{◌≡◌, Option, ap, rules, subst, sym}
use Rattle.std.specs.Prelude.{IfSome}
use Rattle.replacements.specs.Inside.{slots_in}
use Rattle.replacements.specs.Written.{decision_of}
use Rattle.replacements.specs.declared.gap_text.Decision.{Decision}
use Rattle.replacements.specs.declared.gap_text.Decision.TheVariants.{Lines}
use Rattle.replacements.specs.declared.slot.Slot.{Slot}
use Rattle.replacements.proofs.PlanEntries.{slot_is}
use Rattle.replacements.proofs.plan.Plan.lines.Goals as goal

pub returns : goal.returns
returns c =
    let plan = c.self.inside in
    let view : c.args.self.now ≡ slots_in plan.width plan.apart.items plan.entries.now = search rules in
    subst (λ (decision : Decision). IfSome c.lines.result (λ gap. decision ≡ Lines gap.count gap.column gap.level)) (ap (λ (slot : Option Slot). decision_of slot) (sym (slot_is plan.width plan.apart.items plan.entries.now c.args.self.now c.args.place view c.requires)))
    (c.lines.ensures plan.width plan.apart.items)
