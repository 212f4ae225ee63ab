use Rattle.std.proofs.Common.{◌∙◌, ℕ, Option, List, ap}
use Rattle.replacements.specs.declared.gap_text.Decision.{Decision}
use Rattle.replacements.specs.declared.slot.Slot.{Slot}
use Rattle.replacements.specs.Decisions.{decided}
use Rattle.early_gaps.proofs.Tells.{early_made}
use Rattle.early_gaps.proofs.early.decide_early.Goals as goal

pub returns-clause-plan : goal.returns-clause-plan
returns-clause-plan c =
    let style = c.args.context.now.style.now in
    let arena = c.args.context.now.arena.now in
    let laid : List (Option Slot) = c.lay_all.new.plan in
    let last : Slot = record { decision = c.last_decision-last.result; end = 0 } in
    early_made style arena _ c.in_ok-marks.marks.now last c.args.plan.now c.keep_gaps.new.plan laid c.decide.new.self c.in_ok-marks.ensures c.keep_gaps.ensures.plan c.in_ok-lay_all.ensures.plan
    (ap (λ (d : Decision). record { decision = d; end = 0 }) c.last_decision-last.ensures)
    (c.decide.ensures.plan ∙ ap (λ (k : ℕ). decided laid k last) c.len.ensures.count)
