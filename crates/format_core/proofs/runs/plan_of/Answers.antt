use Rattle.std.proofs.Common.{◌∙◌, ◌+◌, ◌++◌, List, Option, None, length, ap, arith}
use Rattle.std.proofs.lemmas.List.{length-replicate}
use Rattle.replacements.specs.declared.slot.Slot.{Slot}
use Rattle.branch_runs.specs.declared.mark.Mark.{Mark}
use Rattle.branch_runs.specs.Reading.{read}
use Rattle.branch_runs.specs.Runs.{need}
use Rattle.run_layout.specs.Reports.{reports_of}
use Rattle.run_layout.specs.declared.report.Report.{Report}
use Rattle.format_core.proofs.Planned.{planned_by}
use Rattle.part_walk.proofs.Failed.{no_value}
use Rattle.format_core.proofs.runs.plan_of.Goals as goal

pub build-requires : goal.build-requires
build-requires c = record { sections = c.requires.sections; cut = c.requires.cut }

pub decide_early-requires : goal.decide_early-requires
decide_early-requires c = record {
  range = c.requires.range;
  fits = c.requires.fits;
  all = c.in_ok-item_classes.ensures;
  sections = c.requires.sections;
  tree = record { marks = c.in_ok-tree.ensures.marks; end = c.in_ok-tree.ensures.end };
  whole = ap (λ (plan : List (Option Slot)). length plan) c.in_ok-plan.ensures ∙ length-replicate (length c.args.arena.now.tokens + 1) None;
}

pub lay_out_runs-requires : goal.lay_out_runs-requires
lay_out_runs-requires c = record {
  ready = record { range = c.requires.range; budget = c.requires.budget; all = c.in_ok-item_classes.ensures };
  tree = record { marks = c.in_ok-tree.ensures.marks; end = c.in_ok-tree.ensures.end };
  made = record {
    whole = c.in_ok-decide_early.ensures.len ∙ (ap (λ (plan : List (Option Slot)). length plan) c.in_ok-plan.ensures ∙ length-replicate (length c.args.arena.now.tokens + 1) None);
    cheap = omega (arith, c.new-tally.ensures.searched, c.new-tally.ensures.cost);
    counted = c.new-tally.ensures.counted c.args.arena.now;
  };
  none = c.new-tally.ensures.searched;
}

pub returns-clause-len : goal.returns-clause-len
returns-clause-len c = c.in_ok-lay_out_runs.ensures.made.whole

pub returns-clause-plan : goal.returns-clause-plan
returns-clause-plan c =
    let style = c.args.style.now in
    let arena = c.args.arena.now in
    let told = c.in_ok-lay_out_runs.ensures.told in
    let begun = c.new-tally.ensures in
    record {
      done = told.done;
      planned = planned_by style _ c.args.budget arena _ c.decide_early.new.plan c.lay_out_runs.new.made.plan told.done c.in_ok-plan.ensures c.in_ok-decide_early.ensures.plan told.runs;
      runs = c.runs.ensures.need ∙ ap (λ (tree : List Mark). need (read tree)) c.in_ok-tree.ensures.marks;
      reports = told.told.reports ∙ ap (λ (xs : List Report). xs ++ reports_of told.done) begun.reports;
      searched = omega (arith, told.told.searched, begun.searched);
      cost = omega (arith, told.told.cost, begun.cost);
    }

pub returns-in_err-tree : goal.returns-in_err-tree
returns-in_err-tree c =
    let result = c.from_residual-in_err-tree.result in
    let err = c.from_residual-in_err-tree.ensures.0 in
    record { plan = no_value result _ err; len = no_value result _ err }

pub returns-in_err-item_classes : goal.returns-in_err-item_classes
returns-in_err-item_classes c =
    let result = c.from_residual-in_err-item_classes.result in
    let err = c.from_residual-in_err-item_classes.ensures.0 in
    record { plan = no_value result _ err; len = no_value result _ err }

pub returns-in_err-plan : goal.returns-in_err-plan
returns-in_err-plan c =
    let result = c.from_residual.result in
    let err = c.from_residual.ensures.0 in
    record { plan = no_value result _ err; len = no_value result _ err }

pub returns-in_err-decide_early : goal.returns-in_err-decide_early
returns-in_err-decide_early c =
    let result = c.from_residual-in_err-decide_early.result in
    let err = c.from_residual-in_err-decide_early.ensures.0 in
    record { plan = no_value result _ err; len = no_value result _ err }

pub returns-in_err-lay_out_runs : goal.returns-in_err-lay_out_runs
returns-in_err-lay_out_runs c =
    let result = c.from_residual-in_err-lay_out_runs.result in
    let err = c.from_residual-in_err-lay_out_runs.ensures.0 in
    record { plan = no_value result _ err; len = no_value result _ err }
