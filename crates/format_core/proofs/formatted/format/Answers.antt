use Rattle.std.proofs.Common.{◌∙◌, List, length, refl, sym, ap}
use Rattle.run_layout.specs.declared.report.Report.{Report}
use Rattle.format_core.proofs.Planned.{laid_is}
use Rattle.format_core.proofs.SoundPlan.{planned_texts_are_twins, twin_along}
use Rattle.format_core.proofs.Told.{told_is}
use Rattle.format_core.specs.LineEnds.{ends_by}
use Rattle.format_core.specs.TextOf.{text_of}
use Rattle.part_walk.proofs.Failed.{no_value}
use Rattle.format_core.proofs.formatted.format.Goals as goal

pub returns-clause-formats : goal.returns-clause-formats
unfolding text_of
returns-clause-formats c =
    let arena = c.in_ok-arena.arena in
    let is = c.in_ok-arena.ensures.arena in
    let made = c.in_ok-made.ensures.plan in
    record {
      formats = record {
        contents = arena;
        text = is.text_is;
        dialect = is.dialect_is;
        holds = is.holds;
        plan = c.in_ok-made.made.plan;
        done = made.done;
        planned = made.planned;
        written_so = laid_is c.args.style.now arena c.ends_by-crlf.result c.in_ok-sections.sections.now c.in_ok-made.made.plan c.args.text.now _ refl
            c.ends_by-crlf.ensures c.in_ok-sections.ensures.sections is.text_is;
        reported = c.into_bump_slice-reports.ensures ∙ made.reports;
      };
      counted = record {
        runs = made.runs;
        searched = made.searched;
        over = ap (λ (xs : List Report). length xs) (c.into_bump_slice-reports.ensures ∙ made.reports);
        cost = made.cost;
      };
    }

pub returns-clause-twins : goal.returns-clause-twins
unfolding text_of
returns-clause-twins c =
    let style = c.args.style.now in
    let arena = c.in_ok-arena.arena in
    let is = c.in_ok-arena.ensures.arena in
    let made = c.in_ok-made.ensures.plan in
    let crlf = ends_by style.line_ending arena.text in
    let laid = laid_is style arena c.ends_by-crlf.result c.in_ok-sections.sections.now c.in_ok-made.made.plan c.args.text.now _ refl c.ends_by-crlf.ensures
    c.in_ok-sections.ensures.sections is.text_is in
    twin_along _ _ _ _ _ _ is.dialect_is is.text_is (sym laid) (planned_texts_are_twins style _ c.args.job.now.budget crlf arena c.in_ok-made.made.plan made.done is.holds made.planned)

pub returns-clause-changed : goal.returns-clause-changed
returns-clause-changed c = told_is c.is_same-changed.result _ c.args.text.now c.is_same-changed.ensures

pub returns-in_err-arena-clause-formats : goal.returns-in_err-arena-clause-formats
returns-in_err-arena-clause-formats c = no_value c.from_residual.result _ c.from_residual.ensures.0

pub returns-in_err-arena-clause-twins : goal.returns-in_err-arena-clause-twins
returns-in_err-arena-clause-twins c = no_value c.from_residual.result _ c.from_residual.ensures.0

pub returns-in_err-arena-clause-changed : goal.returns-in_err-arena-clause-changed
returns-in_err-arena-clause-changed c = no_value c.from_residual.result _ c.from_residual.ensures.0

pub returns-in_err-arena-clause-fits : goal.returns-in_err-arena-clause-fits
returns-in_err-arena-clause-fits c = no_value c.from_residual.result _ c.from_residual.ensures.0

pub returns-in_err-sections-clause-formats : goal.returns-in_err-sections-clause-formats
returns-in_err-sections-clause-formats c = no_value c.from_residual-in_err-sections.result _ c.from_residual-in_err-sections.ensures.0

pub returns-in_err-sections-clause-twins : goal.returns-in_err-sections-clause-twins
returns-in_err-sections-clause-twins c = no_value c.from_residual-in_err-sections.result _ c.from_residual-in_err-sections.ensures.0

pub returns-in_err-sections-clause-changed : goal.returns-in_err-sections-clause-changed
returns-in_err-sections-clause-changed c = no_value c.from_residual-in_err-sections.result _ c.from_residual-in_err-sections.ensures.0

pub returns-in_err-sections-clause-fits : goal.returns-in_err-sections-clause-fits
returns-in_err-sections-clause-fits c = no_value c.from_residual-in_err-sections.result _ c.from_residual-in_err-sections.ensures.0

pub returns-in_err-made-clause-formats : goal.returns-in_err-made-clause-formats
returns-in_err-made-clause-formats c = no_value c.from_residual-in_err-made.result _ c.from_residual-in_err-made.ensures.0

pub returns-in_err-made-clause-twins : goal.returns-in_err-made-clause-twins
returns-in_err-made-clause-twins c = no_value c.from_residual-in_err-made.result _ c.from_residual-in_err-made.ensures.0

pub returns-in_err-made-clause-changed : goal.returns-in_err-made-clause-changed
returns-in_err-made-clause-changed c = no_value c.from_residual-in_err-made.result _ c.from_residual-in_err-made.ensures.0

pub returns-in_err-made-clause-fits : goal.returns-in_err-made-clause-fits
returns-in_err-made-clause-fits c = no_value c.from_residual-in_err-made.result _ c.from_residual-in_err-made.ensures.0

pub plan_of-requires-clause-range : goal.plan_of-requires-clause-range
plan_of-requires-clause-range c = c.requires.range

pub plan_of-requires-clause-budget : goal.plan_of-requires-clause-budget
plan_of-requires-clause-budget c = c.requires.budget

pub plan_of-requires-clause-sections : goal.plan_of-requires-clause-sections
plan_of-requires-clause-sections c = c.in_ok-sections.ensures.sections

pub plan_of-requires-clause-cut : goal.plan_of-requires-clause-cut
plan_of-requires-clause-cut c = c.in_ok-sections.ensures.cut

pub returns-clause-fits : goal.returns-clause-fits
returns-clause-fits c = c.in_ok-arena.ensures.arena.fits

pub returns-clause-fault : goal.returns-clause-fault
returns-clause-fault c = tt
