use Rattle.std.proofs.Common.{◌≤◌, sym, subst, length, replicate, arith}
use Rattle.std.proofs.lemmas.Grind.{common_steps}
use Rattle.branch_runs.specs.Anew.{no_change}
use Rattle.branch_runs.specs.Noted.{AreNoted, AreNarrow}
use Rattle.branch_runs.proofs.Differ.{all_noted, none_left}
use Rattle.branch_runs.proofs.Narrow.{all_narrow, small_more}
use Rattle.branch_runs.proofs.change.changes_of.Goals as goal

pub returns-clause-noted : goal.returns-clause-noted
returns-clause-noted c =
    let first = replicate c.args.runs no_change in
    let texts = c.args.texts.now in
    let done = none_left c.loop-text.changes first texts c.loop-text.text-index c.loop-text-test.false c.loop-text.invariant.left in
    subst (λ xs. AreNoted xs texts) (sym done) (all_noted first texts)

pub returns-clause-narrow : goal.returns-clause-narrow
returns-clause-narrow c =
    let first = replicate c.args.runs no_change in
    let texts = c.args.texts.now in
    let after : length texts ≤ c.loop-text.text-index = c.loop-text-test.false in
    let done = none_left c.loop-text.changes first texts c.loop-text.text-index after c.loop-text.invariant.left in
    subst (λ xs. AreNarrow xs texts) (sym done) (all_narrow c.args.runs texts (λ k below. c.loop-text.invariant.small k (omega (arith, below, after))))

pub loop-text-preserved : goal.loop-text-preserved
loop-text-preserved c = record {
  left = grind (arith, common_steps);
  count = grind (arith, common_steps);
  small = small_more c.args.texts.now c.loop-text.text-index c.loop-text.invariant.small c.note.ensures.fits;
}
