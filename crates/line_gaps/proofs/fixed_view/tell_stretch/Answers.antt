use Rattle.std.proofs.Common.{◌≡◌, ◌∙◌, ◌+◌, ap, length, List, Option, arith}
use Rattle.line_tokens.specs.declared.Fixed.{Fixed}
use Rattle.replacements.specs.Decisions.{slot_of}
use Rattle.line_gaps.specs.Fixed.{fixed_of_id}
use Rattle.line_gaps.proofs.FixedGaps.{length_told}
use Rattle.line_gaps.proofs.Inside.{open_told}
use Rattle.line_gaps.proofs.OpenViews.{told_decided, told_still}
use Rattle.line_gaps.proofs.fixed_view.tell_stretch.Goals as goal
use Rattle.line_gaps.proofs.fixed_view.tell_stretch.Goals.{then-is_decided, else-is_decided}

pub bounds-fixed-place : goal.bounds-fixed-place
bounds-fixed-place c =
    let len : length c.loop-offset.fixed ≡ length c.args.view.now =
    ap (λ (xs : List (Option Fixed)). length xs) c.loop-offset.invariant.told ∙ length_told (fixed_of_id c.args.arena.now c.args.plan.now) c.args.view.now (c.args.place + c.loop-offset.offset) in
    omega (arith, len, c.loop-offset-test.true, c.requires.within)

pub loop-offset-preserved : goal.loop-offset-preserved
loop-offset-preserved c =
    let arena = c.args.arena.now in
    let plan = c.args.plan.now in
    let ids = c.args.view.now in
    let k = c.loop-offset.offset in
    let id = c.args.stretch.first + k in
    record {
      within = omega (arith, c.loop-offset-test.true);
      told = elim c.if-is_decided.branch [
        | then-is_decided w ↦ w.fixed-is ∙ told_decided (fixed_of_id arena plan) ids c.args.place k c.args.stretch w.fixed_of.result c.loop-offset.fixed c.requires.are c.loop-offset-test.true c.requires.within w.fixed_of.ensures c.loop-offset.invariant.told
        | else-is_decided w ↦ w.fixed-is ∙ told_still arena plan ids c.args.place k c.args.stretch c.loop-offset.fixed c.requires.are c.loop-offset-test.true c.requires.within (open_told (slot_of plan id) c.is_decided.result c.is_decided.ensures w.if-is_decided.false) c.loop-offset.invariant.told
      ];
    }
