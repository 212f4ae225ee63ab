use Rattle.std.proofs.Common.{◌∙◌, ◌++◌, ◌∷◌, [], ℕ, List, append-nil, get_or, map, sym, ap, arith}
use Rattle.std.proofs.lemmas.List.{take_all}
use Rattle.token_arena.specs.declared.view.Segment.{Segment}
use Rattle.token_arena.specs.Segments.{ids_of, bounds_of, segment_bounds}
use Rattle.part_walk.proofs.Failed.{no_value}
use Rattle.view_parts.proofs.Laid.{first_item, more_items, segment_next, segment_some}
use Rattle.view_parts.proofs.body.push_view.Goals as goal

pub loop-segment-init : goal.loop-segment-init
loop-segment-init c =
    let seen = c.segments-segment-items in
    record {
      ascend = c.requires.ascend;
      items = sym (append-nil (ids_of (map bounds_of (c.args.done.now.items ++ c.args.last.now ∷ []))));
      behind = λ some. (let at = ap (λ (ids : List ℕ). get_or ids 0 0) (sym seen.ensures.items) ∙ first_item 0 seen.result.now seen.ensures.rule.order some in omega (arith, at, c.requires.behind));
    }

pub push_stretch-requires-clause-some : goal.push_stretch-requires-clause-some
push_stretch-requires-clause-some c = segment_some 0 c.loop-segment.segment-index c.segments-segment-items.result.now c.segments-segment-items.ensures.rule.order c.loop-segment-test.true

pub returns-in_err-push_stretch : goal.returns-in_err-push_stretch
returns-in_err-push_stretch c =
    let result = c.from_residual.result in
    let err = c.from_residual.ensures.0 in
    record { ascend = no_value result _ err; items = no_value result _ err }

pub loop-segment-preserved : goal.loop-segment-preserved
loop-segment-preserved c =
    let seen = c.segments-segment-items in
    let made = c.in_ok-push_stretch.ensures in
    record {
      ascend = made.ascend;
      items = more_items seen.result.now c.loop-segment.segment-index _ _ _ c.loop-segment-test.true c.loop-segment.invariant.items made.items;
      behind = λ below. (let after = segment_next c.loop-segment.segment-index seen.result.now seen.ensures.rule.order below in omega (arith, after, made.end));
    }

pub returns-clause-items : goal.returns-clause-items
returns-clause-items c =
    let seen = c.segments-segment-items in
    let old = ids_of (map bounds_of (c.args.done.now.items ++ c.args.last.now ∷ [])) in
    c.loop-segment.invariant.items
    ∙ (ap (λ (segments : List Segment). old ++ ids_of (map segment_bounds segments)) (take_all c.loop-segment.segment-index seen.result.now (omega (arith, c.loop-segment-test.false))) ∙ ap (λ (ids : List ℕ). old ++ ids) seen.ensures.items)
