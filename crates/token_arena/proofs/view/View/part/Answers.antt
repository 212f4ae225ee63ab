use Rattle.std.proofs.Common.{◌≡◌, ◌∙◌, ◌+◌, ◌++◌, ℕ, List, [], ◌∷◌, map, drop, get_or, sym, ap, subst, arith}
use Rattle.std.proofs.lemmas.List.{map-append}
use Rattle.std.specs.Prelude.{slice_range, IfOk}
use Rattle.token_arena.specs.declared.view.Stretch.{Stretch}
use Rattle.token_arena.specs.Segments.{ids_of, AscendFrom, bounds_of, no_segment}
use Rattle.token_arena.proofs.SegmentLemmas.{well}
use Rattle.token_arena.proofs.Parts.{between_of, bounds_between, between_ascend, items_of_part, before_first, goes_on, none_left, none_more, all_taken, taken}
use Rattle.token_arena.proofs.view.View.part.Goals.{else-loop-number-test, then-loop-number-test+then-end-segment}
use Rattle.token_arena.proofs.view.View.part.Goals as goal

pub loop-number-init : goal.loop-number-init
loop-number-init c =
    ap (λ (made : List Stretch). map bounds_of made ++ between_of c.args.first c.args.end (drop c.segment_at-number.result c.segments-segments.result.now)) c.new-stretches.ensures.items
    ∙ before_first c.segments-segments.result.now 0 c.segment_at-number.result c.args.first c.args.end c.segments-segments.ensures.rule.counts c.segment_at-number.ensures.within c.segment_at-number.ensures.has

pub between-requires-clause-some : goal.between-requires-clause-some
between-requires-clause-some c =
    let rule = c.segments-segments.ensures.rule in
    (well c.segments-segments.result.now 0 0 c.loop-number.number (omega arith) rule.order rule.counts c.loop-number-test.true).some

pub between-requires-clause-room : goal.between-requires-clause-room
between-requires-clause-room c =
    let rule = c.segments-segments.ensures.rule in
    (well c.segments-segments.result.now 0 0 c.loop-number.number (omega arith) rule.order rule.counts c.loop-number-test.true).room

pub between-requires-clause-early : goal.between-requires-clause-early
between-requires-clause-early c =
    goes_on c.segments-segments.result.now 0 c.segment_at-number.result c.loop-number.number c.args.first c.segments-segments.ensures.rule.counts c.loop-number.auto.number c.loop-number-test.true c.segment_at-number.ensures.has

pub loop-number-preserved : goal.loop-number-preserved
loop-number-preserved c =
    let segments = c.segments-segments.result.now in
    let number = c.loop-number.number in
    let first = c.args.first in
    let end = c.args.end in
    let made = c.loop-number.stretches.items in
    let early = goes_on segments 0 c.segment_at-number.result number first c.segments-segments.ensures.rule.counts c.loop-number.auto.number c.loop-number-test.true c.segment_at-number.ensures.has in
    let one : map bounds_of c.push.new.self.items ≡ map bounds_of made ++ bounds_between first end (get_or segments number no_segment) ∷ [] =
    ap (λ (xs : List Stretch). map bounds_of xs) c.in_ok-push.ensures.items
    ∙ (map-append bounds_of made (c.between.result ∷ []) ∙ ap (λ (s : Stretch). map bounds_of made ++ bounds_of s ∷ []) c.between.ensures) in
    ap (λ (xs : List (ℕ × ℕ)). xs ++ between_of first end (drop (number + 1) segments)) one
    ∙ (sym (taken first end segments number (map bounds_of made) c.loop-number-test.true early (omega (arith, c.if-end-segment.false))) ∙ c.loop-number.invariant)

pub of_stretches-requires : goal.of_stretches-requires
of_stretches-requires c =
    let segments = c.segments-segments.result.now in
    let rule = c.segments-segments.ensures.rule in
    let first = c.args.first in
    let end = c.args.end in
    let none : between_of first end (drop c.loop-number.number segments) ≡ [] = elim c.loop-number-test.branch [
      | else-loop-number-test w ↦ none_more segments c.loop-number.number first end (omega (arith, w.loop-number-test.false))
      | then-loop-number-test+then-end-segment w ↦
          none_left segments c.segment_at-number.result c.loop-number.number first end rule.counts c.segment_at-number.ensures.has c.loop-number.auto.number w.loop-number-test.true w.if-end-segment.true
    ] in
    let all = all_taken (map bounds_of c.loop-number.stretches.items) (between_of first end (drop c.loop-number.number segments)) (between_of first end segments) none c.loop-number.invariant in
    subst (λ (xs : List (ℕ × ℕ)). AscendFrom 0 xs) (sym (ap (λ (xs : List Stretch). map bounds_of xs) c.deref.ensures.value ∙ all)) (between_ascend first end 0 0 segments c.requires.some rule.order)

pub returns-clause-items : goal.returns-clause-items
returns-clause-items c =
    let segments = c.segments-segments.result.now in
    let rule = c.segments-segments.ensures.rule in
    let first = c.args.first in
    let end = c.args.end in
    let none : between_of first end (drop c.loop-number.number segments) ≡ [] = elim c.loop-number-test.branch [
      | else-loop-number-test w ↦ none_more segments c.loop-number.number first end (omega (arith, w.loop-number-test.false))
      | then-loop-number-test+then-end-segment w ↦
          none_left segments c.segment_at-number.result c.loop-number.number first end rule.counts c.segment_at-number.ensures.has c.loop-number.auto.number w.loop-number-test.true w.if-end-segment.true
    ] in
    let all = all_taken (map bounds_of c.loop-number.stretches.items) (between_of first end (drop c.loop-number.number segments)) (between_of first end segments) none c.loop-number.invariant in
    let items : ids_of (map bounds_of c.deref.result.now) ≡ slice_range c.args.self.now first end =
    ap (λ (xs : List (ℕ × ℕ)). ids_of xs) (ap (λ (xs : List Stretch). map bounds_of xs) c.deref.ensures.value ∙ all)
    ∙ (items_of_part first end segments c.requires.some rule.counts ∙ ap (λ (xs : List ℕ). slice_range xs first end) c.segments-segments.ensures.items) in
    subst (λ (xs : List ℕ). IfOk c.of_stretches.result (λ view. view ≡ xs)) items c.of_stretches.ensures.items
