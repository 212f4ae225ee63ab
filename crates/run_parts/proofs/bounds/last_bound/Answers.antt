use Rattle.std.proofs.Common.{◌≡◌, ◌∙◌, ◌-◌, List, length, take, get_or, sym, ap, subst, arith}
use Rattle.std.proofs.lemmas.List.{get_or_default}
use Rattle.part_walk.specs.Places.{place_in}
use Rattle.run_parts.specs.declared.bounds.KnownBound.{KnownBound}
use Rattle.run_parts.specs.Bounds.{AreBounds, IsBound, no_bound}
use Rattle.run_parts.proofs.FirstParts.{bounds_left, starts_bound}
use Rattle.run_parts.proofs.bounds.last_bound.Goals as goal

pub returns-then-bound-first-clause-bounds : goal.returns-then-bound-first-clause-bounds
returns-then-bound-first-clause-bounds c = λ arena view told are.
    let bounds = c.args.bounds.now.items in
    let count = c.loop-count.count in
    let bound = c.index-bound.result.now in
    let v = c.loop-count.invariant in
    let is : c.truncate.new.self.items ≡ take count bounds = c.truncate.ensures.items ∙ ap (λ (items : List KnownBound). take count items) v.same in
    let at : get_or bounds (count - 1) no_bound ≡ bound =
    ap (λ (items : List KnownBound). get_or items (count - 1) no_bound) (sym v.same) ∙ (get_or_default c.loop-count.bounds.items (count - 1) no_bound bound (omega (arith, c.loop-count-test.true, v.count)) ∙ sym c.index-bound.ensures) in
    subst (λ (items : List KnownBound). AreBounds arena view items bound.told) (sym is)
    (subst (λ (b : KnownBound). AreBounds arena view (take count bounds) b.told) at (bounds_left arena view bounds told count (omega (arith, v.count, ap (λ (items : List KnownBound). length items) v.same)) are))

pub returns-then-bound-first-clause-last : goal.returns-then-bound-first-clause-last
returns-then-bound-first-clause-last c = λ arena view told are.
    let bounds = c.args.bounds.now.items in
    let count = c.loop-count.count in
    let bound = c.index-bound.result.now in
    let v = c.loop-count.invariant in
    let at : get_or bounds (count - 1) no_bound ≡ bound =
    ap (λ (items : List KnownBound). get_or items (count - 1) no_bound) (sym v.same) ∙ (get_or_default c.loop-count.bounds.items (count - 1) no_bound bound (omega (arith, c.loop-count-test.true, v.count)) ∙ sym c.index-bound.ensures) in
    subst (λ (b : KnownBound). IsBound arena view b.item b.told (place_in b.inside)) at (are.each (count - 1) (omega (arith, c.loop-count-test.true, v.count, ap (λ (items : List KnownBound). length items) v.same)))

pub returns-clause-last : goal.returns-clause-last
returns-clause-last c = λ arena view told are. starts_bound arena view
