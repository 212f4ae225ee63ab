use Rattle.std.proofs.Common.{◌∙◌, ◌+◌, ◌-◌, ◌||◌, Bool, drop, sym, ap}
use Rattle.token_arena.specs.Entries.{told_by}
use Rattle.directive_layout.specs.Laid.{has_splice}
use Rattle.directive_layout.proofs.Laid.{next_spliced}
use Rattle.directive_layout.proofs.laying.has_splice.Goals as goal

pub returns-then-get : goal.returns-then-get
returns-then-get c =
    let arena = c.args.arena.now in
    let place = c.loop-place.place in
    let next = next_spliced arena place c.args.end (told_by c.get.result) c.get.ensures c.loop-place-test.true in
    let here = ap (λ (b : Bool). b || has_splice (drop (place + 1) arena.tokens) (c.args.end - (place + 1))) c.if-get.true in
    sym (sym c.loop-place.invariant ∙ (next ∙ here))

pub loop-place-preserved : goal.loop-place-preserved
loop-place-preserved c =
    let arena = c.args.arena.now in
    let place = c.loop-place.place in
    let next = next_spliced arena place c.args.end (told_by c.get.result) c.get.ensures c.loop-place-test.true in
    let none = ap (λ (b : Bool). b || has_splice (drop (place + 1) arena.tokens) (c.args.end - (place + 1))) c.if-get.false in
    sym (next ∙ none) ∙ c.loop-place.invariant
