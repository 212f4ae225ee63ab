use Rattle.std.proofs.Common.{◌≡◌, ◌∙◌, ◌-◌, ◌++◌, ◌∷◌, [], List, map, refl, sym, ap, subst, arith}
use Rattle.std.specs.List.{range_with_len}
use Rattle.token_arena.specs.declared.view.Stretch.{Stretch}
use Rattle.token_arena.specs.Segments.{ids_of, AscendFrom, bounds_of}
use Rattle.part_walk.proofs.Failed.{no_value}
use Rattle.view_parts.proofs.Laid.{added_ascend, added_items, last_some, longer_ascend, longer_items}
use Rattle.view_parts.proofs.body.push_stretch.Goals as goal

pub returns-then-last-first-clause-ascend : goal.returns-then-last-first-clause-ascend
returns-then-last-first-clause-ascend c = longer_ascend 0 c.args.done.now.items c.args.last.now _ refl (omega (arith, c.if-last-first.true, c.requires.some)) c.requires.ascend

pub returns-then-last-first-clause-items : goal.returns-then-last-first-clause-items
returns-then-last-first-clause-items c =
    let last = c.args.last.now in
    let at : last.end ≡ c.args.first = omega (arith, c.if-last-first.true) in
    longer_items c.args.done.now.items last _ refl (last_some 0 c.args.done.now.items last c.requires.ascend) (omega (arith, at, c.requires.some))
    ∙ ap (λ n. ids_of (map bounds_of (c.args.done.now.items ++ last ∷ [])) ++ range_with_len n (c.args.end - n)) at

pub returns-in_err-push : goal.returns-in_err-push
returns-in_err-push c =
    let result = c.from_residual.result in
    let err = c.from_residual.ensures.0 in
    record { ascend = no_value result _ err; items = no_value result _ err; end = no_value result _ err }

pub returns-in_ok-push-clause-ascend : goal.returns-in_ok-push-clause-ascend
returns-in_ok-push-clause-ascend c =
    let made : Stretch = record { first = c.args.first; end = c.args.end } in
    subst (λ (stretches : List Stretch). AscendFrom 0 (map bounds_of (stretches ++ made ∷ []))) (sym c.in_ok-push.ensures.items)
    (added_ascend 0 c.args.done.now.items c.args.last.now made (omega (arith, c.if-last-first.false, c.requires.behind)) c.requires.some c.requires.ascend)

pub returns-in_ok-push-clause-items : goal.returns-in_ok-push-clause-items
returns-in_ok-push-clause-items c =
    let made : Stretch = record { first = c.args.first; end = c.args.end } in
    ap (λ (stretches : List Stretch). ids_of (map bounds_of (stretches ++ made ∷ []))) c.in_ok-push.ensures.items ∙ added_items c.args.done.now.items c.args.last.now made
