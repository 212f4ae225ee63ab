use Rattle.std.proofs.Common.{◌≡◌, ◌∙◌, ◌-◌, ◌++◌, ◌∷◌, [], ℕ, Option, List, length, map, take, drop, get_or, sym, ap, subst, arith}
use Rattle.token_arena.specs.declared.view.Stretch.{Stretch}
use Rattle.std.proofs.lemmas.Result.{IfOk-weaker}
use Rattle.token_arena.specs.Segments.{ids_of, AscendFrom, bounds_of}
use Rattle.part_walk.specs.declared.bodies.BodyPlace.{BodyPlace}
use Rattle.view_parts.specs.Parts.{head_items, items_of_place, laid_items, opened_items}
use Rattle.part_walk.specs.Places.{place_in, place_of}
use Rattle.part_walk.proofs.Failed.{no_value}
use Rattle.view_parts.proofs.Laid.{first_of, laid_so, no_head, opened_none, opened_one, outermost, stands_so}
use Rattle.view_parts.proofs.body.laid_view.Goals.{in-Some-opened+in_ok-push_stretch, in_default-opened}
use Rattle.view_parts.proofs.body.laid_view.Goals as goal

pub returns-in_err-own : goal.returns-in_err-own
returns-in_err-own c = record { items = no_value c.from_residual.result _ c.from_residual.ensures.0; increase = no_value c.from_residual.result _ c.from_residual.ensures.0 }

pub returns-in_err-push_heads : goal.returns-in_err-push_heads
returns-in_err-push_heads c = record { items = no_value c.from_residual-in_err-push_heads.result _ c.from_residual-in_err-push_heads.ensures.0; increase = no_value c.from_residual-in_err-push_heads.result _ c.from_residual-in_err-push_heads.ensures.0 }

pub returns-in_err-push_stretch : goal.returns-in_err-push_stretch
returns-in_err-push_stretch c = record { items = no_value c.from_residual-in_err-push_stretch.result _ c.from_residual-in_err-push_stretch.ensures.0; increase = no_value c.from_residual-in_err-push_stretch.result _ c.from_residual-in_err-push_stretch.ensures.0 }

pub returns-in_err-push_stretch-2 : goal.returns-in_err-push_stretch-2
returns-in_err-push_stretch-2 c = record { items = no_value c.from_residual-in_err-push_stretch-2.result _ c.from_residual-in_err-push_stretch-2.ensures.0; increase = no_value c.from_residual-in_err-push_stretch-2.result _ c.from_residual-in_err-push_stretch-2.ensures.0 }

pub returns-in_err-push_view : goal.returns-in_err-push_view
returns-in_err-push_view c = record { items = no_value c.from_residual-in_err-push_view.result _ c.from_residual-in_err-push_view.ensures.0; increase = no_value c.from_residual-in_err-push_view.result _ c.from_residual-in_err-push_view.ensures.0 }

pub returns-in_err-push : goal.returns-in_err-push
returns-in_err-push c = record { items = no_value c.from_residual-in_err-push.result _ c.from_residual-in_err-push.ensures.0; increase = no_value c.from_residual-in_err-push.result _ c.from_residual-in_err-push.ensures.0 }

pub prove-unreachable-requires : goal.prove-unreachable-requires
prove-unreachable-requires c =
    let stands = stands_so c.args.begins c.in-Some.place (get_or c.args.view.now c.args.first 0) c.in-Some.is c.requires.begins in
    omega (arith, stands.before, c.at-next.ensures 0, c.if-prove.true)

pub bounds-place-0 : goal.bounds-place-0
bounds-place-0 c =
    let stands = stands_so c.args.begins c.in-Some.place (get_or c.args.view.now c.args.first 0) c.in-Some.is c.requires.begins in
    omega (arith, stands.some)

pub slice_bounds-push_heads-count : goal.slice_bounds-push_heads-count
slice_bounds-push_heads-count c =
    let stands = stands_so c.args.begins c.in-Some.place (get_or c.args.view.now c.args.first 0) c.in-Some.is c.requires.begins in
    omega (arith, stands.some)

pub slice_bounds-push_heads-start : goal.slice_bounds-push_heads-start
slice_bounds-push_heads-start c =
    let stands = stands_so c.args.begins c.in-Some.place (get_or c.args.view.now c.args.first 0) c.in-Some.is c.requires.begins in
    omega (arith, stands.some)

pub push_heads-requires-clause-ascend : goal.push_heads-requires-clause-ascend
push_heads-requires-clause-ascend c =
    let stands = stands_so c.args.begins c.in-Some.place (get_or c.args.view.now c.args.first 0) c.in-Some.is c.requires.begins in
    let outer = outermost c.in-Some.place.heads.now stands.some stands.stand in
    let head = get_or c.in-Some.place.heads.now 0 no_head in
    let first : Stretch = record { first = head.first; end = head.end } in
    subst (λ (done : List Stretch). AscendFrom 0 (map bounds_of (done ++ first ∷ []))) (sym c.new-done.ensures.items) (omega arith, outer.some, tt)

pub push_heads-requires-clause-stand : goal.push_heads-requires-clause-stand
push_heads-requires-clause-stand c =
    let stands = stands_so c.args.begins c.in-Some.place (get_or c.args.view.now c.args.first 0) c.in-Some.is c.requires.begins in
    (outermost c.in-Some.place.heads.now stands.some stands.stand).stand

pub overflow_add-opened : goal.overflow_add-opened
overflow_add-opened c =
    let stands = stands_so c.args.begins c.in-Some.place (get_or c.args.view.now c.args.first 0) c.in-Some.is c.requires.begins in
    let opened = stands.opened c.in-Some-opened.opened c.in-Some-opened.is in
    omega (arith, opened.1)

pub push_stretch-requires-clause-behind : goal.push_stretch-requires-clause-behind
push_stretch-requires-clause-behind c =
    let stands = stands_so c.args.begins c.in-Some.place (get_or c.args.view.now c.args.first 0) c.in-Some.is c.requires.begins in
    let outer = outermost c.in-Some.place.heads.now stands.some stands.stand in
    let opened = stands.opened c.in-Some-opened.opened c.in-Some-opened.is in
    omega (arith, opened.0, outer.end, c.in_ok-push_heads.ensures.end)

pub push_stretch-requires-2-clause-behind : goal.push_stretch-requires-2-clause-behind
push_stretch-requires-2-clause-behind c =
    let stands = stands_so c.args.begins c.in-Some.place (get_or c.args.view.now c.args.first 0) c.in-Some.is c.requires.begins in
    let outer = outermost c.in-Some.place.heads.now stands.some stands.stand in
    elim c.match-place.branch [
      | in-Some-opened+in_ok-push_stretch w ↦
          let opened = stands.opened w.in-Some-opened.opened w.in-Some-opened.is in
          let last = ap (λ (l : Stretch). l.end) w.last-is in
          omega (arith, opened.1, last, w.in_ok-push_stretch.ensures.end)
      | in_default-opened w ↦
          let last = ap (λ (l : Stretch). l.end) w.last-is in
          omega (arith, stands.ended, last, outer.end, c.in_ok-push_heads.ensures.end)
    ]

pub push_view-requires-clause-behind : goal.push_view-requires-clause-behind
push_view-requires-clause-behind c =
    let stands = stands_so c.args.begins c.in-Some.place (get_or c.args.view.now c.args.first 0) c.in-Some.is c.requires.begins in
    let at : get_or c.in_ok-own.own 0 0 ≡ get_or c.args.view.now c.args.first 0 = ap (λ (ids : List ℕ). get_or ids 0 0) c.in_ok-own.ensures.items ∙ first_of c.args.view.now c.args.first c.args.end c.requires.some in
    omega (arith, stands.before, at, c.in_ok-push_stretch-2.ensures.end)

pub returns-clause-items : goal.returns-clause-items
returns-clause-items c =
    let stands = stands_so c.args.begins c.in-Some.place (get_or c.args.view.now c.args.first 0) c.in-Some.is c.requires.begins in
    let place = place_of c.in-Some.place in
    let outer = outermost c.in-Some.place.heads.now stands.some stands.stand in
    let head = get_or c.in-Some.place.heads.now 0 no_head in
    let first : Stretch = record { first = head.first; end = head.end } in
    let rest = take (length c.in-Some.place.heads.now - 1) (drop 1 c.in-Some.place.heads.now) in
    let bodies : List Stretch = c.push_heads.new.done.items ++ c.push_heads.new.last ∷ [] in
    let statement : List Stretch = c.match-place.done.items ++ c.match-place.last ∷ [] in
    let bodies_are = c.in_ok-push_heads.ensures.items ∙ ap (λ (done : List Stretch). ids_of (map bounds_of (done ++ first ∷ [])) ++ head_items rest) c.new-done.ensures.items in
    let statement_is : ids_of (map bounds_of statement) ≡ ids_of (map bounds_of bodies) ++ opened_items c.in-Some.place.opened = elim c.match-place.branch [
      | in-Some-opened+in_ok-push_stretch w ↦ opened_one c.in-Some.place.opened w.in-Some-opened.opened (ids_of (map bounds_of bodies)) (ids_of (map bounds_of statement)) w.in-Some-opened.is (ap (λ d. ids_of (map bounds_of (d.items ++ c.match-place.last ∷ []))) w.done-is ∙ ap (λ (l : Stretch). ids_of (map bounds_of (w.push_stretch.new.done.items ++ l ∷ []))) w.last-is ∙ w.in_ok-push_stretch.ensures.items)
      | in_default-opened w ↦ opened_none c.in-Some.place.opened (ids_of (map bounds_of bodies)) (ids_of (map bounds_of statement)) w.in_default-opened.is (ap (λ d. ids_of (map bounds_of (d.items ++ c.match-place.last ∷ []))) w.done-is ∙ ap (λ (l : Stretch). ids_of (map bounds_of (c.push_heads.new.done.items ++ l ∷ []))) w.last-is)
    ] in
    let own_is = c.in_ok-own.ensures.items in
    let all = laid_so c.in-Some.place.heads.now c.in-Some.place.opened c.in-Some.place.ended head rest (ids_of (map bounds_of bodies)) (ids_of (map bounds_of statement)) _ c.in_ok-own.own _ outer bodies_are statement_is c.in_ok-push_stretch-2.ensures.items c.in_ok-push_view.ensures.items in
    IfOk-weaker c.of_stretches.result _ _ (λ laid is. is
    ∙ (ap (λ (stretches : List Stretch). ids_of (map bounds_of stretches)) (c.deref.ensures.value ∙ c.in_ok-push.ensures.items)
    ∙ (all ∙ (ap (λ (xs : List ℕ). items_of_place place ++ xs) own_is ∙ ap (λ (begins : Option BodyPlace). laid_items (place_in begins) c.args.view.now c.args.first c.args.end) (sym c.in-Some.is))))) c.of_stretches.ensures.items
