use Rattle.std.proofs.Common.{◌≡◌, ◌∙◌, ◌+◌, length, Option, Some, ℕ, ap, arith, rules}
use Rattle.std.proofs.lemmas.List.{length-append}
use Rattle.std.specs.Prelude.{Result, Ok, Err, OnErr}
use Rattle.frame_store.proofs.Edits.{at_set}
use Rattle.search_nodes.proofs.adding.add.Goals as goal

on_err : {T E : Type 0} (r : Result T E) (P : Type 0) → P → OnErr r P
on_err (Ok x) P h = tt
on_err (Err e) P h = h

pub returns-clause-last : goal.returns-clause-last
returns-clause-last c =
    let told : c.len.result ≡ length c.push_reserved.new.self.items = first_of (omega (arith, c.len.ensures), search (rules, c.len.ensures)) in
    let count : c.len.result ≡ length c.args.nodes.now.items + 1 = told ∙ ap length c.push_reserved.ensures.items ∙ length-append _ _ ∙ ap (λ (n : ℕ). n + 1) (ap length c.reserve_room.ensures.items) in
    (at_set _ _ _ c.in_ok-reserve_place.ensures.there).here ∙ ap (λ (n : ℕ). let o : Option ℕ = Some n in o) count

pub returns-clause-others : goal.returns-clause-others
returns-clause-others c = λ i end apart at. (at_set _ _ _ c.in_ok-reserve_place.ensures.there).others i apart ∙ c.reserve_place.ensures.kept i end at

pub returns-in_err-reserve_room-clause-kept : goal.returns-in_err-reserve_room-clause-kept
returns-in_err-reserve_room-clause-kept c = on_err _ _ c.reserve_place.ensures.kept

pub returns-in_err-reserve_place-clause-kept : goal.returns-in_err-reserve_place-clause-kept
returns-in_err-reserve_place-clause-kept c = on_err _ _ c.reserve_place.ensures.kept
