use Rattle.std.proofs.Common.{◌≡◌, ◌∙◌, ◌+◌, ◌<◌, ◌≤◌, ◌^◌, ℕ, List, [], ap, length, replicate, rules, subst, sym}
use Rattle.std.specs.Prelude.{vec_capacity}
use Rattle.replacements.specs.Inside.{FitApart, slots_in}
use Rattle.replacements.specs.declared.entry.Entry.{Entry}
use Rattle.replacements.specs.declared.entry.Entry.TheVariants.{Open}
use Rattle.replacements.specs.declared.slot.Slot.{Slot}
use Rattle.replacements.proofs.PlanEntries.{all_open, fit_open}
use Rattle.replacements.proofs.plan.Plan.make.Goals as goal

pub returns : goal.returns
returns c =
    let count : ℕ = length c.args.arena.now.tokens + 1 in
    let open_all : c.into_bump_slice_mut.result.now ≡ replicate count Open = search rules in
    let none : c.in_ok-apart.apart.items ≡ [] = search rules in
    ap (λ (entries : List Entry). slots_in c.unwrap_or.result c.in_ok-apart.apart.items entries) open_all ∙ (ap (λ (apart : List Slot). slots_in c.unwrap_or.result apart (replicate count Open)) none ∙ all_open c.unwrap_or.result count)

pub invariant_of-result : goal.invariant_of-result
invariant_of-result c =
    let count : ℕ = length c.args.arena.now.tokens + 1 in
    let open_all : c.into_bump_slice_mut.result.now ≡ replicate count Open = search rules in
    let none : c.in_ok-apart.apart.items ≡ [] = search rules in
    let room : count ≤ vec_capacity c.in_ok-apart.apart = search rules in
    let few : count < 2 ^ 24 = search rules in
    subst (λ (entries : List Entry). FitApart c.in_ok-apart.apart.items (vec_capacity c.in_ok-apart.apart) entries) (sym open_all)
    (subst (λ (apart : List Slot). FitApart apart (vec_capacity c.in_ok-apart.apart) (replicate count Open)) (sym none) (fit_open count (vec_capacity c.in_ok-apart.apart) room few))
