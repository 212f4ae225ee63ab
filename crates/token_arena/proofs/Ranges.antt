-- The items from one place to another, one by one.
use Rattle.std.proofs.Common.{◌≡◌, ◌∙◌, ℕ, suc, ◌+◌, ◌-◌, ◌<◌, ◌≤◌, Bool, true, false, Some, List, [], ◌∷◌, length, drop, refl, ap, arith, slice_get}
use Rattle.std.specs.List.{slice_range, list_any}
use Rattle.std.proofs.lemmas.List.{drop_more}
use Rattle.std.proofs.lemmas.Option.{slice_get_within, get_or_from_slice_get}

pub range_none : {X : Type 0} (xs : List X) (at end : ℕ) → end ≤ at → slice_range xs at end ≡ []
range_none xs at end h = let e : end - at ≡ 0 = omega arith in rw e refl

pub range_more : {X : Type 0} (xs : List X) (at end : ℕ) (x : X) → at < end → slice_get xs at ≡ Some x → slice_range xs at end ≡ x ∷ slice_range xs (at + 1) end
range_more xs at end x h is =
    let within : at < length xs = slice_get_within xs at x is in
    let here : drop at xs ≡ x ∷ drop (at + 1) xs = drop_more xs at x within ∙ ap (λ y. y ∷ drop (at + 1) xs) (get_or_from_slice_get xs at x x is) in
    let e : end - at ≡ suc (end - (at + 1)) = omega arith in
    rw (here, e) refl

pub any_here : {X : Type 0} (p : X → Bool) (xs : List X) (at end : ℕ) (x : X) → at < end → slice_get xs at ≡ Some x → p x ≡ true → list_any p (slice_range xs at end) ≡ true
any_here p xs at end x h is t = ap (list_any p) (range_more xs at end x h is) ∙ rw t refl

pub any_later : {X : Type 0} (p : X → Bool) (xs : List X) (at end : ℕ) (x : X) → at < end → slice_get xs at ≡ Some x → p x ≡ false → list_any p (slice_range xs at end) ≡ list_any p (slice_range xs (at + 1) end)
any_later p xs at end x h is f = ap (list_any p) (range_more xs at end x h is) ∙ rw f refl
