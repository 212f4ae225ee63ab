-- A part of a list that is copied.
use Rattle.std.proofs.Common.{◌≡◌, ℕ, ◌+◌, ◌<◌, ◌≤◌, min, List, [], ◌++◌, length, take, drop, refl, arith, add-zero}
use Rattle.std.proofs.lemmas.List.{length-append, length-drop, nil_from_length, take-append-le, take-append-drop, take_all, drop-drop, length-take-le}

-- what is left of a list is the front that was copied, and the rest
pub read_copied : (xs buf new : List ℕ) (at n : ℕ) → n ≤ length (drop at xs) → new ≡ take n (drop at xs)
    → drop at xs ≡ take n (new ++ drop n buf) ++ drop (at + n) xs
read_copied xs buf new at n short is =
    let len : length (take n (drop at xs)) ≡ n = length-take-le n (drop at xs) short in
    let fits : n ≤ length (take n (drop at xs)) = omega arith in
    let all : take n (take n (drop at xs)) ≡ take n (drop at xs) = take_all n (take n (drop at xs)) (omega arith) in
    rw (is, take-append-le n (take n (drop at xs)) (drop n buf) fits, all, ← drop-drop n at xs, take-append-drop n (drop at xs)) refl

-- nothing copied where there was room means that nothing was left
pub copied_none : (xs buf new : List ℕ) (at n : ℕ) → n ≡ min (length (drop at xs)) (length buf) → new ≡ take n (drop at xs)
    → n ≤ length buf
    → n ≡ 0 → 0 < length (new ++ drop n buf) → drop (at + n) xs ≡ []
copied_none xs buf new at n is copied within none room =
    let len : length (new ++ drop n buf) ≡ length buf =
    rw (copied, length-append, length-drop, length-take-le n (drop at xs) (omega (arith, is))) (omega (arith, is)) in
    let empty : length (drop at xs) ≡ 0 = omega (arith, is, len) in
    let nil : drop at xs ≡ [] = nil_from_length (drop at xs) empty in
    rw (none, add-zero) nil
