-- Lists that differ at one place.
use Rattle.std.proofs.Common.{◌≡◌, ◌≢◌, ℕ, ◌<◌, Some, List, [], ◌∷◌, ◌++◌, length, refl, arith, suc, zero, slice_get}
use Rattle.std.proofs.Common.{slice_set}

-- the second list is the first with x at w
pub record At {X : Type 0} (xs ys : List X) (w : ℕ) (x : X) : Type 0 where
  pub here : slice_get ys w ≡ Some x
  pub others : (u : ℕ) → u ≢ w → slice_get ys u ≡ slice_get xs u

pub at_set : {X : Type 0} (xs : List X) (w : ℕ) (x : X) → w < length xs → At xs (slice_set xs w x) w x
at_set xs w x h = record { here = same xs w h; others = other x xs w }
  where
    same : {X : Type 0} {x : X} (xs : List X) (w : ℕ) → w < length xs → slice_get (slice_set xs w x) w ≡ Some x
    same [] w h = absurd (omega arith)
    same (y ∷ xs) zero h = refl
    same (y ∷ xs) (suc w) h = same xs w (omega arith)

    other : {X : Type 0} (x : X) (xs : List X) (w u : ℕ) → u ≢ w → slice_get (slice_set xs w x) u ≡ slice_get xs u
    other x [] w u ne = refl
    other x (y ∷ xs) zero zero ne = absurd (ne refl)
    other x (y ∷ xs) zero (suc u) ne = refl
    other x (y ∷ xs) (suc w) zero ne = refl
    other x (y ∷ xs) (suc w) (suc u) ne = other x xs w u (λ e. ne (omega arith))

pub at_push : {X : Type 0} (xs : List X) (x : X) → At xs (xs ++ x ∷ []) (length xs) x
at_push xs x = record { here = same xs; others = other x xs }
  where
    same : {X : Type 0} {x : X} (xs : List X) → slice_get (xs ++ x ∷ []) (length xs) ≡ Some x
    same [] = refl
    same (y ∷ xs) = same xs

    other : {X : Type 0} (x : X) (xs : List X) (u : ℕ) → u ≢ length xs → slice_get (xs ++ x ∷ []) u ≡ slice_get xs u
    other x [] zero ne = absurd (ne refl)
    other x [] (suc u) ne = refl
    other x (y ∷ xs) zero ne = refl
    other x (y ∷ xs) (suc u) ne = other x xs u (λ e. ne (omega arith))
