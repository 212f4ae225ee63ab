-- What stands at a place of a list: of two lists, one behind the other, and behind a write.
use Rattle.std.proofs.Common.{◌≡◌, ◌∙◌, ℕ, zero, suc, ◌+◌, ◌<◌, List, [], ◌∷◌, ◌++◌, length, refl, ap, arith, Some}
use Rattle.std.specs.Prelude.{slice_get, slice_set}

pub slice_before : {X : Type 0} (xs ys : List X) (k : ℕ) → k < length xs → slice_get (xs ++ ys) k ≡ slice_get xs k
slice_before [] ys k within = absurd (omega (arith, within))
slice_before (x ∷ xs) ys zero within = refl
slice_before (x ∷ xs) ys (suc k) within = slice_before xs ys k (omega (arith, within))

pub slice_behind : {X : Type 0} (xs ys : List X) (k : ℕ) → slice_get (xs ++ ys) (length xs + k) ≡ slice_get ys k
slice_behind [] ys k = ap (slice_get ys) (omega arith)
slice_behind (x ∷ xs) ys k =
    let next : length (x ∷ xs) + k ≡ suc (length xs + k) = omega arith in
    ap (slice_get (x ∷ (xs ++ ys))) next ∙ slice_behind xs ys k

-- what a list has at its seam
pub slice_at_seam : {X : Type 0} (xs ys : List X) → slice_get (xs ++ ys) (length xs) ≡ slice_get ys 0
slice_at_seam xs ys =
    let same : length xs ≡ length xs + 0 = omega arith in
    ap (slice_get (xs ++ ys)) same ∙ slice_behind xs ys 0

-- what a write to a place leaves, and what stands there
pub set_other : {X : Type 0} (xs : List X) (i k : ℕ) (x : X) → (k ≡ i → ⊥) → slice_get (slice_set xs i x) k ≡ slice_get xs k
set_other [] i k x other = refl
set_other (y ∷ xs) zero zero x other = absurd (other refl)
set_other (y ∷ xs) zero (suc k) x other = refl
set_other (y ∷ xs) (suc i) zero x other = refl
set_other (y ∷ xs) (suc i) (suc k) x other = set_other xs i k x (λ e. other (ap suc e))

pub set_same : {X : Type 0} (xs : List X) (k : ℕ) (x : X) → k < length xs → slice_get (slice_set xs k x) k ≡ Some x
set_same [] k x within = absurd (omega (arith, within))
set_same (y ∷ xs) zero x within = refl
set_same (y ∷ xs) (suc k) x within = set_same xs k x (omega (arith, within))
