-- The rest of a list, one element at a time; and results.
use Rattle.std.proofs.Common.{◌≡◌, ◌<◌, ◌≤◌, ◌+◌, suc, ◌==◌, ◌≢◌, true, false, refl, sym, subst, ℕ, List, [], ◌∷◌, drop, length, get_or, ap, add-one, drop-cons, map, Ok, Err, IsErr, IsErrAnd}
use Rattle.std.proofs.Common.{arith}
use Rattle.std.proofs.lemmas.Bool.{eqb-true, false≢true}
use Rattle.std.proofs.lemmas.Grind.{common_steps}
use Rattle.std.specs.declared.result.Result.{Result}
use Rattle.std.specs.Borrow.{Bor}

-- the names of the rest
pub names_step : (xs : List (Bor (List ℕ))) (i : ℕ) (d : Bor (List ℕ)) → i < length xs →
    map (λ name. name.now) (drop i xs) ≡ (get_or xs i d).now ∷ map (λ name. name.now) (drop (i + 1) xs)
names_step xs i d h =
    let step : drop i xs ≡ get_or xs i d ∷ drop (i + 1) xs = rw add-one (drop-cons xs i d h) in
    ap (map (λ (name : Bor (List ℕ)). name.now)) step

-- nothing is left at the end
pub rest_end : {A : Type 0} (xs : List A) (i : ℕ) → length xs ≤ i → drop i xs ≡ []
rest_end xs i h = grind (arith, common_steps)

-- `?` passes an error on as it is
pub passed : {T E : Type 0} (r : Result T E) (e : E) → IsErr r × IsErrAnd r (λ y. y ≡ e) → r ≡ Err e
passed (Ok v) e h = absurd h.1
passed (Err y) e h = rw h.1

-- whether a list of this length is empty
pub none_of : {A : Type 0} (xs : List A) (n : ℕ) → n ≡ length xs → (n == 0) ≡ true → xs ≡ []
none_of [] n is k = refl
none_of {A} (x ∷ xs) n is k = let zero : n ≡ 0 = eqb-true n 0 k in let one : n ≡ suc (length xs) = is in absurd (omega (arith, zero, one))

pub some_of : {A B : Type 0} (xs : List A) (n : ℕ) (f : A → B) → n ≡ length xs → (n == 0) ≡ false → map f xs ≢ []
some_of [] n f is k = λ none. false≢true (sym (subst (λ (m : ℕ). (m == 0) ≡ false) is k))
some_of (x ∷ xs) n f is k = λ none. cc
