-- Choices by a test: what holds of both, what a known test chooses, and what is chosen by the same test.
use Rattle.std.proofs.Common.{◌≡◌, Bool, true, false, refl, ap}

pub choose : {A B : Type 0} (f : A → B) (tested test : Bool) (x y : A) (x' y' : B) → tested ≡ test → (test ≡ true → x' ≡ f x) → (test ≡ false → y' ≡ f y)
    → (elim tested as (λ _. B) [ true ↦ x' | false ↦ y' ]) ≡ f (elim test as (λ _. A) [ true ↦ x | false ↦ y ])
choose {A} {B} f tested true x y x' y' same one other = rw same (one refl)
choose {A} {B} f tested false x y x' y' same one other = rw same (other refl)

-- the same choice
pub chosen : {A : Type 0} (tested test : Bool) (x y x' y' : A) → tested ≡ test → (test ≡ true → x' ≡ x) → (test ≡ false → y' ≡ y)
    → (elim tested as (λ _. A) [ true ↦ x' | false ↦ y' ]) ≡ (elim test as (λ _. A) [ true ↦ x | false ↦ y ])
chosen {A} tested true x y x' y' same one other = rw same (one refl)
chosen {A} tested false x y x' y' same one other = rw same (other refl)

pub at_true : {A : Type 0} (test : Bool) (x y : A) → test ≡ true → (elim test as (λ _. A) [ true ↦ x | false ↦ y ]) ≡ x
at_true {A} test x y is = ap (λ (b : Bool). elim b as (λ _. A) [ true ↦ x | false ↦ y ]) is

pub at_false : {A : Type 0} (test : Bool) (x y : A) → test ≡ false → (elim test as (λ _. A) [ true ↦ x | false ↦ y ]) ≡ y
at_false {A} test x y is = ap (λ (b : Bool). elim b as (λ _. A) [ true ↦ x | false ↦ y ]) is

-- what holds of both holds of the choice
pub either : {A : Type 0} (P : A → Type 0) (test : Bool) (x y : A) → (test ≡ true → P x) → (test ≡ false → P y)
    → P (elim test as (λ _. A) [ true ↦ x | false ↦ y ])
either P true x y one other = one refl
either P false x y one other = other refl

pub never : {X : Type 0} → false ≡ true → X
never e = cc
