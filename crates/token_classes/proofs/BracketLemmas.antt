-- Lemmas on brackets.
use Rattle.std.proofs.Common.{◌≡◌, ℕ, suc, ◌<◌, ◌+◌, Bool, true, false, List, [], ◌∷◌, ◌++◌, reverse, Option, Some, None, refl, arith, subst, sym, IfSome, IfNone}
use Rattle.token_classes.specs.declared.pairing.Opener.{Opener}
use Rattle.token_classes.specs.Classes.{is_opener}
use Rattle.token_classes.specs.Partners.{count_braces, nearest_brace, is_brace, topmost, Nearest, StandBefore, Matching, bracket_step}
use Rattle.std.proofs.lemmas.List.{reverse-append}
use Rattle.token_classes.specs.declared.class.TokenClass.{TokenClass}
use Rattle.token_classes.specs.declared.class.TokenClass.TheVariants.{OpenRound, CloseRound, OpenSquare, CloseSquare, OpenBrace, CloseBrace}

reverse_snoc : {A : Type 0} (xs ys : List A) (x : A) → ys ≡ xs ++ x ∷ [] → reverse ys ≡ x ∷ reverse xs
reverse_snoc xs ys x e = rw (e, reverse-append) refl

pub no_brace : (os : List Opener) → 0 ≡ count_braces os → nearest_brace os ≡ None
no_brace [] e = refl
no_brace (o ∷ os) e =
    elim (is_brace o) as (λ b. 0 ≡ (elim b as (λ _. ℕ) [ true ↦ suc (count_braces os) | false ↦ count_braces os ])
    → (elim b as (λ _. Option Nearest) [ true ↦ Some (record { place = o.place; below = os }) | false ↦ nearest_brace os ]) ≡ None) [
      | true ↦ λ h. cc
      | false ↦ λ h. no_brace os h
    ] e

pub more : (n : ℕ) (os : List Opener) → StandBefore n os → StandBefore (n + 1) os
more n [] h = tt
more n (o ∷ os) h = (let q = h.0 in omega arith, more n os h.1)

-- the opener that is taken, and those below it, stand before the place too
pub record Low (n : ℕ) (f : Nearest) : Type 0 where
  pub place : f.place < n
  pub below : StandBefore n f.below

low_of : (n : ℕ) (f g : Nearest) → f ≡ g → Low n f → Low n g
low_of n f g e h = let P : Nearest → Type 0 = λ x. Low n x in subst P e h

some_low : (n : ℕ) (f g : Nearest) → Some f ≡ Some g → Low n f → Low n g
some_low n f g e h = low_of n f g (cc) h

pub nearest_low : (n : ℕ) (os : List Opener) (f : Nearest) → nearest_brace os ≡ Some f → StandBefore n os → Low n f
nearest_low n [] f e h = cc
nearest_low n (o ∷ os) f e h =
    elim (is_brace o) as (λ b. (elim b as (λ _. Option Nearest) [ true ↦ Some (record { place = o.place; below = os }) | false ↦ nearest_brace os ]) ≡ Some f → Low n f) [
      | true ↦ λ q. some_low n _ f q (record { place = h.0; below = h.1 })
      | false ↦ λ q. nearest_low n os f q h.1
    ] e

pub topmost_low : (fits : Opener → Bool) (n : ℕ) (os : List Opener) (f : Nearest) → topmost fits os ≡ Some f → StandBefore n os → Low n f
topmost_low fits n [] f e h = cc
topmost_low fits n (o ∷ os) f e h =
    elim (fits o) as (λ b. (elim b as (λ _. Option Nearest) [ true ↦ Some (record { place = o.place; below = os }) | false ↦ None ]) ≡ Some f → Low n f) [
      | true ↦ λ q. some_low n _ f q (record { place = h.0; below = h.1 })
      | false ↦ λ q. cc
    ] e

-- what a taker leaves
pub record Taken (n : ℕ) (r : Option ℕ) (new : List Opener) : Type 0 where
  pub opener : (x : ℕ) → r ≡ Some x → x < n
  pub before : StandBefore n new

pub taken : (n : ℕ) (found : Option Nearest) (r : Option ℕ) (old new : List Opener)
    → ((f : Nearest) → found ≡ Some f → StandBefore n (reverse old) → Low n f)
    → IfSome r (λ p. found ≡ Some (record { place = p; below = reverse new })) → IfNone r (new ≡ old)
    → StandBefore n (reverse old) → Taken n r (reverse new)
taken n found None old new low some same h =
    record { opener = λ x e. cc; before = let P : List Opener → Type 0 = λ l. StandBefore n (reverse l) in subst P (sym same) h }
taken n found (Some p) old new low some same h =
    let l = low (record { place = p; below = reverse new }) some h in
    record { opener = λ x e. let q : p ≡ x = cc in let P : ℕ → Type 0 = λ y. y < n in subst P q l.place; before = l.below }

pub pushed : (i : ℕ) (o : Opener) (old new : List Opener) → o.place ≡ i → new ≡ old ++ o ∷ [] → StandBefore i (reverse old) → StandBefore (i + 1) (reverse new)
pushed i o old new p e h =
    let P : List Opener → Type 0 = λ l. StandBefore (i + 1) l in
    subst P (sym (reverse_snoc old new o e)) ((omega arith), more i (reverse old) h)

-- any other token changes nothing
pub other_step : (c : TokenClass) (i : ℕ) (m : Matching) → is_opener c ≡ false → (c ≡ CloseRound → ⊥) → (c ≡ CloseSquare → ⊥) → (c ≡ CloseBrace → ⊥) → m ≡ bracket_step c i m
other_step OpenRound i m is a b d = cc
other_step OpenSquare i m is a b d = cc
other_step OpenBrace i m is a b d = cc
other_step CloseRound i m is a b d = absurd (a refl)
other_step CloseSquare i m is a b d = absurd (b refl)
other_step CloseBrace i m is a b d = absurd (d refl)
other_step _ i m is a b d = refl
