-- What is known where a test answers yes, or no.
use Rattle.std.proofs.Common.{◌≡◌, Bool, true, false, refl}
use Rattle.std.specs.Prelude.{◌↔◌, IsTrue}
use Rattle.std.specs.Bool.{OnTrue, OnFalse}

pub on_false_at : (b : Bool) (P : Type 0) → b ≡ false → OnFalse b P → P
on_false_at false P e h = h
on_false_at true P e h = absurd (true-false e)
  where
    true-false : true ≡ false → ⊥
    true-false e = cc

pub on_true_then : (b : Bool) (P Q : Type 0) → OnTrue b P → (P → Q) → OnTrue b Q
on_true_then true P Q h f = f h
on_true_then false P Q h f = tt

pub on_false_then : (b : Bool) (P Q : Type 0) → OnFalse b P → (P → Q) → OnFalse b Q
on_false_then false P Q h f = f h
on_false_then true P Q h f = tt

-- a test that tells whether the first of two facts holds, where the second does
pub both_on_true : (b : Bool) (P Q : Type 0) → (IsTrue b ↔ P) → Q → OnTrue b (P × Q)
both_on_true true P Q h q = (h.0 refl, q)
both_on_true false P Q h q = tt

pub first_not : (b : Bool) (P Q : Type 0) → (IsTrue b ↔ P) → OnFalse b (P → Q → ⊥)
first_not true P Q h = tt
first_not false P Q h = λ p q. no_true (h.1 p)
  where
    no_true : false ≡ true → ⊥
    no_true e = cc

pub second_not : (b : Bool) (Q : Type 0) → (IsTrue b ↔ Q) → b ≡ false → Q → ⊥
second_not b Q h e q = let t : b ≡ true = h.1 q in cc
