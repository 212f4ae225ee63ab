-- Where a run of characters stops.
use Rattle.std.proofs.Common.{◌≡◌, ℕ, suc, ◌+◌, Bool, true, false, List, [], ◌∷◌, take, drop, refl, arith, inl, inr}
use Rattle.std.specs.List.{list_all, prefix_len}
use Rattle.std.proofs.lemmas.Bool.{and_from, cases_Bool}
use Rattle.c_grammar.specs.Touch.{starts}

pub stops : (p : ℕ → Bool) (s : List ℕ) → starts p (drop (prefix_len p s) s) ≡ false
stops p [] = refl
stops p (c ∷ s) = elim (cases_Bool (p c)) [ inl e ↦ let one : 1 + prefix_len p s ≡ suc (prefix_len p s) = omega arith in rw (e, one) (stops p s) | inr e ↦ rw e e ]

pub passes : (p : ℕ → Bool) (s : List ℕ) → list_all p (take (prefix_len p s) s) ≡ true
passes p [] = refl
passes p (c ∷ s) = elim (cases_Bool (p c)) [ inl e ↦ let one : 1 + prefix_len p s ≡ suc (prefix_len p s) = omega arith in rw (e, one) (and_from (p c) (list_all p (take (prefix_len p s) s)) e (passes p s)) | inr e ↦ rw e refl ]
