-- Whether two texts are the same.
use Rattle.std.proofs.Common.{◌≡◌, ◌↔◌, ℕ, Bool, true, false, List, IsTrue, not, refl, sym, ap, subst}
use Rattle.c_grammar.specs.Grammar.{is_same}
use Rattle.c_grammar.proofs.Lists.{same_is, same_refl}

never : (x : Bool) → (x ≡ true → ⊥) → true ≡ not x
never true not_so = absurd (not_so refl)
never false not_so = refl

-- what is told of two texts is what their comparison says
pub told_is : (told : Bool) (a b : List ℕ) → (IsTrue told ↔ (a ≡ b)) → not told ≡ not (is_same a b)
told_is true a b is = ap not (sym (subst (λ (x : List ℕ). is_same x b ≡ true) (sym (is.0 refl)) (same_refl b)))
told_is false a b is = never (is_same a b) (λ same. let impossible : false ≡ true = is.1 (same_is a b same) in cc)
