-- What is decided of the gaps before tokens or items, told one after another.
use Rattle.std.proofs.Common.{◌≡◌, ◌∙◌, ◌<◌, ◌≤◌, ◌+◌, ℕ, zero, suc, Option, Some, None, List, ◌∷◌, [], length, map}
use Rattle.std.proofs.Common.{replicate, get_or, slice_get, slice_set, refl, sym, ap, arith}
use Rattle.line_tokens.specs.declared.Fixed.{Fixed}
use Rattle.line_gaps.specs.Fixed.{fixed_up_to}

-- of none of them yet
pub none_told : {A : Type 0} (f : A → Option Fixed) (tokens : List A) → replicate (length tokens) None ≡ fixed_up_to f tokens 0
none_told f [] = refl
none_told f (token ∷ tokens) = ap (λ (fixed : List (Option Fixed)). None ∷ fixed) (none_told f tokens)

pub length_told : {A : Type 0} (f : A → Option Fixed) (tokens : List A) (n : ℕ) → length (fixed_up_to f tokens n) ≡ length tokens
length_told f [] n = refl
length_told f (token ∷ tokens) zero = ap suc (length_told f tokens 0)
length_told f (token ∷ tokens) (suc n) = ap suc (length_told f tokens n)

same_token : {A : Type 0} (a b : A) → Some a ≡ Some b → a ≡ b
same_token a b e = cc

-- one gap more
pub told_more : {A : Type 0} (f : A → Option Fixed) (tokens : List A) (at : ℕ) (token : A) (told : Option Fixed) → slice_get tokens at ≡ Some token → told ≡ f token → slice_set (fixed_up_to f tokens at) at told ≡ fixed_up_to f tokens (at + 1)
told_more f [] at token told is tells = cc
told_more f (first ∷ tokens) zero token told is tells =
    let same : told ≡ f first = tells ∙ ap f (sym (same_token first token is)) in
    ap (λ (o : Option Fixed). o ∷ fixed_up_to f tokens 0) same
told_more f (first ∷ tokens) (suc at) token told is tells =
    let next : suc (at + 1) ≡ suc at + 1 = omega arith in
    ap (λ (fixed : List (Option Fixed)). f first ∷ fixed) (told_more f tokens at token told is tells) ∙ ap (fixed_up_to f (first ∷ tokens)) next

-- and some more of which nothing is decided
pub told_open : {A : Type 0} (f : A → Option Fixed) (tokens : List A) (n m : ℕ) → n ≤ m → ((i : ℕ) (d : A) → n ≤ i → i < m → f (get_or tokens i d) ≡ None) → fixed_up_to f tokens n ≡ fixed_up_to f tokens m
told_open f [] n m order open_gaps = refl
told_open f (token ∷ tokens) zero zero order open_gaps = refl
told_open f (token ∷ tokens) zero (suc m) order open_gaps =
    let rest : fixed_up_to f tokens 0 ≡ fixed_up_to f tokens m = told_open f tokens 0 m (omega arith) (λ i d more less. open_gaps (suc i) d (omega arith) (omega (arith, less))) in
    ap (λ (fixed : List (Option Fixed)). None ∷ fixed) rest ∙ ap (λ (o : Option Fixed). o ∷ fixed_up_to f tokens m) (sym (open_gaps 0 token (omega arith) (omega arith)))
told_open f (token ∷ tokens) (suc n) zero order open_gaps = absurd (omega (arith, order))
told_open f (token ∷ tokens) (suc n) (suc m) order open_gaps =
    ap (λ (fixed : List (Option Fixed)). f token ∷ fixed) (told_open f tokens n m (omega (arith, order)) (λ i d more less. open_gaps (suc i) d (omega (arith, more)) (omega (arith, less))))

-- all of them
pub all_told : {A : Type 0} (f : A → Option Fixed) (tokens : List A) (n : ℕ) → length tokens ≤ n → fixed_up_to f tokens n ≡ map f tokens
all_told f [] n all = refl
all_told f (token ∷ tokens) zero all = absurd (omega (arith, all))
all_told f (token ∷ tokens) (suc n) all = ap (λ (fixed : List (Option Fixed)). f token ∷ fixed) (all_told f tokens n (omega (arith, all)))
