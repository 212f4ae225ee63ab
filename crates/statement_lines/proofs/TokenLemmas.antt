-- Tokens that are told by their classes.
use Rattle.std.proofs.Common.{◌≡◌, ◌∙◌, ℕ, zero, suc, ◌+◌, ◌-◌, ◌<◌, ◌≤◌, nat_le, nat_lt, Bool, true, false, List, [], ◌∷◌, length, get_or, Some, None}
use Rattle.std.proofs.Common.{refl, sym, ap, arith, subst}
use Rattle.std.proofs.lemmas.List.{get_or_default}
use Rattle.std.specs.Prelude.{slice_get, if◌then◌else◌}
use Rattle.token_classes.specs.declared.class.TokenClass.{TokenClass}
use Rattle.statement_lines.specs.declared.token.CodeToken.{CodeToken}
use Rattle.statement_lines.specs.Tokens.{tokens_from, place_of, AscendFrom, class_in}
use Rattle.statement_lines.specs.Forms.{class_of}

pub told_none : (f : ℕ → TokenClass → CodeToken) (k : ℕ) (cs : List TokenClass) (i : ℕ) → length cs ≤ i → slice_get (tokens_from f k cs) i ≡ None
told_none f k [] i h = refl
told_none f k (c ∷ cs) zero h = absurd (omega (arith, h))
told_none f k (c ∷ cs) (suc i) h = told_none f (k + 1) cs i (omega (arith, h))

pub told_some : (f : ℕ → TokenClass → CodeToken) (k : ℕ) (cs : List TokenClass) (i : ℕ) (d : TokenClass) → i < length cs → slice_get (tokens_from f k cs) i ≡ Some (f (k + i) (get_or cs i d))
told_some f k [] i d h = absurd (omega (arith, h))
told_some f k (c ∷ cs) zero d h = let e : k ≡ k + 0 = omega arith in ap (λ n. Some (f n c)) e
told_some f k (c ∷ cs) (suc i) d h = let e : k + 1 + i ≡ k + suc i = omega arith in told_some f (k + 1) cs i d (omega (arith, h)) ∙ ap (λ n. Some (f n (get_or cs i d))) e

-- the same of the first
pub first_some : (f : ℕ → TokenClass → CodeToken) (cs : List TokenClass) (i : ℕ) (d : TokenClass) → i < length cs → slice_get (tokens_from f 0 cs) i ≡ Some (f i (get_or cs i d))
first_some f cs i d h = let e : 0 + i ≡ i = omega arith in told_some f 0 cs i d h ∙ ap (λ n. Some (f n (get_or cs i d))) e

pub token_of_each_class : (f : ℕ → TokenClass → CodeToken) (k : ℕ) (cs : List TokenClass) → length (tokens_from f k cs) ≡ length cs
token_of_each_class f k [] = refl
token_of_each_class f k (c ∷ cs) = ap suc (token_of_each_class f (k + 1) cs)

pub told_class : (f : ℕ → TokenClass → CodeToken) (k : ℕ) (cs : List TokenClass) (i : ℕ) → ((n : ℕ) → (c : TokenClass) → (f n c).class ≡ c) → class_of (slice_get (tokens_from f k cs) i) ≡ class_in (slice_get cs i)
told_class f k [] i own = refl
told_class f k (c ∷ cs) zero own = own k c
told_class f k (c ∷ cs) (suc i) own = told_class f (k + 1) cs i own

-- ## The place of a token between comments

-- the first of so many places of comments, and those behind
pub place_behind : (cs : List ℕ) (k j d : ℕ) → j ≤ length cs → ((i : ℕ) → i < j → get_or cs i d ≤ k + i) → (j < length cs → k + j < get_or cs j d) → place_of cs k ≡ k + j
place_behind [] k zero d low before behind = omega arith
place_behind [] k (suc j) d low before behind = absurd (omega (arith, low))
place_behind (c ∷ cs) k zero d low before behind =
    let up : k + 0 < c = behind (omega arith) in
    let no : nat_le c k ≡ false = grind (arith, up) in
    let e : k ≡ k + 0 = omega arith in
    ap (λ (b : Bool). if b then place_of cs (k + 1) else k) no ∙ e
place_behind (c ∷ cs) k (suc j) d low before behind =
    let first : c ≤ k + 0 = before 0 (omega arith) in
    let yes : nat_le c k ≡ true = grind (arith, first) in
    let e : k + 1 + j ≡ k + suc j = omega arith in
    ap (λ (b : Bool). if b then place_of cs (k + 1) else k) yes
    ∙ place_behind cs (k + 1) j d (omega (arith, low)) (λ i h. let q : get_or cs i d ≤ k + suc i = before (suc i) (omega (arith, h)) in omega (arith, q)) (λ h. let q : k + suc j < get_or cs j d = behind (omega (arith, h)) in omega (arith, q))
    ∙ e

-- each stands behind so many others
pub ascend_low : (k : ℕ) (cs : List ℕ) (i d : ℕ) → AscendFrom k cs → i < length cs → k + i ≤ get_or cs i d
ascend_low k [] i d h lt = absurd (omega (arith, lt))
ascend_low k (c ∷ cs) zero d h lt = omega (arith, h.0)
ascend_low k (c ∷ cs) (suc i) d h lt = let q = ascend_low (c + 1) cs i d h.1 (omega (arith, lt)) in omega (arith, h.0, q)

-- the further, the more
pub ascend_far : (k : ℕ) (cs : List ℕ) (i j d : ℕ) → AscendFrom k cs → i < j → j < length cs → get_or cs i d + (j - i) ≤ get_or cs j d
ascend_far k [] i j d h lt most = absurd (omega (arith, most))
ascend_far k (c ∷ cs) i zero d h lt most = absurd (omega (arith, lt))
ascend_far k (c ∷ cs) zero (suc j) d h lt most = let q = ascend_low (c + 1) cs j d h.1 (omega (arith, most)) in omega (arith, q)
ascend_far k (c ∷ cs) (suc i) (suc j) d h lt most = let q = ascend_far (c + 1) cs i j d h.1 (omega (arith, lt)) (omega (arith, most)) in omega (arith, q)

-- where one is not past a place, none before it is
pub before_middle : (cs : List ℕ) (k m d e : ℕ) → AscendFrom 0 cs → m < length cs → get_or cs m e ≤ k + m → (i : ℕ) → i < m + 1 → get_or cs i d ≤ k + i
before_middle cs k m d e h lt low i on =
    let same : get_or cs m e ≡ get_or cs m d = get_or_default cs m e d lt in
    elim (nat_lt i m) as (λ x. nat_lt i m ≡ x → get_or cs i d ≤ k + i) [
      | true ↦ λ q.
          let up : i < m = grind (arith, q) in
          let far = ascend_far 0 cs i m d h up lt in
          omega (arith, far, same, low, up)
      | false ↦ λ q.
          let here : i ≡ m = (let no : m ≤ i = grind (arith, q) in omega (arith, no, on)) in
          let P : ℕ → Type 0 = λ x. get_or cs x d ≤ k + x in
          subst P (sym here) (omega (arith, same, low))
    ] refl
