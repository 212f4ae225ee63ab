-- What the first tokens of a group leave open.
use Rattle.std.proofs.Common.{append-nil, ◌≡◌, ◌∙◌, ℕ, zero, suc, ◌+◌, ◌<◌, Bool, true, false, ◌||◌, List, [], ◌∷◌, ◌++◌, length, get_or, take, refl, sym, ap, subst, arith}
use Rattle.std.proofs.lemmas.List.{append_assoc, take_more}
use Rattle.token_classes.specs.declared.class.TokenClass.{TokenClass}
use Rattle.part_walk.specs.declared.walk.Around.TheVariants.{Group}
use Rattle.part_walk.specs.Steps.{opens_group}
use Rattle.view_parts.specs.Quiet.{ClosesGroup, closes_group, is_quiet, kinds_behind, stands_in}
use Rattle.view_parts.proofs.GroupsPassed.{closer_kinds, quiet_kinds}

-- behind so many tokens of a group with this opener these openers wait
abbrev pub OpenIn : TokenClass → List TokenClass → ℕ → List TokenClass → Type 0
OpenIn opener classes count kinds = (rest : List TokenClass) → ClosesGroup kinds rest → ClosesGroup (opener ∷ []) (take count classes ++ rest)

quiet_stands : (kinds : List TokenClass) (class : TokenClass) → 0 < length kinds → is_quiet Group false class ≡ true → stands_in kinds class ≡ true
quiet_stands [] class some quiet = absurd (omega (arith, some))
quiet_stands (kind ∷ kinds) class some quiet = by_last (opens_group class) (closes_group kind class) (is_quiet Group false class) quiet
  where
    by_last : (a b c : Bool) → c ≡ true → a || b || c ≡ true
    by_last true b c is = refl
    by_last false true c is = refl
    by_last false false c is = is

one_more : (opener : TokenClass) (classes : List TokenClass) (count : ℕ) (kinds : List TokenClass) (d : TokenClass) → count < length classes → stands_in kinds (get_or classes count d) ≡ true → OpenIn opener classes count kinds
    → OpenIn opener classes (count + 1) (kinds_behind kinds (get_or classes count d))
one_more opener classes count kinds d here stands on rest closes =
    let class = get_or classes count d in
    let same : take (count + 1) classes ++ rest ≡ take count classes ++ (class ∷ rest) = ap (λ (cs : List TokenClass). cs ++ rest) (take_more classes count d here) ∙ append_assoc (take count classes) (class ∷ []) rest in
    subst (λ (cs : List TokenClass). ClosesGroup (opener ∷ []) cs) (sym same) (on (class ∷ rest) (stands, closes))

quiet_more : (opener : TokenClass) (classes : List TokenClass) (count n : ℕ) (kinds : List TokenClass) (d : TokenClass) → count + n < length classes → 0 < length kinds → ((k : ℕ) → k < n → is_quiet Group false (get_or classes (count + k) d) ≡ true) → OpenIn opener classes count kinds
    → OpenIn opener classes (count + n) kinds
quiet_more opener classes count zero kinds d within some quiet on = subst (λ j. OpenIn opener classes j kinds) (omega arith) on
quiet_more opener classes count (suc n) kinds d within some quiet on =
    let class = get_or classes count d in
    let silent : is_quiet Group false class ≡ true = ap (λ k. is_quiet Group false (get_or classes k d)) (omega arith) ∙ quiet 0 (omega arith) in
    let next : OpenIn opener classes (count + 1) kinds = subst (λ (ks : List TokenClass). OpenIn opener classes (count + 1) ks) (quiet_kinds kinds class silent) (one_more opener classes count kinds d (omega (arith, within)) (quiet_stands kinds class some silent) on) in
    let all = quiet_more opener classes (count + 1) n kinds d (omega (arith, within)) some (λ k below. ap (λ j. is_quiet Group false (get_or classes j d)) (omega arith) ∙ quiet (k + 1) (omega (arith, below))) next in
    let at : count + 1 + n ≡ count + suc n = omega arith in
    subst (λ j. OpenIn opener classes j kinds) at all

-- behind so many quiet tokens, and the token behind these
pub opens_more : (opener : TokenClass) (classes : List TokenClass) (count n : ℕ) (kinds : List TokenClass) (d : TokenClass) → count + n < length classes → 0 < length kinds → ((k : ℕ) → k < n → is_quiet Group false (get_or classes (count + k) d) ≡ true)
    → stands_in kinds (get_or classes (count + n) d) ≡ true → OpenIn opener classes count kinds → OpenIn opener classes (count + n + 1) (kinds_behind kinds (get_or classes (count + n) d))
opens_more opener classes count n kinds d within some quiet stands on = one_more opener classes (count + n) kinds d within stands (quiet_more opener classes count n kinds d within some quiet on)

closer_stands : (opener class : TokenClass) → closes_group opener class ≡ true → stands_in (opener ∷ []) class ≡ true
closer_stands opener class closes = by_second (opens_group class) (closes_group opener class) (is_quiet Group false class) closes
  where
    by_second : (a b c : Bool) → b ≡ true → a || b || c ≡ true
    by_second true b c is = refl
    by_second false true c is = refl
    by_second false false c is = cc

-- behind the bracket that closes a group of quiet tokens
pub flat_closes : (opener : TokenClass) (classes : List TokenClass) (n : ℕ) (d : TokenClass) → n < length classes → ((k : ℕ) → (e : TokenClass) → k < n → is_quiet Group false (get_or classes k e) ≡ true) → closes_group opener (get_or classes n d) ≡ true
    → ClosesGroup (opener ∷ []) (take (n + 1) classes)
flat_closes opener classes n d within quiet closes =
    let class = get_or classes n d in
    let kinds : List TokenClass = opener ∷ [] in
    let first : OpenIn opener classes 0 kinds = λ rest closed. closed in
    let at : 0 + n ≡ n = omega arith in
    let all : OpenIn opener classes n kinds = subst (λ j. OpenIn opener classes j kinds) at (quiet_more opener classes 0 n kinds d (omega (arith, within)) (omega arith) (λ k below. ap (λ j. is_quiet Group false (get_or classes j d)) (omega arith) ∙ quiet k d below) first) in
    let behind : OpenIn opener classes (n + 1) (kinds_behind kinds class) = one_more opener classes n kinds d within (closer_stands opener class closes) all in
    subst (λ (cs : List TokenClass). ClosesGroup kinds cs) (append-nil (take (n + 1) classes)) (behind [] (closer_kinds opener class [] closes))
