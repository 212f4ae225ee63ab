-- Tokens that are no braces, on the way to the `}` that closes some.
use Rattle.std.proofs.Common.{◌≡◌, ◌∙◌, ℕ, zero, suc, ◌+◌, ◌-◌, ◌<◌, ◌||◌, true, false, List, [], ◌∷◌, ◌++◌, length, get_or, take, refl, sym, ap, subst, arith}
use Rattle.std.proofs.lemmas.List.{append_assoc, take_more}
use Rattle.token_classes.specs.declared.class.TokenClass.{TokenClass}
use Rattle.token_classes.specs.declared.class.TokenClass.TheVariants.{OpenBrace, CloseBrace}
use Rattle.token_classes.specs.Classes.{is_close_brace, is_open_brace}
use Rattle.view_parts.specs.Lanes.{is_flat}
use Rattle.view_parts.specs.Quiet.{Closes, depth_behind}

flat_depth : (depth : ℕ) (class : TokenClass) → is_flat class ≡ true → depth_behind depth class ≡ depth
flat_depth depth OpenBrace flat = cc
flat_depth depth CloseBrace flat = cc
flat_depth depth _ flat = refl

-- what the first tokens leave open, if these close so much
abbrev pub OpenBehind : List TokenClass → ℕ → ℕ → Type 0
OpenBehind classes count depth = (rest : List TokenClass) → Closes depth rest → Closes 1 (take count classes ++ rest)

one_more : (classes : List TokenClass) (count depth : ℕ) (d : TokenClass) → count < length classes → 0 < depth → OpenBehind classes count depth → OpenBehind classes (count + 1) (depth_behind depth (get_or classes count d))
one_more classes count depth d here some on rest closes =
    let class = get_or classes count d in
    let same : take (count + 1) classes ++ rest ≡ take count classes ++ (class ∷ rest) = ap (λ (cs : List TokenClass). cs ++ rest) (take_more classes count d here) ∙ append_assoc (take count classes) (class ∷ []) rest in
    subst (λ (cs : List TokenClass). Closes 1 cs) (sym same) (on (class ∷ rest) (some, closes))

-- behind so many tokens that are no braces, and the token behind these
pub closes_more : (classes : List TokenClass) (count n depth : ℕ) (d : TokenClass) → count + n < length classes → 0 < depth → ((k : ℕ) → k < n → is_flat (get_or classes (count + k) d) ≡ true) → OpenBehind classes count depth
    → OpenBehind classes (count + n + 1) (depth_behind depth (get_or classes (count + n) d))
closes_more classes count zero depth d within some flat on =
    let at : count ≡ count + 0 = omega arith in
    subst (λ j. OpenBehind classes (j + 1) (depth_behind depth (get_or classes j d))) at (one_more classes count depth d (omega (arith, within)) some on)
closes_more classes count (suc n) depth d within some flat on =
    let class = get_or classes count d in
    let here = flat_depth depth class (ap (λ k. is_flat (get_or classes k d)) (omega arith) ∙ flat 0 (omega arith)) in
    let next : OpenBehind classes (count + 1) depth = subst (λ n. OpenBehind classes (count + 1) n) here (one_more classes count depth d (omega (arith, within)) some on) in
    let all = closes_more classes (count + 1) n depth d (omega (arith, within)) some (λ k below. ap (λ j. is_flat (get_or classes j d)) (omega arith) ∙ flat (k + 1) (omega (arith, below))) next in
    let at : count + 1 + n ≡ count + suc n = omega arith in
    subst (λ j. OpenBehind classes (j + 1) (depth_behind depth (get_or classes j d))) at all

pub open_depth : (depth : ℕ) (class : TokenClass) → is_open_brace class ≡ true → depth_behind depth class ≡ depth + 1
open_depth depth OpenBrace opens = omega arith
open_depth depth _ opens = cc

pub close_depth : (depth : ℕ) (class : TokenClass) → (is_open_brace class || is_close_brace class) ≡ true → is_open_brace class ≡ false → depth_behind depth class ≡ depth - 1
close_depth depth OpenBrace brace opens = cc
close_depth depth CloseBrace brace opens = refl
close_depth depth _ brace opens = cc

pub other_depth : (depth : ℕ) (class : TokenClass) → (is_open_brace class || is_close_brace class) ≡ false → depth_behind depth class ≡ depth
other_depth depth OpenBrace brace = cc
other_depth depth CloseBrace brace = cc
other_depth depth _ brace = refl
