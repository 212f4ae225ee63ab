-- The comment that the code cuts off is the longest.
use Rattle.std.proofs.Common.{◌≡◌, ◌==◌, ◌||◌, ℕ, suc, ◌+◌, Bool, true, false, List, [], ◌∷◌, ◌++◌, take, drop, refl, sym, ◌∙◌, ap, subst, arith, inl, inr}
use Rattle.std.proofs.lemmas.Bool.{eqb-true, cases_Bool}
use Rattle.c_chars.specs.declared.Dialect.{Dialect}
use Rattle.c_grammar.specs.Grammar.{has_end, IsBlock, Whole, Unended}
use Rattle.c_grammar.specs.Items.{IsLongest}
use Rattle.item_kinds.specs.declared.ItemKind.TheVariants.{BlockComment}
use Rattle.c_grammar.proofs.Closed.{block_stays}
use Rattle.c_lexer.specs.Run.{IsCut}
use Rattle.c_lexer.specs.Comment.{closes_block, block_len}

-- with the star before it
starred : Bool → List ℕ → List ℕ
starred true s = 42 ∷ s
starred false s = s

no_star : (c : ℕ) (s : List ℕ) → (c == 42) ≡ false → has_end (c ∷ s) ≡ has_end s
no_star c [] h = refl
no_star c (e ∷ s) h = rw h refl

closes_is : (star : Bool) (s : List ℕ) → closes_block star s ≡ has_end (starred star s)
unfolding starred
closes_is true [] = refl
closes_is false [] = refl
closes_is true (c ∷ s) = elim (cases_Bool (c == 42)) [
  | inl y ↦ let e : c ≡ 42 = eqb-true c 42 y in subst (λ z. ((z == 47) || closes_block (z == 42) s) ≡ ((z == 47) || has_end (z ∷ s))) (sym e) (closes_is true s)
  | inr n ↦ let h = closes_is false s in let g = no_star c s n in rw (n, g) (ap (λ b. (c == 47) || b) h)
]
closes_is false (c ∷ s) = elim (cases_Bool (c == 42)) [
  | inl y ↦ let e : c ≡ 42 = eqb-true c 42 y in subst (λ z. closes_block (z == 42) s ≡ has_end (z ∷ s)) (sym e) (closes_is true s)
  | inr n ↦ let h = closes_is false s in let g = no_star c s n in rw (n, g) h
]

-- what stands before the first end
record IsEnded (s : List ℕ) : Type 0 where
  body : List ℕ
  first_end : has_end (body ++ 42 ∷ []) ≡ false
  whole : s ≡ body ++ 42 ∷ 47 ∷ []

-- one character more before it
before : (c : ℕ) (s : List ℕ) → (c == 42) ≡ false → IsEnded s → IsEnded (c ∷ s)
before c s n h = record { body = c ∷ h.body; first_end = no_star c (h.body ++ 42 ∷ []) n ∙ h.first_end; whole = ap (λ x. c ∷ x) h.whole }

star_before : (c : ℕ) (s : List ℕ) → (c == 47) ≡ false → IsEnded (c ∷ s) → IsEnded (42 ∷ c ∷ s)
star_before c s n h = record { body = 42 ∷ h.body; first_end = at (h.body) h.first_end h.whole; whole = ap (λ x. 42 ∷ x) h.whole }
  where
    at : (body : List ℕ) → has_end (body ++ 42 ∷ []) ≡ false → c ∷ s ≡ body ++ 42 ∷ 47 ∷ [] → has_end (42 ∷ (body ++ 42 ∷ [])) ≡ false
    at [] e w = refl
    at (x ∷ body) e w = let heads : c ≡ x = cc in let m : (x == 47) ≡ false = subst (λ z. (z == 47) ≡ false) heads n in rw m e

onward : (c : ℕ) (s : List ℕ) → ((star : Bool) → closes_block star s ≡ true → IsEnded (starred star (take (block_len star s) s))) → closes_block (c == 42) s ≡ true → IsEnded (c ∷ take (block_len (c == 42) s) s)
unfolding starred
onward c s rest h = elim (cases_Bool (c == 42)) [
  | inl y ↦ let e : c ≡ 42 = eqb-true c 42 y in let known : closes_block true s ≡ true = subst (λ b. closes_block b s ≡ true) y h in rw e (rest true known)
  | inr n ↦ let known : closes_block false s ≡ true = subst (λ b. closes_block b s ≡ true) n h in rw n (before c (take (block_len false s) s) n (rest false known))
]

block_ended : (star : Bool) (s : List ℕ) → closes_block star s ≡ true → IsEnded (starred star (take (block_len star s) s))
unfolding starred
block_ended star [] h = cc
block_ended true (c ∷ s) h = elim (cases_Bool (c == 47)) [
  | inl y ↦ let e : c ≡ 47 = eqb-true c 47 y in rw e (record { body = []; first_end = refl; whole = refl })
  | inr n ↦
      let rest : closes_block (c == 42) s ≡ true = subst (λ b. (b || closes_block (c == 42) s) ≡ true) n h in
      let one : 1 + block_len (c == 42) s ≡ suc (block_len (c == 42) s) = omega arith in
      rw (n, one) (star_before c (take (block_len (c == 42) s) s) n (onward c s (λ star g. block_ended star s g) rest))
]
block_ended false (c ∷ s) h =
    let one : 1 + block_len (c == 42) s ≡ suc (block_len (c == 42) s) = omega arith in
    rw one (onward c s (λ star g. block_ended star s g) h)

open_end : (t : List ℕ) → closes_block false t ≡ false → has_end t ≡ false
unfolding starred
open_end t h = sym (closes_is false t) ∙ h

ended_false : (t : List ℕ) → closes_block false t ≡ true → IsEnded (take (block_len false t) t)
unfolding starred
ended_false t h = block_ended false t h

-- the block comment that begins here, through its first end
pub block_cut : (d : Dialect) (s t : List ℕ) → s ≡ 47 ∷ 42 ∷ t → closes_block false t ≡ true → IsCut d (Whole BlockComment) s (2 + block_len false t)
block_cut d s t w h =
    let e : IsEnded (take (block_len false t) t) = ended_false t h in
    let two : 2 + block_len false t ≡ suc (suc (block_len false t)) = omega arith in
    let spelled : IsBlock (47 ∷ 42 ∷ take (block_len false t) t) = record { body = e.body; first_end = e.first_end; whole = ap (λ x. 47 ∷ 42 ∷ x) e.whole } in
    let cut : IsLongest d (Whole BlockComment) (47 ∷ 42 ∷ take (block_len false t) t) (drop (block_len false t) t) = record { spells = spelled; longest = λ k c more left r g. block_stays d k (47 ∷ 42 ∷ take (block_len false t) t) c more spelled g } in
    subst (λ x. IsCut d (Whole BlockComment) x (2 + block_len false t)) (sym w) (rw two cut)

-- a block comment that nothing ends
pub block_open : (d : Dialect) (s t : List ℕ) → s ≡ 47 ∷ 42 ∷ t → closes_block false t ≡ false → IsLongest d Unended s []
block_open d s t w h = record {
  spells = record { body = t; no_end = open_end t h; whole = w };
  longest = λ k c more left r g. cc;
}
