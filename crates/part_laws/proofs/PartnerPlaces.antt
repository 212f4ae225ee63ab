-- The partners that stand behind a place in a list that ends at one.
use Rattle.std.proofs.Common.{◌≡◌, ◌∙◌, ℕ, ◌<◌, ◌≤◌, nat_lt, false, ◌&&◌, Option, Some, None, List, refl, arith, ap, subst, inl, inr, ◌⊎◌}
use Rattle.std.specs.Prelude.{slice_get}
use Rattle.std.proofs.lemmas.Bool.{and_parts, and_from, and_left, and_right, cases_lt, lt-ltb, ltb-true, le-ltb}
use Rattle.statement_lines.specs.declared.token.CodeToken.{CodeToken}
use Rattle.statement_lines.specs.Forms.{partner_of, within, partner_in}
use Rattle.part_laws.proofs.Choices.{either, at_true, at_false}

-- what a partner in the list tells
pub within_parts : (i end p : ℕ) (o : Option ℕ) → within i end o ≡ Some p → (o ≡ Some p) × ((i < p) × (p < end))
within_parts i end p None e = cc
within_parts i end p (Some q) e =
    either (λ (x : Option ℕ). x ≡ Some p → (Some q ≡ Some p) × ((i < p) × (p < end))) (nat_lt i q && nat_lt q end) (Some q) None
    (λ b s. let k = and_parts (nat_lt i q) (nat_lt q end) b in let same : q ≡ p = cc in
    (s, (subst (λ (x : ℕ). i < x) same (ltb-true i q k.0), subst (λ (x : ℕ). x < end) same (ltb-true q end k.1))))
    (λ b s. cc) e

pub within_from : (i end p : ℕ) → i < p → p < end → within i end (Some p) ≡ Some p
within_from i end p a b = at_true (nat_lt i p && nat_lt p end) (Some p) None (and_from (nat_lt i p) (nat_lt p end) (lt-ltb i p a) (lt-ltb p end b))

pub within_past : (i end : ℕ) (partner : Option ℕ) → end ≤ i → within i end partner ≡ None
within_past i end None past = refl
within_past i end (Some p) past = at_false (nat_lt i p && nat_lt p end) (Some p) None (neither (cases_lt i p))
  where
    neither : (i < p) ⊎ (p ≤ i) → (nat_lt i p && nat_lt p end) ≡ false
    neither (inl less) = and_right (nat_lt i p) (nat_lt p end) (le-ltb p end (omega (arith, less, past)))
    neither (inr most) = and_left (nat_lt i p) (nat_lt p end) (le-ltb i p most)

-- where a partner stands
pub partner_place : (tokens : List CodeToken) (end i p : ℕ) → partner_in tokens end i ≡ Some p → (i < p) × (p < end)
partner_place tokens end i p e = (within_parts i end p (partner_of (slice_get tokens i)) e).1

-- the partner is the same in the longer list
pub partner_longer : (tokens : List CodeToken) (end whole i p : ℕ) → end ≤ whole → partner_in tokens end i ≡ Some p → partner_in tokens whole i ≡ Some p
partner_longer tokens end whole i p h e =
    let k = within_parts i end p (partner_of (slice_get tokens i)) e in
    let a : i < p = k.1.0 in let b : p < end = k.1.1 in
    ap (within i whole) k.0 ∙ within_from i whole p a (omega arith)
