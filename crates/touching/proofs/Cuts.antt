-- A text cut behind an item and before the next one, and that no pattern lies over the cut where nothing stands between them any more.
use Rattle.std.proofs.Common.{◌≡◌, ◌==◌, ◌||◌, ◌&&◌, not, ℕ, ◌+◌, arith, length, Bool, true, false, List, [], ◌∷◌, ◌++◌, refl, sym, ◌∙◌, ap, subst, inl, inr, map, ◌⊎◌}
use Rattle.std.specs.Prelude.{codes}
use Rattle.std.proofs.lemmas.Bool.{cases_Bool, and_parts, and_right, or_cases, both_ways, eqb-true, not-true}
use Rattle.std.proofs.lemmas.Bool.Decides.{nat_tests}
use Rattle.c_chars.specs.Characters.{trigraph, is_trigraph, replaced, placed, phase_1, chars, bytes_of, moved, begins_trigraph, begins_return}
use Rattle.c_chars.specs.declared.Dialect.{Dialect}
use Rattle.c_chars.specs.declared.Dialect.TheVariants.{C11, C23}
use Rattle.c_chars.specs.declared.LogicalChar.{LogicalChar}
use Rattle.c_chars.proofs.Cuts.{ends_in, starts_in, starts_third, starts_inner, trigraph_over, phase_over, units, units_moved, IsCleanCut}
use Rattle.c_chars.proofs.Splits.{head_of, last_of, split_before, split_behind, byte_split}
use Rattle.c_chars.proofs.Ends.{lines_last, same_last, ends_last}
use Rattle.c_chars.proofs.FirstUnits.{at_plain, front_line, begins_line}
use Rattle.c_grammar.specs.Grammar.{is_of}
use Rattle.c_grammar.specs.Touch.{starts, ends}
use Rattle.c_grammar.proofs.GapBytes.{third_byte, third_placed}

-- the bytes of a front, of a gap and of what stands behind it
pub record Cut (d : Dialect) (at : ℕ) (s : List ℕ) (P G Q : List LogicalChar) : Type 0 where
  pub a : List ℕ
  pub g : List ℕ
  pub b : List ℕ
  pub whole : s ≡ a ++ (g ++ b)
  pub front : chars d at a ≡ P
  pub gap : chars d (at + length a) g ≡ G
  pub behind : chars d (at + length a + length g) b ≡ Q
  pub first : IsCleanCut d at a (g ++ b)
  pub second : IsCleanCut d (at + length a) g b
  pub last : last_of (units d at a) ≡ last_of P
  pub head : head_of (units d (at + length a + length g) b) ≡ head_of Q

pub cut : (d : Dialect) (at : ℕ) (s : List ℕ) (P G Q : List LogicalChar) → chars d at s ≡ P ++ (G ++ Q) → Cut d at s P G Q
cut d at s P G Q h =
    let first = split_behind (units d at s) P (G ++ Q) h in
    let one = byte_split d at s P (G ++ Q) first.split in
    let p : ℕ = at + length one.front in
    let second = split_before (units d p one.back) G Q one.behind in
    let two = byte_split d p one.back G Q second.split in
    record {
      a = one.front;
      g = two.front;
      b = two.back;
      whole = one.whole ∙ ap (λ z. one.front ++ z) two.whole;
      front = one.before;
      gap = two.before;
      behind = two.behind;
      first = subst (λ z. IsCleanCut d at one.front z) two.whole one.clean;
      second = two.clean;
      last = ap last_of one.units_before ∙ first.last;
      head = ap head_of two.units_behind ∙ second.head;
    }

-- Trigraphs

-- where one lies over a cut, a question mark stands before it
pub over_ends : (a b : List LogicalChar) → trigraph_over a b ≡ true → ends_in (λ c. c.byte == 63) a ≡ true
over_ends [] b h = cc
over_ends (x ∷ []) b h = (and_parts (x.byte == 63) (starts_inner b) h).0
over_ends (x ∷ y ∷ []) b h = elim (or_cases ((x.byte == 63) && ((y.byte == 63) && starts_third b)) ((y.byte == 63) && starts_inner b) h) [
  | inl e ↦ (and_parts (y.byte == 63) (starts_third b) (and_parts (x.byte == 63) ((y.byte == 63) && starts_third b) e).1).0
  | inr e ↦ (and_parts (y.byte == 63) (starts_inner b) e).0
]
over_ends (x ∷ y ∷ z ∷ a) b h = over_ends (y ∷ z ∷ a) b h

-- and the end of one behind it
pub over_starts : (a b : List LogicalChar) → trigraph_over a b ≡ true → (starts_third b || starts_inner b) ≡ true
over_starts [] b h = cc
over_starts (x ∷ []) b h = let i : starts_inner b ≡ true = (and_parts (x.byte == 63) (starts_inner b) h).1 in rw i (or_true (starts_third b))
  where
    or_true : (t : Bool) → (t || true) ≡ true
    or_true true = refl
    or_true false = refl
over_starts (x ∷ y ∷ []) b h = elim (or_cases ((x.byte == 63) && ((y.byte == 63) && starts_third b)) ((y.byte == 63) && starts_inner b) h) [
  | inl e ↦ let t : starts_third b ≡ true = (and_parts (y.byte == 63) (starts_third b) (and_parts (x.byte == 63) ((y.byte == 63) && starts_third b) e).1).1 in rw t refl
  | inr e ↦ let i : starts_inner b ≡ true = (and_parts (y.byte == 63) (starts_inner b) e).1 in rw i (or_true (starts_third b))
]
  where
    or_true : (t : Bool) → (t || true) ≡ true
    or_true true = refl
    or_true false = refl
over_starts (x ∷ y ∷ z ∷ a) b h = over_starts (y ∷ z ∷ a) b h

-- a question mark at the end is no part of a trigraph
pub query_stays : (s : List LogicalChar) → ends_in (λ c. c.byte == 63) s ≡ true → ends_in (λ c. c.byte == 63) (replaced s) ≡ true
unfolding trigraph
query_stays [] h = h
query_stays (a ∷ []) h = h
query_stays (a ∷ b ∷ []) h = h
query_stays (a ∷ b ∷ c ∷ []) h = elim (cases_Bool (is_trigraph a b c)) [
  | inr n ↦ rw n h
  | inl y ↦ absurd (both_ways (trigraph c.byte == 0) (third c.byte y) (no_third c.byte h))
]
  where
    third : (n : ℕ) → ((a.byte == 63) && ((b.byte == 63) && not (trigraph n == 0))) ≡ true → (trigraph n == 0) ≡ false
    third n y = not-true (trigraph n == 0) (and_parts (b.byte == 63) (not (trigraph n == 0)) (and_parts (a.byte == 63) ((b.byte == 63) && not (trigraph n == 0)) y).1).1

    no_third : (n : ℕ) → (n == 63) ≡ true → (trigraph n == 0) ≡ true
    no_third n e = let is : n ≡ 63 = eqb-true n 63 e in rw is refl
query_stays (a ∷ b ∷ c ∷ e ∷ s) h = elim (cases_Bool (is_trigraph a b c)) [
  | inr n ↦ rw n (onto a b c e s (query_stays (b ∷ c ∷ e ∷ s) h))
  | inl y ↦ rw y (behind (record { byte = trigraph c.byte; from = a.from; to = c.to }) (replaced (e ∷ s)) (query_stays (e ∷ s) h))
]
  where
    behind : (x : LogicalChar) (R : List LogicalChar) → ends_in (λ c. c.byte == 63) R ≡ true → ends_in (λ c. c.byte == 63) (x ∷ R) ≡ true
    behind x [] h = cc
    behind x (r ∷ R) h = h

    onto : (a b c e : LogicalChar) (s : List LogicalChar) → ends_in (λ c. c.byte == 63) (replaced (b ∷ c ∷ e ∷ s)) ≡ true → ends_in (λ c. c.byte == 63) (a ∷ replaced (b ∷ c ∷ e ∷ s)) ≡ true
    onto a b c e s h = behind a (replaced (b ∷ c ∷ e ∷ s)) h

-- y and these bytes are the end of a trigraph: its last character, or its second question mark and that
abbrev pub ends_trigraph : ℕ → List ℕ → Bool
ends_trigraph y t = not (trigraph y == 0) || ((y == 63) && third_byte t)

pub end_cases : (y : ℕ) (t : List ℕ) → ends_trigraph y t ≡ true → (not (trigraph y == 0) ≡ true) ⊎ (y ≡ 63)
end_cases y t h = elim (or_cases (not (trigraph y == 0)) ((y == 63) && third_byte t) h) [
  | inl e ↦ inl e
  | inr e ↦ inr (eqb-true y 63 (and_parts (y == 63) (third_byte t) e).0)
]

pub end_of_table : (y : ℕ) (t : List ℕ) → ends_trigraph y t ≡ true → is_of (codes "?=(/)'<!>-") y ≡ true
unfolding trigraph
end_of_table y t h = elim (end_cases y t h) [
  | inl e ↦ grind (arith, nat_tests)
  | inr is ↦ rw is refl
]

third_no_query : (y : ℕ) → not (trigraph y == 0) ≡ true → (y == 63) ≡ false
unfolding trigraph
third_no_query y h = grind (arith, nat_tests)

third_no_return : (y : ℕ) → not (trigraph y == 0) ≡ true → (y == 13) ≡ false
unfolding trigraph
third_no_return y h = grind (arith, nat_tests)

pub end_no_trigraph : (y : ℕ) (t : List ℕ) → ends_trigraph y t ≡ true → begins_trigraph (y ∷ t) ≡ false
end_no_trigraph y [] h = refl
end_no_trigraph y (z ∷ []) h = refl
end_no_trigraph y (z ∷ w ∷ u) h = elim (or_cases (not (trigraph y == 0)) ((y == 63) && not (trigraph z == 0)) h) [
  | inl e ↦ let n = third_no_query y e in rw n refl
  | inr e ↦ let n = third_no_query z (and_parts (y == 63) (not (trigraph z == 0)) e).1 in and_right (y == 63) ((z == 63) && not (trigraph w == 0)) (rw n refl)
]

pub end_no_return : (y : ℕ) (t : List ℕ) → ends_trigraph y t ≡ true → begins_return (y ∷ t) ≡ false
end_no_return y [] h = refl
end_no_return y (z ∷ u) h = elim (end_cases y (z ∷ u) h) [
  | inl e ↦ let n = third_no_return y e in rw n refl
  | inr is ↦ rw is refl
]

-- the first character of such bytes is the first byte
third_first : (at : ℕ) (s : List ℕ) → (starts_third (placed at s) || starts_inner (placed at s)) ≡ true → starts (is_of (codes "?=(/)'<!>-")) (bytes_of (head_of (units C11 at s))) ≡ true
third_first at [] h = cc
third_first at (y ∷ t) h =
    let e : ends_trigraph y t ≡ true = ap (λ z. not (trigraph y == 0) || ((y == 63) && z)) (sym (third_placed (at + 1) t)) ∙ h in
    ap (λ z. starts (is_of (codes "?=(/)'<!>-")) (bytes_of (head_of z))) (at_plain C11 (y ∷ t) (omega arith) (end_no_trigraph y t e) (end_no_return y t e) at) ∙ end_of_table y t e

-- the last character of a front
abbrev pub ends_chars : ℕ → List LogicalChar → Bool
ends_chars n s = ends (λ c. c == n) (bytes_of s)

pub ends_are : (n : ℕ) (s : List LogicalChar) → ends_chars n s ≡ ends_in (λ c. c.byte == n) s
ends_are n [] = refl
ends_are n (c ∷ []) = refl
ends_are n (c ∷ e ∷ s) = ends_are n (e ∷ s)

-- a question mark at the end of the bytes is one at the end of the characters
pub query_at_end : (at : ℕ) (a : List ℕ) (P : List LogicalChar) → last_of (units C11 at a) ≡ last_of P → ends_in (λ c. c.byte == 63) (placed at a) ≡ true → ends_chars 63 P ≡ true
query_at_end at a P last h =
    let stays = query_stays (placed at a) h in
    ends_are 63 P ∙ (ends_last 63 0 P refl ∙ (ap (λ z. z == 63) (sym (same_last 0 (units C11 at a) P last) ∙ lines_last 0 (replaced (placed at a))) ∙ (sym (ends_last 63 0 (replaced (placed at a)) refl) ∙ stays)))

heads_moved : (n : ℕ) (s : List LogicalChar) → bytes_of (head_of (map (moved n) s)) ≡ bytes_of (head_of s)
heads_moved n [] = refl
heads_moved n (c ∷ s) = refl

head_starts : (s : List LogicalChar) (p : ℕ → Bool) → starts p (bytes_of (head_of s)) ≡ starts_in (λ c. p c.byte) s
head_starts [] p = refl
head_starts (c ∷ s) p = refl

-- No pattern lies over the cut where the gap between is gone: what would be a trigraph doesn't stand there, and no new-line begins the part behind.
pub gone_cut : (d : Dialect) (at k : ℕ) (a b : List ℕ) (P Q : List LogicalChar) → last_of (units d at a) ≡ last_of P → head_of (units d (at + length a + k) b) ≡ head_of Q →
    (ends_chars 63 P && starts (is_of (codes "?=(/)'<!>-")) (bytes_of (head_of Q))) ≡ false → begins_line b ≡ false → starts (λ c. c == 10) (bytes_of (head_of Q)) ≡ false → IsCleanCut d at a b
gone_cut d at k a b P Q last head no_query no_feed no_line = record {
  trigraph = by_dialect d last first;
  line = and_right (ends_in (λ c. c.byte == 13) (phase_1 d (placed at a))) (starts_in (λ c. c.byte == 10) (phase_1 d (placed p b))) (front_line d p b ∙ no_feed);
  splice = and_right (ends_in (λ c. c.byte == 92) (units d at a)) (starts_in (λ c. c.byte == 10) (units d p b)) (sym (head_starts (units d p b) (λ c. c == 10)) ∙ (ap (starts (λ c. c == 10)) first ∙ no_line));
}
  where
    p : ℕ
    p = at + length a

    first : bytes_of (head_of (units d p b)) ≡ bytes_of (head_of Q)
    first = sym (heads_moved k (units d p b)) ∙ (ap (λ z. bytes_of (head_of z)) (sym (units_moved d k p b)) ∙ ap bytes_of head)

    by_dialect : (e : Dialect) → last_of (units e at a) ≡ last_of P → bytes_of (head_of (units e p b)) ≡ bytes_of (head_of Q) → phase_over e (placed at a) (placed p b) ≡ false
    by_dialect C23 last first = refl
    by_dialect C11 last first = elim (cases_Bool (trigraph_over (placed at a) (placed p b))) [
      | inr f ↦ f
      | inl y ↦
          let q = query_at_end at a P last (over_ends (placed at a) (placed p b) y) in
          let t = third_first p b (over_starts (placed at a) (placed p b) y) in
          let u : starts (is_of (codes "?=(/)'<!>-")) (bytes_of (head_of Q)) ≡ true = ap (starts (is_of (codes "?=(/)'<!>-"))) (sym first) ∙ t in
          absurd (both_ways (ends_chars 63 P && starts (is_of (codes "?=(/)'<!>-")) (bytes_of (head_of Q))) no_query (rw (q, u) refl))
    ]
