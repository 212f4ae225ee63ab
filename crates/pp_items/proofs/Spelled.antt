-- The kind of a spelling, test by test.
use Rattle.std.proofs.Common.{◌≡◌, ◌∙◌, ◌==◌, ◌||◌, ◌&&◌, ◌<◌, ◌≤◌, ◌+◌, ◌-◌, ℕ, suc, nat_eq, get_or, Bool, true, false, List, [], ◌∷◌, ◌++◌, length, length-append, take, drop, refl, sym, ap, subst, arith, inl, inr}
use Rattle.std.specs.Prelude.{codes}
use Rattle.std.specs.List.{starts_with, list_any}
use Rattle.std.specs.Cmp.{both_ways as same_tests}
use Rattle.std.proofs.lemmas.Bool.{and_parts, and_from, or_left, or_right, or_cases, eqb-true, eq-eqb, ne_eqb, false_from_ne_true}
use Rattle.std.proofs.lemmas.List.{append-nil}
use Rattle.c_chars.specs.declared.Dialect.TheVariants.{C11, C23}
use Rattle.c_grammar.specs.Grammar.{is_same, is_quoted_unit, is_char_prefix, is_string_prefix}
use Rattle.c_grammar.proofs.Lists.{same_is, same_refl, length_none}
use Rattle.pp_model.specs.Finding.{cuts, are_units, is_inside, is_quoted}
use Rattle.pp_model.proofs.Cuts.{cuts_from, cuts_give}
use Rattle.pp_items.specs.Literals.{closes, ends_cut_off, is_open_body}

pub empty_is : (b : List ℕ) → is_same b [] ≡ (length b == 0)
empty_is b = sym (length_none b)

no_end : (s : List ℕ) (c : ℕ) → s ++ c ∷ [] ≡ [] → ⊥
no_end [] c e = cc
no_end (b ∷ s) c e = cc

snoc_same : (a b : List ℕ) (x y : ℕ) → a ++ x ∷ [] ≡ b ++ y ∷ [] → (a ≡ b) × (x ≡ y)
snoc_same [] [] x y e = (refl, cc)
snoc_same [] (c ∷ b) x y e = let rest : b ++ y ∷ [] ≡ [] = cc in absurd (no_end b y rest)
snoc_same (c ∷ a) [] x y e = let rest : a ++ x ∷ [] ≡ [] = cc in absurd (no_end a x rest)
snoc_same (c ∷ a) (f ∷ b) x y e =
    let head : c ≡ f = cc in
    let tail : a ++ x ∷ [] ≡ b ++ y ∷ [] = cc in
    let more = snoc_same a b x y tail in
    let rest = more.0 in
    (cc, more.1)

-- a cut before the last character
pub last_cut : (A R : List ℕ → Bool) (x : ℕ) → ((l : List ℕ) → R l ≡ true → l ≡ x ∷ []) → R (x ∷ []) ≡ true → (b : List ℕ) (y : ℕ) → ((y == x) && A b) ≡ cuts A R (b ++ y ∷ [])
last_cut A R x only there b y =
    same_tests ((y == x) && A b) (cuts A R (b ++ y ∷ []))
    (λ h. let p = and_parts (y == x) (A b) h in let e : y ≡ x = eqb-true y x p.0 in cuts_from A R b (y ∷ []) p.1 (subst (λ z. R (z ∷ []) ≡ true) (sym e) there))
    (λ h. let i = cuts_give A R (b ++ y ∷ []) h in
    let last : i.rest ≡ x ∷ [] = only i.rest i.second in
    let same = snoc_same b i.front y x (i.whole ∙ ap (λ z. i.front ++ z) last) in
    and_from (y == x) (A b) (eq-eqb y x same.1) (subst (λ z. A z ≡ true) (sym same.0) i.first))

quote_only : (q : ℕ) (l : List ℕ) → is_same (q ∷ []) l ≡ true → l ≡ q ∷ []
quote_only q l h = sym (same_is (q ∷ []) l h)

slash_only : (l : List ℕ) → is_same l (92 ∷ []) ≡ true → l ≡ 92 ∷ []
slash_only l h = same_is l (92 ∷ []) h

pub cut_off : (q : ℕ) (b s : List ℕ) (y : ℕ) → s ≡ b ++ y ∷ [] → ((y == 92) && are_units (is_quoted_unit q) b) ≡ ends_cut_off q s
cut_off q b s y e = last_cut (are_units (is_quoted_unit q)) (λ l. is_same l (92 ∷ [])) 92 slash_only refl b y ∙ ap (ends_cut_off q) (sym e)

pub closed : (q : ℕ) (may : Bool) (f : ℕ) (b s : List ℕ) (y : ℕ) → s ≡ f ∷ (b ++ y ∷ []) → ((f == q) && ((y == q) && is_inside q may b)) ≡ closes q may s
closed q may f b s y e = same_tests ((f == q) && ((y == q) && is_inside q may b)) (closes q may s) there back
  where
    behind : ((y == q) && is_inside q may b) ≡ cuts (is_inside q may) (is_same (q ∷ [])) (b ++ y ∷ [])
    behind = last_cut (is_inside q may) (is_same (q ∷ [])) q (quote_only q) (same_refl (q ∷ [])) b y

    there : ((f == q) && ((y == q) && is_inside q may b)) ≡ true → closes q may s ≡ true
    there h =
        let p = and_parts (f == q) ((y == q) && is_inside q may b) h in
        let first : q ≡ f = sym (eqb-true f q p.0) in
        subst (λ z. closes q may z ≡ true) (sym e)
        (cuts_from (is_same (q ∷ [])) (cuts (is_inside q may) (is_same (q ∷ []))) (f ∷ []) (b ++ y ∷ []) (subst (λ z. is_same (q ∷ []) (z ∷ []) ≡ true) first (same_refl (q ∷ []))) (sym behind ∙ p.1))

    back : closes q may s ≡ true → ((f == q) && ((y == q) && is_inside q may b)) ≡ true
    back h =
        let i = cuts_give (is_same (q ∷ [])) (cuts (is_inside q may) (is_same (q ∷ []))) s h in
        let first : i.front ≡ q ∷ [] = quote_only q i.front i.first in
        let whole : f ∷ (b ++ y ∷ []) ≡ q ∷ i.rest = sym e ∙ (i.whole ∙ ap (λ z. z ++ i.rest) first) in
        let head : f ≡ q = cc in
        let tail : b ++ y ∷ [] ≡ i.rest = cc in
        and_from (f == q) ((y == q) && is_inside q may b) (eq-eqb f q head) (behind ∙ subst (λ z. cuts (is_inside q may) (is_same (q ∷ [])) z ≡ true) (sym tail) i.second)

-- a literal has two quotes
pub not_closed : (q : ℕ) (may : Bool) (s : List ℕ) → length s < 2 → false ≡ closes q may s
not_closed q may s short = sym (false_from_ne_true (closes q may s) (λ h.
    let i = cuts_give (is_same (q ∷ [])) (cuts (is_inside q may) (is_same (q ∷ []))) s h in
    let j = cuts_give (is_inside q may) (is_same (q ∷ [])) i.rest i.second in
    let n : length s ≡ length i.front + length i.rest = ap length i.whole ∙ length-append i.front i.rest in
    let m : length i.rest ≡ length j.front + length j.rest = ap length j.whole ∙ length-append j.front j.rest in
    let a : length i.front ≡ 1 = ap length (quote_only q i.front i.first) in
    let b : length j.rest ≡ 1 = ap length (quote_only q j.rest j.second) in
    omega (arith, n, m, a, b, short)))

-- a cut by the second test or the third
cuts_or : (A P Q : List ℕ → Bool) (s : List ℕ) → (cuts A P s || cuts A Q s) ≡ cuts A (λ l. P l || Q l) s
cuts_or A P Q s =
    same_tests (cuts A P s || cuts A Q s) (cuts A (λ l. P l || Q l) s)
    (λ h. elim (or_cases (cuts A P s) (cuts A Q s) h) [
      | inl e ↦ let i = cuts_give A P s e in subst (λ z. cuts A (λ l. P l || Q l) z ≡ true) (sym i.whole) (cuts_from A (λ l. P l || Q l) i.front i.rest i.first (or_left (P i.rest) (Q i.rest) i.second))
      | inr e ↦ let i = cuts_give A Q s e in subst (λ z. cuts A (λ l. P l || Q l) z ≡ true) (sym i.whole) (cuts_from A (λ l. P l || Q l) i.front i.rest i.first (or_right (P i.rest) (Q i.rest) i.second))
    ])
    (λ h. let i = cuts_give A (λ l. P l || Q l) s h in elim (or_cases (P i.rest) (Q i.rest) i.second) [
      | inl e ↦ or_left (cuts A P s) (cuts A Q s) (subst (λ z. cuts A P z ≡ true) (sym i.whole) (cuts_from A P i.front i.rest i.first e))
      | inr e ↦ or_right (cuts A P s) (cuts A Q s) (subst (λ z. cuts A Q z ≡ true) (sym i.whole) (cuts_from A Q i.front i.rest i.first e))
    ])

cuts_at_end : (A : List ℕ → Bool) (s : List ℕ) → cuts A (λ l. is_same l []) s ≡ A s
cuts_at_end A s =
    same_tests (cuts A (λ l. is_same l []) s) (A s)
    (λ h. let i = cuts_give A (λ l. is_same l []) s h in
    let none : i.rest ≡ [] = same_is i.rest [] i.second in
    subst (λ z. A z ≡ true) (sym (i.whole ∙ (ap (λ z. i.front ++ z) none ∙ append-nil i.front))) i.first)
    (λ h. subst (λ z. cuts A (λ l. is_same l []) z ≡ true) (append-nil s) (cuts_from A (λ l. is_same l []) s [] h refl))

pub open_body : (q : ℕ) (s : List ℕ) → is_open_body q s ≡ (are_units (is_quoted_unit q) s || ends_cut_off q s)
open_body q s =
    sym (ap (λ z. z || ends_cut_off q s) (sym (cuts_at_end (are_units (is_quoted_unit q)) s)) ∙ cuts_or (are_units (is_quoted_unit q)) (λ l. is_same l []) (λ l. is_same l (92 ∷ [])) s)

-- ## Fronts

front_drop : (w t : List ℕ) → (starts_with nat_eq (w ++ t) w ≡ true) × (drop (length w) (w ++ t) ≡ t)
front_drop [] t = (refl, refl)
front_drop (c ∷ w) t = let more = front_drop w t in let same = eq-eqb c c refl in let rest = more.0 in (rw (same, rest) refl, more.1)

front_there : (w s : List ℕ) → starts_with nat_eq s w ≡ true → s ≡ w ++ drop (length w) s
front_there [] s h = refl
front_there (c ∷ w) [] h = cc
front_there (c ∷ w) (b ∷ s) h =
    let p = and_parts (c == b) (starts_with nat_eq s w) h in
    let head : c ≡ b = eqb-true c b p.0 in
    ap (λ z. z ∷ s) (sym head) ∙ ap (λ z. c ∷ z) (front_there w s p.1)

-- a cut behind these characters
pub front_cut : (w s : List ℕ) (R : List ℕ → Bool) → (starts_with nat_eq s w && R (drop (length w) s)) ≡ cuts (is_same w) R s
front_cut w s R =
    same_tests (starts_with nat_eq s w && R (drop (length w) s)) (cuts (is_same w) R s)
    (λ h. let p = and_parts (starts_with nat_eq s w) (R (drop (length w) s)) h in
    subst (λ z. cuts (is_same w) R z ≡ true) (sym (front_there w s p.0)) (cuts_from (is_same w) R w (drop (length w) s) (same_refl w) p.1))
    (λ h. let i = cuts_give (is_same w) R s h in
    let whole : s ≡ w ++ i.rest = i.whole ∙ ap (λ z. z ++ i.rest) (sym (same_is w i.front i.first)) in
    let at = front_drop w i.rest in
    subst (λ z. (starts_with nat_eq z w && R (drop (length w) z)) ≡ true) (sym whole)
    (and_from (starts_with nat_eq (w ++ i.rest) w) (R (drop (length w) (w ++ i.rest))) at.0 (subst (λ z. R z ≡ true) (sym at.1) i.second)))

pub front_yes : (w s : List ℕ) (R : List ℕ → Bool) (r : Bool) (t : List ℕ) → starts_with nat_eq s w ≡ true → t ≡ drop (length w) s → r ≡ R t → r ≡ cuts (is_same w) R s
front_yes w s R r t h e told = told ∙ (ap R e ∙ (ap (λ b. b && R (drop (length w) s)) (sym h) ∙ front_cut w s R))

pub front_no : (w s : List ℕ) (R : List ℕ → Bool) → starts_with nat_eq s w ≡ false → false ≡ cuts (is_same w) R s
front_no w s R h = ap (λ b. b && R (drop (length w) s)) (sym h) ∙ front_cut w s R

-- ## Prefixes

-- a cut behind what passes either test
cuts_first : (P Q T R : List ℕ → Bool) → ((p : List ℕ) → T p ≡ (P p || Q p)) → (s : List ℕ) → (cuts P R s || cuts Q R s) ≡ cuts T R s
cuts_first P Q T R same s =
    same_tests (cuts P R s || cuts Q R s) (cuts T R s)
    (λ h. elim (or_cases (cuts P R s) (cuts Q R s) h) [
      | inl e ↦ let i = cuts_give P R s e in subst (λ z. cuts T R z ≡ true) (sym i.whole) (cuts_from T R i.front i.rest (same i.front ∙ or_left (P i.front) (Q i.front) i.first) i.second)
      | inr e ↦ let i = cuts_give Q R s e in subst (λ z. cuts T R z ≡ true) (sym i.whole) (cuts_from T R i.front i.rest (same i.front ∙ or_right (P i.front) (Q i.front) i.first) i.second)
    ])
    (λ h. let i = cuts_give T R s h in elim (or_cases (P i.front) (Q i.front) (sym (same i.front) ∙ i.first)) [
      | inl e ↦ or_left (cuts P R s) (cuts Q R s) (subst (λ z. cuts P R z ≡ true) (sym i.whole) (cuts_from P R i.front i.rest e i.second))
      | inr e ↦ or_right (cuts P R s) (cuts Q R s) (subst (λ z. cuts Q R z ≡ true) (sym i.whole) (cuts_from Q R i.front i.rest e i.second))
    ])

same_swap : (a b : List ℕ) → is_same a b ≡ is_same b a
same_swap a b =
    same_tests (is_same a b) (is_same b a) (λ h. subst (λ z. is_same z a ≡ true) (same_is a b h) (same_refl a)) (λ h. subst (λ z. is_same z b ≡ true) (same_is b a h) (same_refl b))

-- one prefix more
prefix_or : (w : List ℕ) (ws : List (List ℕ)) (R : List ℕ → Bool) (s : List ℕ) → (cuts (is_same w) R s || cuts (λ p. list_any (is_same p) ws) R s) ≡ cuts (λ p. list_any (is_same p) (w ∷ ws)) R s
prefix_or w ws R s = cuts_first (is_same w) (λ p. list_any (is_same p) ws) (λ p. list_any (is_same p) (w ∷ ws)) R (λ p. ap (λ b. b || list_any (is_same p) ws) (same_swap p w)) s

no_prefix : (R : List ℕ → Bool) (s : List ℕ) → cuts (λ p. false) R s ≡ false
no_prefix R s = false_from_ne_true (cuts (λ p. false) R s) (λ h. let i = cuts_give (λ p. false) R s h in let f = i.first in cc)

or_none : (b : Bool) → b ≡ (b || false)
or_none true = refl
or_none false = refl

-- the last prefix
prefix_last : (w : List ℕ) (R : List ℕ → Bool) (s : List ℕ) → cuts (is_same w) R s ≡ cuts (λ p. list_any (is_same p) (w ∷ [])) R s
prefix_last w R s = or_none (cuts (is_same w) R s) ∙ (ap (λ b. cuts (is_same w) R s || b) (sym (no_prefix R s)) ∙ prefix_or w [] R s)

-- a literal with one of five prefixes, tried one after another
five : (R : List ℕ → Bool) (s a b c e f : List ℕ) → (cuts (is_same a) R s || (cuts (is_same b) R s || (cuts (is_same c) R s || (cuts (is_same e) R s || cuts (is_same f) R s)))) ≡ cuts (λ p. list_any (is_same p) (a ∷ b ∷ c ∷ e ∷ f ∷ [])) R s
five R s a b c e f =
    ap (λ z. cuts (is_same a) R s || (cuts (is_same b) R s || (cuts (is_same c) R s || (cuts (is_same e) R s || z)))) (prefix_last f R s)
    ∙ (ap (λ z. cuts (is_same a) R s || (cuts (is_same b) R s || (cuts (is_same c) R s || z))) (prefix_or e (f ∷ []) R s)
    ∙ (ap (λ z. cuts (is_same a) R s || (cuts (is_same b) R s || z)) (prefix_or c (e ∷ f ∷ []) R s)
    ∙ (ap (λ z. cuts (is_same a) R s || z) (prefix_or b (c ∷ e ∷ f ∷ []) R s) ∙ prefix_or a (b ∷ c ∷ e ∷ f ∷ []) R s)))

four : (R : List ℕ → Bool) (s a b c e : List ℕ) → (cuts (is_same a) R s || (cuts (is_same b) R s || (cuts (is_same c) R s || cuts (is_same e) R s))) ≡ cuts (λ p. list_any (is_same p) (a ∷ b ∷ c ∷ e ∷ [])) R s
four R s a b c e =
    ap (λ z. cuts (is_same a) R s || (cuts (is_same b) R s || (cuts (is_same c) R s || z))) (prefix_last e R s)
    ∙ (ap (λ z. cuts (is_same a) R s || (cuts (is_same b) R s || z)) (prefix_or c (e ∷ []) R s)
    ∙ (ap (λ z. cuts (is_same a) R s || z) (prefix_or b (c ∷ e ∷ []) R s) ∙ prefix_or a (b ∷ c ∷ e ∷ []) R s))

pub strings : (s : List ℕ) → is_quoted is_string_prefix 34 true s ≡ (is_quoted (is_same []) 34 true s || (is_quoted (is_same (codes "L")) 34 true s || (is_quoted (is_same (codes "u")) 34 true s || (is_quoted (is_same (codes "U")) 34 true s || is_quoted (is_same (codes "u8")) 34 true s))))
unfolding is_string_prefix
strings s = sym (five (closes 34 true) s [] (codes "L") (codes "u") (codes "U") (codes "u8"))

pub common_constants : (s : List ℕ) → is_quoted (is_char_prefix C11) 39 false s ≡ (is_quoted (is_same []) 39 false s || (is_quoted (is_same (codes "L")) 39 false s || (is_quoted (is_same (codes "u")) 39 false s || is_quoted (is_same (codes "U")) 39 false s)))
unfolding is_char_prefix
common_constants s = sym (four (closes 39 false) s [] (codes "L") (codes "u") (codes "U"))

or_assoc4 : (a b c e f : Bool) → ((a || (b || (c || e))) || f) ≡ (a || (b || (c || (e || f))))
or_assoc4 true b c e f = refl
or_assoc4 false true c e f = refl
or_assoc4 false false true e f = refl
or_assoc4 false false false e f = refl

pub newer_constants : (s : List ℕ) → is_quoted (is_char_prefix C23) 39 false s ≡ (is_quoted (is_char_prefix C11) 39 false s || is_quoted (is_same (codes "u8")) 39 false s)
unfolding is_char_prefix
newer_constants s =
    sym (five (closes 39 false) s [] (codes "L") (codes "u") (codes "U") (codes "u8"))
    ∙ (sym (or_assoc4 (is_quoted (is_same []) 39 false s) (is_quoted (is_same (codes "L")) 39 false s) (is_quoted (is_same (codes "u")) 39 false s) (is_quoted (is_same (codes "U")) 39 false s) (is_quoted (is_same (codes "u8")) 39 false s))
    ∙ ap (λ z. z || is_quoted (is_same (codes "u8")) 39 false s) (four (closes 39 false) s [] (codes "L") (codes "u") (codes "U")))

-- ## Ends

pub last_split : (s : List ℕ) → 0 < length s → s ≡ take (length s - 1) s ++ get_or s (length s - 1) 0 ∷ []
last_split [] h = absurd (omega arith)
last_split (c ∷ []) h = refl
last_split (c ∷ b ∷ s) h =
    let e : length (c ∷ b ∷ s) - 1 ≡ suc (length (b ∷ s) - 1) = omega arith in
    rw e (ap (λ z. c ∷ z) (last_split (b ∷ s) (omega arith)))

pub ends_split : (s : List ℕ) → 2 ≤ length s → s ≡ get_or s 0 0 ∷ (take (length s - 1 - 1) (drop 1 s) ++ get_or s (length s - 1) 0 ∷ [])
ends_split [] h = absurd (omega arith)
ends_split (c ∷ s) h =
    let e : length (c ∷ s) - 1 ≡ suc (length s - 1) = omega arith in
    let f : suc (length s - 1) - 1 ≡ length s - 1 = omega arith in
    rw (e, f) (ap (λ z. c ∷ z) (last_split s (omega arith)))

pub test_yes : (y x : ℕ) (a r : Bool) → y ≡ x → ((y == x) && a) ≡ r → a ≡ r
test_yes y x a r e h = ap (λ z. z && a) (sym (eq-eqb y x e)) ∙ h

pub test_no : (y x : ℕ) (a r : Bool) → (y ≡ x → ⊥) → ((y == x) && a) ≡ r → (y == x) ≡ r
test_no y x a r n h = let f = ne_eqb y x n in f ∙ (ap (λ z. z && a) (sym f) ∙ h)

pub closes_ends : (q : ℕ) (may : Bool) (s : List ℕ) → 2 ≤ length s → ((get_or s 0 0 == q) && ((get_or s (length s - 1) 0 == q) && is_inside q may (take (length s - 1 - 1) (drop 1 s)))) ≡ closes q may s
closes_ends q may s h = closed q may (get_or s 0 0) (take (length s - 1 - 1) (drop 1 s)) s (get_or s (length s - 1) 0) (ends_split s h)

pub cut_off_end : (q : ℕ) (s : List ℕ) → 0 < length s → ((get_or s (length s - 1) 0 == 92) && are_units (is_quoted_unit q) (take (length s - 1) s)) ≡ ends_cut_off q s
cut_off_end q s h = cut_off q (take (length s - 1) s) s (get_or s (length s - 1) 0) (last_split s h)

pub or_yes : (a b r : Bool) → a ≡ true → r ≡ (a || b) → true ≡ r
or_yes a b r h e = ap (λ z. z || b) (sym h) ∙ sym e

pub or_no : (a b r : Bool) → a ≡ false → r ≡ (a || b) → b ≡ r
or_no a b r h e = ap (λ z. z || b) (sym h) ∙ sym e
