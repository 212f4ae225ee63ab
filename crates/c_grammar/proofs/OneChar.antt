-- The one character past ASCII that bytes are, in UTF-8, and which test it passes.
use Rattle.std.proofs.Common.{◌≡◌, ◌==◌, ◌&&◌, ◌<◌, ◌≤◌, ℕ, Bool, true, false, List, [], ◌∷◌, ◌++◌, length, refl, sym, ◌∙◌, ap, subst, arith}
use Rattle.std.specs.Prelude.{Option, Some, None, slice_get, MatchOption, nat_le}
use Rattle.std.specs.Char.{encode_utf8}
use Rattle.std.specs.Str.{is_utf8, IsUtf8, chars}
use Rattle.std.proofs.lemmas.Bool.{and_from, and_parts, eqb-true, leb-true, le-leb, eq-eqb, false_from_ne_true}
use Rattle.std.proofs.lemmas.Str.{chars-nil, chars_past_char, is_utf8-from_IsUtf8}
use Rattle.c_grammar.specs.Grammar.{is_one, is_wide}
use Rattle.c_grammar.specs.Utf8.{any_char, only}
use Rattle.c_grammar.proofs.Wide.{wide_parts}

pub one_weaken : (p q : ℕ → Bool) → ((c : ℕ) → p c ≡ true → q c ≡ true) → (cs : List ℕ) → is_one p cs ≡ true → is_one q cs ≡ true
one_weaken p q f [] h = cc
one_weaken p q f (c ∷ []) h = f c h
one_weaken p q f (c ∷ e ∷ cs) h = cc

pub wide_weaken : (p q : ℕ → Bool) → ((c : ℕ) → p c ≡ true → q c ≡ true) → (u : List ℕ) → is_wide p u ≡ true → is_wide q u ≡ true
unfolding is_wide
wide_weaken p q f u h =
    let parts = and_parts (is_utf8 u) (is_one (λ c. nat_le 128 c && p c) (chars u)) h in
    and_from (is_utf8 u) (is_one (λ c. nat_le 128 c && q c) (chars u)) parts.0
    (one_weaken (λ c. nat_le 128 c && p c) (λ c. nat_le 128 c && q c) (λ c g. let both = and_parts (nat_le 128 c) (p c) g in and_from (nat_le 128 c) (q c) both.0 (f c both.1)) (chars u) parts.1)

pub wide_any : (p : ℕ → Bool) (u : List ℕ) → is_wide p u ≡ true → is_wide any_char u ≡ true
wide_any p u h = wide_weaken p any_char (λ c g. refl) u h

pub wide_only : (q : ℕ → Bool) (c : ℕ) (u : List ℕ) → q c ≡ true → is_wide (only c) u ≡ true → is_wide q u ≡ true
wide_only q c u h g = wide_weaken (only c) q (λ e i. subst (λ z. q z ≡ true) (sym (eqb-true e c i)) h) u g

pub not_utf8 : (bs : List ℕ) → (IsUtf8 bs → ⊥) → is_wide any_char bs ≡ false
not_utf8 bs n = false_from_ne_true (is_wide any_char bs) (λ h. n (wide_parts any_char bs h).utf8)

-- the first character of such bytes
first_char : (bs : List ℕ) → is_wide any_char bs ≡ true → (o : Option ℕ) → o ≡ slice_get (chars bs) 0 → MatchOption o ⊥ (λ c. (128 ≤ c) × (chars bs ≡ c ∷ []))
first_char bs h None e = let w = wide_parts any_char bs h in let d = w.decoded in let n : None ≡ slice_get (w.code ∷ []) 0 = e ∙ ap (λ z. slice_get z 0) d in cc
first_char bs h (Some c) e =
    let w = wide_parts any_char bs h in
    let n : Some c ≡ slice_get (w.code ∷ []) 0 = e ∙ ap (λ z. slice_get z 0) w.decoded in
    let same : w.code ≡ c = cc in
    (subst (λ z. 128 ≤ z) same (leb-true 128 w.code w.past), w.decoded ∙ ap (λ z. z ∷ []) same)

pub no_first : (bs : List ℕ) → None ≡ slice_get (chars bs) 0 → is_wide any_char bs ≡ false
no_first bs e = false_from_ne_true (is_wide any_char bs) (λ h. first_char bs h None e)

pub low_first : (bs : List ℕ) (c : ℕ) → Some c ≡ slice_get (chars bs) 0 → c < 128 → is_wide any_char bs ≡ false
low_first bs c e l = false_from_ne_true (is_wide any_char bs) (λ h. let past : 128 ≤ c = (first_char bs h (Some c) e).0 in omega (arith, past, l))

pub more_than_one : (bs rest : List ℕ) (c e : ℕ) → IsUtf8 bs → bs ≡ encode_utf8 c ++ rest → Some c ≡ slice_get (chars bs) 0 → Some e ≡ slice_get (chars rest) 0 → is_wide any_char bs ≡ false
more_than_one bs rest c e u w f s = false_from_ne_true (is_wide any_char bs) (λ h.
    let one = (first_char bs h (Some c) f).1 in
    let both : c ∷ chars rest ≡ c ∷ [] = sym (chars_past_char bs rest c u w) ∙ one in
    let none : chars rest ≡ [] = cc in
    let n : Some e ≡ slice_get [] 0 = s ∙ ap (λ z. slice_get z 0) none in
    cc)

empty : (s : List ℕ) → length s ≡ 0 → s ≡ []
empty [] h = refl
empty (c ∷ s) h = absurd (omega (arith, h))

pub one_there : (bs rest : List ℕ) (c : ℕ) → IsUtf8 bs → bs ≡ encode_utf8 c ++ rest → length rest ≡ 0 → 128 ≤ c → is_wide (only c) bs ≡ true
unfolding is_wide
one_there bs rest c u w n past =
    let decoded : chars bs ≡ c ∷ [] = chars_past_char bs rest c u w ∙ ap (λ z. c ∷ z) (ap chars (empty rest n) ∙ chars-nil) in
    let passes : (nat_le 128 c && (c == c)) ≡ true = and_from (nat_le 128 c) (c == c) (le-leb 128 c past) (eq-eqb c c refl) in
    and_from (is_utf8 bs) (is_one (λ z. nat_le 128 z && (z == c)) (chars bs)) (is_utf8-from_IsUtf8 bs u) (subst (λ z. is_one (λ k. nat_le 128 k && (k == c)) z ≡ true) (sym decoded) passes)
