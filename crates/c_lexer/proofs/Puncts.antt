-- The punctuator that the code cuts off is the longest.
use Rattle.std.proofs.Common.{◌≡◌, ◌==◌, ◌||◌, ◌&&◌, not, ℕ, ◌<◌, ◌≤◌, Bool, true, false, List, [], ◌∷◌, ◌++◌, length, take, drop, refl, sym, ◌∙◌, ap, subst, arith, inl, inr, ◌⊎◌, append_assoc, nat_eq, length-append, length-take, length-drop}
use Rattle.std.specs.Prelude.{codes}
use Rattle.std.specs.List.{list_any, list_all, starts_with}
use Rattle.std.proofs.lemmas.Bool.{and_parts, or_cases, and_from, or_left, or_right, eqb-true, eq-eqb, cases_Bool, not-true, both_ways, false_from_ne_true, cases_lt}
use Rattle.std.proofs.lemmas.List.{take-append-drop}
use Rattle.c_grammar.specs.Grammar.{is_of, is_same, is_digit, is_number_head, common_punctuators, punctuators, is_punctuator, Shape, Whole, Unended, Spells}
use Rattle.c_grammar.specs.Touch.{starts, is_front}
use Rattle.c_lexer.specs.Run.{long, common_long, first_front, IsCut, begins_long, goes_on_long, is_pair_mark}
use Rattle.c_chars.specs.declared.Dialect.{Dialect}
use Rattle.c_chars.specs.declared.Dialect.TheVariants.{C11, C23}
use Rattle.item_kinds.specs.declared.ItemKind.TheVariants.{Identifier, Number, CharConst, StringLit, Punct, HeaderName, StrayQuote, Other, BlockComment, LineComment}
use Rattle.c_grammar.proofs.Lists.{in_table, same_is, same_refl}
use Rattle.c_grammar.proofs.Firsts.{Begins, high_not_mark, is_quote, is_mark, is_letter_start}
use Rattle.c_grammar.proofs.Classes.{mark_not_letter_start, mark_not_quote, digit_not_mark, mark_is_punctuator}
use Rattle.c_grammar.proofs.Goes.{BothBegin, both_begin, no_punct_front, mark_no_prefix, other_first}

-- the first two characters can be those of a punctuator
abbrev pub may_be_long : List ℕ → Bool
may_be_long [] = false
may_be_long (c ∷ []) = false
may_be_long (c ∷ e ∷ s) = begins_long c && goes_on_long e

front_same : (s p : List ℕ) → starts_with nat_eq s p ≡ is_front p s
front_same s [] = refl
front_same [] (x ∷ p) = refl
front_same (c ∷ s) (x ∷ p) = let h = front_same s p in ap (λ b. (x == c) && b) h

-- no entry begins a later one
abbrev ordered : List (List ℕ) → Bool
ordered [] = true
ordered (p ∷ ps) = list_all (λ q. not (is_front p q)) ps && ordered ps

-- of two fronts of one text the shorter is a front of the longer
shorter : (p q s : List ℕ) → is_front p s ≡ true → is_front q s ≡ true → length p < length q → is_front p q ≡ true
shorter [] q s hp hq l = refl
shorter (x ∷ p) [] s hp hq l = absurd (omega arith)
shorter (x ∷ p) (y ∷ q) [] hp hq l = cc
shorter (x ∷ p) (y ∷ q) (c ∷ s) hp hq l =
    let a = and_parts (x == c) (is_front p s) hp in
    let b = and_parts (y == c) (is_front q s) hq in
    let xc : x ≡ c = eqb-true x c a.0 in
    let yc : y ≡ c = eqb-true y c b.0 in
    let l' : length p < length q = omega arith in
    and_from (x == y) (is_front p q) (eq-eqb x y (xc ∙ sym yc)) (shorter p q s a.1 b.1 l')

first_is_longest : (table : List (List ℕ)) (q s : List ℕ) → ordered table ≡ true → list_any (is_same q) table ≡ true → is_front q s ≡ true → length q ≤ first_front table s
first_is_longest [] q s o h f = cc
first_is_longest (p ∷ ps) q s o h f =
    let os = and_parts (list_all (λ z. not (is_front p z)) ps) (ordered ps) o in
    elim (cases_Bool (starts_with nat_eq s p)) [
      | inl y ↦ elim (or_cases (is_same q p) (list_any (is_same q) ps) h) [
        | inl e ↦ let is : q ≡ p = same_is q p e in let len : length q ≡ length p = ap length is in rw y (omega arith)
        | inr e ↦
            let apart : is_front p q ≡ false = not-true (is_front p q) (in_table (λ z. not (is_front p z)) ps os.0 q e) in
            let front : is_front p s ≡ true = sym (front_same s p) ∙ y in
            rw y (not_longer p q s front f apart)
      ]
      | inr n ↦ elim (or_cases (is_same q p) (list_any (is_same q) ps) h) [
        | inl e ↦ let is : q ≡ p = same_is q p e in absurd (both_ways (is_front q s) (subst (λ z. is_front z s ≡ false) (sym is) (sym (front_same s p) ∙ n)) f)
        | inr e ↦ rw n (first_is_longest ps q s os.1 e f)
      ]
    ]
  where
    not_longer : (p q s : List ℕ) → is_front p s ≡ true → is_front q s ≡ true → is_front p q ≡ false → length q ≤ length p
    not_longer p q s a b n = elim (cases_lt (length p) (length q)) [ inl l ↦ absurd (both_ways (is_front p q) n (shorter p q s a b l)) | inr l ↦ l ]

-- what the first front is: an entry, or one character
front_take : (p s : List ℕ) → is_front p s ≡ true → take (length p) s ≡ p
front_take [] s h = refl
front_take (x ∷ p) [] h = cc
front_take (x ∷ p) (c ∷ s) h =
    let a = and_parts (x == c) (is_front p s) h in
    let xc : x ≡ c = eqb-true x c a.0 in
    let r = front_take p s a.1 in
    cc

first_taken : (table : List (List ℕ)) (s : List ℕ) → (list_any (is_same (take (first_front table s) s)) table ≡ true) ⊎ (first_front table s ≡ 1)
first_taken [] s = inr refl
first_taken (p ∷ ps) s = elim (cases_Bool (starts_with nat_eq s p)) [
  | inl y ↦
      let front : is_front p s ≡ true = sym (front_same s p) ∙ y in
      let is = front_take p s front in
      let same : is_same (take (length p) s) p ≡ true = rw is (same_refl p) in
      taken_at p ps s (length p) (rw y refl) (inl (or_left (is_same (take (length p) s) p) (list_any (is_same (take (length p) s)) ps) same))
  | inr n ↦ elim (first_taken ps s) [
    | inl h ↦ taken_at p ps s (first_front ps s) (rw n refl) (inl (or_right (is_same (take (first_front ps s) s) p) (list_any (is_same (take (first_front ps s) s)) ps) h))
    | inr h ↦ taken_at p ps s (first_front ps s) (rw n refl) (inr h)
  ]
]
  where
    taken_at : (p : List ℕ) (ps : List (List ℕ)) (s : List ℕ) (n : ℕ) → first_front (p ∷ ps) s ≡ n → (list_any (is_same (take n s)) (p ∷ ps) ≡ true) ⊎ (n ≡ 1) → (list_any (is_same (take (first_front (p ∷ ps) s) s)) (p ∷ ps) ≡ true) ⊎ (first_front (p ∷ ps) s ≡ 1)
    taken_at p ps s n e h = subst (λ m. (list_any (is_same (take m s)) (p ∷ ps) ≡ true) ⊎ (m ≡ 1)) (sym e) h

-- a punctuator of the code's table is one, and one of two characters or more is in that table

abbrev is_single : List ℕ → Bool
is_single [] = false
is_single (c ∷ []) = true
is_single (c ∷ e ∷ s) = false

pub long_or_single : (d : Dialect) (q : List ℕ) → is_punctuator d q ≡ true → (is_single q || list_any (is_same q) (long d)) ≡ true
unfolding is_punctuator punctuators
long_or_single C11 q h = in_table (λ z. is_single z || list_any (is_same z) common_long) common_punctuators refl q h
long_or_single C23 q h = in_table (λ z. is_single z || list_any (is_same z) (codes "::" ∷ common_long)) (codes "::" ∷ common_punctuators) refl q h

long_punctuator : (d : Dialect) (q : List ℕ) → list_any (is_same q) (long d) ≡ true → is_punctuator d q ≡ true
unfolding is_punctuator punctuators
long_punctuator C11 q h = in_table (is_punctuator C11) common_long refl q h
long_punctuator C23 q h = in_table (is_punctuator C23) (codes "::" ∷ common_long) refl q h

long_ordered : (d : Dialect) → ordered (long d) ≡ true
long_ordered C11 = refl
long_ordered C23 = refl

moved_mark : (d : Dialect) (l : List ℕ) (c : ℕ) (more : List ℕ) → {k : Shape} → BothBegin d (Whole Punct) k l → Begins is_mark (l ++ c ∷ more)
moved_mark d l c more b = record { c = b.f; rest = b.rest ++ c ∷ more; whole = ap (λ x. x ++ c ∷ more) b.whole; passes = b.first }

number_front : (s head tail : List ℕ) → is_number_head head ≡ true → s ≡ head ++ tail → Begins is_mark s → no_punct_front s ≡ true → ⊥
unfolding is_number_head
number_front s [] tail h w b n = cc
number_front s (a ∷ []) tail h w b n = elim (or_cases (is_digit a) false h) [
  | inl e ↦ let bw = b.whole in let heads : b.c ≡ a = cc in both_ways (is_mark a) (digit_not_mark a e) (subst (λ x. is_mark x ≡ true) heads b.passes)
  | inr e ↦ cc
]
number_front s (a ∷ g ∷ []) tail h w b n =
    let parts = and_parts (a == 46) (is_digit g) h in
    let f : no_punct_front (a ∷ g ∷ tail) ≡ true = subst (λ x. no_punct_front x ≡ true) w n in
    let first = (and_parts (not ((a == 46) && is_digit g)) (not ((a == 47) && (g == 47)) && not ((a == 47) && (g == 42))) f).0 in
    both_ways ((a == 46) && is_digit g) (not-true _ first) h
number_front s (a ∷ g ∷ e ∷ u) tail h w b n = cc

-- what goes on from a punctuator is one, where no number and no comment begins
punct_only : (d : Dialect) (k : Shape) (l : List ℕ) (c : ℕ) (more : List ℕ) → Spells d k (l ++ c ∷ more) → BothBegin d (Whole Punct) k l → no_punct_front (l ++ c ∷ more) ≡ true → is_punctuator d (l ++ c ∷ more) ≡ true
unfolding is_quote
punct_only d (Whole Identifier) l c more h b n = absurd (both_ways (is_letter_start b.f) (mark_not_letter_start b.f b.first) b.second)
punct_only d (Whole Number) l c more h b n = absurd (number_front (l ++ c ∷ more) h.head h.tail h.begins h.whole (moved_mark d l c more b) n)
punct_only d (Whole CharConst) l c more h b n = absurd (mark_no_prefix 39 b.f refl b.first b.second)
punct_only d (Whole StringLit) l c more h b n = absurd (mark_no_prefix 34 b.f refl b.first b.second)
punct_only d (Whole Punct) l c more h b n = h
punct_only d (Whole HeaderName) l c more h b n = absurd h
punct_only d (Whole StrayQuote) l c more h b n = absurd (both_ways (is_quote b.f) (mark_not_quote b.f b.first) b.second)
punct_only d (Whole Other) l c more h b n = absurd (both_ways (is_mark b.f) (high_not_mark b.f (other_first d l b.f b.rest c more b.whole h)) b.first)
punct_only d (Whole BlockComment) l c more h b n = let w = h.whole in let g : no_punct_front (47 ∷ 42 ∷ (h.body ++ 42 ∷ 47 ∷ [])) ≡ true = subst (λ x. no_punct_front x ≡ true) w n in cc
punct_only d (Whole LineComment) l c more h b n = let w = h.whole in let g : no_punct_front (47 ∷ 47 ∷ h.body) ≡ true = subst (λ x. no_punct_front x ≡ true) w n in cc
punct_only d Unended l c more h b n = let w = h.whole in let g : no_punct_front (47 ∷ 42 ∷ h.body) ≡ true = subst (λ x. no_punct_front x ≡ true) w n in cc

front_append : (q left : List ℕ) → is_front q (q ++ left) ≡ true
front_append [] left = refl
front_append (c ∷ q) left = and_from (c == c) (is_front q (q ++ left)) (eq-eqb c c refl) (front_append q left)

front_keeps : (q left : List ℕ) → no_punct_front (q ++ left) ≡ true → no_punct_front q ≡ true
front_keeps [] left h = refl
front_keeps (c ∷ []) left h = refl
front_keeps (c ∷ e ∷ q) left h = h

single_short : (l : List ℕ) (f : ℕ) (rest : List ℕ) (c : ℕ) (more : List ℕ) → l ≡ f ∷ rest → is_single (l ++ c ∷ more) ≡ true → ⊥
single_short l f [] c more w h = let g : is_single (f ∷ c ∷ more) ≡ true = subst (λ x. is_single (x ++ c ∷ more) ≡ true) w h in cc
single_short l f (e ∷ rest) c more w h = let g : is_single (f ∷ e ∷ (rest ++ c ∷ more)) ≡ true = subst (λ x. is_single (x ++ c ∷ more) ≡ true) w h in cc

first_punct : (d : Dialect) (s : List ℕ) → starts is_mark s ≡ true → is_punctuator d (take (first_front (long d) s) s) ≡ true
first_punct d [] h = cc
first_punct d (c ∷ s) h = elim (first_taken (long d) (c ∷ s)) [
  | inl e ↦ long_punctuator d (take (first_front (long d) (c ∷ s)) (c ∷ s)) e
  | inr e ↦ subst (λ n. is_punctuator d (take n (c ∷ s)) ≡ true) (sym e) (mark_is_punctuator d c h)
]

no_longer : (d : Dialect) (s l : List ℕ) (n e : ℕ) (k : Shape) (more left : List ℕ) → n ≡ first_front (long d) s → l ≡ take n s → is_punctuator d l ≡ true → no_punct_front s ≡ true → drop n s ≡ (e ∷ more) ++ left → Spells d k (l ++ e ∷ more) → ⊥
no_longer d s l n e k more left n_is l_is p f w g =
    let b = both_begin d (Whole Punct) k l e more p g in
    let whole : s ≡ (l ++ e ∷ more) ++ left = sym (take-append-drop n s) ∙ (ap (λ x. take n s ++ x) w ∙ (ap (λ x. x ++ ((e ∷ more) ++ left)) (sym l_is) ∙ sym (append_assoc l (e ∷ more) left))) in
    let kept : no_punct_front (l ++ e ∷ more) ≡ true = front_keeps (l ++ e ∷ more) left (subst (λ x. no_punct_front x ≡ true) whole f) in
    let punct = punct_only d k l e more g b kept in
    elim (or_cases (is_single (l ++ e ∷ more)) (list_any (is_same (l ++ e ∷ more)) (long d)) (long_or_single d (l ++ e ∷ more) punct)) [
      | inl i ↦ single_short l b.f b.rest e more b.whole i
      | inr i ↦
          let front : is_front (l ++ e ∷ more) s ≡ true = subst (λ x. is_front (l ++ e ∷ more) x ≡ true) (sym whole) (front_append (l ++ e ∷ more) left) in
          let bound : length (l ++ e ∷ more) ≤ first_front (long d) s = first_is_longest (long d) (l ++ e ∷ more) s (long_ordered d) i front in
          let rest_len : length (drop n s) ≡ length ((e ∷ more) ++ left) = ap length w in
          let l_len : length l ≡ length (take n s) = ap length l_is in
          absurd (omega (arith, length-append l (e ∷ more), length-take n s, length-drop n s, bound, rest_len, l_len, n_is))
    ]

pub punct_cut : (d : Dialect) (s : List ℕ) (n : ℕ) → starts is_mark s ≡ true → no_punct_front s ≡ true → n ≡ first_front (long d) s → IsCut d (Whole Punct) s n
punct_cut d s n m f n_is =
    let p : is_punctuator d (take n s) ≡ true = subst (λ k. is_punctuator d (take k s) ≡ true) (sym n_is) (first_punct d s m) in
    record { spells = p; longest = λ k e more left w g. no_longer d s (take n s) n e k more left n_is refl p f w g }

-- where the first two characters begin no entry, no entry does

both_long : (p s : List ℕ) → is_front p s ≡ true → may_be_long p ≡ true → may_be_long s ≡ true
both_long [] s f h = cc
both_long (a ∷ []) s f h = cc
both_long (a ∷ b ∷ p) [] f h = cc
both_long (a ∷ b ∷ p) (c ∷ []) f h = absurd (both_ways false refl (and_parts (a == c) false f).1)
both_long (a ∷ b ∷ p) (c ∷ e ∷ s) f h =
    let x = and_parts (a == c) ((b == e) && is_front p s) f in
    let y = and_parts (b == e) (is_front p s) x.1 in
    let ac : a ≡ c = eqb-true a c x.0 in
    let be : b ≡ e = eqb-true b e y.0 in
    subst (λ z. (begins_long z && goes_on_long e) ≡ true) ac (subst (λ z. (begins_long a && goes_on_long z) ≡ true) be h)

no_entry : (table : List (List ℕ)) (s : List ℕ) → list_all may_be_long table ≡ true → may_be_long s ≡ false → first_front table s ≡ 1
no_entry [] s h n = refl
no_entry (p ∷ ps) s h n =
    let parts = and_parts (may_be_long p) (list_all may_be_long ps) h in
    let apart : starts_with nat_eq s p ≡ false = front_same s p ∙ false_from_ne_true (is_front p s) (λ f. both_ways (may_be_long s) n (both_long p s f parts.0)) in
    rw apart (no_entry ps s parts.1 n)

long_all : (d : Dialect) → list_all may_be_long (long d) ≡ true
unfolding begins_long goes_on_long
long_all C11 = refl
long_all C23 = refl

pub not_long : (d : Dialect) (s : List ℕ) → may_be_long s ≡ false → first_front (long d) s ≡ 1
not_long d s n = no_entry (long d) s (long_all d) n

-- one before an equals sign
pub equals_pair : (a b : ℕ) → b ≡ 61 → is_of (codes "=!+<>-|&*/%^") a ≡ is_pair_mark a b
unfolding is_pair_mark
equals_pair a b e = let same = eq-eqb b 61 e in rw same refl
