-- Units of words and numbers: which one begins a text, and how their runs are cut.
use Rattle.std.proofs.Common.{◌≡◌, ◌≤◌, ◌==◌, ◌||◌, ◌&&◌, ℕ, ◌+◌, Bool, true, false, List, [], ◌∷◌, ◌++◌, length, length-append, refl, sym, ◌∙◌, ap, subst, arith, inl, inr, ◌⊎◌, append_assoc}
use Rattle.std.specs.Prelude.{codes, IsTrue}
use Rattle.std.specs.List.{list_all}
use Rattle.std.proofs.lemmas.Bool.{and_parts, or_cases, and_from, or_left, or_right, eqb-true, both_ways, false_from_ne_true}
use Rattle.std.proofs.lemmas.Bool.Decides.{nat_tests}
use Rattle.unicode_ident.specs.Ident.{is_xid_start, is_xid_continue}
use Rattle.unicode_ident.proofs.IdentLemmas.{is_xid_start-is_xid_continue}
use Rattle.c_chars.specs.declared.Dialect.{Dialect}
use Rattle.c_chars.specs.declared.Dialect.TheVariants.{C11, C23}
use Rattle.c_grammar.specs.Grammar.{AreUnits, joined, is_one, is_two, is_letter, is_digit, is_sign, is_exponent, is_hex, is_wide, is_universal_name, is_letter_unit, is_word_unit, is_number_unit, is_separated}
use Rattle.c_grammar.proofs.Lists.{two_cuts}
use Rattle.c_grammar.proofs.Classes.{not_of}
use Rattle.c_grammar.proofs.Firsts.{is_rare}
use Rattle.c_grammar.proofs.OneChar.{one_weaken, wide_weaken}
use Rattle.c_grammar.proofs.Wide.{is_high, high_first, wide_high, wide_alone}
use Rattle.c_grammar.proofs.Goes.{one_short}
use Rattle.c_grammar.proofs.Singles.{is_word}
use Rattle.c_lexer.specs.Unit.{BeginsUnit, IsLongestHeld, is_rare_unit}

-- Runs of units

-- where a unit goes on from another, no unit begins with what goes on
abbrev pub IsGreedy : (List ℕ → Bool) → Type 0
IsGreedy p = (u more after : List ℕ) (c : ℕ) → p u ≡ true → p (u ++ c ∷ more) ≡ true → p (c ∷ after) ≡ true → ⊥

pub nothing : (p : List ℕ → Bool) → AreUnits p []
nothing p = record { units = []; each = refl; whole = refl }

pub onto : (p : List ℕ → Bool) (u s : List ℕ) → p u ≡ true → AreUnits p s → AreUnits p (u ++ s)
onto p u s h r = record { units = u ∷ r.units; each = and_from (p u) (list_all p r.units) h r.each; whole = ap (λ x. u ++ x) r.whole }

-- units that are no empty list begin with one
first_unit : (p : List ℕ → Bool) (us : List (List ℕ)) (c : ℕ) (s left : List ℕ) → list_all p us ≡ true → c ∷ s ≡ joined us → BeginsUnit p ((c ∷ s) ++ left)
first_unit p [] c s left h e = cc
first_unit p (u ∷ us) c s left h e = record { unit = u; rest = joined us ++ left; passes = (and_parts (p u) (list_all p us) h).0; whole = ap (λ z. z ++ left) e ∙ append_assoc u (joined us) left }

-- where no unit begins a text, no run of them does
pub run_none : (p : List ℕ → Bool) (s : List ℕ) → (BeginsUnit p s → ⊥) → IsLongestHeld (AreUnits p) [] s
run_none p s h = record {
  holds = nothing p;
  longest = λ c more left w g. h (subst (λ z. BeginsUnit p z) (sym w) (first_unit p g.units c more left g.each g.whole));
}

-- a unit, and then the longest run of what is left
pub run_step : (p : List ℕ → Bool) (u run rest : List ℕ) → p [] ≡ false → IsGreedy p → IsLongestHeld (λ z. IsTrue (p z)) u (run ++ rest) → IsLongestHeld (AreUnits p) run rest → IsLongestHeld (AreUnits p) (u ++ run) rest
run_step p u run rest empty greedy first later = record {
  holds = onto p u run first.holds later.holds;
  longest = λ c more left w g. goes_on c more left w g.units g.each (sym (append_assoc u run (c ∷ more)) ∙ g.whole);
}
  where
    goes_on : (c : ℕ) (more left : List ℕ) → rest ≡ (c ∷ more) ++ left → (vs : List (List ℕ)) → list_all p vs ≡ true → u ++ (run ++ c ∷ more) ≡ joined vs → ⊥
    goes_on c more left w [] h e =
        let n : length (u ++ (run ++ c ∷ more)) ≡ 0 = ap length e in
        omega (arith, n, length-append u (run ++ c ∷ more), length-append run (c ∷ more))
    goes_on c more left w (v ∷ vs) h e =
        let parts = and_parts (p v) (list_all p vs) h in
        elim (two_cuts u (run ++ c ∷ more) v (joined vs) e) [
          | inl same ↦ later.longest c more left w (record { units = vs; each = parts.1; whole = same.rest_is })
          | inr on ↦ elim on [
            | inl g ↦
                let there : run ++ rest ≡ (g.c ∷ g.more) ++ (joined vs ++ left) =
                ap (λ z. run ++ z) w ∙ (sym (append_assoc run (c ∷ more) left) ∙ (ap (λ z. z ++ left) g.rest_is ∙ append_assoc (g.c ∷ g.more) (joined vs) left)) in
                first.longest g.c g.more (joined vs ++ left) there (subst (λ z. p z ≡ true) g.front_is parts.0)
            | inr g ↦ shorter g.c g.more v vs parts.0 (subst (λ z. p z ≡ true) g.front_is first.holds) parts.1 (run ++ c ∷ more) g.rest_is
          ]
        ]
      where
        shorter : (c : ℕ) (more v : List ℕ) (vs : List (List ℕ)) → p v ≡ true → p (v ++ c ∷ more) ≡ true → list_all p vs ≡ true → (x : List ℕ) → joined vs ≡ (c ∷ more) ++ x → ⊥
        shorter c more v [] h k a x e = cc
        shorter c more v ([] ∷ ws) h k a x e = both_ways (p []) empty (and_parts (p []) (list_all p ws) a).0
        shorter c more v ((b ∷ w) ∷ ws) h k a x e =
            let head : b ≡ c = cc in
            greedy v more w c h k (subst (λ z. p (z ∷ w) ≡ true) head (and_parts (p (b ∷ w)) (list_all p ws) a).0)

-- Rare units: universal character names, and characters past ASCII

-- two characters and more, the first of which is a backslash or past ASCII
pub record IsLongRare (u : List ℕ) : Type 0 where
  pub first : ℕ
  pub second : ℕ
  pub rest : List ℕ
  pub whole : u ≡ first ∷ second ∷ rest
  pub rare : is_rare first ≡ true

name_long : (u : List ℕ) → is_universal_name u ≡ true → IsLongRare u
unfolding is_universal_name
name_long [] h = cc
name_long (b ∷ []) h = cc
name_long (b ∷ k ∷ digits) h =
    let parts = and_parts (b == 92) (((k == 117) && (length digits == 4)) || ((k == 85) && (length digits == 8))) (and_parts _ (list_all is_hex digits) h).0 in
    record { first = b; second = k; rest = digits; whole = refl; rare = or_left (b == 92) (is_high b) parts.0 }

wide_long : (p : ℕ → Bool) (u : List ℕ) → is_wide p u ≡ true → IsLongRare u
wide_long p u h = let a = wide_high p u h in record { first = a.first; second = a.second; rest = a.rest; whole = a.whole; rare = or_right (a.first == 92) (is_high a.first) (high_first u a) }

pub rare_long : (p : ℕ → Bool) (u : List ℕ) → is_rare_unit p u ≡ true → IsLongRare u
unfolding is_rare_unit
rare_long p u h = elim (or_cases (is_universal_name u) (is_wide p u) h) [ inl e ↦ name_long u e | inr e ↦ wide_long p u e ]

pub rare_first : (p : ℕ → Bool) (c : ℕ) (s : List ℕ) → is_rare_unit p (c ∷ s) ≡ true → is_rare c ≡ true
rare_first p c s h = let l = rare_long p (c ∷ s) h in let head : l.first ≡ c = let w = l.whole in cc in subst (λ z. is_rare z ≡ true) head l.rare

pub rare_start_is_word : (u : List ℕ) → is_rare_unit is_xid_start u ≡ true → is_rare_unit is_xid_continue u ≡ true
unfolding is_rare_unit
rare_start_is_word u h = elim (or_cases (is_universal_name u) (is_wide is_xid_start u) h) [
  | inl e ↦ or_left (is_universal_name u) (is_wide is_xid_continue u) e
  | inr e ↦ or_right (is_universal_name u) (is_wide is_xid_continue u) (wide_weaken is_xid_start is_xid_continue is_xid_start-is_xid_continue u e)
]

-- no universal character name goes on from another
name_alone : (u : List ℕ) (c : ℕ) (more : List ℕ) → is_universal_name u ≡ true → is_universal_name (u ++ c ∷ more) ≡ true → ⊥
unfolding is_universal_name
name_alone [] c more h g = cc
name_alone (b ∷ []) c more h g = cc
name_alone (b ∷ k ∷ digits) c more h g =
    let short = (and_parts (b == 92) _ (and_parts _ (list_all is_hex digits) h).0).1 in
    let long = (and_parts (b == 92) _ (and_parts _ (list_all is_hex (digits ++ c ∷ more)) g).0).1 in
    lengths (k == 117) (k == 85) (length digits) (length (digits ++ c ∷ more)) (omega (arith, length-append digits (c ∷ more))) (apart k) short long
  where
    apart : (k : ℕ) → (k == 117) ≡ true → (k == 85) ≡ true → ⊥
    apart k a b = let x = eqb-true k 117 a in let y = eqb-true k 85 b in omega (arith, x, y)

    lengths : (a b : Bool) (n m : ℕ) → n + 1 ≤ m → (a ≡ true → b ≡ true → ⊥) → ((a && (n == 4)) || (b && (n == 8))) ≡ true → ((a && (m == 4)) || (b && (m == 8))) ≡ true → ⊥
    lengths a b n m l x short long = elim (or_cases (a && (n == 4)) (b && (n == 8)) short) [
      | inl i ↦ let p = and_parts a (n == 4) i in elim (or_cases (a && (m == 4)) (b && (m == 8)) long) [
        | inl j ↦ let q = and_parts a (m == 4) j in let r = eqb-true n 4 p.1 in let s = eqb-true m 4 q.1 in omega (arith, l, r, s)
        | inr j ↦ x p.0 (and_parts b (m == 8) j).0
      ]
      | inr i ↦ let p = and_parts b (n == 8) i in elim (or_cases (a && (m == 4)) (b && (m == 8)) long) [
        | inl j ↦ x (and_parts a (m == 4) j).0 p.0
        | inr j ↦ let q = and_parts b (m == 8) j in let r = eqb-true n 8 p.1 in let s = eqb-true m 8 q.1 in omega (arith, l, r, s)
      ]
    ]

-- a universal character name begins with a backslash, and a character past ASCII doesn't
name_not_wide : (p : ℕ → Bool) (u v : List ℕ) (c : ℕ) (s t : List ℕ) → u ≡ c ∷ s → v ≡ c ∷ t → is_universal_name u ≡ true → is_wide p v ≡ true → ⊥
unfolding is_universal_name
name_not_wide p [] v c s t e f h g = cc
name_not_wide p (b ∷ []) v c s t e f h g = cc
name_not_wide p (b ∷ k ∷ digits) v c s t e f h g =
    let slash = (and_parts (b == 92) _ (and_parts _ (list_all is_hex digits) h).0).0 in
    let a = wide_high p v g in
    let w = a.whole in
    let same : a.first ≡ b = cc in
    let is : a.first ≡ 92 = same ∙ eqb-true b 92 slash in
    both_ways (is_high 92) refl (subst (λ z. is_high z ≡ true) is (high_first v a))

-- no rare unit goes on from another
pub rare_alone : (p q : ℕ → Bool) (u : List ℕ) (c : ℕ) (more : List ℕ) → is_rare_unit p u ≡ true → is_rare_unit q (u ++ c ∷ more) ≡ true → ⊥
unfolding is_rare_unit
rare_alone p q u c more h g =
    let l = rare_long p u h in
    let w = l.whole in
    let longer : u ++ c ∷ more ≡ l.first ∷ (l.second ∷ (l.rest ++ c ∷ more)) = ap (λ z. z ++ c ∷ more) w in
    elim (or_cases (is_universal_name u) (is_wide p u) h) [
      | inl a ↦ elim (or_cases (is_universal_name (u ++ c ∷ more)) (is_wide q (u ++ c ∷ more)) g) [
        | inl b ↦ name_alone u c more a b
        | inr b ↦ name_not_wide q u (u ++ c ∷ more) l.first (l.second ∷ l.rest) (l.second ∷ (l.rest ++ c ∷ more)) w longer a b
      ]
      | inr a ↦ elim (or_cases (is_universal_name (u ++ c ∷ more)) (is_wide q (u ++ c ∷ more)) g) [
        | inl b ↦ name_not_wide p (u ++ c ∷ more) u l.first (l.second ∷ (l.rest ++ c ∷ more)) (l.second ∷ l.rest) longer w b a
        | inr b ↦ let none = wide_alone p q u (c ∷ more) a b in cc
      ]
    ]

-- Words

word_not_rare : (c : ℕ) → is_word c ≡ true → is_rare c ≡ true → ⊥
unfolding is_letter is_digit
word_not_rare c h g = both_ways (is_rare c) (not_rare c h) g
  where
    not_rare : (c : ℕ) → is_word c ≡ true → is_rare c ≡ false
    not_rare c h = grind (arith, nat_tests)

pub letter_is_word : (u : List ℕ) → is_letter_unit u ≡ true → is_word_unit u ≡ true
unfolding is_word_unit
letter_is_word u h = or_right (is_one is_digit u) (is_letter_unit u || is_wide is_xid_continue u) (or_left (is_letter_unit u) (is_wide is_xid_continue u) h)

pub rare_is_letter : (u : List ℕ) → is_rare_unit is_xid_start u ≡ true → is_letter_unit u ≡ true
unfolding is_rare_unit is_letter_unit
rare_is_letter u h = or_right (is_one is_letter u) (is_universal_name u || is_wide is_xid_start u) h

pub rare_is_word : (u : List ℕ) → is_rare_unit is_xid_continue u ≡ true → is_word_unit u ≡ true
unfolding is_rare_unit is_word_unit is_letter_unit
rare_is_word u h = elim (or_cases (is_universal_name u) (is_wide is_xid_continue u) h) [
  | inl e ↦ letter_is_word u (or_right (is_one is_letter u) (is_universal_name u || is_wide is_xid_start u) (or_left (is_universal_name u) (is_wide is_xid_start u) e))
  | inr e ↦ or_right (is_one is_digit u) (is_letter_unit u || is_wide is_xid_continue u) (or_right (is_letter_unit u) (is_wide is_xid_continue u) e)
]

-- a letter, or a rare unit
pub letter_is : (u : List ℕ) → is_letter_unit u ≡ true → (is_one is_letter u ≡ true) ⊎ (is_rare_unit is_xid_start u ≡ true)
unfolding is_rare_unit is_letter_unit
letter_is u h = or_cases (is_one is_letter u) (is_universal_name u || is_wide is_xid_start u) h

-- a letter or a digit, or a rare unit
pub word_is : (u : List ℕ) → is_word_unit u ≡ true → (is_one is_word u ≡ true) ⊎ (is_rare_unit is_xid_continue u ≡ true)
unfolding is_rare_unit is_word_unit
word_is u h = elim (or_cases (is_one is_digit u) (is_letter_unit u || is_wide is_xid_continue u) h) [
  | inl e ↦ inl (one_weaken is_digit is_word (λ c i. or_right (is_letter c) (is_digit c) i) u e)
  | inr e ↦ elim (or_cases (is_letter_unit u) (is_wide is_xid_continue u) e) [
    | inl i ↦ elim (letter_is u i) [
      | inl j ↦ inl (one_weaken is_letter is_word (λ c k. or_left (is_letter c) (is_digit c) k) u j)
      | inr j ↦ inr (rare_start_is_word u j)
    ]
    | inr i ↦ inr (or_right (is_universal_name u) (is_wide is_xid_continue u) i)
  ]
]

pub word_some : is_word_unit [] ≡ true → ⊥
word_some h = elim (word_is [] h) [ inl e ↦ cc | inr e ↦ let l = rare_long is_xid_continue [] e in let w = l.whole in cc ]

-- no unit of a word goes on from another
pub word_alone : (u : List ℕ) (c : ℕ) (more : List ℕ) → is_word_unit u ≡ true → is_word_unit (u ++ c ∷ more) ≡ true → ⊥
word_alone [] c more h g = word_some h
word_alone (f ∷ u) c more h g = elim (word_is (f ∷ u) h) [
  | inl e ↦ elim (word_is ((f ∷ u) ++ c ∷ more) g) [
    | inl i ↦ one_short is_word (f ∷ u) f u c more refl i
    | inr i ↦ word_not_rare f (first_word f u e) (rare_first is_xid_continue f (u ++ c ∷ more) i)
  ]
  | inr e ↦ elim (word_is ((f ∷ u) ++ c ∷ more) g) [
    | inl i ↦ one_short is_word (f ∷ u) f u c more refl i
    | inr i ↦ rare_alone is_xid_continue is_xid_continue (f ∷ u) c more e i
  ]
]
  where
    first_word : (f : ℕ) (u : List ℕ) → is_one is_word (f ∷ u) ≡ true → is_word f ≡ true
    first_word f [] h = h
    first_word f (c ∷ u) h = cc

pub word_greedy : IsGreedy is_word_unit
word_greedy u more after c h g k = word_alone u c more h g

-- a unit by which no other goes on is the longest
pub word_longest : (u rest : List ℕ) → is_word_unit u ≡ true → IsLongestHeld (λ z. IsTrue (is_word_unit z)) u rest
word_longest u rest h = record { holds = h; longest = λ c more left w g. word_alone u c more h g }

-- Numbers

-- what a unit of a number is
pub data NumberUnit (d : Dialect) (u : List ℕ) : Type 0 where
  Single : (c : ℕ) → u ≡ c ∷ [] → (is_word c || c == 46) ≡ true → NumberUnit d u
  Rare : is_rare_unit is_xid_continue u ≡ true → NumberUnit d u
  Signed : (c e : ℕ) → u ≡ c ∷ e ∷ [] → is_exponent c ≡ true → is_sign e ≡ true → NumberUnit d u
  Separated : (e : ℕ) → u ≡ 39 ∷ e ∷ [] → is_separated d u ≡ true → NumberUnit d u

pub number_unit : (d : Dialect) (u : List ℕ) → is_number_unit d u ≡ true → NumberUnit d u
unfolding is_number_unit
number_unit d u h = elim (or_cases (is_word_unit u || is_one (λ c. c == 46) u || is_two is_exponent is_sign u) (is_separated d u) h) [
  | inr e ↦ separated d u e
  | inl e ↦ elim (or_cases (is_word_unit u || is_one (λ c. c == 46) u) (is_two is_exponent is_sign u) e) [
    | inr i ↦ signed d u i
    | inl i ↦ elim (or_cases (is_word_unit u) (is_one (λ c. c == 46) u) i) [
      | inr j ↦ point d u j
      | inl j ↦ elim (word_is u j) [ inl k ↦ word d u k | inr k ↦ Rare k ]
    ]
  ]
]
  where
    separated : (d : Dialect) (u : List ℕ) → is_separated d u ≡ true → NumberUnit d u
    separated C11 u h = cc
    separated C23 [] h = cc
    separated C23 (c ∷ []) h = cc
    separated C23 (c ∷ e ∷ []) h = let p = and_parts (c == 39) _ h in Separated e (ap (λ z. z ∷ e ∷ []) (eqb-true c 39 p.0)) h
    separated C23 (c ∷ e ∷ f ∷ s) h = cc

    signed : (d : Dialect) (u : List ℕ) → is_two is_exponent is_sign u ≡ true → NumberUnit d u
    signed d [] h = cc
    signed d (c ∷ []) h = cc
    signed d (c ∷ e ∷ []) h = let p = and_parts (is_exponent c) (is_sign e) h in Signed c e refl p.0 p.1
    signed d (c ∷ e ∷ f ∷ s) h = cc

    point : (d : Dialect) (u : List ℕ) → is_one (λ c. c == 46) u ≡ true → NumberUnit d u
    point d [] h = cc
    point d (c ∷ []) h = Single c refl (or_right (is_word c) (c == 46) h)
    point d (c ∷ e ∷ s) h = cc

    word : (d : Dialect) (u : List ℕ) → is_one is_word u ≡ true → NumberUnit d u
    word d [] h = cc
    word d (c ∷ []) h = Single c refl (or_left (is_word c) (c == 46) h)
    word d (c ∷ e ∷ s) h = cc

pub single_not_rare : (c : ℕ) → (is_word c || c == 46) ≡ true → is_rare c ≡ false
unfolding is_letter is_digit
single_not_rare c h = grind (arith, nat_tests)

pub exponent_not_rare : (c : ℕ) → is_exponent c ≡ true → is_rare c ≡ false
unfolding is_exponent
exponent_not_rare c h = not_of is_rare (codes "eEpP") refl c h

-- a sign begins no unit
sign_begins_none : (d : Dialect) (c : ℕ) (s : List ℕ) → is_sign c ≡ true → is_number_unit d (c ∷ s) ≡ true → ⊥
unfolding is_sign is_letter is_digit is_exponent
sign_begins_none d c s h g = elim (number_unit d (c ∷ s) g) [
  | Single e i j ↦ let head : e ≡ c = cc in both_ways (is_word e || e == 46) (subst (λ z. (is_word z || z == 46) ≡ false) (sym head) (not_of (λ z. is_word z || z == 46) (codes "+-") refl c h)) j
  | Rare i ↦ both_ways (is_rare c) (not_of is_rare (codes "+-") refl c h) (rare_first is_xid_continue c s i)
  | Signed e f i j k ↦ let head : e ≡ c = cc in both_ways (is_exponent e) (subst (λ z. is_exponent z ≡ false) (sym head) (not_of is_exponent (codes "+-") refl c h)) j
  | Separated e i s' ↦ let head : c ≡ 39 = cc in both_ways (is_sign 39) refl (subst (λ z. is_sign z ≡ true) head h)
]

no_end : (v : List ℕ) (c : ℕ) (more : List ℕ) → v ++ c ∷ more ≡ [] → ⊥
no_end [] c more e = cc
no_end (x ∷ v) c more e = cc

pub apostrophe_no_single : (is_word 39 || 39 == 46) ≡ false
unfolding is_letter is_digit
apostrophe_no_single = refl

rare_begins : (u : List ℕ) (c : ℕ) (s : List ℕ) → u ≡ c ∷ s → is_rare_unit is_xid_continue u ≡ true → is_rare c ≡ false → ⊥
rare_begins u c s e h n = both_ways (is_rare c) n (rare_first is_xid_continue c s (subst (λ z. is_rare_unit is_xid_continue z ≡ true) e h))

-- behind a unit that isn't rare another goes on only by a sign
number_goes : (d : Dialect) (f : ℕ) (v more after : List ℕ) (c : ℕ) → is_rare f ≡ false → NumberUnit d (f ∷ v) → NumberUnit d ((f ∷ v) ++ c ∷ more) → is_number_unit d (c ∷ after) ≡ true → ⊥
number_goes d f [] more after c n h (Single e i j) k = cc
number_goes d f [] more after c n h (Rare i) k = rare_begins (f ∷ c ∷ more) f (c ∷ more) refl i n
number_goes d f [] more after c n h (Signed e g i j l) k = let head : g ≡ c = cc in sign_begins_none d c after (subst (λ z. is_sign z ≡ true) head l) k
number_goes d f [] more after c n (Single x y z) (Separated e i s') k = let a : x ≡ f = cc in let b : f ≡ 39 = cc in both_ways (is_word 39 || 39 == 46) apostrophe_no_single (subst (λ z. (is_word z || z == 46) ≡ true) (a ∙ b) z)
number_goes d f [] more after c n (Rare x) (Separated e i s') k = let l = rare_long is_xid_continue (f ∷ []) x in let w = l.whole in cc
number_goes d f [] more after c n (Signed x y z u v) (Separated e i s') k = cc
number_goes d f [] more after c n (Separated x y z) (Separated e i s') k = cc
number_goes d f (g ∷ v) more after c n h (Single e i j) k = cc
number_goes d f (g ∷ v) more after c n h (Rare i) k = rare_begins (f ∷ g ∷ (v ++ c ∷ more)) f (g ∷ (v ++ c ∷ more)) refl i n
number_goes d f (g ∷ v) more after c n h (Signed e x i j l) k = let w : g ∷ (v ++ c ∷ more) ≡ x ∷ [] = cc in let l : v ++ c ∷ more ≡ [] = cc in no_end v c more l
number_goes d f (g ∷ v) more after c n h (Separated e i s') k = let w : g ∷ (v ++ c ∷ more) ≡ e ∷ [] = cc in let l : v ++ c ∷ more ≡ [] = cc in no_end v c more l

pub number_some : (d : Dialect) → is_number_unit d [] ≡ false
number_some d = false_from_ne_true (is_number_unit d []) (λ h. elim (number_unit d [] h) [
  | Single e i j ↦ cc
  | Rare i ↦ let l = rare_long is_xid_continue [] i in let w = l.whole in cc
  | Signed e f i j k ↦ cc
  | Separated e i s' ↦ cc
])

rare_goes : (d : Dialect) (f : ℕ) (u more : List ℕ) (c : ℕ) → is_rare_unit is_xid_continue (f ∷ u) ≡ true → NumberUnit d ((f ∷ u) ++ c ∷ more) → ⊥
rare_goes d f u more c h (Single e i j) = let l = rare_long is_xid_continue (f ∷ u) h in let w = l.whole in let x : u ≡ l.second ∷ l.rest = cc in let y : f ∷ (u ++ c ∷ more) ≡ e ∷ [] = i in let z : (l.second ∷ l.rest) ++ c ∷ more ≡ [] = subst (λ z. z ++ c ∷ more ≡ []) x cc in cc
rare_goes d f u more c h (Rare i) = rare_alone is_xid_continue is_xid_continue (f ∷ u) c more h i
rare_goes d f u more c h (Signed e x i j k) = let head : e ≡ f = cc in both_ways (is_rare e) (exponent_not_rare e j) (subst (λ z. is_rare z ≡ true) (sym head) (rare_first is_xid_continue f u h))
rare_goes d f u more c h (Separated e i s') = let head : f ≡ 39 = cc in both_ways (is_rare 39) refl (subst (λ z. is_rare z ≡ true) head (rare_first is_xid_continue f u h))

pub number_greedy : (d : Dialect) → IsGreedy (is_number_unit d)
number_greedy d [] more after c h g k = both_ways (is_number_unit d []) (number_some d) h
number_greedy d (f ∷ u) more after c h g k = elim (number_unit d (f ∷ u) h) [
  | Single e i j ↦ let head : e ≡ f = cc in number_goes d f u more after c (subst (λ z. is_rare z ≡ false) head (single_not_rare e j)) (number_unit d (f ∷ u) h) (number_unit d ((f ∷ u) ++ c ∷ more) g) k
  | Rare i ↦ rare_goes d f u more c i (number_unit d ((f ∷ u) ++ c ∷ more) g)
  | Signed e x i j l ↦ let head : e ≡ f = cc in number_goes d f u more after c (subst (λ z. is_rare z ≡ false) head (exponent_not_rare e j)) (number_unit d (f ∷ u) h) (number_unit d ((f ∷ u) ++ c ∷ more) g) k
  | Separated e i s' ↦ let head : 39 ≡ f = cc in number_goes d f u more after c (subst (λ z. is_rare z ≡ false) head refl) (number_unit d (f ∷ u) h) (number_unit d ((f ∷ u) ++ c ∷ more) g) k
]

-- a rare unit is the longest that begins a number or a word
pub rare_longest_number : (d : Dialect) (u rest : List ℕ) → is_rare_unit is_xid_continue u ≡ true → IsLongestHeld (λ z. IsTrue (is_number_unit d z)) u rest
unfolding is_number_unit
rare_longest_number d u rest h = record {
  holds = or_left (is_word_unit u || is_one (λ c. c == 46) u || is_two is_exponent is_sign u) (is_separated d u)
      (or_left (is_word_unit u || is_one (λ c. c == 46) u) (is_two is_exponent is_sign u) (or_left (is_word_unit u) (is_one (λ c. c == 46) u) (rare_is_word u h)));
  longest = λ c more left w g. at u c more h (number_unit d (u ++ c ∷ more) g);
}
  where
    at : (u : List ℕ) (c : ℕ) (more : List ℕ) → is_rare_unit is_xid_continue u ≡ true → NumberUnit d (u ++ c ∷ more) → ⊥
    at [] c more h g = let l = rare_long is_xid_continue [] h in let w = l.whole in cc
    at (f ∷ u) c more h g = rare_goes d f u more c h g
