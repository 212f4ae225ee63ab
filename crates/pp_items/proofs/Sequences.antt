-- A sequence of units is cut by the length of each.
use Rattle.std.proofs.Common.{◌≡◌, ◌∙◌, ◌==◌, ◌||◌, ◌&&◌, not, ◌<◌, ◌≤◌, ◌+◌, ℕ, Bool, true, false, List, [], ◌∷◌, ◌++◌, length, length-append, take, drop, refl, sym, ap, subst, arith, inl, inr}
use Rattle.std.specs.Prelude.{codes}
use Rattle.std.specs.List.{list_all}
use Rattle.std.specs.Str.{continuation_len}
use Rattle.std.specs.Cmp.{both_ways as same_tests}
use Rattle.std.proofs.Math.Seq.{take-append_seam, drop-append_seam}
use Rattle.std.proofs.lemmas.Bool.{both_ways, and_parts, and_from, or_left, or_cases, eqb-true, false_from_ne_true, ne_eqb}
use Rattle.std.proofs.lemmas.Bool.Decides.{nat_tests}
use Rattle.std.proofs.lemmas.List.{take-append-drop}
use Rattle.unicode_ident.specs.Ident.{is_xid_continue}
use Rattle.c_chars.specs.declared.Dialect.{Dialect}
use Rattle.c_grammar.specs.Grammar.{AreUnits, joined, is_one, is_two, is_digit, is_letter, is_hex, is_sign, is_exponent, is_new_line, is_wide, is_universal_name, is_letter_unit, is_word_unit, is_number_head, is_number_unit, is_quoted_unit}
use Rattle.c_grammar.proofs.Classes.{not_of}
use Rattle.c_grammar.proofs.Firsts.{is_rare}
use Rattle.c_grammar.proofs.Singles.{is_word}
use Rattle.c_grammar.proofs.Wide.{is_high, high_first, wide_high}
use Rattle.c_lexer.specs.Unit.{is_rare_unit}
use Rattle.c_lexer.proofs.Units.{onto, word_is, letter_is_word, rare_first, Single, Rare, Signed, Separated, number_unit, number_some, rare_long, exponent_not_rare}
use Rattle.pp_model.specs.Finding.{are_units, is_headed}
use Rattle.pp_model.proofs.Cuts.{cuts_from, cuts_give, units_found, units_are}
use Rattle.pp_items.specs.Units.{passes, word_len, begins_two, number_len, quoted_len, unit_len, head_len}
use Rattle.pp_items.specs.declared.unit.Units.{Units}
use Rattle.pp_items.specs.declared.unit.Units.TheVariants.{Word, Number, Quoted}
use Rattle.c_lexer.proofs.WideOff.{wide_len}

-- Before a sequence of such units a unit has the length that is told of the text.
abbrev pub HasLen : (List ℕ → Bool) → (List ℕ → Bool) → (List ℕ → ℕ) → Type 0
HasLen first more len = (u rest : List ℕ) → first u ≡ true → AreUnits more rest → length u ≡ len (u ++ rest)

-- The text is a unit of the told length, and then a sequence of units.
pub record IsFirstCut (first more : List ℕ → Bool) (n : ℕ) (s : List ℕ) : Type 0 where
  pub within : n ≤ length s
  pub unit : first (take n s) ≡ true
  pub rest : AreUnits more (drop n s)

cut_at : (first more : List ℕ → Bool) (len : List ℕ → ℕ) (u rest s : List ℕ) → HasLen first more len → first u ≡ true → AreUnits more rest → s ≡ u ++ rest → IsFirstCut first more (len s) s
cut_at first more len u rest s has h r e =
    let n : len s ≡ length u = ap len e ∙ sym (has u rest h r) in
    subst (λ z. IsFirstCut first more z s) (sym n) (subst (IsFirstCut first more (length u)) (sym e) (record {
      within = omega (arith, length-append u rest);
      unit = subst (λ z. first z ≡ true) (sym (take-append_seam u rest)) h;
      rest = subst (AreUnits more) (sym (drop-append_seam u rest)) r;
    }))

units_cut : (p : List ℕ → Bool) (len : List ℕ → ℕ) (s : List ℕ) → HasLen p p len → 0 < length s → AreUnits p s → IsFirstCut p p (len s) s
units_cut p len s has some a = by a.units a.each a.whole
  where
    by : (us : List (List ℕ)) → list_all p us ≡ true → s ≡ joined us → IsFirstCut p p (len s) s
    by [] h e = let none : length s ≡ 0 = ap length e in absurd (omega (arith, none))
    by (u ∷ us) h e =
        let b = and_parts (p u) (list_all p us) h in
        cut_at p p len u (joined us) s has b.0 (record { units = us; each = b.1; whole = refl }) e

-- behind a unit the sequence goes on
pub units_step : (p : List ℕ → Bool) (len : List ℕ → ℕ) (s : List ℕ) (n : ℕ) → HasLen p p len → 0 < length s → n ≡ len s → p (take n s) ≡ true → are_units p (drop n s) ≡ are_units p s
units_step p len s n has some n_is h =
    same_tests (are_units p (drop n s)) (are_units p s)
    (λ r. units_found p s (subst (AreUnits p) (take-append-drop n s) (onto p (take n s) (drop n s) h (units_are p (drop n s) r))))
    (λ a. units_found p (drop n s) (subst (λ z. AreUnits p (drop z s)) (sym n_is) (units_cut p len s has some (units_are p s a)).rest))

-- where it is too short, there is none
pub units_short : (p : List ℕ → Bool) (len : List ℕ → ℕ) (s : List ℕ) → HasLen p p len → 0 < length s → length s < len s → are_units p s ≡ false
units_short p len s has some short = false_from_ne_true (are_units p s) (λ a. let c = (units_cut p len s has some (units_are p s a)).within in omega (arith, c, short))

-- and where what stands first isn't one
pub units_none : (p : List ℕ → Bool) (len : List ℕ → ℕ) (s : List ℕ) (n : ℕ) → HasLen p p len → 0 < length s → n ≡ len s → p (take n s) ≡ false → are_units p s ≡ false
units_none p len s n has some n_is fails = false_from_ne_true (are_units p s) (λ a.
    both_ways (p (take n s)) fails (subst (λ z. p (take z s) ≡ true) (sym n_is) (units_cut p len s has some (units_are p s a)).unit))

headed_cut : (first more : List ℕ → Bool) (len : List ℕ → ℕ) (s : List ℕ) → HasLen first more len → is_headed first more s ≡ true → IsFirstCut first more (len s) s
headed_cut first more len s has h =
    let i = cuts_give first (are_units more) s h in
    cut_at first more len i.front i.rest s has i.first (units_are more i.rest i.second) i.whole

-- a first unit and then a sequence
pub headed_step : (first more : List ℕ → Bool) (len : List ℕ → ℕ) (s : List ℕ) (n : ℕ) → HasLen first more len → n ≡ len s → (first (take n s) && are_units more (drop n s)) ≡ is_headed first more s
headed_step first more len s n has n_is =
    same_tests (first (take n s) && are_units more (drop n s)) (is_headed first more s)
    (λ h. let b = and_parts (first (take n s)) (are_units more (drop n s)) h in
    subst (λ z. is_headed first more z ≡ true) (take-append-drop n s) (cuts_from first (are_units more) (take n s) (drop n s) b.0 b.1))
    (λ h. subst (λ z. (first (take z s) && are_units more (drop z s)) ≡ true) (sym n_is)
    (let c = headed_cut first more len s has h in and_from (first (take (len s) s)) (are_units more (drop (len s) s)) c.unit (units_found more (drop (len s) s) c.rest)))

pub headed_short : (first more : List ℕ → Bool) (len : List ℕ → ℕ) (s : List ℕ) → HasLen first more len → length s < len s → is_headed first more s ≡ false
headed_short first more len s has short = false_from_ne_true (is_headed first more s) (λ h. let c = (headed_cut first more len s has h).within in omega (arith, c, short))

pub headed_yes : (first more : List ℕ → Bool) (len : List ℕ → ℕ) (s head rest : List ℕ) (n : ℕ) (r : Bool) → HasLen first more len → n ≡ len s → head ≡ take n s → rest ≡ drop n s → first head ≡ true → r ≡ are_units more rest → r ≡ is_headed first more s
headed_yes first more len s head rest n r has n_is head_is rest_is h e =
    e ∙ (ap (are_units more) rest_is ∙ (ap (λ b. b && are_units more (drop n s)) (sym (ap first (sym head_is) ∙ h)) ∙ headed_step first more len s n has n_is))

pub headed_no : (first more : List ℕ → Bool) (len : List ℕ → ℕ) (s head : List ℕ) (n : ℕ) → HasLen first more len → n ≡ len s → head ≡ take n s → first head ≡ false → false ≡ is_headed first more s
headed_no first more len s head n has n_is head_is h =
    ap (λ b. b && are_units more (drop n s)) (sym (ap first (sym head_is) ∙ h)) ∙ headed_step first more len s n has n_is

-- a text that isn't empty has a character
pub some_of : (s : List ℕ) → false ≡ (length s == 0) → 0 < length s
some_of [] h = cc
some_of (c ∷ s) h = omega arith

-- ## The lengths

low_no_slash : (c : ℕ) → (is_word c || c == 46) ≡ true → (c == 92) ≡ false
unfolding is_letter is_digit
low_no_slash c h = grind (arith, nat_tests)

low_len : (c : ℕ) → (is_word c || c == 46) ≡ true → 1 ≡ continuation_len c + 1
unfolding is_letter is_digit
low_len c h = grind (arith, nat_tests)

-- a letter, a digit or a point is one character
low_is_one : (c : ℕ) (rest : List ℕ) → (is_word c || c == 46) ≡ true → 1 ≡ word_len (c ∷ rest)
low_is_one c rest h = let n = low_no_slash c h in rw n (low_len c h)

name_has : (u rest : List ℕ) → is_universal_name u ≡ true → length u ≡ word_len (u ++ rest)
unfolding is_universal_name
name_has [] rest h = cc
name_has (b ∷ []) rest h = cc
name_has (b ∷ k ∷ digits) rest h =
    let parts = and_parts (b == 92) (((k == 117) && (length digits == 4)) || ((k == 85) && (length digits == 8))) (and_parts _ (list_all is_hex digits) h).0 in
    elim (or_cases ((k == 117) && (length digits == 4)) ((k == 85) && (length digits == 8)) parts.1) [
      | inl e ↦
          let p = and_parts (k == 117) (length digits == 4) e in
          let letter : k ≡ 117 = eqb-true k 117 p.0 in
          let other : (k == 85) ≡ false = ne_eqb k 85 (λ z. absurd (omega (arith, letter, z))) in
          let n : length digits ≡ 4 = eqb-true (length digits) 4 p.1 in
          let first = parts.0 in
          rw (first, other) (omega (arith, n))
      | inr e ↦
          let p = and_parts (k == 85) (length digits == 8) e in
          let n : length digits ≡ 8 = eqb-true (length digits) 8 p.1 in
          let first = parts.0 in let letter = p.0 in
          rw (first, letter) (omega (arith, n))
    ]

high_not_slash : (b : ℕ) → is_high b ≡ true → (b == 92) ≡ false
high_not_slash b h = grind (arith, nat_tests)

wide_has : (q : ℕ → Bool) (u rest : List ℕ) → is_wide q u ≡ true → length u ≡ word_len (u ++ rest)
wide_has q u rest h =
    let a = wide_high q u h in
    let slash = high_not_slash a.first (high_first u a) in
    let len : length u ≡ continuation_len a.first + 1 = wide_len q u h a.first (a.second ∷ a.rest) a.whole in
    let told : word_len (u ++ rest) ≡ continuation_len a.first + 1 = ap (λ z. word_len (z ++ rest)) a.whole ∙ rw slash refl in
    len ∙ sym told

rare_has : (u rest : List ℕ) → is_rare_unit is_xid_continue u ≡ true → length u ≡ word_len (u ++ rest)
unfolding is_rare_unit
rare_has u rest h = elim (or_cases (is_universal_name u) (is_wide is_xid_continue u) h) [ inl e ↦ name_has u rest e | inr e ↦ wide_has is_xid_continue u rest e ]

pub word_has : (u rest : List ℕ) → is_word_unit u ≡ true → length u ≡ word_len (u ++ rest)
word_has u rest h = elim (word_is u h) [ inl e ↦ one u e | inr e ↦ rare_has u rest e ]
  where
    one : (u : List ℕ) → is_one is_word u ≡ true → length u ≡ word_len (u ++ rest)
    one [] e = cc
    one (c ∷ []) e = low_is_one c rest (or_left (is_word c) (c == 46) e)
    one (c ∷ b ∷ u) e = cc

-- a sign begins no unit
sign_begins_none : (d : Dialect) (c : ℕ) (s : List ℕ) → is_sign c ≡ true → is_number_unit d (c ∷ s) ≡ true → ⊥
unfolding is_sign is_letter is_digit is_exponent
sign_begins_none d c s h g = elim (number_unit d (c ∷ s) g) [
  | Single e i j ↦ let head : e ≡ c = cc in both_ways (is_word e || e == 46) (subst (λ z. (is_word z || z == 46) ≡ false) (sym head) (not_of (λ z. is_word z || z == 46) (codes "+-") refl c h)) j
  | Rare i ↦ both_ways (is_rare c) (not_of is_rare (codes "+-") refl c h) (rare_first is_xid_continue c s i)
  | Signed e f i j k ↦ let head : e ≡ c = cc in both_ways (is_exponent e) (subst (λ z. is_exponent z ≡ false) (sym head) (not_of is_exponent (codes "+-") refl c h)) j
  | Separated e i s' ↦ let head : c ≡ 39 = cc in both_ways (is_sign 39) refl (subst (λ z. is_sign z ≡ true) head h)
]

-- where the units go on, no sign is first
no_sign : (d : Dialect) (c : ℕ) (s : List ℕ) → AreUnits (is_number_unit d) (c ∷ s) → is_sign c ≡ false
no_sign d c s a = false_from_ne_true (is_sign c) (λ sign. by sign a.units a.each a.whole)
  where
    by : is_sign c ≡ true → (us : List (List ℕ)) → list_all (is_number_unit d) us ≡ true → c ∷ s ≡ joined us → ⊥
    by sign [] h e = cc
    by sign ([] ∷ us) h e = both_ways (is_number_unit d []) (number_some d) (and_parts (is_number_unit d []) (list_all (is_number_unit d) us) h).0
    by sign ((b ∷ u) ∷ us) h e =
        let head : c ≡ b = cc in
        sign_begins_none d b u (subst (λ z. is_sign z ≡ true) head sign) (and_parts (is_number_unit d (b ∷ u)) (list_all (is_number_unit d) us) h).0

single_no_apostrophe : (c : ℕ) → (is_word c || c == 46) ≡ true → (c == 39) ≡ false
unfolding is_letter is_digit
single_no_apostrophe c h = grind (arith, nat_tests)

-- one character, and then units
single_alone : (d : Dialect) (c : ℕ) (rest : List ℕ) → (is_word c || c == 46) ≡ true → AreUnits (is_number_unit d) rest → begins_two (c ∷ rest) ≡ false
single_alone d c [] h a = refl
single_alone d c (e ∷ rest) h a =
    let sign = no_sign d e rest a in
    let quote = single_no_apostrophe c h in
    rw (sign, quote) (by (is_exponent c))
  where
    by : (b : Bool) → ((b && false) || false) ≡ false
    by true = refl
    by false = refl

rare_no_exponent : (c : ℕ) → is_rare c ≡ true → is_exponent c ≡ false
rare_no_exponent c h = false_from_ne_true (is_exponent c) (λ e. both_ways (is_rare c) (exponent_not_rare c e) h)

rare_no_apostrophe : (c : ℕ) → is_rare c ≡ true → (c == 39) ≡ false
rare_no_apostrophe c h = false_from_ne_true (c == 39) (λ e. both_ways (is_rare 39) refl (subst (λ z. is_rare z ≡ true) (eqb-true c 39 e) h))

rare_not_two : (c : ℕ) (s : List ℕ) → is_rare c ≡ true → begins_two (c ∷ s) ≡ false
rare_not_two c [] h = refl
rare_not_two c (e ∷ s) h =
    let exponent = rare_no_exponent c h in
    let quote = rare_no_apostrophe c h in
    rw (exponent, quote) refl

rare_alone_here : (u rest : List ℕ) → is_rare_unit is_xid_continue u ≡ true → begins_two (u ++ rest) ≡ false
rare_alone_here [] rest h = refl_of rest
  where
    refl_of : (rest : List ℕ) → begins_two rest ≡ false
    refl_of rest = let l = rare_long is_xid_continue [] h in let w = l.whole in cc
rare_alone_here (c ∷ u) rest h = rare_not_two c (u ++ rest) (rare_first is_xid_continue c u h)

pub number_has : (d : Dialect) (u rest : List ℕ) → is_number_unit d u ≡ true → AreUnits (is_number_unit d) rest → length u ≡ number_len (u ++ rest)
number_has d u rest h a = elim (number_unit d u h) [
  | Single c e i ↦
      let alone = single_alone d c rest i a in
      let told : number_len (c ∷ rest) ≡ word_len (c ∷ rest) = rw alone refl in
      ap length e ∙ (low_is_one c rest i ∙ (sym told ∙ ap (λ z. number_len (z ++ rest)) (sym e)))
  | Rare i ↦
      let alone = rare_alone_here u rest i in
      let told : number_len (u ++ rest) ≡ word_len (u ++ rest) = rw alone refl in
      rare_has u rest i ∙ sym told
  | Signed c f e i j ↦
      let two : begins_two (c ∷ f ∷ rest) ≡ true = rw (i, j) refl in
      let told : number_len (c ∷ f ∷ rest) ≡ 2 = rw two refl in
      ap length e ∙ (sym told ∙ ap (λ z. number_len (z ++ rest)) (sym e))
  | Separated f e i ↦
      let two : begins_two (39 ∷ f ∷ rest) ≡ true = or_end (is_exponent 39 && is_sign f) in
      let told : number_len (39 ∷ f ∷ rest) ≡ 2 = rw two refl in
      ap length e ∙ (sym told ∙ ap (λ z. number_len (z ++ rest)) (sym e))
]
  where
    or_end : (b : Bool) → (b || true) ≡ true
    or_end true = refl
    or_end false = refl

not_is : (b : Bool) → not b ≡ true → b ≡ false
not_is true h = cc
not_is false h = refl

pub quoted_has : (q : ℕ) (u rest : List ℕ) → is_quoted_unit q u ≡ true → length u ≡ quoted_len (u ++ rest)
unfolding is_quoted_unit
quoted_has q u rest h = elim (or_cases (is_one (λ c. not (c == q) && not (c == 92) && not (is_new_line c)) u) (is_two (λ c. c == 92) (λ c. not (is_new_line c)) u) h) [ inl e ↦ one u e | inr e ↦ two u e ]
  where
    one : (u : List ℕ) → is_one (λ c. not (c == q) && not (c == 92) && not (is_new_line c)) u ≡ true → length u ≡ quoted_len (u ++ rest)
    one [] e = cc
    one (c ∷ []) e =
        let no : not (c == 92) ≡ true = (and_parts (not (c == q)) (not (c == 92)) (and_parts (not (c == q) && not (c == 92)) (not (is_new_line c)) e).0).1 in
        let slash : (c == 92) ≡ false = not_is (c == 92) no in
        rw slash refl
    one (c ∷ b ∷ u) e = cc

    two : (u : List ℕ) → is_two (λ c. c == 92) (λ c. not (is_new_line c)) u ≡ true → length u ≡ quoted_len (u ++ rest)
    two [] e = cc
    two (c ∷ []) e = cc
    two (c ∷ b ∷ []) e = let slash = (and_parts (c == 92) (not (is_new_line b)) e).0 in rw slash refl
    two (c ∷ b ∷ f ∷ u) e = cc

pub units_have : (k : Units) → HasLen (passes k) (passes k) (unit_len k)
units_have Word = λ u rest h a. word_has u rest h
units_have (Number d) = λ u rest h a. number_has d u rest h a
units_have (Quoted q) = λ u rest h a. quoted_has q u rest h

pub letter_has : HasLen is_letter_unit is_word_unit word_len
letter_has = λ u rest h a. word_has u rest (letter_is_word u h)

pub head_has : (d : Dialect) → HasLen is_number_head (is_number_unit d) head_len
unfolding is_number_head is_digit
head_has d = λ u rest h a. by u rest h
  where
    digit_no_point : (c : ℕ) → is_digit c ≡ true → (c == 46) ≡ false
    digit_no_point c h = grind (arith, nat_tests)

    by : (u rest : List ℕ) → is_number_head u ≡ true → length u ≡ head_len (u ++ rest)
    by [] rest h = cc
    by (c ∷ []) rest h = elim (or_cases (is_digit c) false h) [ inl e ↦ let n = digit_no_point c e in rw n refl | inr e ↦ cc ]
    by (c ∷ b ∷ []) rest h = let point = (and_parts (c == 46) (is_digit b) h).0 in rw point refl
    by (c ∷ b ∷ e ∷ u) rest h = cc
