-- Units and runs of them, cut off a text of characters.
use Rattle.std.proofs.Common.{◌≡◌, ◌==◌, ◌||◌, ◌&&◌, ◌<◌, ◌-◌, ℕ, zero, suc, ◌+◌, Bool, true, false, List, [], ◌∷◌, ◌++◌, length, length-append, length-drop, take, drop, get_or, nat_eq, refl, sym, ◌∙◌, ap, subst, arith, inl, inr, ◌⊎◌, append_assoc}
use Rattle.std.specs.Prelude.{Option, Some, None, MatchOption, slice_get, IsTrue}
use Rattle.std.specs.List.{list_all, prefix_len, starts_with}
use Rattle.std.proofs.Math.Seq.{drop-append_seam}
use Rattle.std.proofs.lemmas.Bool.{and_parts, and_from, or_cases, or_left, or_right, eqb-true, cases_Bool, both_ways, false_from_ne_true}
use Rattle.std.proofs.lemmas.List.{take-append-drop, length-map}
use Rattle.std.proofs.lemmas.List.Folds.{length-prefix_len}
use Rattle.unicode_ident.specs.Ident.{is_xid_continue}
use Rattle.c_chars.specs.Characters.{bytes_of}
use Rattle.c_chars.specs.Coming.{Coming, behind}
use Rattle.c_chars.specs.declared.Dialect.{Dialect}
use Rattle.c_chars.specs.declared.Dialect.TheVariants.{C11, C23}
use Rattle.c_chars.specs.declared.LogicalChar.{LogicalChar}
use Rattle.c_grammar.specs.Grammar.{AreUnits, is_one, is_digit, is_hex, is_sign, is_exponent, is_separated, is_wide, is_universal_name, is_word_unit, is_number_unit}
use Rattle.c_grammar.specs.Touch.{starts}
use Rattle.c_grammar.proofs.Firsts.{is_rare}
use Rattle.c_grammar.proofs.Lists.{two_cuts}
use Rattle.c_grammar.proofs.Wide.{wide_alone, wide_both}
use Rattle.c_grammar.proofs.Singles.{is_word, word_single}
use Rattle.c_grammar.specs.Bytes.{is_beyond}
use Rattle.c_grammar.specs.Utf8.{any_char, only}
use Rattle.c_lexer.specs.Unit.{BeginsUnit, IsLongestHeld, IsUnitOff, IsRunOff, is_rare_unit, is_single, is_pair, begins_pair, begins_hex, begins_name}
use Rattle.c_lexer.proofs.CutOffs.{left_bytes, behind_again, two_first}
use Rattle.c_lexer.proofs.Runs.{stops, passes}
use Rattle.c_lexer.proofs.Stepping.{behind_chars}
use Rattle.c_grammar.proofs.OneChar.{wide_any, wide_only}
use Rattle.c_lexer.proofs.Units.{IsGreedy, NumberUnit, Single, Rare, Signed, Separated, run_none, run_step, word_greedy, word_some, word_is, word_longest, number_unit, rare_first, rare_long, rare_alone, rare_is_word, rare_longest_number, single_not_rare, exponent_not_rare, apostrophe_no_single}

-- Hexadecimal digits and universal character names

hex_step : (m i : ℕ) (s : List ℕ) → is_hex (get_or s i 0) ≡ true → begins_hex (suc m) (drop i s) ≡ begins_hex m (drop (suc i) s)
unfolding is_hex is_digit
hex_step m i [] h = cc
hex_step m zero (c ∷ s) h = rw h refl
hex_step m (suc i) (c ∷ s) h = hex_step m i s h

hex_missing : (m i : ℕ) (s : List ℕ) → is_hex (get_or s i 0) ≡ false → begins_hex (suc m) (drop i s) ≡ false
hex_missing m zero [] h = refl
hex_missing m (suc i) [] h = refl
hex_missing m zero (c ∷ s) h = rw h refl
hex_missing m (suc i) (c ∷ s) h = hex_missing m i s h

pub hex_next : (n m i : ℕ) (s : List ℕ) (b : ℕ) → n ≡ suc m → b ≡ get_or s i 0 → is_hex b ≡ true → begins_hex n (drop i s) ≡ begins_hex m (drop (i + 1) s)
hex_next n m i s b e byte h =
    let next : i + 1 ≡ suc i = omega arith in
    ap (λ k. begins_hex k (drop i s)) e ∙ (hex_step m i s (subst (λ k. is_hex k ≡ true) byte h) ∙ ap (λ k. begins_hex m (drop k s)) (sym next))

pub hex_stop : (n m i : ℕ) (s : List ℕ) (b : ℕ) → n ≡ suc m → b ≡ get_or s i 0 → is_hex b ≡ false → begins_hex n (drop i s) ≡ false
hex_stop n m i s b e byte h = ap (λ k. begins_hex k (drop i s)) e ∙ hex_missing m i s (subst (λ k. is_hex k ≡ false) byte h)

-- the digits that a text begins with
record HexFront (n : ℕ) (s : List ℕ) : Type 0 where
  pub whole : s ≡ take n s ++ drop n s
  pub len : length (take n s) ≡ n
  pub digits : list_all is_hex (take n s) ≡ true

hex_front : (n : ℕ) (s : List ℕ) → begins_hex n s ≡ true → HexFront n s
hex_front zero s h = record { whole = refl; len = refl; digits = refl }
hex_front (suc n) [] h = cc
hex_front (suc n) (c ∷ s) h =
    let parts = and_parts (is_hex c) (begins_hex n s) h in
    let r = hex_front n s parts.1 in
    let l : length (take n s) ≡ n = r.len in
    record { whole = ap (λ z. c ∷ z) r.whole; len = omega (arith, l); digits = and_from (is_hex c) (list_all is_hex (take n s)) parts.0 r.digits }

hex_there : (n : ℕ) (digits rest : List ℕ) → length digits ≡ n → list_all is_hex digits ≡ true → begins_hex n (digits ++ rest) ≡ true
hex_there zero [] rest l h = refl
hex_there zero (c ∷ digits) rest l h = absurd (omega (arith, l))
hex_there (suc n) [] rest l h = absurd (omega (arith, l))
hex_there (suc n) (c ∷ digits) rest l h =
    let parts = and_parts (is_hex c) (list_all is_hex digits) h in
    let less : length digits ≡ n = omega (arith, l) in
    and_from (is_hex c) (begins_hex n (digits ++ rest)) parts.0 (hex_there n digits rest less parts.1)

name_is_rare : (p : ℕ → Bool) (u : List ℕ) → is_universal_name u ≡ true → is_rare_unit p u ≡ true
unfolding is_rare_unit
name_is_rare p u h = or_left (is_universal_name u) (is_wide p u) h

-- the two forms of a name
abbrev IsForm : ℕ → ℕ → Type 0
IsForm k n = ((k ≡ 117) × (n ≡ 4)) ⊎ ((k ≡ 85) × (n ≡ 8))

name_of : (k n : ℕ) (digits : List ℕ) → IsForm k n → length digits ≡ n → list_all is_hex digits ≡ true → is_universal_name (92 ∷ k ∷ digits) ≡ true
unfolding is_universal_name
name_of k n digits (inl f) l h = let a : k ≡ 117 = f.0 in let b : length digits ≡ 4 = l ∙ f.1 in rw (a, b, h) refl
name_of k n digits (inr f) l h = let a : k ≡ 85 = f.0 in let b : length digits ≡ 8 = l ∙ f.1 in rw (a, b, h) refl

pub name_off : (x left : Coming) (k n m : ℕ) → IsForm k n → begins_name k n (bytes_of x.chars) ≡ true → m ≡ n + 2 → left ≡ behind x m → IsUnitOff is_universal_name x left
name_off x left k n m form h e l =
    let parts = and_parts (starts_with nat_eq (bytes_of x.chars) (92 ∷ k ∷ [])) (begins_hex n (drop 2 (bytes_of x.chars))) h in
    let hex = hex_front n (drop 2 (bytes_of x.chars)) parts.1 in
    let name : is_universal_name (92 ∷ k ∷ take n (drop 2 (bytes_of x.chars))) ≡ true = name_of k n (take n (drop 2 (bytes_of x.chars))) form hex.len hex.digits in
    let len : m ≡ length (92 ∷ k ∷ take n (drop 2 (bytes_of x.chars))) = let i : length (take n (drop 2 (bytes_of x.chars))) ≡ n = hex.len in omega (arith, i, e) in
    record {
      front = 92 ∷ k ∷ take n (drop 2 (bytes_of x.chars));
      rest = drop n (drop 2 (bytes_of x.chars));
      whole = two_first 92 k (bytes_of x.chars) parts.0 ∙ ap (λ z. 92 ∷ k ∷ z) hex.whole;
      held = record { holds = name; longest = λ c more end w g. rare_alone any_char any_char (92 ∷ k ∷ take n (drop 2 (bytes_of x.chars))) c more (name_is_rare any_char _ name) (name_is_rare any_char _ g) };
      left_is = l ∙ ap (λ z. behind x z) len;
    }

pub name_none : (s : List ℕ) → begins_name 117 4 s ≡ false → begins_name 85 8 s ≡ false → BeginsUnit is_universal_name s → ⊥
unfolding is_universal_name
name_none s f g b = at b.unit b.passes b.whole
  where
    at : (u : List ℕ) → is_universal_name u ≡ true → s ≡ u ++ b.rest → ⊥
    at [] h w = cc
    at (c ∷ []) h w = cc
    at (c ∷ k ∷ digits) h w =
        let all = and_parts ((c == 92) && (((k == 117) && (length digits == 4)) || ((k == 85) && (length digits == 8)))) (list_all is_hex digits) h in
        let front = and_parts (c == 92) (((k == 117) && (length digits == 4)) || ((k == 85) && (length digits == 8))) all.0 in
        let slash = eqb-true c 92 front.0 in
        elim (or_cases ((k == 117) && (length digits == 4)) ((k == 85) && (length digits == 8)) front.1) [
          | inl e ↦
              let p = and_parts (k == 117) (length digits == 4) e in
              let letter = eqb-true k 117 p.0 in
              let there = hex_there 4 digits b.rest (eqb-true (length digits) 4 p.1) all.1 in
              let whole : s ≡ 92 ∷ 117 ∷ (digits ++ b.rest) = w ∙ (ap (λ z. z ∷ k ∷ (digits ++ b.rest)) slash ∙ ap (λ z. 92 ∷ z ∷ (digits ++ b.rest)) letter) in
              both_ways (begins_name 117 4 s) f (subst (λ z. begins_name 117 4 z ≡ true) (sym whole) there)
          | inr e ↦
              let p = and_parts (k == 85) (length digits == 8) e in
              let letter = eqb-true k 85 p.0 in
              let there = hex_there 8 digits b.rest (eqb-true (length digits) 8 p.1) all.1 in
              let whole : s ≡ 92 ∷ 85 ∷ (digits ++ b.rest) = w ∙ (ap (λ z. z ∷ k ∷ (digits ++ b.rest)) slash ∙ ap (λ z. 92 ∷ z ∷ (digits ++ b.rest)) letter) in
              both_ways (begins_name 85 8 s) g (subst (λ z. begins_name 85 8 z ≡ true) (sym whole) there)
        ]

-- Rare units

wide_is_rare : (p : ℕ → Bool) (u : List ℕ) → is_wide p u ≡ true → is_rare_unit p u ≡ true
unfolding is_rare_unit
wide_is_rare p u h = or_right (is_universal_name u) (is_wide p u) h

rare_cases : (p : ℕ → Bool) (u : List ℕ) → is_rare_unit p u ≡ true → (is_universal_name u ≡ true) ⊎ (is_wide p u ≡ true)
unfolding is_rare_unit
rare_cases p u h = or_cases (is_universal_name u) (is_wide p u) h

-- no backslash and nothing past ASCII
pub rare_none : (p : ℕ → Bool) (s : List ℕ) → starts is_beyond s ≡ false → BeginsUnit (is_rare_unit p) s → ⊥
unfolding is_beyond
rare_none p s n b =
    let l = rare_long p b.unit b.passes in
    let whole : s ≡ l.first ∷ ((l.second ∷ l.rest) ++ b.rest) = b.whole ∙ ap (λ z. z ++ b.rest) l.whole in
    both_ways (is_rare l.first) (subst (λ z. starts is_beyond z ≡ false) whole n) l.rare

pub rare_of_name : (p : ℕ → Bool) (x left : Coming) → IsUnitOff is_universal_name x left → IsUnitOff (is_rare_unit p) x left
rare_of_name p x left r =
    let rare = name_is_rare p r.front r.held.holds in
    record { front = r.front; rest = r.rest; whole = r.whole; held = record { holds = rare; longest = λ c more end w g. rare_alone p p r.front c more rare g }; left_is = r.left_is }

pub name_begins : (p : ℕ → Bool) (x left : Coming) → IsUnitOff is_universal_name x left → BeginsUnit (is_rare_unit p) (bytes_of x.chars)
name_begins p x left r = record { unit = r.front; rest = r.rest; passes = name_is_rare p r.front r.held.holds; whole = r.whole }

pub rare_of_wide : (p : ℕ → Bool) (c : ℕ) (x left : Coming) → p c ≡ true → IsUnitOff (is_wide (only c)) x left → IsUnitOff (is_rare_unit p) x left
rare_of_wide p c x left h r =
    let rare = wide_is_rare p r.front (wide_only p c r.front h r.held.holds) in
    record { front = r.front; rest = r.rest; whole = r.whole; held = record { holds = rare; longest = λ e more end w g. rare_alone p p r.front e more rare g }; left_is = r.left_is }

pub wide_begins : (p : ℕ → Bool) (c : ℕ) (x left : Coming) → p c ≡ true → IsUnitOff (is_wide (only c)) x left → BeginsUnit (is_rare_unit p) (bytes_of x.chars)
wide_begins p c x left h r = record { unit = r.front; rest = r.rest; passes = wide_is_rare p r.front (wide_only p c r.front h r.held.holds); whole = r.whole }

-- no name, and a character that doesn't pass
pub rare_refused : (p : ℕ → Bool) (c : ℕ) (x left : Coming) → (BeginsUnit is_universal_name (bytes_of x.chars) → ⊥) → p c ≡ false → IsUnitOff (is_wide (only c)) x left → BeginsUnit (is_rare_unit p) (bytes_of x.chars) → ⊥
rare_refused p c x left name n r b = elim (rare_cases p b.unit b.passes) [
  | inl e ↦ name (record { unit = b.unit; rest = b.rest; passes = e; whole = b.whole })
  | inr e ↦ elim (two_cuts r.front r.rest b.unit b.rest (sym r.whole ∙ b.whole)) [
    | inl same ↦
        let both = wide_both (only c) p r.front r.held.holds (subst (λ z. is_wide p z ≡ true) (sym same.front_is) e) in
        both_ways (p c) n (subst (λ z. p z ≡ true) (eqb-true both.0 c both.1) both.2)
    | inr on ↦ elim on [
      | inl g ↦ let none = wide_alone (only c) p r.front (g.c ∷ g.more) r.held.holds (subst (λ z. is_wide p z ≡ true) g.front_is e) in cc
      | inr g ↦ let none = wide_alone p (only c) b.unit (g.c ∷ g.more) e (subst (λ z. is_wide (only c) z ≡ true) g.front_is r.held.holds) in cc
    ]
  ]
]

-- no name, and no character past ASCII
pub rare_neither : (p : ℕ → Bool) (s : List ℕ) → (BeginsUnit is_universal_name s → ⊥) → (BeginsUnit (is_wide any_char) s → ⊥) → BeginsUnit (is_rare_unit p) s → ⊥
rare_neither p s name wide b = elim (rare_cases p b.unit b.passes) [
  | inl e ↦ name (record { unit = b.unit; rest = b.rest; passes = e; whole = b.whole })
  | inr e ↦ wide (record { unit = b.unit; rest = b.rest; passes = wide_any p b.unit e; whole = b.whole })
]

-- Runs

bytes_len : (s : List LogicalChar) → length (bytes_of s) ≡ length s
bytes_len s = length-map s (λ c. c.byte)

rest_chars : (x y : Coming) (n : ℕ) → y ≡ behind x n → y.chars ≡ drop n x.chars
rest_chars x y n e = ap (λ z. z.chars) e ∙ behind_chars x.dialect x.at n x.chars

-- behind a unit and then n characters less is left
pub shrinks : (p : List ℕ → Bool) (x y z : Coming) (n : ℕ) → p [] ≡ false → IsUnitOff p x y → z ≡ behind y n → length z.chars < length x.chars
shrinks p x y z n empty r e =
    let all : length x.chars ≡ length r.front + length r.rest = sym (bytes_len x.chars) ∙ (ap length r.whole ∙ length-append r.front r.rest) in
    let a : length y.chars ≡ length x.chars - length r.front = ap length (rest_chars x y (length r.front) r.left_is) ∙ length-drop (length r.front) x.chars in
    let b : length z.chars ≡ length y.chars - n = ap length (rest_chars y z n e) ∙ length-drop n y.chars in
    let some = some_front r.front r.held.holds in
    omega (arith, all, a, b, some)
  where
    some_front : (u : List ℕ) → p u ≡ true → 0 < length u
    some_front [] h = absurd (both_ways (p []) empty h)
    some_front (c ∷ u) h = omega arith

pub run_at : (p : List ℕ → Bool) (x : Coming) → (BeginsUnit p (bytes_of x.chars) → ⊥) → IsRunOff p x x
run_at p x none = record { front = []; rest = bytes_of x.chars; whole = refl; held = run_none p (bytes_of x.chars) none; left_is = refl }

-- units in front of a run, which takes them up
run_behind : (p : List ℕ → Bool) (x y left : Coming) (a : List ℕ) → bytes_of x.chars ≡ a ++ bytes_of y.chars → y ≡ behind x (length a) → (r : IsRunOff p y left) → IsLongestHeld (AreUnits p) (a ++ r.front) r.rest → IsRunOff p x left
run_behind p x y left a w e r held = record {
  front = a ++ r.front;
  rest = r.rest;
  whole = w ∙ (ap (λ z. a ++ z) r.whole ∙ sym (append_assoc a r.front r.rest));
  held = held;
  left_is = r.left_is ∙ (ap (λ z. behind z (length r.front)) e ∙ (behind_again x (length a) (length r.front) ∙ ap (λ k. behind x k) (sym (length-append a r.front))));
}

pub run_off : (p : List ℕ → Bool) (x y left : Coming) → p [] ≡ false → IsGreedy p → IsUnitOff p x y → IsRunOff p y left → IsRunOff p x left
run_off p x y left empty greedy u r =
    let rest : bytes_of y.chars ≡ u.rest = left_bytes x y (length u.front) u.left_is ∙ (ap (λ z. drop (length u.front) z) u.whole ∙ drop-append_seam u.front u.rest) in
    let later : u.rest ≡ r.front ++ r.rest = sym rest ∙ r.whole in
    run_behind p x y left u.front (u.whole ∙ ap (λ z. u.front ++ z) (sym rest)) u.left_is r
    (run_step p u.front r.front r.rest empty greedy (subst (λ z. IsLongestHeld (λ k. IsTrue (p k)) u.front z) later u.held) r.held)

-- Words

pub no_word_unit : is_word_unit [] ≡ false
no_word_unit = false_from_ne_true (is_word_unit []) word_some

run_singles : (a run rest : List ℕ) → list_all is_word a ≡ true → IsLongestHeld (AreUnits is_word_unit) run rest → IsLongestHeld (AreUnits is_word_unit) (a ++ run) rest
run_singles [] run rest h r = r
run_singles (c ∷ a) run rest h r =
    let parts = and_parts (is_word c) (list_all is_word a) h in
    run_step is_word_unit (c ∷ []) (a ++ run) rest no_word_unit word_greedy (word_longest (c ∷ []) ((a ++ run) ++ rest) (word_single c parts.0)) (run_singles a run rest parts.1 r)

-- letters and digits, and then a run
pub word_run : (x y left : Coming) → y ≡ behind x (prefix_len is_word (bytes_of x.chars)) → IsRunOff is_word_unit y left → IsRunOff is_word_unit x left
word_run x y left e r =
    let n = prefix_len is_word (bytes_of x.chars) in
    let len : length (take (prefix_len is_word (bytes_of x.chars)) (bytes_of x.chars)) ≡ prefix_len is_word (bytes_of x.chars) = length-prefix_len is_word (bytes_of x.chars) in
    run_behind is_word_unit x y left (take (prefix_len is_word (bytes_of x.chars)) (bytes_of x.chars))
    (sym (take-append-drop (prefix_len is_word (bytes_of x.chars)) (bytes_of x.chars)) ∙ ap (λ z. take (prefix_len is_word (bytes_of x.chars)) (bytes_of x.chars) ++ z) (sym (left_bytes x y (prefix_len is_word (bytes_of x.chars)) e)))
    (e ∙ ap (λ k. behind x k) (sym len)) r
    (run_singles (take (prefix_len is_word (bytes_of x.chars)) (bytes_of x.chars)) r.front r.rest (passes is_word (bytes_of x.chars)) r.held)

pub word_stopped : (x y : Coming) → y ≡ behind x (prefix_len is_word (bytes_of x.chars)) → starts is_word (bytes_of y.chars) ≡ false
word_stopped x y e = subst (λ z. starts is_word z ≡ false) (sym (left_bytes x y (prefix_len is_word (bytes_of x.chars)) e)) (stops is_word (bytes_of x.chars))

pub word_of_rare : (x left : Coming) → IsUnitOff (is_rare_unit is_xid_continue) x left → IsUnitOff is_word_unit x left
word_of_rare x left r = record { front = r.front; rest = r.rest; whole = r.whole; held = word_longest r.front r.rest (rare_is_word r.front r.held.holds); left_is = r.left_is }

pub word_none : (s : List ℕ) → starts is_word s ≡ false → (BeginsUnit (is_rare_unit is_xid_continue) s → ⊥) → BeginsUnit is_word_unit s → ⊥
word_none s n rare b = elim (word_is b.unit b.passes) [
  | inl e ↦ one b.unit e (subst (λ z. starts is_word z ≡ false) b.whole n)
  | inr e ↦ rare (record { unit = b.unit; rest = b.rest; passes = e; whole = b.whole })
]
  where
    one : (u : List ℕ) → is_one is_word u ≡ true → starts is_word (u ++ b.rest) ≡ false → ⊥
    one [] e n = cc
    one (c ∷ []) e n = both_ways (is_word c) n e
    one (c ∷ f ∷ u) e n = cc

-- Numbers

pub pair_first : (d : Dialect) (s : List LogicalChar) (c e : LogicalChar) → slice_get s 0 ≡ Some c → slice_get s 1 ≡ Some e → begins_pair d (bytes_of s) ≡ is_pair d c.byte e.byte
pair_first d [] c e h g = cc
pair_first d (a ∷ []) c e h g = cc
pair_first d (a ∷ b ∷ s) c e h g = let x : a ≡ c = cc in let y : b ≡ e = cc in ap (λ z. is_pair d z.byte b.byte) x ∙ ap (λ z. is_pair d c.byte z.byte) y

pub pair_short : (d : Dialect) (s : List LogicalChar) → slice_get s 1 ≡ None → begins_pair d (bytes_of s) ≡ false
pair_short d [] h = refl
pair_short d (a ∷ []) h = refl
pair_short d (a ∷ b ∷ s) h = cc

pub pair_empty : (d : Dialect) (s : List LogicalChar) → slice_get s 0 ≡ None → begins_pair d (bytes_of s) ≡ false
pair_empty d [] h = refl
pair_empty d (a ∷ s) h = cc

pair_unit : (d : Dialect) (c e : ℕ) → is_pair d c e ≡ true → is_number_unit d (c ∷ e ∷ []) ≡ true
unfolding is_number_unit
pair_unit d c e h = elim (or_cases (is_exponent c && is_sign e) (is_separated d (c ∷ e ∷ [])) h) [
  | inl i ↦ or_left (is_word_unit (c ∷ e ∷ []) || false || (is_exponent c && is_sign e)) (is_separated d (c ∷ e ∷ [])) (or_right (is_word_unit (c ∷ e ∷ []) || false) (is_exponent c && is_sign e) i)
  | inr i ↦ or_right (is_word_unit (c ∷ e ∷ []) || false || (is_exponent c && is_sign e)) (is_separated d (c ∷ e ∷ [])) i
]

-- a pair doesn't begin with a rare character
pair_not_rare : (d : Dialect) (c e : ℕ) → is_pair d c e ≡ true → is_rare c ≡ false
pair_not_rare d c e h = elim (or_cases (is_exponent c && is_sign e) (is_separated d (c ∷ e ∷ [])) h) [
  | inl j ↦ exponent_not_rare c (and_parts (is_exponent c) (is_sign e) j).0
  | inr j ↦ separated_not_rare d c e j
]
  where
    separated_not_rare : (d : Dialect) (c e : ℕ) → is_separated d (c ∷ e ∷ []) ≡ true → is_rare c ≡ false
    separated_not_rare C11 c e h = cc
    separated_not_rare C23 c e h = let is : c ≡ 39 = eqb-true c 39 (and_parts (c == 39) _ h).0 in rw is refl

pub pair_off : (d : Dialect) (x left : Coming) → begins_pair d (bytes_of x.chars) ≡ true → left ≡ behind x 2 → IsUnitOff (is_number_unit d) x left
pair_off d x left h e = at (bytes_of x.chars) refl h
  where
    longer : (c f g : ℕ) (more : List ℕ) → is_rare c ≡ false → NumberUnit d (c ∷ f ∷ g ∷ more) → ⊥
    longer c f g more n (Single a i j) = cc
    longer c f g more n (Rare i) = both_ways (is_rare c) n (rare_first is_xid_continue c (f ∷ g ∷ more) i)
    longer c f g more n (Signed a b i j k) = cc
    longer c f g more n (Separated a i j) = cc

    at : (s : List ℕ) → bytes_of x.chars ≡ s → begins_pair d s ≡ true → IsUnitOff (is_number_unit d) x left
    at [] w h = cc
    at (c ∷ []) w h = cc
    at (c ∷ f ∷ s) w h = record {
      front = c ∷ f ∷ [];
      rest = s;
      whole = w;
      held = record { holds = pair_unit d c f h; longest = λ g more end r u. longer c f g more (pair_not_rare d c f h) (number_unit d (c ∷ f ∷ g ∷ more) u) };
      left_is = e;
    }

single_unit : (d : Dialect) (c : ℕ) → is_single c ≡ true → is_number_unit d (c ∷ []) ≡ true
unfolding is_number_unit
single_unit d c h = elim (or_cases (is_word c) (c == 46) h) [
  | inl e ↦ let u = word_single c e in rw u refl
  | inr e ↦ elim (cases_Bool (is_word_unit (c ∷ []))) [ inl y ↦ rw y refl | inr n ↦ rw (n, e) refl ]
]

pub single_off : (d : Dialect) (x left : Coming) → begins_pair d (bytes_of x.chars) ≡ false → starts is_single (bytes_of x.chars) ≡ true → left ≡ behind x 1 → IsUnitOff (is_number_unit d) x left
single_off d x left n h e = at (bytes_of x.chars) refl n h
  where
    longer : (c g : ℕ) (more end : List ℕ) → is_single c ≡ true → begins_pair d (c ∷ g ∷ (more ++ end)) ≡ false → NumberUnit d (c ∷ g ∷ more) → ⊥
    longer c g more end k n (Single a i j) = cc
    longer c g more end k n (Rare i) = both_ways (is_rare c) (single_not_rare c k) (rare_first is_xid_continue c (g ∷ more) i)
    longer c g more end k n (Signed a b i j l) =
        let x : c ≡ a = cc in let y : g ≡ b = cc in
        let pair : (is_exponent a && is_sign b) ≡ true = and_from (is_exponent a) (is_sign b) j l in
        let both : (is_exponent c && is_sign g) ≡ true = rw (x, y) pair in
        both_ways (is_pair d c g) n (or_left (is_exponent c && is_sign g) (is_separated d (c ∷ g ∷ [])) both)
    longer c g more end k n (Separated a i j) = let x : c ≡ 39 = cc in both_ways (is_single 39) apostrophe_no_single (subst (λ z. is_single z ≡ true) x k)

    at : (s : List ℕ) → bytes_of x.chars ≡ s → begins_pair d s ≡ false → starts is_single s ≡ true → IsUnitOff (is_number_unit d) x left
    at [] w n h = cc
    at (c ∷ s) w n h = record {
      front = c ∷ [];
      rest = s;
      whole = w;
      held = record { holds = single_unit d c h; longest = λ g more end r u. longer c g more end h (subst (λ z. begins_pair d (c ∷ z) ≡ false) r n) (number_unit d (c ∷ g ∷ more) u) };
      left_is = e;
    }

pub number_of_rare : (d : Dialect) (x left : Coming) → IsUnitOff (is_rare_unit is_xid_continue) x left → IsUnitOff (is_number_unit d) x left
number_of_rare d x left r = record { front = r.front; rest = r.rest; whole = r.whole; held = rare_longest_number d r.front r.rest r.held.holds; left_is = r.left_is }

pub number_none : (d : Dialect) (s : List ℕ) → begins_pair d s ≡ false → starts is_single s ≡ false → (BeginsUnit (is_rare_unit is_xid_continue) s → ⊥) → BeginsUnit (is_number_unit d) s → ⊥
number_none d s n k rare b = elim (number_unit d b.unit b.passes) [
  | Single c i j ↦ let whole : s ≡ c ∷ b.rest = b.whole ∙ ap (λ z. z ++ b.rest) i in both_ways (is_single c) (subst (λ z. starts is_single z ≡ false) whole k) j
  | Rare i ↦ rare (record { unit = b.unit; rest = b.rest; passes = i; whole = b.whole })
  | Signed c e i j l ↦
      let whole : s ≡ c ∷ e ∷ b.rest = b.whole ∙ ap (λ z. z ++ b.rest) i in
      both_ways (is_pair d c e) (subst (λ z. begins_pair d z ≡ false) whole n) (or_left (is_exponent c && is_sign e) (is_separated d (c ∷ e ∷ [])) (and_from (is_exponent c) (is_sign e) j l))
  | Separated e i j ↦
      let whole : s ≡ 39 ∷ e ∷ b.rest = b.whole ∙ ap (λ z. z ++ b.rest) i in
      both_ways (is_pair d 39 e) (subst (λ z. begins_pair d z ≡ false) whole n) (or_right (is_exponent 39 && is_sign e) (is_separated d (39 ∷ e ∷ [])) (subst (λ z. is_separated d z ≡ true) i j))
]

-- where neither a pair nor a character by itself goes on, only a rare unit does
pub number_of_behind : (d : Dialect) (x : Coming) (o : Option Coming) → begins_pair d (bytes_of x.chars) ≡ false → starts is_single (bytes_of x.chars) ≡ false →
    MatchOption o (BeginsUnit (is_rare_unit is_xid_continue) (bytes_of x.chars) → ⊥) (λ left. IsUnitOff (is_rare_unit is_xid_continue) x left) →
    MatchOption o (BeginsUnit (is_number_unit d) (bytes_of x.chars) → ⊥) (λ left. IsUnitOff (is_number_unit d) x left)
number_of_behind d x None n k m = number_none d (bytes_of x.chars) n k m
number_of_behind d x (Some left) n k m = number_of_rare d x left m

pub no_rare_unit : is_rare_unit is_xid_continue [] ≡ false
no_rare_unit = false_from_ne_true (is_rare_unit is_xid_continue []) (λ h. let l = rare_long is_xid_continue [] h in let w = l.whole in cc)
