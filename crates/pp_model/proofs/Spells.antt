-- A spelling passes the test of a shape exactly where the grammar has it.
use Rattle.std.proofs.Common.{◌≡◌, ◌≢◌, ℕ, Bool, true, false, not, ◌||◌, List, [], ◌∷◌, ◌++◌, Option, Some, None, refl, sym, ◌∙◌, ap, subst, inl, inr}
use Rattle.std.specs.Prelude.{◌==◌, ◌&&◌, ◌⊎◌, codes, find}
use Rattle.std.specs.List.{list_all}
use Rattle.std.proofs.lemmas.Bool.{cases_Bool, both_ways, and_from, and_parts, or_left, or_right, or_cases, not_from_false}
use Rattle.std.proofs.lemmas.List.{append-nil}
use Rattle.c_chars.specs.declared.Dialect.{Dialect}
use Rattle.c_grammar.specs.Grammar.{is_of, is_one, is_same, is_white, is_new_line, has_end, is_letter_unit, is_word_unit, is_number_head, is_number_unit, is_char_prefix, is_string_prefix, is_quoted_unit, IsHeaded, IsQuoted, IsUnclosed, IsEmptyQuotes, IsBlock, IsOpen, IsTrimmed, IsLine, IsHeaderName, Shape, Whole, Unended, Spells}
use Rattle.item_kinds.specs.declared.ItemKind.TheVariants.{Identifier, Number, CharConst, StringLit, Punct, HeaderName, StrayQuote, Other, BlockComment, LineComment}
use Rattle.c_grammar.proofs.Lists.{same_is, same_refl}
use Rattle.c_grammar.proofs.Sorts.{one_kind}
use Rattle.pp_model.specs.Finding.{cuts, are_units, is_headed, is_inside, is_quoted, is_unclosed, is_in_line, is_empty_quotes, is_block, is_open, is_trim, is_line, is_between, is_header_name, spells, shapes, shape_of}
use Rattle.pp_model.proofs.Cuts.{cuts_from, cuts_give, units_found, units_are}

false_from_not : (b : Bool) → not b ≡ true → b ≡ false
false_from_not true h = cc
false_from_not false h = refl

is_same_at : (s t : List ℕ) → s ≡ t → is_same s t ≡ true
is_same_at s t e = subst (λ z. is_same s z ≡ true) e (same_refl s)

headed_found : (f m : List ℕ → Bool) (s : List ℕ) → IsHeaded f m s → is_headed f m s ≡ true
headed_found f m s h = subst (λ z. is_headed f m z ≡ true) (sym h.whole) (cuts_from f (are_units m) h.head h.tail h.begins (units_found m h.tail h.goes_on))

headed_is : (f m : List ℕ → Bool) (s : List ℕ) → is_headed f m s ≡ true → IsHeaded f m s
headed_is f m s e =
    let i = cuts_give f (are_units m) s e in record { head = i.front; tail = i.rest; begins = i.first; goes_on = units_are m i.rest i.second; whole = i.whole }

quoted_found : (p : List ℕ → Bool) (q : ℕ) (may : Bool) (s : List ℕ) → IsQuoted p q may s → is_quoted p q may s ≡ true
quoted_found p q may s h =
    let inside : is_inside q may h.body ≡ true = and_from (may || not (is_same h.body [])) (are_units (is_quoted_unit q) h.body) h.not_empty (units_found (is_quoted_unit q) h.body h.inside) in
    let last = cuts_from (is_inside q may) (is_same (q ∷ [])) h.body (q ∷ []) inside (same_refl (q ∷ [])) in
    let first = cuts_from (is_same (q ∷ [])) (cuts (is_inside q may) (is_same (q ∷ []))) (q ∷ []) (h.body ++ q ∷ []) (same_refl (q ∷ [])) last in
    subst (λ z. is_quoted p q may z ≡ true) (sym h.whole)
    (cuts_from p (cuts (is_same (q ∷ [])) (cuts (is_inside q may) (is_same (q ∷ [])))) h.before (q ∷ (h.body ++ q ∷ [])) h.begins first)

quoted_is : (p : List ℕ → Bool) (q : ℕ) (may : Bool) (s : List ℕ) → is_quoted p q may s ≡ true → IsQuoted p q may s
quoted_is p q may s e =
    let i = cuts_give p (cuts (is_same (q ∷ [])) (cuts (is_inside q may) (is_same (q ∷ [])))) s e in
    let j = cuts_give (is_same (q ∷ [])) (cuts (is_inside q may) (is_same (q ∷ []))) i.rest i.second in
    let k = cuts_give (is_inside q may) (is_same (q ∷ [])) j.rest j.second in
    let first : q ∷ [] ≡ j.front = same_is (q ∷ []) j.front j.first in
    let last : q ∷ [] ≡ k.rest = same_is (q ∷ []) k.rest k.second in
    let b = and_parts (may || not (is_same k.front [])) (are_units (is_quoted_unit q) k.front) k.first in
    record {
      before = i.front;
      body = k.front;
      begins = i.first;
      not_empty = b.0;
      inside = units_are (is_quoted_unit q) k.front b.1;
      whole = i.whole ∙ ap (λ z. i.front ++ z) (j.whole ∙ (ap (λ z. z ++ j.rest) (sym first) ∙ ap (λ z. q ∷ z) (k.whole ∙ ap (λ z. k.front ++ z) (sym last))));
    }

unclosed_found : (s : List ℕ) → IsUnclosed s → is_unclosed s ≡ true
unclosed_found s h =
    subst (λ z. is_unclosed z ≡ true) (sym h.whole)
    (and_from (is_of (codes "'\"") h.quote) (cuts (are_units (is_quoted_unit h.quote)) (λ l. is_same l [] || is_same l (92 ∷ [])) (h.body ++ h.last)) h.is_quote
    (cuts_from (are_units (is_quoted_unit h.quote)) (λ l. is_same l [] || is_same l (92 ∷ [])) h.body h.last (units_found (is_quoted_unit h.quote) h.body h.inside) h.ends))

unclosed_is : (s : List ℕ) → is_unclosed s ≡ true → IsUnclosed s
unclosed_is [] e = cc
unclosed_is (q ∷ s) e =
    let b = and_parts (is_of (codes "'\"") q) (cuts (are_units (is_quoted_unit q)) (λ l. is_same l [] || is_same l (92 ∷ [])) s) e in
    let i = cuts_give (are_units (is_quoted_unit q)) (λ l. is_same l [] || is_same l (92 ∷ [])) s b.1 in
    record { quote = q; body = i.front; last = i.rest; is_quote = b.0; inside = units_are (is_quoted_unit q) i.front i.first; ends = i.second; whole = ap (λ z. q ∷ z) i.whole }

empty_found : (s : List ℕ) → IsEmptyQuotes s → is_empty_quotes s ≡ true
empty_found s h = subst (λ z. is_empty_quotes z ≡ true) (sym h.whole) (cuts_from (is_same (39 ∷ 39 ∷ [])) is_in_line (39 ∷ 39 ∷ []) h.body refl h.in_line)

empty_is : (s : List ℕ) → is_empty_quotes s ≡ true → IsEmptyQuotes s
empty_is s e =
    let i = cuts_give (is_same (39 ∷ 39 ∷ [])) is_in_line s e in
    let first : 39 ∷ 39 ∷ [] ≡ i.front = same_is (39 ∷ 39 ∷ []) i.front i.first in
    record { body = i.rest; in_line = i.second; whole = i.whole ∙ ap (λ z. z ++ i.rest) (sym first) }

block_found : (s : List ℕ) → IsBlock s → is_block s ≡ true
block_found s h =
    let last = cuts_from (λ b. not (has_end (b ++ 42 ∷ []))) (is_same (42 ∷ 47 ∷ [])) h.body (42 ∷ 47 ∷ []) (not_from_false (has_end (h.body ++ 42 ∷ [])) h.first_end) refl in
    subst (λ z. is_block z ≡ true) (sym h.whole)
    (cuts_from (is_same (47 ∷ 42 ∷ [])) (cuts (λ b. not (has_end (b ++ 42 ∷ []))) (is_same (42 ∷ 47 ∷ []))) (47 ∷ 42 ∷ []) (h.body ++ 42 ∷ 47 ∷ []) refl last)

block_is : (s : List ℕ) → is_block s ≡ true → IsBlock s
block_is s e =
    let i = cuts_give (is_same (47 ∷ 42 ∷ [])) (cuts (λ b. not (has_end (b ++ 42 ∷ []))) (is_same (42 ∷ 47 ∷ []))) s e in
    let j = cuts_give (λ b. not (has_end (b ++ 42 ∷ []))) (is_same (42 ∷ 47 ∷ [])) i.rest i.second in
    let first : 47 ∷ 42 ∷ [] ≡ i.front = same_is (47 ∷ 42 ∷ []) i.front i.first in
    let last : 42 ∷ 47 ∷ [] ≡ j.rest = same_is (42 ∷ 47 ∷ []) j.rest j.second in
    record {
      body = j.front;
      first_end = false_from_not (has_end (j.front ++ 42 ∷ [])) j.first;
      whole = i.whole ∙ (ap (λ z. z ++ i.rest) (sym first) ∙ ap (λ z. 47 ∷ 42 ∷ z) (j.whole ∙ ap (λ z. j.front ++ z) (sym last)));
    }

open_found : (s : List ℕ) → IsOpen s → is_open s ≡ true
open_found s h =
    subst (λ z. is_open z ≡ true) (sym h.whole)
    (cuts_from (is_same (47 ∷ 42 ∷ [])) (λ b. not (has_end b)) (47 ∷ 42 ∷ []) h.body refl (not_from_false (has_end h.body) h.no_end))

open_is : (s : List ℕ) → is_open s ≡ true → IsOpen s
open_is s e =
    let i = cuts_give (is_same (47 ∷ 42 ∷ [])) (λ b. not (has_end b)) s e in
    let first : 47 ∷ 42 ∷ [] ≡ i.front = same_is (47 ∷ 42 ∷ []) i.front i.first in
    record { body = i.rest; no_end = false_from_not (has_end i.rest) i.second; whole = i.whole ∙ ap (λ z. z ++ i.rest) (sym first) }

trim_found : (last white : List ℕ) → list_all is_white white ≡ true → ((is_one (λ c. not (is_white c)) last && is_same white []) || is_same last (92 ∷ [])) ≡ true → is_trim (last ++ white) ≡ true
trim_found last white w h = elim (or_cases (is_one (λ c. not (is_white c)) last && is_same white []) (is_same last (92 ∷ [])) h) [
  | inl e ↦
      let b = and_parts (is_one (λ c. not (is_white c)) last) (is_same white []) e in
      let nothing : white ≡ [] = same_is white [] b.1 in
      let one : is_one (λ c. not (is_white c)) (last ++ white) ≡ true = subst (λ z. is_one (λ c. not (is_white c)) z ≡ true) (sym (append-nil last) ∙ ap (λ z. last ++ z) (sym nothing)) b.0 in
      or_left (is_one (λ c. not (is_white c)) (last ++ white)) (cuts (is_same (92 ∷ [])) (list_all is_white) (last ++ white)) one
  | inr e ↦
      let slash : last ≡ 92 ∷ [] = same_is last (92 ∷ []) e in
      or_right (is_one (λ c. not (is_white c)) (last ++ white)) (cuts (is_same (92 ∷ [])) (list_all is_white) (last ++ white))
      (cuts_from (is_same (92 ∷ [])) (list_all is_white) last white (is_same_at (92 ∷ []) last (sym slash)) w)
]

trimmed_found : (t : List ℕ) → IsTrimmed t → cuts (λ f. true) is_trim t ≡ true
trimmed_found t h =
    subst (λ z. cuts (λ f. true) is_trim z ≡ true) (sym h.whole) (cuts_from (λ f. true) is_trim h.front (h.last ++ h.white) refl (trim_found h.last h.white h.each_white h.ends))

trimmed_is : (t : List ℕ) → cuts (λ f. true) is_trim t ≡ true → IsTrimmed t
trimmed_is t e =
    let i = cuts_give (λ f. true) is_trim t e in
    (elim (or_cases (is_one (λ c. not (is_white c)) i.rest) (cuts (is_same (92 ∷ [])) (list_all is_white) i.rest) i.second) [
      | inl o ↦
          record {
            front = i.front;
            white = [];
            each_white = refl;
            last = i.rest;
            ends = or_left (is_one (λ c. not (is_white c)) i.rest && true) (is_same i.rest (92 ∷ [])) (and_from (is_one (λ c. not (is_white c)) i.rest) true o refl);
            whole = i.whole ∙ ap (λ z. i.front ++ z) (sym (append-nil i.rest));
          }
      | inr o ↦
          let j = cuts_give (is_same (92 ∷ [])) (list_all is_white) i.rest o in
          let slash : 92 ∷ [] ≡ j.front = same_is (92 ∷ []) j.front j.first in
          record {
            front = i.front;
            white = j.rest;
            each_white = j.second;
            last = j.front;
            ends = or_right (is_one (λ c. not (is_white c)) j.front && is_same j.rest []) (is_same j.front (92 ∷ [])) (is_same_at j.front (92 ∷ []) (sym slash));
            whole = i.whole ∙ ap (λ z. i.front ++ z) j.whole;
          }
    ])

abbrev behind_slash : List ℕ → Bool
behind_slash t = cuts (is_same (47 ∷ [])) is_in_line t && cuts (λ f. true) is_trim t

line_found : (s : List ℕ) → IsLine s → is_line s ≡ true
line_found s h =
    let in_line = cuts_from (is_same (47 ∷ [])) is_in_line (47 ∷ []) h.body refl h.in_line in
    subst (λ z. is_line z ≡ true) (sym h.whole)
    (cuts_from (is_same (47 ∷ [])) behind_slash (47 ∷ []) (47 ∷ h.body) refl
    (and_from (cuts (is_same (47 ∷ [])) is_in_line (47 ∷ h.body)) (cuts (λ f. true) is_trim (47 ∷ h.body)) in_line (trimmed_found (47 ∷ h.body) h.trimmed)))

line_is : (s : List ℕ) → is_line s ≡ true → IsLine s
line_is s e =
    let i = cuts_give (is_same (47 ∷ [])) behind_slash s e in
    let b = and_parts (cuts (is_same (47 ∷ [])) is_in_line i.rest) (cuts (λ f. true) is_trim i.rest) i.second in
    let j = cuts_give (is_same (47 ∷ [])) is_in_line i.rest b.0 in
    let first : 47 ∷ [] ≡ i.front = same_is (47 ∷ []) i.front i.first in
    let second : 47 ∷ [] ≡ j.front = same_is (47 ∷ []) j.front j.first in
    let behind : i.rest ≡ 47 ∷ j.rest = j.whole ∙ ap (λ z. z ++ j.rest) (sym second) in
    record {
      body = j.rest;
      in_line = j.second;
      trimmed = subst IsTrimmed behind (trimmed_is i.rest b.1);
      whole = i.whole ∙ (ap (λ z. z ++ i.rest) (sym first) ∙ ap (λ z. 47 ∷ z) behind);
    }

-- ## Header names

some_body : (b : List ℕ) → b ≢ [] → not (is_same b []) ≡ true
some_body [] h = absurd (h refl)
some_body (c ∷ b) h = refl

abbrev between : ℕ → List ℕ → Bool
between l b = list_all (λ c. not (c == l) && not (is_new_line c)) b && not (is_same b [])

between_found : (f l : ℕ) (b s : List ℕ) → list_all (λ c. not (c == l) && not (is_new_line c)) b ≡ true → b ≢ [] → s ≡ f ∷ (b ++ l ∷ []) → is_between f l s ≡ true
between_found f l b s i n w =
    let last = cuts_from (between l) (is_same (l ∷ [])) b (l ∷ []) (and_from (list_all (λ c. not (c == l) && not (is_new_line c)) b) (not (is_same b [])) i (some_body b n)) (same_refl (l ∷ [])) in
    subst (λ z. is_between f l z ≡ true) (sym w) (cuts_from (is_same (f ∷ [])) (cuts (between l) (is_same (l ∷ []))) (f ∷ []) (b ++ l ∷ []) (same_refl (f ∷ [])) last)

pub header_found : (s : List ℕ) → IsHeaderName s → is_header_name s ≡ true
header_found s h = elim h.ends [
  | inl e ↦
      let found : is_between h.first h.last s ≡ true = between_found h.first h.last h.body s h.inside h.not_empty h.whole in
      or_left (is_between 60 62 s) (is_between 34 34 s) (subst (λ z. is_between z 62 s ≡ true) e.0 (subst (λ z. is_between h.first z s ≡ true) e.1 found))
  | inr e ↦
      let found : is_between h.first h.last s ≡ true = between_found h.first h.last h.body s h.inside h.not_empty h.whole in
      or_right (is_between 60 62 s) (is_between 34 34 s) (subst (λ z. is_between z 34 s ≡ true) e.0 (subst (λ z. is_between h.first z s ≡ true) e.1 found))
]

between_is : (f l : ℕ) (s : List ℕ) → ((f ≡ 60) × (l ≡ 62)) ⊎ ((f ≡ 34) × (l ≡ 34)) → is_between f l s ≡ true → IsHeaderName s
between_is f l s ends e =
    let i = cuts_give (is_same (f ∷ [])) (cuts (between l) (is_same (l ∷ []))) s e in
    let j = cuts_give (between l) (is_same (l ∷ [])) i.rest i.second in
    let first : f ∷ [] ≡ i.front = same_is (f ∷ []) i.front i.first in
    let last : l ∷ [] ≡ j.rest = same_is (l ∷ []) j.rest j.second in
    let b = and_parts (list_all (λ c. not (c == l) && not (is_new_line c)) j.front) (not (is_same j.front [])) j.first in
    record {
      first = f;
      last = l;
      body = j.front;
      ends = ends;
      inside = b.0;
      not_empty = λ n. both_ways (is_same j.front []) (false_from_not (is_same j.front []) b.1) (is_same_at j.front [] n);
      whole = i.whole ∙ (ap (λ z. z ++ i.rest) (sym first) ∙ ap (λ z. f ∷ z) (j.whole ∙ ap (λ z. j.front ++ z) (sym last)));
    }

pub header_is : (s : List ℕ) → is_header_name s ≡ true → IsHeaderName s
header_is s e = elim (or_cases (is_between 60 62 s) (is_between 34 34 s) e) [
  | inl b ↦ between_is 60 62 s (inl (refl, refl)) b
  | inr b ↦ between_is 34 34 s (inr (refl, refl)) b
]

-- ## All shapes

pub spells_found : (d : Dialect) (k : Shape) (s : List ℕ) → Spells d k s → spells d k s ≡ true
spells_found d (Whole Identifier) s h = headed_found is_letter_unit is_word_unit s h
spells_found d (Whole Number) s h = headed_found is_number_head (is_number_unit d) s h
spells_found d (Whole CharConst) s h = quoted_found (is_char_prefix d) 39 false s h
spells_found d (Whole StringLit) s h = quoted_found is_string_prefix 34 true s h
spells_found d (Whole Punct) s h = h
spells_found d (Whole HeaderName) s h = absurd h
spells_found d (Whole StrayQuote) s (inl h) = or_left (is_unclosed s) (is_empty_quotes s) (unclosed_found s h)
spells_found d (Whole StrayQuote) s (inr h) = or_right (is_unclosed s) (is_empty_quotes s) (empty_found s h)
spells_found d (Whole Other) s h = h
spells_found d (Whole BlockComment) s h = block_found s h
spells_found d (Whole LineComment) s h = line_found s h
spells_found d Unended s h = open_found s h

pub spells_is : (d : Dialect) (k : Shape) (s : List ℕ) → spells d k s ≡ true → Spells d k s
spells_is d (Whole Identifier) s e = headed_is is_letter_unit is_word_unit s e
spells_is d (Whole Number) s e = headed_is is_number_head (is_number_unit d) s e
spells_is d (Whole CharConst) s e = quoted_is (is_char_prefix d) 39 false s e
spells_is d (Whole StringLit) s e = quoted_is is_string_prefix 34 true s e
spells_is d (Whole Punct) s e = e
spells_is d (Whole HeaderName) s e = cc
spells_is d (Whole StrayQuote) s e = elim (or_cases (is_unclosed s) (is_empty_quotes s) e) [ inl h ↦ inl (unclosed_is s h) | inr h ↦ inr (empty_is s h) ]
spells_is d (Whole Other) s e = e
spells_is d (Whole BlockComment) s e = block_is s e
spells_is d (Whole LineComment) s e = line_is s e
spells_is d Unended s e = open_is s e

-- the list has it
abbrev Has : Shape → List Shape → Type 0
Has k [] = ⊥
Has k (j ∷ js) = (j ≡ k) ⊎ Has k js

all_there : (k : Shape) → Has k shapes
all_there (Whole Identifier) = inl refl
all_there (Whole Number) = inr (inl refl)
all_there (Whole CharConst) = inr (inr (inl refl))
all_there (Whole StringLit) = inr (inr (inr (inl refl)))
all_there (Whole Punct) = inr (inr (inr (inr (inl refl))))
all_there (Whole HeaderName) = inr (inr (inr (inr (inr (inl refl)))))
all_there (Whole StrayQuote) = inr (inr (inr (inr (inr (inr (inl refl))))))
all_there (Whole Other) = inr (inr (inr (inr (inr (inr (inr (inl refl)))))))
all_there (Whole BlockComment) = inr (inr (inr (inr (inr (inr (inr (inr (inl refl))))))))
all_there (Whole LineComment) = inr (inr (inr (inr (inr (inr (inr (inr (inr (inl refl)))))))))
all_there Unended = inr (inr (inr (inr (inr (inr (inr (inr (inr (inr (inl refl))))))))))

find_only : (test : Shape → Bool) (k : Shape) → ((j : Shape) → test j ≡ true → j ≡ k) → test k ≡ true → (ks : List Shape) → Has k ks → find test ks ≡ Some k
find_only test k one h [] at = absurd at
find_only test k one h (j ∷ js) at = elim (cases_Bool (test j)) [
  | inl e ↦ rw e (ap Some (one j e))
  | inr e ↦ rw e (elim at [
    | inl same ↦ absurd (both_ways (test k) (subst (λ z. test z ≡ false) same e) h)
    | inr more ↦ find_only test k one h js more
  ])
]

find_passes : (test : Shape → Bool) (k : Shape) (ks : List Shape) → find test ks ≡ Some k → test k ≡ true
find_passes test k [] e = cc
find_passes test k (j ∷ js) e = elim (cases_Bool (test j)) [
  | inl y ↦ let found : Some j ≡ Some k = rw y at e in let same : j ≡ k = cc in subst (λ z. test z ≡ true) same y
  | inr n ↦ find_passes test k js (rw n at e)
]

pub shape_found : (d : Dialect) (k : Shape) (s : List ℕ) → Spells d k s → shape_of d s ≡ Some k
shape_found d k s h = find_only (λ j. spells d j s) k (λ j e. one_kind d j k s (spells_is d j s e) h) (spells_found d k s h) shapes (all_there k)

pub shape_is : (d : Dialect) (k : Shape) (s : List ℕ) → shape_of d s ≡ Some k → Spells d k s
shape_is d k s e = spells_is d k s (find_passes (λ j. spells d j s) k shapes e)

pub no_shape : (d : Dialect) (s : List ℕ) → ((k : Shape) → Spells d k s → ⊥) → shape_of d s ≡ None
no_shape d s h = by (shape_of d s) refl
  where
    by : (o : Option Shape) → shape_of d s ≡ o → shape_of d s ≡ None
    by None e = e
    by (Some k) e = absurd (h k (shape_is d k s e))
