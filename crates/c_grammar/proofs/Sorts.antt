-- No list spells two kinds: a function tells the kind of what is spelled.
use Rattle.std.proofs.Common.{◌≡◌, ◌==◌, ◌||◌, ◌&&◌, not, ℕ, Bool, true, false, List, [], ◌∷◌, ◌++◌, refl, sym, ◌∙◌, ap, subst, inl, inr, append_assoc, length}
use Rattle.std.specs.Prelude.{codes, if◌then◌else◌}
use Rattle.std.specs.List.{list_all}
use Rattle.std.proofs.lemmas.Bool.{and_from, and_parts, or_cases, or_left, or_right, eqb-true, cases_Bool, not-true, both_ways, or_from, ne_eqb, false_from_ne_true}
use Rattle.c_grammar.specs.Grammar.{is_hex, is_wide, is_other_unit, is_same, joined, AreUnits, IsHeaded, IsQuoted, IsUnclosed, IsEmptyQuotes, IsBlock, IsLine, IsOpen, is_one, is_letter, is_digit, is_new_line, is_universal_name, is_letter_unit, is_word_unit, is_number_head, is_number_unit, common_punctuators, punctuators, is_punctuator, is_quoted_unit, is_char_prefix, is_string_prefix, is_other, has_end, Shape, Whole, Unended, Spells}
use Rattle.c_grammar.specs.Touch.{starts}
use Rattle.c_chars.specs.declared.Dialect.{Dialect}
use Rattle.c_chars.specs.declared.Dialect.TheVariants.{C11, C23}
use Rattle.item_kinds.specs.declared.ItemKind.TheVariants.{Identifier, Number, CharConst, StringLit, Punct, HeaderName, StrayQuote, Other, BlockComment, LineComment}
use Rattle.c_grammar.proofs.Lists.{in_table, passes_at}
use Rattle.c_grammar.proofs.Wide.{is_high, wide_high, wide_alone, wide_both}
use Rattle.unicode_ident.specs.Ident.{is_xid_start}
use Rattle.std.proofs.lemmas.List.{append-nil}
use Rattle.c_grammar.proofs.Firsts.{is_rare, not_start, letter_cases, other_cases, high_begins, high_letter_start, high_not_letter, high_not_quote, Begins, begins, is_quote, is_letter_start, is_mark, char_prefix_letter, string_prefix_letter}
use Rattle.c_grammar.proofs.Classes.{letter_start_not_digit, quote_not_letter_start, quote_not_digit, other_is_none, other_not_mark}
use Rattle.c_grammar.proofs.Words.{is_wordlike, identifier_wordlike, char_prefix_wordlike, string_prefix_wordlike, wordlike_not_quote}

-- the first quote, or 0
abbrev pub first_quote : List ℕ → ℕ
first_quote [] = 0
first_quote (c ∷ s) = if is_quote c then c else first_quote s

-- whether the quote is closed
abbrev pub closes : ℕ → List ℕ → Bool
closes q [] = false
closes q (c ∷ []) = c == q
closes q (c ∷ e ∷ s) = if c == q then true else (if c == 92 then closes q s else closes q (e ∷ s))

-- an item by itself, though a word may begin so
abbrev pub is_lone : List ℕ → Bool
is_lone s = is_same s (92 ∷ []) || (is_one is_high s || is_wide not_start s)

abbrev pub word_sort : List ℕ → Shape
word_sort s =
    if is_lone s then Whole Other
    else (if first_quote s == 39 then Whole CharConst
    else (if first_quote s == 34 then Whole StringLit
    else Whole Identifier))

abbrev pub quote_sort : ℕ → List ℕ → Shape
quote_sort c t =
    if c == 39 then (if starts (λ e. e == 39) t then Whole StrayQuote else (if closes 39 t then Whole CharConst else Whole StrayQuote))
    else (if closes 34 t then Whole StringLit else Whole StrayQuote)

abbrev pub tail_of : List ℕ → List ℕ
tail_of [] = []
tail_of (c ∷ s) = s

abbrev pub mark_sort : ℕ → List ℕ → Shape
mark_sort c t =
    if c == 46 && starts is_digit t then Whole Number
    else (if c == 47 && starts (λ e. e == 47) t then Whole LineComment
    else (if c == 47 && starts (λ e. e == 42) t then (if has_end (tail_of t) then Whole BlockComment else Unended)
    else Whole Punct))

abbrev pub sort_of : List ℕ → Shape
sort_of [] = Unended
sort_of (c ∷ t) =
    if is_letter_start c then word_sort (c ∷ t)
    else (if is_digit c then Whole Number
    else (if is_quote c then quote_sort c t
    else (if is_mark c then mark_sort c t
    else Whole Other)))

first_quote_none : (s : List ℕ) → list_all is_wordlike s ≡ true → first_quote s ≡ 0
first_quote_none [] h = refl
first_quote_none (c ∷ s) h =
    let parts = and_parts (is_wordlike c) (list_all is_wordlike s) h in
    let e = wordlike_not_quote c parts.0 in
    rw e (first_quote_none s parts.1)

pub first_quote_at : (s : List ℕ) (q : ℕ) (t : List ℕ) → list_all is_wordlike s ≡ true → is_quote q ≡ true → first_quote (s ++ q ∷ t) ≡ q
first_quote_at [] q t h e = rw e refl
first_quote_at (c ∷ s) q t h e =
    let parts = and_parts (is_wordlike c) (list_all is_wordlike s) h in
    let f = wordlike_not_quote c parts.0 in
    rw f (first_quote_at s q t parts.1 e)

-- words

letter_sort : (s : List ℕ) → (b : Begins is_letter_start s) → sort_of s ≡ word_sort s
letter_sort s b = let w = b.whole in let e = b.passes in rw (w, e) refl

-- what passes isn't what doesn't
pub apart_at : (p : ℕ → Bool) (c n : ℕ) → p c ≡ true → p n ≡ false → (c == n) ≡ false
apart_at p c n h g = ne_eqb c n (λ e. both_ways (p n) g (subst (λ x. p x ≡ true) e h))

not_92 : (c : ℕ) → is_quote c ≡ true → (c == 92) ≡ false
unfolding is_quote
not_92 c h = apart_at is_quote c 92 h refl

not_backslash : (s : List ℕ) (q : ℕ) (t : List ℕ) → is_quote q ≡ true → is_same (s ++ q ∷ t) (92 ∷ []) ≡ false
not_backslash [] q t h = let e = not_92 q h in rw e refl
not_backslash (c ∷ []) q t h = elim (cases_Bool (c == 92)) [ inl e ↦ rw e refl | inr e ↦ rw e refl ]
not_backslash (c ∷ e ∷ s) q t h = elim (cases_Bool (c == 92)) [ inl e ↦ rw e refl | inr e ↦ rw e refl ]

high_quote : (q : ℕ) → is_quote q ≡ true → is_high q ≡ true → ⊥
high_quote q k h = both_ways (is_quote q) (high_not_quote q h) k

not_all_high : (p : ℕ → Bool) (s : List ℕ) (q : ℕ) (t : List ℕ) → (is_high q ≡ true → ⊥) → is_wide p (s ++ q ∷ t) ≡ false
not_all_high p s q t n = false_from_ne_true (is_wide p (s ++ q ∷ t)) (λ w. n (passes_at is_high s q t (wide_high p (s ++ q ∷ t) w).high))

-- a list with a quote is no item by itself
not_lone : (s : List ℕ) (q : ℕ) (t : List ℕ) → is_quote q ≡ true → is_lone (s ++ q ∷ t) ≡ false
not_lone s q t k =
    let backslash = not_backslash s q t k in
    let wide = not_all_high not_start s q t (high_quote q k) in
    let one : is_one is_high (s ++ q ∷ t) ≡ false = no_one s t in
    or_from (is_same (s ++ q ∷ t) (92 ∷ [])) (is_one is_high (s ++ q ∷ t) || is_wide not_start (s ++ q ∷ t)) backslash
    (or_from (is_one is_high (s ++ q ∷ t)) (is_wide not_start (s ++ q ∷ t)) one wide)
  where
    no_one : (s t : List ℕ) → is_one is_high (s ++ q ∷ t) ≡ false
    no_one [] [] = false_from_ne_true (is_high q) (high_quote q k)
    no_one [] (e ∷ t) = refl
    no_one (c ∷ []) t = refl
    no_one (c ∷ e ∷ s) t = refl

letter_not_92 : (c : ℕ) → is_letter c ≡ true → (c == 92) ≡ false
unfolding is_letter
letter_not_92 c h = apart_at is_letter c 92 h refl

letter_not_high : (c : ℕ) → is_letter c ≡ true → is_high c ≡ true → ⊥
letter_not_high c l h = both_ways (is_letter c) (high_not_letter c h) l

letter_not_lone : (head tail : List ℕ) → is_one is_letter head ≡ true → is_lone (head ++ tail) ≡ false
letter_not_lone [] tail h = cc
letter_not_lone (c ∷ e ∷ s) tail h = cc
letter_not_lone (c ∷ []) tail h =
    let backslash = letter_not_92 c h in
    let wide = not_all_high not_start [] c tail (letter_not_high c h) in
    let one : is_one is_high (c ∷ tail) ≡ false = no_one tail in
    rw (backslash, one, wide) refl
  where
    no_one : (tail : List ℕ) → is_one is_high (c ∷ tail) ≡ false
    no_one [] = false_from_ne_true (is_high c) (letter_not_high c h)
    no_one (e ∷ tail) = refl

-- two characters and more aren't one
two_same : (b k : ℕ) (s : List ℕ) → is_same (b ∷ k ∷ s) (92 ∷ []) ≡ false
two_same b k s = elim (cases_Bool (b == 92)) [ inl e ↦ rw e refl | inr e ↦ rw e refl ]

name_not_lone : (head tail : List ℕ) → is_universal_name head ≡ true → is_lone (head ++ tail) ≡ false
unfolding is_universal_name
name_not_lone [] tail h = cc
name_not_lone (b ∷ []) tail h = cc
name_not_lone (b ∷ k ∷ digits) tail h =
    let parts = and_parts (b == 92) (((k == 117) && (length digits == 4)) || ((k == 85) && (length digits == 8))) (and_parts _ (list_all is_hex digits) h).0 in
    let same = two_same b k (digits ++ tail) in
    let low : is_high b ≡ true → ⊥ = λ z. both_ways (is_high 92) refl (subst (λ y. is_high y ≡ true) (eqb-true b 92 parts.0) z) in
    let wide = not_all_high not_start [] b (k ∷ (digits ++ tail)) low in
    rw (same, wide) refl

wide_not_lone : (head tail : List ℕ) → is_wide is_xid_start head ≡ true → is_lone (head ++ tail) ≡ false
wide_not_lone head tail h =
    let high = wide_high is_xid_start head h in
    let w : head ++ tail ≡ high.first ∷ high.second ∷ (high.rest ++ tail) = ap (λ z. z ++ tail) high.whole in
    let same : is_same (head ++ tail) (92 ∷ []) ≡ false = rw w (two_same high.first high.second (high.rest ++ tail)) in
    let one : is_one is_high (head ++ tail) ≡ false = rw w refl in
    let wide : is_wide not_start (head ++ tail) ≡ false = false_from_ne_true (is_wide not_start (head ++ tail)) (λ g.
    let none = wide_alone is_xid_start not_start head tail h g in
    let whole : is_wide not_start head ≡ true = subst (λ z. is_wide not_start z ≡ true) (ap (λ z. head ++ z) none ∙ append-nil head) g in
    let both = wide_both is_xid_start not_start head h whole in
    both_ways (is_xid_start both.0) (not-true (is_xid_start both.0) both.2) both.1) in
    rw (same, one, wide) refl

pub identifier_not_lone : (head tail : List ℕ) → is_letter_unit head ≡ true → is_lone (head ++ tail) ≡ false
identifier_not_lone head tail h = elim (letter_cases head h) [
  | inl e ↦ letter_not_lone head tail e
  | inr r ↦ elim r [ inl e ↦ name_not_lone head tail e | inr e ↦ wide_not_lone head tail e ]
]

identifier_sort : (s : List ℕ) → IsHeaded is_letter_unit is_word_unit s → Begins is_letter_start s → sort_of s ≡ Whole Identifier
identifier_sort s h b =
    let none = first_quote_none s (identifier_wordlike s h) in
    let w = h.whole in
    let apart : is_lone s ≡ false = rw w (identifier_not_lone h.head h.tail h.begins) in
    letter_sort s b ∙ rw (apart, none) refl

-- quotes

backslash_no_quote : is_quote 92 ≡ false
unfolding is_quote
backslash_no_quote = refl

closes_unit : (q : ℕ) → is_quote q ≡ true → (u r : List ℕ) → is_quoted_unit q u ≡ true → closes q (u ++ r) ≡ closes q r
unfolding is_quoted_unit
closes_unit q k [] r h = cc
closes_unit q k (c ∷ []) [] h =
    elim (or_cases (not (c == q) && not (c == 92) && not (is_new_line c)) false h) [
      | inl e ↦ let p = and_parts (not (c == q) && not (c == 92)) (not (is_new_line c)) e in
          let p2 = and_parts (not (c == q)) (not (c == 92)) p.0 in not-true (c == q) p2.0
      | inr e ↦ cc
    ]
closes_unit q k (c ∷ []) (d ∷ r) h =
    elim (or_cases (not (c == q) && not (c == 92) && not (is_new_line c)) false h) [
      | inl e ↦ let p = and_parts (not (c == q) && not (c == 92)) (not (is_new_line c)) e in
          let p2 = and_parts (not (c == q)) (not (c == 92)) p.0 in
          let f = not-true (c == q) p2.0 in let g = not-true (c == 92) p2.1 in rw (f, g) refl
      | inr e ↦ cc
    ]
closes_unit q k (c ∷ e ∷ []) r h =
    let parts = and_parts (c == 92) (not (is_new_line e)) h in
    let is : c ≡ 92 = eqb-true c 92 parts.0 in
    let f : (92 == q) ≡ false = ne_eqb 92 q (λ i. let g : is_quote 92 ≡ true = rw i k in both_ways (is_quote 92) backslash_no_quote g) in
    rw (is, f) refl
closes_unit q k (c ∷ e ∷ f ∷ s) r h = cc

closes_units : (q : ℕ) → is_quote q ≡ true → (us : List (List ℕ)) → list_all (is_quoted_unit q) us ≡ true → (t : List ℕ) → closes q (joined us ++ t) ≡ closes q t
closes_units q k [] h t = refl
closes_units q k (u ∷ us) h t =
    let parts = and_parts (is_quoted_unit q u) (list_all (is_quoted_unit q) us) h in
    rw append_assoc (closes_unit q k u (joined us ++ t) parts.0 ∙ closes_units q k us parts.1 t)

pub closes_body : (q : ℕ) → is_quote q ≡ true → (body : List ℕ) → AreUnits (is_quoted_unit q) body → (t : List ℕ) → closes q (body ++ t) ≡ closes q t
closes_body q k body h t = let w = h.whole in rw w (closes_units q k h.units h.each t)

-- the first character of a body isn't its quote
pub body_starts : (q : ℕ) (us : List (List ℕ)) → list_all (is_quoted_unit q) us ≡ true → not (is_same (joined us) []) ≡ true → q ≡ 39 → (t : List ℕ) → starts (λ e. e == 39) (joined us ++ t) ≡ false
unfolding is_quoted_unit
body_starts q [] h n i t = cc
body_starts q ([] ∷ us) h n i t = cc
body_starts q ((c ∷ []) ∷ us) h n i t =
    let parts = and_parts (is_quoted_unit q (c ∷ [])) (list_all (is_quoted_unit q) us) h in
    elim (or_cases (not (c == q) && not (c == 92) && not (is_new_line c)) false parts.0) [
      | inl e ↦ let p = and_parts (not (c == q) && not (c == 92)) (not (is_new_line c)) e in
          let p2 = and_parts (not (c == q)) (not (c == 92)) p.0 in rw i at (not-true (c == q) p2.0)
      | inr e ↦ cc
    ]
body_starts q ((c ∷ e ∷ []) ∷ us) h n i t =
    let parts = and_parts (is_quoted_unit q (c ∷ e ∷ [])) (list_all (is_quoted_unit q) us) h in
    let is : c ≡ 92 = eqb-true c 92 (and_parts (c == 92) (not (is_new_line e)) parts.0).0 in
    rw is refl
body_starts q ((c ∷ e ∷ f ∷ s) ∷ us) h n i t = cc

pub quote_sort_is : (c : ℕ) (t : List ℕ) → is_quote c ≡ true → sort_of (c ∷ t) ≡ quote_sort c t
quote_sort_is c t h = let a = quote_not_letter_start c h in let b = quote_not_digit c h in rw (a, b, h) refl

pub apostrophe : is_quote 39 ≡ true
unfolding is_quote
apostrophe = refl

pub quotation : is_quote 34 ≡ true
unfolding is_quote
quotation = refl

letters_sort : (q : ℕ) (s : List ℕ) → is_quote q ≡ true → (before rest : List ℕ) → s ≡ before ++ q ∷ rest → list_all is_wordlike before ≡ true → Begins is_letter_start s → sort_of s ≡ (if q == 39 then Whole CharConst else (if q == 34 then Whole StringLit else Whole Identifier))
letters_sort q s k before rest w l b =
    let found : first_quote s ≡ q = rw w (first_quote_at before q rest l k) in
    let apart : is_lone s ≡ false = rw w (not_lone before q rest k) in
    letter_sort s b ∙ rw (apart, found) refl

letter_begins_so : (c : ℕ) (before rest s : List ℕ) → s ≡ (c ∷ before) ++ rest → is_letter c ≡ true → Begins is_letter_start s
unfolding is_letter_start
letter_begins_so c before rest s w h = record { c = c; rest = before ++ rest; whole = w; passes = or_left (is_letter c) (is_rare c) h }

char_sort : (d : Dialect) (s : List ℕ) → (h : IsQuoted (is_char_prefix d) 39 false s) → (before : List ℕ) → h.before ≡ before → sort_of s ≡ Whole CharConst
char_sort d s h [] e =
    let w : s ≡ 39 ∷ (h.body ++ 39 ∷ []) = rw e at h.whole in
    let u = h.inside.whole in
    let full : not (is_same (joined h.inside.units) []) ≡ true = rw u at h.not_empty in
    let apart : starts (λ e. e == 39) (h.body ++ 39 ∷ []) ≡ false = rw u (body_starts 39 h.inside.units h.inside.each full refl (39 ∷ [])) in
    let closed : closes 39 (h.body ++ 39 ∷ []) ≡ true = closes_body 39 apostrophe h.body h.inside (39 ∷ []) in
    ap sort_of w ∙ (quote_sort_is 39 (h.body ++ 39 ∷ []) apostrophe ∙ rw (apart, closed) refl)
char_sort d s h (c ∷ before) e =
    let w : s ≡ (c ∷ before) ++ 39 ∷ (h.body ++ 39 ∷ []) = rw e at h.whole in
    let like : list_all is_wordlike (c ∷ before) ≡ true = rw e at (char_prefix_wordlike d h.before h.begins) in
    let letter : is_letter c ≡ true = rw e at (char_prefix_letter d h.before h.begins) in
    letters_sort 39 s apostrophe (c ∷ before) (h.body ++ 39 ∷ []) w like (letter_begins_so c before (39 ∷ (h.body ++ 39 ∷ [])) s w letter)

string_sort : (s : List ℕ) → (h : IsQuoted is_string_prefix 34 true s) → (before : List ℕ) → h.before ≡ before → sort_of s ≡ Whole StringLit
string_sort s h [] e =
    let w : s ≡ 34 ∷ (h.body ++ 34 ∷ []) = rw e at h.whole in
    let closed : closes 34 (h.body ++ 34 ∷ []) ≡ true = closes_body 34 quotation h.body h.inside (34 ∷ []) in
    ap sort_of w ∙ (quote_sort_is 34 (h.body ++ 34 ∷ []) quotation ∙ rw closed refl)
string_sort s h (c ∷ before) e =
    let w : s ≡ (c ∷ before) ++ 34 ∷ (h.body ++ 34 ∷ []) = rw e at h.whole in
    let like : list_all is_wordlike (c ∷ before) ≡ true = rw e at (string_prefix_wordlike h.before h.begins) in
    let letter : is_letter c ≡ true = rw e at (string_prefix_letter h.before h.begins) in
    letters_sort 34 s quotation (c ∷ before) (h.body ++ 34 ∷ []) w like (letter_begins_so c before (34 ∷ (h.body ++ 34 ∷ [])) s w letter)

pub unclosed_end : (q : ℕ) (last : List ℕ) → is_quote q ≡ true → (is_same last [] || is_same last (92 ∷ [])) ≡ true → closes q last ≡ false
unclosed_end q [] k h = refl
unclosed_end q (c ∷ []) k h =
    let is : c ≡ 92 = eqb-true c 92 (and_parts (c == 92) true h).0 in
    rw is (ne_eqb 92 q (λ i. let g : is_quote 92 ≡ true = rw i k in both_ways (is_quote 92) backslash_no_quote g))
unclosed_end q (c ∷ e ∷ s) k h = let g = and_parts (c == 92) false h in cc

stray_sort_at : (q : ℕ) (t : List ℕ) → is_quote q ≡ true → closes q t ≡ false → quote_sort q t ≡ Whole StrayQuote
unfolding is_quote
stray_sort_at q t k h = elim (or_cases (39 == q) ((34 == q) || false) k) [
  | inl e ↦ let is : 39 ≡ q = eqb-true 39 q e in let h' : closes 39 t ≡ false = rw is h in rw (← is) (elim (cases_Bool (starts (λ e. e == 39) t)) [ inl y ↦ rw y refl | inr n ↦ rw (n, h') refl ])
  | inr e ↦ elim (or_cases (34 == q) false e) [
    | inl f ↦ let is : 34 ≡ q = eqb-true 34 q f in let h' : closes 34 t ≡ false = rw is h in rw (← is) (rw h' refl)
    | inr f ↦ cc
  ]
]

unclosed_sort : (s : List ℕ) → IsUnclosed s → sort_of s ≡ Whole StrayQuote
unfolding is_quote
unclosed_sort s h =
    let open_ : closes h.quote (h.body ++ h.last) ≡ false = closes_body h.quote h.is_quote h.body h.inside h.last ∙ unclosed_end h.quote h.last h.is_quote h.ends in
    ap sort_of h.whole ∙ (quote_sort_is h.quote (h.body ++ h.last) h.is_quote ∙ stray_sort_at h.quote (h.body ++ h.last) h.is_quote open_)

empty_sort : (s : List ℕ) → IsEmptyQuotes s → sort_of s ≡ Whole StrayQuote
empty_sort s h = ap sort_of h.whole ∙ quote_sort_is 39 (39 ∷ h.body) apostrophe

-- marks

pub slash_sort : (t : List ℕ) → sort_of (47 ∷ t) ≡ mark_sort 47 t
unfolding is_letter_start is_letter is_digit is_quote is_mark
slash_sort t = refl

pub has_end_there : (body : List ℕ) → has_end (body ++ 42 ∷ 47 ∷ []) ≡ true
has_end_there [] = refl
has_end_there (c ∷ []) = or_right ((c == 42) && (42 == 47)) (has_end (42 ∷ 47 ∷ [])) refl
has_end_there (c ∷ e ∷ s) = or_right ((c == 42) && (e == 47)) (has_end (e ∷ (s ++ 42 ∷ 47 ∷ []))) (has_end_there (e ∷ s))

block_sort : (s : List ℕ) → IsBlock s → sort_of s ≡ Whole BlockComment
unfolding is_digit
block_sort s h = let e = has_end_there h.body in ap sort_of h.whole ∙ (slash_sort (42 ∷ (h.body ++ 42 ∷ 47 ∷ [])) ∙ rw e refl)

open_sort : (s : List ℕ) → IsOpen s → sort_of s ≡ Unended
unfolding is_digit
open_sort s h = let e = h.no_end in ap sort_of h.whole ∙ (slash_sort (42 ∷ h.body) ∙ rw e refl)

line_sort : (s : List ℕ) → IsLine s → sort_of s ≡ Whole LineComment
unfolding is_digit
line_sort s h = ap sort_of h.whole ∙ slash_sort (47 ∷ h.body)

abbrev is_punct_shape : Shape → Bool
is_punct_shape (Whole Punct) = true
is_punct_shape _ = false

punct_shape : (k : Shape) → is_punct_shape k ≡ true → k ≡ Whole Punct
punct_shape (Whole Punct) h = refl
punct_shape _ h = cc

punct_sort : (d : Dialect) (s : List ℕ) → is_punctuator d s ≡ true → sort_of s ≡ Whole Punct
unfolding is_punctuator punctuators is_letter_start is_letter is_digit is_quote is_mark
punct_sort C11 s h = punct_shape (sort_of s) (in_table (λ x. is_punct_shape (sort_of x)) common_punctuators refl s h)
punct_sort C23 s h = punct_shape (sort_of s) (in_table (λ x. is_punct_shape (sort_of x)) (codes "::" ∷ common_punctuators) refl s h)

-- numbers

digit_not_letter_start : (c : ℕ) → is_digit c ≡ true → is_letter_start c ≡ false
digit_not_letter_start c h = false_from_ne_true (is_letter_start c) (λ e. both_ways (is_digit c) (letter_start_not_digit c e) h)

point_sort : (t : List ℕ) → sort_of (46 ∷ t) ≡ mark_sort 46 t
unfolding is_letter_start is_letter is_digit is_quote is_mark
point_sort t = refl

number_sort_at : (head tail : List ℕ) → is_number_head head ≡ true → sort_of (head ++ tail) ≡ Whole Number
unfolding is_number_head
number_sort_at [] tail h = cc
number_sort_at (c ∷ []) tail h = elim (or_cases (is_digit c) false h) [
  | inl e ↦ let a = digit_not_letter_start c e in rw (a, e) refl
  | inr e ↦ cc
]
number_sort_at (c ∷ e ∷ []) tail h =
    let parts = and_parts (c == 46) (is_digit e) h in
    let is : c ≡ 46 = eqb-true c 46 parts.0 in
    let digit = parts.1 in
    rw is (point_sort (e ∷ tail) ∙ rw digit refl)
number_sort_at (c ∷ e ∷ f ∷ s) tail h = cc

number_sort : (d : Dialect) (s : List ℕ) → IsHeaded is_number_head (is_number_unit d) s → sort_of s ≡ Whole Number
number_sort d s h = ap sort_of h.whole ∙ number_sort_at h.head h.tail h.begins

one_other_sort : (d : Dialect) (s : List ℕ) → is_one (is_other d) s ≡ true → sort_of s ≡ Whole Other
unfolding is_letter_start
one_other_sort d [] h = cc
one_other_sort d (c ∷ []) h =
    let none = other_is_none d c h in
    let l = none.letter in let g = none.digit in let q = none.quote in
    let m = other_not_mark d c h in
    elim (cases_Bool (is_rare c)) [
      | inl e ↦ let start : is_letter_start c ≡ true = or_right (is_letter c) (is_rare c) e in let lone = rare_lone c e in rw (start, lone) refl
      | inr e ↦ let start : is_letter_start c ≡ false = or_from (is_letter c) (is_rare c) l e in rw (start, g, q, m) refl
    ]
  where
    rare_lone : (c : ℕ) → is_rare c ≡ true → is_lone (c ∷ []) ≡ true
    rare_lone c e = elim (or_cases (c == 92) (is_high c) e) [
      | inl i ↦ or_left (is_same (c ∷ []) (92 ∷ [])) (is_high c || is_wide not_start (c ∷ [])) (and_from (c == 92) true i refl)
      | inr i ↦ or_right (is_same (c ∷ []) (92 ∷ [])) (is_high c || is_wide not_start (c ∷ [])) (or_left (is_high c) (is_wide not_start (c ∷ [])) i)
    ]
one_other_sort d (c ∷ e ∷ s) h = cc

other_sort : (d : Dialect) (s : List ℕ) → is_other_unit d s ≡ true → sort_of s ≡ Whole Other
other_sort d s h = elim (other_cases d s h) [
  | inl e ↦ one_other_sort d s e
  | inr e ↦
      let start : Begins is_letter_start s = high_begins s (wide_high not_start s e) high_letter_start in
      let lone : is_lone s ≡ true = or_right (is_same s (92 ∷ [])) (is_one is_high s || is_wide not_start s) (or_right (is_one is_high s) (is_wide not_start s) e) in
      letter_sort s start ∙ rw lone refl
]

pub sort_is : (d : Dialect) (k : Shape) (s : List ℕ) → Spells d k s → sort_of s ≡ k
sort_is d (Whole Identifier) s h = identifier_sort s h (begins d (Whole Identifier) s h)
sort_is d (Whole Number) s h = number_sort d s h
sort_is d (Whole CharConst) s h = char_sort d s h h.before refl
sort_is d (Whole StringLit) s h = string_sort s h h.before refl
sort_is d (Whole Punct) s h = punct_sort d s h
sort_is d (Whole HeaderName) s h = absurd h
sort_is d (Whole StrayQuote) s (inl h) = unclosed_sort s h
sort_is d (Whole StrayQuote) s (inr h) = empty_sort s h
sort_is d (Whole Other) s h = other_sort d s h
sort_is d (Whole BlockComment) s h = block_sort s h
sort_is d (Whole LineComment) s h = line_sort s h
sort_is d Unended s h = open_sort s h

-- no list spells two kinds
pub one_kind : (d : Dialect) (j k : Shape) (s : List ℕ) → Spells d j s → Spells d k s → j ≡ k
one_kind d j k s h g = sym (sort_is d j s h) ∙ sort_is d k s g
