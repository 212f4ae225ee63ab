-- A literal or a block comment begins no longer item.
use Rattle.std.proofs.Common.{◌≡◌, ◌==◌, ◌||◌, ◌&&◌, not, ℕ, Bool, true, false, List, [], ◌∷◌, ◌++◌, refl, sym, ◌∙◌, ap, subst, arith, inl, inr, append_assoc}
use Rattle.std.specs.Prelude.{codes, if◌then◌else◌}
use Rattle.std.specs.List.{list_all}
use Rattle.std.proofs.lemmas.Bool.{and_parts, or_cases, or_left, or_right, eqb-true, eq-eqb, not-true, both_ways, ne_eqb}
use Rattle.c_grammar.specs.Grammar.{is_other_unit, is_same, is_of, joined, AreUnits, is_letter, is_digit, is_new_line, is_punctuator, IsUnclosed, IsEmptyQuotes, IsBlock, is_quoted_unit, has_end, Shape, Whole, Unended, Spells}
use Rattle.c_grammar.specs.Touch.{starts}
use Rattle.c_chars.specs.declared.Dialect.{Dialect}
use Rattle.item_kinds.specs.declared.ItemKind.TheVariants.{Identifier, Number, CharConst, StringLit, Punct, HeaderName, StrayQuote, Other, BlockComment, LineComment}
use Rattle.c_grammar.proofs.Lists.{SameCut, all_weaken}
use Rattle.c_grammar.proofs.Firsts.{is_rare, high_not_letter, high_not_quote, Begins, begins, starts_or_empty, char_prefix_letter, string_prefix_letter, is_quote, is_mark, is_number_start, is_letter_start}
use Rattle.c_grammar.proofs.Words.{is_wordlike, identifier_wordlike, char_prefix_wordlike, string_prefix_wordlike, wordlike_not_quote}
use Rattle.c_grammar.proofs.Wide.{is_high}
use Rattle.c_grammar.proofs.Classes.{not_of, mark_not_letter_start, mark_not_quote}
use Rattle.c_grammar.proofs.Sorts.{closes, closes_body, body_starts, apostrophe, quotation, unclosed_end}
use Rattle.c_grammar.proofs.Unique.{same_span}
use Rattle.std.proofs.lemmas.List.{same_from_push}
use Rattle.c_grammar.proofs.Goes.{other_first, tail_passes, front_passes, slash_no_punct, not_number_start}

-- what stands behind the closing quote
abbrev pub after_close : ℕ → List ℕ → List ℕ
after_close q [] = []
after_close q (c ∷ []) = []
after_close q (c ∷ e ∷ s) = if c == q then e ∷ s else (if c == 92 then after_close q s else after_close q (e ∷ s))

backslash_no_quote : is_quote 92 ≡ false
unfolding is_quote
backslash_no_quote = refl

after_unit : (q : ℕ) → is_quote q ≡ true → (u r : List ℕ) → is_quoted_unit q u ≡ true → (x : ℕ) (z : List ℕ) → r ≡ x ∷ z → after_close q (u ++ r) ≡ after_close q r
unfolding is_quoted_unit
after_unit q k [] r h x z e = cc
after_unit q k (c ∷ []) [] h x z e = cc
after_unit q k (c ∷ []) (d ∷ r) h x z e =
    elim (or_cases (not (c == q) && not (c == 92) && not (is_new_line c)) false h) [
      | inl g ↦ let p = and_parts (not (c == q) && not (c == 92)) (not (is_new_line c)) g in
          let p2 = and_parts (not (c == q)) (not (c == 92)) p.0 in
          let f = not-true (c == q) p2.0 in let g2 = not-true (c == 92) p2.1 in rw (f, g2) refl
      | inr g ↦ cc
    ]
after_unit q k (c ∷ e2 ∷ []) r h x z e =
    let parts = and_parts (c == 92) (not (is_new_line e2)) h in
    let is : c ≡ 92 = eqb-true c 92 parts.0 in
    let f : (92 == q) ≡ false = ne_eqb 92 q (λ i. let g : is_quote 92 ≡ true = rw i k in both_ways (is_quote 92) backslash_no_quote g) in
    rw (is, f) refl
after_unit q k (c ∷ e2 ∷ f ∷ s) r h x z e = cc

-- joined units before a nonempty rest begin with something
more_there : (us : List (List ℕ)) (x : ℕ) (z : List ℕ) → (y : ℕ) × (w : List ℕ) × (joined us ++ x ∷ z ≡ y ∷ w)
more_there [] x z = (x, z, refl)
more_there ([] ∷ us) x z = more_there us x z
more_there ((c ∷ u) ∷ us) x z = (c, u ++ joined us ++ x ∷ z, refl)

after_units : (q : ℕ) → is_quote q ≡ true → (us : List (List ℕ)) → list_all (is_quoted_unit q) us ≡ true → (x : ℕ) (z : List ℕ) → after_close q (joined us ++ x ∷ z) ≡ after_close q (x ∷ z)
after_units q k [] h x z = refl
after_units q k (u ∷ us) h x z =
    let parts = and_parts (is_quoted_unit q u) (list_all (is_quoted_unit q) us) h in
    let there = more_there us x z in
    ap (after_close q) (append_assoc u (joined us) (x ∷ z)) ∙ (after_unit q k u (joined us ++ x ∷ z) parts.0 there.0 there.1 there.2 ∙ after_units q k us parts.1 x z)

pub after_body : (q : ℕ) → is_quote q ≡ true → (body : List ℕ) → AreUnits (is_quoted_unit q) body → (z : List ℕ) → after_close q (body ++ q ∷ z) ≡ z
after_body q k body h z = let w = h.whole in ap (λ b. after_close q (b ++ q ∷ z)) w ∙ (after_units q k h.units h.each q z ∙ closing z)
  where
    closing : (z : List ℕ) → after_close q (q ∷ z) ≡ z
    closing [] = refl
    closing (e ∷ z) = let f = eq-eqb q q refl in rw f refl

-- the list up to the first quote
is_unquoted : ℕ → Bool
is_unquoted c = not (is_quote c)

unquoted : (s : List ℕ) → list_all is_wordlike s ≡ true → list_all is_unquoted s ≡ true
unfolding is_unquoted
unquoted s h = all_weaken is_wordlike is_unquoted (λ c w. let e = wordlike_not_quote c w in rw e refl) s h

pub same_prefix : (a b x y : List ℕ) (q r : ℕ) → list_all is_wordlike a ≡ true → list_all is_wordlike b ≡ true → is_quote q ≡ true → is_quote r ≡ true → a ++ q ∷ x ≡ b ++ r ∷ y → SameCut a (q ∷ x) b (r ∷ y)
unfolding is_unquoted
same_prefix a b x y q r ha hb kq kr e = same_span is_unquoted a (q ∷ x) b (r ∷ y) (unquoted a ha) (unquoted b hb) (rw kq refl) (rw kr refl) e

-- A closed literal: what it begins with, and its closing quote.
pub record IsClosed (l : List ℕ) : Type 0 where
  pub quote : ℕ
  pub before : List ℕ
  pub body : List ℕ
  pub is_quote_ : is_quote quote ≡ true
  pub wordlike : list_all is_wordlike before ≡ true
  pub letter : starts_or_empty is_letter before ≡ true
  pub inside : AreUnits (is_quoted_unit quote) body
  pub apart : quote ≡ 39 → not (is_same body []) ≡ true
  pub whole : l ≡ before ++ quote ∷ (body ++ quote ∷ [])

unfoldable pub char_closed : (d : Dialect) (l : List ℕ) → Spells d (Whole CharConst) l → IsClosed l
char_closed d l h = record {
  quote = 39;
  before = h.before;
  body = h.body;
  is_quote_ = apostrophe;
  wordlike = char_prefix_wordlike d h.before h.begins;
  letter = char_prefix_letter d h.before h.begins;
  inside = h.inside;
  apart = λ e. h.not_empty;
  whole = h.whole;
}

unfoldable pub string_closed : (d : Dialect) (l : List ℕ) → Spells d (Whole StringLit) l → IsClosed l
string_closed d l h = record {
  quote = 34;
  before = h.before;
  body = h.body;
  is_quote_ = quotation;
  wordlike = string_prefix_wordlike h.before h.begins;
  letter = string_prefix_letter h.before h.begins;
  inside = h.inside;
  apart = λ e. let f : 34 ≡ 39 = e in absurd (omega (arith, f));
  whole = h.whole;
}

-- no closed literal goes on from one
closed_no_closed : (l : List ℕ) (c : ℕ) (more : List ℕ) → IsClosed l → IsClosed (l ++ c ∷ more) → ⊥
closed_no_closed l c more g h =
    let e1 : g.before ++ g.quote ∷ (g.body ++ g.quote ∷ (c ∷ more)) ≡ h.before ++ h.quote ∷ (h.body ++ h.quote ∷ []) =
    regroup g.before g.body g.quote c more l g.whole ∙ h.whole in
    let cut = same_prefix g.before h.before (g.body ++ g.quote ∷ (c ∷ more)) (h.body ++ h.quote ∷ []) g.quote h.quote g.wordlike h.wordlike g.is_quote_ h.is_quote_ e1 in
    let rests = cut.rest_is in
    let quotes : g.quote ≡ h.quote = cc in
    let bodies : g.body ++ g.quote ∷ (c ∷ more) ≡ h.body ++ h.quote ∷ [] = cc in
    let a = after_body g.quote g.is_quote_ g.body g.inside (c ∷ more) in
    let b = after_body h.quote h.is_quote_ h.body h.inside [] in
    let all : c ∷ more ≡ [] = sym a ∙ (ap (after_close g.quote) bodies ∙ (ap (λ q. after_close q (h.body ++ h.quote ∷ [])) quotes ∙ b)) in
    cc
  where
    regroup : (before body : List ℕ) (q c : ℕ) (more l : List ℕ) → l ≡ before ++ q ∷ (body ++ q ∷ []) → before ++ q ∷ (body ++ q ∷ (c ∷ more)) ≡ l ++ c ∷ more
    regroup before body q c more l w =
        ap (λ x. before ++ q ∷ x) (sym (append_assoc body (q ∷ []) (c ∷ more)))
        ∙ (sym (append_assoc before (q ∷ (body ++ q ∷ [])) (c ∷ more)) ∙ ap (λ x. x ++ c ∷ more) (sym w))

-- what a closed literal begins with
pub closed_begins : (l : List ℕ) → (h : IsClosed l) → Begins (λ c. is_letter c || is_quote c) l
closed_begins l h = at_front l h.before (h.body ++ h.quote ∷ []) h.quote h.whole h.letter h.is_quote_
  where
    at_front : (l before rest : List ℕ) (q : ℕ) → l ≡ before ++ q ∷ rest → starts_or_empty is_letter before ≡ true → is_quote q ≡ true → Begins (λ c. is_letter c || is_quote c) l
    at_front l [] rest q w n k = record { c = q; rest = rest; whole = w; passes = or_right (is_letter q) (is_quote q) k }
    at_front l (c ∷ before) rest q w n k = record { c = c; rest = before ++ q ∷ rest; whole = w; passes = or_left (is_letter c) (is_quote c) n }

-- a quote stands in it
pub closed_not_word : (l : List ℕ) → IsClosed l → list_all is_wordlike l ≡ true → ⊥
closed_not_word l h w =
    let e = h.whole in
    let q_word : is_wordlike h.quote ≡ true = tail_passes is_wordlike h.before h.quote (h.body ++ h.quote ∷ []) (subst (λ x. list_all is_wordlike x ≡ true) e w) in
    both_ways (is_quote h.quote) (wordlike_not_quote h.quote q_word) h.is_quote_

pub of_quotes : (q : ℕ) → is_of (codes "'\"") q ≡ true → is_quote q ≡ true
unfolding is_quote
of_quotes q k = k

-- an unclosed quote isn't one that is closed, and more
pub closed_no_unclosed : (l : List ℕ) (c : ℕ) (more : List ℕ) → IsClosed l → IsUnclosed (l ++ c ∷ more) → ⊥
closed_no_unclosed l c more g h = by_prefix g.before refl
  where
    closing : (q : ℕ) (z : List ℕ) → closes q (q ∷ z) ≡ true
    closing q [] = eq-eqb q q refl
    closing q (e ∷ z) = let f = eq-eqb q q refl in rw f refl

    quote_is : is_quote h.quote ≡ true
    quote_is = of_quotes h.quote h.is_quote

    by_prefix : (before : List ℕ) → g.before ≡ before → ⊥
    by_prefix [] e =
        let w : l ≡ g.quote ∷ (g.body ++ g.quote ∷ []) = rw e at g.whole in
        let both : g.quote ∷ ((g.body ++ g.quote ∷ []) ++ c ∷ more) ≡ h.quote ∷ (h.body ++ h.last) = sym (ap (λ x. x ++ c ∷ more) w) ∙ h.whole in
        let quotes : g.quote ≡ h.quote = cc in
        let tails : (g.body ++ g.quote ∷ []) ++ c ∷ more ≡ h.body ++ h.last = cc in
        let yes : closes g.quote (g.body ++ g.quote ∷ (c ∷ more)) ≡ true = closes_body g.quote g.is_quote_ g.body g.inside (g.quote ∷ (c ∷ more)) ∙ closing g.quote (c ∷ more) in
        let no : closes h.quote (h.body ++ h.last) ≡ false = closes_body h.quote quote_is h.body h.inside h.last ∙ unclosed_end h.quote h.last quote_is h.ends in
        let no' : closes g.quote (g.body ++ g.quote ∷ (c ∷ more)) ≡ false =
        ap (closes g.quote) (sym (append_assoc g.body (g.quote ∷ []) (c ∷ more)) ∙ tails) ∙ (ap (λ q. closes q (h.body ++ h.last)) quotes ∙ no) in
        both_ways (closes g.quote (g.body ++ g.quote ∷ (c ∷ more))) no' yes
    by_prefix (b ∷ before) e =
        let w : l ≡ b ∷ (before ++ g.quote ∷ (g.body ++ g.quote ∷ [])) = rw e at g.whole in
        let letter : is_letter b ≡ true = rw e at g.letter in
        let like : list_all is_wordlike (b ∷ before) ≡ true = rw e at g.wordlike in
        let both : b ∷ ((before ++ g.quote ∷ (g.body ++ g.quote ∷ [])) ++ c ∷ more) ≡ h.quote ∷ (h.body ++ h.last) = sym (ap (λ x. x ++ c ∷ more) w) ∙ h.whole in
        let heads : b ≡ h.quote = cc in
        both_ways (is_quote b) (wordlike_not_quote b (and_parts (is_wordlike b) (list_all is_wordlike before) like).0) (subst (λ x. is_quote x ≡ true) (sym heads) quote_is)

body_starts_39 : (q : ℕ) (us : List (List ℕ)) → list_all (is_quoted_unit q) us ≡ true → not (is_same (joined us) []) ≡ true → q ≡ 39 → (t : List ℕ) → starts (λ e. e == 39) (joined us ++ t) ≡ false
body_starts_39 q us h n i t = body_starts q us h n i t

abbrev starts_39 : List ℕ → Bool
starts_39 [] = false
starts_39 (c ∷ s) = c == 39

pub closed_no_empty : (l : List ℕ) (c : ℕ) (more : List ℕ) → IsClosed l → IsEmptyQuotes (l ++ c ∷ more) → ⊥
closed_no_empty l c more g h = by_prefix g.before refl
  where
    by_prefix : (before : List ℕ) → g.before ≡ before → ⊥
    by_prefix [] e =
        let w : l ≡ g.quote ∷ (g.body ++ g.quote ∷ []) = rw e at g.whole in
        let both : g.quote ∷ ((g.body ++ g.quote ∷ []) ++ c ∷ more) ≡ 39 ∷ 39 ∷ h.body = sym (ap (λ x. x ++ c ∷ more) w) ∙ h.whole in
        let quotes : g.quote ≡ 39 = cc in
        let tails : (g.body ++ g.quote ∷ []) ++ c ∷ more ≡ 39 ∷ h.body = cc in
        let u = g.inside.whole in
        let full : not (is_same (joined g.inside.units) []) ≡ true = subst (λ b. not (is_same b []) ≡ true) u (g.apart quotes) in
        let apart : starts_39 (joined g.inside.units ++ (g.quote ∷ (c ∷ more))) ≡ false = body_starts_39 g.quote g.inside.units g.inside.each full quotes (g.quote ∷ (c ∷ more)) in
        let moved : joined g.inside.units ++ (g.quote ∷ (c ∷ more)) ≡ 39 ∷ h.body = ap (λ b. b ++ (g.quote ∷ (c ∷ more))) (sym u) ∙ (sym (append_assoc g.body (g.quote ∷ []) (c ∷ more)) ∙ tails) in
        let f : starts_39 (39 ∷ h.body) ≡ false = subst (λ x. starts_39 x ≡ false) moved apart in
        cc
    by_prefix (b ∷ before) e =
        let w : l ≡ b ∷ (before ++ g.quote ∷ (g.body ++ g.quote ∷ [])) = rw e at g.whole in
        let like : list_all is_wordlike (b ∷ before) ≡ true = rw e at g.wordlike in
        let both : b ∷ ((before ++ g.quote ∷ (g.body ++ g.quote ∷ [])) ++ c ∷ more) ≡ 39 ∷ 39 ∷ h.body = sym (ap (λ x. x ++ c ∷ more) w) ∙ h.whole in
        let heads : b ≡ 39 = cc in
        both_ways (is_quote b) (wordlike_not_quote b (and_parts (is_wordlike b) (list_all is_wordlike before) like).0) (subst (λ x. is_quote x ≡ true) (sym heads) apostrophe)

pub letter_is_start : (c : ℕ) → is_letter c ≡ true → is_letter_start c ≡ true
unfolding is_letter_start
letter_is_start c e = or_left (is_letter c) (is_rare c) e

-- the first character of the front and of the whole
pub front_first : {p q : ℕ → Bool} (l : List ℕ) (c : ℕ) (more : List ℕ) → Begins p l → Begins q (l ++ c ∷ more) → (f : ℕ) × (p f ≡ true) × (q f ≡ true)
front_first {q = q} l c more a b =
    let e : a.c ∷ (a.rest ++ c ∷ more) ≡ b.c ∷ b.rest = sym (ap (λ x. x ++ c ∷ more) a.whole) ∙ b.whole in
    let heads : b.c ≡ a.c = cc in
    (a.c, a.passes, subst (λ x. q x ≡ true) heads b.passes)

quote_no_number : (c : ℕ) → is_quote c ≡ true → is_number_start c ≡ false
unfolding is_quote is_number_start is_digit
quote_no_number c e = not_of is_number_start (codes "'\"") refl c e

pub slash_mark : (s : List ℕ) → Begins (λ c. c == 47) s → Begins is_mark s
unfolding is_mark
slash_mark s b = record { c = b.c; rest = b.rest; whole = b.whole; passes = let is : b.c ≡ 47 = eqb-true b.c 47 b.passes in rw is refl }

closed_no_mark : (l : List ℕ) (c : ℕ) (more : List ℕ) → IsClosed l → Begins is_mark (l ++ c ∷ more) → ⊥
closed_no_mark l c more g b =
    let f = front_first l c more (closed_begins l g) b in
    elim (or_cases (is_letter f.0) (is_quote f.0) f.1) [
      | inl e ↦ both_ways (is_letter_start f.0) (mark_not_letter_start f.0 f.2) (letter_starts f.0 e)
      | inr e ↦ both_ways (is_quote f.0) (mark_not_quote f.0 f.2) e
    ]
  where
    letter_starts : (c : ℕ) → is_letter c ≡ true → is_letter_start c ≡ true
    letter_starts c e = letter_is_start c e

-- So nothing goes on from a closed literal.
pub closed_stays : (d : Dialect) (k : Shape) (l : List ℕ) (c : ℕ) (more : List ℕ) → IsClosed l → Spells d k (l ++ c ∷ more) → ⊥
unfolding is_number_start is_letter
closed_stays d (Whole Identifier) l c more g h = closed_not_word l g (front_passes is_wordlike l (c ∷ more) (identifier_wordlike (l ++ c ∷ more) h))
closed_stays d (Whole Number) l c more g h =
    let f = front_first l c more (closed_begins l g) (begins d (Whole Number) (l ++ c ∷ more) h) in
    elim (or_cases (is_letter f.0) (is_quote f.0) f.1) [
      | inl e ↦ both_ways (is_number_start f.0) (not_number_start f.0 e) f.2
      | inr e ↦ both_ways (is_number_start f.0) (quote_no_number f.0 e) f.2
    ]
closed_stays d (Whole CharConst) l c more g h = closed_no_closed l c more g (char_closed d (l ++ c ∷ more) h)
closed_stays d (Whole StringLit) l c more g h = closed_no_closed l c more g (string_closed d (l ++ c ∷ more) h)
closed_stays d (Whole Punct) l c more g h = closed_no_mark l c more g (begins d (Whole Punct) (l ++ c ∷ more) h)
closed_stays d (Whole HeaderName) l c more g h = h
closed_stays d (Whole StrayQuote) l c more g (inl h) = closed_no_unclosed l c more g h
closed_stays d (Whole StrayQuote) l c more g (inr h) = closed_no_empty l c more g h
closed_stays d (Whole Other) l c more g h =
    let b = closed_begins l g in
    let high = other_first d l b.c b.rest c more b.whole h in
    elim (or_cases (is_letter b.c) (is_quote b.c) b.passes) [
      | inl e ↦ both_ways (is_letter b.c) (high_not_letter b.c high) e
      | inr e ↦ both_ways (is_quote b.c) (high_not_quote b.c high) e
    ]
closed_stays d (Whole BlockComment) l c more g h = closed_no_mark l c more g (slash_mark (l ++ c ∷ more) (begins d (Whole BlockComment) (l ++ c ∷ more) h))
closed_stays d (Whole LineComment) l c more g h = closed_no_mark l c more g (slash_mark (l ++ c ∷ more) (begins d (Whole LineComment) (l ++ c ∷ more) h))
closed_stays d Unended l c more g h = closed_no_mark l c more g (slash_mark (l ++ c ∷ more) (begins d Unended (l ++ c ∷ more) h))

-- Block comments

has_end_inside : (a b : List ℕ) → has_end (a ++ 42 ∷ 47 ∷ b) ≡ true
has_end_inside [] b = refl
has_end_inside (c ∷ []) b = or_right ((c == 42) && (42 == 47)) (has_end (42 ∷ 47 ∷ b)) refl
has_end_inside (c ∷ e ∷ s) b = or_right ((c == 42) && (e == 47)) (has_end (e ∷ (s ++ 42 ∷ 47 ∷ b))) (has_end_inside (e ∷ s) b)

-- a list that isn't empty ends in something
pub last_there : (c : ℕ) (more : List ℕ) → (front : List ℕ) × (z : ℕ) × (c ∷ more ≡ front ++ z ∷ [])
last_there c [] = ([], c, refl)
last_there c (e ∷ more) = let r = last_there e more in (c ∷ r.0, r.1, ap (λ x. c ∷ x) r.2)

block_no_block : (body c_body : List ℕ) (c : ℕ) (more : List ℕ) → has_end (c_body ++ 42 ∷ []) ≡ false → body ++ 42 ∷ 47 ∷ (c ∷ more) ≡ c_body ++ 42 ∷ 47 ∷ [] → ⊥
block_no_block body c_body c more n e =
    let r = last_there c more in
    let left : (body ++ 42 ∷ 47 ∷ r.0) ++ r.1 ∷ [] ≡ (c_body ++ 42 ∷ []) ++ 47 ∷ [] =
    append_assoc body (42 ∷ 47 ∷ r.0) (r.1 ∷ []) ∙ (ap (λ x. body ++ 42 ∷ 47 ∷ x) (sym r.2) ∙ (e ∙ sym (append_assoc c_body (42 ∷ []) (47 ∷ [])))) in
    let same = same_from_push (body ++ 42 ∷ 47 ∷ r.0) (c_body ++ 42 ∷ []) r.1 47 left in
    both_ways (has_end (c_body ++ 42 ∷ [])) n (subst (λ x. has_end x ≡ true) same.0 (has_end_inside body r.0))

pub block_stays : (d : Dialect) (k : Shape) (l : List ℕ) (c : ℕ) (more : List ℕ) → IsBlock l → Spells d k (l ++ c ∷ more) → ⊥
unfolding is_letter_start is_letter is_number_start is_digit is_quote
block_stays d k l c more g h = at_shape k (l ++ c ∷ more) h whole_is
  where
    whole_is : l ++ c ∷ more ≡ 47 ∷ 42 ∷ (g.body ++ 42 ∷ 47 ∷ (c ∷ more))
    whole_is = ap (λ x. x ++ c ∷ more) g.whole ∙ ap (λ x. 47 ∷ 42 ∷ x) (append_assoc g.body (42 ∷ 47 ∷ []) (c ∷ more))

    first_is : (p : ℕ → Bool) (s : List ℕ) → s ≡ 47 ∷ 42 ∷ (g.body ++ 42 ∷ 47 ∷ (c ∷ more)) → Begins p s → p 47 ≡ true
    first_is p s w b = let bw = b.whole in let e : b.c ∷ b.rest ≡ 47 ∷ 42 ∷ (g.body ++ 42 ∷ 47 ∷ (c ∷ more)) = sym bw ∙ w in let heads : b.c ≡ 47 = cc in subst (λ x. p x ≡ true) heads b.passes

    at_shape : (k : Shape) (s : List ℕ) → Spells d k s → s ≡ 47 ∷ 42 ∷ (g.body ++ 42 ∷ 47 ∷ (c ∷ more)) → ⊥
    at_shape (Whole Identifier) s h w = let f = first_is is_letter_start s w (begins d (Whole Identifier) s h) in cc
    at_shape (Whole Number) s h w = let f = first_is is_number_start s w (begins d (Whole Number) s h) in cc
    at_shape (Whole CharConst) s h w = let f = first_is (λ c. is_letter c || c == 39) s w (begins d (Whole CharConst) s h) in cc
    at_shape (Whole StringLit) s h w = let f = first_is (λ c. is_letter c || c == 34) s w (begins d (Whole StringLit) s h) in cc
    at_shape (Whole Punct) s h w = slash_no_punct d 42 (g.body ++ 42 ∷ 47 ∷ (c ∷ more)) (inr refl) (subst (λ x. is_punctuator d x ≡ true) w h)
    at_shape (Whole HeaderName) s h w = h
    at_shape (Whole StrayQuote) s h w = let f = first_is is_quote s w (begins d (Whole StrayQuote) s h) in cc
    at_shape (Whole Other) s h w = let f : is_high 47 ≡ true = other_first d (47 ∷ []) 47 [] 42 (g.body ++ 42 ∷ 47 ∷ (c ∷ more)) refl (subst (λ x. is_other_unit d x ≡ true) w h) in cc
    at_shape (Whole BlockComment) s h w = let e : 47 ∷ 42 ∷ (g.body ++ 42 ∷ 47 ∷ (c ∷ more)) ≡ 47 ∷ 42 ∷ (h.body ++ 42 ∷ 47 ∷ []) = sym w ∙ h.whole in let e2 : g.body ++ 42 ∷ 47 ∷ (c ∷ more) ≡ h.body ++ 42 ∷ 47 ∷ [] = cc in block_no_block g.body h.body c more h.first_end e2
    at_shape (Whole LineComment) s h w = let e : 47 ∷ 42 ∷ (g.body ++ 42 ∷ 47 ∷ (c ∷ more)) ≡ 47 ∷ 47 ∷ h.body = sym w ∙ h.whole in let f : ◌≡◌ {A = ℕ} 42 47 = cc in absurd (omega (arith, f))
    at_shape Unended s h w = let e : 47 ∷ 42 ∷ (g.body ++ 42 ∷ 47 ∷ (c ∷ more)) ≡ 47 ∷ 42 ∷ h.body = sym w ∙ h.whole in let e2 : g.body ++ 42 ∷ 47 ∷ (c ∷ more) ≡ h.body = cc in both_ways (has_end h.body) h.no_end (subst (λ x. has_end x ≡ true) e2 (has_end_inside g.body (c ∷ more)))
