-- The quoted item that the code cuts off is the longest.
use Rattle.std.proofs.Common.{◌≡◌, ◌==◌, ◌||◌, ◌&&◌, not, ℕ, suc, zero, ◌+◌, Bool, true, false, List, [], ◌∷◌, ◌++◌, length, take, drop, refl, sym, ◌∙◌, ap, subst, arith, inl, inr, append_assoc}
use Rattle.std.specs.Prelude.{if◌then◌else◌, codes}
use Rattle.std.specs.List.{list_all, prefix_len}
use Rattle.std.proofs.lemmas.Bool.{and_from, eqb-true, eq-eqb, cases_Bool, both_ways}
use Rattle.c_chars.specs.declared.Dialect.{Dialect}
use Rattle.c_grammar.specs.Grammar.{is_same, is_of, is_new_line, AreUnits, is_quoted_unit, IsUnclosed, IsEmptyQuotes, is_char_prefix, is_string_prefix, Shape, Whole, Unended, Spells}
use Rattle.c_grammar.specs.Items.{IsLongest}
use Rattle.c_grammar.specs.Touch.{starts}
use Rattle.item_kinds.specs.declared.ItemKind.TheVariants.{Identifier, Number, CharConst, StringLit, Punct, HeaderName, StrayQuote, Other, BlockComment, LineComment}
use Rattle.c_grammar.proofs.Closed.{closed_stays, char_closed, string_closed, of_quotes}
use Rattle.c_grammar.proofs.Before.{not_line, closed_line, stray_line, quote_kind}
use Rattle.c_grammar.proofs.Firsts.{is_quote}
use Rattle.c_grammar.proofs.Lists.{passes_at}
use Rattle.c_grammar.proofs.Sorts.{apostrophe}
use Rattle.c_lexer.proofs.Runs.{stops, passes}
use Rattle.c_lexer.specs.Run.{IsCut}
use Rattle.c_lexer.specs.Quote.{closes_quote, quote_len}

abbrev in_line : ℕ → Bool
in_line c = not (is_new_line c)

-- with the backslash before it
escaping : Bool → List ℕ → List ℕ
escaping true s = 92 ∷ s
escaping false s = s

-- units, and then these characters
record IsBody (quote : ℕ) (end s : List ℕ) : Type 0 where
  body : List ℕ
  inside : AreUnits (is_quoted_unit quote) body
  whole : s ≡ body ++ end

nothing : (quote : ℕ) (end : List ℕ) → IsBody quote end end
nothing quote end = record { body = []; inside = record { units = []; each = refl; whole = refl }; whole = refl }

-- one unit more before it
unit_before : (quote : ℕ) (end u s : List ℕ) → is_quoted_unit quote u ≡ true → IsBody quote end s → IsBody quote end (u ++ s)
unit_before quote end u s p h = record {
  body = u ++ h.body;
  inside = record { units = u ∷ h.inside.units; each = and_from (is_quoted_unit quote u) (list_all (is_quoted_unit quote) h.inside.units) p h.inside.each; whole = ap (λ x. u ++ x) h.inside.whole };
  whole = ap (λ x. u ++ x) h.whole ∙ sym (append_assoc u h.body end);
}

plain : (quote c : ℕ) → (c == quote) ≡ false → (c == 92) ≡ false → is_new_line c ≡ false → is_quoted_unit quote (c ∷ []) ≡ true
unfolding is_quoted_unit
plain quote c q b n = rw (q, b, n) refl

escape : (quote c : ℕ) → is_new_line c ≡ false → is_quoted_unit quote (92 ∷ c ∷ []) ≡ true
unfolding is_quoted_unit
escape quote c n = rw n refl

-- the next character, where it ends nothing
onward : (quote c : ℕ) (end s : List ℕ) → is_new_line c ≡ false → (c == quote) ≡ false → IsBody quote end (escaping (c == 92) s) → IsBody quote end (c ∷ s)
unfolding escaping
onward quote c end s n q h = elim (cases_Bool (c == 92)) [
  | inl y ↦ let e : c ≡ 92 = eqb-true c 92 y in let g : IsBody quote end (92 ∷ s) = subst (λ b. IsBody quote end (escaping b s)) y h in rw e g
  | inr b ↦ let g : IsBody quote end s = subst (λ b. IsBody quote end (escaping b s)) b h in unit_before quote end (c ∷ []) s (plain quote c q b n) g
]

-- a closed quote
closed : (quote : ℕ) (escaped : Bool) (t : List ℕ) → closes_quote quote escaped t ≡ true → IsBody quote (quote ∷ []) (escaping escaped (take (quote_len quote escaped t) t))
unfolding escaping
closed quote escaped [] h = cc
closed quote true (c ∷ s) h = elim (cases_Bool (is_new_line c)) [
  | inl y ↦ let no : false ≡ true = subst (λ b. (if b then false else closes_quote quote false s) ≡ true) y h in cc
  | inr n ↦
      let rest : closes_quote quote false s ≡ true = subst (λ b. (if b then false else closes_quote quote false s) ≡ true) n h in
      let one : 1 + quote_len quote false s ≡ suc (quote_len quote false s) = omega arith in
      rw (n, one) (unit_before quote (quote ∷ []) (92 ∷ c ∷ []) (take (quote_len quote false s) s) (escape quote c n) (closed quote false s rest))
]
closed quote false (c ∷ s) h = elim (cases_Bool (is_new_line c)) [
  | inl y ↦ let no : false ≡ true = subst (λ b. (if b then false else (if c == quote then true else closes_quote quote (c == 92) s)) ≡ true) y h in cc
  | inr n ↦ elim (cases_Bool (c == quote)) [
    | inl q ↦ let e : c ≡ quote = eqb-true c quote q in rw (n, q) (subst (λ z. IsBody quote (quote ∷ []) (z ∷ [])) (sym e) (nothing quote (quote ∷ [])))
    | inr q ↦
        let first : (if c == quote then true else closes_quote quote (c == 92) s) ≡ true = subst (λ b. (if b then false else (if c == quote then true else closes_quote quote (c == 92) s)) ≡ true) n h in
        let rest : closes_quote quote (c == 92) s ≡ true = subst (λ b. (if b then true else closes_quote quote (c == 92) s) ≡ true) q first in
        let one : 1 + quote_len quote (c == 92) s ≡ suc (quote_len quote (c == 92) s) = omega arith in
        rw (n, q, one) (onward quote c (quote ∷ []) (take (quote_len quote (c == 92) s) s) n q (closed quote (c == 92) s rest))
  ]
]

-- what is left where nothing closes it: nothing, or a backslash
record IsLeft (quote : ℕ) (s : List ℕ) : Type 0 where
  last : List ℕ
  ends : (is_same last [] || is_same last (92 ∷ [])) ≡ true
  body : IsBody quote last s

open_here : (quote : ℕ) (escaped : Bool) → IsLeft quote (escaping escaped [])
unfolding escaping
open_here quote true = record { last = 92 ∷ []; ends = refl; body = nothing quote (92 ∷ []) }
open_here quote false = record { last = []; ends = refl; body = nothing quote [] }

left_before : (quote : ℕ) (u s : List ℕ) → is_quoted_unit quote u ≡ true → IsLeft quote s → IsLeft quote (u ++ s)
left_before quote u s p h = record { last = h.last; ends = h.ends; body = unit_before quote h.last u s p h.body }

left_onward : (quote c : ℕ) (s : List ℕ) → is_new_line c ≡ false → (c == quote) ≡ false → IsLeft quote (escaping (c == 92) s) → IsLeft quote (c ∷ s)
left_onward quote c s n q h = record { last = h.last; ends = h.ends; body = onward quote c h.last s n q h.body }

unclosed : (quote : ℕ) (escaped : Bool) (t : List ℕ) → closes_quote quote escaped t ≡ false → IsLeft quote (escaping escaped (take (quote_len quote escaped t) t))
unfolding escaping
unclosed quote escaped [] h = open_here quote escaped
unclosed quote true (c ∷ s) h = elim (cases_Bool (is_new_line c)) [
  | inl y ↦ rw y (open_here quote true)
  | inr n ↦
      let rest : closes_quote quote false s ≡ false = subst (λ b. (if b then false else closes_quote quote false s) ≡ false) n h in
      let one : 1 + quote_len quote false s ≡ suc (quote_len quote false s) = omega arith in
      rw (n, one) (left_before quote (92 ∷ c ∷ []) (take (quote_len quote false s) s) (escape quote c n) (unclosed quote false s rest))
]
unclosed quote false (c ∷ s) h = elim (cases_Bool (is_new_line c)) [
  | inl y ↦ rw y (open_here quote false)
  | inr n ↦
      let first : (if c == quote then true else closes_quote quote (c == 92) s) ≡ false = subst (λ b. (if b then false else (if c == quote then true else closes_quote quote (c == 92) s)) ≡ false) n h in
      elim (cases_Bool (c == quote)) [
        | inl q ↦ let no : true ≡ false = subst (λ b. (if b then true else closes_quote quote (c == 92) s) ≡ false) q first in cc
        | inr q ↦
            let rest : closes_quote quote (c == 92) s ≡ false = subst (λ b. (if b then true else closes_quote quote (c == 92) s) ≡ false) q first in
            let one : 1 + quote_len quote (c == 92) s ≡ suc (quote_len quote (c == 92) s) = omega arith in
            rw (n, q, one) (left_onward quote c (take (quote_len quote (c == 92) s) s) n q (unclosed quote (c == 92) s rest))
      ]
]

-- behind an unclosed quote the line ends
line_ends : (quote : ℕ) (escaped : Bool) (t : List ℕ) → closes_quote quote escaped t ≡ false → starts in_line (drop (quote_len quote escaped t) t) ≡ false
line_ends quote escaped [] h = refl
line_ends quote escaped (c ∷ s) h = elim (cases_Bool (is_new_line c)) [
  | inl y ↦ rw y (ends_at c s y)
  | inr n ↦
      let first : (if not escaped && c == quote then true else closes_quote quote (not escaped && c == 92) s) ≡ false =
      subst (λ b. (if b then false else (if not escaped && c == quote then true else closes_quote quote (not escaped && c == 92) s)) ≡ false) n h in
      elim (cases_Bool (not escaped && c == quote)) [
        | inl q ↦ let no : true ≡ false = subst (λ b. (if b then true else closes_quote quote (not escaped && c == 92) s) ≡ false) q first in cc
        | inr q ↦
            let rest : closes_quote quote (not escaped && c == 92) s ≡ false = subst (λ b. (if b then true else closes_quote quote (not escaped && c == 92) s) ≡ false) q first in
            let one : 1 + quote_len quote (not escaped && c == 92) s ≡ suc (quote_len quote (not escaped && c == 92) s) = omega arith in
            rw (n, q, one) (line_ends quote (not escaped && c == 92) s rest)
      ]
]
  where
    ends_at : (c : ℕ) (s : List ℕ) → is_new_line c ≡ true → starts in_line (c ∷ s) ≡ false
    ends_at c s y = rw y refl

-- Literals

take_over : (a b : List ℕ) (n : ℕ) → take (length a + n) (a ++ b) ≡ a ++ take n b
take_over [] b n = let e : 0 + n ≡ n = omega arith in ap (λ k. take k b) e
take_over (c ∷ a) b n = let e : suc (length a) + n ≡ suc (length a + n) = omega arith in rw e (ap (λ x. c ∷ x) (take_over a b n))

drop_over : (a b : List ℕ) (n : ℕ) → drop (length a + n) (a ++ b) ≡ drop n b
drop_over [] b n = let e : 0 + n ≡ n = omega arith in ap (λ k. drop k b) e
drop_over (c ∷ a) b n = let e : suc (length a) + n ≡ suc (length a + n) = omega arith in rw e (drop_over a b n)

-- what is behind a prefix and a quote is cut where the quote is
cut_over : (d : Dialect) (k : Shape) (s before t : List ℕ) (quote n : ℕ) → s ≡ before ++ quote ∷ t → IsLongest d k (before ++ quote ∷ take n t) (drop n t) → IsCut d k s (length before + (1 + n))
cut_over d k s before t quote n w cut =
    let one : 1 + n ≡ suc n = omega arith in
    let front : take (length before + (1 + n)) (before ++ quote ∷ t) ≡ before ++ quote ∷ take n t = take_over before (quote ∷ t) (1 + n) ∙ (rw one refl) in
    let back : drop (length before + (1 + n)) (before ++ quote ∷ t) ≡ drop n t = drop_over before (quote ∷ t) (1 + n) ∙ (rw one refl) in
    subst (λ x. IsCut d k x (length before + (1 + n))) (sym w) (subst (λ x. IsLongest d k x (drop (length before + (1 + n)) (before ++ quote ∷ t))) (sym front) (subst (λ x. IsLongest d k (before ++ quote ∷ take n t) x) (sym back) cut))

closed_body : (quote : ℕ) (t : List ℕ) → closes_quote quote false t ≡ true → IsBody quote (quote ∷ []) (take (quote_len quote false t) t)
unfolding escaping
closed_body quote t h = closed quote false t h

not_empty : (quote n : ℕ) (t : List ℕ) → starts (λ c. c == quote) t ≡ false → (body : List ℕ) → take n t ≡ body ++ quote ∷ [] → not (is_same body []) ≡ true
not_empty quote n t h (c ∷ body) w = refl
not_empty quote zero t h [] w = cc
not_empty quote (suc n) [] h [] w = cc
not_empty quote (suc n) (c ∷ t) h [] w = let head : c ≡ quote = cc in absurd (both_ways (c == quote) h (eq-eqb c quote head))

-- a character constant with its prefix
pub char_cut : (d : Dialect) (s before t : List ℕ) → s ≡ before ++ 39 ∷ t → is_char_prefix d before ≡ true → starts (λ c. c == 39) t ≡ false → closes_quote 39 false t ≡ true →
    IsCut d (Whole CharConst) s (length before + (1 + quote_len 39 false t))
char_cut d s before t w p e h =
    let b = closed_body 39 t h in
    let spelled : Spells d (Whole CharConst) (before ++ 39 ∷ take (quote_len 39 false t) t) = record {
      before = before;
      body = b.body;
      begins = p;
      not_empty = not_empty 39 (quote_len 39 false t) t e b.body b.whole;
      inside = b.inside;
      whole = ap (λ x. before ++ 39 ∷ x) b.whole;
    } in
    cut_over d (Whole CharConst) s before t 39 (quote_len 39 false t) w
    (record { spells = spelled; longest = λ k c more left r g. closed_stays d k (before ++ 39 ∷ take (quote_len 39 false t) t) c more (char_closed d (before ++ 39 ∷ take (quote_len 39 false t) t) spelled) g })

-- a string literal with its prefix
pub string_cut : (d : Dialect) (s before t : List ℕ) → s ≡ before ++ 34 ∷ t → is_string_prefix before ≡ true → closes_quote 34 false t ≡ true →
    IsCut d (Whole StringLit) s (length before + (1 + quote_len 34 false t))
string_cut d s before t w p h =
    let b = closed_body 34 t h in
    let spelled : Spells d (Whole StringLit) (before ++ 34 ∷ take (quote_len 34 false t) t) = record {
      before = before;
      body = b.body;
      begins = p;
      not_empty = refl;
      inside = b.inside;
      whole = ap (λ x. before ++ 34 ∷ x) b.whole;
    } in
    cut_over d (Whole StringLit) s before t 34 (quote_len 34 false t) w
    (record { spells = spelled; longest = λ k c more left r g. closed_stays d k (before ++ 34 ∷ take (quote_len 34 false t) t) c more (string_closed d (before ++ 34 ∷ take (quote_len 34 false t) t) spelled) g })

-- Quotes that nothing closes

no_slash : (q : ℕ) → is_quote q ≡ true → q ≡ 47 → ⊥
unfolding is_quote
no_slash q i e = let slash : is_quote 47 ≡ true = subst (λ z. is_quote z ≡ true) e i in cc

-- what begins with a quote stands in one line
quoted_line : (d : Dialect) (k : Shape) (q : ℕ) (t : List ℕ) → is_quote q ≡ true → Spells d k (q ∷ t) → list_all not_line (q ∷ t) ≡ true
quoted_line d (Whole CharConst) q t i h = closed_line (q ∷ t) (char_closed d (q ∷ t) h)
quoted_line d (Whole StringLit) q t i h = closed_line (q ∷ t) (string_closed d (q ∷ t) h)
quoted_line d (Whole StrayQuote) q t i h = stray_line d (q ∷ t) h
quoted_line d (Whole LineComment) q t i h = let w = h.whole in let slash : q ≡ 47 = cc in absurd (no_slash q i slash)
quoted_line d Unended q t i h = let w = h.whole in let slash : q ≡ 47 = cc in absurd (no_slash q i slash)
quoted_line d (Whole Identifier) q t i h = let no = quote_kind d Identifier (q ∷ t) q t refl i h in cc
quoted_line d (Whole Number) q t i h = let no = quote_kind d Number (q ∷ t) q t refl i h in cc
quoted_line d (Whole Punct) q t i h = let no = quote_kind d Punct (q ∷ t) q t refl i h in cc
quoted_line d (Whole HeaderName) q t i h = let no = quote_kind d HeaderName (q ∷ t) q t refl i h in cc
quoted_line d (Whole Other) q t i h = let no = quote_kind d Other (q ∷ t) q t refl i h in cc
quoted_line d (Whole BlockComment) q t i h = let no = quote_kind d BlockComment (q ∷ t) q t refl i h in cc

-- nothing goes on from a quote over the end of its line
stops_at_end : (d : Dialect) (k : Shape) (q : ℕ) (s rest more left : List ℕ) (e : ℕ) → is_quote q ≡ true → starts in_line rest ≡ false → rest ≡ (e ∷ more) ++ left → Spells d k ((q ∷ s) ++ (e ∷ more)) → ⊥
unfolding not_line
stops_at_end d k q s rest more left e i h r g =
    let all : list_all in_line ((q ∷ s) ++ (e ∷ more)) ≡ true = quoted_line d k q (s ++ (e ∷ more)) i g in
    both_ways (in_line e) (subst (λ x. starts in_line x ≡ false) r h) (passes_at in_line (q ∷ s) e more all)

left_of : (quote : ℕ) (t : List ℕ) → closes_quote quote false t ≡ false → IsLeft quote (take (quote_len quote false t) t)
unfolding escaping
left_of quote t h = unclosed quote false t h

-- a quote that its line doesn't close, with the line
pub stray_cut : (d : Dialect) (quote : ℕ) (t : List ℕ) → is_of (codes "'\"") quote ≡ true → closes_quote quote false t ≡ false → IsCut d (Whole StrayQuote) (quote ∷ t) (1 + quote_len quote false t)
stray_cut d quote t q h =
    let l = left_of quote t h in
    let spelled : IsUnclosed (quote ∷ take (quote_len quote false t) t) = record {
      quote = quote;
      body = l.body.body;
      last = l.last;
      is_quote = q;
      inside = l.body.inside;
      ends = l.ends;
      whole = ap (λ x. quote ∷ x) l.body.whole;
    } in
    let one : 1 + quote_len quote false t ≡ suc (quote_len quote false t) = omega arith in
    let cut : IsLongest d (Whole StrayQuote) (quote ∷ take (quote_len quote false t) t) (drop (quote_len quote false t) t) =
    record { spells = inl spelled; longest = λ k e more left r g. stops_at_end d k quote (take (quote_len quote false t) t) (drop (quote_len quote false t) t) more left e (of_quotes quote q) (line_ends quote false t h) r g } in
    rw one cut

-- two apostrophes, with the line
pub empty_cut : (d : Dialect) (t : List ℕ) → IsCut d (Whole StrayQuote) (39 ∷ 39 ∷ t) (2 + prefix_len in_line t)
empty_cut d t =
    let two : 2 + prefix_len in_line t ≡ suc (suc (prefix_len in_line t)) = omega arith in
    let spelled : IsEmptyQuotes (39 ∷ 39 ∷ take (prefix_len in_line t) t) = record { body = take (prefix_len in_line t) t; in_line = passes in_line t; whole = refl } in
    let cut : IsLongest d (Whole StrayQuote) (39 ∷ 39 ∷ take (prefix_len in_line t) t) (drop (prefix_len in_line t) t) =
    record { spells = inr spelled; longest = λ k e more left r g. stops_at_end d k 39 (39 ∷ take (prefix_len in_line t) t) (drop (prefix_len in_line t) t) more left e apostrophe (stops in_line t) r g } in
    rw two cut
