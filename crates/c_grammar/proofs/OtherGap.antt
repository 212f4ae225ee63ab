-- Another gap in the place of a gap leaves the items too.
use Rattle.std.proofs.Common.{◌≡◌, ◌==◌, ◌||◌, ◌&&◌, not, ℕ, Bool, true, false, List, [], ◌∷◌, ◌++◌, refl, sym, ◌∙◌, ap, subst, inl, inr, ◌⊎◌, append_assoc}
use Rattle.std.specs.Prelude.{codes, if◌then◌else◌}
use Rattle.std.specs.List.{list_any, list_all}
use Rattle.std.proofs.lemmas.Bool.{and_parts, or_cases, and_from, eqb-true, not-true, both_ways, or_from}
use Rattle.std.proofs.lemmas.List.{append-nil, same_from_push}
use Rattle.c_grammar.specs.Grammar.{is_other_unit, is_same, is_of, is_letter, is_digit, is_white, is_new_line, is_sign, is_exponent, is_string_prefix, is_other, IsHeaderName, Shape, Whole, Unended, Spells}
use Rattle.c_grammar.specs.Items.{IsLongest, is_gap, Place, LineStart, AfterInclude, past_gap, past_item, BeginsHeader, IsNext, Piece, written, Reads}
use Rattle.c_grammar.specs.Touch.{ends, is_front, takes_line, regapped, KeepsItemsOverGaps}
use Rattle.c_chars.specs.declared.Dialect.{Dialect}
use Rattle.item_kinds.specs.declared.ItemKind.{ItemKind}
use Rattle.item_kinds.specs.declared.ItemKind.TheVariants.{Identifier, Number, CharConst, StringLit, Punct, HeaderName, StrayQuote, Other, BlockComment, LineComment}
use Rattle.c_grammar.proofs.Lists.{two_cuts, all_append}
use Rattle.c_grammar.proofs.Firsts.{Begins, begins, starts_or_empty, can_begin, is_quote, is_mark, is_number_start}
use Rattle.c_grammar.proofs.Words.{high_wordlike, digit_wordlike, is_wordlike, identifier_wordlike}
use Rattle.c_grammar.proofs.Wide.{is_high}
use Rattle.c_grammar.proofs.Classes.{not_of, IsNone, other_is_none, other_not_mark}
use Rattle.c_grammar.proofs.Sorts.{apart_at}
use Rattle.c_grammar.proofs.Items.{item_at, item_begins, joined_so, white_inside, header_last, rest_is, two_items, ends_in_left, something, FirstPiece, first_piece, line_of, quote_first, blank_no_quote}
use Rattle.c_grammar.proofs.Before.{IsSeam, IsMost, IsItemBefore, QuoteFirst, nothing_crosses}
use Rattle.c_grammar.proofs.Unique.{is_blank}
use Rattle.c_grammar.proofs.Seam.{item_begin}
use Rattle.c_grammar.proofs.Closed.{last_there, slash_mark, closed_stays, block_stays, char_closed, string_closed}
use Rattle.c_grammar.proofs.Goes.{other_long, touch_table, tail_passes, identifier_goes_on, number_goes_on_at, punct_goes_on_at}

blank_no_word : (b : ℕ) → is_blank b ≡ true → is_wordlike b ≡ true → ⊥
unfolding is_white is_new_line is_wordlike is_letter is_digit
blank_no_word b h w = elim (or_cases (is_white b) (is_new_line b) h) [
  | inl e ↦ both_ways (is_wordlike b) (not_of is_wordlike (9 ∷ 11 ∷ 12 ∷ 13 ∷ 32 ∷ []) refl b e) w
  | inr e ↦ both_ways (b == 10) (apart_at is_wordlike b 10 w refl) e
]

blank_no_mark : (b : ℕ) → is_blank b ≡ true → is_mark b ≡ true → ⊥
unfolding is_white is_new_line is_mark
blank_no_mark b h w = both_ways (is_blank b) (not_of is_blank (codes "[](){}.-+&*~!/%<>=^|?:;,#") refl b w) h

blank_no_digit : (b : ℕ) → is_blank b ≡ true → is_digit b ≡ true → ⊥
blank_no_digit b h w = blank_no_word b h (digit_wordlike b w)

blank_no_point : (b : ℕ) → is_blank b ≡ true → is_of (codes ".'") b ≡ true → ⊥
unfolding is_white is_new_line
blank_no_point b h w = both_ways (is_blank b) (not_of is_blank (codes ".'") refl b w) h

blank_no_sign : (b : ℕ) → is_blank b ≡ true → is_sign b ≡ true → ⊥
unfolding is_white is_new_line is_sign
blank_no_sign b h w = both_ways (is_blank b) (not_of is_blank (codes "+-") refl b w) h

-- no entry of the table has a blank
front_marks : (x t : List ℕ) → is_front x t ≡ true → list_all is_mark t ≡ true → list_all is_mark x ≡ true
front_marks [] t f m = refl
front_marks (c ∷ x) [] f m = cc
front_marks (c ∷ x) (e ∷ t) f m =
    let a = and_parts (c == e) (is_front x t) f in
    let b = and_parts (is_mark e) (list_all is_mark t) m in
    let is : c ≡ e = eqb-true c e a.0 in
    and_from (is_mark c) (list_all is_mark x) (rw is b.0) (front_marks x t a.1 b.1)

table_marks : (x : List ℕ) (table : List (List ℕ)) → list_all (list_all is_mark) table ≡ true → list_any (is_front x) table ≡ true → list_all is_mark x ≡ true
table_marks x [] m h = cc
table_marks x (t ∷ ts) m h =
    let a = and_parts (list_all is_mark t) (list_all (list_all is_mark) ts) m in
    elim (or_cases (is_front x t) (list_any (is_front x) ts) h) [ inl e ↦ front_marks x t e a.0 | inr e ↦ table_marks x ts a.1 e ]

blank_no_front : (l : List ℕ) (b : ℕ) → is_blank b ≡ true → list_any (is_front (l ++ b ∷ [])) touch_table ≡ true → ⊥
unfolding is_mark
blank_no_front l b h f = blank_no_mark b h (tail_passes is_mark l b [] (table_marks (l ++ b ∷ []) touch_table refl f))

other_number : (d : Dialect) (c : ℕ) → is_other d c ≡ true → is_number_start c ≡ true → ⊥
unfolding is_number_start is_mark
other_number d c o h = elim (or_cases (is_digit c) (c == 46) h) [
  | inl e ↦ both_ways (is_digit c) (other_is_none d c o).digit e
  | inr e ↦ let is : c ≡ 46 = eqb-true c 46 e in both_ways (is_mark c) (other_not_mark d c o) (subst (λ z. is_mark z ≡ true) (sym is) refl)
]

other_literal : (d : Dialect) (c q : ℕ) → is_other d c ≡ true → is_of (codes "'\"") q ≡ true → (is_letter c || c == q) ≡ true → ⊥
unfolding is_quote
other_literal d c q o k h = elim (or_cases (is_letter c) (c == q) h) [
  | inl e ↦ both_ways (is_letter c) (other_is_none d c o).letter e
  | inr e ↦ let is : c ≡ q = eqb-true c q e in both_ways (is_quote c) (other_is_none d c o).quote (subst (λ z. is_quote z ≡ true) (sym is) k)
]

-- a blank isn't past ASCII
blank_not_high : (b : ℕ) → is_blank b ≡ true → is_high b ≡ true → ⊥
blank_not_high b h w = blank_no_word b h (high_wordlike b w)

-- nothing goes on over a blank from an item that doesn't take its line
other_blank : (d : Dialect) (k : Shape) (l : List ℕ) (b : ℕ) (more : List ℕ) → is_other_unit d l ≡ true → is_blank b ≡ true → Spells d k (l ++ b ∷ more) → ⊥
other_blank d k l b more o h g = by_kind k g
  where
    start : Begins (is_other d) l
    start = begins d (Whole Other) l o

    none : IsNone start.c
    none = other_is_none d start.c start.passes

    no_mark : is_mark start.c ≡ false
    no_mark = other_not_mark d start.c start.passes

    first : {p : ℕ → Bool} → Begins p (l ++ b ∷ more) → p start.c ≡ true
    first {p = p} s =
        let w : s.c ∷ s.rest ≡ start.c ∷ (start.rest ++ b ∷ more) = sym s.whole ∙ ap (λ z. z ++ b ∷ more) start.whole in
        let heads : s.c ≡ start.c = cc in
        subst (λ z. p z ≡ true) heads s.passes

    by_kind : (k : Shape) → Spells d k (l ++ b ∷ more) → ⊥
    by_kind (Whole Identifier) g = blank_no_word b h (tail_passes is_wordlike l b more (identifier_wordlike (l ++ b ∷ more) g))
    by_kind (Whole Number) g = other_number d start.c start.passes (first (begins d (Whole Number) (l ++ b ∷ more) g))
    by_kind (Whole CharConst) g = other_literal d start.c 39 start.passes refl (first (begins d (Whole CharConst) (l ++ b ∷ more) g))
    by_kind (Whole StringLit) g = other_literal d start.c 34 start.passes refl (first (begins d (Whole StringLit) (l ++ b ∷ more) g))
    by_kind (Whole Punct) g = both_ways (is_mark start.c) no_mark (first (begins d (Whole Punct) (l ++ b ∷ more) g))
    by_kind (Whole HeaderName) g = g
    by_kind (Whole StrayQuote) g = both_ways (is_quote start.c) none.quote (first (begins d (Whole StrayQuote) (l ++ b ∷ more) g))
    by_kind (Whole Other) g = blank_not_high b h (tail_passes is_high l b more (other_long d l start.c start.rest b more start.whole g))
    by_kind (Whole BlockComment) g = both_ways (is_mark start.c) no_mark (first (slash_mark (l ++ b ∷ more) (begins d (Whole BlockComment) (l ++ b ∷ more) g)))
    by_kind (Whole LineComment) g = both_ways (is_mark start.c) no_mark (first (slash_mark (l ++ b ∷ more) (begins d (Whole LineComment) (l ++ b ∷ more) g)))
    by_kind Unended g = both_ways (is_mark start.c) no_mark (first (slash_mark (l ++ b ∷ more) (begins d Unended (l ++ b ∷ more) g)))

pub no_blank_after : (d : Dialect) (left : ItemKind) (k : Shape) (l : List ℕ) (b : ℕ) (more : List ℕ) → Spells d (Whole left) l → takes_line left ≡ false → is_blank b ≡ true → Spells d k (l ++ b ∷ more) → ⊥
no_blank_after d Identifier k l b more s t h g = elim (or_cases (is_wordlike b) (is_string_prefix l && is_quote b) (identifier_goes_on d k l b more s g)) [
  | inl e ↦ blank_no_word b h e
  | inr e ↦ blank_no_quote b (and_parts (is_string_prefix l) (is_quote b) e).1 h
]
no_blank_after d Number k l b more s t h g = elim (or_cases (is_wordlike b || is_of (codes ".'") b) (is_sign b && ends is_exponent l) (number_goes_on_at d k l b more s g)) [
  | inl e ↦ elim (or_cases (is_wordlike b) (is_of (codes ".'") b) e) [ inl f ↦ blank_no_word b h f | inr f ↦ blank_no_point b h f ]
  | inr e ↦ blank_no_sign b h (and_parts (is_sign b) (ends is_exponent l) e).0
]
no_blank_after d Punct k l b more s t h g = elim (or_cases (list_any (is_front (l ++ b ∷ [])) touch_table) (is_same l (46 ∷ []) && is_digit b) (punct_goes_on_at d k l b more s g)) [
  | inl e ↦ blank_no_front l b h e
  | inr e ↦ blank_no_digit b h (and_parts (is_same l (46 ∷ [])) (is_digit b) e).1
]
no_blank_after d CharConst k l b more s t h g = closed_stays d k l b more (char_closed d l s) g
no_blank_after d StringLit k l b more s t h g = closed_stays d k l b more (string_closed d l s) g
no_blank_after d HeaderName k l b more s t h g = s
no_blank_after d StrayQuote k l b more s t h g = cc
no_blank_after d Other k l b more s t h g = other_blank d k l b more s h g
no_blank_after d BlockComment k l b more s t h g = block_stays d k l b more s g
no_blank_after d LineComment k l b more s t h g = cc

-- Header names over another gap

-- the end of a header name isn't blank
last_not_blank : (n : List ℕ) → (h : IsHeaderName n) → is_blank h.last ≡ false
unfolding is_white is_new_line
last_not_blank n h = elim (header_last n h) [ inl i ↦ subst (λ z. is_blank z ≡ false) (sym i) refl | inr i ↦ subst (λ z. is_blank z ≡ false) (sym i) refl ]

-- the same body with another gap in it
regap_name : (n : List ℕ) → (h : IsHeaderName n) → (g o : List ℕ) → is_gap o ≡ true → list_any is_new_line o ≡ false → (x : ℕ) (o2 : List ℕ) → o ≡ x ∷ o2 → (a b : List ℕ) → h.body ≡ a ++ (g ++ b) → IsHeaderName (h.first ∷ ((a ++ (o ++ b)) ++ h.last ∷ []))
regap_name n h g o w m x o2 o_is a b e =
    let p : ℕ → Bool = λ c. not (c == h.last) && not (is_new_line c) in
    let all : list_all (λ c. not (c == h.last) && not (is_new_line c)) (a ++ (g ++ b)) ≡ true = subst (λ z. list_all (λ c. not (c == h.last) && not (is_new_line c)) z ≡ true) e h.inside in
    let one : (list_all (λ c. not (c == h.last) && not (is_new_line c)) a && list_all (λ c. not (c == h.last) && not (is_new_line c)) (g ++ b)) ≡ true = rw all_append at all in
    let halves = and_parts (list_all (λ c. not (c == h.last) && not (is_new_line c)) a) (list_all (λ c. not (c == h.last) && not (is_new_line c)) (g ++ b)) one in
    let two : (list_all (λ c. not (c == h.last) && not (is_new_line c)) g && list_all (λ c. not (c == h.last) && not (is_new_line c)) b) ≡ true = rw all_append at halves.1 in
    let end_ = (and_parts (list_all (λ c. not (c == h.last) && not (is_new_line c)) g) (list_all (λ c. not (c == h.last) && not (is_new_line c)) b) two).1 in
    let ok = white_inside h.last (header_last n h) o w m in
    let ob : list_all (λ c. not (c == h.last) && not (is_new_line c)) (o ++ b) ≡ true = rw all_append (and_from _ _ ok end_) in
    let inside : list_all (λ c. not (c == h.last) && not (is_new_line c)) (a ++ (o ++ b)) ≡ true = rw all_append (and_from _ _ halves.0 ob) in
    record { first = h.first; last = h.last; body = a ++ (o ++ b); ends = h.ends; inside = inside; not_empty = λ z. not_nil a (subst (λ y. a ++ (y ++ b) ≡ []) o_is z); whole = refl }
  where
    not_nil : (a : List ℕ) → a ++ ((x ∷ o2) ++ b) ≡ [] → ⊥
    not_nil [] z = cc
    not_nil (c ∷ a) z = cc

gap_end_blank : (a : List ℕ) (z : ℕ) → is_gap (a ++ z ∷ []) ≡ true → is_blank z ≡ true
gap_end_blank [] z h = (and_parts (is_blank z) true h).0
gap_end_blank (c ∷ a) z h = gap_end_blank a z (and_parts (is_blank c) (is_gap (a ++ z ∷ [])) h).1

pub gap_front : (a b : List ℕ) → is_gap (a ++ b) ≡ true → is_gap a ≡ true
gap_front a b h = let both : (is_gap a && is_gap b) ≡ true = rw all_append at h in (and_parts (is_gap a) (is_gap b) both).0

-- a name doesn't end in a gap
pub no_end_in_gap : (n : List ℕ) → (h : IsHeaderName n) → (f : ℕ) (S : List ℕ) (c : ℕ) (more : List ℕ) → n ≡ (f ∷ S) ++ c ∷ more → is_gap (c ∷ more) ≡ true → ⊥
no_end_in_gap n h f S c more e w =
    let r = last_there c more in
    let all : f ∷ (S ++ c ∷ more) ≡ h.first ∷ (h.body ++ h.last ∷ []) = sym e ∙ h.whole in
    let tails : S ++ c ∷ more ≡ h.body ++ h.last ∷ [] = cc in
    let pushed : (S ++ r.0) ++ r.1 ∷ [] ≡ h.body ++ h.last ∷ [] = append_assoc S r.0 (r.1 ∷ []) ∙ (ap (λ z. S ++ z) (sym r.2) ∙ tails) in
    let same = same_from_push (S ++ r.0) h.body r.1 h.last pushed in
    let blank = gap_end_blank r.0 r.1 (subst (λ z. is_gap z ≡ true) r.2 w) in
    both_ways (is_blank h.last) (last_not_blank n h) (subst (λ z. is_blank z ≡ true) same.1 blank)

header_other : (f : ℕ) (S B g o : List ℕ) → is_gap g ≡ true → is_gap o ≡ true → list_any is_new_line g ≡ list_any is_new_line o → (x : ℕ) (o2 : List ℕ) → o ≡ x ∷ o2 → BeginsHeader ((f ∷ S) ++ (g ++ B)) → BeginsHeader ((f ∷ S) ++ (o ++ B))
header_other f S B g o wg wo same_lines x o2 o_is h = elim (two_cuts h.name h.left (f ∷ S) (g ++ B) (sym h.whole)) [
  | inl c ↦ record { name = h.name; left = o ++ B; is_name = h.is_name; whole = ap (λ z. z ++ (o ++ B)) (sym c.front_is) }
  | inr on ↦ elim on [
    | inl c ↦ record { name = h.name; left = (c.c ∷ c.more) ++ (o ++ B); is_name = h.is_name; whole = ap (λ z. z ++ (o ++ B)) c.front_is ∙ append_assoc h.name (c.c ∷ c.more) (o ++ B) }
    | inr c ↦ elim (two_cuts g B (c.c ∷ c.more) h.left c.rest_is) [
      | inl s ↦ absurd (no_end_in_gap h.name h.is_name f S c.c c.more c.front_is (subst (λ z. is_gap z ≡ true) s.front_is wg))
      | inr on2 ↦ elim on2 [
        | inl k ↦ over k.c k.more (c.front_is ∙ ap (λ z. (f ∷ S) ++ z) k.front_is) k.rest_is
        | inr k ↦ absurd (no_end_in_gap h.name h.is_name f S c.c c.more c.front_is (gap_front (c.c ∷ c.more) (k.c ∷ k.more) (subst (λ z. is_gap z ≡ true) k.front_is wg)))
      ]
    ]
  ]
]
  where
    n : IsHeaderName h.name
    n = h.is_name

    over : (e : ℕ) (m : List ℕ) → h.name ≡ (f ∷ S) ++ (g ++ e ∷ m) → B ≡ (e ∷ m) ++ h.left → BeginsHeader ((f ∷ S) ++ (o ++ B))
    over e m w b =
        let r = last_there e m in
        let all : f ∷ (S ++ (g ++ e ∷ m)) ≡ n.first ∷ (n.body ++ n.last ∷ []) = sym w ∙ n.whole in
        let f_is : f ≡ n.first = cc in
        let tails : S ++ (g ++ e ∷ m) ≡ n.body ++ n.last ∷ [] = cc in
        let pushed : (S ++ (g ++ r.0)) ++ r.1 ∷ [] ≡ n.body ++ n.last ∷ [] = append_assoc S (g ++ r.0) (r.1 ∷ []) ∙ (ap (λ z. S ++ z) (append_assoc g r.0 (r.1 ∷ [])) ∙ (ap (λ z. S ++ (g ++ z)) (sym r.2) ∙ tails)) in
        let same = same_from_push (S ++ (g ++ r.0)) n.body r.1 n.last pushed in
        let body : n.body ≡ S ++ (g ++ r.0) = sym same.0 in
        let none : list_any is_new_line o ≡ false = sym same_lines ∙ no_lines g (middle S g r.0 (subst (λ z. list_all (λ c. not (c == n.last) && not (is_new_line c)) z ≡ true) body n.inside)) in
        let name = regap_name h.name n g o wo none x o2 o_is S r.0 body in
        let b_is : B ≡ (r.0 ++ n.last ∷ []) ++ h.left = b ∙ (ap (λ z. z ++ h.left) r.2 ∙ ap (λ z. (r.0 ++ z ∷ []) ++ h.left) same.1) in
        record { name = n.first ∷ ((S ++ (o ++ r.0)) ++ n.last ∷ []); left = h.left; is_name = name; whole = joined_so S o r.0 n.last h.left f n.first B f_is b_is }
      where
        middle : (S g t : List ℕ) → list_all (λ c. not (c == n.last) && not (is_new_line c)) (S ++ (g ++ t)) ≡ true → list_all (λ c. not (c == n.last) && not (is_new_line c)) g ≡ true
        middle S g t a =
            let one : (list_all (λ c. not (c == n.last) && not (is_new_line c)) S && list_all (λ c. not (c == n.last) && not (is_new_line c)) (g ++ t)) ≡ true = rw all_append at a in
            let half = (and_parts (list_all (λ c. not (c == n.last) && not (is_new_line c)) S) (list_all (λ c. not (c == n.last) && not (is_new_line c)) (g ++ t)) one).1 in
            let two : (list_all (λ c. not (c == n.last) && not (is_new_line c)) g && list_all (λ c. not (c == n.last) && not (is_new_line c)) t) ≡ true = rw all_append at half in
            (and_parts (list_all (λ c. not (c == n.last) && not (is_new_line c)) g) (list_all (λ c. not (c == n.last) && not (is_new_line c)) t) two).0

        no_lines : (g : List ℕ) → list_all (λ c. not (c == n.last) && not (is_new_line c)) g ≡ true → list_any is_new_line g ≡ false
        no_lines [] a = refl
        no_lines (c ∷ g) a =
            let p = and_parts (not (c == n.last) && not (is_new_line c)) (list_all (λ c. not (c == n.last) && not (is_new_line c)) g) a in
            let q = and_parts (not (c == n.last)) (not (is_new_line c)) p.0 in
            or_from (is_new_line c) (list_any is_new_line g) (not-true (is_new_line c) q.1) (no_lines g p.1)

-- What is asked of the rest that comes behind an item in the place of its own rest: it is empty or begins with a blank, and makes no header name.
pub record MayFollow (old new : List ℕ) : Type 0 where
  pub blank : starts_or_empty is_blank new ≡ true
  pub header : (f : ℕ) (S : List ℕ) → BeginsHeader ((f ∷ S) ++ new) → BeginsHeader ((f ∷ S) ++ old)

-- the item directly before
left_other : (d : Dialect) (place : Place) (kind : ItemKind) (s old new : List ℕ) → IsNext d place kind s old → MayFollow old new → takes_line kind ≡ false → IsNext d place kind s new
left_other d place kind s old new (inl h) like t = inl h
left_other d place kind s old new (inr h) like t = inr (no_header, longest)
  where
    start : Begins (can_begin d (Whole kind)) s
    start = begins d (Whole kind) s h.1.spells

    no_header : place ≡ AfterInclude → BeginsHeader (s ++ new) → ⊥
    no_header p k = h.0 p (subst (λ z. BeginsHeader (z ++ old)) (sym start.whole) (like.header start.c start.rest (subst (λ z. BeginsHeader (z ++ new)) start.whole k)))

    longest : IsLongest d (Whole kind) s new
    longest = record { spells = h.1.spells; longest = λ k c more left cut q. no_blank_after d kind k s c more h.1.spells t (subst (λ z. starts_or_empty is_blank z ≡ true) cut like.blank) q }

-- an item further before, where what comes begins with a blank and makes no header name
pub before_blank : (d : Dialect) (place : Place) (kind : ItemKind) (s : List ℕ) (xs : List Piece) (l : Piece) (ns ms : List Piece) (last end : List ℕ) →
    IsNext d place kind s (written (xs ++ l ∷ ns) last) → Reads d (past_item d place kind s) (xs ++ l ∷ ns) last →
    starts_or_empty is_blank (written ms end) ≡ true → (place ≡ AfterInclude → (BeginsHeader (s ++ written (xs ++ l ∷ ns) last) → ⊥) → BeginsHeader (s ++ written (xs ++ l ∷ ms) end) → ⊥) →
    takes_line l.kind ≡ false → IsNext d place kind s (written (xs ++ l ∷ ms) end)
before_blank d place kind s xs l ns ms last end (inl h) hs blank_first no_name t = inl h
before_blank d place kind s xs l ns ms last end (inr h) hs blank_first no_name t = inr (λ p. no_name p (h.0 p), longest)
  where
    item : ((l.kind ≡ HeaderName) × IsHeaderName l.spelling) ⊎ Spells d (Whole l.kind) l.spelling
    item = item_at d (past_item d place kind s) xs l ns last hs

    A : List ℕ
    A = written (xs ++ l ∷ []) []

    Z : List ℕ
    Z = written ns last

    Y : List ℕ
    Y = written ms end

    old : written (xs ++ l ∷ ns) last ≡ A ++ Z
    old = rest_is xs l ns last

    new : written (xs ++ l ∷ ms) end ≡ A ++ Y
    new = rest_is xs l ms end

    start : Begins (can_begin d (Whole kind)) s
    start = begins d (Whole kind) s h.1.spells

    most : IsMost d s A
    most k c more left e q = h.1.longest k c more (left ++ Z) (old ∙ (ap (λ z. z ++ Z) e ∙ append_assoc (c ∷ more) left Z)) q

    crossing : (k : Shape) (e : ℕ) (more : List ℕ) (left : List ℕ) → Y ≡ (e ∷ more) ++ left → Spells d k (s ++ (A ++ e ∷ more)) → ⊥
    crossing k e more left b q =
        nothing_crosses d l.kind Identifier l.spelling some.0 some.1 e [] seam_is kind start.c start.rest more item_before first k
        (subst (λ z. Spells d k z) shape q)
      where
        left_there : Begins (item_begin d l.kind) l.spelling
        left_there = item_begins d l.kind l.spelling item

        some : (x : ℕ) × (A0 : List ℕ) × (A ≡ x ∷ A0)
        some = something xs l left_there.c left_there.rest left_there.whole

        blank : is_blank e ≡ true
        blank = subst (λ z. starts_or_empty is_blank z ≡ true) b blank_first

        seam_is : IsSeam d l.kind Identifier l.spelling (some.0 ∷ some.1) e []
        seam_is = record {
          before = written xs [] ++ l.gap;
          ends_in = sym some.2 ∙ ends_in_left xs l;
          item = item;
          words = λ w v. blank_no_word e blank v;
          line = t;
          marks = λ p o f. blank_no_front l.spelling e blank f;
        }

        piece : FirstPiece d (past_item d place kind s) l.kind A
        piece = first_piece d (past_item d place kind s) xs l ns last hs

        item_before : IsItemBefore d kind (start.c ∷ start.rest) (some.0 ∷ some.1)
        item_before = record {
          spelled = subst (λ z. Spells d (Whole kind) z) start.whole h.1.spells;
          line = λ u. subst (λ z. list_any is_new_line z ≡ true) some.2 (line_of d (past_item d place kind s) place kind s xs l ns last piece u (inr h));
          most = subst (λ z. IsMost d (start.c ∷ start.rest) z) some.2 (subst (λ z. IsMost d z A) start.whole most);
        }

        first : QuoteFirst l.kind (start.c ∷ start.rest) some.0 some.1
        first = quote_first d place kind l.kind start.c start.rest some.0 some.1 item_before.spelled piece.gap piece.spelling piece.rest piece.kind piece.white (sym some.2 ∙ piece.whole)
            (subst (λ z. ((past_gap (past_item d place kind z) piece.gap ≡ AfterInclude) × (piece.kind ≡ HeaderName) × IsHeaderName piece.spelling) ⊎ Spells d (Whole piece.kind) piece.spelling) start.whole piece.item) piece.line

        shape : s ++ (A ++ e ∷ more) ≡ ((start.c ∷ start.rest) ++ some.0 ∷ some.1) ++ e ∷ more
        shape = ap (λ z. z ++ (A ++ e ∷ more)) start.whole ∙ (ap (λ z. (start.c ∷ start.rest) ++ (z ++ e ∷ more)) some.2 ∙ sym (append_assoc (start.c ∷ start.rest) (some.0 ∷ some.1) (e ∷ more)))

    longest : IsLongest d (Whole kind) s (written (xs ++ l ∷ ms) end)
    longest = record {
      spells = h.1.spells;
      longest = λ k c more left w q. elim (two_cuts A Y (c ∷ more) left (sym new ∙ w)) [
        | inl same ↦ most k c more [] (same.front_is ∙ sym (append-nil (c ∷ more))) q
        | inr on ↦ elim on [
          | inl o ↦ crossing k o.c o.more left o.rest_is (subst (λ z. Spells d k (s ++ z)) o.front_is q)
          | inr o ↦ most k c more (o.c ∷ o.more) o.front_is q
        ]
      ];
    }

before_other : (d : Dialect) (place : Place) (kind : ItemKind) (s : List ℕ) (xs : List Piece) (l : Piece) (ns ms : List Piece) (last end : List ℕ) →
    IsNext d place kind s (written (xs ++ l ∷ ns) last) → Reads d (past_item d place kind s) (xs ++ l ∷ ns) last →
    MayFollow (written ns last) (written ms end) → takes_line l.kind ≡ false → IsNext d place kind s (written (xs ++ l ∷ ms) end)
before_other d place kind s xs l ns ms last end (inl h) hs like t = inl h
before_other d place kind s xs l ns ms last end (inr h) hs like t = before_blank d place kind s xs l ns ms last end (inr h) hs like.blank no_header t
  where
    A : List ℕ
    A = written (xs ++ l ∷ []) []

    Z : List ℕ
    Z = written ns last

    Y : List ℕ
    Y = written ms end

    start : Begins (can_begin d (Whole kind)) s
    start = begins d (Whole kind) s h.1.spells

    no_header : place ≡ AfterInclude → (BeginsHeader (s ++ written (xs ++ l ∷ ns) last) → ⊥) → BeginsHeader (s ++ written (xs ++ l ∷ ms) end) → ⊥
    no_header p none k = none (subst (λ z. BeginsHeader z) back over)
      where
        there : BeginsHeader ((start.c ∷ (start.rest ++ A)) ++ Y)
        there = subst (λ z. BeginsHeader z) (ap (λ z. s ++ z) (rest_is xs l ms end) ∙ (ap (λ z. z ++ (A ++ Y)) start.whole ∙ sym (append_assoc (start.c ∷ start.rest) A Y))) k

        over : BeginsHeader ((start.c ∷ (start.rest ++ A)) ++ Z)
        over = like.header start.c (start.rest ++ A) there

        back : (start.c ∷ (start.rest ++ A)) ++ Z ≡ s ++ written (xs ++ l ∷ ns) last
        back = append_assoc (start.c ∷ start.rest) A Z ∙ (ap (λ z. z ++ (A ++ Z)) (sym start.whole) ∙ ap (λ z. s ++ z) (sym (rest_is xs l ns last)))

-- The items up to l stay where this rest comes behind it in the place of its own.
pub other_rest : (d : Dialect) (place : Place) (xs : List Piece) (l : Piece) (ns ms : List Piece) (last end : List ℕ) → Reads d place (xs ++ l ∷ ns) last → MayFollow (written ns last) (written ms end) → takes_line l.kind ≡ false →
    ((behind : Place) → Reads d behind ns last → Reads d behind ms end) → Reads d place (xs ++ l ∷ ms) end
other_rest d place [] l ns ms last end h like t rest =
    let here = past_gap place l.gap in
    (h.0, left_other d here l.kind l.spelling (written ns last) (written ms end) h.1 like t, rest (past_item d here l.kind l.spelling) h.2)
other_rest d place (x ∷ xs) l ns ms last end h like t rest =
    let here = past_gap place x.gap in
    (h.0, before_other d here x.kind x.spelling xs l ns ms last end h.1 h.2 like t, other_rest d (past_item d here x.kind x.spelling) xs l ns ms last end h.2 like t rest)

-- One gap

-- What is asked of the two gaps.
pub record AreLikeGaps (g o : List ℕ) : Type 0 where
  pub white : is_gap g ≡ true
  pub old_white : is_gap o ≡ true
  pub lines : list_any is_new_line g ≡ list_any is_new_line o
  pub b : ℕ
  pub more : List ℕ
  pub there : g ≡ b ∷ more
  pub x : ℕ
  pub old_more : List ℕ
  pub old_there : o ≡ x ∷ old_more

first_blank : (g o : List ℕ) → (h : AreLikeGaps g o) → is_blank h.b ≡ true
first_blank g o h = (and_parts (is_blank h.b) (is_gap h.more) (subst (λ z. is_gap z ≡ true) h.there h.white)).0

like_may_follow : (g o B : List ℕ) → AreLikeGaps g o → MayFollow (o ++ B) (g ++ B)
like_may_follow g o B h = record {
  blank = subst (λ z. starts_or_empty is_blank (z ++ B) ≡ true) (sym h.there) (first_blank g o h);
  header = λ f S k. header_other f S B g o h.white h.old_white h.lines h.x h.old_more h.old_there k;
}

like_place : (place : Place) (g o : List ℕ) → list_any is_new_line g ≡ list_any is_new_line o → past_gap place o ≡ past_gap place g
like_place place g o e = ap (λ b. if b then LineStart else place) (sym e)

-- Another gap in the place of a gap, both with a new-line or both without, leaves all items as they were, behind an item that doesn't take its line.
pub other_gap : (d : Dialect) (place : Place) (xs : List Piece) (l r : Piece) (ys : List Piece) (last g : List ℕ) → Reads d place (xs ++ l ∷ r ∷ ys) last →
    AreLikeGaps g r.gap → takes_line l.kind ≡ false → Reads d place (xs ++ l ∷ regapped g r ∷ ys) last
other_gap d place xs l r ys last g h like t =
    other_rest d place xs l (r ∷ ys) (regapped g r ∷ ys) last last h (like_may_follow g r.gap (r.spelling ++ written ys last) like) t
    (λ behind k.
    let same = like_place behind g r.gap like.lines in (
      like.white,
      subst (λ z. IsNext d z r.kind r.spelling (written ys last)) same k.1,
      subst (λ z. Reads d (past_item d z r.kind r.spelling) ys last) same k.2,
    ))

pub like_gaps : (g o : List ℕ) → is_gap g ≡ true → is_gap o ≡ true → (g ≡ [] → ⊥) → (o ≡ [] → ⊥) → list_any is_new_line g ≡ list_any is_new_line o → AreLikeGaps g o
like_gaps [] o w v n m e = absurd (n refl)
like_gaps (b ∷ g) [] w v n m e = absurd (m refl)
like_gaps (b ∷ g) (x ∷ o) w v n m e = record { white = w; old_white = v; lines = e; b = b; more = g; there = refl; x = x; old_more = o; old_there = refl }

-- the gap before the right item
pub gap_at : (d : Dialect) (place : Place) (xs : List Piece) (l r : Piece) (ys : List Piece) (last : List ℕ) → Reads d place (xs ++ l ∷ r ∷ ys) last → is_gap r.gap ≡ true
gap_at d place xs l r ys last h = (two_items d place xs l r ys last h).white

pub keeps_items_over_gaps : KeepsItemsOverGaps
keeps_items_over_gaps d text before after l r last gap h w n m e t =
    record { whole = refl; reads = other_gap d LineStart before l r after last gap h.reads (like_gaps gap r.gap w (gap_at d LineStart before l r after last h.reads) n m e) t }
