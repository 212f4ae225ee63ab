-- The seam of items: taking away a gap without a new-line between two items that may touch leaves all items as they were.
use Rattle.std.proofs.Common.{◌≡◌, ◌==◌, ◌||◌, ◌&&◌, not, ℕ, Bool, true, false, List, [], ◌∷◌, ◌++◌, refl, sym, ◌∙◌, ap, subst, arith, inl, inr, ◌⊎◌, append_assoc}
use Rattle.std.specs.Prelude.{codes}
use Rattle.std.specs.List.{list_any, list_all}
use Rattle.std.proofs.lemmas.Bool.{and_parts, or_cases, and_from, or_left, or_right, cases_Bool, not-true, both_ways, or_parts, ne_eqb}
use Rattle.std.proofs.lemmas.List.{append-nil}
use Rattle.c_grammar.specs.Grammar.{is_same, is_of, AreUnits, is_letter, is_white, is_new_line, is_word_unit, is_string_prefix, IsHeaderName, is_quoted_unit, Shape, Whole, Spells}
use Rattle.c_grammar.specs.Items.{IsLongest, is_gap, Place, LineStart, AfterHash, AfterInclude, AfterDefine, AfterMacroName, InDirective, InText, past_gap, past_item, past_name, is_include, BeginsHeader, IsNext, Piece, written, Reads}
use Rattle.c_chars.specs.declared.Dialect.{Dialect}
use Rattle.c_chars.specs.declared.Dialect.TheVariants.{C11, C23}
use Rattle.item_kinds.specs.declared.ItemKind.{ItemKind}
use Rattle.item_kinds.specs.declared.ItemKind.TheVariants.{Identifier, Number, CharConst, StringLit, Punct, HeaderName, StrayQuote, Other, BlockComment, LineComment}
use Rattle.c_grammar.proofs.Lists.{two_cuts, all_append, in_table}
use Rattle.c_grammar.proofs.Firsts.{Begins, begins, starts_or_empty, can_begin, char_prefix_letter, string_prefix_letter, is_quote}
use Rattle.c_grammar.proofs.Words.{letter_start_wordlike, wordlike_not_quote}
use Rattle.c_grammar.proofs.Classes.{not_of}
use Rattle.c_grammar.proofs.Sorts.{one_kind}
use Rattle.c_grammar.proofs.Singles.{is_word, word_single, letter_single, singles}
use Rattle.c_grammar.proofs.Before.{touch_words, touch_marks, IsSeam, IsMost, IsItemBefore, LiteralFirst, QuoteFirst, nothing_crosses, quote_kind, prefix_words}
use Rattle.c_grammar.proofs.Unique.{is_blank, item_not_blank}
use Rattle.c_grammar.proofs.Stops.{stray_stops, line_stops}
use Rattle.c_grammar.proofs.Seam.{Touch, touch_parts, item_begin, no_crossing}
use Rattle.c_grammar.specs.Touch.{is_literal, takes_line, may_touch, closed_up, KeepsItems}
use Rattle.c_grammar.proofs.Closed.{letter_is_start, closed_stays, block_stays, char_closed, string_closed}

-- The left item

no_crossing_all : (d : Dialect) (left : ItemKind) (k : Shape) (l : List ℕ) (right : ItemKind) (c : ℕ) (r more : List ℕ) → Spells d (Whole left) l → Spells d k (l ++ c ∷ more) → item_begin d right c ≡ true → Touch left l right (c ∷ r) → ⊥
no_crossing_all d Identifier k l right c r more g h i t = no_crossing d Identifier k l right c r more refl g h i t
no_crossing_all d Number k l right c r more g h i t = no_crossing d Number k l right c r more refl g h i t
no_crossing_all d Punct k l right c r more g h i t = no_crossing d Punct k l right c r more refl g h i t
no_crossing_all d CharConst k l right c r more g h i t = closed_stays d k l c more (char_closed d l g) h
no_crossing_all d StringLit k l right c r more g h i t = closed_stays d k l c more (string_closed d l g) h
no_crossing_all d HeaderName k l right c r more g h i t = g
no_crossing_all d StrayQuote k l right c r more g h i t = let f = t.line in cc
no_crossing_all d Other k l right c r more g h i t = let f = t.others in cc
no_crossing_all d BlockComment k l right c r more g h i t = block_stays d k l c more g h
no_crossing_all d LineComment k l right c r more g h i t = let f = t.line in cc

-- Header names: a gap without a new-line makes and breaks none.

pub white_inside : (last : ℕ) → ((last ≡ 62) ⊎ (last ≡ 34)) → (g : List ℕ) → is_gap g ≡ true → list_any is_new_line g ≡ false → list_all (λ c. not (c == last) && not (is_new_line c)) g ≡ true
unfolding is_white is_new_line
white_inside last o [] w n = refl
white_inside last o (c ∷ g) w n =
    let ws = and_parts (is_white c || is_new_line c) (is_gap g) w in
    let ns = or_parts (is_new_line c) (list_any is_new_line g) n in
    let line = ns.0 in
    let apart : (c == last) ≡ false = elim o [ inl i ↦ white_apart c last 62 ws.0 i refl | inr i ↦ white_apart c last 34 ws.0 i refl ] in
    rw (apart, line) (white_inside last o g ws.1 ns.1)
  where
    white_apart : (c last m : ℕ) → (is_white c || is_new_line c) ≡ true → last ≡ m → (is_blank m) ≡ false → (c == last) ≡ false
    white_apart c last m w i b = ne_eqb c last (λ e. both_ways (is_blank m) b (subst (λ z. is_blank z ≡ true) (e ∙ i) w))

pub header_last : (n : List ℕ) → (h : IsHeaderName n) → (h.last ≡ 62) ⊎ (h.last ≡ 34)
header_last n h = elim h.ends [ inl a ↦ inl a.1 | inr a ↦ inr a.1 ]

-- a body is as good with the gap in it
with_gap : (n : List ℕ) → (h : IsHeaderName n) → (g : List ℕ) → is_gap g ≡ true → list_any is_new_line g ≡ false → (a b : List ℕ) → h.body ≡ a ++ b → IsHeaderName (h.first ∷ ((a ++ (g ++ b)) ++ h.last ∷ []))
with_gap n h g w m a b e =
    let ok = white_inside h.last (header_last n h) g w m in
    let all : list_all (λ c. not (c == h.last) && not (is_new_line c)) (a ++ b) ≡ true = subst (λ z. list_all (λ c. not (c == h.last) && not (is_new_line c)) z ≡ true) e h.inside in
    let both : (list_all (λ c. not (c == h.last) && not (is_new_line c)) a && list_all (λ c. not (c == h.last) && not (is_new_line c)) b) ≡ true = rw all_append at all in
    let parts = and_parts (list_all (λ c. not (c == h.last) && not (is_new_line c)) a) (list_all (λ c. not (c == h.last) && not (is_new_line c)) b) both in
    let gb : list_all (λ c. not (c == h.last) && not (is_new_line c)) (g ++ b) ≡ true = rw all_append (and_from _ _ ok parts.1) in
    let inside : list_all (λ c. not (c == h.last) && not (is_new_line c)) (a ++ (g ++ b)) ≡ true = rw all_append (and_from _ _ parts.0 gb) in
    record { first = h.first; last = h.last; body = a ++ (g ++ b); ends = h.ends; inside = inside; not_empty = not_nil a b e; whole = refl }
  where
    not_nil : (a b : List ℕ) → h.body ≡ a ++ b → a ++ (g ++ b) ≡ [] → ⊥
    not_nil (c ∷ a) b e z = cc
    not_nil [] [] e z = h.not_empty e
    not_nil [] (c ∷ b) e z = ends_there g c b z
      where
        ends_there : (g : List ℕ) (c : ℕ) (b : List ℕ) → g ++ c ∷ b ≡ [] → ⊥
        ends_there [] c b z = cc
        ends_there (y ∷ g) c b z = cc

pub joined_so : (S g b : List ℕ) (l : ℕ) (left : List ℕ) (f f2 : ℕ) (B : List ℕ) → f ≡ f2 → B ≡ (b ++ l ∷ []) ++ left → (f ∷ S) ++ (g ++ B) ≡ (f2 ∷ ((S ++ (g ++ b)) ++ l ∷ [])) ++ left
joined_so S g b l left f f2 B e i =
    let tail : S ++ (g ++ B) ≡ ((S ++ (g ++ b)) ++ l ∷ []) ++ left =
    ap (λ z. S ++ (g ++ z)) i ∙ sym (append_assoc (S ++ (g ++ b)) (l ∷ []) left ∙ (append_assoc S (g ++ b) (l ∷ left) ∙ ap (λ z. S ++ z) (append_assoc g b (l ∷ left) ∙ ap (λ z. g ++ z) (sym (append_assoc b (l ∷ []) left))))) in
    cc

header_over : (f : ℕ) (S B g : List ℕ) → is_gap g ≡ true → list_any is_new_line g ≡ false → BeginsHeader ((f ∷ S) ++ B) → BeginsHeader ((f ∷ S) ++ (g ++ B))
header_over f S B g w m h = elim (two_cuts h.name h.left (f ∷ S) B (sym h.whole)) [
  | inl c ↦ record { name = h.name; left = g ++ B; is_name = h.is_name; whole = ap (λ z. z ++ (g ++ B)) (sym c.front_is) }
  | inr on ↦ elim on [
    | inl c ↦ record { name = h.name; left = (c.c ∷ c.more) ++ (g ++ B); is_name = h.is_name; whole = ap (λ z. z ++ (g ++ B)) c.front_is ∙ append_assoc h.name (c.c ∷ c.more) (g ++ B) }
    | inr c ↦ over c.c c.more c.front_is c.rest_is
  ]
]
  where
    n : IsHeaderName h.name
    n = h.is_name

    -- the name goes on over the cut
    over : (c : ℕ) (more : List ℕ) → h.name ≡ (f ∷ S) ++ c ∷ more → B ≡ (c ∷ more) ++ h.left → BeginsHeader ((f ∷ S) ++ (g ++ B))
    over c more e b =
        let all : f ∷ (S ++ c ∷ more) ≡ n.first ∷ (n.body ++ n.last ∷ []) = sym e ∙ n.whole in
        let f_is : f ≡ n.first = cc in
        let tails : n.body ++ n.last ∷ [] ≡ S ++ c ∷ more = cc in
        elim (two_cuts n.body (n.last ∷ []) S (c ∷ more) tails) [
          | inl s ↦ made S [] c more (s.front_is ∙ sym (append-nil S)) (sym s.rest_is) f_is b
          | inr on ↦ elim on [
            | inl g1 ↦ absurd (too_long g1.c g1.more c more n.last g1.rest_is)
            | inr g1 ↦ made S (g1.c ∷ g1.more) c more g1.front_is g1.rest_is f_is b
          ]
        ]
      where
        too_long : (a : ℕ) (t : List ℕ) (c : ℕ) (more : List ℕ) (l : ℕ) → l ∷ [] ≡ (a ∷ t) ++ (c ∷ more) → ⊥
        too_long a [] c more l e = cc
        too_long a (a2 ∷ t) c more l e = cc

        made : (S b : List ℕ) (c : ℕ) (more : List ℕ) → n.body ≡ S ++ b → c ∷ more ≡ b ++ n.last ∷ [] → f ≡ n.first → B ≡ (c ∷ more) ++ h.left → BeginsHeader ((f ∷ S) ++ (g ++ B))
        made S b c more body tail f_is b_is =
            let name = with_gap h.name n g w m S b body in
            record { name = n.first ∷ ((S ++ (g ++ b)) ++ n.last ∷ []); left = h.left; is_name = name; whole = joined_so S g b n.last h.left f n.first B f_is (b_is ∙ ap (λ z. z ++ h.left) tail) }

-- Pieces

pub written_more : (ms ns : List Piece) (last : List ℕ) → written (ms ++ ns) last ≡ written ms (written ns last)
written_more [] ns last = refl
written_more (m ∷ ms) ns last = ap (λ z. m.gap ++ (m.spelling ++ z)) (written_more ms ns last)

pub written_from : (ms : List Piece) (z : List ℕ) → written ms z ≡ written ms [] ++ z
written_from [] z = refl
written_from (m ∷ ms) z =
    ap (λ y. m.gap ++ (m.spelling ++ y)) (written_from ms z)
    ∙ (ap (λ y. m.gap ++ y) (sym (append_assoc m.spelling (written ms []) z)) ∙ sym (append_assoc m.gap (m.spelling ++ written ms []) z))

next_item_of : (d : Dialect) (place : Place) (kind : ItemKind) (s rest : List ℕ) → IsNext d place kind s rest → ((kind ≡ HeaderName) × IsHeaderName s) ⊎ Spells d (Whole kind) s
next_item_of d place kind s rest (inl h) = inl (h.1, h.2)
next_item_of d place kind s rest (inr h) = inr h.1.spells

spelled_item : (d : Dialect) (kind : ItemKind) (s : List ℕ) → Spells d (Whole kind) s → Begins (item_begin d kind) s
spelled_item d Identifier s h = begins d (Whole Identifier) s h
spelled_item d Number s h = begins d (Whole Number) s h
spelled_item d CharConst s h = begins d (Whole CharConst) s h
spelled_item d StringLit s h = begins d (Whole StringLit) s h
spelled_item d Punct s h = begins d (Whole Punct) s h
spelled_item d HeaderName s h = absurd h
spelled_item d StrayQuote s h = begins d (Whole StrayQuote) s h
spelled_item d Other s h = begins d (Whole Other) s h
spelled_item d BlockComment s h = begins d (Whole BlockComment) s h
spelled_item d LineComment s h = begins d (Whole LineComment) s h

pub item_begins : (d : Dialect) (kind : ItemKind) (s : List ℕ) → ((kind ≡ HeaderName) × IsHeaderName s) ⊎ Spells d (Whole kind) s → Begins (item_begin d kind) s
item_begins d kind s (inl h) = subst (λ k. Begins (item_begin d k) s) (sym h.0) (header_at s h.1)
  where
    header_at : (s : List ℕ) → IsHeaderName s → Begins (item_begin d HeaderName) s
    header_at s h = record {
      c = h.first;
      rest = h.body ++ h.last ∷ [];
      whole = h.whole;
      passes = elim h.ends [
        | inl a ↦ subst (λ z. is_of (60 ∷ 34 ∷ []) z ≡ true) (sym a.0) refl
        | inr a ↦ subst (λ z. is_of (60 ∷ 34 ∷ []) z ≡ true) (sym a.0) refl
      ];
    }
item_begins d kind s (inr h) = spelled_item d kind s h

-- the left item
left_next : (d : Dialect) (place : Place) (l r : Piece) (W : List ℕ) → IsNext d place l.kind l.spelling (r.gap ++ (r.spelling ++ W)) → Begins (item_begin d r.kind) r.spelling → may_touch l.kind l.spelling r.kind r.spelling ≡ true →
    is_gap r.gap ≡ true → list_any is_new_line r.gap ≡ false → IsNext d place l.kind l.spelling (r.spelling ++ W)
left_next d place l r W (inl h) b t w n = inl h
left_next d place l r W (inr h) b t w n = inr (no_header, longest)
  where
    start : Begins (can_begin d (Whole l.kind)) l.spelling
    start = begins d (Whole l.kind) l.spelling h.1.spells

    no_header : place ≡ AfterInclude → BeginsHeader (l.spelling ++ (r.spelling ++ W)) → ⊥
    no_header p g = h.0 p (subst (λ z. BeginsHeader (z ++ (r.gap ++ (r.spelling ++ W)))) (sym start.whole) (header_over start.c start.rest (r.spelling ++ W) r.gap w n (subst (λ z. BeginsHeader (z ++ (r.spelling ++ W))) start.whole g)))

    longest : IsLongest d (Whole l.kind) l.spelling (r.spelling ++ W)
    longest = record {
      spells = h.1.spells;
      longest = λ k c more left cut g.
          let bw = b.whole in
          let e : b.c ∷ (b.rest ++ W) ≡ c ∷ (more ++ left) = sym (ap (λ z. z ++ W) bw) ∙ cut in
          let heads : c ≡ b.c = cc in
          no_crossing_all d l.kind k l.spelling r.kind b.c b.rest more h.1.spells (subst (λ z. Spells d k (l.spelling ++ z ∷ more)) heads g) b.passes
          (touch_parts l.kind l.spelling r.kind (b.c ∷ b.rest) (subst (λ z. may_touch l.kind l.spelling r.kind z ≡ true) bw t));
    }

-- What stands between an item and the right one.

-- there is a piece, and it begins with what isn't blank behind its gap
pub record FirstPiece (d : Dialect) (place : Place) (left : ItemKind) (A : List ℕ) : Type 0 where
  pub gap : List ℕ
  pub kind : ItemKind
  pub spelling : List ℕ
  pub rest : List ℕ
  pub white : is_gap gap ≡ true
  pub whole : A ≡ gap ++ (spelling ++ rest)
  pub item : ((past_gap place gap ≡ AfterInclude) × (kind ≡ HeaderName) × IsHeaderName spelling) ⊎ Spells d (Whole kind) spelling
  pub line : takes_line kind ≡ true → (list_any is_new_line rest ≡ true) ⊎ (takes_line left ≡ true)

-- what takes its line has a new-line behind it
line_behind : (d : Dialect) (kind : ItemKind) (s gap : List ℕ) (f : ℕ) (rest : List ℕ) → takes_line kind ≡ true → is_gap gap ≡ true → is_blank f ≡ false → IsLongest d (Whole kind) s (gap ++ f ∷ rest) → list_any is_new_line gap ≡ true
line_behind d StrayQuote s [] f rest t w b h = absurd (both_ways (is_new_line f) (or_parts (is_white f) (is_new_line f) b).1 (stray_stops d s f rest h))
line_behind d StrayQuote s (c ∷ gap) f rest t w b h = or_left (is_new_line c) (list_any is_new_line gap) (stray_stops d s c (gap ++ f ∷ rest) h)
line_behind d LineComment s gap f rest t w b h = elim (cases_Bool (list_any is_new_line gap)) [ inl y ↦ y | inr n ↦ absurd (line_stops d s gap f rest n b h) ]
line_behind d Identifier s gap f rest t w b h = cc
line_behind d Number s gap f rest t w b h = cc
line_behind d CharConst s gap f rest t w b h = cc
line_behind d StringLit s gap f rest t w b h = cc
line_behind d Punct s gap f rest t w b h = cc
line_behind d HeaderName s gap f rest t w b h = cc
line_behind d Other s gap f rest t w b h = cc
line_behind d BlockComment s gap f rest t w b h = cc

any_append : (p : ℕ → Bool) (a b : List ℕ) → list_any p b ≡ true → list_any p (a ++ b) ≡ true
any_append p [] b h = h
any_append p (c ∷ a) b h = or_right (p c) (list_any p (a ++ b)) (any_append p a b h)

any_front : (p : ℕ → Bool) (a b : List ℕ) → list_any p a ≡ true → list_any p (a ++ b) ≡ true
any_front p [] b h = cc
any_front p (c ∷ a) b h = elim (or_cases (p c) (list_any p a) h) [ inl e ↦ or_left (p c) (list_any p (a ++ b)) e | inr e ↦ or_right (p c) (list_any p (a ++ b)) (any_front p a b e) ]

pub rest_is : (xs : List Piece) (l : Piece) (ns : List Piece) (last : List ℕ) → written (xs ++ l ∷ ns) last ≡ written (xs ++ l ∷ []) [] ++ written ns last
rest_is xs l ns last = written_more xs (l ∷ ns) last ∙ (sym (written_more xs (l ∷ []) (written ns last)) ∙ written_from (xs ++ l ∷ []) (written ns last))

-- an item's first character isn't blank
pub item_black : (d : Dialect) (kind : ItemKind) (s : List ℕ) → IsHeaderName s ⊎ Spells d (Whole kind) s → (f : ℕ) × (t : List ℕ) × (s ≡ f ∷ t) × (is_blank f ≡ false)
unfolding is_white is_new_line
item_black d kind s (inl h) = (
  h.first,
  h.body ++ h.last ∷ [],
  h.whole,
  elim h.ends [
    | inl a ↦ subst (λ z. is_blank z ≡ false) (sym a.0) refl
    | inr a ↦ subst (λ z. is_blank z ≡ false) (sym a.0) refl
  ],
)
item_black d kind s (inr h) = let b = begins d (Whole kind) s h in (b.c, b.rest, b.whole, item_not_blank d (Whole kind) b.c b.passes)

to_item : (d : Dialect) (place : Place) (kind : ItemKind) (s rest : List ℕ) → IsNext d place kind s rest → ((place ≡ AfterInclude) × (kind ≡ HeaderName) × IsHeaderName s) ⊎ Spells d (Whole kind) s
to_item d place kind s rest (inl h) = inl h
to_item d place kind s rest (inr h) = inr h.1.spells

either_item : (d : Dialect) (place : Place) (kind : ItemKind) (s : List ℕ) → ((place ≡ AfterInclude) × (kind ≡ HeaderName) × IsHeaderName s) ⊎ Spells d (Whole kind) s → IsHeaderName s ⊎ Spells d (Whole kind) s
either_item d place kind s (inl h) = inl h.2
either_item d place kind s (inr h) = inr h

-- a new-line stands before the next item where one takes its line
pub line_of : (d : Dialect) (place here : Place) (kind : ItemKind) (spelling : List ℕ) (xs : List Piece) (l : Piece) (ns : List Piece) (last : List ℕ) → FirstPiece d place l.kind (written (xs ++ l ∷ []) []) →
    takes_line kind ≡ true → IsNext d here kind spelling (written (xs ++ l ∷ ns) last) → list_any is_new_line (written (xs ++ l ∷ []) []) ≡ true
line_of d place here kind spelling xs l ns last next t (inl g) = let k = g.1 in let f : takes_line HeaderName ≡ true = subst (λ z. takes_line z ≡ true) k t in cc
line_of d place here kind spelling xs l ns last next t (inr g) =
    let black = item_black d next.kind next.spelling (either_item d (past_gap place next.gap) next.kind next.spelling next.item) in
    let Z : List ℕ = written ns last in
    let old : written (xs ++ l ∷ ns) last ≡ next.gap ++ black.0 ∷ ((black.1 ++ next.rest) ++ Z) =
    rest_is xs l ns last ∙ (ap (λ z. z ++ Z) (next.whole ∙ ap (λ z. next.gap ++ (z ++ next.rest)) black.2) ∙ append_assoc next.gap (black.0 ∷ (black.1 ++ next.rest)) Z) in
    let there = line_behind d kind spelling next.gap black.0 ((black.1 ++ next.rest) ++ Z) t next.white black.3 (subst (λ z. IsLongest d (Whole kind) spelling z) old g.1) in
    subst (λ z. list_any is_new_line z ≡ true) (sym next.whole) (any_front is_new_line next.gap (next.spelling ++ next.rest) there)

pub first_piece : (d : Dialect) (place : Place) (xs : List Piece) (l : Piece) (ns : List Piece) (last : List ℕ) → Reads d place (xs ++ l ∷ ns) last → FirstPiece d place l.kind (written (xs ++ l ∷ []) [])
first_piece d place [] l ns last h = record {
  gap = l.gap;
  kind = l.kind;
  spelling = l.spelling;
  rest = [];
  white = h.0;
  whole = refl;
  item = to_item d (past_gap place l.gap) l.kind l.spelling (written ns last) h.1;
  line = λ t. inr t;
}
first_piece d place (m ∷ xs) l ns last h =
    let next = first_piece d (past_item d (past_gap place m.gap) m.kind m.spelling) xs l ns last h.2 in
    record {
      gap = m.gap;
      kind = m.kind;
      spelling = m.spelling;
      rest = written (xs ++ l ∷ []) [];
      white = h.0;
      whole = refl;
      item = to_item d (past_gap place m.gap) m.kind m.spelling (written (xs ++ l ∷ ns) last) h.1;
      line = λ t. inl (line_of d (past_item d (past_gap place m.gap) m.kind m.spelling) (past_gap place m.gap) m.kind m.spelling xs l ns last next t h.1);
    }

-- an include's name is no prefix of a literal
prefix_no_include : (d : Dialect) (s : List ℕ) → is_string_prefix s ≡ true → is_include d s ≡ false
unfolding is_string_prefix
prefix_no_include C11 s h = not-true (is_include C11 s) (in_table (λ z. not (is_include C11 z)) ([] ∷ codes "L" ∷ codes "u" ∷ codes "U" ∷ codes "u8" ∷ []) refl s h)
prefix_no_include C23 s h = not-true (is_include C23 s) (in_table (λ z. not (is_include C23 z)) ([] ∷ codes "L" ∷ codes "u" ∷ codes "U" ∷ codes "u8" ∷ []) refl s h)

-- behind a directive's name that isn't an include
past_other_name : (d : Dialect) (s : List ℕ) → is_include d s ≡ false → past_name d s ≡ AfterInclude → ⊥
past_other_name d s n e = elim (cases_Bool (is_same s (codes "define"))) [
  | inl y ↦ let g : AfterDefine ≡ AfterInclude = sym (rw (n, y) refl) ∙ e in cc
  | inr y ↦ let g : InDirective ≡ AfterInclude = sym (rw (n, y) refl) ∙ e in cc
]

prefix_place : (d : Dialect) (place : Place) (j : ItemKind) (f : ℕ) (p : List ℕ) → Spells d (Whole j) (f ∷ p) → is_string_prefix (f ∷ p) ≡ true → past_item d place j (f ∷ p) ≡ AfterInclude → ⊥
prefix_place d place j f p h k e =
    let word : Spells d (Whole Identifier) (f ∷ p) = prefix_word f p k in
    let same : Whole j ≡ Whole Identifier = one_kind d (Whole j) (Whole Identifier) (f ∷ p) h word in
    let kind : j ≡ Identifier = cc in
    by_place place (subst (λ z. past_item d place z (f ∷ p) ≡ AfterInclude) kind e)
  where
    prefix_word : (f : ℕ) (p : List ℕ) → is_string_prefix (f ∷ p) ≡ true → Spells d (Whole Identifier) (f ∷ p)
    prefix_word f p k =
        let parts = and_parts (is_letter f) (list_all is_word p) (prefix_words (f ∷ p) k) in
        record { head = f ∷ []; tail = p; begins = letter_single f parts.0; goes_on = singles is_word is_word_unit word_single p parts.1; whole = refl }

    by_place : (place : Place) → past_item d place Identifier (f ∷ p) ≡ AfterInclude → ⊥
    by_place LineStart e = cc
    by_place AfterHash e = past_other_name d (f ∷ p) (prefix_no_include d (f ∷ p) k) e
    by_place AfterInclude e = cc
    by_place AfterDefine e = cc
    by_place AfterMacroName e = cc
    by_place InDirective e = cc
    by_place InText e = cc

quote_no_letter : (x : ℕ) → is_quote x ≡ true → is_letter x ≡ true → ⊥
quote_no_letter x q h = both_ways (is_quote x) (wordlike_not_quote x (letter_start_wordlike x (letter_is_start x h))) q

pub blank_no_quote : (x : ℕ) → is_quote x ≡ true → is_blank x ≡ true → ⊥
unfolding is_quote is_white is_new_line
blank_no_quote x q h = both_ways (is_blank x) (not_of is_blank (codes "'\"") refl x q) h

-- where a quote stands behind a prefix
literal_first : (d : Dialect) (kind : ItemKind) (x : ℕ) (A spelling rest : List ℕ) → x ∷ A ≡ spelling ++ rest → is_quote x ≡ true → is_literal kind ≡ true → Spells d (Whole kind) spelling → LiteralFirst x A
literal_first d kind x A spelling rest w q i h = by_kind kind i h
  where
    quoted : (before body : List ℕ) (y : ℕ) → starts_or_empty is_letter before ≡ true → AreUnits (is_quoted_unit y) body → (y ≡ 39 → not (is_same body []) ≡ true) → spelling ≡ before ++ y ∷ (body ++ y ∷ []) → LiteralFirst x A
    quoted [] body y n u a e =
        let all : x ∷ A ≡ y ∷ ((body ++ y ∷ []) ++ rest) = w ∙ ap (λ z. z ++ rest) e in
        let heads : y ≡ x = cc in
        record {
          body = body;
          left = rest;
          inside = subst (λ z. AreUnits (is_quoted_unit z) body) heads u;
          apart = λ k. a (heads ∙ k);
          whole = w ∙ (ap (λ z. z ++ rest) e ∙ ap (λ z. (z ∷ (body ++ z ∷ [])) ++ rest) heads);
        }
    quoted (c ∷ before) body y n u a e =
        let all : x ∷ A ≡ c ∷ ((before ++ y ∷ (body ++ y ∷ [])) ++ rest) = w ∙ ap (λ z. z ++ rest) e in
        let heads : c ≡ x = cc in
        absurd (quote_no_letter x q (subst (λ z. is_letter z ≡ true) heads n))

    by_kind : (kind : ItemKind) → is_literal kind ≡ true → Spells d (Whole kind) spelling → LiteralFirst x A
    by_kind CharConst i h = quoted h.before h.body 39 (char_prefix_letter d h.before h.begins) h.inside (λ e. h.not_empty) h.whole
    by_kind StringLit i h = quoted h.before h.body 34 (string_prefix_letter h.before h.begins) h.inside (λ e. let f : 34 ≡ 39 = e in absurd (omega (arith, f))) h.whole
    by_kind Identifier i h = cc
    by_kind Number i h = cc
    by_kind Punct i h = cc
    by_kind HeaderName i h = cc
    by_kind StrayQuote i h = cc
    by_kind Other i h = cc
    by_kind BlockComment i h = cc
    by_kind LineComment i h = cc

pub quote_first : (d : Dialect) (place : Place) (j left : ItemKind) (f : ℕ) (p : List ℕ) (x : ℕ) (A : List ℕ) → Spells d (Whole j) (f ∷ p) → (gap spelling rest : List ℕ) (kind : ItemKind) → is_gap gap ≡ true → x ∷ A ≡ gap ++ (spelling ++ rest) →
    ((past_gap (past_item d place j (f ∷ p)) gap ≡ AfterInclude) × (kind ≡ HeaderName) × IsHeaderName spelling) ⊎ Spells d (Whole kind) spelling →
    (takes_line kind ≡ true → (list_any is_new_line rest ≡ true) ⊎ (takes_line left ≡ true)) → QuoteFirst left (f ∷ p) x A
quote_first d place j left f p x A h (c ∷ gap) spelling rest kind w e item line q k =
    let heads : c ≡ x = cc in
    absurd (blank_no_quote x q (subst (λ z. is_blank z ≡ true) heads (and_parts (is_blank c) (is_gap gap) w).0))
quote_first d place j left f p x A h [] spelling rest kind w e (inl g) line q k = absurd (prefix_place d place j f p h k g.0)
quote_first d place j left f p x A h [] spelling rest kind w e (inr g) line q k =
    let black = item_black d kind spelling (inr g) in
    let all : x ∷ A ≡ black.0 ∷ (black.1 ++ rest) = e ∙ ap (λ z. z ++ rest) black.2 in
    let heads : black.0 ≡ x = cc in
    elim (or_cases (is_literal kind) (takes_line kind) (quote_kind d kind spelling x black.1 (black.2 ∙ ap (λ z. z ∷ black.1) heads) q g)) [
      | inl i ↦ inl (literal_first d kind x A spelling rest e q i g)
      | inr t ↦ elim (line t) [
        | inl n ↦ inr (inl (subst (λ z. list_any is_new_line z ≡ true) (sym e) (any_append is_new_line spelling rest n)))
        | inr u ↦ inr (inr u)
      ]
    ]

-- the item that stands behind xs
pub item_at : (d : Dialect) (place : Place) (xs : List Piece) (l : Piece) (ns : List Piece) (last : List ℕ) → Reads d place (xs ++ l ∷ ns) last → ((l.kind ≡ HeaderName) × IsHeaderName l.spelling) ⊎ Spells d (Whole l.kind) l.spelling
item_at d place [] l ns last h = next_item_of d (past_gap place l.gap) l.kind l.spelling (written ns last) h.1
item_at d place (m ∷ xs) l ns last h = item_at d (past_item d (past_gap place m.gap) m.kind m.spelling) xs l ns last h.2

-- The seam

-- the left item and the right one of a text
pub record TwoItems (d : Dialect) (l r : Piece) : Type 0 where
  pub left : ((l.kind ≡ HeaderName) × IsHeaderName l.spelling) ⊎ Spells d (Whole l.kind) l.spelling
  pub right : Begins (item_begin d r.kind) r.spelling
  pub white : is_gap r.gap ≡ true

pub two_items : (d : Dialect) (place : Place) (xs : List Piece) (l r : Piece) (ys : List Piece) (last : List ℕ) → Reads d place (xs ++ l ∷ r ∷ ys) last → TwoItems d l r
two_items d place [] l r ys last h =
    let second = h.2 in
    let after = past_item d (past_gap place l.gap) l.kind l.spelling in
    record {
      left = next_item_of d (past_gap place l.gap) l.kind l.spelling (written (r ∷ ys) last) h.1;
      right = item_begins d r.kind r.spelling (next_item_of d (past_gap after r.gap) r.kind r.spelling (written ys last) second.1);
      white = second.0;
    }
two_items d place (m ∷ xs) l r ys last h = two_items d (past_item d (past_gap place m.gap) m.kind m.spelling) xs l r ys last h.2

pub ends_in_left : (xs : List Piece) (l : Piece) → written (xs ++ l ∷ []) [] ≡ (written xs [] ++ l.gap) ++ l.spelling
ends_in_left xs l =
    written_more xs (l ∷ []) [] ∙ (written_from xs (l.gap ++ (l.spelling ++ []))
    ∙ (ap (λ z. written xs [] ++ (l.gap ++ z)) (append-nil l.spelling) ∙ sym (append_assoc (written xs []) l.gap l.spelling)))

-- there is something before the right item
pub something : (xs : List Piece) (l : Piece) (f : ℕ) (t : List ℕ) → l.spelling ≡ f ∷ t → (x : ℕ) × (A : List ℕ) × (written (xs ++ l ∷ []) [] ≡ x ∷ A)
something xs l f t w = go (written xs [] ++ l.gap) (ends_in_left xs l ∙ ap (λ z. (written xs [] ++ l.gap) ++ z) w)
  where
    go : (b : List ℕ) → written (xs ++ l ∷ []) [] ≡ b ++ f ∷ t → (x : ℕ) × (A : List ℕ) × (written (xs ++ l ∷ []) [] ≡ x ∷ A)
    go [] e = (f, t, e)
    go (y ∷ b) e = (y, b ++ f ∷ t, e)

before_next : (d : Dialect) (place : Place) (kind : ItemKind) (s : List ℕ) (xs : List Piece) (l r : Piece) (ys : List Piece) (last : List ℕ) →
    IsNext d place kind s (written (xs ++ l ∷ r ∷ ys) last) → Reads d (past_item d place kind s) (xs ++ l ∷ r ∷ ys) last →
    may_touch l.kind l.spelling r.kind r.spelling ≡ true → list_any is_new_line r.gap ≡ false → IsNext d place kind s (written (xs ++ l ∷ closed_up r ∷ ys) last)
before_next d place kind s xs l r ys last (inl h) hs t n = inl h
before_next d place kind s xs l r ys last (inr h) hs t n = inr (no_header, longest)
  where
    items : TwoItems d l r
    items = two_items d (past_item d place kind s) xs l r ys last hs

    A : List ℕ
    A = written (xs ++ l ∷ []) []

    B : List ℕ
    B = r.spelling ++ written ys last

    old : written (xs ++ l ∷ r ∷ ys) last ≡ A ++ (r.gap ++ B)
    old = rest_is xs l (r ∷ ys) last

    new : written (xs ++ l ∷ closed_up r ∷ ys) last ≡ A ++ B
    new = rest_is xs l (closed_up r ∷ ys) last

    start : Begins (can_begin d (Whole kind)) s
    start = begins d (Whole kind) s h.1.spells

    no_header : place ≡ AfterInclude → BeginsHeader (s ++ written (xs ++ l ∷ closed_up r ∷ ys) last) → ⊥
    no_header p g = h.0 p (subst (λ z. BeginsHeader z) back over)
      where
        there : BeginsHeader ((start.c ∷ (start.rest ++ A)) ++ B)
        there = subst (λ z. BeginsHeader z) (ap (λ z. s ++ z) new ∙ (ap (λ z. z ++ (A ++ B)) start.whole ∙ sym (append_assoc (start.c ∷ start.rest) A B))) g

        over : BeginsHeader ((start.c ∷ (start.rest ++ A)) ++ (r.gap ++ B))
        over = header_over start.c (start.rest ++ A) B r.gap items.white n there

        back : (start.c ∷ (start.rest ++ A)) ++ (r.gap ++ B) ≡ s ++ written (xs ++ l ∷ r ∷ ys) last
        back = append_assoc (start.c ∷ start.rest) A (r.gap ++ B) ∙ (ap (λ z. z ++ (A ++ (r.gap ++ B))) (sym start.whole) ∙ ap (λ z. s ++ z) (sym old))

    most : IsMost d s A
    most k c more left e g = h.1.longest k c more (left ++ (r.gap ++ B)) (old ∙ (ap (λ z. z ++ (r.gap ++ B)) e ∙ append_assoc (c ∷ more) left (r.gap ++ B))) g

    -- over the seam
    crossing : (k : Shape) (e : ℕ) (more : List ℕ) (left : List ℕ) → B ≡ (e ∷ more) ++ left → Spells d k (s ++ (A ++ e ∷ more)) → ⊥
    crossing k e more left b g =
        nothing_crosses d l.kind r.kind l.spelling some.0 some.1 right.c right.rest seam_is kind start.c start.rest more item_before first k
        (subst (λ z. Spells d k z) shape g)
      where
        left_there : Begins (item_begin d l.kind) l.spelling
        left_there = item_begins d l.kind l.spelling items.left

        some : (x : ℕ) × (A0 : List ℕ) × (A ≡ x ∷ A0)
        some = something xs l left_there.c left_there.rest left_there.whole

        right : Begins (item_begin d r.kind) r.spelling
        right = items.right

        head_is : e ≡ right.c
        head_is = let w : right.c ∷ (right.rest ++ written ys last) ≡ e ∷ (more ++ left) = sym (ap (λ z. z ++ written ys last) right.whole) ∙ b in cc

        touching : Touch l.kind l.spelling r.kind (right.c ∷ right.rest)
        touching = touch_parts l.kind l.spelling r.kind (right.c ∷ right.rest) (subst (λ z. may_touch l.kind l.spelling r.kind z ≡ true) right.whole t)

        seam_is : IsSeam d l.kind r.kind l.spelling (some.0 ∷ some.1) right.c right.rest
        seam_is = record {
          before = written xs [] ++ l.gap;
          ends_in = sym some.2 ∙ ends_in_left xs l;
          item = items.left;
          words = touch_words d l.kind r.kind l.spelling right.c right.rest items.left right.passes touching;
          line = touching.line;
          marks = touch_marks d l.kind r.kind l.spelling right.c right.rest items.left touching;
        }

        piece : FirstPiece d (past_item d place kind s) l.kind A
        piece = first_piece d (past_item d place kind s) xs l (r ∷ ys) last hs

        item_before : IsItemBefore d kind (start.c ∷ start.rest) (some.0 ∷ some.1)
        item_before = record {
          spelled = subst (λ z. Spells d (Whole kind) z) start.whole h.1.spells;
          line = λ u. subst (λ z. list_any is_new_line z ≡ true) some.2 (line_of d (past_item d place kind s) place kind s xs l (r ∷ ys) last piece u (inr h));
          most = subst (λ z. IsMost d (start.c ∷ start.rest) z) some.2 (subst (λ z. IsMost d z A) start.whole most);
        }

        first : QuoteFirst l.kind (start.c ∷ start.rest) some.0 some.1
        first = quote_first d place kind l.kind start.c start.rest some.0 some.1 item_before.spelled piece.gap piece.spelling piece.rest piece.kind piece.white (sym some.2 ∙ piece.whole)
            (subst (λ z. ((past_gap (past_item d place kind z) piece.gap ≡ AfterInclude) × (piece.kind ≡ HeaderName) × IsHeaderName piece.spelling) ⊎ Spells d (Whole piece.kind) piece.spelling) start.whole piece.item) piece.line

        shape : s ++ (A ++ e ∷ more) ≡ ((start.c ∷ start.rest) ++ some.0 ∷ some.1) ++ right.c ∷ more
        shape = ap (λ z. s ++ (A ++ z ∷ more)) head_is ∙ (ap (λ z. z ++ (A ++ right.c ∷ more)) start.whole ∙ (ap (λ z. (start.c ∷ start.rest) ++ (z ++ right.c ∷ more)) some.2 ∙ sym (append_assoc (start.c ∷ start.rest) (some.0 ∷ some.1) (right.c ∷ more))))

    longest : IsLongest d (Whole kind) s (written (xs ++ l ∷ closed_up r ∷ ys) last)
    longest = record {
      spells = h.1.spells;
      longest = λ k c more left w g. elim (two_cuts A B (c ∷ more) left (sym new ∙ w)) [
        | inl same ↦ most k c more [] (same.front_is ∙ sym (append-nil (c ∷ more))) g
        | inr on ↦ elim on [
          | inl o ↦ crossing k o.c o.more left o.rest_is (subst (λ z. Spells d k (s ++ z)) o.front_is g)
          | inr o ↦ most k c more (o.c ∷ o.more) o.front_is g
        ]
      ];
    }

-- a gap without a new-line leaves the place
pub same_place : (place : Place) (gap : List ℕ) → list_any is_new_line gap ≡ false → past_gap place gap ≡ place
same_place place gap n = rw n refl

-- Taking away the gap between two items that may touch leaves all items as they were.
pub seam : (d : Dialect) (place : Place) (xs : List Piece) (l r : Piece) (ys : List Piece) (last : List ℕ) → Reads d place (xs ++ l ∷ r ∷ ys) last →
    may_touch l.kind l.spelling r.kind r.spelling ≡ true → list_any is_new_line r.gap ≡ false → Reads d place (xs ++ l ∷ closed_up r ∷ ys) last
seam d place [] l r ys last h t n =
    let here = past_gap place l.gap in
    let after = past_item d here l.kind l.spelling in
    let items = two_items d place [] l r ys last h in
    let second = h.2 in
    let right : IsNext d after r.kind r.spelling (written ys last) = subst (λ z. IsNext d z r.kind r.spelling (written ys last)) (same_place after r.gap n) second.1 in
    let rest : Reads d (past_item d after r.kind r.spelling) ys last = subst (λ z. Reads d (past_item d z r.kind r.spelling) ys last) (same_place after r.gap n) second.2 in
    (h.0, left_next d here l r (written ys last) h.1 items.right t items.white n, (refl, right, rest))
seam d place (x ∷ xs) l r ys last h t n =
    let here = past_gap place x.gap in
    (h.0, before_next d here x.kind x.spelling xs l r ys last h.1 h.2 t n, seam d (past_item d here x.kind x.spelling) xs l r ys last h.2 t n)

pub keeps_items : KeepsItems
keeps_items d text before after l r last h t n = record { whole = refl; reads = seam d LineStart before l r after last h.reads t n }
