-- Where the rest of a text differs from the next new-line on alone, the items before it stay, whatever kind they are.
use Rattle.std.proofs.Common.{◌≡◌, ◌==◌, ◌&&◌, not, ℕ, Bool, true, false, List, [], ◌∷◌, ◌++◌, refl, sym, ◌∙◌, ap, subst, inl, inr, append_assoc}
use Rattle.std.specs.Prelude.{codes}
use Rattle.std.specs.List.{list_any, list_all}
use Rattle.std.proofs.lemmas.Bool.{and_parts, or_cases, or_right, and_from, eqb-true, both_ways}
use Rattle.std.proofs.lemmas.List.{append-nil}
use Rattle.c_grammar.specs.Grammar.{is_one, is_two, IsHeaded, is_digit, is_white, is_new_line, is_sign, is_exponent, is_number_head, is_number_unit, is_punctuator, punctuators, is_other, is_other_unit, IsHeaderName, Shape, Whole, Unended, Spells}
use Rattle.c_grammar.specs.Items.{IsLongest, Place, AfterInclude, past_gap, past_item, BeginsHeader, IsNext, Piece, written, Reads}
use Rattle.c_chars.specs.declared.Dialect.{Dialect}
use Rattle.c_chars.specs.declared.Dialect.TheVariants.{C11, C23}
use Rattle.item_kinds.specs.declared.ItemKind.{ItemKind}
use Rattle.item_kinds.specs.declared.ItemKind.TheVariants.{Identifier, Number, CharConst, StringLit, Punct, HeaderName, StrayQuote, Other, BlockComment, LineComment}
use Rattle.c_grammar.proofs.Lists.{two_cuts, all_append, all_weaken, units_all, in_table, passes_at}
use Rattle.c_grammar.proofs.Firsts.{Begins, begins, starts_or_empty, can_begin, other_cases}
use Rattle.c_grammar.proofs.Words.{is_wordlike, identifier_wordlike, high_wordlike, digit_wordlike}
use Rattle.c_grammar.proofs.Wide.{AreHigh, is_high, wide_high}
use Rattle.c_grammar.proofs.Goes.{exponent_wordlike}
use Rattle.c_grammar.proofs.Classes.{not_of}
use Rattle.c_grammar.proofs.Sorts.{apart_at}
use Rattle.c_grammar.proofs.Closed.{char_closed, string_closed, block_stays}
use Rattle.c_grammar.proofs.Before.{IsMost, not_line, word_line, closed_line, stray_line, comment_line, line_not, unit_cases, slash_item, open_two}
use Rattle.c_grammar.proofs.Items.{rest_is}

-- What has a new-line

line_and_none : (s : List ℕ) → list_any is_new_line s ≡ true → list_all not_line s ≡ true → ⊥
line_and_none [] n h = cc
line_and_none (c ∷ s) n h =
    let parts = and_parts (not_line c) (list_all not_line s) h in
    elim (or_cases (is_new_line c) (list_any is_new_line s) n) [ inl e ↦ line_not c e parts.0 | inr e ↦ line_and_none s e parts.1 ]

sign_line : (c : ℕ) → is_sign c ≡ true → not_line c ≡ true
unfolding not_line is_new_line is_sign
sign_line c h = let n : (c == 10) ≡ false = not_of (λ z. z == 10) (codes "+-") refl c h in rw n refl

one_lines : (p : ℕ → Bool) → ((c : ℕ) → p c ≡ true → not_line c ≡ true) → (u : List ℕ) → is_one p u ≡ true → list_all not_line u ≡ true
one_lines p f [] h = cc
one_lines p f (c ∷ []) h = and_from (not_line c) true (f c h) refl
one_lines p f (c ∷ e ∷ u) h = cc

two_lines : (p q : ℕ → Bool) → ((c : ℕ) → p c ≡ true → not_line c ≡ true) → ((c : ℕ) → q c ≡ true → not_line c ≡ true) → (u : List ℕ) → is_two p q u ≡ true → list_all not_line u ≡ true
two_lines p q f g [] h = cc
two_lines p q f g (c ∷ []) h = cc
two_lines p q f g (c ∷ e ∷ []) h = let parts = and_parts (p c) (q e) h in and_from (not_line c) (not_line e && true) (f c parts.0) (and_from (not_line e) true (g e parts.1) refl)
two_lines p q f g (c ∷ e ∷ a ∷ u) h = cc

at_line : (n : ℕ) → not_line n ≡ true → (c : ℕ) → (c == n) ≡ true → not_line c ≡ true
at_line n h c e = let is : c ≡ n = eqb-true c n e in subst (λ z. not_line z ≡ true) (sym is) h

point_line : not_line 46 ≡ true
unfolding not_line is_new_line
point_line = refl

quote_line : not_line 39 ≡ true
unfolding not_line is_new_line
quote_line = refl

digit_line : (c : ℕ) → is_digit c ≡ true → not_line c ≡ true
digit_line c h = word_line c (digit_wordlike c h)

exponent_line : (c : ℕ) → is_exponent c ≡ true → not_line c ≡ true
exponent_line c h = word_line c (exponent_wordlike c h)

number_unit_lines : (d : Dialect) (u : List ℕ) → is_number_unit d u ≡ true → list_all not_line u ≡ true
number_unit_lines d u h = elim (unit_cases d u h) [
  | inl w ↦ all_weaken is_wordlike not_line word_line u w
  | inr o ↦ elim o [
    | inl p ↦ one_lines (λ c. c == 46) (at_line 46 point_line) u p
    | inr o2 ↦ elim o2 [
      | inl e ↦ two_lines is_exponent is_sign exponent_line sign_line u e
      | inr s ↦ two_lines (λ c. c == 39) is_wordlike (at_line 39 quote_line) word_line u s
    ]
  ]
]

number_head_lines : (u : List ℕ) → is_number_head u ≡ true → list_all not_line u ≡ true
unfolding is_number_head
number_head_lines u h = elim (or_cases (is_one is_digit u) (is_two (λ c. c == 46) is_digit u) h) [
  | inl e ↦ one_lines is_digit digit_line u e
  | inr e ↦ two_lines (λ c. c == 46) is_digit (at_line 46 point_line) digit_line u e
]

number_lines : (d : Dialect) (s : List ℕ) → IsHeaded is_number_head (is_number_unit d) s → list_all not_line s ≡ true
number_lines d s h =
    let all : list_all not_line (h.head ++ h.tail) ≡ true = rw all_append (and_from _ _ (number_head_lines h.head h.begins) (units_all (is_number_unit d) not_line (number_unit_lines d) h.tail h.goes_on)) in
    subst (λ z. list_all not_line z ≡ true) (sym h.whole) all

punct_lines : (d : Dialect) (s : List ℕ) → is_punctuator d s ≡ true → list_all not_line s ≡ true
unfolding is_punctuator punctuators not_line is_new_line
punct_lines C11 s h = in_table (list_all not_line) (punctuators C11) refl s h
punct_lines C23 s h = in_table (list_all not_line) (punctuators C23) refl s h

other_line : (d : Dialect) (c : ℕ) → is_other d c ≡ true → not_line c ≡ true
unfolding not_line is_other is_white is_new_line
other_line d c h = let n = apart_at (is_other d) c 10 h refl in rw n refl

other_lines : (d : Dialect) (s : List ℕ) → is_other_unit d s ≡ true → list_all not_line s ≡ true
other_lines d s h = elim (other_cases d s h) [
  | inl e ↦ one_lines (is_other d) (other_line d) s e
  | inr e ↦ all_weaken is_wordlike not_line word_line s (let w : AreHigh s = wide_high _ s e in all_weaken is_high is_wordlike high_wordlike s w.high)
]

-- what has a new-line begins a block comment
pub holds_line : (d : Dialect) (k : Shape) (s : List ℕ) → Spells d k s → list_any is_new_line s ≡ true → (t : List ℕ) × (s ≡ 47 ∷ 42 ∷ t)
unfolding char_closed string_closed
holds_line d (Whole Identifier) s h n = absurd (line_and_none s n (all_weaken is_wordlike not_line word_line s (identifier_wordlike s h)))
holds_line d (Whole Number) s h n = absurd (line_and_none s n (number_lines d s h))
holds_line d (Whole CharConst) s h n = absurd (line_and_none s n (closed_line s (char_closed d s h)))
holds_line d (Whole StringLit) s h n = absurd (line_and_none s n (closed_line s (string_closed d s h)))
holds_line d (Whole Punct) s h n = absurd (line_and_none s n (punct_lines d s h))
holds_line d (Whole HeaderName) s h n = absurd h
holds_line d (Whole StrayQuote) s h n = absurd (line_and_none s n (stray_line d s h))
holds_line d (Whole Other) s h n = absurd (line_and_none s n (other_lines d s h))
holds_line d (Whole BlockComment) s h n = (h.body ++ 42 ∷ 47 ∷ [], h.whole)
holds_line d (Whole LineComment) s h n = absurd (line_and_none s n (comment_line s h))
holds_line d Unended s h n = (h.body, h.whole)

any_middle : (a : List ℕ) (e : ℕ) (b : List ℕ) → is_new_line e ≡ true → list_any is_new_line (a ++ e ∷ b) ≡ true
any_middle [] e b h = rw h refl
any_middle (c ∷ a) e b h = or_right (is_new_line c) (list_any is_new_line (a ++ e ∷ b)) (any_middle a e b h)

no_star : (e : ℕ) → is_new_line e ≡ true → e ≡ 42 → ⊥
unfolding is_new_line
no_star e n i = both_ways (42 == 10) refl (subst (λ z. (z == 10) ≡ true) i n)

-- nothing goes on from an item over a new-line
pub line_crosses : (d : Dialect) (j : ItemKind) (k : Shape) (f : ℕ) (p A : List ℕ) (e : ℕ) (more : List ℕ) → Spells d (Whole j) (f ∷ p) → IsMost d (f ∷ p) A → is_new_line e ≡ true → Spells d k ((f ∷ p) ++ (A ++ e ∷ more)) → ⊥
line_crosses d j k f p A e more item most n h =
    let line : list_any is_new_line ((f ∷ p) ++ (A ++ e ∷ more)) ≡ true = subst (λ z. list_any is_new_line z ≡ true) (append_assoc (f ∷ p) A (e ∷ more)) (any_middle ((f ∷ p) ++ A) e more n) in
    let block = holds_line d k ((f ∷ p) ++ (A ++ e ∷ more)) h line in
    by_front f p A item most h block.0 block.1
  where
    closed : (f g : ℕ) (p : List ℕ) (c : ℕ) (m t : List ℕ) → Spells d (Whole j) (f ∷ g ∷ p) → Spells d k ((f ∷ g ∷ p) ++ c ∷ m) → (f ∷ g ∷ p) ++ c ∷ m ≡ 47 ∷ 42 ∷ t → ⊥
    closed f g p c m t item h w =
        let f_is : f ≡ 47 = cc in
        let g_is : g ≡ 42 = cc in
        let kind : j ≡ BlockComment = (slash_item d j g p (subst (λ z. Spells d (Whole j) (z ∷ g ∷ p)) f_is item)).1 g_is in
        block_stays d k (f ∷ g ∷ p) c m (subst (λ z. Spells d (Whole z) (f ∷ g ∷ p)) kind item) h

    by_front : (f : ℕ) (p A : List ℕ) → Spells d (Whole j) (f ∷ p) → IsMost d (f ∷ p) A → Spells d k ((f ∷ p) ++ (A ++ e ∷ more)) → (t : List ℕ) → (f ∷ p) ++ (A ++ e ∷ more) ≡ 47 ∷ 42 ∷ t → ⊥
    by_front f [] [] item most h t w = let e_is : e ≡ 42 = cc in no_star e n e_is
    by_front f [] (x ∷ A) item most h t w =
        let f_is : f ≡ 47 = cc in
        let x_is : x ≡ 42 = cc in
        let two : 47 ∷ 42 ∷ [] ≡ f ∷ x ∷ [] = cc in
        most Unended x [] A refl (subst (λ z. Spells d Unended z) two open_two)
    by_front f (g ∷ p) [] item most h t w = closed f g p e more t item h w
    by_front f (g ∷ p) (x ∷ A) item most h t w = closed f g p x (A ++ e ∷ more) t item h w

-- Header names

header_lines : (n : List ℕ) → IsHeaderName n → list_all not_line n ≡ true
unfolding not_line is_new_line
header_lines n h =
    let body : list_all not_line h.body ≡ true = all_weaken (λ c. not (c == h.last) && not (is_new_line c)) not_line (λ c k. (and_parts (not (c == h.last)) (not (is_new_line c)) k).1) h.body h.inside in
    elim h.ends [ inl i ↦ framed 60 62 refl refl i.0 i.1 body | inr i ↦ framed 34 34 refl refl i.0 i.1 body ]
  where
    framed : (a b : ℕ) → not_line a ≡ true → not_line b ≡ true → h.first ≡ a → h.last ≡ b → list_all not_line h.body ≡ true → list_all not_line n ≡ true
    framed a b p q i l body =
        let first : not_line h.first ≡ true = subst (λ z. not_line z ≡ true) (sym i) p in
        let last : list_all not_line (h.last ∷ []) ≡ true = and_from (not_line h.last) true (subst (λ z. not_line z ≡ true) (sym l) q) refl in
        let tail : list_all not_line (h.body ++ h.last ∷ []) ≡ true = rw all_append (and_from _ _ body last) in
        subst (λ z. list_all not_line z ≡ true) (sym h.whole) (and_from (not_line h.first) (list_all not_line (h.body ++ h.last ∷ [])) first tail)

-- a header name ends before the next new-line
pub header_line : (u n o : List ℕ) → starts_or_empty is_new_line n ≡ true → BeginsHeader (u ++ n) → BeginsHeader (u ++ o)
header_line u n o s h = elim (two_cuts h.name h.left u n (sym h.whole)) [
  | inl c ↦ record { name = h.name; left = o; is_name = h.is_name; whole = ap (λ z. z ++ o) (sym c.front_is) }
  | inr on ↦ elim on [
    | inl c ↦ record { name = h.name; left = (c.c ∷ c.more) ++ o; is_name = h.is_name; whole = ap (λ z. z ++ o) c.front_is ∙ append_assoc h.name (c.c ∷ c.more) o }
    | inr c ↦ absurd (line_not c.c (subst (λ z. starts_or_empty is_new_line z ≡ true) c.rest_is s) (passes_at not_line u c.c c.more (subst (λ z. list_all not_line z ≡ true) c.front_is (header_lines h.name h.is_name))))
  ]
]

-- and one that has no new-line ends within what has one
pub header_within : (u n o : List ℕ) → list_any is_new_line u ≡ true → BeginsHeader (u ++ n) → BeginsHeader (u ++ o)
header_within u n o s h = elim (two_cuts h.name h.left u n (sym h.whole)) [
  | inl c ↦ record { name = h.name; left = o; is_name = h.is_name; whole = ap (λ z. z ++ o) (sym c.front_is) }
  | inr on ↦ elim on [
    | inl c ↦ record { name = h.name; left = (c.c ∷ c.more) ++ o; is_name = h.is_name; whole = ap (λ z. z ++ o) c.front_is ∙ append_assoc h.name (c.c ∷ c.more) o }
    | inr c ↦ absurd (line_and_none u s (front u (c.c ∷ c.more) (subst (λ z. list_all not_line z ≡ true) c.front_is (header_lines h.name h.is_name))))
  ]
]
  where
    front : (a b : List ℕ) → list_all not_line (a ++ b) ≡ true → list_all not_line a ≡ true
    front a b k = let both : (list_all not_line a && list_all not_line b) ≡ true = rw all_append at k in (and_parts (list_all not_line a) (list_all not_line b) both).0

-- The rest of a line

-- The same characters up to a new-line, or up to the end of the new text.
pub record IsSameLine (old new : List ℕ) : Type 0 where
  pub front : List ℕ
  pub old_rest : List ℕ
  pub new_rest : List ℕ
  pub old_is : old ≡ front ++ old_rest
  pub new_is : new ≡ front ++ new_rest
  pub stops : starts_or_empty is_new_line new_rest ≡ true

pub next_line : (d : Dialect) (place : Place) (kind : ItemKind) (s U old new : List ℕ) → IsNext d place kind s (U ++ old) → IsSameLine old new → IsNext d place kind s (U ++ new)
next_line d place kind s U old new (inl h) l = inl h
next_line d place kind s U old new (inr h) l = inr (no_header, longest)
  where
    V : List ℕ
    V = U ++ l.front

    old_is : U ++ old ≡ V ++ l.old_rest
    old_is = ap (λ z. U ++ z) l.old_is ∙ sym (append_assoc U l.front l.old_rest)

    new_is : U ++ new ≡ V ++ l.new_rest
    new_is = ap (λ z. U ++ z) l.new_is ∙ sym (append_assoc U l.front l.new_rest)

    no_header : place ≡ AfterInclude → BeginsHeader (s ++ (U ++ new)) → ⊥
    no_header p k =
        let there : BeginsHeader ((s ++ V) ++ l.new_rest) = subst (λ z. BeginsHeader z) (ap (λ z. s ++ z) new_is ∙ sym (append_assoc s V l.new_rest)) k in
        let back : (s ++ V) ++ l.old_rest ≡ s ++ (U ++ old) = append_assoc s V l.old_rest ∙ ap (λ z. s ++ z) (sym old_is) in
        h.0 p (subst (λ z. BeginsHeader z) back (header_line (s ++ V) l.new_rest l.old_rest l.stops there))

    start : Begins (can_begin d (Whole kind)) s
    start = begins d (Whole kind) s h.1.spells

    most : IsMost d s V
    most k c more left e q = h.1.longest k c more (left ++ l.old_rest) (old_is ∙ (ap (λ z. z ++ l.old_rest) e ∙ append_assoc (c ∷ more) left l.old_rest)) q

    crossing : (k : Shape) (e : ℕ) (more left : List ℕ) → l.new_rest ≡ (e ∷ more) ++ left → Spells d k (s ++ (V ++ e ∷ more)) → ⊥
    crossing k e more left b q =
        line_crosses d kind k start.c start.rest V e more (subst (λ z. Spells d (Whole kind) z) start.whole h.1.spells) (subst (λ z. IsMost d z V) start.whole most)
        (subst (λ z. starts_or_empty is_new_line z ≡ true) b l.stops) (subst (λ z. Spells d k (z ++ (V ++ e ∷ more))) start.whole q)

    longest : IsLongest d (Whole kind) s (U ++ new)
    longest = record {
      spells = h.1.spells;
      longest = λ k c more left w q. elim (two_cuts V l.new_rest (c ∷ more) left (sym new_is ∙ w)) [
        | inl same ↦ most k c more [] (same.front_is ∙ sym (append-nil (c ∷ more))) q
        | inr on ↦ elim on [
          | inl o ↦ crossing k o.c o.more left o.rest_is (subst (λ z. Spells d k (s ++ z)) o.front_is q)
          | inr o ↦ most k c more (o.c ∷ o.more) o.front_is q
        ]
      ];
    }

-- The items up to l stay where the rest of its line does.
pub line_rest : (d : Dialect) (place : Place) (xs : List Piece) (l : Piece) (ns ms : List Piece) (last end : List ℕ) → Reads d place (xs ++ l ∷ ns) last → IsSameLine (written ns last) (written ms end) →
    ((behind : Place) → Reads d behind ns last → Reads d behind ms end) → Reads d place (xs ++ l ∷ ms) end
line_rest d place [] l ns ms last end h like rest =
    let here = past_gap place l.gap in
    (h.0, next_line d here l.kind l.spelling [] (written ns last) (written ms end) h.1 like, rest (past_item d here l.kind l.spelling) h.2)
line_rest d place (x ∷ xs) l ns ms last end h like rest =
    let here = past_gap place x.gap in
    let A : List ℕ = written (xs ++ l ∷ []) [] in
    let old : IsNext d here x.kind x.spelling (A ++ written ns last) = subst (λ z. IsNext d here x.kind x.spelling z) (rest_is xs l ns last) h.1 in
    let new : IsNext d here x.kind x.spelling (A ++ written ms end) = next_line d here x.kind x.spelling A (written ns last) (written ms end) old like in
    (h.0, subst (λ z. IsNext d here x.kind x.spelling z) (sym (rest_is xs l ms end)) new, line_rest d (past_item d here x.kind x.spelling) xs l ns ms last end h.2 like rest)
