-- What takes the rest of its line stands before a new-line or the end.
use Rattle.std.proofs.Common.{◌≡◌, ◌==◌, ◌||◌, ◌&&◌, not, ℕ, Bool, true, false, List, [], ◌∷◌, ◌++◌, refl, sym, ◌∙◌, ap, subst, inl, inr, append_assoc}
use Rattle.std.specs.Prelude.{codes}
use Rattle.std.specs.List.{list_any, list_all}
use Rattle.std.proofs.lemmas.Bool.{and_parts, or_cases, and_from, eqb-true, cases_Bool, or_parts}
use Rattle.std.proofs.lemmas.List.{append-nil}
use Rattle.c_grammar.specs.Grammar.{is_same, is_of, joined, AreUnits, is_one, is_white, is_new_line, is_string_prefix, IsUnclosed, IsEmptyQuotes, IsLine, IsTrimmed, is_quoted_unit, is_char_prefix, Shape, Whole, Spells}
use Rattle.c_grammar.specs.Items.{IsLongest}
use Rattle.c_chars.specs.declared.Dialect.{Dialect}
use Rattle.c_chars.specs.declared.Dialect.TheVariants.{C11, C23}
use Rattle.item_kinds.specs.declared.ItemKind.TheVariants.{CharConst, StringLit, StrayQuote, LineComment}
use Rattle.c_grammar.proofs.Lists.{all_append, same_is}

is_more : ℕ → Bool
is_more c = not (is_new_line c)

-- one more unit
pub units_more : (p : List ℕ → Bool) (s u : List ℕ) → AreUnits p s → p u ≡ true → AreUnits p (s ++ u)
units_more p s u h k = let w = h.whole in rw w (go h.units h.each)
  where
    go : (us : List (List ℕ)) → list_all p us ≡ true → AreUnits p (joined us ++ u)
    go [] e = record { units = u ∷ []; each = and_from (p u) true k refl; whole = sym (append-nil u) }
    go (v ∷ us) e =
        let parts = and_parts (p v) (list_all p us) e in
        let r = go us parts.1 in
        record { units = v ∷ r.units; each = and_from (p v) (list_all p r.units) parts.0 r.each; whole = append_assoc v (joined us) u ∙ ap (λ x. v ++ x) r.whole }

-- an unclosed quote goes on with any character but a new-line
abbrev StrayMore : Dialect → List ℕ → Type 0
StrayMore d s = (k : Shape) × Spells d k s

plain_unit : (q c : ℕ) → (c == q) ≡ false → (c == 92) ≡ false → is_new_line c ≡ false → is_quoted_unit q (c ∷ []) ≡ true
unfolding is_quoted_unit
plain_unit q c a b n = rw (a, b, n) refl

escape_unit : (q c : ℕ) → is_new_line c ≡ false → is_quoted_unit q (92 ∷ c ∷ []) ≡ true
unfolding is_quoted_unit
escape_unit q c n = rw n refl

empty_char_prefix : (d : Dialect) → is_char_prefix d [] ≡ true
unfolding is_char_prefix
empty_char_prefix C11 = refl
empty_char_prefix C23 = refl

empty_string_prefix : is_string_prefix [] ≡ true
unfolding is_string_prefix
empty_string_prefix = refl

-- a closing quote comes
closing_more : (d : Dialect) (q : ℕ) (body : List ℕ) → is_of (codes "'\"") q ≡ true → AreUnits (is_quoted_unit q) body → StrayMore d (q ∷ (body ++ q ∷ []))
closing_more d q [] k h = elim (or_cases (39 == q) ((34 == q) || false) k) [
  | inl e ↦ let is : 39 ≡ q = eqb-true 39 q e in subst (λ z. StrayMore d (z ∷ z ∷ [])) is (Whole StrayQuote, inr (record { body = []; in_line = refl; whole = refl }))
  | inr e ↦ elim (or_cases (34 == q) false e) [
    | inl f ↦ let is : 34 ≡ q = eqb-true 34 q f in
        let inside : AreUnits (is_quoted_unit 34) [] = record { units = []; each = refl; whole = refl } in
        subst (λ z. StrayMore d (z ∷ z ∷ [])) is (Whole StringLit, record { before = []; body = []; begins = empty_string_prefix; not_empty = refl; inside = inside; whole = refl })
    | inr f ↦ cc
  ]
]
closing_more d q (b ∷ body) k h = elim (or_cases (39 == q) ((34 == q) || false) k) [
  | inl e ↦ let is : 39 ≡ q = eqb-true 39 q e in
      let inside : AreUnits (is_quoted_unit 39) (b ∷ body) = subst (λ z. AreUnits (is_quoted_unit z) (b ∷ body)) (sym is) h in
      subst (λ z. StrayMore d (z ∷ ((b ∷ body) ++ z ∷ []))) is (Whole CharConst, record { before = []; body = b ∷ body; begins = empty_char_prefix d; not_empty = refl; inside = inside; whole = refl })
  | inr e ↦ elim (or_cases (34 == q) false e) [
    | inl f ↦ let is : 34 ≡ q = eqb-true 34 q f in
        let inside : AreUnits (is_quoted_unit 34) (b ∷ body) = subst (λ z. AreUnits (is_quoted_unit z) (b ∷ body)) (sym is) h in
        subst (λ z. StrayMore d (z ∷ ((b ∷ body) ++ z ∷ []))) is (Whole StringLit, record { before = []; body = b ∷ body; begins = empty_string_prefix; not_empty = refl; inside = inside; whole = refl })
    | inr f ↦ cc
  ]
]

unclosed_more : (d : Dialect) (s : List ℕ) (c : ℕ) → IsUnclosed s → is_new_line c ≡ false → StrayMore d (s ++ c ∷ [])
unclosed_more d s c h n = elim (or_cases (is_same h.last []) (is_same h.last (92 ∷ [])) h.ends) [
  | inl e ↦
      let none : h.last ≡ [] = same_is h.last [] e in
      let whole : s ++ c ∷ [] ≡ h.quote ∷ (h.body ++ c ∷ []) = ap (λ x. x ++ c ∷ []) h.whole ∙ (ap (λ x. h.quote ∷ ((h.body ++ x) ++ c ∷ [])) none ∙ ap (λ x. h.quote ∷ (x ++ c ∷ [])) (append-nil h.body)) in
      subst (λ x. StrayMore d x) (sym whole) (without h.quote h.body h.is_quote h.inside)
  | inr e ↦
      let one : h.last ≡ 92 ∷ [] = same_is h.last (92 ∷ []) e in
      let whole : s ++ c ∷ [] ≡ h.quote ∷ ((h.body ++ 92 ∷ c ∷ []) ++ []) = ap (λ x. x ++ c ∷ []) h.whole ∙ (ap (λ x. h.quote ∷ ((h.body ++ x) ++ c ∷ [])) one ∙ (ap (λ x. h.quote ∷ x) (append_assoc h.body (92 ∷ []) (c ∷ [])) ∙ ap (λ x. h.quote ∷ x) (sym (append-nil (h.body ++ 92 ∷ c ∷ []))))) in (
        Whole StrayQuote,
        inl (record {
          quote = h.quote;
          body = h.body ++ 92 ∷ c ∷ [];
          last = [];
          is_quote = h.is_quote;
          inside = units_more (is_quoted_unit h.quote) h.body (92 ∷ c ∷ []) h.inside (escape_unit h.quote c n);
          ends = refl;
          whole = whole;
        }),
      )
]
  where
    without : (q : ℕ) (body : List ℕ) → is_of (codes "'\"") q ≡ true → AreUnits (is_quoted_unit q) body → StrayMore d (q ∷ (body ++ c ∷ []))
    without q body k u = elim (cases_Bool (c == q)) [
      | inl y ↦ let is : c ≡ q = eqb-true c q y in subst (λ z. StrayMore d (q ∷ (body ++ z ∷ []))) (sym is) (closing_more d q body k u)
      | inr a ↦ elim (cases_Bool (c == 92)) [
        | inl y ↦ let is : c ≡ 92 = eqb-true c 92 y in
            subst (λ z. StrayMore d (q ∷ (body ++ z ∷ []))) (sym is) (Whole StrayQuote, inl (record { quote = q; body = body; last = 92 ∷ []; is_quote = k; inside = u; ends = refl; whole = refl }))
        | inr b ↦ (
          Whole StrayQuote,
          inl (record {
            quote = q;
            body = body ++ c ∷ [];
            last = [];
            is_quote = k;
            inside = units_more (is_quoted_unit q) body (c ∷ []) u (plain_unit q c a b n);
            ends = refl;
            whole = ap (λ x. q ∷ x) (sym (append-nil (body ++ c ∷ [])));
          }),
        )
      ]
    ]

empty_more : (d : Dialect) (s : List ℕ) (c : ℕ) → IsEmptyQuotes s → is_new_line c ≡ false → StrayMore d (s ++ c ∷ [])
empty_more d s c h n = (
  Whole StrayQuote,
  inr (record {
    body = h.body ++ c ∷ [];
    in_line = rw all_append (and_from _ _ h.in_line (rw n refl));
    whole = ap (λ x. x ++ c ∷ []) h.whole;
  }),
)

stray_more : (d : Dialect) (s : List ℕ) (c : ℕ) → Spells d (Whole StrayQuote) s → is_new_line c ≡ false → StrayMore d (s ++ c ∷ [])
stray_more d s c (inl h) n = unclosed_more d s c h n
stray_more d s c (inr h) n = empty_more d s c h n

-- so a new-line comes behind it, if anything does
pub stray_stops : (d : Dialect) (s : List ℕ) (c : ℕ) (rest : List ℕ) → IsLongest d (Whole StrayQuote) s (c ∷ rest) → is_new_line c ≡ true
stray_stops d s c rest h = elim (cases_Bool (is_new_line c)) [
  | inl y ↦ y
  | inr n ↦ let m = stray_more d s c h.spells n in absurd (h.longest m.0 c [] rest refl m.1)
]

pub no_new_line : (s : List ℕ) → list_any is_new_line s ≡ false → list_all (λ c. not (is_new_line c)) s ≡ true
no_new_line [] h = refl
no_new_line (c ∷ s) h =
    let parts = or_parts (is_new_line c) (list_any is_new_line s) h in
    let e = parts.0 in
    rw e (no_new_line s parts.1)

-- a line comment goes on over blanks to what isn't blank
line_more : (s gap : List ℕ) (f : ℕ) → IsLine s → list_any is_new_line gap ≡ false → (is_white f || is_new_line f) ≡ false → IsLine (s ++ (gap ++ f ∷ []))
line_more s gap f h n b =
    let fs = or_parts (is_white f) (is_new_line f) b in
    let f_white = fs.0 in let f_line = fs.1 in
    let whole : s ++ (gap ++ f ∷ []) ≡ 47 ∷ 47 ∷ (h.body ++ (gap ++ f ∷ [])) = ap (λ x. x ++ (gap ++ f ∷ [])) h.whole in
    let end_ : list_all (λ c. not (is_new_line c)) (f ∷ []) ≡ true = rw f_line refl in
    let inside : list_all (λ c. not (is_new_line c)) (gap ++ f ∷ []) ≡ true = rw all_append (and_from _ _ (no_new_line gap n) end_) in
    let all : list_all (λ c. not (is_new_line c)) (h.body ++ (gap ++ f ∷ [])) ≡ true = rw all_append (and_from _ _ h.in_line inside) in
    let last_black : ((is_one (λ c. not (is_white c)) (f ∷ []) && is_same [] []) || is_same (f ∷ []) (92 ∷ [])) ≡ true = rw f_white refl in
    let trimmed : IsTrimmed (47 ∷ (h.body ++ (gap ++ f ∷ []))) = record {
      front = 47 ∷ (h.body ++ gap);
      white = [];
      each_white = refl;
      last = f ∷ [];
      ends = last_black;
      whole = ap (λ x. 47 ∷ x) (sym (append_assoc h.body gap (f ∷ [])));
    } in
    record { body = h.body ++ (gap ++ f ∷ []); in_line = all; trimmed = trimmed; whole = whole }

-- so a new-line comes before the next item
pub line_stops : (d : Dialect) (s gap : List ℕ) (f : ℕ) (rest : List ℕ) → list_any is_new_line gap ≡ false → (is_white f || is_new_line f) ≡ false → IsLongest d (Whole LineComment) s (gap ++ f ∷ rest) → ⊥
line_stops d s [] f rest n b h = h.longest (Whole LineComment) f [] rest refl (line_more s [] f h.spells n b)
line_stops d s (c ∷ gap) f rest n b h =
    h.longest (Whole LineComment) c (gap ++ f ∷ []) rest (ap (λ x. c ∷ x) (sym (append_assoc gap (f ∷ []) rest))) (line_more s (c ∷ gap) f h.spells n b)
