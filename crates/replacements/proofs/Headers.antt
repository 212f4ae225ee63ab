-- Header names, where white space comes between two items of a line.
use Rattle.std.proofs.Common.{◌≡◌, ◌==◌, ◌||◌, ◌&&◌, not, ℕ, Bool, true, false, List, [], ◌∷◌, ◌++◌, refl, sym, ◌∙◌, ap, subst, inl, inr, ◌⊎◌, append_assoc}
use Rattle.std.specs.List.{list_all}
use Rattle.std.proofs.lemmas.Bool.{and_parts, and_from}
use Rattle.std.proofs.lemmas.List.{same_from_push}
use Rattle.c_chars.specs.declared.Dialect.{Dialect}
use Rattle.item_kinds.specs.declared.ItemKind.{ItemKind}
use Rattle.item_kinds.specs.declared.ItemKind.TheVariants.{Identifier, Number, CharConst, StringLit, Punct, HeaderName, StrayQuote, Other, BlockComment, LineComment}
use Rattle.c_grammar.specs.Grammar.{is_new_line, is_letter, is_digit, IsHeaderName, Shape, Whole, Unended, Spells}
use Rattle.c_grammar.specs.Items.{BeginsHeader, is_gap}
use Rattle.c_grammar.specs.Touch.{is_punct, is_literal, takes_line}
use Rattle.c_grammar.proofs.Before.{quote_kind}
use Rattle.c_grammar.proofs.Closed.{IsClosed, char_closed, string_closed, last_there}
use Rattle.c_grammar.proofs.Firsts.{is_quote, is_letter_start, is_mark}
use Rattle.c_grammar.proofs.Items.{joined_so}
use Rattle.c_grammar.proofs.Lists.{two_cuts, all_append}
use Rattle.c_grammar.proofs.Sorts.{sort_is}
use Rattle.c_grammar.proofs.OtherGap.{gap_front, no_end_in_gap}

-- Quotes or angle brackets with nothing between them: they are no header name, and with white space between them they are one.
pub record IsShut (f : ℕ) (S B : List ℕ) : Type 0 where
  pub alone : S ≡ []
  pub last : ℕ
  pub rest : List ℕ
  pub begins : B ≡ last ∷ rest
  pub ends : ((f ≡ 60) × (last ≡ 62)) ⊎ ((f ≡ 34) × (last ≡ 34))

-- A header name with a gap in it is one without the gap, but where that leaves nothing in it.
pub header_without : (f : ℕ) (S B g : List ℕ) → is_gap g ≡ true → BeginsHeader ((f ∷ S) ++ (g ++ B)) → BeginsHeader ((f ∷ S) ++ B) ⊎ IsShut f S B
header_without f S B g w h = elim (two_cuts h.name h.left (f ∷ S) (g ++ B) (sym h.whole)) [
  | inl c ↦ inl (record { name = h.name; left = B; is_name = h.is_name; whole = ap (λ z. z ++ B) (sym c.front_is) })
  | inr on ↦ elim on [
    | inl c ↦ inl (record { name = h.name; left = (c.c ∷ c.more) ++ B; is_name = h.is_name; whole = ap (λ z. z ++ B) c.front_is ∙ append_assoc h.name (c.c ∷ c.more) B })
    | inr c ↦ elim (two_cuts g B (c.c ∷ c.more) h.left c.rest_is) [
      | inl s ↦ absurd (no_end_in_gap h.name h.is_name f S c.c c.more c.front_is (subst (λ z. is_gap z ≡ true) s.front_is w))
      | inr on2 ↦ elim on2 [
        | inl k ↦ over k.c k.more (c.front_is ∙ ap (λ z. (f ∷ S) ++ z) k.front_is) k.rest_is
        | inr k ↦ absurd (no_end_in_gap h.name h.is_name f S c.c c.more c.front_is (gap_front (c.c ∷ c.more) (k.c ∷ k.more) (subst (λ z. is_gap z ≡ true) k.front_is w)))
      ]
    ]
  ]
]
  where
    n : IsHeaderName h.name
    n = h.is_name

    over : (e : ℕ) (m : List ℕ) → h.name ≡ (f ∷ S) ++ (g ++ e ∷ m) → B ≡ (e ∷ m) ++ h.left → BeginsHeader ((f ∷ S) ++ B) ⊎ IsShut f S B
    over e m is b =
        let r = last_there e m in
        let all : f ∷ (S ++ (g ++ e ∷ m)) ≡ n.first ∷ (n.body ++ n.last ∷ []) = sym is ∙ n.whole in
        let f_is : f ≡ n.first = cc in
        let tails : S ++ (g ++ e ∷ m) ≡ n.body ++ n.last ∷ [] = cc in
        let pushed : (S ++ (g ++ r.0)) ++ r.1 ∷ [] ≡ n.body ++ n.last ∷ [] = append_assoc S (g ++ r.0) (r.1 ∷ []) ∙ (ap (λ z. S ++ z) (append_assoc g r.0 (r.1 ∷ [])) ∙ (ap (λ z. S ++ (g ++ z)) (sym r.2) ∙ tails)) in
        let same = same_from_push (S ++ (g ++ r.0)) n.body r.1 n.last pushed in
        let body : n.body ≡ S ++ (g ++ r.0) = sym same.0 in
        let b_is : B ≡ (r.0 ++ n.last ∷ []) ++ h.left = b ∙ (ap (λ z. z ++ h.left) r.2 ∙ ap (λ z. (r.0 ++ z ∷ []) ++ h.left) same.1) in
        by S r.0 refl f_is body b_is
      where
        inside : (S t : List ℕ) → list_all (λ c. not (c == n.last) && not (is_new_line c)) (S ++ (g ++ t)) ≡ true → list_all (λ c. not (c == n.last) && not (is_new_line c)) (S ++ t) ≡ true
        inside S t a =
            let one : (list_all (λ c. not (c == n.last) && not (is_new_line c)) S && list_all (λ c. not (c == n.last) && not (is_new_line c)) (g ++ t)) ≡ true = rw all_append at a in
            let half = and_parts (list_all (λ c. not (c == n.last) && not (is_new_line c)) S) (list_all (λ c. not (c == n.last) && not (is_new_line c)) (g ++ t)) one in
            let two : (list_all (λ c. not (c == n.last) && not (is_new_line c)) g && list_all (λ c. not (c == n.last) && not (is_new_line c)) t) ≡ true = rw all_append at half.1 in
            let end_ = (and_parts (list_all (λ c. not (c == n.last) && not (is_new_line c)) g) (list_all (λ c. not (c == n.last) && not (is_new_line c)) t) two).1 in
            rw all_append (and_from _ _ half.0 end_)

        name : (U t : List ℕ) → n.body ≡ U ++ (g ++ t) → (U ++ t ≡ [] → ⊥) → IsHeaderName (n.first ∷ ((U ++ t) ++ n.last ∷ []))
        name U t body some = record {
          first = n.first;
          last = n.last;
          body = U ++ t;
          ends = n.ends;
          inside = inside U t (subst (λ z. list_all (λ c. not (c == n.last) && not (is_new_line c)) z ≡ true) body n.inside);
          not_empty = some;
          whole = refl;
        }

        made : (U t : List ℕ) → S ≡ U → f ≡ n.first → n.body ≡ U ++ (g ++ t) → B ≡ (t ++ n.last ∷ []) ++ h.left → (U ++ t ≡ [] → ⊥) → BeginsHeader ((f ∷ S) ++ B)
        made U t s_is f_is body b_is some = record {
          name = n.first ∷ ((U ++ t) ++ n.last ∷ []);
          left = h.left;
          is_name = name U t body some;
          whole = ap (λ z. (f ∷ z) ++ B) s_is ∙ joined_so U [] t n.last h.left f n.first B f_is b_is;
        }

        some : (c : ℕ) (U t : List ℕ) → (c ∷ U) ++ t ≡ [] → ⊥
        some c U t e = cc

        shut_ends : f ≡ n.first → ((f ≡ 60) × (n.last ≡ 62)) ⊎ ((f ≡ 34) × (n.last ≡ 34))
        shut_ends f_is = elim n.ends [ inl a ↦ inl (f_is ∙ a.0, a.1) | inr a ↦ inr (f_is ∙ a.0, a.1) ]

        by : (U t : List ℕ) → S ≡ U → f ≡ n.first → n.body ≡ U ++ (g ++ t) → B ≡ (t ++ n.last ∷ []) ++ h.left → BeginsHeader ((f ∷ S) ++ B) ⊎ IsShut f S B
        by (c ∷ U) t s_is f_is body b_is = inl (made (c ∷ U) t s_is f_is body b_is (some c U t))
        by [] (c ∷ t) s_is f_is body b_is = inl (made [] (c ∷ t) s_is f_is body b_is (some c [] t))
        by [] [] s_is f_is body b_is = inr (record { alone = s_is; last = n.last; rest = h.left; begins = b_is; ends = shut_ends f_is })

quotation : is_quote 34 ≡ true
unfolding is_quote
quotation = refl

-- A quote that takes no line isn't alone.
pub no_lone_quote : (d : Dialect) (kind : ItemKind) → takes_line kind ≡ false → Spells d (Whole kind) (34 ∷ []) → ⊥
no_lone_quote d kind t s = by kind t s (quote_kind d kind (34 ∷ []) 34 [] refl quotation s)
  where
    too_long : (before body : List ℕ) (q : ℕ) → 34 ∷ [] ≡ before ++ q ∷ (body ++ q ∷ []) → ⊥
    too_long [] [] q e = cc
    too_long [] (c ∷ body) q e = cc
    too_long (c ∷ []) body q e = cc
    too_long (c ∷ a ∷ before) body q e = cc

    not_closed : IsClosed (34 ∷ []) → ⊥
    not_closed h = too_long h.before h.body h.quote h.whole

    by : (kind : ItemKind) → takes_line kind ≡ false → Spells d (Whole kind) (34 ∷ []) → (is_literal kind || takes_line kind) ≡ true → ⊥
    by CharConst t s k = not_closed (char_closed d (34 ∷ []) s)
    by StringLit t s k = not_closed (string_closed d (34 ∷ []) s)
    by Identifier t s k = cc
    by Number t s k = cc
    by Punct t s k = cc
    by HeaderName t s k = cc
    by StrayQuote t s k = cc
    by Other t s k = cc
    by BlockComment t s k = cc
    by LineComment t s k = cc

is_punct_shape : Shape → Bool
is_punct_shape (Whole k) = is_punct k
is_punct_shape Unended = false

-- What is spelled `<` is a punctuator.
pub angle_is_punct : (d : Dialect) (kind : ItemKind) → Spells d (Whole kind) (60 ∷ []) → is_punct kind ≡ true
unfolding is_punct_shape is_letter_start is_letter is_digit is_quote is_mark
angle_is_punct d kind s =
    let same : Whole Punct ≡ Whole kind = sort_is d (Whole kind) (60 ∷ []) s in
    subst (λ z. is_punct_shape z ≡ true) same refl
