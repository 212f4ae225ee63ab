-- The line comment that the code cuts off is the longest.
use Rattle.std.proofs.Common.{◌≡◌, ◌==◌, ◌||◌, ◌&&◌, not, ℕ, suc, zero, ◌+◌, Bool, true, false, List, [], ◌∷◌, ◌++◌, take, drop, refl, sym, ◌∙◌, ap, subst, arith, inl, inr, ◌⊎◌}
use Rattle.std.specs.List.{list_all}
use Rattle.std.proofs.lemmas.Bool.{and_parts, or_cases, and_from, eqb-true, eq-eqb, cases_Bool, both_ways, or_right, not-true}
use Rattle.c_chars.specs.declared.Dialect.{Dialect}
use Rattle.c_grammar.specs.Grammar.{is_same, is_one, is_white, is_new_line, IsTrimmed, IsLine, Shape, Whole, Spells}
use Rattle.c_grammar.specs.Items.{IsLongest}
use Rattle.item_kinds.specs.declared.ItemKind.TheVariants.{LineComment}
use Rattle.c_grammar.proofs.Lists.{all_append, same_is}
use Rattle.c_grammar.proofs.Sorts.{sort_is, slash_sort}
use Rattle.c_lexer.specs.Run.{IsCut}
use Rattle.c_lexer.specs.Comment.{line_len, over_white}

abbrev not_line : ℕ → Bool
not_line c = not (is_new_line c)

backslash_not_white : is_white 92 ≡ false
unfolding is_white
backslash_not_white = refl

-- how a trimmed text ends
record IsEnd (last white : List ℕ) : Type 0 where
  z : ℕ
  one : last ≡ z ∷ []
  which : ((is_white z ≡ false) × (white ≡ [])) ⊎ (z ≡ 92)

ends_cases : (last white : List ℕ) → ((is_one (λ c. not (is_white c)) last && is_same white []) || is_same last (92 ∷ [])) ≡ true → IsEnd last white
ends_cases [] white h = cc
ends_cases (z ∷ []) white h = elim (or_cases (not (is_white z) && is_same white []) (is_same (z ∷ []) (92 ∷ [])) h) [
  | inl e ↦ let parts = and_parts (not (is_white z)) (is_same white []) e in record { z = z; one = refl; which = inl (not-true (is_white z) parts.0, same_is white [] parts.1) }
  | inr e ↦ record { z = z; one = refl; which = inr (eqb-true z 92 (and_parts (z == 92) true e).0) }
]
ends_cases (z ∷ y ∷ s) white h = let p = and_parts (z == 92) false h in absurd (both_ways false refl p.1)

abbrev Ends : List ℕ → List ℕ → Type 0
Ends last white = ((is_one (λ c. not (is_white c)) last && is_same white []) || is_same last (92 ∷ [])) ≡ true

backslash_ends : (white : List ℕ) → Ends (92 ∷ []) white
backslash_ends white = or_right (not (is_white 92) && is_same white []) (is_same (92 ∷ []) (92 ∷ [])) refl

single : (c : ℕ) → is_white c ≡ false → IsTrimmed (c ∷ [])
single c w = record { front = []; white = []; each_white = refl; last = c ∷ []; ends = at c w; whole = refl }
  where
    at : (c : ℕ) → is_white c ≡ false → Ends (c ∷ []) []
    at c w = rw w refl

-- a character before the whole
onto : (x : ℕ) (s : List ℕ) → IsTrimmed s → IsTrimmed (x ∷ s)
onto x s h = record { front = x ∷ h.front; white = h.white; each_white = h.each_white; last = h.last; ends = h.ends; whole = ap (λ z. x ∷ z) h.whole }

-- white space between the last character that isn't white and what is kept behind it
insert_at : (last c : ℕ) (r front lst white : List ℕ) → is_white c ≡ true → (r ≡ [] → (last == 92) ≡ true) → list_all is_white white ≡ true → Ends lst white → last ∷ r ≡ front ++ (lst ++ white) → IsTrimmed (last ∷ c ∷ r)
insert_at last c r (x ∷ front) lst white b k a e w =
    let head : last ≡ x = cc in let tail : r ≡ front ++ (lst ++ white) = cc in
    record { front = last ∷ c ∷ front; white = white; each_white = a; last = lst; ends = e; whole = ap (λ z. last ∷ c ∷ z) tail }
insert_at last c r [] lst white b k a e w =
    let i = ends_cases lst white e in
    let is : last ∷ r ≡ i.z ∷ white = w ∙ ap (λ l. l ++ white) i.one in
    let head : last ≡ i.z = cc in let tail : r ≡ white = cc in
    let backslash : last ≡ 92 = elim i.which [ inl (p, n) ↦ eqb-true last 92 (k (tail ∙ n)) | inr p ↦ head ∙ p ] in
    record { front = []; white = c ∷ r; each_white = and_from (is_white c) (list_all is_white r) b (subst (λ z. list_all is_white z ≡ true) (sym tail) a); last = 92 ∷ []; ends = backslash_ends (c ∷ r); whole = ap (λ z. z ∷ c ∷ r) backslash }

none_taken : (m : ℕ) (s : List ℕ) → (s ≡ [] → m ≡ 0) → (m == 0) ≡ false → take m s ≡ [] → ⊥
none_taken m [] f n h = let e : m ≡ 0 = f refl in both_ways (m == 0) n (eq-eqb m 0 e)
none_taken zero (c ∷ s) f n h = cc
none_taken (suc m) (c ∷ s) f n h = cc

empty_len : (last : ℕ) (s : List ℕ) → s ≡ [] → line_len last s ≡ 0
empty_len last [] e = refl
empty_len last (c ∷ s) e = cc

pub trimmed_line : (last : ℕ) (t : List ℕ) → is_white last ≡ false → IsTrimmed (last ∷ take (line_len last t) t)
trimmed_line last [] w = single last w
trimmed_line last (c ∷ s) w = elim (cases_Bool (is_new_line c)) [
  | inl y ↦ rw y (single last w)
  | inr n ↦ elim (cases_Bool (is_white c)) [
    | inl b ↦ elim (cases_Bool (line_len last s == 0 && not (last == 92))) [
      | inl z ↦ rw (n, b, z) (single last w)
      | inr z ↦
          let one : 1 + line_len last s ≡ suc (line_len last s) = omega arith in
          let h = trimmed_line last s w in
          rw (n, b, z, one) (insert_at last c (take (line_len last s) s) h.front h.last h.white b (kept last s z) h.each_white h.ends h.whole)
    ]
    | inr b ↦
        let one : 1 + line_len c s ≡ suc (line_len c s) = omega arith in
        rw (n, b, one) (onto last (c ∷ take (line_len c s) s) (trimmed_line c s b))
  ]
]
  where
    kept : (last : ℕ) (s : List ℕ) → (line_len last s == 0 && not (last == 92)) ≡ false → take (line_len last s) s ≡ [] → (last == 92) ≡ true
    kept last s z e = elim (cases_Bool (last == 92)) [
      | inl y ↦ y
      | inr n ↦
          let some : (line_len last s == 0) ≡ false = elim (cases_Bool (line_len last s == 0)) [
            | inl y ↦ absurd (both_ways (line_len last s == 0 && not (last == 92)) z (and_from (line_len last s == 0) (not (last == 92)) y (ap not n)))
            | inr y ↦ y
          ] in
          absurd (none_taken (line_len last s) s (empty_len last s) some e)
    ]

-- what is left of a trimmed text

tail_at : (x c : ℕ) (r front lst white : List ℕ) → is_white c ≡ false → list_all is_white white ≡ true → Ends lst white → x ∷ c ∷ r ≡ front ++ (lst ++ white) → IsTrimmed (c ∷ r)
tail_at x c r (y ∷ front) lst white b a e w = let tail : c ∷ r ≡ front ++ (lst ++ white) = cc in record { front = front; white = white; each_white = a; last = lst; ends = e; whole = tail }
tail_at x c r [] lst white b a e w =
    let i = ends_cases lst white e in
    let is : x ∷ c ∷ r ≡ i.z ∷ white = w ∙ ap (λ l. l ++ white) i.one in
    let tail : c ∷ r ≡ white = cc in
    let c_white : is_white c ≡ true = (and_parts (is_white c) (list_all is_white r) (subst (λ z. list_all is_white z ≡ true) (sym tail) a)).0 in
    absurd (both_ways (is_white c) b c_white)

remove_at : (last c : ℕ) (r front lst white : List ℕ) → is_white c ≡ true → list_all is_white white ≡ true → Ends lst white → last ∷ c ∷ r ≡ front ++ (lst ++ white) → IsTrimmed (last ∷ r)
remove_at last c r (x ∷ y ∷ front) lst white b a e w =
    let tail : r ≡ front ++ (lst ++ white) = cc in record { front = last ∷ front; white = white; each_white = a; last = lst; ends = e; whole = ap (λ z. last ∷ z) tail }
remove_at last c r (x ∷ []) lst white b a e w =
    let i = ends_cases lst white e in
    let is : last ∷ c ∷ r ≡ x ∷ i.z ∷ white = w ∙ ap (λ l. x ∷ (l ++ white)) i.one in
    let head : c ≡ i.z = cc in
    absurd (elim i.which [
      | inl (p, n) ↦ both_ways (is_white c) (subst (λ z. is_white z ≡ false) (sym head) p) b
      | inr p ↦ both_ways (is_white c) (subst (λ z. is_white z ≡ false) (sym (head ∙ p)) backslash_not_white) b
    ])
remove_at last c r [] lst white b a e w =
    let i = ends_cases lst white e in
    let is : last ∷ c ∷ r ≡ i.z ∷ white = w ∙ ap (λ l. l ++ white) i.one in
    let head : last ≡ i.z = cc in let tail : c ∷ r ≡ white = cc in
    let r_white : list_all is_white r ≡ true = (and_parts (is_white c) (list_all is_white r) (subst (λ z. list_all is_white z ≡ true) (sym tail) a)).1 in
    elim i.which [
      | inl (p, n) ↦ let no : c ∷ r ≡ [] = tail ∙ n in absurd (cons_some c r no)
      | inr p ↦ record { front = []; white = r; each_white = r_white; last = 92 ∷ []; ends = backslash_ends r; whole = ap (λ z. z ∷ r) (head ∙ p) }
    ]
  where
    cons_some : (c : ℕ) (r : List ℕ) → c ∷ r ≡ [] → ⊥
    cons_some c r e = cc

-- a trimmed text doesn't end in white space behind what is no backslash
white_end_at : (last e : ℕ) (more front lst white : List ℕ) → (last == 92) ≡ false → list_all is_white (e ∷ more) ≡ true → Ends lst white → last ∷ e ∷ more ≡ front ++ (lst ++ white) → ⊥
white_end_at last e more [] lst white k a h w =
    let i = ends_cases lst white h in
    let is : last ∷ e ∷ more ≡ i.z ∷ white = w ∙ ap (λ l. l ++ white) i.one in
    let head : last ≡ i.z = cc in let tail : e ∷ more ≡ white = cc in
    elim i.which [
      | inl (p, n) ↦ let some : e ∷ more ≡ [] = tail ∙ n in cc
      | inr p ↦ both_ways (last == 92) k (eq-eqb last 92 (head ∙ p))
    ]
white_end_at last e more (x ∷ front) lst white k a h w =
    let i = ends_cases lst white h in
    let tail : e ∷ more ≡ front ++ (lst ++ white) = cc in
    let is : e ∷ more ≡ front ++ (i.z ∷ white) = tail ∙ ap (λ l. front ++ (l ++ white)) i.one in
    let all : list_all is_white (front ++ (i.z ∷ white)) ≡ true = subst (λ s. list_all is_white s ≡ true) is a in
    let parts = and_parts (list_all is_white front) (list_all is_white (i.z ∷ white)) (sym (all_append is_white front (i.z ∷ white)) ∙ all) in
    let z_white : is_white i.z ≡ true = (and_parts (is_white i.z) (list_all is_white white) parts.1).0 in
    elim i.which [
      | inl (p, n) ↦ both_ways (is_white i.z) p z_white
      | inr p ↦ both_ways (is_white 92) backslash_not_white (subst (λ z. is_white z ≡ true) p z_white)
    ]

over_none : (m : ℕ) (keeps : Bool) → over_white keeps m ≡ 0 → keeps ≡ false → m ≡ 0
over_none m keeps h k = elim (cases_Bool (m == 0)) [
  | inl y ↦ eqb-true m 0 y
  | inr n ↦ let none : 1 + m ≡ 0 = sym (over n k) ∙ h in absurd (omega (arith, none))
]
  where
    over : (m == 0) ≡ false → keeps ≡ false → over_white keeps m ≡ 1 + m
    over n k = rw n refl

-- only white space stands behind what the comment has
all_white : (last : ℕ) (s more left : List ℕ) → (last == 92) ≡ false → line_len last s ≡ 0 → s ≡ more ++ left → list_all not_line more ≡ true → list_all is_white more ≡ true
all_white last s [] left k m w n = refl
all_white last [] (x ∷ more) left k m w n = cc
all_white last (c ∷ s) (x ∷ more) left k m w n =
    let head : c ≡ x = cc in let tail : s ≡ more ++ left = cc in
    let parts = and_parts (not_line x) (list_all not_line more) n in
    let in_line : is_new_line c ≡ false = subst (λ z. is_new_line z ≡ false) (sym head) (not-true (is_new_line x) parts.0) in
    elim (cases_Bool (is_white c)) [
      | inl b ↦
          let none : over_white (last == 92) (line_len last s) ≡ 0 = sym (white_step c s in_line b) ∙ m in
          and_from (is_white x) (list_all is_white more) (subst (λ z. is_white z ≡ true) head b) (all_white last s more left k (over_none (line_len last s) (last == 92) none k) tail parts.1)
      | inr b ↦ let some : 1 + line_len c s ≡ 0 = sym (black_step c s in_line b) ∙ m in absurd (omega (arith, some))
    ]
  where
    white_step : (c : ℕ) (s : List ℕ) → is_new_line c ≡ false → is_white c ≡ true → line_len last (c ∷ s) ≡ over_white (last == 92) (line_len last s)
    white_step c s n b = rw (n, b) refl

    black_step : (c : ℕ) (s : List ℕ) → is_new_line c ≡ false → is_white c ≡ false → line_len last (c ∷ s) ≡ 1 + line_len c s
    black_step c s n b = rw (n, b) refl

-- where the comment stops nothing goes on
NoMore : ℕ → List ℕ → ℕ → Type 0
NoMore last t m = (e : ℕ) (more left : List ℕ) → drop m t ≡ (e ∷ more) ++ left → list_all not_line (e ∷ more) ≡ true → IsTrimmed (last ∷ (take m t ++ (e ∷ more))) → ⊥

stops_at_line : (last c : ℕ) (s : List ℕ) → is_new_line c ≡ true → NoMore last (c ∷ s) 0
unfolding NoMore
stops_at_line last c s y e more left d n h =
    let head : c ≡ e = cc in
    both_ways (is_new_line e) (not-true (is_new_line e) (and_parts (not_line e) (list_all not_line more) n).0) (subst (λ z. is_new_line z ≡ true) head y)

stops_at_white : (last c : ℕ) (s : List ℕ) → (last == 92) ≡ false → is_white c ≡ true → line_len last s ≡ 0 → NoMore last (c ∷ s) 0
unfolding NoMore
stops_at_white last c s k b m e more left d n h =
    let head : c ≡ e = cc in let tail : s ≡ more ++ left = cc in
    let parts = and_parts (not_line e) (list_all not_line more) n in
    let white : list_all is_white (e ∷ more) ≡ true = and_from (is_white e) (list_all is_white more) (subst (λ z. is_white z ≡ true) head b) (all_white last s more left k m tail parts.1) in
    white_end_at last e more h.front h.last h.white k white h.ends h.whole

goes_over_white : (last c : ℕ) (s : List ℕ) (m : ℕ) → is_white c ≡ true → NoMore last s m → NoMore last (c ∷ s) (suc m)
unfolding NoMore
goes_over_white last c s m b rest e more left d n h = rest e more left d n (remove_at last c (take m s ++ (e ∷ more)) h.front h.last h.white b h.each_white h.ends h.whole)

goes_over_black : (last c : ℕ) (s : List ℕ) (m : ℕ) → is_white c ≡ false → NoMore c s m → NoMore last (c ∷ s) (suc m)
unfolding NoMore
goes_over_black last c s m b rest e more left d n h = rest e more left d n (tail_at last c (take m s ++ (e ∷ more)) h.front h.last h.white b h.each_white h.ends h.whole)

no_more : (last : ℕ) (t : List ℕ) → NoMore last t (line_len last t)
unfolding NoMore
no_more last [] = λ e more left d n h. cc
no_more last (c ∷ s) = at last c s (no_more last s) (no_more c s)
  where
    at : (last c : ℕ) (s : List ℕ) → NoMore last s (line_len last s) → NoMore c s (line_len c s) → NoMore last (c ∷ s) (line_len last (c ∷ s))
    at last c s here there = elim (cases_Bool (is_new_line c)) [
      | inl y ↦ rw y (stops_at_line last c s y)
      | inr n ↦ elim (cases_Bool (is_white c)) [
        | inl b ↦ elim (cases_Bool (line_len last s == 0 && not (last == 92))) [
          | inl z ↦
              let parts = and_parts (line_len last s == 0) (not (last == 92)) z in
              rw (n, b, z) (stops_at_white last c s (not-true (last == 92) parts.1) b (eqb-true (line_len last s) 0 parts.0))
          | inr z ↦ let one : 1 + line_len last s ≡ suc (line_len last s) = omega arith in rw (n, b, z, one) (goes_over_white last c s (line_len last s) b here)
        ]
        | inr b ↦ let one : 1 + line_len c s ≡ suc (line_len c s) = omega arith in rw (n, b, one) (goes_over_black last c s (line_len c s) b there)
      ]
    ]

in_line : (last : ℕ) (t : List ℕ) → list_all not_line (take (line_len last t) t) ≡ true
in_line last [] = refl
in_line last (c ∷ s) = elim (cases_Bool (is_new_line c)) [
  | inl y ↦ rw y refl
  | inr n ↦ elim (cases_Bool (is_white c)) [
    | inl b ↦ elim (cases_Bool (line_len last s == 0 && not (last == 92))) [
      | inl z ↦ rw (n, b, z) refl
      | inr z ↦ let one : 1 + line_len last s ≡ suc (line_len last s) = omega arith in rw (n, b, z, one) (and_from (not_line c) (list_all not_line (take (line_len last s) s)) (ap not n) (in_line last s))
    ]
    | inr b ↦ let one : 1 + line_len c s ≡ suc (line_len c s) = omega arith in rw (n, b, one) (and_from (not_line c) (list_all not_line (take (line_len c s) s)) (ap not n) (in_line c s))
  ]
]

slash_not_white : is_white 47 ≡ false
unfolding is_white
slash_not_white = refl

-- two slashes begin a line comment and nothing else
slashes : (d : Dialect) (k : Shape) (t : List ℕ) → Spells d k (47 ∷ 47 ∷ t) → k ≡ Whole LineComment
slashes d k t h = sym (sort_is d k (47 ∷ 47 ∷ t) h) ∙ slash_sort (47 ∷ t)

longer_line : (d : Dialect) (k : Shape) (t more left : List ℕ) (e : ℕ) → drop (line_len 47 t) t ≡ (e ∷ more) ++ left → Spells d k (47 ∷ 47 ∷ (take (line_len 47 t) t ++ (e ∷ more))) → ⊥
unfolding NoMore
longer_line d k t more left e r g =
    let h : IsLine (47 ∷ 47 ∷ (take (line_len 47 t) t ++ (e ∷ more))) = subst (λ j. Spells d j (47 ∷ 47 ∷ (take (line_len 47 t) t ++ (e ∷ more)))) (slashes d k (take (line_len 47 t) t ++ (e ∷ more)) g) g in
    let w = h.whole in
    let body : take (line_len 47 t) t ++ (e ∷ more) ≡ h.body = cc in
    let all : list_all not_line (take (line_len 47 t) t ++ (e ∷ more)) ≡ true = subst (λ z. list_all not_line z ≡ true) (sym body) h.in_line in
    let parts = and_parts (list_all not_line (take (line_len 47 t) t)) (list_all not_line (e ∷ more)) (sym (all_append not_line (take (line_len 47 t) t) (e ∷ more)) ∙ all) in
    no_more 47 t e more left r parts.1 (subst (λ z. IsTrimmed (47 ∷ z)) (sym body) h.trimmed)

-- the line comment that begins here, without the white space at its end
pub line_cut : (d : Dialect) (s t : List ℕ) → s ≡ 47 ∷ 47 ∷ t → IsCut d (Whole LineComment) s (2 + line_len 47 t)
line_cut d s t w =
    let two : 2 + line_len 47 t ≡ suc (suc (line_len 47 t)) = omega arith in
    let spelled : IsLine (47 ∷ 47 ∷ take (line_len 47 t) t) = record { body = take (line_len 47 t) t; in_line = in_line 47 t; trimmed = trimmed_line 47 t slash_not_white; whole = refl } in
    let cut : IsLongest d (Whole LineComment) (47 ∷ 47 ∷ take (line_len 47 t) t) (drop (line_len 47 t) t) = record { spells = spelled; longest = λ k e more left r g. longer_line d k t more left e r g } in
    subst (λ x. IsCut d (Whole LineComment) x (2 + line_len 47 t)) (sym w) (rw two cut)
