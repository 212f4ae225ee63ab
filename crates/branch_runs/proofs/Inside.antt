-- What a run sees of a part of a text.
use Rattle.std.proofs.Common.{◌≡◌, ◌∙◌, ℕ, zero, suc, ◌+◌, ◌-◌, ◌<◌, ◌≤◌, inl, inr, Bool, true, false, List, [], ◌∷◌, ◌++◌, map, length, drop, refl, sym, ap, subst, arith}
use Rattle.std.specs.Prelude.{min, max, nat_lt, if◌then◌else◌, All}
use Rattle.std.specs.List.{range_with_len}
use Rattle.std.proofs.lemmas.List.{drop_more, drop_all}
use Rattle.std.proofs.lemmas.List.Elements.{All-contains_itself, All-contains}
use Rattle.token_arena.specs.Segments.{AscendFrom, ids_of}
use Rattle.branch_runs.specs.declared.seen.SeenText.{SeenText}
use Rattle.branch_runs.specs.Seen.{is_seen, taken}
use Rattle.branch_runs.specs.Visible.{no_text, text_at, NoneSeen, IsSeenAt}
use Rattle.branch_runs.specs.Anew.{items_between}
use Rattle.branch_runs.specs.Inside.{text_bounds, inside}
use Rattle.branch_runs.proofs.Cover.{AnyHas}
use Rattle.branch_runs.proofs.Items.{AnyHas-items, items-AnyHas}
use Rattle.branch_runs.proofs.Taken.{cases_lt}
use Rattle.branch_runs.proofs.Between.{items_between-append, row_between}

lower : (low high : ℕ) (xs : List (ℕ × ℕ)) → low ≤ high → AscendFrom high xs → AscendFrom low xs
lower low high [] le a = tt
lower low high (x ∷ xs) le a = (omega (arith, le, a.0), a.1, a.2)

inside-one : (a b low : ℕ) (ys : List (ℕ × ℕ)) → low ≤ a → AscendFrom low ys → AscendFrom (b + 1) ys → AscendFrom low (if nat_lt a b then (a, b) ∷ ys else ys)
inside-one a b low ys from here behind = elim (cases_lt a b) [
  | inl some ↦ let is : nat_lt a b ≡ true = grind (arith, some) in rw is (from, some, behind)
  | inr none ↦ let is : nat_lt a b ≡ false = grind (arith, none) in rw is here
]

pub inside-ascend : (first end low : ℕ) (xs : List (ℕ × ℕ)) → AscendFrom low xs → AscendFrom low (inside first end xs)
inside-ascend first end low [] a = tt
inside-ascend first end low (x ∷ xs) a =
    let more = inside-ascend first end (x.1 + 1) xs a.2 in
    inside-one (max first x.0) (min end x.1) low (inside first end xs) (omega (arith, a.0))
    (lower low (x.1 + 1) (inside first end xs) (omega (arith, a.0, a.1)) more) (lower (min end x.1 + 1) (x.1 + 1) (inside first end xs) (omega arith) more)

ids-one : (a b : ℕ) (ys : List (ℕ × ℕ)) → ids_of (if nat_lt a b then (a, b) ∷ ys else ys) ≡ range_with_len a (b - a) ++ ids_of ys
ids-one a b ys = elim (cases_lt a b) [
  | inl some ↦ let is : nat_lt a b ≡ true = grind (arith, some) in rw is refl
  | inr none ↦
      let is : nat_lt a b ≡ false = grind (arith, none) in
      let e : b - a ≡ 0 = omega (arith, none) in
      rw (is, e) refl
]

pub ids-inside : (first end : ℕ) (xs : List (ℕ × ℕ)) → ids_of (inside first end xs) ≡ items_between first end (ids_of xs)
ids-inside first end [] = refl
ids-inside first end (x ∷ xs) =
    let e : min end (x.0 + (x.1 - x.0)) - max first x.0 ≡ min end x.1 - max first x.0 = omega arith in
    ids-one (max first x.0) (min end x.1) (inside first end xs)
    ∙ (rw (items_between-append first end (range_with_len x.0 (x.1 - x.0)) (ids_of xs), row_between first end x.0 (x.1 - x.0), e, ids-inside first end xs) refl)

has-one : (a b : ℕ) (ys : List (ℕ × ℕ)) (i : ℕ) (T : Type 0) → AnyHas (if nat_lt a b then (a, b) ∷ ys else ys) i → (a ≤ i → i < b → T) → (AnyHas ys i → T) → T
has-one a b ys i T h here more = elim (cases_lt a b) [
  | inl some ↦
      let is : nat_lt a b ≡ true = grind (arith, some) in
      let it : AnyHas ((a, b) ∷ ys) i = subst (λ c. AnyHas (if c then (a, b) ∷ ys else ys) i) is h in
      elim it [
        | inl x ↦ here x.0 x.1
        | inr x ↦ more x
      ]
  | inr none ↦
      let is : nat_lt a b ≡ false = grind (arith, none) in
      more (subst (λ c. AnyHas (if c then (a, b) ∷ ys else ys) i) is h)
]

inside_has : (first end : ℕ) (xs : List (ℕ × ℕ)) (i : ℕ) → AnyHas (inside first end xs) i → AnyHas xs i
inside_has first end [] i h = h
inside_has first end (x ∷ xs) i h =
    has-one (max first x.0) (min end x.1) (inside first end xs) i (AnyHas (x ∷ xs) i) h
    (λ low high. inl (omega (arith, low), omega (arith, high))) (λ more. inr (inside_has first end xs i more))

-- each item that lies inside is one of the stretches'
pub inside_all : (P : ℕ → Type 0) (first end : ℕ) (xs : List (ℕ × ℕ)) → All P (ids_of xs) → All P (ids_of (inside first end xs))
inside_all P first end xs all = λ k d below.
    All-contains P (ids_of xs) _ all (AnyHas-items xs _ (inside_has first end xs _ (items-AnyHas (inside first end xs) _ (All-contains_itself (ids_of (inside first end xs)) k d below))))

-- nothing lies inside behind the end
none-one : (a b : ℕ) (ys : List (ℕ × ℕ)) → b ≤ a → ys ≡ [] → (if nat_lt a b then (a, b) ∷ ys else ys) ≡ []
none-one a b ys none is = let off : nat_lt a b ≡ false = grind (arith, none) in rw (off, is) refl

pub inside-late : (first end low : ℕ) (xs : List (ℕ × ℕ)) → end ≤ max first low → AscendFrom low xs → inside first end xs ≡ []
inside-late first end low [] late a = refl
inside-late first end low (x ∷ xs) late a =
    none-one (max first x.0) (min end x.1) (inside first end xs) (omega (arith, late, a.0))
    (inside-late first end (x.1 + 1) xs (omega (arith, late, a.0, a.1)) a.2)

-- what is taken of texts ascends as they do
by_ascend : (c : Bool) (seen : SeenText) (low : ℕ) (xs : List (ℕ × ℕ)) → low ≤ seen.first → seen.first < seen.end → AscendFrom (seen.end + 1) xs
    → AscendFrom low (if c then (seen.first, seen.end) ∷ xs else xs)
by_ascend true seen low xs from some a = (from, some, a)
by_ascend false seen low xs from some a = lower low (seen.end + 1) xs (omega (arith, from, some)) a

taken_ascend : (texts : List SeenText) (low r : ℕ) → AscendFrom low (map text_bounds texts) → AscendFrom low (taken texts r)
taken_ascend [] low r a = tt
taken_ascend (seen ∷ texts) low r a = by_ascend (is_seen seen r) seen low (taken texts r) a.0 a.1 (taken_ascend texts (seen.end + 1) r a.2)

-- Texts by their places.

pub end_from : (texts : List SeenText) (low k : ℕ) → AscendFrom low (map text_bounds texts) → k < length texts
    → (low ≤ (text_at texts k).first) × ((text_at texts k).first < (text_at texts k).end)
end_from [] low k a within = absurd (omega (arith, within))
end_from (seen ∷ texts) low zero a within = (a.0, a.1)
end_from (seen ∷ texts) low (suc k) a within =
    let h = end_from texts (seen.end + 1) k a.2 (omega (arith, within)) in
    (omega (arith, h.0, a.0, a.1), h.1)

-- those that follow end later
pub ends_ascend : (texts : List SeenText) (low i j : ℕ) → AscendFrom low (map text_bounds texts) → i ≤ j → j < length texts → (text_at texts i).end ≤ (text_at texts j).end
ends_ascend [] low i j a le within = absurd (omega (arith, within))
ends_ascend (seen ∷ texts) low zero zero a le within = omega arith
ends_ascend (seen ∷ texts) low zero (suc j) a le within = let h = end_from texts (seen.end + 1) j a.2 (omega (arith, within)) in omega (arith, h.0, h.1)
ends_ascend (seen ∷ texts) low (suc i) zero a le within = absurd (omega (arith, le))
ends_ascend (seen ∷ texts) low (suc i) (suc j) a le within = ends_ascend texts (seen.end + 1) i j a.2 (omega (arith, le)) (omega (arith, within))

drop_ascend : (texts : List SeenText) (low n : ℕ) → AscendFrom low (map text_bounds texts) → n < length texts → AscendFrom (text_at texts n).first (map text_bounds (drop n texts))
drop_ascend [] low n a within = absurd (omega (arith, within))
drop_ascend (seen ∷ texts) low zero a within = (omega arith, a.1, a.2)
drop_ascend (seen ∷ texts) low (suc n) a within = drop_ascend texts (seen.end + 1) n a.2 (omega (arith, within))

before-one : (c : Bool) (seen : SeenText) (first end : ℕ) (xs : List (ℕ × ℕ)) → seen.end ≤ first → inside first end (if c then (seen.first, seen.end) ∷ xs else xs) ≡ inside first end xs
before-one false seen first end xs early = refl
before-one true seen first end xs early = let off : nat_lt (max first seen.first) (min end seen.end) ≡ false = grind (arith, early) in rw off refl

-- those that end by the first item have nothing inside
pub skip_before : (texts : List SeenText) (n r first end : ℕ) → ((k : ℕ) → k < n → (text_at texts k).end ≤ first)
    → inside first end (taken (drop n texts) r) ≡ inside first end (taken texts r)
skip_before [] zero r first end early = refl
skip_before [] (suc n) r first end early = refl
skip_before (seen ∷ texts) zero r first end early = refl
skip_before (seen ∷ texts) (suc n) r first end early =
    skip_before texts n r first end (λ k below. early (suc k) (omega (arith, below)))
    ∙ sym (before-one (is_seen seen r) seen first end (taken texts r) (early 0 (omega arith)))

-- those that the run doesn't see are not taken
pub skip_unseen : (texts : List SeenText) (at n r : ℕ) → at ≤ n → NoneSeen texts at n r → taken (drop at texts) r ≡ taken (drop n texts) r
skip_unseen [] zero zero r le none = refl
skip_unseen [] zero (suc n) r le none = refl
skip_unseen [] (suc at) zero r le none = refl
skip_unseen [] (suc at) (suc n) r le none = refl
skip_unseen (seen ∷ texts) zero zero r le none = refl
skip_unseen (seen ∷ texts) zero (suc n) r le none =
    rw (none 0 (omega arith) (omega arith)) (skip_unseen texts zero n r (omega arith) (λ i low high. none (suc i) (omega arith) (omega (arith, high))))
skip_unseen (seen ∷ texts) (suc at) zero r le none = absurd (omega (arith, le))
skip_unseen (seen ∷ texts) (suc at) (suc n) r le none = skip_unseen texts at n r (omega (arith, le)) (λ i low high. none (suc i) (omega (arith, low)) (omega (arith, high)))

taken_here : (texts : List SeenText) (n r : ℕ) → n < length texts → IsSeenAt texts n r → taken (drop n texts) r ≡ text_bounds (text_at texts n) ∷ taken (drop (n + 1) texts) r
taken_here texts n r within is = rw (drop_more texts n no_text within, is) refl

-- the run sees this text next
pub taken_next : (texts : List SeenText) (at n r : ℕ) → at ≤ n → n < length texts → IsSeenAt texts n r → NoneSeen texts at n r
    → taken (drop at texts) r ≡ text_bounds (text_at texts n) ∷ taken (drop (n + 1) texts) r
taken_next texts at n r le within is none = skip_unseen texts at n r le none ∙ taken_here texts n r within is

-- where a text begins at the end or behind it, nothing lies inside from it on
pub none_behind : (texts : List SeenText) (at n r first end : ℕ) → AscendFrom 0 (map text_bounds texts) → at ≤ n → n < length texts → NoneSeen texts at n r
    → end ≤ max first (text_at texts n).first → inside first end (taken (drop at texts) r) ≡ []
none_behind texts at n r first end a le within none late =
    ap (inside first end) (skip_unseen texts at n r le none)
    ∙ inside-late first end (text_at texts n).first (taken (drop n texts) r) late (taken_ascend (drop n texts) (text_at texts n).first r (drop_ascend texts 0 n a within))

-- what lies inside of the text that is seen next
pub inside_next : (texts : List SeenText) (at n r first end : ℕ) → AscendFrom 0 (map text_bounds texts) → at ≤ n → n < length texts → IsSeenAt texts n r → NoneSeen texts at n r
    → max first (text_at texts n).first < end → first < (text_at texts n).end
    → inside first end (taken (drop at texts) r) ≡ (max first (text_at texts n).first, min end (text_at texts n).end) ∷ inside first end (taken (drop (n + 1) texts) r)
inside_next texts at n r first end a le within is none early some =
    let t = text_at texts n in
    let h = end_from texts 0 n a within in
    let on : nat_lt (max first t.first) (min end t.end) ≡ true = grind (arith, early, some, h.1) in
    ap (inside first end) (taken_next texts at n r le within is none) ∙ (rw on refl)

-- where the run sees none from a place on, none is taken
pub none_seen : (texts : List SeenText) (at r : ℕ) → NoneSeen texts at (length texts) r → taken (drop at texts) r ≡ []
none_seen texts at r none = elim (cases_lt at (length texts)) [
  | inl a ↦ skip_unseen texts at (length texts) r (omega (arith, a)) none ∙ ap (λ xs. taken xs r) (drop_all (length texts) texts (omega arith))
  | inr a ↦ ap (λ xs. taken xs r) (drop_all at texts a)
]
