-- Another first gap and another last gap leave the items.
use Rattle.std.proofs.Common.{◌≡◌, ℕ, true, List, [], ◌∷◌, ◌++◌, refl, sym, ◌∙◌, ap, subst, inl, inr, append_assoc}
use Rattle.std.specs.List.{list_any}
use Rattle.std.proofs.lemmas.Bool.{and_parts, cases_Bool}
use Rattle.c_chars.specs.declared.Dialect.{Dialect}
use Rattle.item_kinds.specs.declared.ItemKind.{ItemKind}
use Rattle.c_grammar.specs.Grammar.{is_new_line}
use Rattle.c_grammar.specs.Items.{LineStart, past_gap, past_item, is_gap, IsNext, BeginsHeader, Piece, Reads, written}
use Rattle.c_grammar.specs.Touch.{regapped}
use Rattle.c_grammar.specs.Regapping.{IsSameItem}
use Rattle.c_grammar.proofs.Lists.{two_cuts}
use Rattle.c_grammar.proofs.Firsts.{starts_or_empty}
use Rattle.c_grammar.proofs.Unique.{is_blank}
use Rattle.c_grammar.proofs.OtherGap.{MayFollow, gap_front, no_end_in_gap}

-- The last gap

gap_starts : (g : List ℕ) → is_gap g ≡ true → starts_or_empty is_blank g ≡ true
gap_starts [] w = refl
gap_starts (c ∷ g) w = (and_parts (is_blank c) (is_gap g) w).0

-- a header name ends before the gap
header_before_gap : (f : ℕ) (S end last : List ℕ) → is_gap end ≡ true → BeginsHeader ((f ∷ S) ++ end) → BeginsHeader ((f ∷ S) ++ last)
header_before_gap f S end last w h = elim (two_cuts h.name h.left (f ∷ S) end (sym h.whole)) [
  | inl c ↦ record { name = h.name; left = last; is_name = h.is_name; whole = ap (λ z. z ++ last) (sym c.front_is) }
  | inr on ↦ elim on [
    | inl c ↦ record { name = h.name; left = (c.c ∷ c.more) ++ last; is_name = h.is_name; whole = ap (λ z. z ++ last) c.front_is ∙ append_assoc h.name (c.c ∷ c.more) last }
    | inr c ↦ absurd (no_end_in_gap h.name h.is_name f S c.c c.more c.front_is (gap_front (c.c ∷ c.more) h.left (subst (λ z. is_gap z ≡ true) c.rest_is w)))
  ]
]

pub gap_may_follow : (last end : List ℕ) → is_gap end ≡ true → MayFollow last end
gap_may_follow last end w = record { blank = gap_starts end w; header = λ f S h. header_before_gap f S end last w h }

-- the pieces behind one more
pub onward : (xs : List Piece) (l : Piece) (ps : List Piece) → (xs ++ l ∷ []) ++ ps ≡ xs ++ l ∷ ps
onward xs l ps = append_assoc xs (l ∷ []) ps

pub piece_is : (p q : Piece) → IsSameItem p q → regapped q.gap p ≡ q
piece_is p q s = made p.kind q.kind p.spelling q.spelling (sym s.kind) (sym s.spelling)
  where
    made : (k l : ItemKind) (s t : List ℕ) → k ≡ l → s ≡ t → ◌≡◌ {A = Piece} (record { gap = q.gap; kind = k; spelling = s }) (record { gap = q.gap; kind = l; spelling = t })
    made k l s t e f = cc

-- The first gap

pub first_place : (g : List ℕ) → past_gap LineStart g ≡ LineStart
first_place g = elim (cases_Bool (list_any is_new_line g)) [ inl y ↦ rw y refl | inr n ↦ rw n refl ]

pub other_first : (d : Dialect) (p q : Piece) (ps : List Piece) (last : List ℕ) → Reads d LineStart (p ∷ ps) last → IsSameItem p q → is_gap q.gap ≡ true → Reads d LineStart (q ∷ ps) last
other_first d p q ps last h same w =
    let places : past_gap LineStart p.gap ≡ past_gap LineStart q.gap = first_place p.gap ∙ sym (first_place q.gap) in
    let to_q = piece_is p q same in
    let here : Reads d LineStart (regapped q.gap p ∷ ps) last = (
      w,
      subst (λ z. IsNext d z p.kind p.spelling (written ps last)) places h.1,
      subst (λ z. Reads d (past_item d z p.kind p.spelling) ps last) places h.2,
    ) in
    subst (λ z. Reads d LineStart (z ∷ ps) last) to_q here
