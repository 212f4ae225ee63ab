-- Heads of bodies, the innermost or the outermost first.
use Rattle.std.proofs.Common.{◌≡◌, ◌∙◌, ℕ, ◌+◌, ◌-◌, ◌<◌, ◌≤◌, Bool, true, false, Option, None, List, [], ◌∷◌, ◌++◌, length, get_or, reverse, refl, sym, ap, subst, arith}
use Rattle.std.specs.Prelude.{⊤, All, if◌then◌else◌}
use Rattle.std.specs.List.{range_with_len}
use Rattle.std.proofs.lemmas.List.{get_or-append-add, length-append}
use Rattle.std.proofs.lemmas.List.Elements.{All-append}
use Rattle.std.proofs.lemmas.List.FromFn.{get_or-range_with_len, length-range_with_len}
use Rattle.std.proofs.Math.ListN.{get_or-append}
use Rattle.token_classes.specs.declared.class.TokenClass.{TokenClass}
use Rattle.token_classes.specs.declared.class.TokenClass.TheVariants.{OpenBrace}
use Rattle.token_classes.specs.Classes.{is_open_brace}
use Rattle.part_walk.specs.declared.bodies.Head.{Head}
use Rattle.part_walk.specs.declared.walk.Around.{Around}
use Rattle.part_walk.specs.declared.walk.Walk.{Walk}
use Rattle.view_parts.specs.Parts.{head_items, heads_end, Stand}
use Rattle.part_walk.specs.Walk.{opened_head}
use mathlib.Core.List.{reverse_aux}

-- all items of a head have this, and stand before this one
pub record IsHead (P : ℕ → Type 0) (head : Head) (low : ℕ) : Type 0 where
  pub some : head.first < head.end
  pub upto : head.end ≤ low
  pub has : (n : ℕ) → head.first ≤ n → n < head.end → P n

-- The same, of the heads of bodies, the innermost first.
abbrev pub BodiesStand : (ℕ → Type 0) → List Head → ℕ → Type 0
BodiesStand P [] low = ⊤
BodiesStand P (head ∷ bodies) low = IsHead P head low × BodiesStand P bodies head.first

-- the item behind the innermost head
abbrev pub bodies_end : List Head → ℕ
bodies_end [] = 0
bodies_end (head ∷ bodies) = head.end

pub end_low : (P : ℕ → Type 0) (bodies : List Head) (low : ℕ) → BodiesStand P bodies low → bodies_end bodies ≤ low
end_low P [] low stand = omega arith
end_low P (head ∷ bodies) low stand = stand.0.upto

pub head_before : (P : ℕ → Type 0) (head : Head) (low id : ℕ) → head.end ≤ id → IsHead P head low → IsHead P head id
head_before P head low id upto is = record { some = is.some; upto = upto; has = is.has }

pub stand_before : (P : ℕ → Type 0) (bodies : List Head) (low id : ℕ) → bodies_end bodies ≤ id → BodiesStand P bodies low → BodiesStand P bodies id
stand_before P [] low id upto stand = tt
stand_before P (head ∷ bodies) low id upto stand = (head_before P head low id upto stand.0, stand.1)

stand_lower : (low lower : ℕ) (heads : List Head) → lower ≤ low → Stand low heads → Stand lower heads
stand_lower low lower [] upto stand = tt
stand_lower low lower (head ∷ heads) upto stand = (let after = stand.0 in omega (arith, upto, after), stand.1, stand.2)

-- ## The outermost first

onto_stand : (P : ℕ → Type 0) (bodies heads : List Head) (low : ℕ) → BodiesStand P bodies low → Stand low heads → Stand 0 (reverse_aux bodies heads)
onto_stand P [] heads low stand after = stand_lower low 0 heads (omega arith) after
onto_stand P (head ∷ bodies) heads low stand after = onto_stand P bodies (head ∷ heads) head.first stand.1 (omega arith, stand.0.some, stand_lower low head.end heads stand.0.upto after)

onto_end : (bodies heads : List Head) → heads_end 0 (reverse_aux bodies heads) ≡ heads_end (bodies_end bodies) heads
onto_end [] heads = refl
onto_end (head ∷ bodies) heads = onto_end bodies (head ∷ heads)

range_has : (P : ℕ → Type 0) (head : Head) (low : ℕ) → IsHead P head low → All P (range_with_len head.first (head.end - head.first))
range_has P head low is = λ k d below.
    let n = head.end - head.first in
    let short : k < n = omega (arith, below, length-range_with_len head.first n) in
    subst (λ x. P x) (sym (get_or-range_with_len head.first n k d short)) (is.has (head.first + k) (omega arith) (omega (arith, short)))

onto_have : (P : ℕ → Type 0) (bodies heads : List Head) (low : ℕ) → BodiesStand P bodies low → All P (head_items heads) → All P (head_items (reverse_aux bodies heads))
onto_have P [] heads low stand have = have
onto_have P (head ∷ bodies) heads low stand have =
    onto_have P bodies (head ∷ heads) head.first stand.1 (All-append P (range_with_len head.first (head.end - head.first)) (head_items heads) (range_has P head low stand.0) have)

pub reversed_stand : (P : ℕ → Type 0) (bodies : List Head) (low : ℕ) → BodiesStand P bodies low → Stand 0 (reverse bodies)
reversed_stand P bodies low stand = onto_stand P bodies [] low stand tt

pub reversed_end : (bodies : List Head) → heads_end 0 (reverse bodies) ≡ bodies_end bodies
reversed_end bodies = onto_end bodies []

pub reversed_have : (P : ℕ → Type 0) (bodies : List Head) (low : ℕ) → BodiesStand P bodies low → All P (head_items (reverse bodies))
reversed_have P bodies low stand = onto_have P bodies [] low stand (λ k d below. absurd (omega (arith, below)))

-- ## The innermost first

first_has : (P : ℕ → Type 0) (head : Head) (rest : List ℕ) → All P (range_with_len head.first (head.end - head.first) ++ rest) → (n : ℕ) → head.first ≤ n → n < head.end → P n
first_has P head rest have n after before =
    let first = head.first in
    let many = head.end - first in
    let k = n - first in
    let short : k < many = omega (arith, after, before) in
    let len = length-range_with_len first many in
    let all = length-append (range_with_len first many) rest in
    let at : get_or (range_with_len first many ++ rest) k 0 ≡ n = get_or-append (range_with_len first many) rest 0 k (omega (arith, short, len)) ∙ (get_or-range_with_len first many k 0 short ∙ omega (arith, after)) in
    subst (λ x. P x) at (have k 0 (omega (arith, short, len, all)))

rest_have : (P : ℕ → Type 0) (xs ys : List ℕ) → All P (xs ++ ys) → All P ys
rest_have P xs ys have = λ k d below. (let all = length-append xs ys in subst (λ x. P x) (get_or-append-add xs ys k d) (have (length xs + k) d (omega (arith, below, all))))

onto_bodies : (P : ℕ → Type 0) (heads bodies : List Head) (low : ℕ) → Stand low heads → All P (head_items heads) → BodiesStand P bodies low → BodiesStand P (reverse_aux heads bodies) (heads_end low heads)
onto_bodies P [] bodies low stand have before = before
onto_bodies P (head ∷ heads) bodies low stand have before =
    let upto = end_low P bodies low before in
    let after = stand.0 in
    let here : IsHead P head head.end = record { some = stand.1; upto = omega arith; has = first_has P head (head_items heads) have } in
    onto_bodies P heads (head ∷ bodies) head.end stand.2 (rest_have P (range_with_len head.first (head.end - head.first)) (head_items heads) have) (here, stand_before P bodies low head.first (omega (arith, upto, after)) before)

pub bodies_so : (P : ℕ → Type 0) (heads : List Head) → Stand 0 heads → All P (head_items heads) → BodiesStand P (reverse heads) (heads_end 0 heads)
bodies_so P heads stand have = onto_bodies P heads [] 0 stand have tt

-- ## A head that a `{` opens

pub opened_brace : (walk : Walk) (stands : Around) (heads bodies : List Head) (id : ℕ) (class : TokenClass) (opened : Option Head) → opened ≡ opened_head walk stands (reverse heads) id OpenBrace → heads ≡ bodies
    → is_open_brace class ≡ true → opened ≡ opened_head walk stands (reverse bodies) id class
opened_brace walk stands heads bodies id class opened is same brace =
    is
    ∙ (ap (λ (hs : List Head). opened_head walk stands (reverse hs) id OpenBrace) same
    ∙ sym (ap (λ (b : Bool). if b then opened_head walk stands (reverse bodies) id OpenBrace else None) brace))

pub opened_none : (walk : Walk) (stands : Around) (bodies : List Head) (id : ℕ) (class : TokenClass) → is_open_brace class ≡ false → opened_head walk stands bodies id class ≡ None
opened_none walk stands bodies id class other = ap (λ (b : Bool). if b then opened_head walk stands bodies id OpenBrace else None) other
