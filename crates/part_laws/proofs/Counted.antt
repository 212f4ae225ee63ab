-- The tokens of items that are no comments, counted.
use Rattle.std.proofs.Common.{◌≡◌, ◌∙◌, ℕ, suc, ◌+◌, ◌<◌, Bool, true, false, Option, Some, List, [], ◌∷◌, ◌++◌, length}
use Rattle.std.proofs.Common.{map, get_or, append_assoc, refl, sym, ap, arith}
use Rattle.std.specs.Prelude.{slice_get, if◌then◌else◌}
use Rattle.std.proofs.lemmas.List.{length-map, map-append}
use Rattle.std.proofs.Math.Seq.{get_or-append_seam}
use Rattle.token_arena.specs.Gaps.{Contents}
use Rattle.token_classes.specs.declared.class.TokenClass.{TokenClass}
use Rattle.token_classes.specs.declared.class.TokenClass.TheVariants.{Nothing}
use Rattle.token_classes.specs.Classes.{is_comment}
use Rattle.item_classes.specs.Viewed.{item_class, classes_of}
use Rattle.statement_lines.specs.declared.token.CodeToken.{CodeToken}
use Rattle.statement_lines.specs.Forms.{class_of, class_at, partner_of, partner_in, within}
use Rattle.unwrapped_lines.specs.Viewed.{numbers_from, numbers_of, partner_number, token_at, code_places_from}
use Rattle.part_laws.specs.LinesCut.{partners_in}
use Rattle.part_laws.proofs.CodeCut.{code_of}
use Rattle.part_laws.proofs.PartnerPlaces.{within_from}
use Rattle.part_laws.proofs.Places.{slice_at_seam}
use Rattle.std.proofs.lemmas.Option.{slice_get-map}
use Rattle.std.specs.Option.{option_map}
use Rattle.unwrapped_lines.proofs.NumberLemmas.{numbers_count}

-- how many of these are no comments
abbrev pub code_count : List TokenClass → ℕ
code_count [] = 0
code_count (class ∷ classes) = if is_comment class then code_count classes else suc (code_count classes)

codes_on : (before after : List TokenClass) → code_count (before ++ after) ≡ code_count before + code_count after
codes_on [] after = omega arith
codes_on (class ∷ before) after = by_comment (is_comment class) (codes_on before after)
  where
    by_comment : (comment : Bool) → code_count (before ++ after) ≡ code_count before + code_count after
        → (if comment then code_count (before ++ after) else suc (code_count (before ++ after)))
        ≡ (if comment then code_count before else suc (code_count before)) + code_count after
    by_comment true on = on
    by_comment false on = omega (arith, on)

-- ## Their numbers and places

pub numbers_on : (n : ℕ) (xs ys : List TokenClass) → numbers_from n (xs ++ ys) ≡ numbers_from n xs ++ numbers_from (n + code_count xs) ys
numbers_on n [] ys =
    let same : n ≡ n + 0 = omega arith in
    ap (λ (k : ℕ). numbers_from k ys) same
numbers_on n (x ∷ xs) ys =
    elim (is_comment x) as (λ b. n ∷ numbers_from (if b then n else n + 1) (xs ++ ys)
    ≡ n ∷ (numbers_from (if b then n else n + 1) xs ++ numbers_from (n + (if b then code_count xs else suc (code_count xs))) ys)) [
      | true ↦ ap (λ (ks : List ℕ). n ∷ ks) (numbers_on n xs ys)
      | false ↦
          let same : n + 1 + code_count xs ≡ n + suc (code_count xs) = omega arith in
          ap (λ (ks : List ℕ). n ∷ ks) (numbers_on (n + 1) xs ys ∙ ap (λ (k : ℕ). numbers_from (n + 1) xs ++ numbers_from k ys) same)
    ]

pub places_on : (k : ℕ) (xs ys : List TokenClass) → code_places_from k (xs ++ ys) ≡ code_places_from k xs ++ code_places_from (k + length xs) ys
places_on k [] ys =
    let same : k ≡ k + 0 = omega arith in
    ap (λ (j : ℕ). code_places_from j ys) same
places_on k (x ∷ xs) ys =
    let same : k + 1 + length xs ≡ k + length (x ∷ xs) = omega arith in
    let rest = places_on (k + 1) xs ys ∙ ap (λ (j : ℕ). code_places_from (k + 1) xs ++ code_places_from j ys) same in
    elim (is_comment x) as (λ b. (if b then code_places_from (k + 1) (xs ++ ys) else k ∷ code_places_from (k + 1) (xs ++ ys))
    ≡ (if b then code_places_from (k + 1) xs else k ∷ code_places_from (k + 1) xs) ++ code_places_from (k + length (x ∷ xs)) ys) [
      | true ↦ rest
      | false ↦ ap (λ (ks : List ℕ). k ∷ ks) rest
    ]

pub places_count : (k : ℕ) (classes : List TokenClass) → length (code_places_from k classes) ≡ code_count classes
places_count k [] = refl
places_count k (class ∷ classes) =
    let rest = places_count (k + 1) classes in
    elim (is_comment class) as (λ b. length
    (if b then code_places_from (k + 1) classes else k ∷ code_places_from (k + 1) classes) ≡ (if b then code_count classes else suc (code_count classes))) [
      | true ↦ rest
      | false ↦ ap suc rest
    ]

numbers_there : (n : ℕ) (before : List TokenClass) (class : TokenClass) (after : List TokenClass)
    → slice_get (numbers_from n (before ++ class ∷ after)) (length before) ≡ Some (n + code_count before)
numbers_there n before class after =
    ap (λ (ks : List ℕ). slice_get ks (length before)) (numbers_on n before (class ∷ after))
    ∙ (ap (slice_get (numbers_from n before ++ numbers_from (n + code_count before) (class ∷ after))) (sym (numbers_count n before))
    ∙ slice_at_seam (numbers_from n before) (numbers_from (n + code_count before) (class ∷ after)))

places_there : (k : ℕ) (before : List TokenClass) (class : TokenClass) (after : List TokenClass) → is_comment class ≡ false
    → slice_get (code_places_from k (before ++ class ∷ after)) (code_count before) ≡ Some (k + length before)
places_there k before class after code =
    let at : ℕ = k + length before in
    let rest : List ℕ = code_places_from (k + length before + 1) after in
    ap (λ (ks : List ℕ). slice_get ks (code_count before)) (places_on k before (class ∷ after))
    ∙ (ap (slice_get (code_places_from k before ++ code_places_from at (class ∷ after))) (sym (places_count k before))
    ∙ (slice_at_seam (code_places_from k before) (code_places_from at (class ∷ after))
    ∙ ap (λ (b : Bool). slice_get (if b then rest else at ∷ rest) 0) code))

-- ## Items

-- how many of these items are no comments
abbrev pub count_of : Contents → List ℕ → ℕ
count_of arena ids = code_count (classes_of arena ids)

pub counts_on : (arena : Contents) (before after : List ℕ) → count_of arena (before ++ after) ≡ count_of arena before + count_of arena after
counts_on arena before after = ap code_count (map-append (item_class arena) before after) ∙ codes_on (classes_of arena before) (classes_of arena after)

pub counts_one : (arena : Contents) (id : ℕ) (ids : List ℕ) → is_comment (item_class arena id) ≡ false → count_of arena (id ∷ ids) ≡ suc (count_of arena ids)
counts_one arena id ids code = ap (λ (b : Bool). if b then count_of arena ids else suc (count_of arena ids)) code

pub counts_none : (arena : Contents) (id : ℕ) (ids : List ℕ) → is_comment (item_class arena id) ≡ true → count_of arena (id ∷ ids) ≡ count_of arena ids
counts_none arena id ids comment = ap (λ (b : Bool). if b then count_of arena ids else suc (count_of arena ids)) comment

pub counts_all : (arena : Contents) (ids : List ℕ) → length (code_of arena ids) ≡ count_of arena ids
counts_all arena ids =
    length-map (code_places_from 0 (classes_of arena ids)) (token_at arena ids (classes_of arena ids) (partners_in arena ids))
    ∙ places_count 0 (classes_of arena ids)

cut_classes : (arena : Contents) (ids before : List ℕ) (id : ℕ) (after : List ℕ) → ids ≡ before ++ id ∷ after
    → classes_of arena ids ≡ classes_of arena before ++ item_class arena id ∷ classes_of arena after
cut_classes arena ids before id after split = ap (classes_of arena) split ∙ map-append (item_class arena) before (id ∷ after)

-- the token of an item that is no comment
pub token_there : (arena : Contents) (ids before : List ℕ) (id : ℕ) (after : List ℕ) → ids ≡ before ++ id ∷ after → is_comment (item_class arena id) ≡ false
    → slice_get (code_of arena ids) (count_of arena before) ≡ Some (token_at arena ids (classes_of arena ids) (partners_in arena ids) (length before))
token_there arena ids before id after split code =
    let token : ℕ → CodeToken = token_at arena ids (classes_of arena ids) (partners_in arena ids) in
    let e : 0 + length (classes_of arena before) ≡ length before = omega (arith, length-map before (item_class arena)) in
    ap (λ (classes : List TokenClass). slice_get (map token (code_places_from 0 classes)) (count_of arena before)) (cut_classes arena ids before id after split)
    ∙ (slice_get-map token (code_places_from 0 (classes_of arena before ++ item_class arena id ∷ classes_of arena after)) (count_of arena before)
    ∙ (ap (option_map token) (places_there 0 (classes_of arena before) (item_class arena id) (classes_of arena after) code)
    ∙ ap (λ n. Some (token n)) e))

pub class_there : (arena : Contents) (ids before : List ℕ) (id : ℕ) (after : List ℕ) → ids ≡ before ++ id ∷ after
    → get_or (classes_of arena ids) (length before) Nothing ≡ item_class arena id
class_there arena ids before id after split =
    ap (λ (classes : List TokenClass). get_or classes (length before) Nothing) (cut_classes arena ids before id after split)
    ∙ (ap (λ n. get_or (classes_of arena before ++ item_class arena id ∷ classes_of arena after) n Nothing) (sym (length-map before (item_class arena)))
    ∙ get_or-append_seam (classes_of arena before) (item_class arena id) (classes_of arena after) Nothing)

-- its class
pub code_class : (arena : Contents) (ids before : List ℕ) (id : ℕ) (after : List ℕ) → ids ≡ before ++ id ∷ after → is_comment (item_class arena id) ≡ false
    → class_at (code_of arena ids) (count_of arena before) ≡ item_class arena id
code_class arena ids before id after split code = ap class_of (token_there arena ids before id after split code) ∙ class_there arena ids before id after split

-- it is one of them
pub code_within : (arena : Contents) (ids before : List ℕ) (id : ℕ) (after : List ℕ) → ids ≡ before ++ id ∷ after → is_comment (item_class arena id) ≡ false
    → count_of arena before < length (code_of arena ids)
code_within arena ids before id after split code =
    let all : length (code_of arena ids) ≡ count_of arena (before ++ id ∷ after) = counts_all arena ids ∙ ap (count_of arena) split in
    let parts = counts_on arena before (id ∷ after) in
    let one = counts_one arena id after code in
    omega (arith, all, parts, one)

pub number_there : (arena : Contents) (ids before : List ℕ) (id : ℕ) (after : List ℕ) → ids ≡ before ++ id ∷ after
    → slice_get (numbers_of (classes_of arena ids)) (length before) ≡ Some (count_of arena before)
number_there arena ids before id after split =
    let e : 0 + count_of arena before ≡ count_of arena before = omega arith in
    ap (λ (classes : List TokenClass). slice_get (numbers_of classes) (length before)) (cut_classes arena ids before id after split)
    ∙ (ap (λ n. slice_get (numbers_of (classes_of arena before ++ item_class arena id ∷ classes_of arena after)) n) (sym (length-map before (item_class arena)))
    ∙ (numbers_there 0 (classes_of arena before) (item_class arena id) (classes_of arena after) ∙ ap (λ n. Some n) e))

-- its partner, where that is the item that stands behind these
pub code_partner : (arena : Contents) (ids before inner : List ℕ) (id partner : ℕ) (after : List ℕ) (place : ℕ)
    → ids ≡ (before ++ id ∷ inner) ++ partner ∷ after → place ≡ length (before ++ id ∷ inner)
    → is_comment (item_class arena id) ≡ false → is_comment (item_class arena partner) ≡ false
    → slice_get (partners_in arena ids) (length before) ≡ Some (Some place)
    → partner_in (code_of arena ids) (length (code_of arena ids)) (count_of arena before) ≡ Some (count_of arena (before ++ id ∷ inner))
code_partner arena ids before inner id partner after place split stands code closes found =
    let first : ids ≡ before ++ id ∷ (inner ++ partner ∷ after) = split ∙ append_assoc before (id ∷ inner) (partner ∷ after) in
    let count : ℕ = count_of arena before in
    let end : ℕ = length (code_of arena ids) in
    let last : ℕ = count_of arena (before ++ id ∷ inner) in
    let later : count < last = omega (arith, counts_on arena before (id ∷ inner), counts_one arena id inner code) in
    let low : last < end = code_within arena ids (before ++ id ∷ inner) partner after split closes in
    ap (λ (t : Option CodeToken). within count end (partner_of t)) (token_there arena ids before id (inner ++ partner ∷ after) first code)
    ∙ (ap (λ (p : Option (Option ℕ)). within count end (partner_number (numbers_of (classes_of arena ids)) p)) found
    ∙ (ap (λ n. within count end (slice_get (numbers_of (classes_of arena ids)) n)) stands
    ∙ (ap (within count end) (number_there arena ids (before ++ id ∷ inner) partner after split) ∙ within_from count end last later low)))
