-- The tokens of two runs of items that are no comments: those of the first by themselves, and then those of the second.
use Rattle.std.proofs.Common.{◌≡◌, ◌∙◌, ℕ, zero, suc, ◌+◌, ◌<◌, true, false, ◌&&◌, Option, Some, None, List, [], ◌∷◌}
use Rattle.std.proofs.Common.{◌++◌, length, map, get_or, refl, sym, ap, subst, arith}
use Rattle.std.specs.Prelude.{slice_get, if◌then◌else◌, ⊤}
use Rattle.std.proofs.lemmas.List.{map-append, length-map, get_or-append-add}
use Rattle.std.proofs.Math.ListN.{get_or-append}
use Rattle.token_arena.specs.Gaps.{Contents, item_began}
use Rattle.token_classes.specs.declared.class.TokenClass.{TokenClass}
use Rattle.token_classes.specs.declared.class.TokenClass.TheVariants.{Nothing}
use Rattle.token_classes.specs.Classes.{is_colon, is_comment}
use Rattle.item_classes.specs.Viewed.{item_class, classes_of}
use Rattle.statement_lines.specs.declared.token.CodeToken.{CodeToken}
use Rattle.unwrapped_lines.specs.Viewed.{colon_touches, numbers_from, numbers_of, partner_number, token_at}
use Rattle.unwrapped_lines.specs.Viewed.{code_places_from, code_tokens}
use Rattle.unwrapped_lines.proofs.NumberLemmas.{numbers_count}
use Rattle.part_laws.specs.LinesCut.{partner_behind, partners_in}
use Rattle.part_laws.proofs.CodeCut.{token_behind, code_of}
use Rattle.part_laws.proofs.Places.{slice_before, slice_behind}
use Rattle.std.proofs.lemmas.Option.{slice_get-map}
use Rattle.std.specs.Option.{option_map}
use Rattle.part_laws.proofs.Counted.{code_count, numbers_on, places_on, places_count}
use Rattle.part_laws.proofs.Matchings.{IsBelow, AreBelow, partners_below, partners_count}

-- ## Their numbers

numbers_behind : (n k : ℕ) (classes : List TokenClass) → numbers_from (n + k) classes ≡ map (λ (j : ℕ). n + j) (numbers_from k classes)
numbers_behind n k [] = refl
numbers_behind n k (class ∷ classes) =
    elim (is_comment class) as (λ b. (n + k) ∷ numbers_from (if b then n + k else n + k + 1) classes ≡ (n + k) ∷ map (λ (j : ℕ). n + j)
    (numbers_from (if b then k else k + 1) classes)) [
      | true ↦ ap (λ (ks : List ℕ). (n + k) ∷ ks) (numbers_behind n k classes)
      | false ↦
          let same : n + k + 1 ≡ n + (k + 1) = omega arith in
          ap (λ (ks : List ℕ). (n + k) ∷ ks) (ap (λ (j : ℕ). numbers_from j classes) same ∙ numbers_behind n (k + 1) classes)
    ]

-- ## What stands at the places

told_alike : (f g : ℕ → CodeToken) (k : ℕ) (classes : List TokenClass) → ((j : ℕ) → k + j < k + length classes → f (k + j) ≡ g (k + j))
    → map f (code_places_from k classes) ≡ map g (code_places_from k classes)
told_alike f g k [] same = refl
told_alike f g k (class ∷ classes) same =
    let here : f k ≡ g k = subst (λ (i : ℕ). f i ≡ g i) (omega arith) (same 0 (omega arith)) in
    let rest = told_alike f g (k + 1) classes (λ j h. subst (λ (i : ℕ). f i ≡ g i) (omega arith) (same (suc j) (omega (arith, h)))) in
    elim (is_comment class) as (λ b. map f (if b then code_places_from (k + 1) classes else k ∷ code_places_from (k + 1) classes) ≡ map g
    (if b then code_places_from (k + 1) classes else k ∷ code_places_from (k + 1) classes)) [
      | true ↦ rest
      | false ↦ ap (λ (t : CodeToken). t ∷ map f (code_places_from (k + 1) classes)) here ∙ ap (λ (ts : List CodeToken). g k ∷ ts) rest
    ]

told_behind : (f g : ℕ → CodeToken) (h : CodeToken → CodeToken) (n k : ℕ) (classes : List TokenClass) → ((j : ℕ) → f (n + (k + j)) ≡ h (g (k + j)))
    → map f (code_places_from (n + k) classes) ≡ map h (map g (code_places_from k classes))
told_behind f g h n k [] same = refl
told_behind f g h n k (class ∷ classes) same =
    let none : k + 0 ≡ k = omega arith in
    let here : f (n + k) ≡ h (g k) = subst (λ (i : ℕ). f (n + i) ≡ h (g i)) none (same 0) in
    let on : n + k + 1 ≡ n + (k + 1) = omega arith in
    let later : (j : ℕ) → f (n + (k + 1 + j)) ≡ h (g (k + 1 + j)) =
    λ j. (let one : k + suc j ≡ k + 1 + j = omega arith in subst (λ (i : ℕ). f (n + i) ≡ h (g i)) one (same (suc j))) in
    let rest = ap (λ (i : ℕ). map f (code_places_from i classes)) on ∙ told_behind f g h n (k + 1) classes later in
    elim (is_comment class) as (λ b. map f (if b then code_places_from (n + k + 1) classes else (n + k) ∷ code_places_from (n + k + 1) classes) ≡ map h
    (map g (if b then code_places_from (k + 1) classes else k ∷ code_places_from (k + 1) classes))) [
      | true ↦ rest
      | false ↦ ap (λ (t : CodeToken). t ∷ map f (code_places_from (n + k + 1) classes)) here ∙ ap (λ (ts : List CodeToken). h (g k) ∷ ts) rest
    ]

-- a token of this class, this item and this partner
abbrev told : Contents → TokenClass → ℕ → Option ℕ → CodeToken
told arena class id partner = record { class = class; began = item_began arena id; touched = is_colon class && colon_touches arena id; partner = partner }

told_same : (arena : Contents) (c d : TokenClass) (i j : ℕ) (p q : Option ℕ) → c ≡ d → i ≡ j → p ≡ q → told arena c i p ≡ told arena d j q
told_same arena c d i j p q class item partner =
    ap (λ (x : TokenClass). told arena x i p) class ∙ (ap (λ (x : ℕ). told arena d x p) item ∙ ap (told arena d j) partner)

-- ## The first items

abbrev FoundBelow : ℕ → Option (Option ℕ) → Type 0
FoundBelow count None = ⊤
FoundBelow count (Some partner) = IsBelow count partner

below_at : (count : ℕ) (partners : List (Option ℕ)) (k : ℕ) → AreBelow count partners → FoundBelow count (slice_get partners k)
below_at count [] k all = tt
below_at count (partner ∷ partners) zero all = all.0
below_at count (partner ∷ partners) (suc k) all = below_at count partners k all.1

number_before : (numbers later : List ℕ) (found : Option (Option ℕ)) → FoundBelow (length numbers) found
    → partner_number (numbers ++ later) found ≡ partner_number numbers found
number_before numbers later None below = refl
number_before numbers later (Some None) below = refl
number_before numbers later (Some (Some place)) below = slice_before numbers later place below

-- ## The items behind them

number_there : (count : ℕ) (numbers : List ℕ) (k : ℕ) → slice_get (map (λ (j : ℕ). count + j) numbers) k ≡ partner_behind count (slice_get numbers k)
number_there count [] k = refl
number_there count (number ∷ numbers) zero = refl
number_there count (number ∷ numbers) (suc k) = number_there count numbers k

number_behind : (count : ℕ) (early numbers : List ℕ) (found : Option (Option ℕ))
    → partner_number (early ++ map (λ (j : ℕ). count + j) numbers) (option_map (partner_behind (length early)) found)
    ≡ partner_behind count (partner_number numbers found)
number_behind count early numbers None = refl
number_behind count early numbers (Some None) = refl
number_behind count early numbers (Some (Some place)) = slice_behind early (map (λ (j : ℕ). count + j) numbers) place ∙ number_there count numbers place

-- ## Both

pub code_of_both : (arena : Contents) (earlier later : List ℕ) (partners : List (Option ℕ))
    → partners ≡ partners_in arena earlier ++ map (partner_behind (length earlier)) (partners_in arena later)
    → code_tokens arena (earlier ++ later) (classes_of arena (earlier ++ later)) partners
    ≡ code_of arena earlier ++ map (token_behind (length (code_of arena earlier))) (code_of arena later)
code_of_both arena earlier later partners are =
    ap (λ (cs : List TokenClass). code_tokens arena (earlier ++ later) cs partners) (map-append (item_class arena) earlier later)
    ∙ (ap (λ (ps : List (Option ℕ)). code_tokens arena (earlier ++ later) (ce ++ cl) ps) are
    ∙ (ap (map all) (places_on 0 ce cl)
    ∙ (map-append all (code_places_from 0 ce) (code_places_from (0 + length ce) cl)
    ∙ (ap (λ (ts : List CodeToken). ts ++ map all (code_places_from (0 + length ce) cl))
    (told_alike all (token_at arena earlier ce pe) 0 ce (λ j h. before (0 + j) (omega (arith, h))))
    ∙ ap (λ (ts : List CodeToken). code_of arena earlier ++ ts) second))))
  where
    ce : List TokenClass
    ce = classes_of arena earlier

    cl : List TokenClass
    cl = classes_of arena later

    pe : List (Option ℕ)
    pe = partners_in arena earlier

    pl : List (Option ℕ)
    pl = partners_in arena later

    n : ℕ
    n = length earlier

    count : ℕ
    count = length (code_of arena earlier)

    all : ℕ → CodeToken
    all = token_at arena (earlier ++ later) (ce ++ cl) (pe ++ map (partner_behind n) pl)

    as_many : length ce ≡ n
    as_many = length-map earlier (item_class arena)

    counted : count ≡ code_count ce
    counted = length-map (code_places_from 0 ce) (token_at arena earlier ce pe) ∙ places_count 0 ce

    numbered : numbers_of (ce ++ cl) ≡ numbers_of ce ++ map (λ (j : ℕ). count + j) (numbers_of cl)
    numbered =
        let same : 0 + code_count ce ≡ count + 0 = omega (arith, counted) in
        numbers_on 0 ce cl ∙ ap (λ (ks : List ℕ). numbers_of ce ++ ks) (ap (λ (k : ℕ). numbers_from k cl) same ∙ numbers_behind count 0 cl)

    before : (j : ℕ) → j < length ce → all j ≡ token_at arena earlier ce pe j
    before j within =
        let found : slice_get (pe ++ map (partner_behind n) pl) j ≡ slice_get pe j =
        slice_before pe (map (partner_behind n) pl) j (omega (arith, within, partners_count ce)) in
        let below : FoundBelow (length (numbers_of ce)) (slice_get pe j) =
        below_at (length (numbers_of ce)) pe j (subst (λ (k : ℕ). AreBelow k pe) (sym (numbers_count 0 ce)) (partners_below ce)) in
        told_same arena (get_or (ce ++ cl) j Nothing) (get_or ce j Nothing) (get_or (earlier ++ later) j 0) (get_or earlier j 0)
        (partner_number (numbers_of (ce ++ cl)) (slice_get (pe ++ map (partner_behind n) pl) j)) (partner_number (numbers_of ce) (slice_get pe j))
        (get_or-append ce cl Nothing j within) (get_or-append earlier later 0 j (omega (arith, within, as_many)))
        (ap (λ (ks : List ℕ). partner_number ks (slice_get (pe ++ map (partner_behind n) pl) j)) numbered
        ∙ (ap (partner_number (numbers_of ce ++ map (λ (k : ℕ). count + k) (numbers_of cl))) found
        ∙ number_before (numbers_of ce) (map (λ (k : ℕ). count + k) (numbers_of cl)) (slice_get pe j) below))

    there : (j : ℕ) → all (length ce + j) ≡ token_behind count (token_at arena later cl pl j)
    there j =
        let place : length ce + j ≡ n + j = omega (arith, as_many) in
        let many : length ce + j ≡ length pe + j = omega (arith, partners_count ce) in
        let item : get_or (earlier ++ later) (length ce + j) 0 ≡ get_or later j 0 = ap (λ (k : ℕ). get_or (earlier ++ later) k 0) place
        ∙ get_or-append-add earlier later j 0 in
        let found : slice_get (pe ++ map (partner_behind n) pl) (length ce + j) ≡ option_map (partner_behind n) (slice_get pl j) =
        ap (slice_get (pe ++ map (partner_behind n) pl)) many ∙ (slice_behind pe (map (partner_behind n) pl) j ∙ slice_get-map (partner_behind n) pl j) in
        let length_is : n ≡ length (numbers_of ce) = omega (arith, as_many, numbers_count 0 ce) in
        told_same arena (get_or (ce ++ cl) (length ce + j) Nothing) (get_or cl j Nothing) (get_or (earlier ++ later) (length ce + j) 0) (get_or later j 0)
        (partner_number (numbers_of (ce ++ cl)) (slice_get (pe ++ map (partner_behind n) pl) (length ce + j)))
        (partner_behind count (partner_number (numbers_of cl) (slice_get pl j))) (get_or-append-add ce cl j Nothing) item
        (ap (λ (ks : List ℕ). partner_number ks (slice_get (pe ++ map (partner_behind n) pl) (length ce + j))) numbered
        ∙ (ap (partner_number (numbers_of ce ++ map (λ (k : ℕ). count + k) (numbers_of cl)))
        (found ∙ ap (λ (k : ℕ). option_map (partner_behind k) (slice_get pl j)) length_is)
        ∙ number_behind count (numbers_of ce) (numbers_of cl) (slice_get pl j)))

    second : map all (code_places_from (0 + length ce) cl) ≡ map (token_behind count) (code_of arena later)
    second =
        let place : 0 + length ce ≡ length ce + 0 = omega arith in
        ap (λ (k : ℕ). map all (code_places_from k cl)) place
        ∙ told_behind all (token_at arena later cl pl) (token_behind count) (length ce) 0 cl (λ j. there (0 + j))
