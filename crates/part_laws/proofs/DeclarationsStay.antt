-- Declarations end where the parts of a view do that end in no body.
use Rattle.std.proofs.Common.{◌≡◌, ◌∙◌, ℕ, zero, suc, ◌+◌, ◌-◌, ◌<◌, ◌≤◌, Bool, true, false, nat_lt, Option, Some, None, List, [], ◌∷◌, length, drop, refl, sym, ap, subst, arith}
use Rattle.std.specs.Prelude.{if◌then◌else◌}
use Rattle.std.proofs.lemmas.Bool.{le-ltb, lt-ltb, ltb-false, ltb-true}
use Rattle.std.proofs.lemmas.List.{drop-drop, length-drop}
use Rattle.token_arena.specs.Gaps.{Contents}
use Rattle.part_walk.specs.Places.{Place}
use Rattle.view_parts.specs.Parts.{Ended, PartStop, end_of_part, count_or, inside_of, stop_from, ends_from as part_ends_from}
use Rattle.part_laws.specs.Declarations.{start, next_end, or_all, first_len, ends_from}
use Rattle.part_laws.specs.BodyParts.{DeclarationEnds, ends_outside, DeclarationsStay}
use Rattle.part_laws.proofs.PartSteps.{EndsFrom, Tells, TellsEnd, tells_outer, tells_inner}

-- ## The first part

pub declaration_ends_so : DeclarationEnds
declaration_ends_so arena ids ended is outside =
    let told : TellsEnd arena (next_end arena start [] ids) 0 ids (Some ended) =
    subst (λ (end : Option Ended). TellsEnd arena (next_end arena start [] ids) 0 ids end) is (tells_outer arena ids) in
    let there : next_end arena start [] ids ≡ Some (0 + ended.count) =
    subst (λ (inside : Option Place). Tells arena (next_end arena start [] ids) 0 ids ended.count inside) outside told.1 in
    let same : 0 + ended.count ≡ ended.count = omega arith in
    there ∙ ap (λ (n : ℕ). Some n) same

-- ## All parts

-- nothing ends behind the last item
no_declaration : (m : ℕ) (arena : Contents) (ids : List ℕ) (first : ℕ) → length ids ≤ first → ends_from m arena ids first ≡ []
no_declaration zero arena ids first past = refl
no_declaration (suc m) arena ids first past =
    ap (λ (b : Bool). if b then (first + first_len arena (drop first ids)) ∷ ends_from m arena ids (first + first_len arena (drop first ids)) else [])
    (le-ltb first (length ids) past)

no_part : (n : ℕ) (arena : Contents) (ids : List ℕ) (begins : Option Place) (first : ℕ) → length ids ≤ first → part_ends_from n arena ids begins first ≡ []
no_part zero arena ids begins first past = refl
no_part (suc n) arena ids begins first past =
    let stop : PartStop = stop_from arena ids begins first in
    ap (λ (b : Bool). if b then stop_from arena ids begins first ∷ part_ends_from n arena ids stop.inside stop.end else []) (le-ltb first (length ids) past)

-- the part from this place on begins outside brackets with the next declaration, or in its body
abbrev pub Begins : Contents → List ℕ → Option Place → ℕ → ℕ → Type 0
Begins arena ids None from k = k ≡ 0
Begins arena ids (Some place) from k = (from + k < length ids) × EndsFrom arena (next_end arena start [] (drop from ids)) k place (drop (from + k) ids)

-- what it tells of the declarations that begin before it
pub told_there : (arena : Contents) (ids : List ℕ) (begins : Option Place) (from k : ℕ) → Begins arena ids begins from k
    → TellsEnd arena (next_end arena start [] (drop from ids)) k (drop (from + k) ids) (end_of_part arena begins (drop (from + k) ids))
told_there arena ids None from k none =
    let here : from + 0 ≡ from = omega arith in
    subst (λ (n : ℕ). TellsEnd arena (next_end arena start [] (drop from ids)) n (drop (from + n) ids) (end_of_part arena None (drop (from + n) ids))) (sym none)
    (subst (λ (n : ℕ). TellsEnd arena (next_end arena start [] (drop from ids)) 0 (drop n ids) (end_of_part arena None (drop n ids))) (sym here)
    (tells_outer arena (drop from ids)))
told_there arena ids (Some place) from k there = tells_inner arena (next_end arena start [] (drop from ids)) k place (drop (from + k) ids) there.1

-- the declarations that begin there end so, where the first of them does behind so many items
abbrev DeclarationsFrom : ℕ → Contents → List ℕ → ℕ → Option ℕ → List ℕ
DeclarationsFrom m arena ids from end = (from + or_all end (length (drop from ids))) ∷ ends_from m arena ids (from + or_all end (length (drop from ids)))

-- the parts from a place on, where the next one ends so
abbrev PartsFrom : ℕ → Contents → List ℕ → ℕ → Option Ended → List PartStop
PartsFrom n arena ids first end =
    let stop : PartStop = record { end = first + count_or end (length (drop first ids)); inside = inside_of end } in
    stop ∷ part_ends_from n arena ids stop.inside stop.end

-- so many of what is left suffice
abbrev Rest : ℕ → Contents → List ℕ → Type 0
Rest n arena ids = (m : ℕ) (begins : Option Place) (from k : ℕ) → length ids - (from + k) ≤ n → length ids - from ≤ m → Begins arena ids begins from k
    → ends_outside (part_ends_from n arena ids begins (from + k)) ≡ ends_from m arena ids from

by_declaration : (m : ℕ) (arena : Contents) (ids : List ℕ) (from : ℕ) → from < length ids
    → DeclarationsFrom m arena ids from (next_end arena start [] (drop from ids)) ≡ ends_from (suc m) arena ids from
by_declaration m arena ids from within =
    ap (λ (b : Bool). if b then (from + first_len arena (drop from ids)) ∷ ends_from m arena ids (from + first_len arena (drop from ids)) else [])
    (sym (lt-ltb from (length ids) within))

next_part : (n m : ℕ) (arena : Contents) (ids : List ℕ) (from k : ℕ) (end : Option Ended) → from + k < length ids → length ids - (from + k) ≤ suc n
    → length ids - from ≤ suc m → TellsEnd arena (next_end arena start [] (drop from ids)) k (drop (from + k) ids) end → Rest n arena ids
    → ends_outside (PartsFrom n arena ids (from + k) end) ≡ ends_from (suc m) arena ids from
next_part n m arena ids from k None within few enough told on =
    let first : ℕ = from + k in
    let last : from + k + length (drop (from + k) ids) ≡ length ids = omega (arith, length-drop (from + k) ids, within) in
    let same : from + length (drop from ids) ≡ length ids = omega (arith, length-drop from ids, within) in
    let past : length ids ≤ from + k + length (drop (from + k) ids) = omega (arith, last) in
    let beyond : length ids ≤ from + length (drop from ids) = omega (arith, same) in
    ap (λ (stops : List PartStop). (from + k + length (drop (from + k) ids)) ∷ ends_outside stops) (no_part n arena ids None (from + k + length (drop (from + k) ids)) past)
    ∙ (ap (λ (end : ℕ). end ∷ []) (last ∙ sym same)
    ∙ (ap (λ (ends : List ℕ). (from + length (drop from ids)) ∷ ends) (sym (no_declaration m arena ids (from + length (drop from ids)) beyond))
    ∙ (ap (λ (end : Option ℕ). DeclarationsFrom m arena ids from end) (sym told) ∙ by_declaration m arena ids from (omega (arith, within)))))
next_part n m arena ids from k (Some ended) within few enough told on = by_inside ended.inside told.1
  where
    by_inside : (inside : Option Place) → Tells arena (next_end arena start [] (drop from ids)) k (drop (from + k) ids) ended.count inside
        → ends_outside (PartsFrom n arena ids (from + k) (Some (record { count = ended.count; inside = inside }))) ≡ ends_from (suc m) arena ids from
    by_inside None there =
        let end : ℕ = from + k + ended.count in
        let same : from + k + ended.count ≡ from + (k + ended.count) = omega arith in
        let here : from + k + ended.count + 0 ≡ from + k + ended.count = omega arith in
        let rest : ends_outside (part_ends_from n arena ids None (from + k + ended.count + 0)) ≡ ends_from m arena ids (from + k + ended.count) =
        on m None (from + k + ended.count) 0 (omega (arith, few, told.0)) (omega (arith, enough, told.0)) refl in
        ap (λ (at : ℕ). (from + k + ended.count) ∷ ends_outside (part_ends_from n arena ids None at)) (sym here)
        ∙ (ap (λ (ends : List ℕ). (from + k + ended.count) ∷ ends) rest
        ∙ (ap (λ (at : ℕ). at ∷ ends_from m arena ids at) same
        ∙ (ap (λ (end : Option ℕ). DeclarationsFrom m arena ids from end) (sym there) ∙ by_declaration m arena ids from (omega (arith, within)))))
    by_inside (Some place) there =
        let same : from + (k + ended.count) ≡ from + k + ended.count = omega arith in
        let below : from + (k + ended.count) < length ids = omega (arith, there.0, length-drop (from + k) ids, within) in
        ap (λ (at : ℕ). ends_outside (part_ends_from n arena ids (Some place) at)) (sym same)
        ∙ on (suc m) (Some place) from (k + ended.count) (omega (arith, few, told.0)) enough (
          below,
          subst (λ (xs : List ℕ). EndsFrom arena (next_end arena start [] (drop from ids)) (k + ended.count) place xs)
              (drop-drop ended.count (from + k) ids ∙ ap (λ (at : ℕ). drop at ids) (sym same)) there.1,
        )

part_after_part : (n : ℕ) (arena : Contents) (ids : List ℕ) → Rest n arena ids
part_after_part zero arena ids m None from k few enough none =
    let past : length ids ≤ from = omega (arith, few, none) in
    sym (no_declaration m arena ids from past)
part_after_part zero arena ids m (Some place) from k few enough there = absurd (omega (arith, few, there.0))
part_after_part (suc n) arena ids m begins from k few enough there =
    by_here (nat_lt (from + k) (length ids)) refl m enough (part_after_part n arena ids)
  where
    out : (from k : ℕ) → k ≡ 0 → nat_lt (from + k) (length ids) ≡ false → length ids ≤ from
    out from k none past = omega (arith, ltb-false (from + k) (length ids) past, none)

    beyond : (begins : Option Place) → Begins arena ids begins from k → nat_lt (from + k) (length ids) ≡ false → length ids ≤ from
    beyond None none past = out from k none past
    beyond (Some place) there past = absurd (omega (arith, ltb-false (from + k) (length ids) past, there.0))

    by_here : (here : Bool) → nat_lt (from + k) (length ids) ≡ here → (m : ℕ) → length ids - from ≤ m → Rest n arena ids
        → ends_outside (if here then PartsFrom n arena ids (from + k) (end_of_part arena begins (drop (from + k) ids)) else []) ≡ ends_from m arena ids from
    by_here false past m enough on = sym (no_declaration m arena ids from (beyond begins there past))
    by_here true within zero enough on = absurd (omega (arith, ltb-true (from + k) (length ids) within, enough))
    by_here true within (suc m) enough on =
        next_part n m arena ids from k (end_of_part arena begins (drop (from + k) ids)) (ltb-true (from + k) (length ids) within) few enough
        (told_there arena ids begins from k there) on

pub declarations_stay : DeclarationsStay
declarations_stay arena ids =
    part_after_part (length ids) arena ids (length ids) None 0 0 (omega arith) (omega arith) refl
