-- Where parts follow one another up to an end outside brackets, declarations do.
use Rattle.std.proofs.Common.{◌≡◌, ◌∙◌, ℕ, ◌+◌, ◌<◌, Option, Some, None, List, [], ◌∷◌, length, drop, refl, sym, ap, subst, arith}
use Rattle.std.proofs.lemmas.List.{drop-drop, length-drop}
use Rattle.token_arena.specs.Gaps.{Contents}
use Rattle.part_walk.specs.Places.{Place}
use Rattle.view_parts.specs.Parts.{Ended, PartStop, FollowUpTo, end_of_part, count_or, inside_of}
use Rattle.part_laws.specs.Declarations.{start, next_end, or_all, first_len}
use Rattle.part_laws.specs.BodyParts.{FollowDeclarations, DeclarationsFollow, ends_outside}
use Rattle.part_laws.proofs.PartSteps.{EndsFrom, Tells, TellsEnd}
use Rattle.part_laws.proofs.DeclarationsStay.{Begins, told_there}

-- what is to be told of parts from a place on
abbrev Tell : Contents → List ℕ → PartStop → List PartStop → Type 0
Tell arena ids last stops = (begins : Option Place) (from k : ℕ) → Begins arena ids begins from k → FollowUpTo arena ids begins (from + k) last stops
    → FollowDeclarations arena ids from last.end (ends_outside stops)

-- the part from this place on, where it ends so
abbrev stop_of : ℕ → List ℕ → Option Ended → PartStop
stop_of first ids end = record { end = first + count_or end (length (drop first ids)); inside = inside_of end }

-- the parts behind one that ends outside brackets
from_there : (arena : Contents) (ids : List ℕ) (from end : ℕ) (last : PartStop) (stops : List PartStop) → Tell arena ids last stops
    → end ≡ from + first_len arena (drop from ids) → FollowUpTo arena ids None end last stops
    → FollowDeclarations arena ids from last.end (end ∷ ends_outside stops)
from_there arena ids from end last stops on is follow =
    let here : end ≡ end + 0 = omega arith in
    (is, on None end 0 refl (subst (λ (at : ℕ). FollowUpTo arena ids None at last stops) here follow))

next_part : (arena : Contents) (ids : List ℕ) (from k : ℕ) (end : Option Ended) (last : PartStop) (stops : List PartStop) → from + k < length ids
    → TellsEnd arena (next_end arena start [] (drop from ids)) k (drop (from + k) ids) end → Tell arena ids last stops
    → FollowUpTo arena ids (inside_of end) (from + k + count_or end (length (drop (from + k) ids))) last stops
    → FollowDeclarations arena ids from last.end (ends_outside (stop_of (from + k) ids end ∷ stops))
next_part arena ids from k None last stops within told on follow =
    let all : from + k + length (drop (from + k) ids) ≡ from + length (drop from ids) = omega (arith, length-drop (from + k) ids, length-drop from ids, within) in
    from_there arena ids from (from + k + length (drop (from + k) ids)) last stops on
    (all ∙ ap (λ (end : Option ℕ). from + or_all end (length (drop from ids))) (sym told)) follow
next_part arena ids from k (Some ended) last stops within told on follow = by_inside ended.inside told.1 follow
  where
    by_inside : (inside : Option Place) → Tells arena (next_end arena start [] (drop from ids)) k (drop (from + k) ids) ended.count inside
        → FollowUpTo arena ids inside (from + k + ended.count) last stops
        → FollowDeclarations arena ids from last.end (ends_outside (record { end = from + k + ended.count; inside = inside } ∷ stops))
    by_inside None there follow =
        let all : from + k + ended.count ≡ from + (k + ended.count) = omega arith in
        from_there arena ids from (from + k + ended.count) last stops on
        (all ∙ ap (λ (end : Option ℕ). from + or_all end (length (drop from ids))) (sym there)) follow
    by_inside (Some place) there follow =
        let same : from + (k + ended.count) ≡ from + k + ended.count = omega arith in
        let below : from + (k + ended.count) < length ids = omega (arith, there.0, length-drop (from + k) ids, within) in
        on (Some place) from (k + ended.count) (
          below,
          subst (λ (xs : List ℕ). EndsFrom arena (next_end arena start [] (drop from ids)) (k + ended.count) place xs)
              (drop-drop ended.count (from + k) ids ∙ ap (λ (at : ℕ). drop at ids) (sym same)) there.1,
        )
        (subst (λ (at : ℕ). FollowUpTo arena ids (Some place) at last stops) (sym same) follow)

tell_all : (arena : Contents) (ids : List ℕ) (last : PartStop) (stops : List PartStop) → last.inside ≡ None → Tell arena ids last stops
tell_all arena ids last [] outside None from k none follow =
    let here : from ≡ from + k = omega (arith, none) in
    here ∙ ap (λ (stop : PartStop). stop.end) follow
tell_all arena ids last [] outside (Some place) from k there follow =
    (let both : Some place ≡ None = ap (λ (stop : PartStop). stop.inside) follow ∙ outside in cc)
tell_all arena ids last (stop ∷ stops) outside begins from k there follow =
    subst (λ (it : PartStop). FollowDeclarations arena ids from last.end (ends_outside (it ∷ stops))) (sym follow.2)
    (next_part arena ids from k (end_of_part arena begins (drop (from + k) ids)) last stops follow.0 (told_there arena ids begins from k there)
    (tell_all arena ids last stops outside)
    (subst (λ (it : PartStop). FollowUpTo arena ids it.inside it.end last stops) follow.2 follow.3))

pub declarations_follow : DeclarationsFollow
declarations_follow arena ids first last stops follow outside =
    let here : first ≡ first + 0 = omega arith in
    tell_all arena ids last stops outside None first 0 refl (subst (λ (at : ℕ). FollowUpTo arena ids None at last stops) here follow)
