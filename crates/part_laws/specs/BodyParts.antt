-- Parts of a view that may end in bodies, and where declarations end.
use Rattle.std.specs.Prelude.{◌≡◌, ℕ, ◌+◌, if◌then◌else◌, Some, None, List, [], ◌∷◌, drop}
use Rattle.token_arena.specs.Gaps.{Contents}
use Rattle.view_parts.specs.Parts.{Ended, PartStop, FollowUpTo, end_of_part, part_ends}
use Rattle.part_walk.specs.Walk.{is_outside}
use Rattle.part_laws.specs.Declarations.{start, next_end, first_len, declaration_ends}

-- Where a part that begins outside brackets ends outside brackets, a declaration ends.
abbrev pub DeclarationEnds : Type 0
DeclarationEnds =
    (arena : Contents) (ids : List ℕ) (ended : Ended) → end_of_part arena None ids ≡ Some ended → ended.inside ≡ None
    → next_end arena start [] ids ≡ Some ended.count

-- the places of those ends that are in no body
abbrev pub ends_outside : List PartStop → List ℕ
ends_outside [] = []
ends_outside (stop ∷ stops) = if is_outside stop.inside then stop.end ∷ ends_outside stops else ends_outside stops

-- The declarations of a view end where its parts do that end in no body.
abbrev pub DeclarationsStay : Type 0
DeclarationsStay = (arena : Contents) (ids : List ℕ) → ends_outside (part_ends arena ids) ≡ declaration_ends arena ids

-- declarations that begin at this place end at these places, one behind another, the last at this one
abbrev pub FollowDeclarations : Contents → List ℕ → ℕ → ℕ → List ℕ → Type 0
FollowDeclarations arena view first last [] = first ≡ last
FollowDeclarations arena view first last (end ∷ ends) =
    (end ≡ first + first_len arena (drop first view)) × FollowDeclarations arena view end last ends

-- Where parts follow one another, from outside brackets up to an end outside brackets, declarations end where they do
-- that end in no body.
abbrev pub DeclarationsFollow : Type 0
DeclarationsFollow =
    (arena : Contents) (view : List ℕ) (first : ℕ) (last : PartStop) (stops : List PartStop) →
    FollowUpTo arena view None first last stops
    → last.inside ≡ None → FollowDeclarations arena view first last.end (ends_outside stops)
