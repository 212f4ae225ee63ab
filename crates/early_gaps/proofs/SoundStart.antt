-- What is decided before the runs may stand.
use Rattle.std.proofs.Common.{◌≡◌, ◌∙◌, ◌==◌, not, ◌&&◌, ℕ, zero, suc, ◌+◌, ◌∷◌, [], ◌++◌, Bool, true, false, Option}
use Rattle.std.proofs.Common.{Some, None, List, length, replicate, refl, sym, arith, subst}
use Rattle.std.specs.Prelude.{if◌then◌else◌}
use Rattle.std.proofs.lemmas.Option.{slice_get_past}
use Rattle.style_table.specs.declared.style.Style.{Style}
use Rattle.token_arena.specs.Stored.{Stored}
use Rattle.token_arena.specs.Gaps.{Contents}
use Rattle.token_arena.specs.Sections.{sections_of}
use Rattle.replacements.specs.declared.gap_text.Decision.TheVariants.{Old, Spaces, Lines}
use Rattle.off_regions.specs.Frozen.{frozen_gaps}
use Rattle.replacements.specs.Breaks.{has_new_line_before}
use Rattle.replacements.specs.Decisions.{slot_of, decided_all}
use Rattle.replacements.specs.Sound.{MayEnd, MayStandBetween, MayStand, IsSound, item_before, stance_before}
use Rattle.replacements.specs.Sound.{place_before}
use Rattle.replacements.specs.Places.{place_in}
use Rattle.replacements.specs.Stances.{stance_in}
use Rattle.replacements.specs.declared.slot.Slot.{Slot}
use Rattle.line_gaps.specs.InputColumns.{kept_slot}
use Rattle.line_gaps.proofs.Stands.{MadeStand, made_append, all_sound, old_stands}
use Rattle.line_gaps.proofs.Walked.{decided_all-append}
use Rattle.early_gaps.specs.AllLaid.{all_laid}
use Rattle.early_gaps.proofs.AllSound.{all_stay_sound}
use Rattle.early_gaps.specs.BeforeRuns.{ends_in_backslash, last_decision, last_slot}
use Rattle.early_gaps.specs.Columns.{column_at}
use Rattle.early_gaps.specs.Kept.{is_kept, kept_at}
use Rattle.early_gaps.specs.EarlyLaws.{EarlyPlansAreSound}
use Rattle.early_gaps.specs.Made.{made_at, made_from}

-- ## The last gap

end_cases : (a b c : Bool) → MayEnd (if a then Lines 1 0 0 else (if b then Old else (if c then Lines 1 0 0 else Spaces 0)))
end_cases true b c = omega arith
end_cases false true c = tt
end_cases false false true = omega arith
end_cases false false false = refl

-- behind the last item
last_stands : (style : Style) (arena : Contents) → MayEnd (last_decision style arena)
last_stands style arena =
    let place = length arena.tokens in
    end_cases (has_new_line_before arena place None) (ends_in_backslash (item_before arena.tokens place)) (style.insert_newline_at_eof && not (place == 0))

pub last_may_stand : (style : Style) (arena : Contents) → MayStand arena (length arena.tokens) (last_decision style arena)
last_may_stand style arena =
    let place = length arena.tokens in
    let P : Option Stored → Type 0 = λ x. MayStandBetween arena.dialect (place_before (place_in arena) place) (stance_before (stance_in (sections_of arena)) place) (item_before arena.tokens place) (stance_in (sections_of arena) place) x (last_decision style arena) in
    subst P (sym (slice_get_past arena.tokens place (omega arith))) (last_stands style arena)

-- ## All gaps

kept_cases : (arena : Contents) (place column : ℕ) (kept : Bool) (slot : Slot) → (if kept then Some (kept_slot column) else None) ≡ Some slot → MayStand arena place slot.decision
kept_cases arena place column true slot is =
    let same : kept_slot column ≡ slot = cc in
    subst (λ (s : Slot). MayStand arena place s.decision) same (old_stands arena place)
kept_cases arena place column false slot is = cc

made_stands : (arena : Contents) (place : ℕ) (made : Option Slot) → ((slot : Slot) → made ≡ Some slot → MayStand arena place slot.decision) → MadeStand arena (made_at place made)
made_stands arena place None stands = tt
made_stands arena place (Some slot) stands = (stands slot refl, tt)

from_stand : (arena : Contents) (f : ℕ → Option Slot) → ((place : ℕ) (slot : Slot) → f place ≡ Some slot → MayStand arena place slot.decision) → (place count : ℕ) → MadeStand arena (made_from f place count)
from_stand arena f stands place zero = tt
from_stand arena f stands place (suc count) =
    made_append arena (made_at place (f place)) (made_from f (place + 1) count) (made_stands arena place (f place) (stands place)) (from_stand arena f stands (place + 1) count)

-- a plan in which nothing is decided
pub fresh : (count place : ℕ) → slot_of (replicate count None) place ≡ None
fresh zero place = refl
fresh (suc count) zero = refl
fresh (suc count) (suc place) = fresh count place

fresh_sound : (arena : Contents) (count : ℕ) → IsSound arena (replicate count None)
fresh_sound arena count place slot is = absurd (none_is_some (sym (fresh count place) ∙ is))
  where
    none_is_some : None ≡ Some slot → ⊥
    none_is_some e = cc

-- The plan before the runs decides only what may stand.
pub early_sound : EarlyPlansAreSound
early_sound style arena ranges holds =
    let count = length arena.tokens + 1 in
    let tab = style.tab_width in
    let frozen = frozen_gaps arena ranges in
    let empty : List (Option Slot) = replicate count None in
    let stay : List (ℕ × Slot) = made_from (kept_at tab arena frozen) 0 count in
    let end : List (ℕ × Slot) = (length arena.tokens, last_slot style arena) ∷ [] in
    let kept : IsSound arena (decided_all empty stay) =
    all_sound arena empty stay (fresh_sound arena count) (from_stand arena (kept_at tab arena frozen) (λ place slot is. kept_cases arena place (column_at tab arena place) (is_kept arena frozen place) slot is) 0 count) in
    let laid : IsSound arena (decided_all (decided_all empty stay) (all_laid style arena)) = all_stay_sound style arena (decided_all empty stay) holds kept in
    let last : IsSound arena (decided_all (decided_all (decided_all empty stay) (all_laid style arena)) end) =
    all_sound arena (decided_all (decided_all empty stay) (all_laid style arena)) end laid (last_may_stand style arena, tt) in
    subst (λ (p : List (Option Slot)). IsSound arena p) (sym (decided_all-append empty stay (all_laid style arena ++ end)))
    (subst (λ (p : List (Option Slot)). IsSound arena p) (sym (decided_all-append (decided_all empty stay) (all_laid style arena) end)) last)
