-- What the plan before the runs has.
use Rattle.std.proofs.Common.{◌≡◌, ◌∙◌, ℕ, zero, suc, ◌+◌, Bool, false, Option, Some, None, List, [], ◌∷◌, ◌++◌, length, replicate, get_or, refl}
use Rattle.std.proofs.Common.{sym, ap, arith}
use Rattle.std.specs.Prelude.{if◌then◌else◌}
use Rattle.std.proofs.lemmas.List.{length-replicate}
use Rattle.style_table.specs.declared.style.Style.{Style}
use Rattle.token_arena.specs.Gaps.{Contents}
use Rattle.off_regions.specs.Frozen.{frozen_gaps}
use Rattle.off_regions.specs.declared.range.LineRange.{LineRange}
use Rattle.replacements.specs.declared.slot.Slot.{Slot}
use Rattle.replacements.specs.Decisions.{first_for, decided, decided_all}
use Rattle.replacements.proofs.Firsts.{first}
use Rattle.line_gaps.specs.InputColumns.{kept_slot}
use Rattle.line_gaps.proofs.MadeFor.{length-decided_all}
use Rattle.line_gaps.proofs.Walked.{decided_all-append}
use Rattle.early_gaps.specs.AllLaid.{all_laid}
use Rattle.early_gaps.specs.BeforeRuns.{last_slot, early_decisions, early_plan}
use Rattle.early_gaps.specs.Columns.{column_at}
use Rattle.early_gaps.specs.Kept.{kept_at}
use Rattle.early_gaps.specs.EarlyLaws.{EarlyPlansKeep}
use Rattle.early_gaps.specs.Made.{made_at, made_from}
use Rattle.early_gaps.proofs.Places.{first_of, first_from}
use Rattle.early_gaps.proofs.SoundStart.{fresh}
use Rattle.early_gaps.proofs.Staying.{kept_by}

-- A gap that stays has its bytes in the plan before the runs.
pub early_keeps : EarlyPlansKeep
early_keeps style arena ranges place within stays =
    let count = length arena.tokens + 1 in
    let empty : List (Option Slot) = replicate count None in
    let long : length empty ≡ count = length-replicate count None in
    let kept : ℕ → Option Slot = kept_at style.tab_width arena (frozen_gaps arena ranges) in
    let rest : List (ℕ × Slot) = all_laid style arena ++ (length arena.tokens, last_slot style arena) ∷ [] in
    let here : kept place ≡ Some (kept_slot (column_at style.tab_width arena place)) =
    ap (λ (b : Bool). if b then Some (kept_slot (column_at style.tab_width arena place)) else None) stays in
    first empty (early_decisions style arena ranges) place (omega (arith, long, within)) (fresh count place)
    ∙ (first_from kept 0 count place rest (omega arith) (omega (arith, within))
    ∙ ap (λ (o : Option Slot). first_of o (first_for place rest)) here)

pub length-early : (style : Style) (arena : Contents) (ranges : Option (List LineRange)) → length (early_plan style arena ranges) ≡ length arena.tokens + 1
length-early style arena ranges =
    length-decided_all (replicate (length arena.tokens + 1) None) (early_decisions style arena ranges) ∙ length-replicate (length arena.tokens + 1) None

-- places for which the same is told
made_same : (one other : ℕ → Option Slot) (place count : ℕ) → ((k : ℕ) → one k ≡ other k) → made_from one place count ≡ made_from other place count
made_same one other place zero same = refl
made_same one other place (suc count) same =
    ap (λ (told : Option Slot). made_at place told ++ made_from one (place + 1) count) (same place) ∙ ap (λ (rest : List (ℕ × Slot)). made_at place (other place) ++ rest) (made_same one other (place + 1) count same)

-- what is kept first, then what is decided for directives, and then for the last gap
pub early_made : (style : Style) (arena : Contents) (ranges : Option (List LineRange)) (marks : List Bool) (last : Slot) (plan kept laid after : List (Option Slot)) → ((place : ℕ) → get_or marks place false ≡ get_or (frozen_gaps arena ranges) place false)
    → kept ≡ decided_all plan (made_from (kept_at style.tab_width arena marks) 0 (length arena.tokens + 1)) → laid ≡ decided_all kept (all_laid style arena)
    → last ≡ last_slot style arena → after ≡ decided laid (length arena.tokens) last
    → after ≡ decided_all plan (early_decisions style arena ranges)
early_made style arena ranges marks last plan kept laid after are first_is laid_is last_is after_is =
    let n : ℕ = length arena.tokens in
    let stay : List (ℕ × Slot) = made_from (kept_at style.tab_width arena (frozen_gaps arena ranges)) 0 (n + 1) in
    let end : List (ℕ × Slot) = (n, last_slot style arena) ∷ [] in
    let kept_is : kept ≡ decided_all plan stay = first_is ∙ ap (decided_all plan) (made_same (kept_at style.tab_width arena marks) (kept_at style.tab_width arena (frozen_gaps arena ranges)) 0 (n + 1) (λ place. kept_by style.tab_width arena marks (frozen_gaps arena ranges) place (are place))) in
    after_is
    ∙ (ap (λ (s : Slot). decided laid n s) last_is
    ∙ (ap (λ (p : List (Option Slot)). decided p n (last_slot style arena)) (laid_is ∙ ap (λ (p : List (Option Slot)). decided_all p (all_laid style arena)) kept_is)
    ∙ (sym (decided_all-append (decided_all plan stay) (all_laid style arena) end)
    ∙ sym (decided_all-append plan stay (all_laid style arena ++ end)))))

-- the plan before the runs, a step at a time
pub early_steps : (style : Style) (arena : Contents) (ranges : Option (List LineRange))
    → early_plan style arena ranges
    ≡ decided (decided_all (decided_all (replicate (length arena.tokens + 1) None) (made_from (kept_at style.tab_width arena (frozen_gaps arena ranges)) 0 (length arena.tokens + 1))) (all_laid style arena)) (length arena.tokens) (last_slot style arena)
early_steps style arena ranges =
    let empty : List (Option Slot) = replicate (length arena.tokens + 1) None in
    let stay : List (ℕ × Slot) = made_from (kept_at style.tab_width arena (frozen_gaps arena ranges)) 0 (length arena.tokens + 1) in
    sym (early_made style arena ranges (frozen_gaps arena ranges) (last_slot style arena) empty (decided_all empty stay) (decided_all (decided_all empty stay) (all_laid style arena)) _ (λ place. refl) refl refl refl refl)
