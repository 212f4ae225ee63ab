-- The gaps of a view that stay.
use Rattle.std.proofs.Common.{◌≡◌, ◌∙◌, ℕ, suc, ◌+◌, Bool, true, false, Option, List, [], ◌∷◌, drop, get_or, length}
use Rattle.std.proofs.Common.{◌<◌, refl, ap, arith}
use Rattle.std.specs.Prelude.{if◌then◌else◌}
use Rattle.std.specs.List.{list_any}
use Rattle.std.proofs.Math.Seq.{drop-cons}
use Rattle.std.proofs.lemmas.Bool.{or_parts}
use Rattle.style_table.specs.declared.style.Style.{Style}
use Rattle.token_arena.specs.Gaps.{Contents}
use Rattle.replacements.specs.declared.slot.Slot.{Slot}
use Rattle.replacements.specs.Decisions.{decided_all}
use Rattle.line_gaps.specs.Rows.{column_behind}
use Rattle.item_classes.specs.Items.{item_at}
use Rattle.run_parts.specs.KeptGaps.{input_column, kept_slot, kept_decisions}
use Rattle.line_gaps.proofs.Stands.{MadeStand, old_stands}

-- where no gap is marked, none is kept
pub none_kept : (style : Style) (arena : Contents) (column : ℕ) (ids : List ℕ) (marks : List Bool) → list_any (λ mark. mark) marks ≡ false → kept_decisions style arena column ids marks ≡ []
none_kept style arena column [] marks none = refl
none_kept style arena column (id ∷ ids) [] none = refl
none_kept style arena column (id ∷ ids) (mark ∷ marks) none =
    let parts = or_parts mark (list_any (λ mark. mark) marks) none in
    let at = input_column style arena column id in
    let next : ℕ = column_behind at (item_at arena id) in
    ap (λ (b : Bool). if b then (id, kept_slot at) ∷ kept_decisions style arena next ids marks else kept_decisions style arena next ids marks) parts.0
    ∙ none_kept style arena next ids marks parts.1

one_kept : (style : Style) (arena : Contents) (plan : List (Option Slot)) (column id : ℕ) (ids : List ℕ) (mark : Bool) (marks : List Bool)
    → decided_all (decided_all plan (if mark then (id, kept_slot (input_column style arena column id)) ∷ [] else []))
    (kept_decisions style arena (column_behind (input_column style arena column id) (item_at arena id)) ids marks)
    ≡ decided_all plan (kept_decisions style arena column (id ∷ ids) (mark ∷ marks))
one_kept style arena plan column id ids true marks = refl
one_kept style arena plan column id ids false marks = refl

-- the gap at a place is kept or not, and then those behind it
pub next_kept : (style : Style) (arena : Contents) (plan after : List (Option Slot)) (column start next k id : ℕ) (ids : List ℕ) (mark : Bool) (marks : List Bool)
    → k < length ids → length marks ≡ length ids → get_or ids k 0 ≡ id → get_or marks k false ≡ mark → start ≡ input_column style arena column id → next ≡ column_behind start (item_at arena id)
    → after ≡ decided_all plan (if mark then (id, kept_slot start) ∷ [] else [])
    → decided_all after (kept_decisions style arena next (drop (k + 1) ids) (drop (k + 1) marks)) ≡ decided_all plan (kept_decisions style arena column (drop k ids) (drop k marks))
next_kept style arena plan after column start next k id ids mark marks within long at is begins ends made =
    let one : suc k ≡ k + 1 = omega arith in
    let items : drop k ids ≡ id ∷ drop (k + 1) ids = drop-cons ids k 0 within ∙ (ap (λ j. get_or ids k 0 ∷ drop j ids) one ∙ ap (λ (x : ℕ). x ∷ drop (k + 1) ids) at) in
    let flags : drop k marks ≡ mark ∷ drop (k + 1) marks = drop-cons marks k false (omega arith) ∙ (ap (λ j. get_or marks k false ∷ drop j marks) one ∙ ap (λ (x : Bool). x ∷ drop (k + 1) marks) is) in
    rw (items, flags, made, ends, begins) (one_kept style arena plan column id (drop (k + 1) ids) mark (drop (k + 1) marks))

-- what stays may stand
pub kept_stand : (style : Style) (arena : Contents) (column : ℕ) (ids : List ℕ) (marks : List Bool) → MadeStand arena (kept_decisions style arena column ids marks)
kept_stand style arena column [] marks = tt
kept_stand style arena column (id ∷ ids) [] = tt
kept_stand style arena column (id ∷ ids) (true ∷ marks) = (old_stands arena id, kept_stand style arena (column_behind (input_column style arena column id) (item_at arena id)) ids marks)
kept_stand style arena column (id ∷ ids) (false ∷ marks) = kept_stand style arena (column_behind (input_column style arena column id) (item_at arena id)) ids marks
