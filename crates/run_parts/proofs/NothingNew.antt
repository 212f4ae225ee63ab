-- A run whose items have decided gaps alone keeps nothing new.
use Rattle.std.proofs.Common.{◌≡◌, ◌∙◌, suc, ℕ, Bool, true, false, Option, List, [], ◌∷◌, refl, ap, arith}
use Rattle.style_table.specs.declared.style.Style.{Style}
use Rattle.token_arena.specs.Gaps.{Contents}
use Rattle.replacements.specs.declared.slot.Slot.{Slot}
use Rattle.replacements.specs.Decisions.{decided_all}
use Rattle.line_gaps.specs.Rows.{column_behind}
use Rattle.item_classes.specs.Items.{item_at}
use Rattle.line_gaps.proofs.Walked.{decided_again}
use Rattle.run_parts.specs.KeptGaps.{input_column, kept_slot, kept_decisions}
use Rattle.run_parts.specs.Runs.{AreDecided}

-- nothing new is kept
pub kept_nothing : (style : Style) (arena : Contents) (plan : List (Option Slot)) (column : ℕ) (ids : List ℕ) (marks : List Bool) → AreDecided plan ids
    → decided_all plan (kept_decisions style arena column ids marks) ≡ plan
kept_nothing style arena plan column [] marks some = refl
kept_nothing style arena plan column (id ∷ ids) [] some = refl
kept_nothing style arena plan column (id ∷ ids) (true ∷ marks) some =
    let at = input_column style arena column id in
    let later = kept_decisions style arena (column_behind at (item_at arena id)) ids marks in
    ap (λ (p : List (Option Slot)). decided_all p later) (decided_again plan id (kept_slot at) (some 0 (omega arith)))
    ∙ kept_nothing style arena plan (column_behind at (item_at arena id)) ids marks (λ place below. some (suc place) (omega (arith, below)))
kept_nothing style arena plan column (id ∷ ids) (false ∷ marks) some =
    kept_nothing style arena plan (column_behind (input_column style arena column id) (item_at arena id)) ids marks (λ place below. some (suc place) (omega (arith, below)))
