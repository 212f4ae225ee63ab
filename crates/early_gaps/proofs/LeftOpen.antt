-- What the runs are left to decide.
use Rattle.std.proofs.Common.{◌≡◌, ◌≢◌, ◌∙◌, ◌||◌, ◌&&◌, ℕ, ◌+◌, ◌<◌, ◌≤◌, nat_lt, ◌⊎◌, inl, inr, Bool, true, false}
use Rattle.std.proofs.Common.{Option, Some, None, List, length, replicate, get_or, eq-eqb, refl, sym, subst, arith}
use Rattle.std.specs.Prelude.{IsSome, [], ◌∷◌}
use Rattle.std.proofs.lemmas.Bool.{or_parts}
use Rattle.std.proofs.lemmas.List.{length-replicate}
use Rattle.style_table.specs.declared.style.Style.{Style}
use Rattle.token_arena.specs.Gaps.{Contents}
use Rattle.token_arena.specs.Sections.{sections_of}
use Rattle.branch_runs.specs.Marks.{marks_of}
use Rattle.branch_runs.specs.Dead.{is_dead}
use Rattle.off_regions.specs.Frozen.{frozen_gaps}
use Rattle.off_regions.specs.declared.range.LineRange.{LineRange}
use Rattle.replacements.specs.Decisions.{slot_of, first_for, decided, decided_all}
use Rattle.replacements.specs.declared.slot.Slot.{Slot}
use Rattle.replacements.specs.declared.stance.Stance.{Stance}
use Rattle.replacements.specs.declared.stance.Stance.TheVariants.{OfText, Leads, Within}
use Rattle.replacements.specs.Stances.{stance_in}
use Rattle.replacements.proofs.Firsts.{first, stay}
use Rattle.line_gaps.proofs.MadeFor.{length-decided_all, open_or_decided}
use Rattle.early_gaps.specs.AllLaid.{all_laid}
use Rattle.early_gaps.proofs.AllMade.{are_decided}
use Rattle.early_gaps.specs.BeforeRuns.{last_slot, early_plan}
use Rattle.early_gaps.specs.Dead.{is_behind_dead, is_beside_dead}
use Rattle.early_gaps.specs.Joined.{is_beside_joined}
use Rattle.early_gaps.specs.Kept.{is_kept, kept_at}
use Rattle.early_gaps.specs.EarlyLaws.{EarlyOrLeft, IsLeft}
use Rattle.early_gaps.specs.Made.{made_from}
use Rattle.early_gaps.proofs.Tells.{early_keeps, early_steps}

-- a decision for a place decides it
one_decides : (plan : List (Option Slot)) (place : ℕ) (slot : Slot) → place < length plan → IsSome (slot_of (decided plan place slot) place)
one_decides plan place slot within = elim (open_or_decided (slot_of plan place)) [
  | inl open_gap ↦ subst (λ (o : Option Slot). IsSome o) (sym (first plan ((place, slot) ∷ []) place within open_gap ∙ here place slot)) refl
  | inr some ↦ subst (λ (o : Option Slot). IsSome o) (sym (stay plan ((place, slot) ∷ []) place some.0 some.1)) refl
]
  where
    here : (place : ℕ) (slot : Slot) → first_for place ((place, slot) ∷ []) ≡ Some slot
    here place slot = rw (eq-eqb place place refl) refl

-- and leaves what is decided
one_keeps : (plan : List (Option Slot)) (at place : ℕ) (slot : Slot) → IsSome (slot_of plan place) → IsSome (slot_of (decided plan at slot) place)
one_keeps plan at place slot some = elim (open_or_decided (slot_of plan place)) [
  | inl open_gap ↦ absurd (none (subst (λ (o : Option Slot). IsSome o) open_gap some))
  | inr is ↦ subst (λ (o : Option Slot). IsSome o) (sym (stay plan ((at, slot) ∷ []) place is.0 is.1)) refl
]
  where
    none : IsSome {T = Slot} None → ⊥
    none h = cc

live : (within dead behind : Bool) → within ≡ true → ((within && dead) || behind) ≡ false → dead ≡ false
live true false behind some e = refl
live true true behind some e = e
live false dead behind some e = cc

of_text_or_not : (stance : Stance) → (stance ≡ OfText) ⊎ (stance ≢ OfText)
of_text_or_not OfText = inl refl
of_text_or_not Leads = inr (λ e. cc)
of_text_or_not Within = inr (λ e. cc)

-- before an item of a directive, whatever stays
directive_decided : (style : Style) (arena : Contents) (ranges : Option (List LineRange)) (place : ℕ) → place < length arena.tokens → stance_in (sections_of arena) place ≢ OfText
    → IsSome (slot_of (early_plan style arena ranges) place)
directive_decided style arena ranges place within inside =
    let count = length arena.tokens + 1 in
    let empty : List (Option Slot) = replicate count None in
    let kept : List (Option Slot) = decided_all empty (made_from (kept_at style.tab_width arena (frozen_gaps arena ranges)) 0 count) in
    let long : length kept ≡ count = length-decided_all empty (made_from (kept_at style.tab_width arena (frozen_gaps arena ranges)) 0 count) ∙ length-replicate count None in
    subst (λ (p : List (Option Slot)). IsSome (slot_of p place)) (sym (early_steps style arena ranges))
    (one_keeps (decided_all kept (all_laid style arena)) (length arena.tokens) place (last_slot style arena) (are_decided style arena kept place long within inside))

-- behind the last item
last_decided : (style : Style) (arena : Contents) (ranges : Option (List LineRange)) → IsSome (slot_of (early_plan style arena ranges) (length arena.tokens))
last_decided style arena ranges =
    let count = length arena.tokens + 1 in
    let empty : List (Option Slot) = replicate count None in
    let kept : List (Option Slot) = decided_all empty (made_from (kept_at style.tab_width arena (frozen_gaps arena ranges)) 0 count) in
    let laid : List (Option Slot) = decided_all kept (all_laid style arena) in
    let long : length laid ≡ count =
    length-decided_all kept (all_laid style arena) ∙ (length-decided_all empty (made_from (kept_at style.tab_width arena (frozen_gaps arena ranges)) 0 count) ∙ length-replicate count None) in
    subst (λ (p : List (Option Slot)). IsSome (slot_of p (length arena.tokens))) (sym (early_steps style arena ranges))
    (one_decides laid (length arena.tokens) (last_slot style arena) (omega (arith, long)))

before_or_last : (place count : ℕ) → place ≤ count → (place < count) ⊎ (place ≡ count)
before_or_last place count low = grind arith

item_left : (style : Style) (arena : Contents) (ranges : Option (List LineRange)) (place : ℕ) → place < length arena.tokens → is_beside_dead arena place ≡ false
    → IsSome (slot_of (early_plan style arena ranges) place) ⊎ IsLeft arena place
item_left style arena ranges place within alive = elim (of_text_or_not (stance_in (sections_of arena) place)) [
  | inl of_text ↦
      let there : nat_lt place (length arena.tokens) ≡ true = grind (arith, within) in
      inr (within, of_text, live (nat_lt place (length arena.tokens)) (is_dead (marks_of arena) place) (is_behind_dead arena place) there alive)
  | inr inside ↦ inl (directive_decided style arena ranges place within inside)
]

kept_or_left : (style : Style) (arena : Contents) (ranges : Option (List LineRange)) (place : ℕ) (kept : Bool) → place ≤ length arena.tokens → is_kept arena (frozen_gaps arena ranges) place ≡ kept
    → IsSome (slot_of (early_plan style arena ranges) place) ⊎ IsLeft arena place
kept_or_left style arena ranges place true within e = inl (subst (λ (o : Option Slot). IsSome o) (sym (early_keeps style arena ranges place within e)) refl)
kept_or_left style arena ranges place false within e =
    let parts = or_parts (get_or (frozen_gaps arena ranges) place false) (is_beside_dead arena place || is_beside_joined arena place) e in
    let sides = or_parts (is_beside_dead arena place) (is_beside_joined arena place) parts.1 in
    elim (before_or_last place (length arena.tokens) within) [
      | inl before ↦ item_left style arena ranges place before sides.0
      | inr last ↦ inl (subst (λ (k : ℕ). IsSome (slot_of (early_plan style arena ranges) k)) (sym last) (last_decided style arena ranges))
    ]

-- each gap is decided, or left to the runs
pub early_or_left_open : EarlyOrLeft
early_or_left_open style arena ranges place within = kept_or_left style arena ranges place (is_kept arena (frozen_gaps arena ranges) place) within refl
