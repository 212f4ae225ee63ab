-- What holds behind the lines of a run, whichever of them are reported.
use Rattle.std.proofs.Common.{◌≡◌, ◌∙◌, ◌⊎◌, inl, inr, ◌||◌, ◌&&◌, not, ℕ, zero, suc, ◌+◌, ◌-◌, ◌<◌, ◌≤◌, Bool, true}
use Rattle.std.proofs.Common.{false, Option, Some, None, List, [], ◌∷◌, length, map, get_or, refl, sym, ap, arith}
use Rattle.std.proofs.Common.{subst}
use Rattle.std.specs.Prelude.{slice_get, if◌then◌else◌}
use Rattle.std.proofs.lemmas.Bool.{or_parts}
use Rattle.std.proofs.lemmas.Option.{slice_get-get_or}
use Rattle.line_state.specs.Choices.{Leads}
use Rattle.style_table.specs.declared.style.Style.{Style}
use Rattle.line_tokens.specs.declared.LineTok.{LineTok}
use Rattle.line_tokens.specs.declared.Fixed.{Fixed}
use Rattle.line_tokens.specs.Roles.{is_trailing, is_own}
use Rattle.layout_tables.specs.Breaks.{ends_its_row}
use Rattle.layout_tables.proofs.Needs.{needs_none}
use Rattle.line_state.specs.declared.gap.Gap.{Gap}
use Rattle.line_state.specs.Layout.{Layout, is_allowed, is_decided, is_some_decision, layout_after}
use Rattle.line_state.specs.Line.{Line, Step, gaps, decision_at, joined, first_layout}
use Rattle.line_state.proofs.Steps.{IsGap, is_gap, placing, first_index}
use Rattle.token_arena.specs.Gaps.{Contents}
use Rattle.item_classes.specs.Viewed.{AreWithin}
use Rattle.line_tokens.specs.declared.line.ULine.{ULine}
use Rattle.line_tokens.specs.Lines.{CutPlaces}
use Rattle.replacements.specs.declared.slot.Slot.{Slot}
use Rattle.replacements.specs.Breaks.{fixed_by}
use Rattle.replacements.specs.Decisions.{slot_of, decided_all}
use Rattle.replacements.specs.Sound.{IsSound}
use Rattle.replacements.proofs.Firsts.{stay}
use Rattle.run_layout.specs.Tells.{StandForItems}
use Rattle.line_gaps.specs.Rows as rows
use Rattle.line_tokens.specs.Tokens.{no_token}
use Rattle.line_gaps.specs.InputColumns.{input_before, input_behind, old_from, reported_made}
use Rattle.run_layout.specs.Broken.{of_line, broken_line, broken_made, waits, inside_slot, made_if_open, made_at}
use Rattle.run_layout.specs.Broken.{inside_made}
use Rattle.line_gaps.specs.Rows.{first_made}
use Rattle.run_layout.specs.Outcomes.{LineOutcome, Kept, Only, Least, Over, LaidLine, ComesOf, outcome_made, AfterLines}
use Rattle.run_layout.specs.Laws.{AreOfTexts, IsWaiting, LinesStaySound, LinesKeep, LinesDecide}
use Rattle.line_gaps.proofs.Walked.{cut_within}
use Rattle.line_gaps.proofs.Stands.{MadeStand, all_sound, old_stands, first_stands}
use Rattle.run_layout.proofs.BrokenLines.{choices_stand, open_stays, gap_tokens, gaps_tell, get_or_of_line}
use Rattle.run_layout.proofs.BrokenLines.{length_of_line}
use Rattle.line_gaps.proofs.MadeFor.{IsMadeFor, IsDecided, open_or_decided, is_some-decided, decided-is_some}
use Rattle.line_gaps.proofs.MadeFor.{stays_decided, length-decided_all, made_decided}

-- ## Each decision may stand

olds_stand : (style : Style) (arena : Contents) (ids : List ℕ) (column k count : ℕ) → MadeStand arena (old_from style arena ids column k count)
olds_stand style arena ids column k zero = tt
olds_stand style arena ids column k (suc count) = (old_stands arena (get_or ids k 0), olds_stand style arena ids (input_behind style arena column (get_or ids k 0)) (k + 1) count)

-- what comes of a line decides what may stand
outcome_stand : (style : Style) (budget : ℕ) (arena : Contents) (ids : List ℕ) (toks : List LineTok) (plan : List (Option Slot)) (line : ULine) (outcome : LineOutcome)
    → AreWithin arena ids → AreOfTexts arena ids → StandForItems arena ids toks → line.first < length ids → line.last < length ids
    → ComesOf style budget arena ids toks plan line outcome → MadeStand arena (outcome_made style arena ids toks plan line outcome)
outcome_stand style budget arena ids toks plan line Kept items texts tell from within comes = tt
outcome_stand style budget arena ids toks plan line (Only breaks) items texts tell from within comes =
    let l = broken_line style arena ids toks plan line in
    let a = comes.2 in (
      first_stands style arena line (rows.item_before ids line.first) (get_or ids line.first 0) (texts line.first 0 from),
      choices_stand arena line (of_line line ids) l (first_layout l) a.layout breaks a.cost (gaps_tell style arena ids toks plan line items texts tell within) a.leads,
    )
outcome_stand style budget arena ids toks plan line (Least breaks cost) items texts tell from within comes =
    let l = broken_line style arena ids toks plan line in
    let f = comes.2 in (
      first_stands style arena line (rows.item_before ids line.first) (get_or ids line.first 0) (texts line.first 0 from),
      choices_stand arena line (of_line line ids) l (first_layout l) f.least.reaches.0 breaks f.whole (gaps_tell style arena ids toks plan line items texts tell within) f.least.reaches.1,
    )
outcome_stand style budget arena ids toks plan line (Over cells) items texts tell from within comes = (
  first_stands style arena line (rows.item_before ids line.first) (get_or ids line.first 0) (texts line.first 0 from),
  olds_stand style arena ids (input_behind style arena (input_before style arena ids line.first) (get_or ids line.first 0)) (line.first + 1) (line.last - line.first),
)

lines_sound : (style : Style) (budget : ℕ) (arena : Contents) (ids : List ℕ) (toks : List LineTok) (run : ℕ) (plan : List (Option Slot)) (at : ℕ) (lines : List ULine) (final : List (Option Slot)) (done : List LaidLine)
    → AreWithin arena ids → AreOfTexts arena ids → StandForItems arena ids toks → CutPlaces at (length ids) lines
    → AfterLines style budget arena ids toks run plan lines final done → IsSound arena plan → IsSound arena final
lines_sound style budget arena ids toks run plan at [] final done items texts tell cut laid sound = subst (λ (p : List (Option Slot)). IsSound arena p) (sym laid.0) sound
lines_sound style budget arena ids toks run plan at (line ∷ lines) final done items texts tell cut laid sound =
    let outcome : LineOutcome = laid.0 in
    let made : List (ℕ × Slot) = outcome_made style arena ids toks plan line outcome in
    let within : line.last < length ids = cut_within at (length ids) (line ∷ lines) cut 0 line (omega arith) in
    let from : line.first < length ids = omega (arith, within, cut.1.0) in
    lines_sound style budget arena ids toks run (decided_all plan made) (line.last + 1) lines final laid.1 items texts tell cut.1.1 laid.4
    (all_sound arena plan made sound (outcome_stand style budget arena ids toks plan line outcome items texts tell from within laid.2))

pub lines_stay_sound : LinesStaySound
lines_stay_sound style budget arena ids toks run plan lines final done items texts tell cut laid sound = lines_sound style budget arena ids toks run plan 0 lines final done items texts tell cut laid sound

-- ## What is decided stays

pub lines_keep : LinesKeep
lines_keep style budget arena ids toks run plan [] final done laid place slot is = subst (λ (p : List (Option Slot)). slot_of p place ≡ Some slot) (sym laid.0) is
lines_keep style budget arena ids toks run plan (line ∷ lines) final done laid place slot is =
    let made : List (ℕ × Slot) = outcome_made style arena ids toks plan line laid.0 in
    lines_keep style budget arena ids toks run (decided_all plan made) lines final laid.1 laid.4 place slot (stay plan made place slot is)

-- ## Each gap is decided

broken_made_for : (gap : Gap) (id : ℕ) (slot : Slot) (later : List (ℕ × Slot)) → is_decided gap ≡ false → IsMadeFor id (made_if_open gap true id slot later)
broken_made_for gap id slot later decided = by_flag (is_decided gap) decided
  where
    by_flag : (f : Bool) → f ≡ false → IsMadeFor id (if f || waits gap.right true then later else (id, slot) ∷ later)
    by_flag true e = cc
    by_flag false e = inl refl

stay_made_for : (style : Style) (layout : Layout) (gap : Gap) (id : ℕ) (slot : Slot) (later : List (ℕ × Slot)) → is_decided gap ≡ false → gap.first ≡ false → is_allowed style layout gap false ≡ true
    → IsMadeFor id (made_if_open gap false id slot later) ⊎ IsWaiting gap.left gap.right
stay_made_for style layout gap id slot later decided first allowed = by_flags (is_decided gap) (is_trailing gap.right.role) decided refl
  where
    by_flags : (f t : Bool) → f ≡ false → is_trailing gap.right.role ≡ t → IsMadeFor id (if f || (not false && t) then later else (id, slot) ∷ later) ⊎ IsWaiting gap.left gap.right
    by_flags true t e r = cc
    by_flags false false e r = inl (inl refl)
    by_flags false true e r = inr (record {
      trails = r;
      joins = (or_parts (gap.right.directive || ends_its_row gap.left.kind) (is_own gap.right.role) (needs_none style gap.left gap.right (open_stays style layout gap first decided allowed))).0;
    })

-- for an open gap a decision is made by an admissible choice, or it waits
if_open_made : (style : Style) (layout : Layout) (gap : Gap) (brk : Bool) (id : ℕ) (slot : Slot) (later : List (ℕ × Slot)) → is_decided gap ≡ false → gap.first ≡ false → is_allowed style layout gap brk ≡ true
    → IsMadeFor id (made_if_open gap brk id slot later) ⊎ IsWaiting gap.left gap.right
if_open_made style layout gap true id slot later decided first allowed = inl (broken_made_for gap id slot later decided)
if_open_made style layout gap false id slot later decided first allowed = stay_made_for style layout gap id slot later decided first allowed

later_made : (gap : Gap) (brk : Bool) (at id : ℕ) (slot : Slot) (later : List (ℕ × Slot)) → IsMadeFor id later → IsMadeFor id (made_if_open gap brk at slot later)
later_made gap brk at id slot later h = by_flag (is_decided gap || waits gap.right brk)
  where
    by_flag : (f : Bool) → IsMadeFor id (if f then later else (at, slot) ∷ later)
    by_flag true = h
    by_flag false = inr h

-- a gap of a line waits
record WaitsAt (l : Line) (i : ℕ) : Type 0 where
  gap : Gap
  is : IsGap l i gap
  waiting : IsWaiting gap.left gap.right

here_or_later : (k place : ℕ) → k ≤ place → (k ≡ place) ⊎ (k + 1 ≤ place)
here_or_later k place low = grind arith

-- admissible choices decide each gap that is open, or it waits
choices_made : (line : ULine) (items : List ℕ) (l : Line) (layout t : Layout) (breaks : List Bool) (cost i : ℕ) → Leads (Step l) layout breaks t cost
    → layout.index ≤ i → i < layout.index + length breaks → decision_at l i ≡ None → IsMadeFor (get_or items i 0) (inside_made line items l layout breaks) ⊎ WaitsAt l i
choices_made line items l layout t [] cost i leads low high none = absurd (omega (arith, low, high))
choices_made line items l layout t (brk ∷ breaks) cost i leads low high none =
    let p = placing l layout brk leads.0 leads.1 leads.3 in
    let g = is_gap l layout.index p.gap p.at in
    let after : Layout = layout_after l.style layout p.gap brk in
    let slot : Slot = inside_slot l.style line layout p.gap brk in
    let later : List (ℕ × Slot) = inside_made line items l after breaks in
    let P : Option Gap → Type 0 = λ o. IsMadeFor (get_or items i 0) (made_at l.style line items layout brk (λ next. inside_made line items l next breaks) o) in
    elim (here_or_later layout.index i low) [
      | inl e ↦
          let fixed : p.gap.fixed ≡ None = sym g.fixed ∙ (ap (λ x. decision_at l x) e ∙ none) in
          elim (if_open_made l.style layout p.gap brk (get_or items layout.index 0) slot later (ap (λ (o : Option Fixed). is_some_decision o) fixed) g.first p.allowed) [
            | inl made ↦ inl (subst P (sym p.at) (subst (λ x. IsMadeFor (get_or items x 0) (made_if_open p.gap brk (get_or items layout.index 0) slot later)) e made))
            | inr waiting ↦ inr (subst (λ x. WaitsAt l x) e (record { gap = p.gap; is = g; waiting = waiting }))
          ]
      | inr past ↦
          elim (choices_made line items l after t breaks leads.2 i (subst (λ (x : Layout). Leads (Step l) x breaks t leads.2) (sym p.layout) leads.4) past (omega (arith, high)) none) [
            | inl made ↦ inl (subst P (sym p.at) (later_made p.gap brk (get_or items layout.index 0) (get_or items i 0) slot later made))
            | inr waiting ↦ inr waiting
          ]
    ]

slice_get-map : {A B : Type 0} (f : A → B) (xs : List A) (i : ℕ) (x : A) → slice_get xs i ≡ Some x → slice_get (map f xs) i ≡ Some (f x)
slice_get-map f [] i x e = cc
slice_get-map f (y ∷ xs) zero x e = let same : y ≡ x = cc in ap (λ z. Some (f z)) same
slice_get-map f (y ∷ xs) (suc i) x e = slice_get-map f xs i x e

-- an open gap is open in the line as it is broken
open_inside : (style : Style) (arena : Contents) (ids : List ℕ) (toks : List LineTok) (plan : List (Option Slot)) (line : ULine) (i : ℕ) → line.last < length ids → i < line.last + 1 - line.first
    → slot_of plan (get_or ids (line.first + i) 0) ≡ None → decision_at (broken_line style arena ids toks plan line) i ≡ None
open_inside style arena ids toks plan line i within below none =
    let items = of_line line ids in
    let at : slice_get items i ≡ Some (get_or items i 0) = slice_get-get_or items i 0 (omega (arith, below, length_of_line line ids within)) in
    let found : slice_get (map (λ id. fixed_by arena id (slot_of plan id)) items) i ≡ Some (fixed_by arena (get_or items i 0) (slot_of plan (get_or items i 0))) =
    slice_get-map (λ id. fixed_by arena id (slot_of plan id)) items i (get_or items i 0) at in
    let id : get_or items i 0 ≡ get_or ids (line.first + i) 0 = get_or_of_line line ids i 0 below in
    ap joined found ∙ (ap (λ x. fixed_by arena x (slot_of plan x)) id ∙ ap (λ (o : Option Slot). fixed_by arena (get_or ids (line.first + i) 0) o) none)

old_made : (style : Style) (arena : Contents) (ids : List ℕ) (column k count place : ℕ) → k ≤ place → place < k + count → IsMadeFor (get_or ids place 0) (old_from style arena ids column k count)
old_made style arena ids column k zero place low high = absurd (omega (arith, low, high))
old_made style arena ids column k (suc count) place low high = elim (here_or_later k place low) [
  | inl e ↦ inl (ap (λ p. get_or ids p 0) e)
  | inr later ↦ inr (old_made style arena ids (input_behind style arena column (get_or ids k 0)) (k + 1) count place later (omega (arith, high)))
]

-- the gap before the item at a place of the view waits
abbrev pub WaitsInView : List LineTok → ℕ → Type 0
WaitsInView toks k = (0 < k) × IsWaiting (get_or toks (k - 1) no_token) (get_or toks k no_token)

waits_there : (style : Style) (arena : Contents) (ids : List ℕ) (toks : List LineTok) (plan : List (Option Slot)) (line : ULine) (i k : ℕ) → line.last < length toks → line.first + i ≡ k
    → WaitsAt (broken_line style arena ids toks plan line) i → WaitsInView toks k
waits_there style arena ids toks plan line i k within here w =
    let sides = gap_tokens style arena ids toks plan line i w.gap within w.is in
    let some : 0 < line.first + i = omega (arith, w.is.inside) in
    subst (λ x. WaitsInView toks x) here
    (some, subst (λ (t : LineTok). IsWaiting t (get_or toks (line.first + i) no_token)) (sym sides.0) (subst (λ (t : LineTok). IsWaiting w.gap.left t) (sym sides.1) w.waiting))

-- admissible choices for all gaps inside a line decide them, but for those that wait
broken_decide : (style : Style) (arena : Contents) (ids : List ℕ) (toks : List LineTok) (plan : List (Option Slot)) (line : ULine) (t : Layout) (breaks : List Bool) (cost k : ℕ)
    → line.first ≤ line.last → line.last < length ids → length toks ≡ length ids → length breaks ≡ gaps (broken_line style arena ids toks plan line)
    → Leads (Step (broken_line style arena ids toks plan line)) (first_layout (broken_line style arena ids toks plan line)) breaks t cost
    → line.first ≤ k → k < line.last + 1 → get_or ids k 0 < length plan → IsDecided (decided_all plan (broken_made style arena ids toks plan line breaks)) (get_or ids k 0) ⊎ WaitsInView toks k
broken_decide style arena ids toks plan line t breaks cost k some within many count leads low high small =
    let l = broken_line style arena ids toks plan line in
    let made : List (ℕ × Slot) = broken_made style arena ids toks plan line breaks in
    elim (open_or_decided (slot_of plan (get_or ids k 0))) [
      | inr was ↦ inl (stays_decided plan made (get_or ids k 0) was)
      | inl open_gap ↦ elim (here_or_later line.first k low) [
        | inl e ↦ inl (made_decided plan made (get_or ids k 0) small (inl (ap (λ x. get_or ids x 0) e)))
        | inr past ↦
            let i : ℕ = k - line.first in
            let here : line.first + i ≡ k = omega (arith, low) in
            let size : length (of_line line toks) ≡ line.last + 1 - line.first = length_of_line line toks (omega (arith, within, many)) in
            let below : i < line.last + 1 - line.first = omega (arith, low, high) in
            let id : get_or (of_line line ids) i 0 ≡ get_or ids k 0 = get_or_of_line line ids i 0 below ∙ ap (λ x. get_or ids x 0) here in
            let first : (first_layout l).index ≡ 1 = first_index l (omega (arith, size, some)) in
            let none : decision_at l i ≡ None = open_inside style arena ids toks plan line i within below (ap (λ x. slot_of plan (get_or ids x 0)) here ∙ open_gap) in
            elim (choices_made line (of_line line ids) l (first_layout l) t breaks cost i leads (omega (arith, first, past, here)) (omega (arith, first, count, size, below)) none) [
              | inl chosen ↦ inl (made_decided plan made (get_or ids k 0) small (inr (subst (λ x. IsMadeFor x (inside_made line (of_line line ids) l (first_layout l) breaks)) id chosen)))
              | inr waiting ↦ inr (waits_there style arena ids toks plan line i k (omega (arith, within, many)) here waiting)
            ]
      ]
    ]

line_decides : (style : Style) (budget : ℕ) (arena : Contents) (ids : List ℕ) (toks : List LineTok) (plan : List (Option Slot)) (line : ULine) (outcome : LineOutcome) (k : ℕ)
    → line.first ≤ line.last → line.last < length ids → length toks ≡ length ids → ComesOf style budget arena ids toks plan line outcome
    → line.first ≤ k → k < line.last + 1 → get_or ids k 0 < length plan → IsDecided (decided_all plan (outcome_made style arena ids toks plan line outcome)) (get_or ids k 0) ⊎ WaitsInView toks k
line_decides style budget arena ids toks plan line Kept k some within many comes low high small = inl (decided-is_some plan (get_or ids k 0) (comes k low high))
line_decides style budget arena ids toks plan line (Only breaks) k some within many comes low high small =
    broken_decide style arena ids toks plan line comes.2.layout breaks comes.2.cost k some within many comes.2.count comes.2.leads low high small
line_decides style budget arena ids toks plan line (Least breaks cost) k some within many comes low high small =
    let f = comes.2 in
    broken_decide style arena ids toks plan line f.least.reaches.0 breaks f.whole k some within many f.least.count f.least.reaches.1 low high small
line_decides style budget arena ids toks plan line (Over cells) k some within many comes low high small =
    inl (made_decided plan (first_made style arena ids line ∷ reported_made style arena ids line) (get_or ids k 0) small (elim (here_or_later line.first k low) [
      | inl e ↦ inl (ap (λ x. get_or ids x 0) e)
      | inr past ↦
          inr (old_made style arena ids (input_behind style arena (input_before style arena ids line.first) (get_or ids line.first 0)) (line.first + 1) (line.last - line.first) k past (omega (arith, high, some)))
    ]))

up_to_or_past : (place last : ℕ) → (place < last + 1) ⊎ (last + 1 ≤ place)
up_to_or_past place last = grind arith

-- what is decided behind the first lines stays
keep_decided : (style : Style) (budget : ℕ) (arena : Contents) (ids : List ℕ) (toks : List LineTok) (run : ℕ) (plan : List (Option Slot)) (lines : List ULine) (final : List (Option Slot)) (done : List LaidLine) (place : ℕ)
    → AfterLines style budget arena ids toks run plan lines final done → IsDecided plan place → IsDecided final place
keep_decided style budget arena ids toks run plan lines final done place laid is = (is.0, lines_keep style budget arena ids toks run plan lines final done laid place is.0 is.1)

lines_decided : (style : Style) (budget : ℕ) (arena : Contents) (ids : List ℕ) (toks : List LineTok) (run : ℕ) (plan : List (Option Slot)) (at : ℕ) (lines : List ULine) (final : List (Option Slot)) (done : List LaidLine) (k : ℕ)
    → get_or ids k 0 < length plan → length toks ≡ length ids → CutPlaces at (length ids) lines → AfterLines style budget arena ids toks run plan lines final done
    → at ≤ k → k < length ids → IsDecided final (get_or ids k 0) ⊎ WaitsInView toks k
lines_decided style budget arena ids toks run plan at [] final done k small many cut laid low high = absurd (omega (arith, cut, low, high))
lines_decided style budget arena ids toks run plan at (line ∷ lines) final done k small many cut laid low high =
    let outcome : LineOutcome = laid.0 in
    let made : List (ℕ × Slot) = outcome_made style arena ids toks plan line outcome in
    let after : List (Option Slot) = decided_all plan made in
    let within : line.last < length ids = cut_within at (length ids) (line ∷ lines) cut 0 line (omega arith) in
    elim (up_to_or_past k line.last) [
      | inl up_to ↦
          elim (line_decides style budget arena ids toks plan line outcome k cut.1.0 within many laid.2 (omega (arith, cut.0, low)) up_to small) [
            | inl is ↦ inl (keep_decided style budget arena ids toks run after lines final laid.1 (get_or ids k 0) laid.4 is)
            | inr waiting ↦ inr waiting
          ]
      | inr past ↦
          let still : get_or ids k 0 < length after = omega (arith, small, length-decided_all plan made) in
          lines_decided style budget arena ids toks run after (line.last + 1) lines final laid.1 k still many cut.1.1 laid.4 past high
    ]

pub lines_decide : LinesDecide
lines_decide style budget arena ids toks run plan lines final done many cut laid = λ k below small. elim (lines_decided style budget arena ids toks run plan 0 lines final done k small many cut laid (omega arith) below) [
  | inl is ↦ inl (is_some-decided final (get_or ids k 0) is)
  | inr waiting ↦ inr waiting
]

-- a run makes the plan no longer
pub lines_length : (style : Style) (budget : ℕ) (arena : Contents) (ids : List ℕ) (toks : List LineTok) (run : ℕ) (plan : List (Option Slot)) (lines : List ULine) (final : List (Option Slot)) (done : List LaidLine)
    → AfterLines style budget arena ids toks run plan lines final done → length final ≡ length plan
lines_length style budget arena ids toks run plan [] final done laid = ap (λ (p : List (Option Slot)). length p) laid.0
lines_length style budget arena ids toks run plan (line ∷ lines) final done laid =
    let made : List (ℕ × Slot) = outcome_made style arena ids toks plan line laid.0 in
    lines_length style budget arena ids toks run (decided_all plan made) lines final laid.1 laid.4 ∙ length-decided_all plan made
