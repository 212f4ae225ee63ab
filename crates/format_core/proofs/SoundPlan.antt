-- What holds of the plans of a text, whichever lines are reported.
use Rattle.std.proofs.Common.{◌≡◌, ◌∙◌, inl, inr, ℕ, zero, suc, ◌+◌, ◌-◌, ◌<◌, ◌≤◌, Option, None, Some, List, [], ◌∷◌}
use Rattle.std.proofs.Common.{length, get_or, sym, ap, arith, subst}
use Rattle.std.specs.Prelude.{All, slice_range}
use Rattle.std.specs.List.{Contains}
use Rattle.std.proofs.lemmas.List.{get_or_default}
use Rattle.c_chars.specs.declared.Dialect.{Dialect}
use Rattle.c_grammar.specs.Twin.{IsTwin}
use Rattle.style_table.specs.declared.style.Style.{Style}
use Rattle.token_arena.specs.Gaps.{Contents}
use Rattle.token_arena.proofs.Whole.{sections_are_cut}
use Rattle.branch_runs.specs.Marks.{marks_of}
use Rattle.branch_runs.proofs.Live.{is_covered}
use Rattle.token_arena.specs.Sections.{sections_of}
use Rattle.token_classes.specs.Kept.{kept_gaps_of}
use Rattle.token_classes.specs.Partners.{partners_of}
use Rattle.item_classes.specs.Viewed.{AreWithin, classes_of}
use Rattle.unwrapped_lines.proofs.Started.{lines_cut_views}
use Rattle.part_walk.specs.Places.{Place}
use Rattle.view_parts.specs.Parts.{PartStop, items_before, laid_items, part_ends}
use Rattle.annotator.proofs.Counts.{as_many_roles, roles_tell}
use Rattle.replacements.specs.declared.slot.Slot.{Slot}
use Rattle.replacements.specs.Decisions.{slot_of}
use Rattle.replacements.specs.Sound.{IsSound}
use Rattle.replacements.specs.Stances.{stance_in}
use Rattle.replacements.specs.declared.stance.Stance.TheVariants.{OfText}
use Rattle.replacements.proofs.Firsts.{stay}
use Rattle.replacements.proofs.SoundTwin.{sound_twin}
use Rattle.run_layout.specs.Laws.{AreOfTexts}
use Rattle.run_layout.specs.Outcomes.{LaidLine}
use Rattle.run_layout.proofs.Views.{views_stay_sound, views_keep, views_decide, view_length}
use Rattle.line_gaps.proofs.MadeFor.{IsDecided, is_some-decided, decided-is_some}
use Rattle.line_gaps.proofs.Stands.{all_sound}
use Rattle.run_layout.proofs.Telling.{stand_for_items}
use Rattle.run_layout.specs.Tells.{StandForItems}
use Rattle.off_regions.specs.declared.range.LineRange.{LineRange}
use Rattle.early_gaps.specs.BeforeRuns.{early_plan}
use Rattle.early_gaps.specs.EarlyLaws.{IsLeft}
use Rattle.early_gaps.proofs.LeftOpen.{early_or_left_open}
use Rattle.early_gaps.proofs.SoundStart.{early_sound}
use Rattle.early_gaps.specs.Columns.{column_at}
use Rattle.line_gaps.specs.InputColumns.{kept_slot}
use Rattle.early_gaps.proofs.Tells.{early_keeps, length-early}
use Rattle.run_parts.specs.KeptGaps.{kept_decisions}
use Rattle.format_core.specs.Laws.{PlannedTextsAreTwins, EarlyDecisionsStay, KeptGapsStay, EveryGapIsDecided}
use Rattle.format_core.specs.Plans.{AfterItems, AfterParts, AfterSeen, AfterRuns, IsPlanOf}
use Rattle.run_parts.specs.Runs.{runs_of, seen_by, after_kept}
use Rattle.annotator.specs.Tokens.{toks_of_lines}
use Rattle.unwrapped_lines.specs.Lines.{lines_of_items}
use Rattle.run_parts.proofs.Parts.{laid_have, laid_item, laid_length, part_length, before_or_behind}
use Rattle.view_parts.proofs.InOrder.{AreEnds, ends_cut}
use Rattle.run_parts.proofs.PlacesStand.{PlacesHave, part_places_have}
use Rattle.run_parts.proofs.SeenInOrder.{seen_increases}
use Rattle.run_parts.proofs.Seen.{here_or_later, length-kept, seen_within}
use Rattle.run_parts.proofs.OfTexts.{views_are_of_texts, text_mark}
use Rattle.run_parts.proofs.GapsKept.{kept_stand}

-- ## What a run tells of its items

-- the tokens of these items tell of them what the layout needs
pub tell : (style : Style) (arena : Contents) (ids : List ℕ) → StandForItems arena ids (toks_of_lines arena ids (lines_of_items style arena ids))
tell style arena ids =
    let partners = partners_of (classes_of arena ids) in
    let lines = lines_of_items style arena ids in
    stand_for_items arena ids (toks_of_lines arena ids (lines_of_items style arena ids)) (as_many_roles arena ids partners lines (lines_cut_views style arena ids partners)) (roles_tell arena ids partners lines)

-- ## The text is a twin

items_sound : (style : Style) (budget : ℕ) (arena : Contents) (run : ℕ) (plan : List (Option Slot)) (ids : List ℕ) (final : List (Option Slot)) (done : List LaidLine) → AreWithin arena ids → AreOfTexts arena ids
    → AfterItems style budget arena run plan ids final done → IsSound arena plan → IsSound arena final
items_sound style budget arena run plan ids final done within texts laid sound =
    let made = kept_decisions style arena 0 ids (kept_gaps_of (classes_of arena ids)) in
    views_stay_sound style budget arena ids (toks_of_lines arena ids (lines_of_items style arena ids)) run (after_kept style arena plan ids) (lines_of_items style arena ids) final done within texts (tell style arena ids)
    (lines_cut_views style arena ids (partners_of (classes_of arena ids))) laid
    (all_sound arena plan made sound (kept_stand style arena 0 ids (kept_gaps_of (classes_of arena ids))))

-- it is an item of a text
abbrev IsInText : Contents → ℕ → Type 0
IsInText arena id = (id < length arena.tokens) × (stance_in (sections_of arena) id ≡ OfText)

parts_sound : (style : Style) (budget : ℕ) (arena : Contents) (run : ℕ) (plan : List (Option Slot)) (ids : List ℕ) (begins : Option Place) (first : ℕ) (stops : List PartStop) (final : List (Option Slot)) (done : List LaidLine)
    → All (IsInText arena) ids → All (IsInText arena) (items_before begins) → PlacesHave (IsInText arena) stops → AfterParts style budget arena run plan ids begins first stops final done → IsSound arena plan → IsSound arena final
parts_sound style budget arena run plan ids begins first [] final done all here places laid sound = subst (λ (p : List (Option Slot)). IsSound arena p) (sym laid.0) sound
parts_sound style budget arena run plan ids begins first (stop ∷ stops) final done all here places laid sound =
    let part = laid_have (IsInText arena) ids begins first stop.end here all in
    parts_sound style budget arena run laid.0 ids stop.inside stop.end stops final laid.2 all places.0 places.1 laid.4
    (items_sound style budget arena run plan (laid_items begins ids first stop.end) laid.0 laid.1 (λ k d below. (part k d below).0) (λ k d below. (part k d below).1) laid.3 sound)

runs_sound : (style : Style) (budget : ℕ) (arena : Contents) (plan : List (Option Slot)) (run count : ℕ) (final : List (Option Slot)) (done : List LaidLine)
    → AfterRuns style budget arena plan run count final done → IsSound arena plan → IsSound arena final
runs_sound style budget arena plan run zero final done laid sound = subst (λ (p : List (Option Slot)). IsSound arena p) (sym laid.0) sound
runs_sound style budget arena plan run (suc count) final done laid sound =
    let ids = seen_by arena run in
    let all : All (IsInText arena) ids = λ k d below. (seen_within arena run k d below, views_are_of_texts arena (sections_are_cut arena) run k d below) in
    let none : All (IsInText arena) (items_before None) = λ k d below. absurd (omega (arith, below)) in
    runs_sound style budget arena laid.0 (run + 1) count final laid.2 laid.4
    (parts_sound style budget arena run plan ids None 0 (part_ends arena ids) laid.0 laid.1 all none (part_places_have (IsInText arena) arena ids (seen_increases arena run) all) laid.3 sound)

pub planned_texts_are_twins : PlannedTextsAreTwins
planned_texts_are_twins style ranges budget crlf arena plan done holds laid =
    sound_twin style crlf arena plan holds (runs_sound style budget arena (early_plan style arena ranges) 0 (runs_of arena) plan done laid (early_sound style arena ranges holds))

-- twins of equal texts
pub twin_along : (d e : Dialect) (b b' c c' : List ℕ) → d ≡ e → b ≡ b' → c ≡ c' → IsTwin d b c → IsTwin e b' c'
twin_along d e b b' c c' dialect first second twin =
    subst (λ (x : Dialect). IsTwin x b' c') dialect (subst (λ (x : List ℕ). IsTwin d x c') first (subst (λ (x : List ℕ). IsTwin d b x) second twin))

-- ## What is decided stays

pub items_keep : (style : Style) (budget : ℕ) (arena : Contents) (run : ℕ) (plan : List (Option Slot)) (ids : List ℕ) (final : List (Option Slot)) (done : List LaidLine) (place : ℕ) (slot : Slot)
    → AfterItems style budget arena run plan ids final done → slot_of plan place ≡ Some slot → slot_of final place ≡ Some slot
items_keep style budget arena run plan ids final done place slot laid is =
    views_keep style budget arena ids (toks_of_lines arena ids (lines_of_items style arena ids)) run (after_kept style arena plan ids) (lines_of_items style arena ids) final done laid place slot
    (stay plan (kept_decisions style arena 0 ids (kept_gaps_of (classes_of arena ids))) place slot is)

pub parts_keep : (style : Style) (budget : ℕ) (arena : Contents) (run : ℕ) (plan : List (Option Slot)) (ids : List ℕ) (begins : Option Place) (first : ℕ) (stops : List PartStop) (final : List (Option Slot)) (done : List LaidLine) (place : ℕ) (slot : Slot)
    → AfterParts style budget arena run plan ids begins first stops final done → slot_of plan place ≡ Some slot → slot_of final place ≡ Some slot
parts_keep style budget arena run plan ids begins first [] final done place slot laid is = subst (λ (p : List (Option Slot)). slot_of p place ≡ Some slot) (sym laid.0) is
parts_keep style budget arena run plan ids begins first (stop ∷ stops) final done place slot laid is =
    parts_keep style budget arena run laid.0 ids stop.inside stop.end stops final laid.2 place slot laid.4 (items_keep style budget arena run plan (laid_items begins ids first stop.end) laid.0 laid.1 place slot laid.3 is)

runs_keep : (style : Style) (budget : ℕ) (arena : Contents) (plan : List (Option Slot)) (run count : ℕ) (final : List (Option Slot)) (done : List LaidLine) (place : ℕ) (slot : Slot)
    → AfterRuns style budget arena plan run count final done → slot_of plan place ≡ Some slot → slot_of final place ≡ Some slot
runs_keep style budget arena plan run zero final done place slot laid is = subst (λ (p : List (Option Slot)). slot_of p place ≡ Some slot) (sym laid.0) is
runs_keep style budget arena plan run (suc count) final done place slot laid is =
    runs_keep style budget arena laid.0 (run + 1) count final laid.2 place slot laid.4
    (parts_keep style budget arena run plan (seen_by arena run) None 0 (part_ends arena (seen_by arena run)) laid.0 laid.1 place slot laid.3 is)

pub early_decisions_stay : EarlyDecisionsStay
early_decisions_stay style ranges budget arena plan done place slot laid is =
    runs_keep style budget arena (early_plan style arena ranges) 0 (runs_of arena) plan done place slot laid is

pub kept_gaps_stay : KeptGapsStay
kept_gaps_stay style ranges budget arena plan done place laid within stays =
    early_decisions_stay style ranges budget arena plan done place (kept_slot (column_at style.tab_width arena place)) laid (early_keeps style arena ranges place within stays)

-- ## Each gap is decided

all_keep : (style : Style) (budget : ℕ) (arena : Contents) (plan : List (Option Slot)) (run count : ℕ) (final : List (Option Slot)) (done : List LaidLine) (place : ℕ)
    → AfterRuns style budget arena plan run count final done → IsDecided plan place → IsDecided final place
all_keep style budget arena plan run count final done place laid h = (h.0, runs_keep style budget arena plan run count final done place h.0 laid h.1)

length-items : (style : Style) (budget : ℕ) (arena : Contents) (run : ℕ) (plan : List (Option Slot)) (ids : List ℕ) (final : List (Option Slot)) (done : List LaidLine)
    → AfterItems style budget arena run plan ids final done → length final ≡ length plan
length-items style budget arena run plan ids final done laid =
    view_length style budget arena ids (toks_of_lines arena ids (lines_of_items style arena ids)) run (after_kept style arena plan ids) (lines_of_items style arena ids) final done laid ∙ length-kept style arena plan ids

length-parts : (style : Style) (budget : ℕ) (arena : Contents) (run : ℕ) (plan : List (Option Slot)) (ids : List ℕ) (begins : Option Place) (first : ℕ) (stops : List PartStop) (final : List (Option Slot)) (done : List LaidLine)
    → AfterParts style budget arena run plan ids begins first stops final done → length final ≡ length plan
length-parts style budget arena run plan ids begins first [] final done laid = ap (λ (p : List (Option Slot)). length p) laid.0
length-parts style budget arena run plan ids begins first (stop ∷ stops) final done laid =
    length-parts style budget arena run laid.0 ids stop.inside stop.end stops final laid.2 laid.4 ∙ length-items style budget arena run plan (laid_items begins ids first stop.end) laid.0 laid.1 laid.3

-- behind a part each gap of its items is decided
pub items_decided : (style : Style) (budget : ℕ) (arena : Contents) (run : ℕ) (plan : List (Option Slot)) (ids : List ℕ) (final : List (Option Slot)) (done : List LaidLine) (k : ℕ) → length plan ≡ length arena.tokens + 1
    → AreWithin arena ids → k < length ids → AfterItems style budget arena run plan ids final done → IsDecided final (get_or ids k 0)
items_decided style budget arena run plan ids final done k long all below laid =
    let kept : List (Option Slot) = after_kept style arena plan ids in
    let same : length kept ≡ length plan = length-kept style arena plan ids in
    let within : All (λ i. i < length kept) ids = λ j d low. (let w = all j d low in omega (arith, w, long, same)) in
    decided-is_some final (get_or ids k 0)
    (views_decide style budget arena ids (toks_of_lines arena ids (lines_of_items style arena ids)) run kept (lines_of_items style arena ids) final done within (tell style arena ids)
    (lines_cut_views style arena ids (partners_of (classes_of arena ids))) laid k 0 below)

-- behind all parts each gap of their items is decided
parts_decided : (style : Style) (budget : ℕ) (arena : Contents) (run : ℕ) (plan : List (Option Slot)) (ids : List ℕ) (begins : Option Place) (first : ℕ) (stops : List PartStop) (final : List (Option Slot)) (done : List LaidLine)
    (place : ℕ) → length plan ≡ length arena.tokens + 1 → AreWithin arena ids → AreWithin arena (items_before begins) → PlacesHave (λ id. id < length arena.tokens) stops → AreEnds first (length ids) stops → first ≤ place
    → place < length ids → AfterParts style budget arena run plan ids begins first stops final done → IsDecided final (get_or ids place 0)
parts_decided style budget arena run plan ids begins first [] final done place long within here places cut low high laid = absurd (omega (arith, cut, low, high))
parts_decided style budget arena run plan ids begins first (stop ∷ stops) final done place long within here places cut low high laid =
    let part = laid_items begins ids first stop.end in
    elim (before_or_behind place stop.end) [
      | inl before ↦
          let k = length (items_before begins) + (place - first) in
          let own : place - first < length (slice_range ids first stop.end) = omega (arith, low, high, before, part_length ids first stop.end) in
          let below : k < length part = omega (arith, low, high, before, laid_length ids begins first stop.end) in
          let e : first + (place - first) ≡ place = omega (arith, low) in
          let at : get_or part k 0 ≡ get_or ids place 0 = laid_item ids begins first stop.end (place - first) 0 own ∙ ap (λ i. get_or ids i 0) e in
          let some : IsDecided laid.0 (get_or part k 0) = items_decided style budget arena run plan part laid.0 laid.1 k long (laid_have (λ id. id < length arena.tokens) ids begins first stop.end here within) below laid.3 in
          let kept : IsDecided final (get_or part k 0) = (some.0, parts_keep style budget arena run laid.0 ids stop.inside stop.end stops final laid.2 (get_or part k 0) some.0 laid.4 some.1) in
          subst (λ i. IsDecided final i) at kept
      | inr later ↦
          let still : length laid.0 ≡ length arena.tokens + 1 = length-items style budget arena run plan part laid.0 laid.1 laid.3 ∙ long in
          parts_decided style budget arena run laid.0 ids stop.inside stop.end stops final laid.2 place still within places.0 places.1 cut.1 later high laid.4
    ]

-- behind a run each gap of an item that it sees is decided
pub seen_decided : (style : Style) (budget : ℕ) (arena : Contents) (plan : List (Option Slot)) (run id : ℕ) (final : List (Option Slot)) (done : List LaidLine) → length plan ≡ length arena.tokens + 1
    → Contains (seen_by arena run) id → AfterSeen style budget arena run plan (seen_by arena run) final done → IsDecided final id
seen_decided style budget arena plan run id final done long (k, below, is) laid =
    let ids = seen_by arena run in
    let within : AreWithin arena ids = seen_within arena run in
    let none : AreWithin arena (items_before None) = λ k d low. absurd (omega (arith, low)) in
    let places = part_places_have (λ id. id < length arena.tokens) arena ids (seen_increases arena run) within in
    let here : IsDecided final (get_or ids k 0) = parts_decided style budget arena run plan ids None 0 (part_ends arena ids) final done k long within none places (ends_cut arena ids) (omega arith) below laid in
    subst (λ i. IsDecided final i) (get_or_default ids k 0 id below ∙ is) here

-- what one of the runs sees is decided behind all of them
runs_decide : (style : Style) (budget : ℕ) (arena : Contents) (plan : List (Option Slot)) (from count : ℕ) (final : List (Option Slot)) (done : List LaidLine) (run id : ℕ) → length plan ≡ length arena.tokens + 1
    → from ≤ run → run < from + count → Contains (seen_by arena run) id → AfterRuns style budget arena plan from count final done → IsDecided final id
runs_decide style budget arena plan from zero final done run id long low high sees laid = absurd (omega (arith, low, high))
runs_decide style budget arena plan from (suc count) final done run id long low high sees laid =
    elim (here_or_later from run low) [
      | inl e ↦
          all_keep style budget arena laid.0 (from + 1) count final laid.2 id laid.4
          (seen_decided style budget arena plan from id laid.0 laid.1 long (subst (λ r. Contains (seen_by arena r) id) (sym e) sees) laid.3)
      | inr later ↦
          let still : length laid.0 ≡ length arena.tokens + 1 = length-parts style budget arena from plan (seen_by arena from) None 0 (part_ends arena (seen_by arena from)) laid.0 laid.1 laid.3 ∙ long in
          runs_decide style budget arena laid.0 (from + 1) count final laid.2 run id still later (omega (arith, high)) sees laid.4
    ]

left_decided : (style : Style) (ranges : Option (List LineRange)) (budget : ℕ) (arena : Contents) (plan : List (Option Slot)) (done : List LaidLine) (place : ℕ) → IsPlanOf style ranges budget arena plan done → IsLeft arena place
    → IsDecided plan place
left_decided style ranges budget arena plan done place laid (within, of_text, alive) =
    let text = text_mark arena 0 (length arena.tokens) (sections_of arena) place (sections_are_cut arena) (omega arith) within of_text in
    let covered = is_covered (marks_of arena) place text alive in
    runs_decide style budget arena (early_plan style arena ranges) 0 (runs_of arena) plan done covered.0 place (length-early style arena ranges) (omega arith) (omega (arith, covered.1)) covered.2 laid

pub every_gap_is_decided : EveryGapIsDecided
every_gap_is_decided style ranges budget arena plan done place laid within =
    is_some-decided plan place (elim (early_or_left_open style arena ranges place within) [
      | inl some ↦ all_keep style budget arena (early_plan style arena ranges) 0 (runs_of arena) plan done place laid (decided-is_some (early_plan style arena ranges) place some)
      | inr left ↦ left_decided style ranges budget arena plan done place laid left
    ])
