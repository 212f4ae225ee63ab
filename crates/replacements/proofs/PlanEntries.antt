-- A plan by its entries.
use Rattle.std.proofs.Common.{append-nil, ◌≡◌, ◌∙◌, ◌<◌, ◌≤◌, ◌+◌, ◌-◌, ◌/◌, ◌%◌, ◌^◌, ℕ, zero, suc, true, false, Some, None, Option, List, [], ◌∷◌, ◌++◌, length, get_or, take, drop, replicate, set, refl, ap, sym, subst, arith}
use Rattle.std.specs.Prelude.{All, slice_get, is_some, IsSome, if◌then◌else◌}
use Rattle.std.proofs.lemmas.List.{get_or-drop, get_or-map, get_or-take, get_or_append_left, length-append, length-drop, length-map, length-replicate, length-set, length-take-le, map-set}
use Rattle.std.proofs.lemmas.List.Elements.{All-cons, All-get_or, All-head, All-set, All-tail}
use Rattle.std.proofs.lemmas.Nat.{div-add-mod'}
use Rattle.std.proofs.lemmas.Option.{slice_get-get_or}
use Rattle.std.proofs.Math.Seq.{get_or-append_seam}
use Rattle.std.proofs.lemmas.Bool.{false≢true, true≢false}
use Rattle.replacements.specs.Decisions.{AreDecided, IsSomeOpen, decided, slot_of}
use Rattle.replacements.specs.Inside.{AreTaken, FitApart, IsGrown, IsHeld, IsSomeFree, in_pages, is_open, open_in, slot_in, slots_in}
use Rattle.replacements.specs.declared.entry.Entry.{Entry}
use Rattle.replacements.specs.declared.entry.Entry.TheVariants.{Open, Old, Spaces, Line, BlankLine, FarOld, FarNothing, FarBlank, DeepLine, Apart}
use Rattle.replacements.specs.declared.gap_text.Decision.TheVariants as decision
use Rattle.replacements.specs.declared.slot.Slot.{Slot}

-- in open entries nothing is decided
pub all_open : (width : ℕ) (count : ℕ) → slots_in width [] (replicate count Open) ≡ replicate count None
all_open width zero = refl
all_open width (suc count) = ap (λ (z : List (Option Slot)). None ∷ z) (all_open width count)

-- so each gap of a text can stand apart
open_count : (count : ℕ) → open_in (replicate count Open) ≡ count
open_count zero = refl
open_count (suc count) = ap (λ (n : ℕ). suc n) (open_count count)

open_held : (count : ℕ) → All (IsHeld []) (replicate count Open)
open_held zero = λ k d within. absurd (omega (arith, within))
open_held (suc count) = All-cons (IsHeld []) Open (replicate count Open) tt (open_held count)

pub fit_open : (count capacity : ℕ) → count ≤ capacity → count < 2 ^ 24 → FitApart [] capacity (replicate count Open)
fit_open count capacity room few =
    let long : length (replicate count Open) ≡ count = length-replicate count Open in
    let free : open_in (replicate count Open) ≡ count = open_count count in record {
      held = open_held count;
      few = omega (arith, long, free);
      room = omega (arith, room, long);
      count = omega (arith, few, long);
    }

-- ## One decision more that stands apart

no_slot : Slot
no_slot = record { decision = decision.Old; end = 0 }

held_more : (apart more : List Slot) (entry : Entry) → IsHeld apart entry → IsHeld (apart ++ more) entry
held_more apart more Open held = held
held_more apart more (Old end) held = held
held_more apart more (Spaces count end) held = held
held_more apart more (Line level column) held = held
held_more apart more (BlankLine level column) held = held
held_more apart more (FarOld page at) held = held
held_more apart more (FarNothing page at) held = held
held_more apart more (FarBlank page at) held = held
held_more apart more (DeepLine page at) held = held
held_more apart more (Apart page at) held = let long : length (apart ++ more) ≡ length apart + length more = length-append apart more in omega (arith, held, long)

slot_more : (width : ℕ) (apart more : List Slot) (entry : Entry) → IsHeld apart entry → slot_in width (apart ++ more) entry ≡ slot_in width apart entry
slot_more width apart more Open held = refl
slot_more width apart more (Old end) held = refl
slot_more width apart more (Spaces count end) held = refl
slot_more width apart more (Line level column) held = refl
slot_more width apart more (BlankLine level column) held = refl
slot_more width apart more (FarOld page at) held = refl
slot_more width apart more (FarNothing page at) held = refl
slot_more width apart more (FarBlank page at) held = refl
slot_more width apart more (DeepLine page at) held = refl
slot_more width apart more (Apart page at) held =
    let long : length (apart ++ more) ≡ length apart + length more = length-append apart more in
    slice_get-get_or (apart ++ more) (in_pages page at) no_slot (omega (arith, held, long))
    ∙ (ap (λ (slot : Slot). Some slot) (get_or_append_left apart more no_slot (in_pages page at) held) ∙ sym (slice_get-get_or apart (in_pages page at) no_slot held))

all_held_more : (apart more : List Slot) (entries : List Entry) → All (IsHeld apart) entries → All (IsHeld (apart ++ more)) entries
all_held_more apart more [] held = λ k d within. absurd (omega (arith, within))
all_held_more apart more (entry ∷ later) held = All-cons (IsHeld (apart ++ more)) entry later (held_more apart more entry (All-head (IsHeld apart) entry later held)) (all_held_more apart more later (All-tail (IsHeld apart) entry later held))

slots_more : (width : ℕ) (apart more : List Slot) (entries : List Entry) → All (IsHeld apart) entries → slots_in width (apart ++ more) entries ≡ slots_in width apart entries
slots_more width apart more [] held = refl
slots_more width apart more (entry ∷ later) held =
    ap (λ (slot : Option Slot). slot ∷ slots_in width (apart ++ more) later) (slot_more width apart more entry (All-head (IsHeld apart) entry later held))
    ∙ ap (λ (slots : List (Option Slot)). slot_in width apart entry ∷ slots) (slots_more width apart more later (All-tail (IsHeld apart) entry later held))

-- the decision that stands apart last
last_apart : (width : ℕ) (apart : List Slot) (slot : Slot) → slot_in width (apart ++ slot ∷ []) (Apart (length apart / 65536) (length apart % 65536)) ≡ Some slot
last_apart width apart slot =
    let long : length (apart ++ slot ∷ []) ≡ length apart + length (slot ∷ []) = length-append apart (slot ∷ []) in
    let place : in_pages (length apart / 65536) (length apart % 65536) ≡ length apart = div-add-mod' (length apart) 65536 in
    ap (λ (n : ℕ). slice_get (apart ++ slot ∷ []) n) place
    ∙ (slice_get-get_or (apart ++ slot ∷ []) (length apart) no_slot (omega (arith, long)) ∙ ap (λ (last : Slot). Some last) (get_or-append_seam apart slot [] no_slot))

-- so its entry says
pub apart_grown : (before after : List Slot) (slot : Slot) → after ≡ before ++ slot ∷ [] → IsGrown before after
apart_grown before after slot is = record { more = slot ∷ []; grown = is; few = omega arith }

pub apart_held : (before after : List Slot) (slot : Slot) (entry : Entry) → after ≡ before ++ slot ∷ [] → entry ≡ Apart (length before / 65536) (length before % 65536) → IsHeld after entry
apart_held before after slot entry is entry_is =
    let place : in_pages (length before / 65536) (length before % 65536) ≡ length before = div-add-mod' (length before) 65536 in
    let long : length (before ++ slot ∷ []) ≡ length before + length (slot ∷ []) = length-append before (slot ∷ []) in
    let within : length before < length (before ++ slot ∷ []) = omega (arith, long) in
    let here : IsHeld (before ++ slot ∷ []) (Apart (length before / 65536) (length before % 65536)) = subst (λ (n : ℕ). n < length (before ++ slot ∷ [])) (sym place) within in
    subst (λ (e : Entry). IsHeld after e) (sym entry_is) (subst (λ (slots : List Slot). IsHeld slots (Apart (length before / 65536) (length before % 65536))) (sym is) here)

pub apart_slot : (width : ℕ) (before after : List Slot) (slot : Slot) (entry : Entry) → after ≡ before ++ slot ∷ [] → entry ≡ Apart (length before / 65536) (length before % 65536) → slot_in width after entry ≡ Some slot
apart_slot width before after slot entry is entry_is =
    ap (λ (slots : List Slot). slot_in width slots entry) is
    ∙ (ap (λ (e : Entry). slot_in width (before ++ slot ∷ []) e) entry_is ∙ last_apart width before slot)

-- no decision more stands apart
pub none_grown : (apart : List Slot) → IsGrown apart apart
none_grown apart = record { more = []; grown = sym (append-nil apart); few = omega arith }

-- ## An entry for an open gap

taken_in : (entry : Entry) (later : List Entry) → is_open entry ≡ false → open_in (entry ∷ later) ≡ open_in later
taken_in Open later taken = absurd (true≢false taken)
taken_in (Old end) later taken = refl
taken_in (Spaces count end) later taken = refl
taken_in (Line level column) later taken = refl
taken_in (BlankLine level column) later taken = refl
taken_in (FarOld page at) later taken = refl
taken_in (FarNothing page at) later taken = refl
taken_in (FarBlank page at) later taken = refl
taken_in (DeepLine page at) later taken = refl
taken_in (Apart page at) later taken = refl

free_in : (entry : Entry) (later : List Entry) → is_open entry ≡ true → open_in (entry ∷ later) ≡ suc (open_in later)
free_in Open later free = refl
free_in (Old end) later free = absurd (false≢true free)
free_in (Spaces count end) later free = absurd (false≢true free)
free_in (Line level column) later free = absurd (false≢true free)
free_in (BlankLine level column) later free = absurd (false≢true free)
free_in (FarOld page at) later free = absurd (false≢true free)
free_in (FarNothing page at) later free = absurd (false≢true free)
free_in (FarBlank page at) later free = absurd (false≢true free)
free_in (DeepLine page at) later free = absurd (false≢true free)
free_in (Apart page at) later free = absurd (false≢true free)

open_on : (first : Entry) (fewer later : List Entry) → suc (open_in fewer) ≡ open_in later → suc (open_in (first ∷ fewer)) ≡ open_in (first ∷ later)
open_on Open fewer later less = ap (λ (n : ℕ). suc n) less
open_on (Old end) fewer later less = less
open_on (Spaces count end) fewer later less = less
open_on (Line level column) fewer later less = less
open_on (BlankLine level column) fewer later less = less
open_on (FarOld page at) fewer later less = less
open_on (FarNothing page at) fewer later less = less
open_on (FarBlank page at) fewer later less = less
open_on (DeepLine page at) fewer later less = less
open_on (Apart page at) fewer later less = less

-- the entry of a decision in the place of that of an open gap
open_less : (entries : List Entry) (place : ℕ) (entry : Entry) → place < length entries → is_open (get_or entries place Open) ≡ true → is_open entry ≡ false
    → suc (open_in (set entries place entry)) ≡ open_in entries
open_less [] place entry within free taken = absurd (omega (arith, within))
open_less (first ∷ later) zero entry within free taken = ap (λ (n : ℕ). suc n) (taken_in entry later taken) ∙ sym (free_in first later free)
open_less (first ∷ later) (suc place) entry within free taken =
    let less : suc (open_in (set later place entry)) ≡ open_in later = open_less later place entry (omega (arith, within)) free taken in
    open_on first (set later place entry) later less

pub fit_decided : (before after : List Slot) (capacity capacity_behind : ℕ) (entries : List Entry) (place : ℕ) (entry : Entry) → FitApart before capacity entries → IsGrown before after → capacity_behind ≡ capacity
    → IsHeld after entry → is_open entry ≡ false → place < length entries → is_open (get_or entries place Open) ≡ true → FitApart after capacity_behind (set entries place entry)
fit_decided before after capacity capacity_behind entries place entry fit grown same held taken within free =
    let long : length (set entries place entry) ≡ length entries = length-set entries place entry in
    let less : suc (open_in (set entries place entry)) ≡ open_in entries = open_less entries place entry within free taken in
    let more : length after ≡ length before + length grown.more = ap (λ (slots : List Slot). length slots) grown.grown ∙ length-append before grown.more in
    let all : All (IsHeld after) entries = subst (λ (slots : List Slot). All (IsHeld slots) entries) (sym grown.grown) (all_held_more before grown.more entries fit.held) in record {
      held = All-set (IsHeld after) entries place entry held all;
      few = omega (arith, fit.few, long, less, more, grown.few);
      room = omega (arith, fit.room, long, same);
      count = omega (arith, fit.count, long);
    }

pub entry_set : (width : ℕ) (before after : List Slot) (entries : List Entry) (plan : List (Option Slot)) (place : ℕ) (entry : Entry) (slot : Slot) → plan ≡ slots_in width before entries → All (IsHeld before) entries → IsGrown before after
    → slot_in width after entry ≡ Some slot → is_some (slot_of plan place) ≡ false → slots_in width after (set entries place entry) ≡ decided plan place slot
entry_set width before after entries plan place entry slot view held grown is open_gap =
    let same : slots_in width after entries ≡ plan = ap (λ (slots : List Slot). slots_in width slots entries) grown.grown ∙ (slots_more width before grown.more entries held ∙ sym view) in
    map-set (slot_in width after) entries place entry
    ∙ (ap (λ z. set (slots_in width after entries) place z) is
    ∙ (ap (λ z. set z place (Some slot)) same
    ∙ sym (ap (λ b. if b then plan else set plan place (Some slot)) open_gap)))

-- ## Entries that are decided

taken_some : (width : ℕ) (apart : List Slot) (entry : Entry) → IsHeld apart entry → is_open entry ≡ false → IsSome (slot_in width apart entry)
taken_some width apart Open held taken = absurd (true≢false taken)
taken_some width apart (Old end) held taken = search
taken_some width apart (Spaces count end) held taken = search
taken_some width apart (Line level column) held taken = search
taken_some width apart (BlankLine level column) held taken = search
taken_some width apart (FarOld page at) held taken = search
taken_some width apart (FarNothing page at) held taken = search
taken_some width apart (FarBlank page at) held taken = search
taken_some width apart (DeepLine page at) held taken = search
taken_some width apart (Apart page at) held taken = subst (λ (slot : Option Slot). IsSome slot) (sym (slice_get-get_or apart (in_pages page at) no_slot held)) search

free_none : (width : ℕ) (apart : List Slot) (entry : Entry) → is_open entry ≡ true → slot_in width apart entry ≡ None
free_none width apart Open free = refl
free_none width apart (Old end) free = absurd (false≢true free)
free_none width apart (Spaces count end) free = absurd (false≢true free)
free_none width apart (Line level column) free = absurd (false≢true free)
free_none width apart (BlankLine level column) free = absurd (false≢true free)
free_none width apart (FarOld page at) free = absurd (false≢true free)
free_none width apart (FarNothing page at) free = absurd (false≢true free)
free_none width apart (FarBlank page at) free = absurd (false≢true free)
free_none width apart (DeepLine page at) free = absurd (false≢true free)
free_none width apart (Apart page at) free = absurd (false≢true free)

slot_at : (width : ℕ) (apart : List Slot) (entries : List Entry) (place : ℕ) → place < length entries → slot_of (slots_in width apart entries) place ≡ slot_in width apart (get_or entries place Open)
slot_at width apart entries place within = get_or-map (slot_in width apart) entries place Open None within

-- an entry tells whether its gap is decided
pub decided_at : (width : ℕ) (apart : List Slot) (entries : List Entry) (plan : List (Option Slot)) (place : ℕ) → plan ≡ slots_in width apart entries → All (IsHeld apart) entries → place < length entries
    → is_open (get_or entries place Open) ≡ false → IsSome (slot_of plan place)
decided_at width apart entries plan place view held within taken =
    subst (λ (slot : Option Slot). IsSome slot) (sym (ap (λ (slots : List (Option Slot)). slot_of slots place) view ∙ slot_at width apart entries place within))
    (taken_some width apart (get_or entries place Open) (All-get_or (IsHeld apart) entries place Open within held) taken)

pub open_at : (width : ℕ) (apart : List Slot) (entries : List Entry) (plan : List (Option Slot)) (place : ℕ) → plan ≡ slots_in width apart entries → place < length entries
    → is_open (get_or entries place Open) ≡ true → slot_of plan place ≡ None
open_at width apart entries plan place view within free =
    ap (λ (slots : List (Option Slot)). slot_of slots place) view ∙ (slot_at width apart entries place within ∙ free_none width apart (get_or entries place Open) free)

pub long_as : (width : ℕ) (apart : List Slot) (entries : List Entry) (plan : List (Option Slot)) → plan ≡ slots_in width apart entries → length plan ≡ length entries
long_as width apart entries plan view = ap (λ (slots : List (Option Slot)). length slots) view ∙ length-map entries (slot_in width apart)

-- what the entries from one up to another have is what the plan has there
entry_between : (entries : List Entry) (first many place : ℕ) → place < many → get_or (take many (drop first entries)) place Open ≡ get_or entries (first + place) Open
entry_between entries first many place within = get_or-take many (drop first entries) place Open within ∙ get_or-drop first entries place Open

many_between : (entries : List Entry) (first end : ℕ) → end ≤ length entries → length (take (end - first) (drop first entries)) ≡ end - first
many_between entries first end fits =
    let left : length (drop first entries) ≡ length entries - first = length-drop first entries in
    length-take-le (end - first) (drop first entries) (omega (arith, fits, left))

pub decided_between : (width : ℕ) (apart : List Slot) (entries : List Entry) (plan : List (Option Slot)) (first end : ℕ) → plan ≡ slots_in width apart entries → All (IsHeld apart) entries → end ≤ length plan
    → AreTaken (take (end - first) (drop first entries)) 0 (length (take (end - first) (drop first entries))) → AreDecided plan first end
decided_between width apart entries plan first end view held fits all place from within =
    let long : length plan ≡ length entries = long_as width apart entries plan view in
    let many : length (take (end - first) (drop first entries)) ≡ end - first = many_between entries first end (omega (arith, fits, long)) in
    let behind : ℕ = place - first in
    let here : first + behind ≡ place = omega (arith, from) in
    let few : behind < end - first = omega (arith, from, within) in
    let told : is_open (get_or (take (end - first) (drop first entries)) behind Open) ≡ false = all behind (omega arith) (omega (arith, few, many)) in
    decided_at width apart entries plan place view held (omega (arith, within, fits, long))
    (subst (λ (k : ℕ). is_open (get_or entries k Open) ≡ false) here (ap (λ (entry : Entry). is_open entry) (sym (entry_between entries first (end - first) behind few)) ∙ told))

pub open_between : (width : ℕ) (apart : List Slot) (entries : List Entry) (plan : List (Option Slot)) (first end : ℕ) → plan ≡ slots_in width apart entries → end ≤ length plan
    → IsSomeFree (take (end - first) (drop first entries)) 0 (length (take (end - first) (drop first entries))) → IsSomeOpen plan first end
open_between width apart entries plan first end view fits some =
    let long : length plan ≡ length entries = long_as width apart entries plan view in
    let many : length (take (end - first) (drop first entries)) ≡ end - first = many_between entries first end (omega (arith, fits, long)) in
    let few : some.place < end - first = omega (arith, some.within, many) in record {
      place = first + some.place;
      from = omega arith;
      within = omega (arith, few);
      open_gap = open_at width apart entries plan (first + some.place) view (omega (arith, few, fits, long))
          (ap (λ (entry : Entry). is_open entry) (sym (entry_between entries first (end - first) some.place few)) ∙ some.free);
    }

-- ## What an entry has is what the plan has

-- what is told of an entry's decision, whatever stands apart, is that of the gap
pub slot_is : (width : ℕ) (apart : List Slot) (entries : List Entry) (plan : List (Option Slot)) (place : ℕ) → plan ≡ slots_in width apart entries → place < length plan → slot_of plan place ≡ slot_in width apart (get_or entries place Open)
slot_is width apart entries plan place view within =
    let long : length plan ≡ length entries = long_as width apart entries plan view in
    ap (λ (slots : List (Option Slot)). slot_of slots place) view ∙ slot_at width apart entries place (omega (arith, within, long))

-- the entry of an open gap is open
told_open : (width : ℕ) (apart : List Slot) (entry : Entry) → IsHeld apart entry → is_some (slot_in width apart entry) ≡ false → is_open entry ≡ true
told_open width apart Open held none = refl
told_open width apart (Old end) held none = absurd (true≢false none)
told_open width apart (Spaces count end) held none = absurd (true≢false none)
told_open width apart (Line level column) held none = absurd (true≢false none)
told_open width apart (BlankLine level column) held none = absurd (true≢false none)
told_open width apart (FarOld page at) held none = absurd (true≢false none)
told_open width apart (FarNothing page at) held none = absurd (true≢false none)
told_open width apart (FarBlank page at) held none = absurd (true≢false none)
told_open width apart (DeepLine page at) held none = absurd (true≢false none)
told_open width apart (Apart page at) held none = absurd (true≢false (sym (ap (λ (slot : Option Slot). is_some slot) (slice_get-get_or apart (in_pages page at) no_slot held)) ∙ none))

pub is_free : (width : ℕ) (apart : List Slot) (entries : List Entry) (plan : List (Option Slot)) (place : ℕ) → plan ≡ slots_in width apart entries → All (IsHeld apart) entries → is_some (slot_of plan place) ≡ false
    → place < length plan → is_open (get_or entries place Open) ≡ true
is_free width apart entries plan place view held open_gap within =
    let long : length plan ≡ length entries = long_as width apart entries plan view in
    told_open width apart (get_or entries place Open) (All-get_or (IsHeld apart) entries place Open (omega (arith, within, long)) held)
    (ap (λ (slot : Option Slot). is_some slot) (sym (slot_is width apart entries plan place view within)) ∙ open_gap)

some_open : (entries : List Entry) (place : ℕ) → place < length entries → is_open (get_or entries place Open) ≡ true → 0 < open_in entries
some_open entries place within free = let less : suc (open_in (set entries place (Old 0))) ≡ open_in entries = open_less entries place (Old 0) within free refl in omega (arith, less)

-- where a gap is open, fewer decisions stand apart than there are gaps
pub some_free : (width : ℕ) (apart : List Slot) (entries : List Entry) (plan : List (Option Slot)) (place capacity : ℕ) → plan ≡ slots_in width apart entries → FitApart apart capacity entries → is_some (slot_of plan place) ≡ false
    → place < length plan → length apart < length entries
some_free width apart entries plan place capacity view fit open_gap within =
    let long : length plan ≡ length entries = long_as width apart entries plan view in
    let some : 0 < open_in entries = some_open entries place (omega (arith, within, long)) (is_free width apart entries plan place view fit.held open_gap within) in
    omega (arith, some, fit.few)
