-- How far the code has read a part, and what it then tells.
use Rattle.std.proofs.Common.{false, ◌≡◌, ◌∙◌, ℕ, zero, suc, ◌+◌, ◌-◌, ◌<◌, ◌≤◌, Option, Some, None, List, [], ◌∷◌, length, take, drop, reverse, get_or, refl, sym, ap, subst, arith}
use Rattle.std.specs.Prelude.{slice_range}
use Rattle.std.specs.Option.{ForSome}
use Rattle.std.proofs.lemmas.List.{length-drop}
use Rattle.token_arena.specs.Gaps.{Contents}
use Rattle.token_arena.specs.Ids.{Increase, IncreaseFrom}
use Rattle.token_classes.specs.declared.class.TokenClass.{TokenClass}
use Rattle.token_classes.specs.Classes.{is_bracket}
use Rattle.token_classes.specs.declared.pairing.Opener.{Opener}
use Rattle.token_classes.specs.Partners.{StandBefore, count_braces}
use Rattle.part_walk.specs.declared.bodies.Head.{Head}
use Rattle.part_walk.specs.declared.walk.Around.{Around}
use Rattle.part_walk.specs.declared.walk.Walk.{Walk}
use Rattle.part_walk.specs.Places.{Place}
use Rattle.part_walk.specs.Reading.{Reading, GoesOn}
use Rattle.part_walk.specs.Walk.{heads_len, opened_head, start}
use Rattle.view_parts.specs.Parts.{Ended, count_or, end_of_part, inside_of, part_inside, part_len, EndsBehind, StandsBefore}
use Rattle.part_walk.specs.Brackets.{around_of, bodies_behind, braces_of, heads_at, waiting_behind, walk_behind}
use Rattle.part_walk.proofs.Heads.{heads_len-reverse}
use Rattle.view_parts.proofs.InOrder.{HasHeads, told_within}
use Rattle.view_parts.proofs.Quiet.{flat_passes}
use Rattle.view_parts.proofs.Rows.{at_least}
use Rattle.view_parts.proofs.Waits.{BodiesWaitBelow, braces_before, braces_count, few_on, heads_before, holds_on, holds_start, none_left}
use Rattle.part_walk.proofs.Waits.{more_before}
use Rattle.view_parts.proofs.Walked.{IsNext, Passes, behind_place, ends_so, inside_behind, len_behind, next_passes, next_place, seen_end, starts_so, told_by, whole_end}

-- ## On the way

-- so far the part of a view is read that begins at a place; these bodies are bodies_are, the innermost first, and these openers wait, so many of them a `{`
pub record IsRead (arena : Contents) (begins : Option Place) (view : List ℕ) (first : ℕ) (walk : Walk) (bodies : List Head) (waiting : List Opener) (braces : ℕ) : Type 0 where
  pub on : Passes arena begins (drop first view) walk bodies waiting
  pub holds : BodiesWaitBelow (length bodies) waiting
  pub few : heads_len bodies ≤ 64
  pub count : braces ≡ count_braces waiting
  pub small : first + walk.place < length view → braces ≤ get_or view (first + walk.place) 0 + 1
  pub before : first + walk.place < length view → StandBefore (get_or view (first + walk.place) 0 + 1) waiting

-- items increase
pub items_rise : (low : ℕ) (ids : List ℕ) (i j : ℕ) → IncreaseFrom low ids → i < j → j < length ids → get_or ids i 0 < get_or ids j 0
items_rise low [] i j increase order below = absurd (omega (arith, below))
items_rise low (id ∷ ids) i zero increase order below = absurd (omega (arith, order))
items_rise low (id ∷ ids) zero (suc j) increase order below = (let least = at_least (id + 1) ids j increase.1 (omega (arith, below)) in omega (arith, least))
items_rise low (id ∷ ids) (suc i) (suc j) increase order below = items_rise (id + 1) ids i j increase.1 (omega (arith, order)) (omega (arith, below))

-- what is known where a part begins
record IsBegun (begins : Option Place) (id : ℕ) : Type 0 where
  few : heads_len (heads_at begins) ≤ 64
  many : length (heads_at begins) ≤ id

begun_so : (begins : Option Place) (id : ℕ) → ForSome begins (λ place. StandsBefore place id) → IsBegun begins id
begun_so None id stands = record { few = omega arith; many = omega arith }
begun_so (Some place) id stands =
    let at = stands place refl in
    let many = heads_before place id at in
    record { few = at.few; many = omega (arith, many) }

pub headed : (begins : Option Place) (id : ℕ) → ForSome begins (λ place. StandsBefore place id) → HasHeads begins
headed None id stands = tt
headed (Some place) id stands = (stands place refl).some

pub read_first : (arena : Contents) (begins : Option Place) (view : List ℕ) (first : ℕ) (walk : Walk) (bodies : List Head) (waiting : List Opener) (braces : ℕ) → walk ≡ start begins → bodies ≡ reverse (heads_at begins) → waiting ≡ braces_of (heads_at begins)
    → braces ≡ length (heads_at begins) → ForSome begins (λ place. StandsBefore place (get_or view first 0)) → IsRead arena begins view first walk bodies waiting braces
read_first arena begins view first walk bodies waiting braces starts bodies_are waits many stands =
    let heads = heads_at begins in
    let begun = begun_so begins (get_or view first 0) stands in
    let low = begun.many in
    let few = begun.few in
    let place : walk.place ≡ 0 = ap (λ (w : Walk). w.place) starts ∙ at_start begins in
    let here : first + walk.place ≡ first = omega (arith, place) in
    let id : get_or view (first + walk.place) 0 ≡ get_or view first 0 = ap (λ n. get_or view n 0) here in
    record {
      on = subst (λ (w : Walk). Passes arena begins (drop first view) w bodies waiting) (sym starts)
          (subst (λ (hs : List Head). Passes arena begins (drop first view) (start begins) hs waiting) (sym bodies_are)
          (subst (λ (os : List Opener). Passes arena begins (drop first view) (start begins) (reverse heads) os) (sym waits) (starts_so arena begins (drop first view))));
      holds = subst (λ (hs : List Head). BodiesWaitBelow (length hs) waiting) (sym bodies_are) (subst (λ (os : List Opener). BodiesWaitBelow (length (reverse heads)) os) (sym waits) (holds_start heads));
      few = (let same = ap (λ (hs : List Head). heads_len hs) bodies_are ∙ heads_len-reverse heads in omega (arith, same, few));
      count = many ∙ sym (ap (λ (os : List Opener). count_braces os) waits ∙ braces_count heads);
      small = λ below. omega (arith, many, low, id);
      before = λ below. subst (λ (os : List Opener). StandBefore (get_or view (first + walk.place) 0 + 1) os) (sym waits) (braces_before (get_or view (first + walk.place) 0 + 1) heads (omega arith));
    }
  where
    at_start : (begins : Option Place) → (start begins).place ≡ 0
    at_start None = refl
    at_start (Some place) = refl

-- behind tokens that tell nothing
pub read_quiet : (arena : Contents) (begins : Option Place) (view : List ℕ) (first n : ℕ) (walk next : Walk) (bodies : List Head) (waiting : List Opener) (braces : ℕ) → Increase view → next.place ≡ walk.place + n + 1
    → Passes arena begins (drop first view) next bodies waiting → IsRead arena begins view first walk bodies waiting braces → IsRead arena begins view first next bodies waiting braces
read_quiet arena begins view first n walk next bodies waiting braces increase behind on was = record {
  on = on;
  holds = was.holds;
  few = was.few;
  count = was.count;
  small = λ below.
      let up = rises below in
      let fit = was.small (omega (arith, below, behind)) in
      omega (arith, up, fit);
  before = λ below.
      let up = rises below in
      more_before (get_or view (first + walk.place) 0 + 1) (get_or view (first + next.place) 0 + 1) waiting (omega (arith, up)) (was.before (omega (arith, below, behind)));
}
  where
    rises : first + next.place < length view → get_or view (first + walk.place) 0 < get_or view (first + next.place) 0
    rises below = items_rise 0 view (first + walk.place) (first + next.place) increase (omega (arith, behind)) below

-- behind a token that is no bracket
pub read_flat : (arena : Contents) (begins : Option Place) (view : List ℕ) (first : ℕ) (walk next : Walk) (bodies : List Head) (waiting : List Opener) (braces : ℕ) (read : Reading) (id : ℕ) (class : TokenClass) → Increase view
    → IsNext arena (drop first view) walk bodies waiting read id class → read ≡ GoesOn next → is_bracket class ≡ false → IsRead arena begins view first walk bodies waiting braces → IsRead arena begins view first next bodies waiting braces
read_flat arena begins view first walk next bodies waiting braces read id class increase item goes flat was =
    let ids = drop first view in
    let one = next_place arena ids walk next bodies waiting read id class item goes in
    let none = ap (λ (c : TokenClass). is_bracket c) (sym item.class_is) ∙ flat in
    let on = flat_passes arena begins ids walk next bodies waiting read item.below one goes item.read_is none (none_left bodies waiting was.holds) was.on in
    read_quiet arena begins view first 0 walk next bodies waiting braces increase (omega (arith, one)) on was

-- behind a bracket
pub read_on : (arena : Contents) (begins : Option Place) (view : List ℕ) (first : ℕ) (walk after next : Walk) (bodies later : List Head) (waiting new : List Opener) (braces made : ℕ) (opened : Option Head) (read : Reading) (stands : Around) (heads : List Head) (id : ℕ) (class : TokenClass)
    → Increase view → get_or view (first + walk.place) 0 ≡ id → IsNext arena (drop first view) walk bodies waiting read id class → read ≡ GoesOn after
    → opened ≡ opened_head walk stands heads id class → stands ≡ around_of bodies waiting → heads ≡ bodies → new ≡ waiting_behind class walk.place waiting → next ≡ walk_behind after bodies new opened id → later ≡ bodies_behind bodies new opened
    → made ≡ count_braces new → made ≤ id + 2 → StandBefore (id + 2) new
    → IsRead arena begins view first walk bodies waiting braces → IsRead arena begins view first next later new made
read_on arena begins view first walk after next bodies later waiting new braces made opened read stands heads id class increase at item goes code_opens stands_is heads_is waits walk_is bodies_are count small before was =
    let ids = drop first view in
    let opens : opened ≡ opened_head walk (around_of bodies waiting) bodies id class =
    code_opens ∙ (ap (λ (a : Around). opened_head walk a heads id class) stands_is ∙ ap (λ (hs : List Head). opened_head walk (around_of bodies waiting) hs id class) heads_is) in
    let one = next_place arena ids walk after bodies waiting read id class item goes in
    let place : next.place ≡ walk.place + 1 = ap (λ (w : Walk). w.place) walk_is ∙ (behind_place after bodies new opened id ∙ one) in
    let past = next_passes arena begins ids walk after bodies waiting new opened read id class item goes one waits opens was.on in
    let head = opened_head walk (around_of bodies waiting) bodies id class in
    let held : BodiesWaitBelow (length (bodies_behind bodies new opened)) new =
    subst (λ (o : Option Head). BodiesWaitBelow (length (bodies_behind bodies new o)) new) (sym opens)
    (subst (λ (os : List Opener). BodiesWaitBelow (length (bodies_behind bodies os head)) os) (sym waits) (holds_on walk bodies waiting id class was.holds)) in
    let few : heads_len (bodies_behind bodies new opened) ≤ 64 = subst (λ (o : Option Head). heads_len (bodies_behind bodies new o) ≤ 64) (sym opens) (few_on walk (around_of bodies waiting) bodies id class new was.few) in
    let rises : first + next.place < length view → id < get_or view (first + next.place) 0 =
    λ below. subst (λ n. n < get_or view (first + next.place) 0) at (items_rise 0 view (first + walk.place) (first + next.place) increase (omega (arith, place)) below) in
    record {
      on = subst (λ (w : Walk). Passes arena begins ids w later new) (sym walk_is) (subst (λ (hs : List Head). Passes arena begins ids (walk_behind after bodies new opened id) hs new) (sym bodies_are) past);
      holds = subst (λ (hs : List Head). BodiesWaitBelow (length hs) new) (sym bodies_are) held;
      few = subst (λ (hs : List Head). heads_len hs ≤ 64) (sym bodies_are) few;
      count = count;
      small = λ below. (let up = rises below in omega (arith, up, small));
      before = λ below. (let up = rises below in more_before (id + 2) (get_or view (first + next.place) 0 + 1) new (omega (arith, up)) before);
    }

-- ## Its end

-- the part of a view that begins at a place ends so, and this place is the one of the item that tells it
pub record EndsSo (arena : Contents) (begins : Option Place) (view : List ℕ) (first place : ℕ) (ended : Ended) : Type 0 where
  pub end : first + ended.count ≡ first + part_len arena begins (drop first view)
  pub inside : ended.inside ≡ part_inside arena begins (drop first view)
  pub some : 0 < ended.count
  pub later : ended.count ≤ place
  pub within : first + place < length view
  pub told : EndsBehind arena begins (take (place + 1) (drop first view)) ended

pub ends_there : (arena : Contents) (begins : Option Place) (view : List ℕ) (first : ℕ) (walk : Walk) (bodies : List Head) (waiting : List Opener) (read : Reading) (id : ℕ) (class : TokenClass) (ended : Ended) → HasHeads begins
    → IsNext arena (drop first view) walk bodies waiting read id class → told_by walk bodies read ≡ Some ended → Passes arena begins (drop first view) walk bodies waiting → EndsSo arena begins view first walk.place ended
ends_there arena begins view first walk bodies waiting read id class ended has item tells on =
    let ids = drop first view in
    let told = ends_so arena begins ids walk bodies waiting read id class ended item tells on in
    let below = item.below in
    let fit = told_within arena begins ids (walk.place + 1) ended has (omega (arith, below)) told in
    let few = fit.1 in
    record {
      end = ap (λ n. first + n) (sym (len_behind arena begins ids (walk.place + 1) ended told));
      inside = sym (inside_behind arena begins ids (walk.place + 1) ended told);
      some = fit.0;
      later = omega (arith, few);
      within = omega (arith, below, length-drop first view);
      told = told;
    }

pub seen_so : (arena : Contents) (begins : Option Place) (view : List ℕ) (first place seen : ℕ) (ended : Ended) → seen ≡ first + place + 1 → EndsSo arena begins view first place ended
    → EndsBehind arena begins (slice_range view first seen) (record { count = first + ended.count - first; inside = ended.inside })
seen_so arena begins view first place seen ended is ends = seen_end arena begins view first place seen (first + ended.count) ended is refl ends.told

-- it goes on to the end of the view
pub record EndsNowhere (arena : Contents) (begins : Option Place) (view : List ℕ) (first count : ℕ) : Type 0 where
  pub end : count ≡ first + part_len arena begins (drop first view)
  pub inside : ◌≡◌ {A = Option Place} None (part_inside arena begins (drop first view))

pub ends_nowhere : (arena : Contents) (begins : Option Place) (view : List ℕ) (first count : ℕ) → first < length view → count ≡ length view → end_of_part arena begins (drop first view) ≡ None → EndsNowhere arena begins view first count
ends_nowhere arena begins view first count here whole none =
    let ids = drop first view in
    let len : part_len arena begins ids ≡ length ids = ap (λ (end : Option Ended). count_or end (length ids)) none in
    record {
      end = whole_end first count view (part_len arena begins ids) here whole len;
      inside = sym (ap (λ (end : Option Ended). inside_of end) none);
    }
