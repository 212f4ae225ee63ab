use Rattle.std.proofs.Common.{◌≡◌, ◌∙◌, ◌+◌, ◌<◌, ℕ, List, false, Some, None, length, drop, reverse, get_or, sym, ap}
use Rattle.std.proofs.Common.{subst, arith, refl, take, Option, Bool}
use Rattle.std.specs.Prelude.{◌&&◌, All, not}
use Rattle.std.proofs.lemmas.Bool.{and_parts, not-true}
use Rattle.std.proofs.Math.Bool.{and-true}
use Rattle.std.proofs.lemmas.List.{length-drop, length-map}
use Rattle.token_arena.specs.Gaps.{Contents}
use Rattle.token_classes.specs.declared.class.TokenClass.{TokenClass}
use Rattle.token_classes.specs.declared.class.TokenClass.TheVariants.{If, OpenBrace}
use Rattle.token_classes.specs.Classes.{is_open_brace}
use Rattle.token_classes.specs.declared.pairing.Opener.{Opener}
use Rattle.token_classes.specs.Partners.{StandBefore}
use Rattle.item_classes.specs.Viewed.{class_of}
use Rattle.part_walk.specs.declared.bodies.Head.{Head}
use Rattle.part_walk.specs.declared.walk.Around.{Around}
use Rattle.part_walk.specs.declared.walk.Around.TheVariants as around
use Rattle.part_walk.specs.declared.walk.Outcome.{Outcome}
use Rattle.part_walk.specs.declared.walk.Walk.{Walk}
use Rattle.part_walk.specs.Places.{Place, place_in, place_of}
use Rattle.view_parts.specs.Parts.{end_of_part}
use Rattle.part_walk.specs.Brackets.{heads_at, place_behind}
use Rattle.part_walk.specs.Reading.{GoesOn}
use Rattle.part_walk.specs.Walk.{end_in_body, ends_inside_or, heads_len, in_body, is_some, reading, opened_head}
use Rattle.part_walk.specs.Steps.{ends_before_brace, read_so}
use Rattle.view_parts.specs.Quiet.{Closes}
use Rattle.part_walk.proofs.Failed.{no_value}
use Rattle.view_parts.proofs.BodyRows.{brace_of, read_body}
use Rattle.view_parts.proofs.GroupsPassed.{read_group}
use Rattle.part_walk.proofs.Heads.{heads_len-reverse}
use Rattle.view_parts.proofs.Heads.{opened_brace, opened_none}
use Rattle.view_parts.proofs.PartEnds.{ends_nowhere, read_first, read_flat, read_on}
use Rattle.view_parts.proofs.ReadItems.{at_item, ends_at, ends_item, ends_with_view, fewer_left, fits_text, group_tokens}
use Rattle.view_parts.proofs.ReadItems.{item_row, later_place, one_fewer, read_quiet_row, reads_item, row_behind_item}
use Rattle.view_parts.proofs.ReadItems.{small_at, stands_here, told_fits, within_kept}
use Rattle.view_parts.proofs.Rows.{row_later, row_stored}
use Rattle.view_parts.proofs.Waits.{braces_turned}
use Rattle.view_parts.proofs.Walked.{all_read, behind_place, inside_at, never_ends, next_place, outside_at, told_by}
use Rattle.view_parts.proofs.ends.part_end.Goals.{else-loop-walk-test}
use Rattle.view_parts.proofs.ends.part_end.Goals.{then-loop-walk-test+in-Some+else-passes_brace+in-Never}
use Rattle.view_parts.proofs.ends.part_end.Goals as goal

-- behind a token that goes on and isn't passed as a `{` no `{` stands
no_brace : (arena : Contents) (walk next : Walk) (stands : Around) (id : ℕ) (class : TokenClass) → is_open_brace class && not (ends_before_brace walk stands id) ≡ false → reading arena walk stands id class ≡ GoesOn next
    → is_open_brace class ≡ false
no_brace arena walk next around.Outside id class other goes = sym (and-true (is_open_brace class)) ∙ other
no_brace arena walk next around.Group id class other goes = sym (and-true (is_open_brace class)) ∙ other
no_brace arena walk next around.Body id OpenBrace other goes = absurd (ends (end_in_body walk id OpenBrace) other goes)
  where
    ends : (end : Option ℕ) → not (is_some end) ≡ false → ends_inside_or end (in_body walk id OpenBrace) ≡ GoesOn next → ⊥
    ends None e on = cc
    ends (Some count) e on = cc
no_brace arena walk next around.Body id _ other goes = refl

-- what comes of an item that is no `{` which is passed as one
no_body : (arena : Contents) (walk next : Walk) (stands : Around) (bodies : List Head) (id : ℕ) (class : TokenClass) (passes : Bool) → passes ≡ is_open_brace class && not (ends_before_brace walk stands id) → passes ≡ false → reading arena walk stands id class ≡ GoesOn next
    → None ≡ opened_head walk stands bodies id class
no_body arena walk next stands bodies id class passes told is goes = sym (opened_none walk stands bodies id class (no_brace arena walk next stands id class (sym told ∙ is) goes))

pub loop-walk-init : goal.loop-walk-init
loop-walk-init c =
    let begins = place_in c.args.begin.inside in
    let heads = heads_at begins in
    let opens = c.in_ok-brackets.ensures in
    let bodies_are = ap (λ (hs : List Head). reverse hs) opens.bodies in
    let waits = ap (λ (os : List Opener). reverse os) opens.waiting ∙ braces_turned heads in
    record {
      read = read_first c.args.source.now.arena.now begins c.args.source.now.view.now c.args.begin.first _ _ _ _ c.start-walk.ensures bodies_are waits opens.braces c.requires.begins;
      stands = opens.around;
      row = record { inside = omega arith; fits = omega arith; items = λ k after before. absurd (omega (arith, before)) };
    }

pub pass_quiet-next-requires : goal.pass_quiet-next-requires
pass_quiet-next-requires c =
    let whole : length c.args.source.now.classes.now ≡ length c.args.source.now.arena.now.tokens = ap (λ (cs : List TokenClass). length cs) c.requires.all ∙ length-map c.args.source.now.arena.now.tokens (class_of c.args.source.now.arena.now.dialect) in
    record {
      here = stands_here c.args.begin.first c.loop-walk.walk.place c.len-count.result (length c.args.source.now.view.now) c.loop-walk-test.true c.len-count.ensures.count;
      few = omega (arith, c.len-count.ensures.count);
      increase = c.len-count.ensures.increase;
      row = c.loop-walk.invariant.row;
      items = subst (λ n. All (λ id. id < n) c.args.source.now.view.now) (sym whole) c.requires.within;
      fits = omega (arith, whole, c.len-items.ensures.count);
    }

pub loop-walk-preserved-in_default : goal.loop-walk-preserved-in_default
loop-walk-preserved-in_default c =
    let arena = c.args.source.now.arena.now in
    let view = c.args.source.now.view.now in
    let begins = place_in c.args.begin.inside in
    let first = c.args.begin.first in
    let all = c.args.source.now.classes.now in
    let walk = c.pass_quiet-next.new.walk in
    let row = c.pass_quiet-next.new.row in
    let bodies = reverse c.loop-walk.brackets.bodies.items in
    let waiting = reverse c.loop-walk.brackets.waiting.items in
    let stands = c.loop-walk.brackets.around in
    let here = c.loop-walk.invariant.stands in
    let quiet = c.pass_quiet-next.ensures in
    record {
      read = read_quiet_row arena begins view first c.loop-walk.walk walk bodies waiting c.loop-walk.brackets.braces stands all row c.len-count.ensures.increase c.requires.within c.requires.all quiet.row quiet.place quiet.within here quiet.quiet c.loop-walk.invariant.read;
      stands = here;
      row = row_later view (first + c.loop-walk.walk.place) (first + walk.place) row (later_place first _ _ quiet.place) quiet.row;
    }

pub prove-unreachable-requires : goal.prove-unreachable-requires
prove-unreachable-requires c =
    let whole : length c.args.source.now.classes.now ≡ length c.args.source.now.arena.now.tokens = ap (λ (cs : List TokenClass). length cs) c.requires.all ∙ length-map c.args.source.now.arena.now.tokens (class_of c.args.source.now.arena.now.dialect) in
    omega (arith, whole, c.if-prove.true, c.len-items.ensures.count)

pub overflow_sub-count : goal.overflow_sub-count
overflow_sub-count c = omega (arith, c.requires.here, c.len-count.ensures.count)

pub loop-walk-smaller-in_default : goal.loop-walk-smaller-in_default
loop-walk-smaller-in_default c =
    let quiet = c.pass_quiet-next.ensures in
    let end = quiet.behind c.in_default.is in
    omega (arith, c.loop-walk-test.true, quiet.some, end)

pub bounds-all-id : goal.bounds-all-id
bounds-all-id c =
    let whole : length c.args.source.now.classes.now ≡ length c.args.source.now.arena.now.tokens = ap (λ (cs : List TokenClass). length cs) c.requires.all ∙ length-map c.args.source.now.arena.now.tokens (class_of c.args.source.now.arena.now.dialect) in
    let stored = row_stored c.args.source.now.view.now (c.args.begin.first + c.loop-walk.walk.place) (length c.args.source.now.arena.now.tokens) c.pass_quiet-next.new.row c.requires.within c.pass_quiet-next.ensures.some c.pass_quiet-next.ensures.row in
    let below = c.pass_quiet-next.ensures.below _ c.in-Some.is in
    let item = c.pass_quiet-next.ensures.item _ c.in-Some.is in
    omega (arith, stored, below, item, whole)

pub overflow_add-place : goal.overflow_add-place
overflow_add-place c =
    let stored = row_stored c.args.source.now.view.now (c.args.begin.first + c.loop-walk.walk.place) (length c.args.source.now.arena.now.tokens) c.pass_quiet-next.new.row c.requires.within c.pass_quiet-next.ensures.some c.pass_quiet-next.ensures.row in
    let item = c.pass_quiet-next.ensures.item _ c.in-Some.is in
    omega (arith, stored, item, c.in-Some-passed_body.ensures.within, c.len-items.ensures.count)

pub overflow_add-place-in-Some-passed_body : goal.overflow_add-place-in-Some-passed_body
overflow_add-place-in-Some-passed_body c =
    let stored = row_stored c.args.source.now.view.now (c.args.begin.first + c.loop-walk.walk.place) (length c.args.source.now.arena.now.tokens) c.pass_quiet-next.new.row c.requires.within c.pass_quiet-next.ensures.some c.pass_quiet-next.ensures.row in
    let item = c.pass_quiet-next.ensures.item _ c.in-Some.is in
    omega (arith, stored, item, c.in-Some-passed_body.ensures.within, c.len-items.ensures.count)

pub overflow_add-id : goal.overflow_add-id
overflow_add-id c =
    let stored = row_stored c.args.source.now.view.now (c.args.begin.first + c.loop-walk.walk.place) (length c.args.source.now.arena.now.tokens) c.pass_quiet-next.new.row c.requires.within c.pass_quiet-next.ensures.some c.pass_quiet-next.ensures.row in
    let item = c.pass_quiet-next.ensures.item _ c.in-Some.is in
    omega (arith, stored, item, c.in-Some-passed_body.ensures.within, c.len-items.ensures.count)

pub pass_body-requires : goal.pass_body-requires
pass_body-requires c =
    let stored = row_stored c.args.source.now.view.now (c.args.begin.first + c.loop-walk.walk.place) (length c.args.source.now.arena.now.tokens) c.pass_quiet-next.new.row c.requires.within c.pass_quiet-next.ensures.some c.pass_quiet-next.ensures.row in
    let item = c.pass_quiet-next.ensures.item _ c.in-Some.is in
    omega (arith, stored, item, c.in-Some-passed_body.ensures.within, c.len-items.ensures.count)

pub overflow_add-place-in-Some-passed_group : goal.overflow_add-place-in-Some-passed_group
overflow_add-place-in-Some-passed_group c =
    let stored = row_stored c.args.source.now.view.now (c.args.begin.first + c.loop-walk.walk.place) (length c.args.source.now.arena.now.tokens) c.pass_quiet-next.new.row c.requires.within c.pass_quiet-next.ensures.some c.pass_quiet-next.ensures.row in
    let item = c.pass_quiet-next.ensures.item _ c.in-Some.is in
    omega (arith, stored, item, c.in-Some-passed_group.ensures.within, c.len-items.ensures.count)

pub overflow_add-place-in-Some-passed_group-2 : goal.overflow_add-place-in-Some-passed_group-2
overflow_add-place-in-Some-passed_group-2 c =
    let stored = row_stored c.args.source.now.view.now (c.args.begin.first + c.loop-walk.walk.place) (length c.args.source.now.arena.now.tokens) c.pass_quiet-next.new.row c.requires.within c.pass_quiet-next.ensures.some c.pass_quiet-next.ensures.row in
    let item = c.pass_quiet-next.ensures.item _ c.in-Some.is in
    omega (arith, stored, item, c.in-Some-passed_group.ensures.within, c.len-items.ensures.count)

pub overflow_add-id-in-Some-passed_group : goal.overflow_add-id-in-Some-passed_group
overflow_add-id-in-Some-passed_group c =
    let stored = row_stored c.args.source.now.view.now (c.args.begin.first + c.loop-walk.walk.place) (length c.args.source.now.arena.now.tokens) c.pass_quiet-next.new.row c.requires.within c.pass_quiet-next.ensures.some c.pass_quiet-next.ensures.row in
    let item = c.pass_quiet-next.ensures.item _ c.in-Some.is in
    omega (arith, stored, item, c.in-Some-passed_group.ensures.within, c.len-items.ensures.count)

pub told-requires-clause-here : goal.told-requires-clause-here
told-requires-clause-here c =
    let stored = row_stored c.args.source.now.view.now (c.args.begin.first + c.loop-walk.walk.place) (length c.args.source.now.arena.now.tokens) c.pass_quiet-next.new.row c.requires.within c.pass_quiet-next.ensures.some c.pass_quiet-next.ensures.row in
    let below = c.pass_quiet-next.ensures.below _ c.in-Some.is in
    omega (arith, stored, below, c.len-items.ensures.count)

pub told-requires-in-EndsInBody-clause-here : goal.told-requires-in-EndsInBody-clause-here
told-requires-in-EndsInBody-clause-here c =
    let stored = row_stored c.args.source.now.view.now (c.args.begin.first + c.loop-walk.walk.place) (length c.args.source.now.arena.now.tokens) c.pass_quiet-next.new.row c.requires.within c.pass_quiet-next.ensures.some c.pass_quiet-next.ensures.row in
    let below = c.pass_quiet-next.ensures.below _ c.in-Some.is in
    omega (arith, stored, below, c.len-items.ensures.count)

pub pass_open_brace-requires : goal.pass_open_brace-requires
pass_open_brace-requires c =
    let arena = c.args.source.now.arena.now in
    let view = c.args.source.now.view.now in
    let first = c.args.begin.first in
    let walk = c.pass_quiet-next.new.walk in
    let row = c.pass_quiet-next.new.row in
    let quiet = c.pass_quiet-next.ensures in
    let id = c.in-Some.id.0 in
    let stored = row_stored view (first + c.loop-walk.walk.place) (length arena.tokens) row c.requires.within quiet.some quiet.row in
    let fit = fits_text first walk.place id row.shift row.end (length arena.tokens) c.len-items.result (quiet.below _ c.in-Some.is) (quiet.item _ c.in-Some.is) stored c.len-items.ensures.count (omega arith) in
    record { small = fit.small; room = fit.room; on = not-true _ (and_parts _ _ (sym c.passes_brace.ensures ∙ c.if-passes_brace.true)).1 }

pub read-requires : goal.read-requires
read-requires c =
    let arena = c.args.source.now.arena.now in
    let view = c.args.source.now.view.now in
    let first = c.args.begin.first in
    let walk = c.pass_quiet-next.new.walk in
    let row = c.pass_quiet-next.new.row in
    let quiet = c.pass_quiet-next.ensures in
    let id = c.in-Some.id.0 in
    let stored = row_stored view (first + c.loop-walk.walk.place) (length arena.tokens) row c.requires.within quiet.some quiet.row in
    let fit = fits_text first walk.place id row.shift row.end (length arena.tokens) c.len-items.result (quiet.below _ c.in-Some.is) (quiet.item _ c.in-Some.is) stored c.len-items.ensures.count (omega arith) in
    record { item = fit.kept; small = fit.small; room = fit.room }

pub pass-requires : goal.pass-requires
pass-requires c =
    let arena = c.args.source.now.arena.now in
    let view = c.args.source.now.view.now in
    let begins = place_in c.args.begin.inside in
    let first = c.args.begin.first in
    let all = c.args.source.now.classes.now in
    let walk = c.pass_quiet-next.new.walk in
    let row = c.pass_quiet-next.new.row in
    let bodies = reverse c.loop-walk.brackets.bodies.items in
    let waiting = reverse c.loop-walk.brackets.waiting.items in
    let stands = c.loop-walk.brackets.around in
    let here = c.loop-walk.invariant.stands in
    let quiet = c.pass_quiet-next.ensures in
    let id = c.in-Some.id.0 in
    let item = at_item arena begins view first c.loop-walk.walk walk bodies waiting c.loop-walk.brackets.braces stands all id row c.len-count.ensures.increase c.requires.within c.requires.all quiet.row quiet.place (quiet.below _ c.in-Some.is) (quiet.item _ c.in-Some.is) here quiet.quiet
    c.loop-walk.invariant.read in
    let stored = row_stored view (first + c.loop-walk.walk.place) (length arena.tokens) row c.requires.within quiet.some quiet.row in
    let fit = fits_text first walk.place id row.shift row.end (length arena.tokens) c.len-items.result (quiet.below _ c.in-Some.is) (quiet.item _ c.in-Some.is) stored c.len-items.ensures.count (omega arith) in
    record {
      count = item.was.count;
      small = small_at _ _ _ item.at.item (item.was.small item.at.below);
      before = subst (λ n. StandBefore (n + 1) waiting) item.at.item (item.was.before item.at.below);
      low = fit.low;
      room = fit.small;
    }

pub pass-requires-in-loop-walk : goal.pass-requires-in-loop-walk
pass-requires-in-loop-walk c =
    let arena = c.args.source.now.arena.now in
    let view = c.args.source.now.view.now in
    let begins = place_in c.args.begin.inside in
    let first = c.args.begin.first in
    let all = c.args.source.now.classes.now in
    let walk = c.pass_quiet-next.new.walk in
    let row = c.pass_quiet-next.new.row in
    let bodies = reverse c.loop-walk.brackets.bodies.items in
    let waiting = reverse c.loop-walk.brackets.waiting.items in
    let stands = c.loop-walk.brackets.around in
    let here = c.loop-walk.invariant.stands in
    let quiet = c.pass_quiet-next.ensures in
    let id = c.in-Some.id.0 in
    let item = at_item arena begins view first c.loop-walk.walk walk bodies waiting c.loop-walk.brackets.braces stands all id row c.len-count.ensures.increase c.requires.within c.requires.all quiet.row quiet.place (quiet.below _ c.in-Some.is) (quiet.item _ c.in-Some.is) here quiet.quiet
    c.loop-walk.invariant.read in
    let stored = row_stored view (first + c.loop-walk.walk.place) (length arena.tokens) row c.requires.within quiet.some quiet.row in
    let fit = fits_text first walk.place id row.shift row.end (length arena.tokens) c.len-items.result (quiet.below _ c.in-Some.is) (quiet.item _ c.in-Some.is) stored c.len-items.ensures.count (omega arith) in
    record {
      count = item.was.count;
      small = small_at _ _ _ item.at.item (item.was.small item.at.below);
      before = subst (λ n. StandBefore (n + 1) waiting) item.at.item (item.was.before item.at.below);
      low = fit.low;
      room = fit.small;
    }

pub opened_head-opened-requires : goal.opened_head-opened-requires
opened_head-opened-requires c =
    let arena = c.args.source.now.arena.now in
    let view = c.args.source.now.view.now in
    let first = c.args.begin.first in
    let walk = c.pass_quiet-next.new.walk in
    let row = c.pass_quiet-next.new.row in
    let quiet = c.pass_quiet-next.ensures in
    let id = c.in-Some.id.0 in
    let stored = row_stored view (first + c.loop-walk.walk.place) (length arena.tokens) row c.requires.within quiet.some quiet.row in
    let fit = fits_text first walk.place id row.shift row.end (length arena.tokens) c.len-items.result (quiet.below _ c.in-Some.is) (quiet.item _ c.in-Some.is) stored c.len-items.ensures.count (omega arith) in
    let few = c.loop-walk.invariant.read.few in
    let same = heads_len-reverse c.loop-walk.brackets.bodies.items in
    let value = ap (λ (hs : List Head). heads_len hs) c.deref.ensures.value in
    record { few = omega (arith, few, same, value); small = fit.small }

pub told-requires-clause-within : goal.told-requires-clause-within
told-requires-clause-within c =
    let arena = c.args.source.now.arena.now in
    let view = c.args.source.now.view.now in
    let begins = place_in c.args.begin.inside in
    let first = c.args.begin.first in
    let all = c.args.source.now.classes.now in
    let walk = c.pass_quiet-next.new.walk in
    let row = c.pass_quiet-next.new.row in
    let bodies = reverse c.loop-walk.brackets.bodies.items in
    let waiting = reverse c.loop-walk.brackets.waiting.items in
    let stands = c.loop-walk.brackets.around in
    let here = c.loop-walk.invariant.stands in
    let quiet = c.pass_quiet-next.ensures in
    let id = c.in-Some.id.0 in
    let item = at_item arena begins view first c.loop-walk.walk walk bodies waiting c.loop-walk.brackets.braces stands all id row c.len-count.ensures.increase c.requires.within c.requires.all quiet.row quiet.place (quiet.below _ c.in-Some.is) (quiet.item _ c.in-Some.is) here quiet.quiet
    c.loop-walk.invariant.read in
    let read = read_so c.read.result c.read.new.walk in
    let ended = outside_at c.in-EndsOutside.ended in
    let told : told_by walk bodies read ≡ Some ended = ap (λ (o : Outcome). told_by walk bodies (read_so o c.read.new.walk)) c.in-EndsOutside.is in
    let ends = ends_item arena begins view all first walk bodies waiting c.loop-walk.brackets.braces id row read stands _ ended c.requires.within c.requires.all c.requires.begins here c.read.ensures.read told item in
    told_fits arena begins view first walk.place ended c.len-count.result ends c.len-count.ensures.count (omega arith)

pub returns-in-EndsOutside : goal.returns-in-EndsOutside
returns-in-EndsOutside c =
    let arena = c.args.source.now.arena.now in
    let view = c.args.source.now.view.now in
    let begins = place_in c.args.begin.inside in
    let first = c.args.begin.first in
    let all = c.args.source.now.classes.now in
    let walk = c.pass_quiet-next.new.walk in
    let row = c.pass_quiet-next.new.row in
    let bodies = reverse c.loop-walk.brackets.bodies.items in
    let waiting = reverse c.loop-walk.brackets.waiting.items in
    let stands = c.loop-walk.brackets.around in
    let here = c.loop-walk.invariant.stands in
    let quiet = c.pass_quiet-next.ensures in
    let id = c.in-Some.id.0 in
    let item = at_item arena begins view first c.loop-walk.walk walk bodies waiting c.loop-walk.brackets.braces stands all id row c.len-count.ensures.increase c.requires.within c.requires.all quiet.row quiet.place (quiet.below _ c.in-Some.is) (quiet.item _ c.in-Some.is) here quiet.quiet
    c.loop-walk.invariant.read in
    let read = read_so c.read.result c.read.new.walk in
    let ended = outside_at c.in-EndsOutside.ended in
    let told : told_by walk bodies read ≡ Some ended = ap (λ (o : Outcome). told_by walk bodies (read_so o c.read.new.walk)) c.in-EndsOutside.is in
    let ends = ends_item arena begins view all first walk bodies waiting c.loop-walk.brackets.braces id row read stands _ ended c.requires.within c.requires.all c.requires.begins here c.read.ensures.read told item in
    let at = ends_at arena begins view first walk.place ended _ _ _ c.len-count.ensures.increase c.requires.begins c.told.ensures.end c.told.ensures.told c.told.ensures.inside ends in
    record { end = at.end_is; inside = at.inside_is; place = at.place; some = at.some; within = at.within; told = at.told; later = at.later; below = at.below; whole = at.whole }

pub told-requires-in-EndsInBody-clause-within : goal.told-requires-in-EndsInBody-clause-within
told-requires-in-EndsInBody-clause-within c =
    let arena = c.args.source.now.arena.now in
    let view = c.args.source.now.view.now in
    let begins = place_in c.args.begin.inside in
    let first = c.args.begin.first in
    let all = c.args.source.now.classes.now in
    let walk = c.pass_quiet-next.new.walk in
    let row = c.pass_quiet-next.new.row in
    let bodies = reverse c.loop-walk.brackets.bodies.items in
    let waiting = reverse c.loop-walk.brackets.waiting.items in
    let stands = c.loop-walk.brackets.around in
    let here = c.loop-walk.invariant.stands in
    let quiet = c.pass_quiet-next.ensures in
    let id = c.in-Some.id.0 in
    let item = at_item arena begins view first c.loop-walk.walk walk bodies waiting c.loop-walk.brackets.braces stands all id row c.len-count.ensures.increase c.requires.within c.requires.all quiet.row quiet.place (quiet.below _ c.in-Some.is) (quiet.item _ c.in-Some.is) here quiet.quiet
    c.loop-walk.invariant.read in
    let read = read_so c.read.result c.read.new.walk in
    let ended = inside_at walk bodies c.in-EndsInBody.ended in
    let told : told_by walk bodies read ≡ Some ended = ap (λ (o : Outcome). told_by walk bodies (read_so o c.read.new.walk)) c.in-EndsInBody.is in
    let ends = ends_item arena begins view all first walk bodies waiting c.loop-walk.brackets.braces id row read stands _ ended c.requires.within c.requires.all c.requires.begins here c.read.ensures.read told item in
    told_fits arena begins view first walk.place ended c.len-count.result ends c.len-count.ensures.count (omega arith)

pub returns-in-EndsInBody : goal.returns-in-EndsInBody
returns-in-EndsInBody c =
    let arena = c.args.source.now.arena.now in
    let view = c.args.source.now.view.now in
    let begins = place_in c.args.begin.inside in
    let first = c.args.begin.first in
    let all = c.args.source.now.classes.now in
    let walk = c.pass_quiet-next.new.walk in
    let row = c.pass_quiet-next.new.row in
    let bodies = reverse c.loop-walk.brackets.bodies.items in
    let waiting = reverse c.loop-walk.brackets.waiting.items in
    let stands = c.loop-walk.brackets.around in
    let here = c.loop-walk.invariant.stands in
    let quiet = c.pass_quiet-next.ensures in
    let id = c.in-Some.id.0 in
    let item = at_item arena begins view first c.loop-walk.walk walk bodies waiting c.loop-walk.brackets.braces stands all id row c.len-count.ensures.increase c.requires.within c.requires.all quiet.row quiet.place (quiet.below _ c.in-Some.is) (quiet.item _ c.in-Some.is) here quiet.quiet
    c.loop-walk.invariant.read in
    let read = read_so c.read.result c.read.new.walk in
    let ended = inside_at walk bodies c.in-EndsInBody.ended in
    let told : told_by walk bodies read ≡ Some ended = ap (λ (o : Outcome). told_by walk bodies (read_so o c.read.new.walk)) c.in-EndsInBody.is in
    let ends = ends_item arena begins view all first walk bodies waiting c.loop-walk.brackets.braces id row read stands _ ended c.requires.within c.requires.all c.requires.begins here c.read.ensures.read told item in
    let same : place_of c.in_ok-inside-in-EndsInBody.inside ≡ place_behind walk bodies =
    c.in_ok-inside-in-EndsInBody.ensures ∙ (ap (λ (hs : List Head). place_behind c.read.new.walk (reverse hs)) c.deref-in-EndsInBody.ensures.value ∙ ap (λ (w : Walk). place_behind w bodies) c.in-EndsInBody.ensures.stays) in
    let inside = c.told-in-EndsInBody.ensures.inside ∙ ap (λ (p : Place). Some p) same in
    let at = ends_at arena begins view first walk.place ended _ _ _ c.len-count.ensures.increase c.requires.begins c.told-in-EndsInBody.ensures.end c.told-in-EndsInBody.ensures.told inside ends in
    record { end = at.end_is; inside = at.inside_is; place = at.place; some = at.some; within = at.within; told = at.told; later = at.later; below = at.below; whole = at.whole }

pub loop-walk-smaller : goal.loop-walk-smaller
loop-walk-smaller c =
    let arena = c.args.source.now.arena.now in
    let view = c.args.source.now.view.now in
    let begins = place_in c.args.begin.inside in
    let first = c.args.begin.first in
    let all = c.args.source.now.classes.now in
    let walk = c.pass_quiet-next.new.walk in
    let row = c.pass_quiet-next.new.row in
    let bodies = reverse c.loop-walk.brackets.bodies.items in
    let waiting = reverse c.loop-walk.brackets.waiting.items in
    let stands = c.loop-walk.brackets.around in
    let here = c.loop-walk.invariant.stands in
    let quiet = c.pass_quiet-next.ensures in
    let id = c.in-Some.id.0 in
    let item = at_item arena begins view first c.loop-walk.walk walk bodies waiting c.loop-walk.brackets.braces stands all id row c.len-count.ensures.increase c.requires.within c.requires.all quiet.row quiet.place (quiet.below _ c.in-Some.is) (quiet.item _ c.in-Some.is) here quiet.quiet
    c.loop-walk.invariant.read in
    let read = read_so c.read.result c.read.new.walk in
    let after = c.read.new.walk in
    let next = reads_item arena begins view all first walk bodies waiting c.loop-walk.brackets.braces id row read stands _ c.requires.within c.requires.all here c.read.ensures.read item in
    let goes = ap (λ (o : Outcome). read_so o after) c.in-GoesOn.is in
    let one = next_place arena (drop first view) walk after bodies waiting read _ _ next goes in
    let made = c.in_ok-pass-2.ensures in
    let later = c.pass-in-loop-walk.new.self in
    let place : c.pass-in-loop-walk.new.walk.place ≡ walk.place + 1 = ap (λ (w : Walk). w.place) made.walk ∙ (behind_place after bodies (reverse later.waiting.items) None id ∙ one) in
    one_fewer c.len-count.result first c.loop-walk.walk.place walk.place _ c.loop-walk-test.true quiet.place place

pub loop-walk-preserved : goal.loop-walk-preserved
loop-walk-preserved c =
    let arena = c.args.source.now.arena.now in
    let view = c.args.source.now.view.now in
    let begins = place_in c.args.begin.inside in
    let first = c.args.begin.first in
    let all = c.args.source.now.classes.now in
    let walk = c.pass_quiet-next.new.walk in
    let row = c.pass_quiet-next.new.row in
    let bodies = reverse c.loop-walk.brackets.bodies.items in
    let waiting = reverse c.loop-walk.brackets.waiting.items in
    let stands = c.loop-walk.brackets.around in
    let here = c.loop-walk.invariant.stands in
    let quiet = c.pass_quiet-next.ensures in
    let id = c.in-Some.id.0 in
    let item = at_item arena begins view first c.loop-walk.walk walk bodies waiting c.loop-walk.brackets.braces stands all id row c.len-count.ensures.increase c.requires.within c.requires.all quiet.row quiet.place (quiet.below _ c.in-Some.is) (quiet.item _ c.in-Some.is) here quiet.quiet
    c.loop-walk.invariant.read in
    let read = read_so c.read.result c.read.new.walk in
    let after = c.read.new.walk in
    let next = reads_item arena begins view all first walk bodies waiting c.loop-walk.brackets.braces id row read stands _ c.requires.within c.requires.all here c.read.ensures.read item in
    let goes = ap (λ (o : Outcome). read_so o after) c.in-GoesOn.is in
    let one = next_place arena (drop first view) walk after bodies waiting read _ _ next goes in
    let made = c.in_ok-pass-2.ensures in
    let later = c.pass-in-loop-walk.new.self in
    let place : c.pass-in-loop-walk.new.walk.place ≡ walk.place + 1 = ap (λ (w : Walk). w.place) made.walk ∙ (behind_place after bodies (reverse later.waiting.items) None id ∙ one) in
    record {
      read = read_on arena begins view first walk after c.pass-in-loop-walk.new.walk bodies (reverse later.bodies.items) waiting (reverse later.waiting.items) c.loop-walk.brackets.braces later.braces None read stands
          bodies id _ c.len-count.ensures.increase item.at.item next goes (no_body arena walk after stands bodies id _ _ c.passes_brace.ensures c.if-passes_brace.false (sym c.read.ensures.read ∙ goes)) here refl made.waiting made.walk made.bodies made.count made.small made.before item.was;
      stands = made.around;
      row = row_behind_item view first walk.place _ 1 id row place item.at;
    }

pub loop-walk-smaller-then-passes_brace : goal.loop-walk-smaller-then-passes_brace
loop-walk-smaller-then-passes_brace c =
    let arena = c.args.source.now.arena.now in
    let view = c.args.source.now.view.now in
    let begins = place_in c.args.begin.inside in
    let first = c.args.begin.first in
    let all = c.args.source.now.classes.now in
    let walk = c.pass_quiet-next.new.walk in
    let row = c.pass_quiet-next.new.row in
    let bodies = reverse c.loop-walk.brackets.bodies.items in
    let waiting = reverse c.loop-walk.brackets.waiting.items in
    let stands = c.loop-walk.brackets.around in
    let here = c.loop-walk.invariant.stands in
    let quiet = c.pass_quiet-next.ensures in
    let id = c.in-Some.id.0 in
    let item = at_item arena begins view first c.loop-walk.walk walk bodies waiting c.loop-walk.brackets.braces stands all id row c.len-count.ensures.increase c.requires.within c.requires.all quiet.row quiet.place (quiet.below _ c.in-Some.is) (quiet.item _ c.in-Some.is) here quiet.quiet
    c.loop-walk.invariant.read in
    let after = c.pass_open_brace.new.self in
    let read = GoesOn after in
    let opens = (and_parts _ _ (sym c.passes_brace.ensures ∙ c.if-passes_brace.true)).0 in
    let next = reads_item arena begins view all first walk bodies waiting c.loop-walk.brackets.braces id row read stands _ c.requires.within c.requires.all here (c.pass_open_brace.ensures arena ∙ ap (λ (class : TokenClass). reading arena walk stands id class) (sym (brace_of _ opens))) item in
    let one = next_place arena (drop first view) walk after bodies waiting read _ _ next refl in
    let made = c.in_ok-pass.ensures in
    let later = c.pass.new.self in
    let place : c.pass.new.walk.place ≡ walk.place + 1 = ap (λ (w : Walk). w.place) made.walk ∙ (behind_place after bodies (reverse later.waiting.items) c.opened_head-opened.result id ∙ one) in
    one_fewer c.len-count.result first c.loop-walk.walk.place walk.place _ c.loop-walk-test.true quiet.place place

pub loop-walk-preserved-then-passes_brace : goal.loop-walk-preserved-then-passes_brace
loop-walk-preserved-then-passes_brace c =
    let arena = c.args.source.now.arena.now in
    let view = c.args.source.now.view.now in
    let begins = place_in c.args.begin.inside in
    let first = c.args.begin.first in
    let all = c.args.source.now.classes.now in
    let walk = c.pass_quiet-next.new.walk in
    let row = c.pass_quiet-next.new.row in
    let bodies = reverse c.loop-walk.brackets.bodies.items in
    let waiting = reverse c.loop-walk.brackets.waiting.items in
    let stands = c.loop-walk.brackets.around in
    let here = c.loop-walk.invariant.stands in
    let quiet = c.pass_quiet-next.ensures in
    let id = c.in-Some.id.0 in
    let item = at_item arena begins view first c.loop-walk.walk walk bodies waiting c.loop-walk.brackets.braces stands all id row c.len-count.ensures.increase c.requires.within c.requires.all quiet.row quiet.place (quiet.below _ c.in-Some.is) (quiet.item _ c.in-Some.is) here quiet.quiet
    c.loop-walk.invariant.read in
    let after = c.pass_open_brace.new.self in
    let read = GoesOn after in
    let opens = (and_parts _ _ (sym c.passes_brace.ensures ∙ c.if-passes_brace.true)).0 in
    let next = reads_item arena begins view all first walk bodies waiting c.loop-walk.brackets.braces id row read stands _ c.requires.within c.requires.all here (c.pass_open_brace.ensures arena ∙ ap (λ (class : TokenClass). reading arena walk stands id class) (sym (brace_of _ opens))) item in
    let one = next_place arena (drop first view) walk after bodies waiting read _ _ next refl in
    let made = c.in_ok-pass.ensures in
    let later = c.pass.new.self in
    let place : c.pass.new.walk.place ≡ walk.place + 1 = ap (λ (w : Walk). w.place) made.walk ∙ (behind_place after bodies (reverse later.waiting.items) c.opened_head-opened.result id ∙ one) in
    let opened_told = opened_brace walk stands _ _ id _ _ c.opened_head-opened.ensures c.deref.ensures.value opens in
    record {
      read = read_on arena begins view first walk after c.pass.new.walk bodies (reverse later.bodies.items) waiting (reverse later.waiting.items) c.loop-walk.brackets.braces later.braces c.opened_head-opened.result read stands
          bodies id _ c.len-count.ensures.increase item.at.item next refl opened_told here refl made.waiting made.walk made.bodies made.count made.small made.before item.was;
      stands = made.around;
      row = row_behind_item view first walk.place _ 1 id row place item.at;
    }

pub passed_body-requires : goal.passed_body-requires
passed_body-requires c =
    let arena = c.args.source.now.arena.now in
    let view = c.args.source.now.view.now in
    let first = c.args.begin.first in
    let walk = c.pass_quiet-next.new.walk in
    let row = c.pass_quiet-next.new.row in
    let quiet = c.pass_quiet-next.ensures in
    let all = c.args.source.now.classes.now in
    let stored = row_stored view (first + c.loop-walk.walk.place) (length arena.tokens) row c.requires.within quiet.some quiet.row in
    let whole : length all ≡ length arena.tokens = ap (λ (cs : List TokenClass). length cs) c.requires.all ∙ length-map arena.tokens (class_of arena.dialect) in
    record { here = quiet.below _ c.in-Some.is; within = within_kept _ _ _ stored whole }

pub loop-walk-smaller-in-GoesOn : goal.loop-walk-smaller-in-GoesOn
loop-walk-smaller-in-GoesOn c =
    let arena = c.args.source.now.arena.now in
    let view = c.args.source.now.view.now in
    let begins = place_in c.args.begin.inside in
    let first = c.args.begin.first in
    let all = c.args.source.now.classes.now in
    let walk = c.pass_quiet-next.new.walk in
    let row = c.pass_quiet-next.new.row in
    let bodies = reverse c.loop-walk.brackets.bodies.items in
    let waiting = reverse c.loop-walk.brackets.waiting.items in
    let stands = c.loop-walk.brackets.around in
    let here = c.loop-walk.invariant.stands in
    let quiet = c.pass_quiet-next.ensures in
    let id = c.in-Some.id.0 in
    let item = at_item arena begins view first c.loop-walk.walk walk bodies waiting c.loop-walk.brackets.braces stands all id row c.len-count.ensures.increase c.requires.within c.requires.all quiet.row quiet.place (quiet.below _ c.in-Some.is) (quiet.item _ c.in-Some.is) here quiet.quiet
    c.loop-walk.invariant.read in
    let read = read_so c.read.result c.read.new.walk in
    let after = c.read.new.walk in
    let next = reads_item arena begins view all first walk bodies waiting c.loop-walk.brackets.braces id row read stands _ c.requires.within c.requires.all here c.read.ensures.read item in
    let goes = ap (λ (o : Outcome). read_so o after) c.in-GoesOn.is in
    let one = next_place arena (drop first view) walk after bodies waiting read _ _ next goes in
    one_fewer c.len-count.result first c.loop-walk.walk.place walk.place _ c.loop-walk-test.true quiet.place one

pub loop-walk-preserved-in-GoesOn : goal.loop-walk-preserved-in-GoesOn
loop-walk-preserved-in-GoesOn c =
    let arena = c.args.source.now.arena.now in
    let view = c.args.source.now.view.now in
    let begins = place_in c.args.begin.inside in
    let first = c.args.begin.first in
    let all = c.args.source.now.classes.now in
    let walk = c.pass_quiet-next.new.walk in
    let row = c.pass_quiet-next.new.row in
    let bodies = reverse c.loop-walk.brackets.bodies.items in
    let waiting = reverse c.loop-walk.brackets.waiting.items in
    let stands = c.loop-walk.brackets.around in
    let here = c.loop-walk.invariant.stands in
    let quiet = c.pass_quiet-next.ensures in
    let id = c.in-Some.id.0 in
    let item = at_item arena begins view first c.loop-walk.walk walk bodies waiting c.loop-walk.brackets.braces stands all id row c.len-count.ensures.increase c.requires.within c.requires.all quiet.row quiet.place (quiet.below _ c.in-Some.is) (quiet.item _ c.in-Some.is) here quiet.quiet
    c.loop-walk.invariant.read in
    let read = read_so c.read.result c.read.new.walk in
    let after = c.read.new.walk in
    let next = reads_item arena begins view all first walk bodies waiting c.loop-walk.brackets.braces id row read stands _ c.requires.within c.requires.all here c.read.ensures.read item in
    let goes = ap (λ (o : Outcome). read_so o after) c.in-GoesOn.is in
    let one = next_place arena (drop first view) walk after bodies waiting read _ _ next goes in
    record {
      read = read_flat arena begins view first walk after bodies waiting c.loop-walk.brackets.braces read id _ c.len-count.ensures.increase next goes (sym c.is_bracket.ensures ∙ c.if-not-is_bracket.true) item.was;
      stands = here;
      row = row_behind_item view first walk.place _ 1 id row one item.at;
    }

pub loop-walk-smaller-in-Some-passed_body : goal.loop-walk-smaller-in-Some-passed_body
loop-walk-smaller-in-Some-passed_body c =
    let first = c.args.begin.first in
    let walk = c.pass_quiet-next.new.walk in
    let quiet = c.pass_quiet-next.ensures in
    let later : c.pass_body.new.self.place ≡ walk.place + 1 + c.in-Some-passed_body.len = ap (λ (w : Walk). w.place) c.pass_body.ensures in
    fewer_left c.len-count.result first c.loop-walk.walk.place walk.place _ c.in-Some-passed_body.len c.loop-walk-test.true quiet.place later

pub loop-walk-preserved-in-Some-passed_body : goal.loop-walk-preserved-in-Some-passed_body
loop-walk-preserved-in-Some-passed_body c =
    let arena = c.args.source.now.arena.now in
    let view = c.args.source.now.view.now in
    let begins = place_in c.args.begin.inside in
    let first = c.args.begin.first in
    let all = c.args.source.now.classes.now in
    let walk = c.pass_quiet-next.new.walk in
    let row = c.pass_quiet-next.new.row in
    let bodies = reverse c.loop-walk.brackets.bodies.items in
    let waiting = reverse c.loop-walk.brackets.waiting.items in
    let stands = c.loop-walk.brackets.around in
    let here = c.loop-walk.invariant.stands in
    let quiet = c.pass_quiet-next.ensures in
    let id = c.in-Some.id.0 in
    let item = at_item arena begins view first c.loop-walk.walk walk bodies waiting c.loop-walk.brackets.braces stands all id row c.len-count.ensures.increase c.requires.within c.requires.all quiet.row quiet.place (quiet.below _ c.in-Some.is) (quiet.item _ c.in-Some.is) here quiet.quiet
    c.loop-walk.invariant.read in
    let after = c.pass_open_brace.new.self in
    let read = GoesOn after in
    let opens = (and_parts _ _ (sym c.passes_brace.ensures ∙ c.if-passes_brace.true)).0 in
    let next = reads_item arena begins view all first walk bodies waiting c.loop-walk.brackets.braces id row read stands _ c.requires.within c.requires.all here (c.pass_open_brace.ensures arena ∙ ap (λ (class : TokenClass). reading arena walk stands id class) (sym (brace_of _ opens))) item in
    let one = next_place arena (drop first view) walk after bodies waiting read _ _ next refl in
    let head = c.in-Some-passed_body.head in
    let len = c.in-Some-passed_body.len in
    let whole = c.in-Some-passed_body.ensures in
    let passed = item_row view first walk.place len id row (length arena.tokens) whole.within item.stored item.at in
    let closes = subst (λ n. Closes 1 (take len (drop n all))) passed.next whole.closes in
    let later : c.pass_body.new.self.place ≡ walk.place + (1 + len) = ap (λ (w : Walk). w.place) c.pass_body.ensures ∙ passed.behind in
    let opened_told = opened_brace walk stands _ _ id _ _ c.opened_head-opened.ensures c.deref.ensures.value opens in
    record {
      read = read_body arena begins view first walk after c.pass_body.new.self bodies bodies waiting c.loop-walk.brackets.braces read all id len _ stands head c.len-count.ensures.increase
          passed.within passed.items passed.stored c.requires.all next refl (sym whole.opened ∙ opened_told) here refl whole.before whole.low closes c.pass_body.ensures item.was;
      stands = here;
      row = row_behind_item view first walk.place _ (1 + len) id row later item.at;
    }

pub passed_group-requires : goal.passed_group-requires
passed_group-requires c =
    let arena = c.args.source.now.arena.now in
    let view = c.args.source.now.view.now in
    let first = c.args.begin.first in
    let walk = c.pass_quiet-next.new.walk in
    let row = c.pass_quiet-next.new.row in
    let quiet = c.pass_quiet-next.ensures in
    let all = c.args.source.now.classes.now in
    let stored = row_stored view (first + c.loop-walk.walk.place) (length arena.tokens) row c.requires.within quiet.some quiet.row in
    let whole : length all ≡ length arena.tokens = ap (λ (cs : List TokenClass). length cs) c.requires.all ∙ length-map arena.tokens (class_of arena.dialect) in
    record { here = quiet.below _ c.in-Some.is; within = within_kept _ _ _ stored whole }

pub pass_group-requires : goal.pass_group-requires
pass_group-requires c =
    let stored = row_stored c.args.source.now.view.now (c.args.begin.first + c.loop-walk.walk.place) (length c.args.source.now.arena.now.tokens) c.pass_quiet-next.new.row c.requires.within c.pass_quiet-next.ensures.some c.pass_quiet-next.ensures.row in
    let inside = c.in-Some-passed_group.ensures.within in
    let item = c.pass_quiet-next.ensures.item _ c.in-Some.is in
    omega (arith, stored, item, inside, c.len-items.ensures.count)

pub loop-walk-smaller-in-Some-passed_group : goal.loop-walk-smaller-in-Some-passed_group
loop-walk-smaller-in-Some-passed_group c =
    let first = c.args.begin.first in
    let walk = c.pass_quiet-next.new.walk in
    let quiet = c.pass_quiet-next.ensures in
    let later : c.pass_group.new.self.place ≡ walk.place + 1 + c.in-Some-passed_group.len = ap (λ (w : Walk). w.place) c.pass_group.ensures in
    fewer_left c.len-count.result first c.loop-walk.walk.place walk.place _ c.in-Some-passed_group.len c.loop-walk-test.true quiet.place later

pub loop-walk-preserved-in-Some-passed_group : goal.loop-walk-preserved-in-Some-passed_group
loop-walk-preserved-in-Some-passed_group c =
    let arena = c.args.source.now.arena.now in
    let view = c.args.source.now.view.now in
    let begins = place_in c.args.begin.inside in
    let first = c.args.begin.first in
    let all = c.args.source.now.classes.now in
    let walk = c.pass_quiet-next.new.walk in
    let row = c.pass_quiet-next.new.row in
    let bodies = reverse c.loop-walk.brackets.bodies.items in
    let waiting = reverse c.loop-walk.brackets.waiting.items in
    let stands = c.loop-walk.brackets.around in
    let here = c.loop-walk.invariant.stands in
    let quiet = c.pass_quiet-next.ensures in
    let id = c.in-Some.id.0 in
    let item = at_item arena begins view first c.loop-walk.walk walk bodies waiting c.loop-walk.brackets.braces stands all id row c.len-count.ensures.increase c.requires.within c.requires.all quiet.row quiet.place (quiet.below _ c.in-Some.is) (quiet.item _ c.in-Some.is) here quiet.quiet
    c.loop-walk.invariant.read in
    let read = read_so c.read.result c.read.new.walk in
    let after = c.read.new.walk in
    let next = reads_item arena begins view all first walk bodies waiting c.loop-walk.brackets.braces id row read stands _ c.requires.within c.requires.all here c.read.ensures.read item in
    let goes = ap (λ (o : Outcome). read_so o after) c.in-GoesOn.is in
    let group = c.in-Some-passed_group.ensures in
    let len = c.in-Some-passed_group.len in
    let passed = item_row view first walk.place len id row (length arena.tokens) group.within item.stored item.at in
    let whole : length all ≡ length arena.tokens = ap (λ (cs : List TokenClass). length cs) c.requires.all ∙ length-map arena.tokens (class_of arena.dialect) in
    let opener = get_or all id If in
    let closer = c.in-Some-passed_group.closer in
    let there : closer ≡ get_or all (id + len) If = group.closer If ∙ ap (λ n. get_or all n If) passed.last in
    let later : c.pass_group.new.self.place ≡ walk.place + (1 + len) = ap (λ (w : Walk). w.place) c.pass_group.ensures ∙ passed.behind in
    record {
      read = read_group arena begins view first walk after c.pass_group.new.self bodies waiting c.loop-walk.brackets.braces read all id len opener closer If c.len-count.ensures.increase
          passed.within passed.items passed.stored_last whole c.requires.all next goes group.opens there (group_tokens all first walk.place len id row opener item.at.shift group.closes) c.pass_group.ensures item.was;
      stands = here;
      row = row_behind_item view first walk.place _ (1 + len) id row later item.at;
    }

pub returns-in_err-brackets : goal.returns-in_err-brackets
returns-in_err-brackets c =
    let result = c.from_residual.result in
    let err = c.from_residual.ensures.0 in
    record {
      end = no_value result _ err;
      inside = no_value result _ err;
      place = no_value result _ err;
      some = no_value result _ err;
      within = no_value result _ err;
      told = no_value result _ err;
      later = no_value result _ err;
      below = no_value result _ err;
      whole = no_value result _ err;
    }

pub returns-in_err-pass : goal.returns-in_err-pass
returns-in_err-pass c =
    let result = c.from_residual-in_err-pass.result in
    let err = c.from_residual-in_err-pass.ensures.0 in
    record {
      end = no_value result _ err;
      inside = no_value result _ err;
      place = no_value result _ err;
      some = no_value result _ err;
      within = no_value result _ err;
      told = no_value result _ err;
      later = no_value result _ err;
      below = no_value result _ err;
      whole = no_value result _ err;
    }

pub returns-in_err-pass-2 : goal.returns-in_err-pass-2
returns-in_err-pass-2 c =
    let result = c.from_residual-in_err-pass-2.result in
    let err = c.from_residual-in_err-pass-2.ensures.0 in
    record {
      end = no_value result _ err;
      inside = no_value result _ err;
      place = no_value result _ err;
      some = no_value result _ err;
      within = no_value result _ err;
      told = no_value result _ err;
      later = no_value result _ err;
      below = no_value result _ err;
      whole = no_value result _ err;
    }

pub returns-in_err-inside-in-EndsInBody : goal.returns-in_err-inside-in-EndsInBody
returns-in_err-inside-in-EndsInBody c =
    let result = c.from_residual-in_err-inside-in-EndsInBody.result in
    let err = c.from_residual-in_err-inside-in-EndsInBody.ensures.0 in
    record {
      end = no_value result _ err;
      inside = no_value result _ err;
      place = no_value result _ err;
      some = no_value result _ err;
      within = no_value result _ err;
      told = no_value result _ err;
      later = no_value result _ err;
      below = no_value result _ err;
      whole = no_value result _ err;
    }

pub returns : goal.returns
returns c =
    let arena = c.args.source.now.arena.now in
    let view = c.args.source.now.view.now in
    let begins = place_in c.args.begin.inside in
    let walk = c.loop-walk.walk in
    let bodies = reverse c.loop-walk.brackets.bodies.items in
    let waiting = reverse c.loop-walk.brackets.waiting.items in
    let none : end_of_part arena begins (drop c.args.begin.first view) ≡ None = elim c.loop-walk-test.branch [
      | else-loop-walk-test w ↦ all_read arena begins (drop c.args.begin.first view) walk bodies waiting (omega (arith, length-drop c.args.begin.first view, w.loop-walk-test.false, c.len-count.ensures.count)) c.loop-walk.invariant.read.on
      | then-loop-walk-test+in-Some+else-passes_brace+in-Never w ↦
          let here = c.loop-walk.invariant.stands in
          let walk = w.pass_quiet-next.new.walk in
          let quiet = w.pass_quiet-next.ensures in
          let item = at_item arena begins view c.args.begin.first c.loop-walk.walk walk bodies waiting c.loop-walk.brackets.braces c.loop-walk.brackets.around c.args.source.now.classes.now w.in-Some.id.0 w.pass_quiet-next.new.row c.len-count.ensures.increase c.requires.within c.requires.all quiet.row quiet.place (quiet.below _ w.in-Some.is) (quiet.item _ w.in-Some.is) here quiet.quiet c.loop-walk.invariant.read in
          let read = read_so w.read.result w.read.new.walk in
          let next = reads_item arena begins view c.args.source.now.classes.now c.args.begin.first walk bodies waiting c.loop-walk.brackets.braces w.in-Some.id.0 w.pass_quiet-next.new.row read c.loop-walk.brackets.around _ c.requires.within c.requires.all here w.read.ensures.read item in
          never_ends arena begins (drop c.args.begin.first view) walk bodies waiting read next.below (ap (λ (o : Outcome). read_so o w.read.new.walk) w.in-Never.is) next.read_is item.was.on
    ] in
    let nowhere = ends_nowhere arena begins view c.args.begin.first c.len-count.result c.requires.here c.len-count.ensures.count none in
    let at = ends_with_view arena begins view c.args.begin.first c.len-count.result _ _ _ c.requires.here c.len-count.ensures.count c.with_view.ensures.end c.with_view.ensures.told c.with_view.ensures.inside nowhere in
    record { end = at.end_is; inside = at.inside_is; place = at.place; some = at.some; within = at.within; told = at.told; later = at.later; below = at.below; whole = at.whole }
