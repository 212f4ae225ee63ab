-- What is known at an item that the code reads, and where a part ends that it tells.
use Rattle.std.proofs.Common.{◌≡◌, ◌∙◌, ℕ, ◌+◌, ◌-◌, ◌<◌, ◌≤◌, Option, Some, None, List, [], ◌∷◌, length, take, drop}
use Rattle.std.proofs.Common.{get_or, refl, sym, ap, subst, arith}
use Rattle.std.specs.Prelude.{◌^◌, slice_range}
use Rattle.std.specs.Option.{ForNone, ForSome}
use Rattle.std.proofs.lemmas.List.{get_or-drop}
use Rattle.token_arena.specs.Gaps.{Contents}
use Rattle.token_arena.specs.Ids.{Increase}
use Rattle.token_classes.specs.declared.class.TokenClass.{TokenClass}
use Rattle.token_classes.specs.declared.pairing.Opener.{Opener}
use Rattle.item_classes.specs.Viewed.{AreWithin, item_classes}
use Rattle.part_walk.specs.declared.bodies.Head.{Head}
use Rattle.view_parts.specs.declared.row.Row.{Row}
use Rattle.part_walk.specs.declared.walk.Around.{Around}
use Rattle.part_walk.specs.declared.walk.Walk.{Walk}
use Rattle.view_parts.specs.Parts.{Ended, part_inside, part_len, EndsBehind, StandsBefore}
use Rattle.part_walk.specs.Brackets.{around_of}
use Rattle.part_walk.specs.Places.{Place}
use Rattle.part_walk.specs.Reading.{Reading}
use Rattle.view_parts.specs.Rows.{IsRow}
use Rattle.view_parts.specs.Quiet.{ClosesGroup, PassesQuiet}
use Rattle.part_walk.specs.Walk.{reading}
use Rattle.view_parts.proofs.InBodies.{stands_before}
use Rattle.view_parts.proofs.PartEnds.{EndsNowhere, EndsSo, IsRead, ends_there, headed, seen_so}
use Rattle.view_parts.proofs.QuietPassed.{StandsAt, read_past, stands_behind}
use Rattle.view_parts.proofs.Rows.{drop_increase, row_items, row_later, row_stored}
use Rattle.view_parts.proofs.Walked.{IsNext, next_item, told_by}

some_is : (n m : ℕ) → Some n ≡ Some m → n ≡ m
some_is n m same = cc

none_some : (n : ℕ) → None ≡ Some n → ⊥
none_some n same = cc

-- ## An item

-- Behind the tokens that tell nothing the part is read up to an item, which stands in this row.
pub record IsAtItem (arena : Contents) (begins : Option Place) (view : List ℕ) (first : ℕ) (walk : Walk) (bodies : List Head) (waiting : List Opener) (braces id : ℕ) (row : Row) : Type 0 where
  pub was : IsRead arena begins view first walk bodies waiting braces
  pub at : StandsAt view first walk.place id row
  pub stored : row.end + row.shift ≤ length arena.tokens

-- behind them, where the row may end too
pub read_quiet_row : (arena : Contents) (begins : Option Place) (view : List ℕ) (first : ℕ) (old walk : Walk) (bodies : List Head) (waiting : List Opener) (braces : ℕ) (stands : Around) (all : List TokenClass) (row : Row) → Increase view → AreWithin arena view
    → all ≡ item_classes arena → IsRow view (first + old.place) row → old.place ≤ walk.place → first + walk.place ≤ row.end → stands ≡ around_of bodies waiting → PassesQuiet all stands old (first + old.place + row.shift) (walk.place - old.place) walk
    → IsRead arena begins view first old bodies waiting braces → IsRead arena begins view first walk bodies waiting braces
read_quiet_row arena begins view first old walk bodies waiting braces stands all row increase within all_is is later inside here past was =
    read_past arena begins view first (walk.place - old.place) old walk bodies waiting braces stands all (first + old.place + row.shift) row increase within all_is is refl (omega (arith, later, inside)) here past was

pub at_item : (arena : Contents) (begins : Option Place) (view : List ℕ) (first : ℕ) (old walk : Walk) (bodies : List Head) (waiting : List Opener) (braces : ℕ) (stands : Around) (all : List TokenClass) (id : ℕ) (row : Row) → Increase view → AreWithin arena view
    → all ≡ item_classes arena → IsRow view (first + old.place) row → old.place ≤ walk.place → first + walk.place < row.end → id ≡ first + walk.place + row.shift → stands ≡ around_of bodies waiting
    → PassesQuiet all stands old (first + old.place + row.shift) (walk.place - old.place) walk → IsRead arena begins view first old bodies waiting braces → IsAtItem arena begins view first walk bodies waiting braces id row
at_item arena begins view first old walk bodies waiting braces stands all id row increase within all_is is later below shift here past was = record {
  was = read_quiet_row arena begins view first old walk bodies waiting braces stands all row increase within all_is is later (omega (arith, below)) here past was;
  at = stands_behind view first old.place walk.place id row is later below shift;
  stored = row_stored view (first + old.place) (length arena.tokens) row within (omega (arith, later, below)) is;
}

-- what it tells
pub reads_item : (arena : Contents) (begins : Option Place) (view : List ℕ) (all : List TokenClass) (first : ℕ) (walk : Walk) (bodies : List Head) (waiting : List Opener) (braces id : ℕ) (row : Row) (read : Reading) (stands : Around) (d : TokenClass) → AreWithin arena view
    → all ≡ item_classes arena → stands ≡ around_of bodies waiting → read ≡ reading arena walk stands id (get_or all id d) → IsAtItem arena begins view first walk bodies waiting braces id row → IsNext arena (drop first view) walk bodies waiting read id (get_or all id d)
reads_item arena begins view all first walk bodies waiting braces id row read stands d within all_is here is item =
    next_item arena view all first (length view) walk bodies waiting read stands id d within all_is refl (omega (arith, item.at.below)) item.at.item here is

-- the way goes on behind it
pub row_behind_item : (view : List ℕ) (first place next n id : ℕ) (row : Row) → next ≡ place + n → StandsAt view first place id row → IsRow view (first + next) row
row_behind_item view first place next n id row one at = row_later view (first + place) (first + next) row (omega (arith, one)) at.is

pub later_place : (first place later : ℕ) → place ≤ later → first + place ≤ first + later
later_place first place later low = omega (arith, low)

pub small_at : (braces item id : ℕ) → item ≡ id → braces ≤ item + 1 → braces ≤ id + 1
small_at braces item id is small = omega (arith, is, small)

-- the item, and so many behind it in its row
pub record IsItemRow (view : List ℕ) (first place len id : ℕ) (row : Row) (count : ℕ) : Type 0 where
  pub within : first + place + len < length view
  pub items : (k : ℕ) → k ≤ len → get_or (drop first view) (place + k) 0 ≡ id + k
  pub stored : id + 1 + len ≤ count
  pub stored_last : id + len < count
  pub next : first + place + 1 + row.shift ≡ id + 1
  pub last : first + place + len + row.shift ≡ id + len
  pub behind : place + 1 + len ≡ place + (1 + len)

pub item_row : (view : List ℕ) (first place len id : ℕ) (row : Row) (count : ℕ) → first + place + len < row.end → row.end + row.shift ≤ count → StandsAt view first place id row → IsItemRow view first place len id row count
item_row view first place len id row count inside kept at = record {
  within = omega (arith, inside, at.is.inside);
  items = row_items view first place len id row at.is at.shift inside;
  stored = omega (arith, inside, kept, at.shift);
  stored_last = omega (arith, inside, kept, at.shift);
  next = omega (arith, at.shift);
  last = omega (arith, at.shift);
  behind = omega arith;
}

-- the tokens of a group, by their numbers
pub group_tokens : (all : List TokenClass) (first place len id : ℕ) (row : Row) (opener : TokenClass) → id ≡ first + place + row.shift → ClosesGroup (opener ∷ []) (take len (drop (first + place + 1 + row.shift) all)) → ClosesGroup (opener ∷ []) (take len (drop (id + 1) all))
group_tokens all first place len id row opener shift closes = subst (λ n. ClosesGroup (opener ∷ []) (take len (drop n all))) (omega (arith, shift)) closes

-- the item and its place are numbers of the text
pub record FitsText (place id stored : ℕ) : Type 0 where
  pub kept : id < stored
  pub small : id < 4294967295
  pub room : place < 4294967295
  pub low : place ≤ id

pub fits_text : (first place id shift end stored count : ℕ) → first + place < end → id ≡ first + place + shift → end + shift ≤ stored → count ≡ stored → count ≤ 4294967295 → FitsText place id stored
fits_text first place id shift end stored count inside is kept whole few = record {
  kept = omega (arith, inside, is, kept);
  small = omega (arith, inside, is, kept, whole, few);
  room = omega (arith, inside, is, kept, whole, few);
  low = omega (arith, is);
}

pub within_kept : (end count stored : ℕ) → end ≤ stored → count ≡ stored → end ≤ count
within_kept end count stored inside whole = omega (arith, inside, whole)

pub stands_here : (first place count length : ℕ) → place < count - first → count ≡ length → first + place < length
stands_here first place count length some whole = omega (arith, some, whole)

-- fewer items are left
pub one_fewer : (count first old place next : ℕ) → old < count - first → old ≤ place → next ≡ place + 1 → count - next < count - old
one_fewer count first old place next some later one = omega (arith, some, later, one)

pub fewer_left : (count first old place next n : ℕ) → old < count - first → old ≤ place → next ≡ place + 1 + n → count - next < count - old
fewer_left count first old place next n some later one = omega (arith, some, later, one)

-- ## Where the part ends

-- a part of a view ends so, and its items up to before this place tell it
pub record EndsAt (arena : Contents) (begins : Option Place) (view : List ℕ) (first end : ℕ) (seen : Option ℕ) (inside : Option Place) : Type 0 where
  pub end_is : end ≡ first + part_len arena begins (drop first view)
  pub inside_is : inside ≡ part_inside arena begins (drop first view)
  pub place : ForSome inside (λ place. StandsBefore place (get_or view end 0))
  pub some : first < end
  pub within : end ≤ length view
  pub told : ForSome seen (λ seen. EndsBehind arena begins (slice_range view first seen) (record { count = end - first; inside = inside }))
  pub later : ForSome seen (λ seen. end < seen)
  pub below : ForSome seen (λ seen. seen ≤ length view)
  pub whole : ForNone seen (end ≡ length view)

-- as an item tells
pub ends_item : (arena : Contents) (begins : Option Place) (view : List ℕ) (all : List TokenClass) (first : ℕ) (walk : Walk) (bodies : List Head) (waiting : List Opener) (braces id : ℕ) (row : Row) (read : Reading) (stands : Around) (d : TokenClass) (ended : Ended) → AreWithin arena view
    → all ≡ item_classes arena → ForSome begins (λ place. StandsBefore place (get_or view first 0)) → stands ≡ around_of bodies waiting → read ≡ reading arena walk stands id (get_or all id d) → told_by walk bodies read ≡ Some ended
    → IsAtItem arena begins view first walk bodies waiting braces id row → EndsSo arena begins view first walk.place ended
ends_item arena begins view all first walk bodies waiting braces id row read stands d ended within all_is begun here is told item =
    ends_there arena begins view first walk bodies waiting read id (get_or all id d) ended (headed begins (get_or view first 0) begun) (reads_item arena begins view all first walk bodies waiting braces id row read stands d within all_is here is item) told item.was.on

-- .. within what a number counts
pub told_fits : (arena : Contents) (begins : Option Place) (view : List ℕ) (first place : ℕ) (ended : Ended) (count : ℕ) → EndsSo arena begins view first place ended → count ≡ length view → count < 2 ^ 32 → first + ended.count < 2 ^ 32
told_fits arena begins view first place ended count ends whole few = omega (arith, ends.later, ends.within, whole, few)

-- the place of a body where the next part begins stands before its first item
next_stands : (arena : Contents) (begins : Option Place) (view : List ℕ) (first end : ℕ) (inside : Option Place) → Increase view → ForSome begins (λ place. StandsBefore place (get_or view first 0)) → end ≡ first + part_len arena begins (drop first view)
    → inside ≡ part_inside arena begins (drop first view) → ForSome inside (λ place. StandsBefore place (get_or view end 0))
next_stands arena begins view first end inside increase begun at is place there =
    let ids = drop first view in
    let begin : first + 0 ≡ first = omega arith in
    let here = get_or-drop first view 0 0 ∙ ap (λ k. get_or view k 0) begin in
    let stands = stands_before arena begins ids 0 (drop_increase first view increase) (λ from e. subst (λ n. StandsBefore from n) (sym here) (begun from e)) place (sym is ∙ there) in
    subst (λ n. StandsBefore place n) (get_or-drop first view (part_len arena begins ids) 0 ∙ ap (λ k. get_or view k 0) (sym at)) stands

pub ends_at : (arena : Contents) (begins : Option Place) (view : List ℕ) (first place : ℕ) (ended : Ended) (end : ℕ) (seen : Option ℕ) (inside : Option Place) → Increase view → ForSome begins (λ place. StandsBefore place (get_or view first 0)) → end ≡ first + ended.count
    → seen ≡ Some (first + place + 1) → inside ≡ ended.inside → EndsSo arena begins view first place ended → EndsAt arena begins view first end seen inside
ends_at arena begins view first place ended end seen inside increase begun at seen_at is ends =
    let end_is = at ∙ ends.end in
    let inside_is = is ∙ ends.inside in
    let upto : (n : ℕ) → seen ≡ Some n → n ≡ first + place + 1 = λ n e. sym (some_is (first + place + 1) n (sym seen_at ∙ e)) in
    record {
      end_is = end_is;
      inside_is = inside_is;
      place = next_stands arena begins view first end inside increase begun end_is inside_is;
      some = omega (arith, ends.some, at);
      within = omega (arith, ends.later, ends.within, at);
      told = λ n e. ended_so (slice_range view first n) (seen_so arena begins view first place n ended (upto n e) ends);
      later = λ n e. (let so = upto n e in omega (arith, so, at, ends.later));
      below = λ n e. (let so = upto n e in omega (arith, so, ends.within));
      whole = λ none. absurd (none_some (first + place + 1) (sym none ∙ seen_at));
    }
  where
    ended_so : (ids : List ℕ) → EndsBehind arena begins ids (record { count = first + ended.count - first; inside = ended.inside }) → EndsBehind arena begins ids (record { count = end - first; inside = inside })
    ended_so ids told =
        subst (λ n. EndsBehind arena begins ids (record { count = n - first; inside = inside })) (sym at)
        (subst (λ (o : Option Place). EndsBehind arena begins ids (record { count = first + ended.count - first; inside = o })) (sym is) told)

-- with the view
pub ends_with_view : (arena : Contents) (begins : Option Place) (view : List ℕ) (first count end : ℕ) (seen : Option ℕ) (inside : Option Place) → first < length view → count ≡ length view → end ≡ count → seen ≡ None → inside ≡ None → EndsNowhere arena begins view first count
    → EndsAt arena begins view first end seen inside
ends_with_view arena begins view first count end seen inside here whole at untold is ends = record {
  end_is = at ∙ ends.end;
  inside_is = is ∙ ends.inside;
  place = λ place there. absurd (no_place place (sym is ∙ there));
  some = omega (arith, at, whole, here);
  within = omega (arith, at, whole);
  told = λ n e. absurd (none_some n (sym untold ∙ e));
  later = λ n e. absurd (none_some n (sym untold ∙ e));
  below = λ n e. absurd (none_some n (sym untold ∙ e));
  whole = λ none. at ∙ whole;
}
  where
    no_place : (place : Place) → None ≡ Some place → ⊥
    no_place place e = cc
