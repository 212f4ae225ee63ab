-- Quiet tokens in a row, passed at once.
use Rattle.std.proofs.Common.{◌≡◌, ◌∙◌, ℕ, zero, suc, ◌+◌, ◌-◌, ◌<◌, ◌≤◌, Bool, true, false, List, length, drop, get_or}
use Rattle.std.proofs.Common.{refl, sym, ap, subst, arith}
use Rattle.std.proofs.lemmas.List.{get_or_default, length-drop}
use Rattle.std.specs.Prelude.{Option}
use Rattle.token_arena.specs.Gaps.{Contents}
use Rattle.token_arena.specs.Ids.{Increase}
use Rattle.token_classes.specs.declared.class.TokenClass.{TokenClass}
use Rattle.token_classes.specs.declared.class.TokenClass.TheVariants.{If}
use Rattle.token_classes.specs.declared.pairing.Opener.{Opener}
use Rattle.item_classes.specs.Viewed.{AreWithin, item_class, item_classes}
use Rattle.part_walk.specs.declared.bodies.Head.{Head}
use Rattle.view_parts.specs.declared.row.Row.{Row}
use Rattle.part_walk.specs.declared.walk.Around.{Around}
use Rattle.part_walk.specs.declared.walk.Around.TheVariants as around
use Rattle.part_walk.specs.declared.walk.Walk.{Walk}
use Rattle.part_walk.specs.Brackets.{around_of}
use Rattle.part_walk.specs.Places.{Place}
use Rattle.view_parts.specs.Rows.{IsRow}
use Rattle.view_parts.specs.Quiet.{PassesQuiet, is_held, is_quiet}
use Rattle.part_walk.specs.Steps.{may_end, passed}
use Rattle.view_parts.proofs.PartEnds.{IsRead, read_quiet}
use Rattle.view_parts.proofs.Quiet.{AreQuiet, quiet_row}
use Rattle.view_parts.proofs.Rows.{row_items, row_later, row_stored}
use Rattle.view_parts.proofs.Waits.{none_left}
use Rattle.view_parts.proofs.Walked.{class_told}

-- quiet tokens count as the place tells
pub placed : (walk : Walk) (stands : Around) (place last : ℕ) (class : TokenClass) → (passed walk stands place last class).place ≡ place
placed walk around.Outside place last class = refl
placed walk around.Body place last class = refl
placed walk around.Group place last class = refl

pub past_place : (all : List TokenClass) (stands : Around) (walk : Walk) (id n : ℕ) (next : Walk) → PassesQuiet all stands walk id n next → next.place ≡ walk.place + n
past_place all stands walk id n next past = by_count n refl
  where
    by_count : (k : ℕ) → n ≡ k → next.place ≡ walk.place + n
    by_count zero e = ap (λ (w : Walk). w.place) (past.none e) ∙ omega (arith, e)
    by_count (suc m) e = ap (λ (w : Walk). w.place) (past.some m If (omega (arith, e))) ∙ (placed walk stands (walk.place + m + 1) (id + m) (get_or all (id + m) If) ∙ omega (arith, e))

-- the next item of a part, which stands in a row
pub record StandsAt (view : List ℕ) (first place id : ℕ) (row : Row) : Type 0 where
  pub is : IsRow view (first + place) row
  pub some : first + place < row.end
  pub shift : id ≡ first + place + row.shift
  pub item : get_or view (first + place) 0 ≡ id
  pub below : first + place < length view

-- behind some of the same row
pub stands_behind : (view : List ℕ) (first place later id : ℕ) (row : Row) → IsRow view (first + place) row → place ≤ later → first + later < row.end → id ≡ first + later + row.shift → StandsAt view first later id row
stands_behind view first place later id row is behind some shift = record {
  is = row_later view (first + place) (first + later) row (omega (arith, behind)) is;
  some = some;
  shift = shift;
  item = is.items (first + later) (omega (arith, behind)) some ∙ sym shift;
  below = omega (arith, some, is.inside);
}

-- behind so many tokens of a row
pub record IsBehind (first place n next end : ℕ) : Type 0 where
  pub later : place ≤ next
  pub within : first + next ≤ end

pub behind_so : (first place n next end : ℕ) → next ≡ place + n → first + place + n ≤ end → IsBehind first place n next end
behind_so first place n next end at inside = record { later = omega (arith, at); within = omega (arith, at, inside) }

pub row_ends : (first next end : ℕ) → first + next ≤ end → end ≤ first + next → first + next ≡ end
row_ends first next end low high = omega (arith, low, high)

pub item_behind : (first place n next shift id : ℕ) → next ≡ place + n → 0 < n → id ≡ first + place + shift → id + (n - 1) + 1 ≡ first + next + shift
item_behind first place n next shift id at some is = omega (arith, at, some, is)

-- none of them
pub none_passed : (all : List TokenClass) (stands : Around) (walk : Walk) (id : ℕ) → PassesQuiet all stands walk id (walk.place - walk.place) walk
none_passed all stands walk id = record {
  none = λ e. refl;
  some = λ m d e. absurd (omega (arith, e));
  never = λ some. absurd (omega (arith, some));
  low = λ some body. absurd (omega (arith, some));
  quiet = λ k d below. absurd (omega (arith, below));
}

-- what the code asks of them by their places, by their numbers
pub quiet_by_number : (all : List TokenClass) (stands : Around) (held : Bool) (first place n shift id : ℕ) → id ≡ first + place + shift → ((k : ℕ) → (d : TokenClass) → first + place ≤ k → k < first + place + n → is_quiet stands held (get_or all (k + shift) d) ≡ true)
    → (k : ℕ) → (d : TokenClass) → k < n → is_quiet stands held (get_or all (id + k) d) ≡ true
quiet_by_number all stands held first place n shift id is quiet k d below =
    let at : first + place + k + shift ≡ id + k = omega (arith, is) in
    ap (λ j. is_quiet stands held (get_or all j d)) (sym at) ∙ quiet (first + place + k) d (omega arith) (omega (arith, below))

pub within_all : (first place n end shift id count : ℕ) → id ≡ first + place + shift → first + place + n ≤ end → end + shift ≤ count → id + n ≤ count
within_all first place n end shift id count is inside stored = omega (arith, is, inside, stored)

-- so many of them, as the code counts them
pub passes_so : (all : List TokenClass) (stands : Around) (walk : Walk) (id n : ℕ) (next : Walk) → 0 < n → id + n ≤ length all → next ≡ passed walk stands (walk.place + n) (id + (n - 1)) (get_or all (id + (n - 1)) If)
    → may_end walk stands id ≡ false → (stands ≡ around.Body → walk.place + n ≤ 512) → ((k : ℕ) → (d : TokenClass) → k < n → is_quiet stands (is_held walk) (get_or all (id + k) d) ≡ true)
    → PassesQuiet all stands walk id (next.place - walk.place) next
passes_so all stands walk id n next some within is never low quiet =
    let at : next.place ≡ walk.place + n = ap (λ (w : Walk). w.place) is ∙ placed walk stands (walk.place + n) (id + (n - 1)) (get_or all (id + (n - 1)) If) in
    let many : n ≡ next.place - walk.place = omega (arith, at) in
    subst (λ k. PassesQuiet all stands walk id k next) many (record {
      none = λ e. absurd (omega (arith, e, some));
      some = λ m d e.
          let last : id + (n - 1) ≡ id + m = omega (arith, e) in
          let place : walk.place + n ≡ walk.place + m + 1 = omega (arith, e) in
          let class : get_or all (id + (n - 1)) If ≡ get_or all (id + m) d = ap (λ k. get_or all k If) last ∙ get_or_default all (id + m) If d (omega (arith, e, within)) in
          is
          ∙ (ap (λ k. passed walk stands k (id + (n - 1)) (get_or all (id + (n - 1)) If)) place
          ∙ (ap (λ k. passed walk stands (walk.place + m + 1) k (get_or all (id + (n - 1)) If)) last
          ∙ ap (λ (c : TokenClass). passed walk stands (walk.place + m + 1) (id + m) c) class));
      never = λ any. never;
      low = λ any. low;
      quiet = quiet;
    })

-- behind tokens that tell nothing, as the code passes them
pub read_past : (arena : Contents) (begins : Option Place) (view : List ℕ) (first n : ℕ) (walk next : Walk) (bodies : List Head) (waiting : List Opener) (braces : ℕ) (stands : Around) (all : List TokenClass) (id : ℕ) (row : Row)
    → Increase view → AreWithin arena view → all ≡ item_classes arena → IsRow view (first + walk.place) row → id ≡ first + walk.place + row.shift → first + walk.place + n ≤ row.end → stands ≡ around_of bodies waiting
    → PassesQuiet all stands walk id n next → IsRead arena begins view first walk bodies waiting braces → IsRead arena begins view first next bodies waiting braces
read_past arena begins view first n walk next bodies waiting braces stands all id row increase within all_is is shift inside here past was = by_count n refl
  where
    by_count : (k : ℕ) → n ≡ k → IsRead arena begins view first next bodies waiting braces
    by_count zero e = subst (λ (w : Walk). IsRead arena begins view first w bodies waiting braces) (sym (past.none e)) was
    by_count (suc m) e =
        let one : n ≡ m + 1 = omega (arith, e) in
        let some : 0 < n = omega (arith, e) in
        let class = get_or all (id + m) If in
        let never : may_end walk (around_of bodies waiting) id ≡ false = ap (λ (a : Around). may_end walk a id) (sym here) ∙ past.never some in
        let stored = row_stored view (first + walk.place) (length arena.tokens) row within (omega (arith, inside, some)) is in
        let items = row_items view first walk.place m id row is shift (omega (arith, inside, one)) in
        let are_quiet : AreQuiet arena stands (is_held walk) (drop first view) walk.place (1 + m) =
        λ k below. (
          omega (arith, length-drop first view, below, one, inside, is.inside),
          ap (λ j. is_quiet stands (is_held walk) (item_class arena j)) (items k (omega (arith, below)))
              ∙ (ap (λ (c : TokenClass). is_quiet stands (is_held walk) c) (sym (class_told arena all (id + k) If all_is (omega (arith, below, one, inside, stored, shift)))) ∙ past.quiet k If (omega (arith, below, one))),
        ) in
        let told = class_told arena all (id + m) If all_is (omega (arith, one, inside, stored, shift)) in
        let next_is = past.some m If one in
        let on = quiet_row arena begins (drop first view) walk next bodies waiting stands id m class here (none_left bodies waiting was.holds) never (λ body. (let low = past.low some body in omega (arith, low, one))) are_quiet items told next_is was.on in
        read_quiet arena begins view first m walk next bodies waiting braces increase (ap (λ (w : Walk). w.place) next_is ∙ placed walk stands (walk.place + m + 1) (id + m) class) on was
