-- Where one part of a view ends: parts that are known, and notes of them.
use Rattle.std.proofs.Common.{◌≡◌, inl, ℕ, ◌+◌, ◌-◌, ◌<◌, ◌≤◌, Option, Some, None, List, length, get_or, refl, sym, subst, arith}
use Rattle.std.specs.Prelude.{false, is_some, IfOk, OnOk, OnErr, Result, Ok, Err, slice_range, slice_set}
use Rattle.std.specs.Option.{ForSome}
use Rattle.std.proofs.lemmas.List.{length-set}
use Rattle.token_arena.specs.Gaps.{Contents}
use Rattle.token_arena.specs.Ids.{Increase}
use Rattle.part_walk.specs.declared.bodies.BodyPlace.{BodyPlace}
use Rattle.view_parts.specs.declared.known.KnownEnd.{KnownEnd}
use Rattle.view_parts.specs.declared.known.KnownRow.{KnownRow}
use Rattle.view_parts.specs.declared.known.KnownSpan.{KnownSpan}
use Rattle.view_parts.specs.declared.known.PartsEnd.{PartsEnd}
use Rattle.view_parts.specs.Known.{AreKnown, AreRowsFrom, IsKnown, IsKnownRow, IsRowAt, IsSpan}
use Rattle.view_parts.specs.Parts.{EndsBehind}
use Rattle.part_walk.specs.Places.{Place, place_in}
use Rattle.view_parts.specs.Told.{IsEndOfPart, TellParts}
use Rattle.view_parts.proofs.NotedRows.{rows_set}
use Rattle.view_parts.proofs.RowParts.{some_is}
use Rattle.view_parts.proofs.Rows.{noted_all, recalled_len, recalled_outside}
use Rattle.view_parts.proofs.Spans.{recalled_so, recalled_outside as span_outside}
use Rattle.view_parts.proofs.Told.{part_told, row_told, span_told}

pub none_some : {A : Type 0} (a : A) → None ≡ Some a → ⊥
none_some a e = cc

pub none_of : {A : Type 0} (o : Option A) → is_some o ≡ false → o ≡ None
none_of None e = refl
none_of (Some a) e = cc

-- ## Parts that are known

-- in a row
pub row_recalled : (arena : Contents) (view : List ℕ) (first id behind : ℕ) (known : KnownRow) → Increase view → first + behind < length view → get_or view first 0 ≡ id → get_or view (first + behind) 0 ≡ known.seen - 1 → behind ≡ known.seen - 1 - id
    → IsKnownRow arena id known → IsEndOfPart arena None view first (record { end = first + (known.end - id); told = Some (first + behind + 1); inside = None })
row_recalled arena view first id behind known increase below at last is so = record {
  end = recalled_len arena view first id behind known increase below at last is so;
  begun = sym (recalled_outside arena view first id behind known increase below at last is so);
  place = λ place none. absurd (none_some place none);
  some = omega (arith, so.some);
  inside = omega (arith, so.some, so.later, below, is);
  told = row_told arena view first id behind known increase below at last is so;
  later = λ told e. (let same : first + behind + 1 ≡ told = some_is _ told e in omega (arith, same, so.some, so.later, is));
  below = λ told e. (let same : first + behind + 1 ≡ told = some_is _ told e in omega (arith, same, below));
  whole = λ e. absurd (none_some _ (sym e));
}

-- in a span
pub span_recalled : (arena : Contents) (view : List ℕ) (first told : ℕ) (span : KnownSpan) → told ≡ length span.told → slice_range view first (first + length span.told) ≡ span.told → first + length span.told ≤ length view → IsSpan arena span
    → IsEndOfPart arena None view first (record { end = first + span.count; told = Some (first + told); inside = None })
span_recalled arena view first told span many same within so =
    subst (λ n. IsEndOfPart arena None view first (record { end = first + span.count; told = Some (first + n); inside = None })) (sym many) (record {
      end = recalled_so arena view first span same so;
      begun = sym (span_outside arena view first span same so);
      place = λ place none. absurd (none_some place none);
      some = omega (arith, so.some);
      inside = omega (arith, so.later, within);
      told = span_told arena view first span same so;
      later = λ n e. (let at : first + length span.told ≡ n = some_is _ n e in omega (arith, at, so.later));
      below = λ n e. (let at : first + length span.told ≡ n = some_is _ n e in omega (arith, at, within));
      whole = λ e. absurd (none_some _ (sym e));
    })

-- a part that begins in no body begins outside brackets
pub from_outside : (arena : Contents) (begins : Option BodyPlace) (view : List ℕ) (first : ℕ) (part : PartsEnd) → begins ≡ None → IsEndOfPart arena None view first part → IsEndOfPart arena (place_in begins) view first part
from_outside arena begins view first part none is = subst (λ (b : Option BodyPlace). IsEndOfPart arena (place_in b) view first part) (sym none) is

pub ends_outside : (arena : Contents) (ids : List ℕ) (count : ℕ) (inside : Option BodyPlace) → inside ≡ None → EndsBehind arena None ids (record { count = count; inside = place_in inside }) → EndsBehind arena None ids (record { count = count; inside = None })
ends_outside arena ids count inside none ends = subst (λ (i : Option BodyPlace). EndsBehind arena None ids (record { count = count; inside = place_in i })) none ends

-- the items that a part ends behind, whatever follows them, tell where it ends
pub part_tells : {E : Type 0} (r : Result PartsEnd E) (arena : Contents) (begins : Option Place) (view : List ℕ) (first : ℕ) → IfOk r (λ part. first < part.end) → IfOk r (λ part. ForSome part.told (λ told. part.end < told))
    → IfOk r (λ part. ForSome part.told (λ told. told ≤ length view))
    → IfOk r (λ part. ForSome part.told (λ told. EndsBehind arena begins (slice_range view first told) (record { count = part.end - first; inside = place_in part.inside })))
    → IfOk r (λ part. ForSome part.told (λ told. TellParts arena begins (slice_range view first told) (part.end - first) (place_in part.inside)))
part_tells (Ok part) arena begins view first some later below ends = λ told is. part_told arena begins (place_in part.inside) view first part.end told some (later told is) (below told is) (ends told is)
part_tells (Err e) arena begins view first some later below ends = tt

-- ## Notes

pub any_ok : {T E : Type 0} (r : Result T E) (P : T → Type 0) → ((x : T) → P x) → IfOk r P
any_ok (Ok x) P all = all x
any_ok (Err e) P all = tt

pub on_ok : {T E : Type 0} (r : Result T E) (P : Type 0) → P → OnOk r P
on_ok (Ok x) P p = p
on_ok (Err e) P p = tt

-- what is known behind a note, whether it was made or not
pub set_known : {T E : Type 0} (r : Result T E) (arena : Contents) (old new : List KnownEnd) (at : ℕ) (known : KnownEnd) → OnOk r (new ≡ slice_set old at known) → OnErr r (new ≡ old) → IsKnown arena at known → at < length old → AreKnown arena old
    → AreKnown arena new
set_known (Ok x) arena old new at known set same so within all =
    subst (λ (knowns : List KnownEnd). AreKnown arena knowns) (sym set) (noted_all arena old at known so all within (length-set old at known))
set_known (Err e) arena old new at known set same so within all = subst (λ (knowns : List KnownEnd). AreKnown arena knowns) (sym same) all

pub same_rows : (knowns : List KnownEnd) (view : List ℕ) (first end : ℕ) → AreRowsFrom knowns view first end knowns
same_rows knowns view first end = λ id row is. inl is

pub set_rows : {T E : Type 0} (r : Result T E) (old new : List KnownEnd) (view : List ℕ) (first end at : ℕ) (known : KnownEnd) → OnOk r (new ≡ slice_set old at known) → OnErr r (new ≡ old) → at < length old → IsRowAt view first end at known → AreRowsFrom old view first end new
set_rows (Ok x) old new view first end at known set same within has = subst (λ (knowns : List KnownEnd). AreRowsFrom old view first end knowns) (sym set) (rows_set old view first end at known within has)
set_rows (Err e) old new view first end at known set same within has = subst (λ (knowns : List KnownEnd). AreRowsFrom old view first end knowns) (sym same) (same_rows old view first end)
