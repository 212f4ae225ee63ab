-- Which rows are noted, and which items of a view they have.
use Rattle.std.proofs.Common.{◌≡◌, ◌∙◌, inl, inr, ℕ, ◌+◌, ◌-◌, ◌<◌, ◌≤◌, Option, Some, None, List, length, get_or, get_or-set_same, get_or-set_other, refl, sym, ap, subst, arith}
use Rattle.std.specs.Prelude.{slice_set}
use Rattle.token_arena.specs.Ids.{Increase}
use Rattle.view_parts.specs.declared.known.KnownEnd.{KnownEnd}
use Rattle.view_parts.specs.declared.known.KnownEnd.TheVariants.{Unknown, InRows}
use Rattle.view_parts.specs.declared.known.KnownRow.{KnownRow}
use Rattle.view_parts.specs.Known.{AreRowsFrom, HasRow, IsRowAt, after_joined, joined, row_of}
use Rattle.view_parts.proofs.Rows.{here_or_not, row_item}
use Rattle.view_parts.proofs.RowParts.{of_joined, some_within}

-- where the view has the first item of a row and a later one as far behind it, it has those of parts between them
pub row_in_view : (view : List ℕ) (first id behind end : ℕ) (row : KnownRow) → Increase view → first + behind < length view → get_or view first 0 ≡ id → get_or view (first + behind) 0 ≡ id + behind → id < row.end → row.end ≤ id + behind → end ≡ first + (row.end - id)
    → HasRow view first end id row
row_in_view view first id behind end row increase below at far some upto is = record {
  some = some;
  ends = is;
  items = λ k short. row_item view first id behind increase below at far k (omega (arith, short, upto, some));
}

pub some_row_is : (a b : KnownRow) → Some a ≡ Some b → a ≡ b
some_row_is a b e = cc

-- what is noted for one item changes no other row
pub rows_set : (knowns : List KnownEnd) (view : List ℕ) (first end at : ℕ) (known : KnownEnd) → at < length knowns → IsRowAt view first end at known → AreRowsFrom knowns view first end (slice_set knowns at known)
rows_set knowns view first end at known within has id row is =
    elim (here_or_not at id) [
      | inl e ↦
          let here : get_or (slice_set knowns at known) id Unknown ≡ known = ap (λ k. get_or (slice_set knowns at known) k Unknown) (sym e) ∙ get_or-set_same knowns at known Unknown within in
          inr (subst (λ n. HasRow view first end n row) e (has row (sym (ap (λ (k : KnownEnd). row_of k) here) ∙ is)))
      | inr other ↦
          let there : get_or (slice_set knowns at known) id Unknown ≡ get_or knowns id Unknown = get_or-set_other knowns at id known Unknown (λ e. other (sym e)) in
          inl (sym (ap (λ (k : KnownEnd). row_of k) there) ∙ is)
    ]

-- this holds of where each row that is noted begins and ends
abbrev pub HoldsOfRows : (ℕ → ℕ → Type 0) → List KnownEnd → Type 0
HoldsOfRows Holds knowns = (id : ℕ) (row : KnownRow) → row_of (get_or knowns id Unknown) ≡ Some row → Holds id row.end

rows_of_set : (Holds : ℕ → ℕ → Type 0) (knowns : List KnownEnd) (at : ℕ) (made : KnownRow) → at < length knowns → Holds at made.end → HoldsOfRows Holds knowns → HoldsOfRows Holds (slice_set knowns at (InRows made))
rows_of_set Holds knowns at made within so all id row is =
    let known = InRows made in
    elim (here_or_not at id) [
      | inl e ↦
          let here : get_or (slice_set knowns at known) id Unknown ≡ known = ap (λ k. get_or (slice_set knowns at known) k Unknown) (sym e) ∙ get_or-set_same knowns at known Unknown within in
          let same : made ≡ row = some_row_is made row (sym (ap (λ (k : KnownEnd). row_of k) here) ∙ is) in
          subst (λ (r : KnownRow). Holds id r.end) same (subst (λ n. Holds n made.end) e so)
      | inr other ↦
          let there : get_or (slice_set knowns at known) id Unknown ≡ get_or knowns id Unknown = get_or-set_other knowns at id known Unknown (λ e. other (sym e)) in
          all id row (sym (ap (λ (k : KnownEnd). row_of k) there) ∙ is)
    ]

-- what holds of the rows that are noted, and of two behind one another as one, holds of them once two are joined
pub joined_hold : (Holds : ℕ → ℕ → Type 0) (knowns : List KnownEnd) (first next : ℕ) → ((a b c : ℕ) → Holds a b → Holds b c → Holds a c) → HoldsOfRows Holds knowns → HoldsOfRows Holds (after_joined knowns first next)
joined_hold Holds knowns first next both all = by_made (joined (get_or knowns first Unknown) next (get_or knowns next Unknown)) refl
  where
    by_made : (made : Option KnownRow) → joined (get_or knowns first Unknown) next (get_or knowns next Unknown) ≡ made
        → HoldsOfRows Holds (elim made [ None ↦ knowns | Some row ↦ slice_set knowns first (InRows row) ])
    by_made None is = all
    by_made (Some made) is =
        let two = of_joined (get_or knowns first Unknown) next (get_or knowns next Unknown) made is in
        let here : Holds first two.row.end = all first two.row two.row_is in
        let later : Holds two.row.end two.behind.end = subst (λ n. Holds n two.behind.end) (sym two.follows) (all next two.behind two.behind_is) in
        let so : Holds first made.end = subst (λ (r : KnownRow). Holds first r.end) two.made_is (both first two.row.end two.behind.end here later) in
        rows_of_set Holds knowns first made (some_within knowns first two.row two.row_is) so all
