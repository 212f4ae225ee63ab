-- Lines that stay on one row near the limit, told by the blanks that stand in their gaps.
use Rattle.std.proofs.Common.{◌≡◌, inr, ℕ, suc, ◌+◌, ◌*◌, ◌<◌, ◌≤◌, false, Some, None, List, refl, arith, length, slice_get}
use Rattle.line_tokens.specs.declared.LineTok.{LineTok}
use Rattle.line_tokens.specs.Columns.{columns, end_of}
use Rattle.style_table.specs.declared.style.Style.{Style}
use Rattle.line_state.specs.Line.{Line, first_cost}
use Rattle.layout_tables.specs.Breaks.{gap_rule}
use Rattle.layout_tables.specs.Spaces.{spaces_before}
use Rattle.run_layout.specs.OneRow.{open_behind, IsOneRow, IsRow, IsRowLine}
use Rattle.run_layout.proofs.RowBounds.{frames_within}
use Rattle.run_layout.proofs.RowSteps.{row_begins, row_ends, row_goes_on}

-- A line on one row up to here, behind this column, with no more frames and cells than so many tokens may have.
pub record IsRowTo (l : Line) (n column : ℕ) : Type 0 where
  pub frames : ℕ
  pub count : ℕ
  pub row : IsOneRow l n column frames count
  pub few : frames ≤ n + 1
  pub cheap : count ≤ 1001 * (n + 1)

module _ (l : Line) (style : Style) (at : ℕ) (tokens : List LineTok) (is : IsRowLine l style at tokens None) where
  -- the first token
  pub near_begins : (token : LineTok) → 0 < length tokens → slice_get tokens 0 ≡ Some token → IsRowTo l 0 (end_of token at)
  near_begins token some here = record {
    frames = open_behind 0 token;
    count = open_behind 0 token + 1;
    row = row_begins l style at tokens None is token at (end_of token at) (open_behind 0 token) (open_behind 0 token + 1) some here refl refl refl refl;
    few = omega (arith, frames_within 0 token);
    cheap = omega (arith, frames_within 0 token);
  }

  -- one more token
  pub near_goes_on : (n column start behind : ℕ) (left right : LineTok) → IsRowTo l n column → slice_get tokens n ≡ Some left → slice_get tokens (suc n) ≡ Some right → (gap_rule style left right).must ≡ false
      → start ≡ columns column (spaces_before style left right) → columns start right.first_width ≤ style.column_limit → n + 2 ≤ 1000 → behind ≡ end_of right start → IsRowTo l (n + 1) behind
  near_goes_on n column start behind left right w a b must starts fits short ends =
      let frames : ℕ = open_behind w.frames right in
      let more : frames ≤ w.frames + 1 = frames_within w.frames right in
      record {
        frames = frames;
        count = w.count + (frames + 1);
        row = row_goes_on l style at tokens None is n column w.frames w.count start frames (w.count + (frames + 1)) behind left right w.row a b must starts (inr fits) refl refl ends;
        few = omega (arith, more, w.few);
        cheap = omega (arith, more, w.few, w.cheap, short);
      }

  -- all tokens
  pub near_ends : (budget n column : ℕ) → IsRowTo l n column → suc n ≡ length tokens → length tokens ≤ 1000 → 1001000 ≤ budget → first_cost l ≡ 0 → IsRow l budget
  near_ends budget n column w all short rich free = row_ends l style at tokens None is budget n column w.frames w.count w.row all (omega (arith, w.cheap, all, short, rich)) free
