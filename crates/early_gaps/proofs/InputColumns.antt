-- Columns of the input.
use Rattle.std.proofs.Common.{◌≡◌, ◌∙◌, ◌==◌, ◌⊎◌, inl, inr, ℕ, zero, suc, ◌+◌, Bool, true, false, List, [], ◌∷◌, refl}
use Rattle.std.proofs.Common.{ap, arith, ◌||◌}
use Rattle.std.specs.List.{list_any}
use Rattle.std.proofs.lemmas.Bool.{false≢true}
use Rattle.token_arena.specs.Gaps.{Contents, gap_of}
use Rattle.line_gaps.specs.InputColumns.{column_past, column_through}
use Rattle.line_gaps.specs.Rows.{column_behind}
use Rattle.item_classes.specs.Items.{item_at}
use Rattle.early_gaps.specs.Columns.{column_at}

-- a line end, or another byte before one
one_byte : (tab a b byte : ℕ) (gap : List ℕ) (new : Bool) → (byte == 10) ≡ new
    → (list_any (λ c. c == 10) gap ≡ true → column_through tab (column_past tab a byte) gap ≡ column_through tab (column_past tab b byte) gap)
    → (new || list_any (λ c. c == 10) gap) ≡ true → column_through tab (column_past tab a byte) gap ≡ column_through tab (column_past tab b byte) gap
one_byte tab a b byte gap true is later ends = rw is refl
one_byte tab a b byte gap false is later ends = later ends

-- Behind the end of a row it makes no difference where the gap began.
pub through_row_end : (tab a b : ℕ) (gap : List ℕ) → list_any (λ c. c == 10) gap ≡ true → column_through tab a gap ≡ column_through tab b gap
through_row_end tab a b [] ends = absurd (false≢true ends)
through_row_end tab a b (byte ∷ gap) ends = one_byte tab a b byte gap (byte == 10) refl (through_row_end tab (column_past tab a byte) (column_past tab b byte) gap) ends

-- Where a row ends in the gap, nothing before the gap counts.
pub column_of_row : (tab : ℕ) (arena : Contents) (place : ℕ) → list_any (λ b. b == 10) (gap_of arena place) ≡ true → column_through tab 0 (gap_of arena place) ≡ column_at tab arena place
column_of_row tab arena zero ends = refl
column_of_row tab arena (suc place) ends = through_row_end tab 0 (column_behind (column_at tab arena place) (item_at arena place)) (gap_of arena (suc place)) ends

pub column_begun : (tab : ℕ) (arena : Contents) (first known : ℕ) → (first ≡ known → ⊥) → (first ≡ known) ⊎ (list_any (λ b. b == 10) (gap_of arena first) ≡ true) → column_through tab 0 (gap_of arena first) ≡ column_at tab arena first
column_begun tab arena first known other (inl same) = absurd (other same)
column_begun tab arena first known other (inr ends) = column_of_row tab arena first ends

-- the column behind the next item
pub column_next : (tab : ℕ) (arena : Contents) (place column next : ℕ) → column ≡ column_at tab arena place
    → next ≡ column_through tab (column_behind column (item_at arena place)) (gap_of arena (place + 1)) → next ≡ column_at tab arena (place + 1)
column_next tab arena place column next at is =
    let more : place + 1 ≡ suc place = omega arith in
    is ∙ ap (λ x. column_through tab (column_behind x (item_at arena place)) (gap_of arena (place + 1))) at ∙ rw more refl
