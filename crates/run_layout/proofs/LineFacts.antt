-- A line as it is broken, as the code reads it.
use Rattle.std.proofs.Common.{◌≡◌, ◌∙◌, ℕ, zero, suc, ◌+◌, ◌-◌, ◌<◌, Option, Some, None, List, [], ◌∷◌, length, map}
use Rattle.std.proofs.Common.{get_or, take, drop, refl, sym, ap, arith, slice_get}
use Rattle.std.proofs.lemmas.List.{take-map, drop-map}
use Rattle.line_state.specs.Choices.{IsLeast}
use Rattle.line_state.proofs.Thrift.{thrifty_least}
use Rattle.style_table.specs.declared.style.Style.{Style}
use Rattle.line_tokens.specs.declared.LineTok.{LineTok}
use Rattle.line_tokens.specs.declared.Fixed.{Fixed}
use Rattle.line_tokens.specs.Columns.{stored_or, end_of}
use Rattle.line_state.specs.Layout.{Layout}
use Rattle.line_state.specs.Line.{Step, gaps, joined, first_layout}
use Rattle.line_state.proofs.Steps.{first_index, functional}
use Rattle.token_arena.specs.Gaps.{Contents}
use Rattle.line_tokens.specs.declared.line.ULine.{ULine}
use Rattle.layout_tables.specs.Indents.{start_column}
use Rattle.replacements.specs.declared.slot.Slot.{Slot}
use Rattle.replacements.specs.Breaks.{fixed_by}
use Rattle.replacements.specs.Decisions.{slot_of}
use Rattle.line_tokens.specs.Tokens.{no_token}
use Rattle.run_layout.specs.Tells.{StandForItems}
use Rattle.run_layout.specs.Broken.{number, of_line, broken_line, inside_made}
use Rattle.line_gaps.specs.Fixed.{fixed_of_token}
use Rattle.run_layout.specs.OneRow.{AreOpenInside, IsRow, IsRowLine, row_made, stays}
use Rattle.run_layout.proofs.OneRow.{AreNumbers, row_is_made}
use Rattle.run_layout.proofs.RowSteps.{row_begins}

-- ## Numbers

same_numbers : (ids : List ℕ) (toks : List LineTok) → length toks ≡ length ids → ((k : ℕ) → k < length ids → (get_or toks k no_token).id.0 ≡ get_or ids k 0) → map number toks ≡ ids
same_numbers [] [] many same = refl
same_numbers [] (t ∷ toks) many same = absurd (omega (arith, many))
same_numbers (id ∷ ids) [] many same = absurd (omega (arith, many))
same_numbers (id ∷ ids) (t ∷ toks) many same =
    ap (λ x. x ∷ map number toks) (same 0 (omega arith))
    ∙ ap (λ (xs : List ℕ). id ∷ xs) (same_numbers ids toks (omega (arith, many)) (λ k below. same (suc k) (omega (arith, below))))

-- the tokens of a view have the numbers of its items
pub numbers_are : (arena : Contents) (ids : List ℕ) (toks : List LineTok) → StandForItems arena ids toks → map number toks ≡ ids
numbers_are arena ids toks tell = same_numbers ids toks tell.as_many (λ k below. (tell.items k below).number)

-- and those of a line those of the line's items
pub line_numbers : (arena : Contents) (ids : List ℕ) (toks : List LineTok) (line : ULine) → StandForItems arena ids toks → map number (of_line line toks) ≡ of_line line ids
line_numbers arena ids toks line tell =
    let n : ℕ = line.last + 1 - line.first in
    sym (take-map number n (drop line.first toks)) ∙ (ap (λ (xs : List ℕ). take n xs) (sym (drop-map number line.first toks)) ∙ ap (λ (xs : List ℕ). of_line line xs) (numbers_are arena ids toks tell))

number_at : (tokens : List LineTok) (i : ℕ) (token : LineTok) → slice_get tokens i ≡ Some token → get_or (map number tokens) i 0 ≡ token.id.0
number_at [] i token e = cc
number_at (t ∷ tokens) zero token e = let same : t ≡ token = cc in ap number same
number_at (t ∷ tokens) (suc i) token e = number_at tokens i token e

pub line_has_numbers : (arena : Contents) (ids : List ℕ) (toks : List LineTok) (line : ULine) → StandForItems arena ids toks → AreNumbers (of_line line ids) (of_line line toks)
line_has_numbers arena ids toks line tell = λ i token e. ap (λ (xs : List ℕ). get_or xs i 0) (sym (line_numbers arena ids toks line tell)) ∙ number_at (of_line line toks) i token e

-- ## What is decided of its gaps

map_numbers : {B : Type 0} (f : ℕ → B) (tokens : List LineTok) → map f (map number tokens) ≡ map (λ t. f t.id.0) tokens
map_numbers {B} f [] = refl
map_numbers {B} f (t ∷ tokens) = ap (λ (xs : List B). f t.id.0 ∷ xs) (map_numbers f tokens)

pub fixed_are : (arena : Contents) (ids : List ℕ) (toks : List LineTok) (plan : List (Option Slot)) (line : ULine) → StandForItems arena ids toks
    → map (λ id. fixed_by arena id (slot_of plan id)) (of_line line ids) ≡ map (fixed_of_token arena plan) (of_line line toks)
fixed_are arena ids toks plan line tell =
    ap (λ (xs : List ℕ). map (λ id. fixed_by arena id (slot_of plan id)) xs) (sym (line_numbers arena ids toks line tell)) ∙ map_numbers (λ id. fixed_by arena id (slot_of plan id)) (of_line line toks)

-- ## A line whose inner gaps are open

inside_open : (arena : Contents) (plan : List (Option Slot)) (tokens : List LineTok) (i : ℕ) → ((token : LineTok) → slice_get tokens i ≡ Some token → slot_of plan token.id.0 ≡ None)
    → joined (slice_get (map (fixed_of_token arena plan) tokens) i) ≡ None
inside_open arena plan [] i none = refl
inside_open arena plan (t ∷ tokens) zero none = ap (λ (o : Option Slot). fixed_by arena t.id.0 o) (none t refl)
inside_open arena plan (t ∷ tokens) (suc i) none = inside_open arena plan tokens i (λ token e. none token e)

first_fixed : (arena : Contents) (plan : List (Option Slot)) (tokens : List LineTok) (token : LineTok) → slice_get tokens 0 ≡ Some token → joined (slice_get (map (fixed_of_token arena plan) tokens) 0) ≡ fixed_of_token arena plan token
first_fixed arena plan [] token e = cc
first_fixed arena plan (t ∷ tokens) token e = let same : t ≡ token = cc in ap (fixed_of_token arena plan) same

-- such a line, as it is tested for standing on one row
pub is_row_line : (style : Style) (arena : Contents) (ids : List ℕ) (toks : List LineTok) (plan : List (Option Slot)) (line : ULine) (token : LineTok) → StandForItems arena ids toks
    → slice_get (of_line line toks) 0 ≡ Some token → AreOpenInside plan (of_line line toks)
    → IsRowLine (broken_line style arena ids toks plan line) style (start_column style line) (of_line line toks) (fixed_of_token arena plan token)
is_row_line style arena ids toks plan line token tell at inside = record {
  style_is = refl;
  column_is = refl;
  tokens_are = refl;
  first_is = ap (λ (xs : List (Option Fixed)). joined (slice_get xs 0)) (fixed_are arena ids toks plan line tell) ∙ first_fixed arena plan (of_line line toks) token at;
  inside = λ i some.
      ap (λ (xs : List (Option Fixed)). joined (slice_get xs i)) (fixed_are arena ids toks plan line tell) ∙ inside_open arena plan (of_line line toks) i (λ t e. inside i t some e);
}

-- its decisions, token by token
pub row_decides : (style : Style) (arena : Contents) (ids : List ℕ) (toks : List LineTok) (plan : List (Option Slot)) (line : ULine) (budget start behind : ℕ) (token : LineTok) → StandForItems arena ids toks
    → 0 < length (of_line line toks) → slice_get (of_line line toks) 0 ≡ Some token → AreOpenInside plan (of_line line toks) → IsRow (broken_line style arena ids toks plan line) budget
    → start ≡ stored_or (fixed_of_token arena plan token) (start_column style line) → behind ≡ end_of token start
    → inside_made line (of_line line ids) (broken_line style arena ids toks plan line) (first_layout (broken_line style arena ids toks plan line)) (stays (gaps (broken_line style arena ids toks plan line)))
    ≡ row_made style behind token (drop 1 (of_line line toks))
row_decides style arena ids toks plan line budget start behind token tell some at inside row starts ends =
    let l = broken_line style arena ids toks plan line in
    let is = is_row_line style arena ids toks plan line token tell at inside in
    let s : Layout = first_layout l in
    let w = row_begins l style (start_column style line) (of_line line toks) (fixed_of_token arena plan token) is token start behind _ _ some at starts ends refl refl in
    let column : s.column ≡ behind = ap (λ (x : Layout). x.column) (sym w.thrifty) ∙ w.column_is in
    let index : s.index ≡ 1 = first_index l some in
    let before : s.index - 1 ≡ 0 = omega (arith, index) in
    let least : IsLeast (Step l) s (gaps l) (stays (gaps l)) 0 = thrifty_least (Step l) (functional l) s row.straight.layout (gaps l) (stays (gaps l)) row.straight.count row.straight.thrifty in
    row_is_made line (of_line line ids) l s least.reaches.0 0 (gaps l) token is.inside (line_has_numbers arena ids toks line tell) least.reaches.1 (omega (arith, index)) (omega (arith, index, some)) (ap (λ i. slice_get (of_line line toks) i) before ∙ at)
    ∙ (ap (λ x. row_made style x token (drop s.index (of_line line toks))) column ∙ ap (λ i. row_made style behind token (drop i (of_line line toks))) index)
