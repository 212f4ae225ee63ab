-- A line of a run that stays on one row.
use Rattle.std.proofs.Common.{◌≡◌, ◌∙◌, ℕ, ◌+◌, ◌-◌, ◌<◌, ◌≤◌, Option, Some, List, length, get_or, drop, sym, ap, arith}
use Rattle.std.proofs.Common.{subst, slice_get}
use Rattle.std.specs.Prelude.{All}
use Rattle.std.proofs.lemmas.List.{get_or_default}
use Rattle.std.proofs.lemmas.Option.{get_or_from_slice_get}
use Rattle.style_table.specs.declared.style.Style.{Style}
use Rattle.line_tokens.specs.declared.GapFacts.{GapFacts}
use Rattle.line_tokens.specs.declared.LineTok.{LineTok}
use Rattle.line_tokens.specs.declared.Fixed.{Fixed}
use Rattle.line_tokens.specs.Columns.{stored_or, end_of}
use Rattle.line_state.specs.Line.{Line, gaps, first_layout}
use Rattle.token_arena.specs.Gaps.{Contents}
use Rattle.item_classes.specs.Viewed.{AreWithin}
use Rattle.line_tokens.specs.declared.line.ULine.{ULine}
use Rattle.layout_tables.specs.Indents.{start_column}
use Rattle.replacements.specs.declared.slot.Slot.{Slot}
use Rattle.replacements.specs.Decisions.{decided, decided_all}
use Rattle.line_tokens.specs.Tokens.{no_token}
use Rattle.run_layout.specs.Tells.{StandForItems}
use Rattle.line_gaps.specs.Fixed.{fixed_of_token}
use Rattle.run_layout.specs.Broken.{of_line, broken_line, broken_made, inside_made}
use Rattle.line_gaps.specs.Rows.{first_slot, item_before, start_behind}
use Rattle.line_gaps.proofs.FirstRows.{row_at_once}
use Rattle.item_classes.specs.Items.{item_at}
use Rattle.replacements.specs.declared.gap_text.Decision.{Decision}
use Rattle.replacements.specs.declared.gap_text.Decision.TheVariants.{Lines}
use Rattle.std.proofs.lemmas.Bool.{ne_eqb}
use Rattle.run_layout.specs.OneRow.{AreOpenInside, IsRow, IsRowLine, row_made, stays}
use Rattle.run_layout.proofs.BrokenLines.{get_or_of_line, length_of_line}
use Rattle.run_layout.proofs.LineFacts.{is_row_line, line_has_numbers, row_decides}

-- the tokens of a line are of items of the text
pub tokens_within : (arena : Contents) (ids : List ℕ) (toks tokens : List LineTok) (line : ULine) (count : ℕ) → AreWithin arena ids → StandForItems arena ids toks → line.last < length ids → count ≡ length arena.tokens + 1 → tokens ≡ of_line line toks
    → All (λ token. token.id.0 < count) tokens
tokens_within arena ids toks tokens line count items tell within whole is = subst (λ (xs : List LineTok). All (λ token. token.id.0 < count) xs) (sym is) (λ k d below.
    let size : length (of_line line toks) ≡ line.last + 1 - line.first = length_of_line line toks (omega (arith, within, tell.as_many)) in
    let inside : k < line.last + 1 - line.first = omega (arith, below, size) in
    let place : line.first + k < length ids = omega (arith, inside, within) in
    let at : get_or (of_line line toks) k d ≡ get_or toks (line.first + k) no_token = get_or_default (of_line line toks) k d no_token below ∙ get_or_of_line line toks k no_token inside in
    let number : (get_or (of_line line toks) k d).id.0 ≡ get_or ids (line.first + k) 0 = ap (λ (t : LineTok). t.id.0) at ∙ (tell.items (line.first + k) place).number in
    let small : get_or ids (line.first + k) 0 < length arena.tokens = items (line.first + k) 0 place in
    omega (arith, number, small, whole))

-- the first of them has the number of the line's first item
pub first_number : (arena : Contents) (ids : List ℕ) (toks tokens : List LineTok) (line : ULine) (token : LineTok) → StandForItems arena ids toks → line.first ≤ line.last → tokens ≡ of_line line toks → slice_get tokens 0 ≡ Some token
    → get_or ids line.first 0 ≡ token.id.0
first_number arena ids toks tokens line token tell some is at =
    let here : line.first + 0 ≡ line.first = omega arith in
    let first : slice_get (of_line line toks) 0 ≡ Some token = ap (λ (xs : List LineTok). slice_get xs 0) (sym is) ∙ at in
    ap (λ x. get_or ids x 0) (sym here) ∙ (sym (get_or_of_line line ids 0 0 (omega (arith, some))) ∙ line_has_numbers arena ids toks line tell 0 token first)

-- and tells its gap
pub first_lines : (arena : Contents) (ids : List ℕ) (toks tokens : List LineTok) (line : ULine) → StandForItems arena ids toks → line.first ≤ line.last → line.last < length ids → tokens ≡ of_line line toks
    → (get_or tokens 0 no_token).gap.lines ≡ (item_at arena (get_or ids line.first 0)).gap.lines
first_lines arena ids toks tokens line tell some within is =
    let here : line.first + 0 ≡ line.first = omega arith in
    let first : get_or tokens 0 no_token ≡ get_or toks line.first no_token =
    ap (λ (xs : List LineTok). get_or xs 0 no_token) is ∙ (get_or_of_line line toks 0 no_token (omega (arith, some)) ∙ ap (λ x. get_or toks x no_token) here) in
    ap (λ (t : LineTok). t.gap.lines) first ∙ ap (λ (g : GapFacts). g.lines) (tell.items line.first (omega (arith, some, within))).gap

-- behind no empty line the line's first row begins at once
pub row_slot : (style : Style) (arena : Contents) (ids : List ℕ) (line : ULine) (column : ℕ) → 0 < get_or ids line.first 0 → (item_at arena (get_or ids line.first 0)).gap.lines ≤ 1 → column ≡ start_column style line
    → ◌≡◌ {A = Slot} (record { decision = Lines 1 column line.level; end = column }) (first_slot style arena ids line)
row_slot style arena ids line column later near is =
    let starts : ◌≡◌ {A = Slot} (record { decision = Lines 1 column line.level; end = column }) (record { decision = Lines 1 (start_column style line) line.level; end = start_column style line }) =
    ap (λ x. record { decision = Lines 1 x line.level; end = x }) is in
    let at_once = row_at_once style arena line (item_before ids line.first) (get_or ids line.first 0) (ne_eqb (get_or ids line.first 0) 0 (λ e. absurd (omega (arith, e, later)))) near in
    let first : ◌≡◌ {A = Slot} (record { decision = Lines 1 (start_column style line) line.level; end = start_column style line }) (first_slot style arena ids line) =
    ap (λ (d : Decision). record { decision = d; end = start_behind 0 d }) at_once in
    starts ∙ first

module _ (style : Style) (arena : Contents) (ids : List ℕ) (toks : List LineTok) (plan : List (Option Slot)) (line : ULine) (budget column : ℕ) (tokens : List LineTok) (first : Option Fixed) (token : LineTok) (tell : StandForItems arena ids toks)
    (are : tokens ≡ of_line line toks) (at : slice_get tokens 0 ≡ Some token) (inside : AreOpenInside plan tokens) (column_is : column ≡ start_column style line) (first_is : first ≡ fixed_of_token arena plan token) where
  at_line : slice_get (of_line line toks) 0 ≡ Some token
  at_line = ap (λ (xs : List LineTok). slice_get xs 0) (sym are) ∙ at

  inside_line : AreOpenInside plan (of_line line toks)
  inside_line = subst (λ (xs : List LineTok). AreOpenInside plan xs) are inside

  -- the line is tested as it is broken
  pub row_here : ((l : Line) → IsRowLine l style column tokens first → IsRow l budget) → IsRow (broken_line style arena ids toks plan line) budget
  row_here test =
      let l = broken_line style arena ids toks plan line in
      let is : IsRowLine l style (start_column style line) (of_line line toks) (fixed_of_token arena plan token) = is_row_line style arena ids toks plan line token tell at_line inside_line in
      test l (subst (λ x. IsRowLine l style x tokens first) (sym column_is)
      (subst (λ (xs : List LineTok). IsRowLine l style (start_column style line) xs first) (sym are)
      (subst (λ (o : Option Fixed). IsRowLine l style (start_column style line) (of_line line toks) o) (sym first_is) is)))

  -- and its decisions are those of its least breaking
  pub row_plan : (start behind : ℕ) (after final : List (Option Slot)) → 0 < length tokens → get_or ids line.first 0 ≡ token.id.0 → IsRow (broken_line style arena ids toks plan line) budget → start ≡ stored_or first column → behind ≡ end_of token start
      → after ≡ decided plan token.id.0 (first_slot style arena ids line) → final ≡ decided_all after (row_made style behind (get_or tokens 0 no_token) (drop 1 tokens))
      → final ≡ decided_all plan (broken_made style arena ids toks plan line (stays (gaps (broken_line style arena ids toks plan line))))
  row_plan start behind after final some number row starts ends made written =
      let l = broken_line style arena ids toks plan line in
      let inner : List (ℕ × Slot) = inside_made line (of_line line ids) l (first_layout l) (stays (gaps l)) in
      let start_is : start ≡ stored_or (fixed_of_token arena plan token) (start_column style line) = starts ∙ (ap (λ (o : Option Fixed). stored_or o column) first_is ∙ ap (λ x. stored_or (fixed_of_token arena plan token) x) column_is) in
      let same : inner ≡ row_made style behind token (drop 1 (of_line line toks)) =
      row_decides style arena ids toks plan line budget start behind token tell (subst (λ (xs : List LineTok). 0 < length xs) are some) at_line inside_line row start_is ends in
      let mine : row_made style behind (get_or tokens 0 no_token) (drop 1 tokens) ≡ inner =
      ap (λ (t : LineTok). row_made style behind t (drop 1 tokens)) (get_or_from_slice_get tokens 0 token no_token at) ∙ (ap (λ (xs : List LineTok). row_made style behind token (drop 1 xs)) are ∙ sym same) in
      written ∙ (ap (λ (m : List (ℕ × Slot)). decided_all after m) mine
      ∙ (ap (λ (p : List (Option Slot)). decided_all p inner) made ∙ ap (λ x. decided_all (decided plan x (first_slot style arena ids line)) inner) (sym number)))
