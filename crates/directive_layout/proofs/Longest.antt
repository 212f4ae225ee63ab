-- Where the padding of a style doesn't ask where the longest spliced row ends, nothing that is decided does.
use Rattle.std.proofs.Common.{◌≡◌, ◌∙◌, ℕ, zero, suc, ◌+◌, ◌*◌, List, [], ◌∷◌, Option, Some, None, refl, ap}
use Rattle.std.specs.Prelude.{if◌then◌else◌}
use Rattle.c_chars.specs.declared.Dialect.{Dialect}
use Rattle.line_tokens.specs.declared.LineTok.{LineTok}
use Rattle.token_arena.specs.Stored.{Stored}
use Rattle.style_table.specs.declared.style.Style.{Style}
use Rattle.replacements.specs.declared.gap_text.Decision.{Decision}
use Rattle.replacements.specs.declared.gap_text.Decision.TheVariants.{Old, Spaces, Splice}
use Rattle.directive_layout.specs.Heads.{head_spaces, spaced}
use Rattle.directive_layout.specs.Staying.{stays}
use Rattle.directive_layout.specs.Operands.{pad_by, row_level, operand_spaces, decision_for, inner_decision}
use Rattle.directive_layout.specs.Laid.{slot_for, next_walk, inner_from}
use Rattle.directive_layout.specs.declared.staying.Staying.{Staying}
use Rattle.directive_layout.specs.declared.walk.Walk.{Walk}

abbrev pub AsksForNone : Style → Type 0
AsksForNone style = (longest column : ℕ) → pad_by style.align_escaped_newlines style.column_limit longest column ≡ pad_by style.align_escaped_newlines style.column_limit 0 column

decided_any : (style : Style) (d : Dialect) (longest column braces : ℕ) (left token : Stored) (count : Option ℕ) (spaces : ℕ) → AsksForNone style →
    decision_for style d longest column braces left token count spaces ≡ decision_for style d 0 column braces left token count spaces
decided_any style d longest column braces left token (Some count) spaces none = refl
decided_any style d longest column braces left token None spaces none =
    ap (λ pad. if token.gap.splice then Splice pad (row_level d braces token * style.indent_width) else Spaces (spaced d left token spaces)) (none longest column)

decision_any : (style : Style) (d : Dialect) (depth : ℕ) (staying : Staying) (toks : List LineTok) (longest : ℕ) (walk : Walk) (left token : Stored) → AsksForNone style →
    inner_decision style d depth staying toks longest walk left token ≡ inner_decision style d depth staying toks 0 walk left token
decision_any style d depth staying toks longest walk left token none =
    ap (λ (z : Decision). if stays d staying walk.part token then Old else z)
    (decided_any style d longest walk.column walk.braces left token (head_spaces style d depth walk.part left token) (operand_spaces style toks walk.part token walk.index) none)

pub laid_any : (style : Style) (d : Dialect) (depth : ℕ) (staying : Staying) (toks : List LineTok) (longest place : ℕ) (walk : Walk) (left : Stored) (tokens : List Stored) (count : ℕ) → AsksForNone style →
    inner_from style d depth staying toks longest place walk left tokens count ≡ inner_from style d depth staying toks 0 place walk left tokens count
laid_any style d depth staying toks longest place walk left tokens zero none = refl
laid_any style d depth staying toks longest place walk left [] (suc count) none = refl
laid_any style d depth staying toks longest place walk left (token ∷ tokens) (suc count) none =
    let decision = inner_decision style d depth staying toks 0 walk left token in
    ap (λ (z : Decision). (place, slot_for z) ∷ inner_from style d depth staying toks longest (place + 1) (next_walk d walk left token z) token tokens count) (decision_any style d depth staying toks longest walk left token none)
    ∙ ap (λ z. (place, slot_for decision) ∷ z) (laid_any style d depth staying toks longest (place + 1) (next_walk d walk left token decision) token tokens count none)
