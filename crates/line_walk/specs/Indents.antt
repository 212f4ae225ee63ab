-- Where tokens start, by the columns of the frames alone.
use Rattle.std.specs.Prelude.{◌≡◌, ◌-◌, ◌&&◌, ◌||◌, not, nat_le, ℕ, Bool, Option, List, ◌∷◌, length, map}
use Rattle.std.specs.Prelude.{slice_index_or, if◌then◌else◌}
use Rattle.line_tokens.specs.Columns.{columns, stored_or}
use Rattle.line_tokens.specs.Roles.{is_decl_name, is_list_close}
use Rattle.line_tokens.specs.declared.Fixed.{Fixed}
use Rattle.line_tokens.specs.declared.LineTok.{LineTok}
use Rattle.line_tokens.specs.declared.role.Role.{Role}
use Rattle.style_table.specs.declared.style.Style.{Style}
use Rattle.line_state.specs.Brackets.{opens_frame, is_dont_align}
use Rattle.line_state.specs.Layout.{Layout}
use Rattle.line_walk.specs.declared.starts.TokenStarts.{TokenStarts}

-- what tells where the next token starts has the columns of a layout: that behind its last token, that at which the
-- line starts, and those of its frames
pub record TellStarts (style : Style) (starts : TokenStarts) (layout : Layout) : Type 0 where
  pub column : starts.column ≡ layout.column
  pub line : starts.line ≡ layout.base.base
  pub outside : columns starts.line style.continuation_indent_width ≡ layout.base.indent
  pub indents : starts.indents.items ≡ map (λ frame. frame.indent) layout.frames
  pub bases : starts.indents.items ≡ map (λ frame. frame.base) layout.frames

-- where a token begins a row in a line that starts here, by the columns of the brackets that are open before it
abbrev pub row_start : Style → ℕ → List ℕ → Role → ℕ
row_start style line indents role =
    if is_decl_name role then line
    else (if is_list_close role then slice_index_or (line ∷ indents) (length indents - 1) line
    else slice_index_or indents (length indents - 1) (columns line style.continuation_indent_width))

-- where it starts, behind a column
abbrev pub next_start : Style → ℕ → List ℕ → ℕ → Role → Option Fixed → ℕ → Bool → ℕ
next_start style line indents column role fixed spaces brk =
    stored_or fixed (if brk then row_start style line indents role else columns column spaces)

-- the token before opened the innermost of so many brackets, and rows in it begin where the token behind it starts
abbrev pub is_aligned : Style → ℕ → LineTok → LineTok → Bool → Bool
is_aligned style count left right brk =
    (opens_frame left.role && nat_le count right.depth) && not (brk || is_dont_align style.align_after_open_bracket)
