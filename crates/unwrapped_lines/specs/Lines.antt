-- The unwrapped lines of a view.
use Rattle.std.specs.Prelude.{ℕ, ◌-◌, Option, List, [], ◌∷◌, length}
use Rattle.style_table.specs.declared.style.Style.{Style}
use Rattle.token_arena.specs.Gaps.{Contents}
use Rattle.token_classes.specs.Partners.{partners_of}
use Rattle.item_classes.specs.Viewed.{classes_of}
use Rattle.line_tokens.specs.declared.line.ULine.{ULine}
use Rattle.unwrapped_lines.specs.declared.part.Begin.{Begin}
use Rattle.statement_lines.specs.Wrapping.{braces_of}
use Rattle.unwrapped_lines.specs.Viewed.{code_tokens, parts_of}
use Rattle.statement_lines.specs.Tree.{lines_of, end_level}
use Rattle.unwrapped_lines.specs.Comments.{Tree, begins_from, no_marks}

-- the line that begins so and goes up to a place
abbrev pub line_up_to : ℕ → Begin → ULine
line_up_to end b = record { first = b.first; last = end - 1; level = b.level; kind = b.kind }

-- each line goes up to the next one, and the last to the view's end
abbrev pub lines_between : ℕ → List Begin → List ULine
lines_between count [] = []
lines_between count (b ∷ []) = line_up_to count b ∷ []
lines_between count (b ∷ next ∷ bs) = line_up_to next.first b ∷ lines_between count (next ∷ bs)

-- the lines of a view's tokens that are no comments, and the level at its end
abbrev pub tree_of : Style → Contents → List ℕ → List (Option ℕ) → Tree
tree_of style arena ids partners =
    let tokens = code_tokens arena ids (classes_of arena ids) partners in
    record {
      lines = lines_of (braces_of style) tokens;
      total = length tokens;
      end_level = end_level (braces_of style) tokens;
    }

-- the unwrapped lines of a view with these partners
abbrev pub unwrapped_lines_of : Style → Contents → List ℕ → List (Option ℕ) → List ULine
unwrapped_lines_of style arena ids partners =
    lines_between (length ids)
    (begins_from (tree_of style arena ids partners) (parts_of arena ids (classes_of arena ids)) 0 no_marks)

-- the unwrapped lines of these items
abbrev pub lines_of_items : Style → Contents → List ℕ → List ULine
lines_of_items style arena ids = unwrapped_lines_of style arena ids (partners_of (classes_of arena ids))
