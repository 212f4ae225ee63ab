-- The roles of a view, told part by part. A part here is what stands between two ends of declarations, behind which the
-- next ones begin on lines of their own.
use Rattle.std.specs.Prelude.{◌≡◌, ℕ, List, [], ◌∷◌, ◌++◌, slice_range}
use Rattle.line_tokens.specs.declared.LineTok.{LineTok}
use Rattle.style_table.specs.declared.style.Style.{Style}
use Rattle.token_arena.specs.Gaps.{Contents}
use Rattle.item_classes.specs.Viewed.{AreWithin}
use Rattle.unwrapped_lines.specs.Lines.{lines_of_items}
use Rattle.annotator.specs.Tokens.{toks_of_lines}
use Rattle.item_classes.specs.Items.{stands_apart}
use Rattle.part_laws.specs.Declarations.{declaration_ends}
use Rattle.part_laws.specs.RolesCut.{with_first_apart}

-- what these items do in their lines
abbrev pub toks_of_items : Style → Contents → List ℕ → List LineTok
toks_of_items style arena ids = toks_of_lines arena ids (lines_of_items style arena ids)

-- the tokens of the parts of a view that end at these places, the first of which begins at this one: those of each by
-- itself, but that its first tells whether a directive stands before it in the view
abbrev pub toks_of_parts : Style → Contents → List ℕ → ℕ → List ℕ → List LineTok
toks_of_parts style arena ids first [] = []
toks_of_parts style arena ids first (end ∷ ends) =
    with_first_apart (stands_apart ids first) (toks_of_items style arena (slice_range ids first end))
    ++ toks_of_parts style arena ids end ends

-- The roles of a view are those of what stands between the ends of its declarations.
abbrev pub RolesStay : Type 0
RolesStay =
    (style : Style) (arena : Contents) (ids : List ℕ) → AreWithin arena ids →
    toks_of_items style arena ids ≡ toks_of_parts style arena ids 0 (declaration_ends arena ids)
