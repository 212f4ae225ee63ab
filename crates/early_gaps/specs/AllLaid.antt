-- What is decided for the gaps of all directives of a text: docs/PROFILE.md, "Layout of directives".
use Rattle.std.specs.Prelude.{ℕ, Bool, List, [], ◌++◌, ◌∷◌}
use Rattle.token_arena.specs.Gaps.{Contents}
use Rattle.token_arena.specs.Nesting.{nesting_of}
use Rattle.token_arena.specs.Sections.{sections_of}
use Rattle.token_arena.specs.declared.directives.Section.{Section}
use Rattle.token_arena.specs.declared.directives.Section.TheVariants.{Text, Dir}
use Rattle.style_table.specs.declared.style.Style.{Style}
use Rattle.replacements.specs.declared.slot.Slot.{Slot}
use Rattle.directive_layout.specs.Laid.{laid}
use Rattle.early_gaps.specs.Depths.{depth_in, open_behind}
use Rattle.early_gaps.specs.Roles.{operand_roles}

-- the decisions for the directives of these sections, before which these conditionals are open
abbrev pub laid_in : Style → Contents → List Bool → List Section → List (ℕ × Slot)
laid_in style arena conditionals [] = []
laid_in style arena conditionals (Text first end ∷ sections) = laid_in style arena conditionals sections
laid_in style arena conditionals (Dir dir ∷ sections) =
    laid style arena (depth_in (nesting_of dir.kind) conditionals) (operand_roles style arena dir) dir
    ++ laid_in style arena (open_behind (nesting_of dir.kind) conditionals) sections

-- the decisions for all directives of a text, in their order
abbrev pub all_laid : Style → Contents → List (ℕ × Slot)
all_laid style arena = laid_in style arena [] (sections_of arena)
