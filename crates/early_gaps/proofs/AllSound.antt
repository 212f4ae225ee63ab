-- What is decided for all directives may stand.
use Rattle.std.proofs.Common.{◌≡◌, ◌∙◌, ℕ, suc, Bool, Option, List, [], ◌∷◌, refl, sym, ap, subst, arith}
use Rattle.std.specs.List.{Contains}
use Rattle.style_table.specs.declared.style.Style.{Style}
use Rattle.token_arena.specs.Gaps.{Contents}
use Rattle.token_arena.specs.Holds.{HoldsItems}
use Rattle.token_arena.specs.Nesting.{nesting_of}
use Rattle.token_arena.specs.Sections.{sections_of}
use Rattle.token_arena.specs.declared.directives.nesting.Nesting.{Nesting}
use Rattle.token_arena.specs.declared.directives.Directive.{Directive}
use Rattle.token_arena.specs.declared.directives.Section.{Section}
use Rattle.token_arena.specs.declared.directives.Section.TheVariants.{Text, Dir}
use Rattle.replacements.specs.declared.slot.Slot.{Slot}
use Rattle.replacements.specs.Decisions.{decided_all}
use Rattle.replacements.specs.Sound.{IsSound}
use Rattle.directive_layout.specs.Laid.{laid}
use Rattle.directive_layout.proofs.Sound.{stay_sound}
use Rattle.line_gaps.proofs.Walked.{decided_all-append}
use Rattle.early_gaps.specs.Depths.{depth_in, open_behind}
use Rattle.early_gaps.specs.Roles.{operand_roles}
use Rattle.early_gaps.specs.AllLaid.{laid_in}
use Rattle.early_gaps.specs.AllStay.{AllDirectivesStaySound}

first_there : (section : Section) (sections : List Section) → Contains (section ∷ sections) section
first_there section sections = (0, omega arith, refl)

later_there : (section found : Section) (sections : List Section) → Contains sections found → Contains (section ∷ sections) found
later_there section found sections there = (suc there.0, omega (arith, there.1), there.2)

-- sections of the text
sections_sound : (style : Style) (arena : Contents) (conditionals : List Bool) (sections : List Section) (plan : List (Option Slot)) → HoldsItems arena → ((section : Section) → Contains sections section → Contains (sections_of arena) section) → IsSound arena plan →
    IsSound arena (decided_all plan (laid_in style arena conditionals sections))
sections_sound style arena conditionals [] plan holds among sound = sound
sections_sound style arena conditionals (Text first end ∷ sections) plan holds among sound =
    sections_sound style arena conditionals sections plan holds (λ section there. among section (later_there (Text first end) section sections there)) sound
sections_sound style arena conditionals (Dir dir ∷ sections) plan holds among sound =
    let made = laid style arena (depth_in (nesting_of dir.kind) conditionals) (operand_roles style arena dir) dir in
    let one : IsSound arena (decided_all plan made) = stay_sound style arena (depth_in (nesting_of dir.kind) conditionals) (operand_roles style arena dir) dir plan holds (among (Dir dir) (first_there (Dir dir) sections)) sound in
    let later : IsSound arena (decided_all (decided_all plan made) (laid_in style arena (open_behind (nesting_of dir.kind) conditionals) sections)) =
    sections_sound style arena (open_behind (nesting_of dir.kind) conditionals) sections (decided_all plan made) holds (λ section there. among section (later_there (Dir dir) section sections there)) one in
    subst (IsSound arena) (sym (decided_all-append plan made (laid_in style arena (open_behind (nesting_of dir.kind) conditionals) sections))) later

-- The law.
pub all_stay_sound : AllDirectivesStaySound
all_stay_sound style arena plan holds sound = sections_sound style arena [] (sections_of arena) plan holds (λ section there. there) sound

-- ## A step of the loop

pub section_step : (style : Style) (arena : Contents) (conditionals behind : List Bool) (nesting : Nesting) (section : Section) (dir : Directive) (depth : ℕ) (plan new : List (Option Slot)) (later : List Section) →
    section ≡ Dir dir → nesting ≡ nesting_of dir.kind → depth ≡ depth_in nesting conditionals → behind ≡ open_behind nesting conditionals → new ≡ decided_all plan (laid style arena depth (operand_roles style arena dir) dir) →
    decided_all new (laid_in style arena behind later) ≡ decided_all plan (laid_in style arena conditionals (section ∷ later))
section_step style arena conditionals behind nesting section dir depth plan new later section_is nesting_is depth_is behind_is new_is =
    let roles = operand_roles style arena dir in
    let this = nesting_of dir.kind in
    let depth_so : depth ≡ depth_in this conditionals = depth_is ∙ ap (λ n. depth_in n conditionals) nesting_is in
    let behind_so : behind ≡ open_behind this conditionals = behind_is ∙ ap (λ n. open_behind n conditionals) nesting_is in
    let made : new ≡ decided_all plan (laid style arena (depth_in this conditionals) roles dir) = new_is ∙ ap (λ n. decided_all plan (laid style arena n roles dir)) depth_so in
    ap (λ p. decided_all p (laid_in style arena behind later)) made
    ∙ ap (λ k. decided_all (decided_all plan (laid style arena (depth_in this conditionals) roles dir)) (laid_in style arena k later)) behind_so
    ∙ sym (decided_all-append plan (laid style arena (depth_in this conditionals) roles dir) (laid_in style arena (open_behind this conditionals) later))
    ∙ ap (λ s. decided_all plan (laid_in style arena conditionals (s ∷ later))) (sym section_is)
