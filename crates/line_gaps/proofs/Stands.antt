-- What stands before the items of a text may stand.
use Rattle.std.proofs.Common.{◌≡◌, ◌==◌, ℕ, zero, suc, ◌+◌, ◌<◌, Bool, true, false, Option, Some, None, List, [], ◌∷◌}
use Rattle.std.proofs.Common.{◌++◌, refl, arith}
use Rattle.std.specs.Prelude.{if◌then◌else◌, slice_get}
use Rattle.std.proofs.lemmas.Bool.{eqb-true}
use Rattle.c_chars.specs.declared.Dialect.{Dialect}
use Rattle.c_grammar.specs.Items.{Place, LineStart}
use Rattle.style_table.specs.declared.style.Style.{Style}
use Rattle.token_arena.specs.Stored.{Stored}
use Rattle.token_arena.specs.Gaps.{Contents}
use Rattle.token_arena.specs.Sections.{sections_of}
use Rattle.replacements.specs.declared.gap_text.Decision.TheVariants.{Old, Spaces, Lines}
use Rattle.item_classes.specs.Viewed.{item_class}
use Rattle.line_tokens.specs.declared.line.ULine.{ULine}
use Rattle.layout_tables.specs.Indents.{start_column}
use Rattle.replacements.specs.declared.stance.Stance.{Stance}
use Rattle.replacements.specs.declared.stance.Stance.TheVariants.{OfText}
use Rattle.replacements.specs.Sound.{MayStandBetween, MayStand, item_before, stance_before, place_before}
use Rattle.replacements.specs.Places.{place_in}
use Rattle.replacements.specs.Stances.{stance_in}
use Rattle.replacements.specs.declared.slot.Slot.{Slot}
pub use Rattle.replacements.proofs.Made.{MadeStand, all_sound}
use Rattle.line_gaps.specs.Rows.{row_token, first_role, is_behind_brace, empty_rows, first_decision}

-- ## One gap

abbrev pub stance : Contents → ℕ → Stance
stance arena id = stance_in (sections_of arena) id

lines_between : (d : Dialect) (stood : Place) (before : Stance) (left : Option Stored) (here : Stance) (token : Option Stored) (count column level : ℕ)
    → here ≡ OfText → 0 < count → MayStandBetween d stood before left here token (Lines count column level)
lines_between d stood before left here None count column level e h = h
lines_between d stood before None here (Some token) count column level e h = tt
lines_between d stood before (Some l) here (Some token) count column level e h = (h, λ w. cc)

-- line ends before an item of a text
pub lines_stand : (arena : Contents) (id count column level : ℕ) → stance arena id ≡ OfText → 0 < count → MayStand arena id (Lines count column level)
lines_stand arena id count column level e h =
    lines_between arena.dialect (place_before (place_in arena) id) (stance_before (stance_in (sections_of arena)) id) (item_before arena.tokens id) (stance arena id) (slice_get arena.tokens id) count column level e h

first_between : (d : Dialect) (here : Stance) (token : Option Stored) → MayStandBetween d LineStart OfText None here token (Spaces 0)
first_between d here None = refl
first_between d here (Some token) = tt

-- nothing before the first item
pub nothing_stands : (arena : Contents) (id : ℕ) → id ≡ 0 → MayStand arena id (Spaces 0)
nothing_stands arena zero e = first_between arena.dialect (stance arena 0) (slice_get arena.tokens 0)
nothing_stands arena (suc id) e = absurd (omega (arith, e))

old_between : (d : Dialect) (stood : Place) (before : Stance) (left : Option Stored) (here : Stance) (token : Option Stored) → MayStandBetween d stood before left here token Old
old_between d stood before left here None = tt
old_between d stood before None here (Some token) = tt
old_between d stood before (Some l) here (Some token) = tt

-- what stood before an item may stay
pub old_stands : (arena : Contents) (id : ℕ) → MayStand arena id Old
old_stands arena id = old_between arena.dialect (place_before (place_in arena) id) (stance_before (stance_in (sections_of arena)) id) (item_before arena.tokens id) (stance_in (sections_of arena) id) (slice_get arena.tokens id)

-- ## The first item of a line

first_cases : (arena : Contents) (id : ℕ) (x : Bool) (count column level : ℕ) → (x ≡ true → id ≡ 0) → stance arena id ≡ OfText → 0 < count
    → MayStand arena id (if x then Spaces 0 else Lines count column level)
first_cases arena id true count column level z e h = nothing_stands arena id (z refl)
first_cases arena id false count column level z e h = lines_stand arena id count column level e h

pub first_stands : (style : Style) (arena : Contents) (line : ULine) (before : Option ℕ) (id : ℕ) → stance arena id ≡ OfText → MayStand arena id (first_decision style arena line before id)
first_stands style arena line before id e =
    let empty = empty_rows style line (is_behind_brace arena before) (row_token arena id (first_role (item_class arena id))) in
    first_cases arena id (id == 0) (1 + empty) (start_column style line) line.level (eqb-true id 0) e (omega arith)

-- ## Many decisions

pub made_append : (arena : Contents) (made later : List (ℕ × Slot)) → MadeStand arena made → MadeStand arena later → MadeStand arena (made ++ later)
made_append arena [] later h k = k
made_append arena (m ∷ made) later h k = (h.0, made_append arena made later h.1 k)
