-- How the items of a text stand to its directives: the sections agree with the reading of items (C11 6.10p2).
use Rattle.std.specs.Prelude.{◌≡◌, ℕ, ◌+◌, ◌-◌, List, [], ◌∷◌, ◌++◌, map, replicate, IsFalse, nat_lt, if◌then◌else◌}
use Rattle.std.specs.List.{list_any, slice_index_or}
use Rattle.c_grammar.specs.Grammar.{is_new_line}
use Rattle.c_grammar.specs.Items.{Place, LineStart, past_gap}
use Rattle.c_grammar.specs.Text.{piece_of}
use Rattle.c_grammar.specs.Twin.{Part, OfText, BeginsDirective, OpensParameters, OfDirective, part_of, parts_of}
use Rattle.c_grammar.specs.Fitting.{in_directive}
use Rattle.item_kinds.specs.declared.ItemKind.{ItemKind}
use Rattle.token_arena.specs.Gaps.{Contents}
use Rattle.token_arena.specs.Holds.{HoldsItems}
use Rattle.token_arena.specs.Sections.{sections_of}
use Rattle.token_arena.specs.declared.directives.Section.{Section}
use Rattle.token_arena.specs.declared.directives.Section.TheVariants.{Text, Dir}

-- An item is outside every directive, as a comment before a `#` on its line is; it is the `#` that begins a directive;
-- or it is inside of one, behind its `#`.
pub data Standing : Type 0 where
  Outside : Standing
  Begins : Standing
  Inside : Standing

-- how an item stands that is this part of a directive
abbrev pub standing_of : Part → Standing
standing_of OfText = Outside
standing_of BeginsDirective = Begins
standing_of OpensParameters = Inside
standing_of OfDirective = Inside

-- how each item of these sections stands
abbrev pub standings : List Section → List Standing
standings [] = []
standings (Text first end ∷ sections) = replicate (end - first) Outside ++ standings sections
standings (Dir dir ∷ sections) =
    (replicate (dir.hash.0 - dir.first) Outside ++ Begins ∷ replicate (dir.end - (dir.hash.0 + 1)) Inside)
    ++ standings sections

-- The sections say of each item how it stands where the items are read.
abbrev pub SectionsSayHowItemsStand : Type 0
SectionsSayHowItemsStand =
    (arena : Contents) (held : HoldsItems arena) →
    map standing_of (parts_of arena.dialect LineStart (map piece_of held.items)) ≡ standings (sections_of arena)

-- how the item with this number stands
abbrev pub standing_in : List Section → ℕ → Standing
standing_in [] at = Outside
standing_in (Text first end ∷ sections) at = if nat_lt at end then Outside else standing_in sections at
standing_in (Dir dir ∷ sections) at =
    if nat_lt at dir.end
    then (if nat_lt at dir.hash.0 then Outside else (if nat_lt dir.hash.0 at then Inside else Begins))
    else standing_in sections at

-- The same, item by item: behind the last one nothing is inside a directive.
abbrev pub EachItemStandsAsItsSectionSays : Type 0
EachItemStandsAsItsSectionSays =
    (arena : Contents) (held : HoldsItems arena) (at : ℕ) →
    slice_index_or (map standing_of (parts_of arena.dialect LineStart (map piece_of held.items))) at Outside
    ≡ standing_in (sections_of arena) at

-- An item that is outside every directive stands at no place in one.
abbrev pub OutsideIsAtNoDirective : Type 0
OutsideIsAtNoDirective =
    (place : Place) (gap : List ℕ) (kind : ItemKind) (spelling : List ℕ) →
    standing_of (part_of place gap kind spelling) ≡ Outside → IsFalse (in_directive place)

-- The gap before an item inside a directive has no new-line.
abbrev pub InsideIsOnOneLine : Type 0
InsideIsOnOneLine =
    (place : Place) (gap : List ℕ) (kind : ItemKind) (spelling : List ℕ) →
    standing_of (part_of (past_gap place gap) gap kind spelling) ≡ Inside → IsFalse (list_any is_new_line gap)
