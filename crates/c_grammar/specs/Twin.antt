-- Texts of the same items: they differ in white space between items alone, and not in what is a directive (C11 6.10p2).
use Rattle.std.specs.Prelude.{◌≡◌, ◌&&◌, ℕ, List, [], ◌∷◌, map, codes, if◌then◌else◌}
use Rattle.c_grammar.specs.Grammar.{is_same}
use Rattle.c_grammar.specs.Items.{Place, LineStart, AfterMacroName, InText, past_gap, past_item, is_hash, Piece}
use Rattle.c_grammar.specs.Touch.{is_punct}
use Rattle.c_grammar.specs.Text.{ReadItem, piece_of, raw_of, LexesText}
use Rattle.c_chars.specs.Characters.{mark_len}
use Rattle.c_chars.specs.declared.Dialect.{Dialect}
use Rattle.c_chars.specs.declared.LogicalChar.{LogicalChar}
use Rattle.item_kinds.specs.declared.ItemKind.{ItemKind}

-- What an item is to a directive: of a text and none of its business; the `#` that begins it; the `(` that makes its
-- macro function-like; of it otherwise.
pub data Part : Type 0 where
  OfText : Part
  BeginsDirective : Part
  OpensParameters : Part
  OfDirective : Part

-- the part of an item that stands at this place, directly behind this gap
abbrev pub part_of : Place → List ℕ → ItemKind → List ℕ → Part
part_of LineStart gap kind s = if is_punct kind && is_hash s then BeginsDirective else OfText
part_of InText gap kind s = OfText
part_of AfterMacroName gap kind s =
    if is_same gap [] && (is_punct kind && is_same s (codes "(")) then OpensParameters else OfDirective
part_of place gap kind s = OfDirective

-- the part of each item
abbrev pub parts_of : Dialect → Place → List Piece → List Part
parts_of d place [] = []
parts_of d place (p ∷ ps) =
    part_of (past_gap place p.gap) p.gap p.kind p.spelling
    ∷ parts_of d (past_item d (past_gap place p.gap) p.kind p.spelling) ps

-- The same kinds and bytes of items in order; the same ones begin, continue and end directives, and the same macros are
-- function-like; both texts begin with a byte order mark, or neither does.
pub record IsTwin (d : Dialect) (b c : List ℕ) : Type 0 where
  pub items : List ReadItem
  pub last : List LogicalChar
  pub lexes : LexesText d b items last
  pub other_items : List ReadItem
  pub other_last : List LogicalChar
  pub other_lexes : LexesText d c other_items other_last
  pub kinds : map (λ item. item.kind) items ≡ map (λ item. item.kind) other_items
  pub raws : map (raw_of b) items ≡ map (raw_of c) other_items
  pub parts : parts_of d LineStart (map piece_of items) ≡ parts_of d LineStart (map piece_of other_items)
  pub mark : mark_len b ≡ mark_len c
