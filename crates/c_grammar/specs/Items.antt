-- The items of a text (C11 6.4p4): the longest prefix of what is left that spells one, and then the rest.
use Rattle.std.specs.Prelude.{◌≡◌, ◌||◌, ℕ, Bool, List, [], ◌∷◌, ◌++◌, IsTrue, ◌⊎◌, codes, if◌then◌else◌}
use Rattle.std.specs.List.{list_any, list_all}
use Rattle.c_grammar.specs.Grammar.{Spells, Shape, Whole, is_white, is_new_line, is_same, IsHeaderName}
use Rattle.c_chars.specs.declared.Dialect.{Dialect}
use Rattle.c_chars.specs.declared.Dialect.TheVariants.{C11, C23}
use Rattle.item_kinds.specs.declared.ItemKind.{ItemKind}
use Rattle.item_kinds.specs.declared.ItemKind.TheVariants.{Identifier, Punct, HeaderName, BlockComment, LineComment}

-- The spelling is of this shape, and nothing that goes on from it into the rest spells anything.
pub record IsLongest (d : Dialect) (shape : Shape) (spelling rest : List ℕ) : Type 0 where
  pub spells : Spells d shape spelling
  pub longest : (other : Shape) (c : ℕ) (more left : List ℕ) → rest ≡ (c ∷ more) ++ left →
      Spells d other (spelling ++ (c ∷ more)) → ⊥

-- white space and new-lines
abbrev pub is_gap : List ℕ → Bool
is_gap g = list_all (λ c. is_white c || is_new_line c) g

-- Where an item stands: first in its line, comments aside; in a directive (6.10) behind its `#`, behind its `include`,
-- behind its `define`, directly behind the name of the macro, or further on; in a text.
pub data Place : Type 0 where
  LineStart : Place
  AfterHash : Place
  AfterInclude : Place
  AfterDefine : Place
  AfterMacroName : Place
  InDirective : Place
  InText : Place

-- `#` or its digraph
abbrev pub is_hash : List ℕ → Bool
is_hash s = is_same s (codes "#") || is_same s (codes "%:")

-- the directives whose operand may be a header name
abbrev pub is_include : Dialect → List ℕ → Bool
is_include C11 s = is_same s (codes "include")
is_include C23 s = is_same s (codes "include") || is_same s (codes "embed")

-- behind the name of a directive
abbrev pub past_name : Dialect → List ℕ → Place
past_name d s =
    if is_include d s then AfterInclude else (if is_same s (codes "define") then AfterDefine else InDirective)

-- A comment keeps the place, but what stands behind it isn't directly behind a macro's name.
abbrev pub past_comment : Place → Place
past_comment AfterMacroName = InDirective
past_comment place = place

-- A gap with a new-line begins a line.
abbrev pub past_gap : Place → List ℕ → Place
past_gap place gap = if list_any is_new_line gap then LineStart else place

-- the place behind an item of this kind and spelling
abbrev pub past_item : Dialect → Place → ItemKind → List ℕ → Place
past_item d place BlockComment s = past_comment place
past_item d place LineComment s = past_comment place
past_item d LineStart Punct s = if is_hash s then AfterHash else InText
past_item d LineStart kind s = InText
past_item d InText kind s = InText
past_item d AfterHash Identifier s = past_name d s
past_item d AfterDefine Identifier s = AfterMacroName
past_item d place kind s = InDirective

-- a header name begins the text
pub record BeginsHeader (text : List ℕ) : Type 0 where
  pub name : List ℕ
  pub left : List ℕ
  pub is_name : IsHeaderName name
  pub whole : text ≡ name ++ left

-- The item that stands next at this place, before this rest. Behind `include` a header name goes before every other
-- item (6.4p4).
abbrev pub IsNext : Dialect → Place → ItemKind → List ℕ → List ℕ → Type 0
IsNext d place kind s rest =
    ((place ≡ AfterInclude) × (kind ≡ HeaderName) × IsHeaderName s)
    ⊎ ((place ≡ AfterInclude → BeginsHeader (s ++ rest) → ⊥) × IsLongest d (Whole kind) s rest)

-- an item with the gap before it
pub record Piece : Type 0 where
  pub gap : List ℕ
  pub kind : ItemKind
  pub spelling : List ℕ

-- the pieces and the last gap, written out
abbrev pub written : List Piece → List ℕ → List ℕ
written [] last = last
written (p ∷ ps) last = p.gap ++ (p.spelling ++ written ps last)

-- each piece is what stands next
abbrev pub Reads : Dialect → Place → List Piece → List ℕ → Type 0
Reads d place [] last = IsTrue (is_gap last)
Reads d place (p ∷ ps) last =
    IsTrue (is_gap p.gap)
    × IsNext d (past_gap place p.gap) p.kind p.spelling (written ps last)
    × Reads d (past_item d (past_gap place p.gap) p.kind p.spelling) ps last

-- Gaps and items alternate, and are the text.
pub record Lexes (d : Dialect) (text : List ℕ) (pieces : List Piece) (last : List ℕ) : Type 0 where
  pub whole : text ≡ written pieces last
  pub reads : Reads d LineStart pieces last
