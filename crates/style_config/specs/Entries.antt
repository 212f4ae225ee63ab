-- The entries of a document: which key each of its lines sets. docs/PROFILE.md states the rules under "Configuration".
use Rattle.std.specs.Prelude.{ℕ, Bool, true, false, ◌==◌, Option, Some, None, if◌then◌else◌, List, [], ◌∷◌, bytes_eq}
use Rattle.std.specs.Prelude.{codes}
use Rattle.style_config.specs.Texts.{Pair, pair_of}
use Rattle.style_config.specs.Lines.{Line, Marker, Entry, Nested, Malformed, NumberedLine}
use Rattle.style_config.specs.declared.entry.Outer.{Outer}
use Rattle.style_config.specs.declared.entry.Outer.TheVariants.{BraceWrapping, AlignTrailingComments}
use Rattle.style_config.specs.declared.entry.Owner.{Owner}
use Rattle.style_config.specs.declared.entry.Owner.TheVariants.{NoKey, AnyKey, OuterKey}
use Rattle.style_config.specs.declared.entry.Setting.{Setting as ReadSetting}
use Rattle.style_config.specs.declared.entry.Item.{Item as ReadItem}
use Rattle.style_config.specs.declared.entry.Item.TheVariants as Read

-- how an outer key is spelled
abbrev pub outer_name : Outer → List ℕ
outer_name BraceWrapping = codes "BraceWrapping"
outer_name AlignTrailingComments = codes "AlignTrailingComments"

-- the outer key that is spelled so
abbrev pub outer_of : List ℕ → Option Outer
outer_of key =
    if bytes_eq key (codes "BraceWrapping") then Some BraceWrapping
    else if bytes_eq key (codes "AlignTrailingComments") then Some AlignTrailingComments
    else None

-- what the lines behind a key belong to
abbrev pub owner_of : Option Outer → Owner
owner_of (Some outer) = OuterKey outer None
owner_of None = AnyKey

-- what the lines behind a line belong to; the first line under an outer key says behind how many blanks its keys stand
abbrev pub owner_after : Owner → Line → Owner
owner_after owner (Entry pair) = owner_of (outer_of pair.key)
owner_after owner Marker = owner
owner_after owner Malformed = owner
owner_after NoKey (Nested width text) = NoKey
owner_after AnyKey (Nested width text) = AnyKey
owner_after (OuterKey outer None) (Nested width text) = OuterKey outer (Some width)
owner_after (OuterKey outer (Some first)) (Nested width text) = OuterKey outer (Some first)

-- a key with its value, its line, the outer key that it stands under, whether quotes stood around the value, and
-- whether lines belong to the key
pub record Setting : Type 0 where
  pub line : ℕ
  pub outer : Option Outer
  pub label : List ℕ
  pub value : List ℕ
  pub is_quoted : Bool
  pub has_lines : Bool

-- what a line gives: a bad line of this number, or a key that is set
pub data Item : Type 0 where
  Wrong : ℕ → Item
  Given : Setting → Item

-- a line stands behind as many blanks as the first one under its outer key
abbrev pub has_width : Option ℕ → ℕ → Bool
has_width None width = true
has_width (Some first) width = width == first

-- what a line under an outer key gives
abbrev pub inner_item : ℕ → Outer → Option Pair → Item
inner_item number outer (Some pair) =
    Given (record {
      line = number;
      outer = Some outer;
      label = pair.key;
      value = pair.value;
      is_quoted = pair.is_quoted;
      has_lines = false;
    })
inner_item number outer None = Wrong number

-- what a line gives, if anything; `next` says whether a line follows that belongs to the same key
abbrev pub item_of : Owner → ℕ → Line → Bool → Option Item
item_of owner number Marker next = None
item_of owner number Malformed next = Some (Wrong number)
item_of owner number (Entry pair) next =
    Some (Given (record {
      line = number;
      outer = None;
      label = pair.key;
      value = pair.value;
      is_quoted = pair.is_quoted;
      has_lines = next;
    }))
item_of NoKey number (Nested width text) next = Some (Wrong number)
item_of AnyKey number (Nested width text) next = None
item_of (OuterKey outer first) number (Nested width text) next =
    if has_width first width then Some (inner_item number outer (pair_of text)) else None

abbrev pub is_nested : Line → Bool
is_nested (Nested width text) = true
is_nested (Entry pair) = false
is_nested Marker = false
is_nested Malformed = false

abbrev pub is_malformed : Line → Bool
is_malformed Malformed = true
is_malformed (Entry pair) = false
is_malformed Marker = false
is_malformed (Nested width text) = false

-- the first of these lines belongs to the key before it, bad lines aside
abbrev pub begins_nested : List NumberedLine → Bool
begins_nested [] = false
begins_nested (line ∷ rest) = if is_malformed line.line then begins_nested rest else is_nested line.line

-- an item, if there is one, before others
abbrev pub with_item : Option Item → List Item → List Item
with_item (Some item) rest = item ∷ rest
with_item None rest = rest

-- what the lines give that follow a line of this owner
unfoldable pub items_from : Owner → List NumberedLine → List Item
items_from owner [] = []
items_from owner (line ∷ rest) =
    with_item (item_of owner line.number line.line (begins_nested rest)) (items_from (owner_after owner line.line) rest)

-- what the lines of a document give
abbrev pub items_of : List NumberedLine → List Item
items_of document = items_from NoKey document

-- the texts of what was read
abbrev pub setting_text : ReadSetting → Setting
setting_text setting =
    record {
      line = setting.line;
      outer = setting.outer;
      label = setting.label.now;
      value = setting.value.now;
      is_quoted = setting.is_quoted;
      has_lines = setting.has_lines;
    }

abbrev pub item_text : ReadItem → Item
item_text (Read.Wrong line) = Wrong line
item_text (Read.Given setting) = Given (setting_text setting)
