-- What a configuration makes of a style: its first fault, or the style in force and the keys that were skipped.
-- docs/PROFILE.md states the rules under "Configuration".
use Rattle.std.specs.Prelude.{◌≡◌, ⊤, ℕ, Bool, true, false, ◌==◌, ◌&&◌, ◌||◌, Option, Some, None, Result, Ok, Err}
use Rattle.std.specs.Prelude.{if◌then◌else◌, List, [], ◌∷◌, ◌++◌, length, map, bytes_eq, codes, is_some, IsUtf8, String}
use Rattle.std.specs.Prelude.{string_bytes}
use Rattle.std.specs.List.{list_any}
use Rattle.std.specs.declared.alloc.Global.{Global}
use Rattle.indexmap.specs.IndexSet.{IndexSet}
use Rattle.std.specs.Str.{IsValidUpTo}
use Rattle.style_table.specs.declared.style.Style.{Style}
use Rattle.style_table.specs.declared.style.AlignTrailingCommentsKind.TheVariants as Kind
use Rattle.style_table.specs.declared.value.ValueFault.{ValueFault}
use Rattle.style_table.specs.declared.value.ValueFault.TheVariants as Value
use Rattle.style_table.specs.declared.key.Key.{Key}
use Rattle.style_table.specs.Keys.{key_of, with_value}
use Rattle.style_table.specs.Words.{bool_words, value_in}
use Rattle.style_table.specs.Named.{named}
use Rattle.style_config.specs.Lines.{NumberedLine, lines_in, documents_for_c, base_of}
use Rattle.style_config.specs.Entries.{outer_name, outer_of, Setting, Item, Wrong, Given, items_of}
use Rattle.style_config.specs.declared.entry.Outer.{Outer}
use Rattle.style_config.specs.declared.entry.Outer.TheVariants.{BraceWrapping, AlignTrailingComments}
use Rattle.style_config.specs.declared.reading.Meaning.{Meaning}
use Rattle.style_config.specs.declared.reading.Meaning.TheVariants.{Language, BasedOnStyle, OuterKey, Known, Unknown}
use Rattle.style_config.specs.declared.skipped.SkippedKey.{SkippedKey}
use Rattle.style_config.specs.declared.fault.ConfigFault.{ConfigFault}
use Rattle.style_config.specs.declared.fault.ConfigFault.TheVariants.{NotUtf8, BadLine, UnknownStyle, BadValue}
use Rattle.style_config.specs.declared.fault.ConfigFault.TheVariants.{OutOfRange, Repeated, NoMemory}

-- the name of a key, with the outer key that it stands under
abbrev pub path : Option Outer → List ℕ → List ℕ
path None label = label
path (Some outer) label = outer_name outer ++ 46 ∷ label

abbrev pub path_of : Setting → List ℕ
path_of setting = path setting.outer setting.label

-- a key of the table, or a key that is skipped
abbrev pub known : Option Key → Meaning
known (Some key) = Known key
known None = Unknown

-- an outer key, or else a key of the table or one that is skipped
abbrev pub outer_or : Option Outer → Meaning → Meaning
outer_or (Some outer) meaning = OuterKey outer
outer_or None meaning = meaning

-- what a key means
abbrev pub meaning_of : Option Outer → List ℕ → Meaning
meaning_of (Some outer) label = known (key_of (outer_name outer) label)
meaning_of None label =
    if bytes_eq label (codes "Language") then Language
    else if bytes_eq label (codes "BasedOnStyle") then BasedOnStyle
    else outer_or (outer_of label) (known (key_of [] label))

-- the style so far, and the keys skipped so far
pub record Effect : Type 0 where
  pub style : Style
  pub skipped : List SkippedKey

-- the style with a value that was read, or the fault of the value
abbrev pub with_read : ℕ → List SkippedKey → Result Style ValueFault → Result Effect ConfigFault
with_read line skipped (Ok style) = Ok (record { style = style; skipped = skipped })
with_read line skipped (Err Value.BadValue) = Err (BadValue line)
with_read line skipped (Err Value.OutOfRange) = Err (OutOfRange line)

-- an outer key's own boolean says whether trailing comments are aligned
abbrev pub aligned : Effect → ℕ → Result Bool ValueFault → Result Effect ConfigFault
aligned effect line (Ok true) =
    Ok (record effect { style = record effect.style { align_trailing_comments_kind = Kind.Always } })
aligned effect line (Ok false) =
    Ok (record effect { style = record effect.style { align_trailing_comments_kind = Kind.Never } })
aligned effect line (Err fault) = Err (BadValue line)

-- what `BasedOnStyle` may have: the name of a style, or quotes with nothing in them, which name no base
abbrev pub is_base : Setting → Bool
is_base setting = is_some (named setting.value) || (setting.is_quoted && (length setting.value == 0))

-- what a key with its value makes of the style and of the keys skipped
abbrev pub read_as : Meaning → Effect → Setting → Result Effect ConfigFault
read_as Language effect setting = Ok effect
read_as BasedOnStyle effect setting = if is_base setting then Ok effect else Err (UnknownStyle setting.line)
read_as (OuterKey BraceWrapping) effect setting =
    if setting.has_lines && (length setting.value == 0) then Ok effect else Err (BadValue setting.line)
read_as (OuterKey AlignTrailingComments) effect setting =
    if setting.has_lines then (if length setting.value == 0 then Ok effect else Err (BadValue setting.line))
    else aligned effect setting.line (value_in bool_words setting.value)
read_as (Known key) effect setting = with_read setting.line effect.skipped (with_value effect.style key setting.value)
read_as Unknown effect setting =
    Ok (record effect { skipped = effect.skipped ++ record { line = setting.line; key = path_of setting } ∷ [] })

abbrev pub read_setting : Effect → Setting → Result Effect ConfigFault
read_setting effect setting = read_as (meaning_of setting.outer setting.label) effect setting

-- a key stands among these
abbrev pub is_among : List ℕ → List (List ℕ) → Bool
is_among key keys = list_any (λ other. bytes_eq key other) keys

-- what an item makes of them, where these keys stood before in its document
abbrev pub read_item : List (List ℕ) → Effect → Item → Result Effect ConfigFault
read_item before effect (Wrong line) = Err (BadLine line)
read_item before effect (Given setting) =
    if is_among (path_of setting) before then Err (Repeated setting.line) else read_setting effect setting

-- the keys that stand before what follows an item
abbrev pub before_next : List (List ℕ) → Item → List (List ℕ)
before_next before (Wrong line) = before
before_next before (Given setting) = before ++ path_of setting ∷ []

-- the first fault ends the reading
abbrev pub unless_fault : Result Effect ConfigFault → (Effect → Result Effect ConfigFault) → Result Effect ConfigFault
unless_fault (Ok effect) next = next effect
unless_fault (Err fault) next = Err fault

-- what the items of a document make of them, in their order
unfoldable pub read_items : List (List ℕ) → Effect → List Item → Result Effect ConfigFault
read_items before effect [] = Ok effect
read_items before effect (item ∷ rest) =
    unless_fault (read_item before effect item) (λ next. read_items (before_next before item) next rest)

-- what documents make of them, in their order
unfoldable pub read_documents : Effect → List (List NumberedLine) → Result Effect ConfigFault
read_documents effect [] = Ok effect
read_documents effect (document ∷ rest) =
    unless_fault (read_items [] effect (items_of document)) (λ next. read_documents next rest)

-- what a configuration makes of a style: `BasedOnStyle` applies first, wherever it stands
abbrev pub reading : List ℕ → Style → Result Effect ConfigFault
reading text base =
    let documents = documents_for_c (lines_in text) in
    read_documents (record { style = base_of base documents; skipped = [] }) documents

-- what a line makes of them, where it gives an item or none
abbrev pub read_given : List (List ℕ) → Effect → Option Item → Result Effect ConfigFault
read_given before effect None = Ok effect
read_given before effect (Some item) = read_item before effect item

-- the keys that stand before what follows a line
abbrev pub before_given : List (List ℕ) → Option Item → List (List ℕ)
before_given before None = before
before_given before (Some item) = before_next before item

-- the names in a set of keys
abbrev pub key_paths : {S : Type 0} → IndexSet (String Global) S → List (List ℕ)
key_paths keys = map string_bytes keys.keys

-- a key was noted behind those before it, or stood among them
abbrev pub Notes : List ℕ → ℕ → List (List ℕ) → List (List ℕ) → Result Unit ConfigFault → Type 0
Notes key line before after (Ok _) = (is_among key before ≡ false) × (after ≡ before ++ key ∷ [])
Notes key line before after (Err (Repeated at)) = (is_among key before ≡ true) × (at ≡ line)
Notes key line before after (Err NoMemory) = ⊤
Notes key line before after (Err (NotUtf8 offset)) = ⊥
Notes key line before after (Err (BadLine at)) = ⊥
Notes key line before after (Err (UnknownStyle at)) = ⊥
Notes key line before after (Err (BadValue at)) = ⊥
Notes key line before after (Err (OutOfRange at)) = ⊥

-- an answer gives what is expected, but for want of memory
abbrev pub Gives : Result Effect ConfigFault → Result Style ConfigFault → List SkippedKey → Type 0
Gives expected (Ok style) skipped = expected ≡ Ok (record { style = style; skipped = skipped })
Gives expected (Err NoMemory) skipped = ⊤
Gives expected (Err (NotUtf8 offset)) skipped = ⊥
Gives expected (Err (BadLine line)) skipped = expected ≡ Err (BadLine line)
Gives expected (Err (UnknownStyle line)) skipped = expected ≡ Err (UnknownStyle line)
Gives expected (Err (BadValue line)) skipped = expected ≡ Err (BadValue line)
Gives expected (Err (OutOfRange line)) skipped = expected ≡ Err (OutOfRange line)
Gives expected (Err (Repeated line)) skipped = expected ≡ Err (Repeated line)

-- what the reading of a text answers: the style in force and the keys skipped; the first byte that isn't UTF-8, or else
-- the first fault
abbrev pub Reads : List ℕ → Style → Result (Style × List SkippedKey) ConfigFault → Type 0
Reads text base (Ok read) = IsUtf8 text × (reading text base ≡ Ok (record { style = read.0; skipped = read.1 }))
Reads text base (Err NoMemory) = ⊤
Reads text base (Err (NotUtf8 offset)) = (IsUtf8 text → ⊥) × IsValidUpTo text offset
Reads text base (Err (BadLine line)) = IsUtf8 text × (reading text base ≡ Err (BadLine line))
Reads text base (Err (UnknownStyle line)) = IsUtf8 text × (reading text base ≡ Err (UnknownStyle line))
Reads text base (Err (BadValue line)) = IsUtf8 text × (reading text base ≡ Err (BadValue line))
Reads text base (Err (OutOfRange line)) = IsUtf8 text × (reading text base ≡ Err (OutOfRange line))
Reads text base (Err (Repeated line)) = IsUtf8 text × (reading text base ≡ Err (Repeated line))

-- an answer is this style with no key skipped, or want of memory
abbrev pub IsReadBack : Style → Result (Style × List SkippedKey) ConfigFault → Type 0
IsReadBack style (Ok read) = (read.0 ≡ style) × (read.1 ≡ [])
IsReadBack style (Err NoMemory) = ⊤
IsReadBack style (Err (NotUtf8 offset)) = ⊥
IsReadBack style (Err (BadLine line)) = ⊥
IsReadBack style (Err (UnknownStyle line)) = ⊥
IsReadBack style (Err (BadValue line)) = ⊥
IsReadBack style (Err (OutOfRange line)) = ⊥
IsReadBack style (Err (Repeated line)) = ⊥
