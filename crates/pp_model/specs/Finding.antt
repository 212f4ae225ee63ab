-- The grammar of items as functions: the kind of a spelling, and the items of a text. What they find is what the
-- grammar's relations say, and nothing else (`KindsAreFound`, `ItemsAreFound`).
use Rattle.std.specs.Prelude.{◌≡◌, ◌==◌, ◌↔◌, ℕ, zero, suc, Bool, true, false, not, ◌&&◌, ◌||◌, List, [], ◌∷◌, ◌++◌}
use Rattle.std.specs.Prelude.{length, Option, Some, None, option_map, option_and_then, find, codes, IsFalse}
use Rattle.std.specs.List.{list_all}
use Rattle.c_chars.specs.Characters.{bytes_of, logical}
use Rattle.c_chars.specs.declared.Dialect.{Dialect}
use Rattle.c_chars.specs.declared.LogicalChar.{LogicalChar}
use Rattle.c_grammar.specs.Grammar.{is_of, is_new_line, is_white, is_one, is_same, is_letter_unit, is_word_unit}
use Rattle.c_grammar.specs.Grammar.{is_number_head, is_number_unit, is_punctuator, is_char_prefix, is_string_prefix}
use Rattle.c_grammar.specs.Grammar.{is_quoted_unit, has_end, is_other_unit, Shape, Whole, Unended, Spells}
use Rattle.c_grammar.specs.Items.{Place, LineStart, AfterInclude, past_gap, past_item}
use Rattle.c_grammar.specs.Text.{ReadItem, LexesText}
use Rattle.item_kinds.specs.declared.ItemKind.{ItemKind}
use Rattle.item_kinds.specs.declared.ItemKind.TheVariants.{Identifier, Number, CharConst, StringLit, Punct, HeaderName}
use Rattle.item_kinds.specs.declared.ItemKind.TheVariants.{StrayQuote, Other, BlockComment, LineComment}

-- ## Whether a spelling is of a shape

-- Some front of the list passes the first test, and what is left passes the second.
abbrev pub cuts : (List ℕ → Bool) → (List ℕ → Bool) → List ℕ → Bool
cuts p q [] = p [] && q []
cuts p q (c ∷ s) =
    elim (p []) [
      | true ↦ elim (q (c ∷ s)) [ true ↦ true | false ↦ cuts (λ a. p (c ∷ a)) q s ]
      | false ↦ cuts (λ a. p (c ∷ a)) q s
    ]

-- Some front of the list completes the unit that is read, and what is left is a sequence of units.
abbrev pub goes_on : (unit more : List ℕ → Bool) → List ℕ → Bool
goes_on p r [] = r []
goes_on p r (c ∷ s) =
    elim (r []) [
      | true ↦ elim (goes_on p (λ a. p (c ∷ a)) s) [ true ↦ true | false ↦ goes_on p (λ a. r (c ∷ a)) s ]
      | false ↦ goes_on p (λ a. r (c ∷ a)) s
    ]

-- a sequence of such units
abbrev pub are_units : (List ℕ → Bool) → List ℕ → Bool
are_units p s = goes_on p (λ a. is_same a []) s

-- a first unit, and then a sequence of units
abbrev pub is_headed : (first more : List ℕ → Bool) → List ℕ → Bool
is_headed first more s = cuts first (are_units more) s

-- what stands between the quotes: the units, and none of them only where that may be
abbrev pub is_inside : ℕ → Bool → List ℕ → Bool
is_inside q may_be_empty b = (may_be_empty || not (is_same b [])) && are_units (is_quoted_unit q) b

-- a prefix, and the units between two quotes
abbrev pub is_quoted : (List ℕ → Bool) → ℕ → Bool → List ℕ → Bool
is_quoted prefix q may_be_empty s =
    cuts prefix (cuts (is_same (q ∷ [])) (cuts (is_inside q may_be_empty) (is_same (q ∷ [])))) s

-- a quote that isn't closed
abbrev pub is_unclosed : List ℕ → Bool
is_unclosed [] = false
is_unclosed (q ∷ s) =
    is_of (codes "'\"") q && cuts (are_units (is_quoted_unit q)) (λ l. is_same l [] || is_same l (92 ∷ [])) s

-- no new-line in it
abbrev pub is_in_line : List ℕ → Bool
is_in_line s = list_all (λ c. not (is_new_line c)) s

-- two apostrophes, and what stands behind them in the line
abbrev pub is_empty_quotes : List ℕ → Bool
is_empty_quotes s = cuts (is_same (39 ∷ 39 ∷ [])) is_in_line s

-- `/*` through the first `*/`
abbrev pub is_block : List ℕ → Bool
is_block s = cuts (is_same (47 ∷ 42 ∷ [])) (cuts (λ b. not (has_end (b ++ 42 ∷ []))) (is_same (42 ∷ 47 ∷ []))) s

-- a block comment of which no end has come
abbrev pub is_open : List ℕ → Bool
is_open s = cuts (is_same (47 ∷ 42 ∷ [])) (λ b. not (has_end b)) s

-- the end of a text that is trimmed: a character that isn't white, or a backslash and then white space
abbrev pub is_trim : List ℕ → Bool
is_trim s = is_one (λ c. not (is_white c)) s || cuts (is_same (92 ∷ [])) (list_all is_white) s

-- two slashes and what stands behind them in the line, without white space at the end unless it would then end in a
-- backslash
abbrev pub is_line : List ℕ → Bool
is_line s = cuts (is_same (47 ∷ [])) (λ t. cuts (is_same (47 ∷ [])) is_in_line t && cuts (λ f. true) is_trim t) s

-- what stands between two such characters in one line; there is something
abbrev pub is_between : ℕ → ℕ → List ℕ → Bool
is_between first last s =
    cuts (is_same (first ∷ [])) (cuts
    (λ b. list_all (λ c. not (c == last) && not (is_new_line c)) b && not (is_same b [])) (is_same (last ∷ []))) s

-- a header name
abbrev pub is_header_name : List ℕ → Bool
is_header_name s = is_between 60 62 s || is_between 34 34 s

-- whether this spells an item of this shape, wherever no header name is read
abbrev pub spells : Dialect → Shape → List ℕ → Bool
spells d (Whole Identifier) s = is_headed is_letter_unit is_word_unit s
spells d (Whole Number) s = is_headed is_number_head (is_number_unit d) s
spells d (Whole CharConst) s = is_quoted (is_char_prefix d) 39 false s
spells d (Whole StringLit) s = is_quoted is_string_prefix 34 true s
spells d (Whole Punct) s = is_punctuator d s
spells d (Whole HeaderName) s = false
spells d (Whole StrayQuote) s = is_unclosed s || is_empty_quotes s
spells d (Whole Other) s = is_other_unit d s
spells d (Whole BlockComment) s = is_block s
spells d (Whole LineComment) s = is_line s
spells d Unended s = is_open s

-- all shapes
abbrev pub shapes : List Shape
shapes =
    Whole Identifier ∷ Whole Number ∷ Whole CharConst ∷ Whole StringLit ∷ Whole Punct ∷ Whole HeaderName
    ∷ Whole StrayQuote ∷ Whole Other
    ∷ Whole BlockComment ∷ Whole LineComment ∷ Unended ∷ []

-- the shape of a spelling
abbrev pub shape_of : Dialect → List ℕ → Option Shape
shape_of d s = find (λ k. spells d k s) shapes

-- a comment, 6.4.9
abbrev pub is_comment : ItemKind → Bool
is_comment BlockComment = true
is_comment LineComment = true
is_comment _ = false

-- the kind of an item that is no comment
abbrev pub token_kind : Shape → Option ItemKind
token_kind (Whole k) = elim (is_comment k) [ true ↦ None | false ↦ Some k ]
token_kind Unended = None

-- the kind of a spelling that is one item other than a comment
abbrev pub kind_of : Dialect → List ℕ → Option ItemKind
kind_of d s = option_and_then token_kind (shape_of d s)

-- A kind is found exactly where the spelling is one of this kind.
abbrev pub KindsAreFound : Type 0
KindsAreFound =
    (d : Dialect) (s : List ℕ) (kind : ItemKind) → (kind_of d s ≡ Some kind) ↔
    (Spells d (Whole kind) s × IsFalse (is_comment kind))

-- ## The items of a text

-- a front of a text that has a shape, and what is left
pub record Found : Type 0 where
  pub shape : Shape
  pub chars : List LogicalChar
  pub rest : List LogicalChar

-- with this character before it
abbrev pub with_char : LogicalChar → Found → Found
with_char c f = record { shape = f.shape; chars = c ∷ f.chars; rest = f.rest }

-- the empty front
abbrev pub found_here : List LogicalChar → Shape → Found
found_here s k = record { shape = k; chars = []; rest = s }

-- what was found further on, otherwise what is found here
abbrev pub or_here : LogicalChar → Option Found → Option Found → Option Found
or_here c None here = here
or_here c (Some f) here = Some (with_char c f)

-- the longest front whose characters have a shape
abbrev pub longest : (List ℕ → Option Shape) → List LogicalChar → Option Found
longest f [] = option_map (found_here []) (f [])
longest f (c ∷ s) = or_here c (longest (λ a. f (c.byte ∷ a)) s) (option_map (found_here (c ∷ s)) (f []))

-- a header name alone
abbrev pub header_shape : List ℕ → Option Shape
header_shape s = elim (is_header_name s) [ true ↦ Some (Whole HeaderName) | false ↦ None ]

-- the first, or else the second
abbrev pub or_found : Option Found → Option Found → Option Found
or_found None g = g
or_found (Some f) g = Some f

-- The item that stands next at this place: behind `include` a header name goes before every other item.
abbrev pub next_at : Dialect → Place → List LogicalChar → Option Found
next_at d AfterInclude s = or_found (longest header_shape s) (longest (shape_of d) s)
next_at d _ s = longest (shape_of d) s

-- white space or a new-line
abbrev pub is_blank : ℕ → Bool
is_blank c = is_white c || is_new_line c

-- the gap that begins the text
abbrev pub gap_of : List LogicalChar → List LogicalChar
gap_of [] = []
gap_of (c ∷ s) = elim (is_blank c.byte) [ true ↦ c ∷ gap_of s | false ↦ [] ]

-- what is behind it
abbrev pub behind_gap : List LogicalChar → List LogicalChar
behind_gap [] = []
behind_gap (c ∷ s) = elim (is_blank c.byte) [ true ↦ behind_gap s | false ↦ c ∷ s ]

-- the items of a text, and its last gap
pub record Items : Type 0 where
  pub items : List ReadItem
  pub last : List LogicalChar

-- with this item before them
abbrev pub with_item : ReadItem → Items → Items
with_item i is = record { items = i ∷ is.items; last = is.last }

-- the item found behind this gap at this place, and then those that `go` finds in the rest
abbrev pub item_found : Dialect → Place → List LogicalChar → (Place → List LogicalChar → Option Items) → Found →
    Option Items
item_found d place gap go f = elim f.shape [
  | Whole kind ↦
      option_map (with_item (record { kind = kind; gap = gap; chars = f.chars }))
      (go (past_item d place kind (bytes_of f.chars)) f.rest)
  | Unended ↦ None
]

-- no items, and this last gap
abbrev pub no_items : List LogicalChar → Items
no_items s = record { items = []; last = s }

-- what stands behind the gap: nothing, or the next item
abbrev pub found_behind : Dialect → Place → List LogicalChar → (Place → List LogicalChar → Option Items) →
    List LogicalChar → Option Items
found_behind d place gap go [] = Some (no_items gap)
found_behind d place gap go (c ∷ s) = option_and_then (item_found d place gap go) (next_at d place (c ∷ s))

-- the items of these characters, at most n of them, from this place on; none where something else is left
abbrev pub items_from : Dialect → ℕ → Place → List LogicalChar → Option Items
items_from d zero place s = elim (behind_gap s) [ [] ↦ Some (no_items s) | c ∷ r ↦ None ]
items_from d (suc n) place s =
    found_behind d (past_gap place (bytes_of (gap_of s))) (gap_of s) (λ p r. items_from d n p r) (behind_gap s)

-- the items of a text, or none where it doesn't lex
abbrev pub items_of : Dialect → List ℕ → Option Items
items_of d text = items_from d (length (logical d text)) LineStart (logical d text)

-- The items that are found are those that the text has.
abbrev pub ItemsAreFound : Type 0
ItemsAreFound =
    (d : Dialect) (text : List ℕ) (items : List ReadItem) (last : List LogicalChar) →
    (items_of d text ≡ Some (record { items = items; last = last })) ↔ LexesText d text items last
