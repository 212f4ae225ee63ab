-- Which two items keep apart with nothing between them.
use Rattle.std.specs.Prelude.{◌≡◌, ◌≢◌, ◌==◌, ◌||◌, ◌&&◌, not, ℕ, Bool, true, false, List, [], ◌∷◌, ◌++◌, codes, IsTrue}
use Rattle.std.specs.Prelude.{IsFalse}
use Rattle.std.specs.List.{list_any}
use Rattle.c_grammar.specs.Items.{Piece, Lexes, written, is_gap}
use Rattle.c_chars.specs.declared.Dialect.{Dialect}
use Rattle.c_grammar.specs.Grammar.{is_new_line, is_same, is_of, is_letter, is_sign, is_exponent, is_string_prefix}
use Rattle.c_grammar.specs.Grammar.{common_punctuators}
use Rattle.item_kinds.specs.declared.ItemKind.{ItemKind}
use Rattle.item_kinds.specs.declared.ItemKind.TheVariants.{Identifier, Number, CharConst, StringLit, Punct, StrayQuote}
use Rattle.item_kinds.specs.declared.ItemKind.TheVariants.{Other, LineComment}

-- the first character passes
abbrev pub starts : (ℕ → Bool) → List ℕ → Bool
starts p [] = false
starts p (c ∷ s) = p c

-- the last character passes
abbrev pub ends : (ℕ → Bool) → List ℕ → Bool
ends p [] = false
ends p (c ∷ []) = p c
ends p (c ∷ e ∷ s) = ends p (e ∷ s)

-- the first character alone
abbrev pub first_of : List ℕ → List ℕ
first_of [] = []
first_of (c ∷ s) = c ∷ []

-- the first list is the front of the second
abbrev pub is_front : List ℕ → List ℕ → Bool
is_front [] s = true
is_front (c ∷ f) [] = false
is_front (c ∷ f) (e ∷ s) = (c == e) && is_front f s

-- the kind is Identifier
abbrev pub is_identifier : ItemKind → Bool
is_identifier Identifier = true
is_identifier _ = false

-- the kind is Number
abbrev pub is_number : ItemKind → Bool
is_number Number = true
is_number _ = false

-- the kind is Punct
abbrev pub is_punct : ItemKind → Bool
is_punct Punct = true
is_punct _ = false

-- the kind is Other
abbrev pub is_other_kind : ItemKind → Bool
is_other_kind Other = true
is_other_kind _ = false

-- the kind is CharConst or StringLit
abbrev pub is_literal : ItemKind → Bool
is_literal CharConst = true
is_literal StringLit = true
is_literal _ = false

-- it takes the rest of its line
abbrev pub takes_line : ItemKind → Bool
takes_line LineComment = true
takes_line StrayQuote = true
takes_line _ = false

-- an identifier or a number, and what would go on with it: another, or a literal with a prefix
abbrev pub word_by_word : ItemKind → ItemKind → List ℕ → Bool
word_by_word left right r =
    (is_identifier left || is_number left)
    && (is_identifier right || is_number right || (is_literal right && starts is_letter r))

-- an identifier that is a prefix, and a quote
abbrev pub prefix_by_quote : ItemKind → List ℕ → List ℕ → Bool
prefix_by_quote left l r = is_identifier left && is_string_prefix l && starts (is_of (codes "'\"")) r

-- a number, and a point, an apostrophe, or a sign behind its exponent
abbrev pub number_goes_on : ItemKind → List ℕ → List ℕ → Bool
number_goes_on left l r = is_number left && (starts (is_of (codes ".'")) r || (starts is_sign r && ends is_exponent l))

-- a point, and a number
abbrev pub point_by_number : List ℕ → ItemKind → Bool
point_by_number l right = is_same l (codes ".") && is_number right

-- a punctuator that with the next character begins a punctuator of an edition or a comment
abbrev pub punct_goes_on : ItemKind → List ℕ → List ℕ → Bool
punct_goes_on left l r =
    is_punct left && list_any (is_front (l ++ first_of r)) (codes "::" ∷ codes "//" ∷ codes "/*" ∷ common_punctuators)

-- a `?`, and what could make a trigraph of it
abbrev pub trigraph_comes : List ℕ → List ℕ → Bool
trigraph_comes l r = is_same l (codes "?") && starts (is_of (codes "?=(/)'<!>-")) r

-- whether the two may stand side by side
abbrev pub may_touch : ItemKind → List ℕ → ItemKind → List ℕ → Bool
may_touch left l right r =
    not (word_by_word left right r || prefix_by_quote left l r || number_goes_on left l r || point_by_number l right
    || punct_goes_on left l r || trigraph_comes l r || (is_other_kind left || is_other_kind right) || takes_line left)

-- with the gap taken away
abbrev pub closed_up : Piece → Piece
closed_up p = record { gap = []; kind = p.kind; spelling = p.spelling }

-- A text has one list of items.
abbrev pub HasOneList : Type 0
HasOneList =
    (d : Dialect) (text : List ℕ) (ps qs : List Piece) (last end : List ℕ) → Lexes d text ps last →
    Lexes d text qs end → (ps ≡ qs) × (last ≡ end)

-- Where two items may touch, taking away a gap without a new-line between them leaves all items as they were.
abbrev pub KeepsItems : Type 0
KeepsItems =
    (d : Dialect) (text : List ℕ) (before after : List Piece) (l r : Piece) (last : List ℕ) →
    Lexes d text (before ++ l ∷ r ∷ after) last →
    IsTrue (may_touch l.kind l.spelling r.kind r.spelling) →
    IsFalse (list_any is_new_line r.gap) →
    Lexes d (written (before ++ l ∷ closed_up r ∷ after) last) (before ++ l ∷ closed_up r ∷ after) last

-- with this gap in the place of its own
abbrev pub regapped : List ℕ → Piece → Piece
regapped g p = record { gap = g; kind = p.kind; spelling = p.spelling }

-- Another gap in the place of a gap, none of them empty, both with a new-line or both without, leaves all items as they
-- were, behind an item that doesn't take its line.
abbrev pub KeepsItemsOverGaps : Type 0
KeepsItemsOverGaps =
    (d : Dialect) (text : List ℕ) (before after : List Piece) (l r : Piece) (last gap : List ℕ) →
    Lexes d text (before ++ l ∷ r ∷ after) last →
    IsTrue (is_gap gap) →
    gap ≢ [] →
    r.gap ≢ [] →
    list_any is_new_line gap ≡ list_any is_new_line r.gap →
    IsFalse (takes_line l.kind) →
    Lexes d (written (before ++ l ∷ regapped gap r ∷ after) last) (before ++ l ∷ regapped gap r ∷ after) last
