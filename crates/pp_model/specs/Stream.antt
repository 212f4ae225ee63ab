-- The items of a text cut into sections: texts and directives (C11 6.10p2), each item with its white space and its
-- line.
use Rattle.std.specs.Prelude.{◌==◌, ◌+◌, ◌||◌, not, ℕ, Bool, true, false, List, [], ◌∷◌, ◌++◌, map, filter, length}
use Rattle.std.specs.Prelude.{take, codes, Option, Some, None, bytes_eq}
use Rattle.c_chars.specs.Characters.{bytes_of}
use Rattle.c_chars.specs.declared.Dialect.{Dialect}
use Rattle.c_chars.specs.declared.Dialect.TheVariants.{C11, C23}
use Rattle.c_chars.specs.declared.LogicalChar.{LogicalChar}
use Rattle.c_grammar.specs.Grammar.{is_new_line, is_same}
use Rattle.c_grammar.specs.Items.{LineStart}
use Rattle.c_grammar.specs.Text.{ReadItem, piece_of, start_of}
use Rattle.c_grammar.specs.Touch.{is_identifier}
use Rattle.c_grammar.specs.Twin.{Part, OfText, BeginsDirective, OpensParameters, OfDirective, parts_of}
use Rattle.item_kinds.specs.declared.ItemKind.{ItemKind}
use Rattle.pp_model.specs.Finding.{is_comment, Items, items_of}
use Rattle.pp_model.specs.Preprocess.{Item, SectionKind, Text, If, Ifdef, Ifndef, Elif, Elifdef, Elifndef, Else, Endif}
use Rattle.pp_model.specs.Preprocess.{Include, Define, Undef, LineNumber, Error, Warning, Embed, Pragma, Null, Unknown}
use Rattle.pp_model.specs.Preprocess.{Section, Source, Lexed, NotLexed}

-- An item as phase 4 meets it: what it is to a directive, its kind and spelling; whether white space stands before it,
-- its physical line, and the line that the first new-line before it begins.
pub record Streamed : Type 0 where
  pub part : Part
  pub kind : ItemKind
  pub text : List ℕ
  pub white : Bool
  pub line : ℕ
  pub begun : ℕ

-- the physical line of an offset, from 1
abbrev pub line_at : List ℕ → ℕ → ℕ
line_at text at = length (filter (λ c. c == 10) (take at text)) + 1

-- the physical line that the first new-line of a gap begins; 0 where there is none
abbrev pub line_begun : List ℕ → List LogicalChar → ℕ
line_begun text [] = 0
line_begun text (c ∷ gap) = elim (is_new_line c.byte) [ true ↦ line_at text c.to | false ↦ line_begun text gap ]

-- The items with their parts in directives. A comment is one blank (5.1.1.2), and a splice is none.
abbrev pub streamed : List ℕ → (after_comment : Bool) → List ReadItem → List Part → List Streamed
streamed text after [] ps = []
streamed text after (i ∷ is) [] = []
streamed text after (i ∷ is) (p ∷ ps) =
    record {
      part = p;
      kind = i.kind;
      text = bytes_of i.chars;
      white = after || not (is_same (bytes_of i.gap) []);
      line = line_at text (start_of i);
      begun = line_begun text i.gap;
    }
    ∷ streamed text (is_comment i.kind) is ps

-- the stream of a text's items
abbrev pub stream_of : Dialect → List ℕ → List ReadItem → List Streamed
stream_of d text items = streamed text false items (parts_of d LineStart (map piece_of items))

-- the item, unless it is a comment
abbrev pub add_item : List Item → Streamed → List Item
add_item is s =
    elim (is_comment s.kind)
    [ true ↦ is | false ↦ is ++ record { kind = s.kind; text = s.text; white = s.white; line = s.line } ∷ [] ]

-- the directive of this name
abbrev pub named_kind : List (List ℕ × SectionKind) → List ℕ → SectionKind
named_kind [] s = Unknown
named_kind (p ∷ ps) s = elim (bytes_eq s p.0) [ true ↦ p.1 | false ↦ named_kind ps s ]

-- the names of directives, 6.10p1
abbrev pub common_names : List (List ℕ × SectionKind)
common_names =
    (codes "if", If) ∷ (codes "ifdef", Ifdef) ∷ (codes "ifndef", Ifndef) ∷ (codes "elif", Elif) ∷ (codes "else", Else)
    ∷ (codes "endif", Endif) ∷ (codes "include", Include) ∷ (codes "define", Define) ∷ (codes "undef", Undef)
    ∷ (codes "line", LineNumber) ∷ (codes "error", Error) ∷ (codes "pragma", Pragma) ∷ []

-- those of the edition
abbrev pub directive_names : Dialect → List (List ℕ × SectionKind)
directive_names C11 = common_names
directive_names C23 =
    (codes "elifdef", Elifdef) ∷ (codes "elifndef", Elifndef) ∷ (codes "warning", Warning) ∷ (codes "embed", Embed)
    ∷ common_names

-- no directive that has a name
abbrev pub is_unknown : SectionKind → Bool
is_unknown Unknown = true
is_unknown _ = false

-- what the item behind the # makes of the directive
abbrev pub kind_named : Dialect → Item → SectionKind
kind_named d i = elim (is_identifier i.kind) [ true ↦ named_kind (directive_names d) i.text | false ↦ Unknown ]

-- A directive without its name, but for an unknown one.
abbrev pub known_or_not : Bool → ℕ → Item → List Item → SectionKind → Section
known_or_not fl next i is kind =
    record {
      kind = kind;
      function_like = fl;
      items = elim (is_unknown kind) [ true ↦ i ∷ is | false ↦ is ];
      next = next;
    }

-- the directive of the items behind its #; without any it is a null directive, 6.10.7
abbrev pub directive : Dialect → Bool → ℕ → List Item → Section
directive d fl next [] = record { kind = Null; function_like = fl; items = []; next = next }
directive d fl next (i ∷ is) = known_or_not fl next i is (kind_named d i)

-- a text between directives
abbrev pub text_section : List Item → Section
text_section is = record { kind = Text; function_like = false; items = is; next = 0 }

-- in a text, or in a directive (of a function-like macro or not), with the items so far
pub data Inside : Type 0 where
  InText : List Item → Inside
  InDirective : Bool → List Item → Inside

-- the section that is read, before a line that begins with this number
abbrev pub ended : Dialect → Inside → ℕ → Section
ended d (InText is) next = text_section is
ended d (InDirective fl is) next = directive d fl next is

-- an item goes on with the directive, or with the text
abbrev pub goes_into : Inside → Bool → Streamed → Inside
goes_into (InText is) opens s = InText (add_item is s)
goes_into (InDirective fl is) opens s = InDirective (fl || opens) (add_item is s)

-- in a text
abbrev pub in_text : Inside → Bool
in_text (InText is) = true
in_text (InDirective fl is) = false

-- The sections in order: a `#` that begins a directive ends what is read, and so does an item of a text behind a
-- directive.
abbrev pub cut_from : Dialect → Inside → List Streamed → List Section
cut_from d at [] = ended d at 0 ∷ []
cut_from d at (s ∷ ss) = elim s.part [
  | BeginsDirective ↦ ended d at s.begun ∷ cut_from d (InDirective false []) ss
  | OpensParameters ↦ cut_from d (goes_into at true s) ss
  | OfDirective ↦ cut_from d (goes_into at false s) ss
  | OfText ↦ elim (in_text at) [
    | true ↦ cut_from d (goes_into at false s) ss
    | false ↦ ended d at s.begun ∷ cut_from d (InText (add_item [] s)) ss
  ]
]

-- the sections of a text's items
abbrev pub sections_of : Dialect → List ℕ → List ReadItem → List Section
sections_of d text items = cut_from d (InText []) (stream_of d text items)

-- the sections of a text by its items, where it has any
abbrev pub source_by : Dialect → List ℕ → Option Items → Source
source_by d text None = NotLexed
source_by d text (Some is) = Lexed (sections_of d text is.items)

-- the sections of a text that lexes
abbrev pub source_of : Dialect → List ℕ → Source
source_of d text = source_by d text (items_of d text)
