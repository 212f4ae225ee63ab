-- The lines that are written of a style, as they are read: two marks, and one document between them.
use Rattle.std.proofs.Common.{◌≡◌, ◌+◌, ◌-◌, ◌==◌, ℕ, zero, suc, Bool, true, false, ◌&&◌, ◌||◌, cond, if◌then◌else◌, List, [], ◌∷◌, ◌++◌, Some, None, Option, length, take, drop, filter, refl, ap, ap₂, sym, ◌∙◌, arith, codes, bytes_eq, nat_lt}
use Rattle.std.specs.Prelude.{slice_index}
use Rattle.std.specs.List.{slice_split, onto_first, prefix_len, suffix_len}
use Rattle.style_table.specs.declared.style.Style.{Style}
use Rattle.style_table.specs.declared.key.Key.{Key}
use Rattle.style_table.specs.Keys.{keys, shown, label_of, is_first_inside, outer_of as outer_text_of}
use Rattle.style_config.specs.Dump.{dump_text}
use Rattle.style_table.specs.Range.{IsInRange}
use Rattle.style_config.specs.declared.entry.Outer.{Outer}
use Rattle.style_config.specs.declared.entry.Outer.TheVariants.{BraceWrapping, AlignTrailingComments}
use Rattle.style_config.specs.Texts.{is_blank, is_key_byte, begins_with_hash, comment_start, blanks_of, without_first_blanks, pair_of}
use Rattle.style_config.specs.Lines.{Line, Marker, Entry, Nested, Malformed, NumberedLine, line_of, is_passed_over, belongs_to_key, is_mark, entry_or_none, with_line, numbered_from, lines_in, is_marker, documents, documents_for_c, is_for_c, base_of, base_after, based_on, value_at}
use Rattle.style_config.specs.Entries.{outer_name}
use Rattle.style_config.proofs.Words.{pair_of_word}
use Rattle.style_config.proofs.Shown.{is_word, shown-word}
use Rattle.style_config.proofs.Labels.{outer_key, blanks_before, name_of, name_is, indent_is, label_is_word, label_is_no_base, first_has_outer}
use Rattle.style_config.proofs.DumpText.{key_text, with_heading, texts_of, word_bytes, dump_is_cut}

-- the line of a key, as it is read
abbrev pub line_by : Option Outer → List ℕ → List ℕ → Line
line_by None label value = Entry (record { key = label; value = value; is_quoted = false })
line_by (Some outer) label value = Nested 2 (label ++ (58 ∷ 32 ∷ value))

abbrev pub key_line : Style → Key → Line
key_line style key = line_by (outer_key key) (label_of key) (shown style key)

not_blank : (c : ℕ) → is_key_byte c ≡ true → is_blank c ≡ false
not_blank c is = grind arith

not_hash : (c : ℕ) → is_key_byte c ≡ true → (c == 35) ≡ false
not_hash c is = grind arith

not_tab : (c : ℕ) → is_key_byte c ≡ true → (c == 9) ≡ false
not_tab c is = grind arith

not_dash : (c : ℕ) → is_key_byte c ≡ true → (c == 45) ≡ false
not_dash c is = grind arith

not_dot : (c : ℕ) → is_key_byte c ≡ true → (c == 46) ≡ false
not_dot c is = grind arith

or_false : {a b : Bool} → a ≡ false → b ≡ false → (a || b) ≡ false
or_false p q = ap₂ (λ x y. x || y) p q

some_bytes : (c : ℕ) (text : List ℕ) → (length (c ∷ text) == 0) ≡ false
some_bytes c text = grind arith

differs : (n a c : ℕ) (text rest : List ℕ) → (a == c) ≡ false → bytes_eq (take n (a ∷ text)) (c ∷ rest) ≡ false
differs zero a c text rest no_match = refl
differs (suc n) a c text rest no_match = ap (λ b. b && bytes_eq (take n text) rest) no_match

-- a line that begins with a letter or a digit is read by its form
plain_line : (a : ℕ) (text : List ℕ) → is_key_byte a ≡ true → line_of (a ∷ text) ≡ Some (entry_or_none (pair_of (a ∷ text)))
plain_line a text is =
    let line : List ℕ = a ∷ text in
    let first : without_first_blanks line ≡ line = ap (λ b. drop (cond b (1 + prefix_len is_blank text) 0) line) (not_blank a is) in
    let passed : is_passed_over line ≡ false =
    ap (λ rest. (length rest == 0) || begins_with_hash rest) first ∙ or_false (some_bytes a text) (not_hash a is) in
    let blanks : nat_lt 0 (blanks_of line) ≡ false = ap (λ b. nat_lt 0 (cond b (1 + prefix_len is_blank text) 0)) (not_blank a is) in
    let belongs : belongs_to_key line ≡ false = or_false blanks (ap (λ b. b && (slice_index line 1 == 32)) (not_dash a is)) in
    let n : ℕ = length line - suffix_len is_blank line in
    let mark : is_mark line ≡ false = or_false (differs n a 45 text (45 ∷ 45 ∷ []) (not_dash a is)) (differs n a 46 text (46 ∷ 46 ∷ []) (not_dot a is)) in
    let by_form : Option Line = Some (entry_or_none (pair_of line)) in
    ap (λ b. if b then None else if a == 9 then Some Malformed else if belongs_to_key line then Some (Nested (blanks_of line) (without_first_blanks line)) else if is_mark line then Some Marker else by_form) passed
    ∙ (ap (λ b. if b then Some Malformed else if belongs_to_key line then Some (Nested (blanks_of line) (without_first_blanks line)) else if is_mark line then Some Marker else by_form) (not_tab a is)
    ∙ (ap (λ b. if b then Some (Nested (blanks_of line) (without_first_blanks line)) else if is_mark line then Some Marker else by_form) belongs
    ∙ ap (λ b. if b then Some Marker else by_form) mark))

-- a line behind two blanks belongs to the key before it
nested_line : (a : ℕ) (text : List ℕ) → is_key_byte a ≡ true → line_of (32 ∷ 32 ∷ a ∷ text) ≡ Some (Nested 2 (a ∷ text))
nested_line a text is =
    let line : List ℕ = 32 ∷ 32 ∷ a ∷ text in
    let first : without_first_blanks line ≡ a ∷ text = ap (λ b. drop (1 + (1 + cond b (1 + prefix_len is_blank text) 0)) line) (not_blank a is) in
    let blanks : blanks_of line ≡ 2 = ap (λ b. 1 + (1 + cond b (1 + prefix_len is_blank text) 0)) (not_blank a is) in
    let passed : is_passed_over line ≡ false =
    ap (λ rest. (length rest == 0) || begins_with_hash rest) first ∙ or_false (some_bytes a text) (not_hash a is) in
    let belongs : belongs_to_key line ≡ true = ap (λ n. nat_lt 0 n || ((slice_index line 0 == 45) && (slice_index line 1 == 32))) blanks in
    let others : Option Line = if is_mark line then Some Marker else Some (entry_or_none (pair_of line)) in
    ap (λ b. if b then None else if belongs_to_key line then Some (Nested (blanks_of line) (without_first_blanks line)) else others) passed
    ∙ (ap (λ b. if b then Some (Nested (blanks_of line) (without_first_blanks line)) else others) belongs
    ∙ ap₂ (λ n rest. Some (Nested n rest)) blanks first)

line_is : (outer : Option Outer) (label value : List ℕ) → is_word label ≡ true → is_word value ≡ true
    → line_of (blanks_before outer ++ (label ++ (58 ∷ 32 ∷ value))) ≡ Some (line_by outer label value)
line_is outer [] value word shows = let never : ⊥ = cc in absurd never
line_is outer (a ∷ label) [] word shows = let never : ⊥ = cc in absurd never
line_is None (a ∷ label) (c ∷ value) word shows =
    plain_line a (label ++ (58 ∷ 32 ∷ c ∷ value)) (word_bytes (a ∷ label) word).0
    ∙ ap (λ pair. Some (entry_or_none pair)) (pair_of_word a c label value (word_bytes (a ∷ label) word) (word_bytes (c ∷ value) shows))
line_is (Some outer) (a ∷ label) (c ∷ value) word shows = nested_line a (label ++ (58 ∷ 32 ∷ c ∷ value)) (word_bytes (a ∷ label) word).0

key_line_is : (style : Style) → IsInRange style → (key : Key) → line_of (key_text style key) ≡ Some (key_line style key)
key_line_is style range key =
    ap (λ blanks. line_of (blanks ++ (label_of key ++ (58 ∷ 32 ∷ shown style key)))) (indent_is key)
    ∙ line_is (outer_key key) (label_of key) (shown style key) (label_is_word key) (shown-word style range key)

-- the own line of an outer key
abbrev pub outer_line : List ℕ → Line
outer_line name = Entry (record { key = name; value = []; is_quoted = false })

heading_is : (outer : Outer) → line_of (outer_name outer ++ 58 ∷ []) ≡ Some (outer_line (outer_name outer))
unfolding comment_start
heading_is BraceWrapping = refl
heading_is AlignTrailingComments = refl

heading_of_key : (outer : Option Outer) (name : List ℕ) (first : Bool) → name ≡ name_of outer → (outer ≡ None → first ≡ false) → first ≡ true
    → line_of (name ++ 58 ∷ []) ≡ Some (outer_line name)
heading_of_key None name first is no_first yes_first = let clash : false ≡ true = sym (no_first refl) ∙ yes_first in let never : ⊥ = cc in absurd never
heading_of_key (Some outer) name first is no_first yes_first = rw is (heading_is outer)

-- the number of the line that follows a key's
abbrev pub next_number : Bool → ℕ → ℕ
next_number true number = number + 1 + 1
next_number false number = number + 1

-- a key's lines before others
abbrev pub with_key : Bool → ℕ → List ℕ → Line → List NumberedLine → List NumberedLine
with_key true number outer line rest = record { number = number; line = outer_line outer } ∷ record { number = number + 1; line = line } ∷ rest
with_key false number outer line rest = record { number = number; line = line } ∷ rest

-- the lines of keys
abbrev pub body : Style → ℕ → List Key → List NumberedLine
body style number [] = []
body style number (key ∷ keys) =
    with_key (is_first_inside key) number (outer_text_of key) (key_line style key) (body style (next_number (is_first_inside key) number) keys)

-- the number of the line behind them
abbrev pub number_behind : ℕ → List Key → ℕ
number_behind number [] = number
number_behind number (key ∷ keys) = number_behind (next_number (is_first_inside key) number) keys

abbrev pub end_mark : ℕ → List NumberedLine
end_mark number = record { number = number; line = Marker } ∷ []

one_line : (number : ℕ) (text : List ℕ) (rest : List (List ℕ)) (line : Line) → line_of text ≡ Some line
    → numbered_from number (text ∷ rest) ≡ record { number = number; line = line } ∷ numbered_from (number + 1) rest
unfolding numbered_from
one_line number text rest line is = ap (λ l. with_line number l (numbered_from (number + 1) rest)) is

no_line : (number : ℕ) → numbered_from number [] ≡ []
unfolding numbered_from
no_line number = refl

with_key_is : (first : Bool) (number : ℕ) (outer text : List ℕ) (line : Line) (texts : List (List ℕ)) (rest : List NumberedLine)
    → (first ≡ true → line_of (outer ++ 58 ∷ []) ≡ Some (outer_line outer)) → line_of text ≡ Some line → numbered_from (next_number first number) texts ≡ rest
    → numbered_from number (with_heading first outer (text ∷ texts)) ≡ with_key first number outer line rest
with_key_is true number outer text line texts rest heading is others =
    one_line number (outer ++ 58 ∷ []) (text ∷ texts) (outer_line outer) (heading refl)
    ∙ ap (λ xs. record { number = number; line = outer_line outer } ∷ xs)
    (one_line (number + 1) text texts line is ∙ ap (λ xs. record { number = number + 1; line = line } ∷ xs) others)
with_key_is false number outer text line texts rest heading is others =
    one_line number text texts line is ∙ ap (λ xs. record { number = number; line = line } ∷ xs) others

with_key-append : (first : Bool) (number : ℕ) (outer : List ℕ) (line : Line) (rest more : List NumberedLine)
    → with_key first number outer line (rest ++ more) ≡ with_key first number outer line rest ++ more
with_key-append true number outer line rest more = refl
with_key-append false number outer line rest more = refl

body_is : (style : Style) → IsInRange style → (number : ℕ) (keys : List Key)
    → numbered_from number (texts_of style keys) ≡ body style number keys ++ end_mark (number_behind number keys)
body_is style range number [] = one_line number (codes "...") [] Marker refl ∙ ap (λ xs. record { number = number; line = Marker } ∷ xs) (no_line (number + 1))
body_is style range number (key ∷ keys) =
    let first : Bool = is_first_inside key in
    with_key_is first number (outer_text_of key) (key_text style key) (key_line style key) (texts_of style keys) _
    (heading_of_key (outer_key key) (outer_text_of key) first (name_is key) (first_has_outer key)) (key_line_is style range key)
    (body_is style range (next_number first number) keys)
    ∙ with_key-append first number (outer_text_of key) (key_line style key) (body style (next_number first number) keys) (end_mark (number_behind (next_number first number) keys))

-- the document that is written of a style
abbrev pub language_line : NumberedLine
language_line = record { number = 1 + 1; line = Entry (record { key = codes "Language"; value = codes "Cpp"; is_quoted = false }) }

language_is : line_of (codes "Language: Cpp") ≡ Some (Entry (record { key = codes "Language"; value = codes "Cpp"; is_quoted = false }))
unfolding comment_start
language_is = refl

lines_are : (style : Style) → IsInRange style → (keys : List Key)
    → numbered_from 1 (codes "---" ∷ codes "Language: Cpp" ∷ texts_of style keys)
    ≡ record { number = 1; line = Marker } ∷ language_line ∷ (body style (1 + 1 + 1) keys ++ end_mark (number_behind (1 + 1 + 1) keys))
lines_are style range keys =
    one_line 1 (codes "---") (codes "Language: Cpp" ∷ texts_of style keys) Marker refl
    ∙ ap (λ xs. record { number = 1; line = Marker } ∷ xs)
    (one_line (1 + 1) (codes "Language: Cpp") (texts_of style keys) _ language_is ∙ ap (λ xs. language_line ∷ xs) (body_is style range (1 + 1 + 1) keys))

abbrev mark : NumberedLine → Bool
mark line = is_marker line.line

abbrev NoMark : List NumberedLine → Type 0
NoMark [] = Unit {0}
NoMark (line ∷ lines) = (is_marker line.line ≡ false) × NoMark lines

split_end : (lines : List NumberedLine) (number : ℕ) → NoMark lines → slice_split mark (lines ++ end_mark number) ≡ lines ∷ [] ∷ []
split_end [] number none = refl
split_end (line ∷ lines) number none =
    ap (λ b. cond b ([] ∷ slice_split mark (lines ++ end_mark number)) (onto_first line (slice_split mark (lines ++ end_mark number)))) none.0
    ∙ ap (onto_first line) (split_end lines number none.1)

no_mark_by : (outer : Option Outer) (label value : List ℕ) → is_marker (line_by outer label value) ≡ false
no_mark_by None label value = refl
no_mark_by (Some outer) label value = refl

no_mark_with : (first : Bool) (number : ℕ) (outer : List ℕ) (line : Line) (rest : List NumberedLine) → is_marker line ≡ false → NoMark rest → NoMark (with_key first number outer line rest)
no_mark_with true number outer line rest none others = (refl, (none, others))
no_mark_with false number outer line rest none others = (none, others)

no_mark : (style : Style) (number : ℕ) (keys : List Key) → NoMark (body style number keys)
no_mark style number [] = tt
no_mark style number (key ∷ keys) =
    no_mark_with (is_first_inside key) number (outer_text_of key) (key_line style key) _ (no_mark_by (outer_key key) (label_of key) (shown style key))
    (no_mark style (next_number (is_first_inside key) number) keys)

-- the documents: nothing before the first mark, the keys, and nothing behind the last
abbrev pub dump_documents : Style → List Key → List (List NumberedLine)
dump_documents style keys = [] ∷ (language_line ∷ body style (1 + 1 + 1) keys) ∷ [] ∷ []

documents_are : (style : Style) → IsInRange style → (keys : List Key)
    → documents (numbered_from 1 (codes "---" ∷ codes "Language: Cpp" ∷ texts_of style keys)) ≡ dump_documents style keys
documents_are style range keys =
    ap (slice_split mark) (lines_are style range keys)
    ∙ ap (λ parts. [] ∷ parts) (split_end (language_line ∷ body style (1 + 1 + 1) keys) (number_behind (1 + 1 + 1) keys) (refl, no_mark style (1 + 1 + 1) keys))

for_c : (style : Style) (all : List Key) → filter is_for_c (dump_documents style all) ≡ dump_documents style all
unfolding is_for_c
for_c style all = refl

documents_for_c_are : (style : Style) → IsInRange style → (keys : List Key)
    → documents_for_c (numbered_from 1 (codes "---" ∷ codes "Language: Cpp" ∷ texts_of style keys)) ≡ dump_documents style keys
documents_for_c_are style range keys = ap (filter is_for_c) (documents_are style range keys) ∙ for_c style keys

-- the documents of what is written of a style
pub dump_documents_are : (style : Style) → IsInRange style → documents_for_c (lines_in (dump_text style)) ≡ dump_documents style keys
dump_documents_are style range =
    ap (λ texts. documents_for_c (numbered_from 1 texts)) (dump_is_cut style range) ∙ documents_for_c_are style range keys

based_by : (base : Style) (outer : Option Outer) (label value : List ℕ) → bytes_eq label (codes "BasedOnStyle") ≡ false
    → based_on base (value_at (codes "BasedOnStyle") (line_by outer label value)) ≡ base
based_by base None label value no_base = ap (λ b. based_on base (if b then Some value else None)) no_base
based_by base (Some outer) label value no_base = refl

outer_no_base : (outer : Option Outer) → bytes_eq (name_of outer) (codes "BasedOnStyle") ≡ false
outer_no_base None = refl
outer_no_base (Some BraceWrapping) = refl
outer_no_base (Some AlignTrailingComments) = refl

base_with : (base : Style) (first : Bool) (number : ℕ) (outer : List ℕ) (line : Line) (rest : List NumberedLine)
    → bytes_eq outer (codes "BasedOnStyle") ≡ false → based_on base (value_at (codes "BasedOnStyle") line) ≡ base → base_after base rest ≡ base
    → base_after base (with_key first number outer line rest) ≡ base
unfolding base_after
base_with base true number outer line rest no_base same others =
    ap (λ b. base_after (based_on (based_on base (if b then Some [] else None)) (value_at (codes "BasedOnStyle") line)) rest) no_base
    ∙ (ap (λ s. base_after s rest) same ∙ others)
base_with base false number outer line rest no_base same others = ap (λ s. base_after s rest) same ∙ others

base_body : (base style : Style) (number : ℕ) (keys : List Key) → base_after base (body style number keys) ≡ base
unfolding base_after
base_body base style number [] = refl
base_body base style number (key ∷ keys) =
    base_with base (is_first_inside key) number (outer_text_of key) (key_line style key) _
    (ap (λ name. bytes_eq name (codes "BasedOnStyle")) (name_is key) ∙ outer_no_base (outer_key key))
    (based_by base (outer_key key) (label_of key) (shown style key) (label_is_no_base key))
    (base_body base style (next_number (is_first_inside key) number) keys)

-- what is written of a style names no base
pub dump_base : (base style : Style) (keys : List Key) → base_of base (dump_documents style keys) ≡ base
unfolding base_of base_after
dump_base base style keys = base_body base style (1 + 1 + 1) keys
