-- What is written of a style is read back as that style.
use Rattle.std.proofs.Common.{◌≡◌, ◌+◌, ℕ, Bool, true, false, not, ◌&&◌, if◌then◌else◌, List, [], ◌∷◌, ◌++◌, Some, None, Option, Ok, Err, Result, fold, refl, ap, sym, ◌∙◌, codes}
use Rattle.style_table.specs.declared.style.Style.{Style}
use Rattle.style_table.specs.declared.key.Key.{Key}
use Rattle.style_table.specs.Keys.{keys, shown, with_value, label_of, is_first_inside, outer_of as outer_text_of}
use Rattle.style_config.specs.Dump.{dump_text}
use Rattle.style_table.specs.Range.{IsInRange}
use Rattle.style_table.proofs.ReadBack.{copied, copied-all, with_value-shown}
use Rattle.style_config.specs.declared.entry.Outer.{Outer}
use Rattle.style_config.specs.declared.entry.Outer.TheVariants.{BraceWrapping, AlignTrailingComments}
use Rattle.style_config.specs.declared.entry.Owner.{Owner}
use Rattle.style_config.specs.declared.entry.Owner.TheVariants.{AnyKey, OuterKey}
use Rattle.style_config.specs.declared.reading.Meaning.TheVariants.{Known}
use Rattle.style_config.specs.declared.fault.ConfigFault.{ConfigFault}
use Rattle.style_config.specs.declared.fault.ConfigFault.TheVariants.{NotUtf8, BadLine, UnknownStyle, BadValue, OutOfRange, Repeated, NoMemory}
use Rattle.style_config.specs.declared.skipped.SkippedKey.{SkippedKey}
use Rattle.std.specs.Str.{IsUtf8}
use Rattle.style_config.specs.Texts.{Pair, pair_of}
use Rattle.style_config.specs.Lines.{Entry, Nested, NumberedLine, base_of}
use Rattle.style_config.specs.Entries.{outer_name, outer_of, owner_of, Setting, Item, Given, inner_item, items_from, items_of, begins_nested}
use Rattle.style_config.specs.Reading.{Effect, path, path_of, meaning_of, with_read, read_as, read_setting, is_among, read_items, unless_fault, read_documents, reading, Reads, IsReadBack}
use Rattle.style_config.proofs.Words.{pair_of_word}
use Rattle.style_config.proofs.Shown.{is_word, shown-word}
use Rattle.style_config.proofs.Labels.{outer_key, name_of, name_is, label_is_word, label_is_no_outer, meaning_is, first_has_outer}
use Rattle.style_config.proofs.DumpText.{word_bytes}
use Rattle.style_config.proofs.DumpLines.{line_by, outer_line, next_number, with_key, body, language_line, dump_documents, dump_documents_are, dump_base}

-- a style, with no key skipped
abbrev with_style : Style → Effect
with_style style = record { style = style; skipped = [] }

known_setting : (style base : Style) (key : Key) (setting : Setting) → IsInRange style → meaning_of setting.outer setting.label ≡ Known key → setting.value ≡ shown style key
    → read_setting (with_style base) setting ≡ Ok (with_style (copied style base key))
known_setting style base key setting range means shows =
    ap (λ meaning. read_as meaning (with_style base) setting) means
    ∙ ap (with_read setting.line []) (ap (with_value base key) shows ∙ with_value-shown style base range key)

read_one : (before : List (List ℕ)) (effect next : Effect) (setting : Setting) (items : List Item) → is_among (path_of setting) before ≡ false
    → read_setting effect setting ≡ Ok next → read_items before effect (Given setting ∷ items) ≡ read_items (before ++ path_of setting ∷ []) next items
unfolding read_items
read_one before effect next setting items new reads =
    ap (λ b. unless_fault (if b then Err (Repeated setting.line) else read_setting effect setting) (λ e. read_items (before ++ path_of setting ∷ []) e items)) new
    ∙ ap (λ r. unless_fault r (λ e. read_items (before ++ path_of setting ∷ []) e items)) reads

entry_item : (owner : Owner) (number : ℕ) (pair : Pair) (rest : List NumberedLine)
    → items_from owner (record { number = number; line = Entry pair } ∷ rest)
    ≡ Given (record { line = number; outer = None; label = pair.key; value = pair.value; is_quoted = pair.is_quoted; has_lines = begins_nested rest }) ∷ items_from (owner_of (outer_of pair.key)) rest
unfolding items_from
entry_item owner number pair rest = refl

first_item : (outer : Outer) (number : ℕ) (text : List ℕ) (rest : List NumberedLine)
    → items_from (OuterKey outer None) (record { number = number; line = Nested 2 text } ∷ rest) ≡ inner_item number outer (pair_of text) ∷ items_from (OuterKey outer (Some 2)) rest
unfolding items_from
first_item outer number text rest = refl

next_item : (outer : Outer) (number : ℕ) (text : List ℕ) (rest : List NumberedLine)
    → items_from (OuterKey outer (Some 2)) (record { number = number; line = Nested 2 text } ∷ rest) ≡ inner_item number outer (pair_of text) ∷ items_from (OuterKey outer (Some 2)) rest
unfolding items_from
next_item outer number text rest = refl

pair_is : (label value : List ℕ) → is_word label ≡ true → is_word value ≡ true → pair_of (label ++ (58 ∷ 32 ∷ value)) ≡ Some (record { key = label; value = value; is_quoted = false })
pair_is [] value word shows = let never : ⊥ = cc in absurd never
pair_is (a ∷ label) [] word shows = let never : ⊥ = cc in absurd never
pair_is (a ∷ label) (c ∷ value) word shows = pair_of_word a c label value (word_bytes (a ∷ label) word) (word_bytes (c ∷ value) shows)

-- what the lines behind a key belong to
abbrev owner_behind : Option Outer → Owner
owner_behind None = AnyKey
owner_behind (Some outer) = OuterKey outer (Some 2)

abbrev is_same : Outer → Outer → Bool
is_same BraceWrapping BraceWrapping = true
is_same AlignTrailingComments AlignTrailingComments = true
is_same BraceWrapping AlignTrailingComments = false
is_same AlignTrailingComments BraceWrapping = false

same_outer : (a b : Outer) → is_same a b ≡ true → a ≡ b
same_outer BraceWrapping BraceWrapping is = refl
same_outer AlignTrailingComments AlignTrailingComments is = refl
same_outer BraceWrapping AlignTrailingComments is = let never : ⊥ = cc in absurd never
same_outer AlignTrailingComments BraceWrapping is = let never : ⊥ = cc in absurd never

-- a key stands behind the line of its outer key
abbrev is_led : Option Outer → Option Outer → Bool → Bool
is_led before None first = true
is_led before (Some outer) true = true
is_led None (Some outer) false = false
is_led (Some other) (Some outer) false = is_same other outer

abbrev are_led : Option Outer → List Key → Bool
are_led before [] = true
are_led before (key ∷ keys) = is_led before (outer_key key) (is_first_inside key) && are_led (outer_key key) keys

-- the names behind a key's
abbrev names_behind : Bool → List (List ℕ) → List ℕ → List ℕ → List (List ℕ)
names_behind true before outer name = (before ++ outer ∷ []) ++ name ∷ []
names_behind false before outer name = before ++ name ∷ []

-- a key's names stand nowhere before
abbrev is_new : Bool → List (List ℕ) → List ℕ → List ℕ → Bool
is_new true before outer name = not (is_among outer before) && not (is_among name (before ++ outer ∷ []))
is_new false before outer name = not (is_among name before)

abbrev name_of_key : Key → List ℕ
name_of_key key = path (outer_key key) (label_of key)

abbrev are_new : List (List ℕ) → List Key → Bool
are_new before [] = true
are_new before (key ∷ keys) =
    is_new (is_first_inside key) before (outer_text_of key) (name_of_key key)
    && are_new (names_behind (is_first_inside key) before (outer_text_of key) (name_of_key key)) keys

both : (a b : Bool) → (a && b) ≡ true → (a ≡ true) × (b ≡ true)
both true b is = (refl, is)
both false b is = let never : ⊥ = cc in absurd never

not_true : (b : Bool) → not b ≡ true → b ≡ false
not_true true is = sym is
not_true false is = refl

outer_means : (outer : Outer) (line : ℕ) (effect : Effect)
    → read_setting effect (record { line = line; outer = None; label = outer_name outer; value = []; is_quoted = false; has_lines = true }) ≡ Ok effect
outer_means BraceWrapping line effect = refl
outer_means AlignTrailingComments line effect = refl

outer_owns : (outer : Outer) → owner_of (outer_of (outer_name outer)) ≡ OuterKey outer None
outer_owns BraceWrapping = refl
outer_owns AlignTrailingComments = refl

-- the items of what an outer key's line and the first line under it give
heading_items : (owner : Owner) (outer : Outer) (number : ℕ) (text : List ℕ) (pair : Pair) (rest : List NumberedLine) → pair_of text ≡ Some pair
    → items_from owner (record { number = number; line = outer_line (outer_name outer) } ∷ record { number = number + 1; line = Nested 2 text } ∷ rest)
    ≡ Given (record { line = number; outer = None; label = outer_name outer; value = []; is_quoted = false; has_lines = true })
    ∷ Given (record { line = number + 1; outer = Some outer; label = pair.key; value = pair.value; is_quoted = pair.is_quoted; has_lines = false }) ∷ items_from (OuterKey outer (Some 2)) rest
heading_items owner outer number text pair rest is =
    entry_item owner number (record { key = outer_name outer; value = []; is_quoted = false }) (record { number = number + 1; line = Nested 2 text } ∷ rest)
    ∙ ap (λ items. Given (record { line = number; outer = None; label = outer_name outer; value = []; is_quoted = false; has_lines = true }) ∷ items)
    (ap (λ o. items_from o (record { number = number + 1; line = Nested 2 text } ∷ rest)) (outer_owns outer)
    ∙ (first_item outer (number + 1) text rest ∙ ap (λ p. inner_item (number + 1) outer p ∷ items_from (OuterKey outer (Some 2)) rest) is))

key_read : (style base : Style) (key : Key) (before : List (List ℕ)) (last outer : Option Outer) (first : Bool) (number : ℕ) (name label value : List ℕ) (rest : List NumberedLine)
    → IsInRange style → name ≡ name_of outer → (outer ≡ None → first ≡ false) → is_word label ≡ true → value ≡ shown style key → outer_of label ≡ None
    → meaning_of outer label ≡ Known key → is_led last outer first ≡ true → is_new first before name (path outer label) ≡ true
    → read_items before (with_style base) (items_from (owner_behind last) (with_key first number name (line_by outer label value) rest))
    ≡ read_items (names_behind first before name (path outer label)) (with_style (copied style base key)) (items_from (owner_behind outer) rest)
key_read style base key before last None true number name label value rest range named no_first word shows no_outer means led new =
    let clash : false ≡ true = sym (no_first refl) in let never : ⊥ = cc in absurd never
key_read style base key before last None false number name label value rest range named no_first word shows no_outer means led new =
    let setting : Setting = record { line = number; outer = None; label = label; value = value; is_quoted = false; has_lines = begins_nested rest } in
    ap (read_items before (with_style base)) (entry_item (owner_behind last) number (record { key = label; value = value; is_quoted = false }) rest)
    ∙ (read_one before (with_style base) (with_style (copied style base key)) setting (items_from (owner_of (outer_of label)) rest) (not_true (is_among label before) new) (known_setting style base key setting range means shows)
    ∙ ap (λ o. read_items (before ++ label ∷ []) (with_style (copied style base key)) (items_from (owner_of o) rest)) no_outer)
key_read style base key before last (Some outer) true number name label value rest range named no_first word shows no_outer means led new =
    let text : List ℕ = label ++ (58 ∷ 32 ∷ value) in
    let pair = pair_is label value word (ap is_word shows ∙ shown-word style range key) in
    let news = both (not (is_among name before)) (not (is_among (path (Some outer) label) (before ++ name ∷ []))) new in
    let heading : Setting = record { line = number; outer = None; label = outer_name outer; value = []; is_quoted = false; has_lines = true } in
    let inner : Setting = record { line = number + 1; outer = Some outer; label = label; value = value; is_quoted = false; has_lines = false } in
    ap (λ n. read_items before (with_style base) (items_from (owner_behind last) (with_key true number n (Nested 2 text) rest))) named
    ∙ (ap (read_items before (with_style base)) (heading_items (owner_behind last) outer number text (record { key = label; value = value; is_quoted = false }) rest pair)
    ∙ (read_one before (with_style base) (with_style base) heading (Given inner ∷ items_from (OuterKey outer (Some 2)) rest)
    (ap (λ n. is_among n before) (sym named) ∙ not_true (is_among name before) news.0) (outer_means outer number (with_style base))
    ∙ (read_one (before ++ outer_name outer ∷ []) (with_style base) (with_style (copied style base key)) inner (items_from (OuterKey outer (Some 2)) rest)
    (ap (λ n. is_among (path (Some outer) label) (before ++ n ∷ [])) (sym named) ∙ not_true (is_among (path (Some outer) label) (before ++ name ∷ [])) news.1)
    (known_setting style base key inner range means shows)
    ∙ ap (λ n. read_items ((before ++ n ∷ []) ++ path (Some outer) label ∷ []) (with_style (copied style base key)) (items_from (OuterKey outer (Some 2)) rest)) (sym named))))
key_read style base key before None (Some outer) false number name label value rest range named no_first word shows no_outer means led new = let never : ⊥ = cc in absurd never
key_read style base key before (Some other) (Some outer) false number name label value rest range named no_first word shows no_outer means led new =
    let text : List ℕ = label ++ (58 ∷ 32 ∷ value) in
    let pair = pair_is label value word (ap is_word shows ∙ shown-word style range key) in
    let inner : Setting = record { line = number; outer = Some outer; label = label; value = value; is_quoted = false; has_lines = false } in
    ap (λ o. read_items before (with_style base) (items_from (OuterKey o (Some 2)) (record { number = number; line = Nested 2 text } ∷ rest))) (same_outer other outer led)
    ∙ (ap (read_items before (with_style base)) (next_item outer number text rest ∙ ap (λ p. inner_item number outer p ∷ items_from (OuterKey outer (Some 2)) rest) pair)
    ∙ read_one before (with_style base) (with_style (copied style base key)) inner (items_from (OuterKey outer (Some 2)) rest)
    (not_true (is_among (path (Some outer) label) before) new) (known_setting style base key inner range means shows))

nothing_left : (before : List (List ℕ)) (effect : Effect) (owner : Owner) → read_items before effect (items_from owner []) ≡ Ok effect
unfolding read_items items_from
nothing_left before effect owner = refl

keys_read : (style base : Style) (before : List (List ℕ)) (last : Option Outer) (number : ℕ) (all : List Key) → IsInRange style → are_led last all ≡ true → are_new before all ≡ true
    → read_items before (with_style base) (items_from (owner_behind last) (body style number all)) ≡ Ok (with_style (fold (copied style) base all))
keys_read style base before last number [] range led new = nothing_left before (with_style base) (owner_behind last)
keys_read style base before last number (key ∷ all) range led new =
    let first : Bool = is_first_inside key in
    let leads = both (is_led last (outer_key key) first) (are_led (outer_key key) all) led in
    let behind : List (List ℕ) = names_behind first before (outer_text_of key) (name_of_key key) in
    let news = both (is_new first before (outer_text_of key) (name_of_key key)) (are_new behind all) new in
    key_read style base key before last (outer_key key) first number (outer_text_of key) (label_of key) (shown style key) (body style (next_number first number) all) range
    (name_is key) (first_has_outer key) (label_is_word key) refl (label_is_no_outer key) (meaning_is key) leads.0 news.0
    ∙ keys_read style (copied style base key) behind (outer_key key) (next_number first number) all range leads.1 news.1

keys_are_led : are_led None keys ≡ true
keys_are_led = refl

keys_are_new : are_new (codes "Language" ∷ []) keys ≡ true
keys_are_new = refl

document_read : (style base : Style) (rest : List NumberedLine)
    → read_items [] (with_style base) (items_of (language_line ∷ rest)) ≡ read_items (codes "Language" ∷ []) (with_style base) (items_from AnyKey rest)
unfolding read_items items_from
document_read style base rest = refl

documents_read : (style base : Style) (all : List Key) → read_items [] (with_style base) (items_of (language_line ∷ body style (1 + 1 + 1) all)) ≡ Ok (with_style style)
    → read_documents (with_style base) (dump_documents style all) ≡ Ok (with_style style)
unfolding read_documents read_items items_from
documents_read style base all reads =
    ap (λ r. unless_fault r (λ next. read_documents next ([] ∷ []))) reads

-- reading what is written of a style gives that style, and skips no key, whatever the base is
pub reading_of_dump : (style base : Style) → IsInRange style → reading (dump_text style) base ≡ Ok (record { style = style; skipped = [] })
reading_of_dump style base range =
    ap (λ documents. read_documents (with_style (base_of base documents)) documents) (dump_documents_are style range)
    ∙ (ap (λ s. read_documents (with_style s) (dump_documents style keys)) (dump_base base style keys)
    ∙ documents_read style base keys
    (document_read style base (body style (1 + 1 + 1) keys)
    ∙ (keys_read style base (codes "Language" ∷ []) None (1 + 1 + 1) keys range keys_are_led keys_are_new ∙ ap (λ s. Ok (with_style s)) (copied-all style base))))

abbrev style_in : Style → Result Effect ConfigFault → Style
style_in other (Ok effect) = effect.style
style_in other (Err fault) = other

abbrev skipped_in : Result Effect ConfigFault → List SkippedKey
skipped_in (Ok effect) = effect.skipped
skipped_in (Err fault) = []

no_fault : (style base : Style) (text : List ℕ) (fault : ConfigFault) → IsInRange style → text ≡ dump_text style → reading text base ≡ Err fault → ⊥
no_fault style base text fault range is faulty =
    let clash : Err fault ≡ Ok (with_style style) = sym faulty ∙ (ap (λ t. reading t base) is ∙ reading_of_dump style base range) in cc

-- so an answer to it is that style with no key skipped, or want of memory
pub dump_is_read_back : (style base : Style) (text : List ℕ) (result : Result (Style × List SkippedKey) ConfigFault) → IsInRange style → text ≡ dump_text style
    → IsUtf8 text → Reads text base result → IsReadBack style result
dump_is_read_back style base text (Ok read) range is valid reads =
    let same : Ok (record { style = read.0; skipped = read.1 }) ≡ Ok (record { style = style; skipped = [] }) =
    sym reads.1 ∙ (ap (λ t. reading t base) is ∙ reading_of_dump style base range) in
    (ap (λ r. style_in style r) same, ap skipped_in same)
dump_is_read_back style base text (Err NoMemory) range is valid reads = tt
dump_is_read_back style base text (Err (NotUtf8 offset)) range is valid reads = reads.0 valid
dump_is_read_back style base text (Err (BadLine line)) range is valid reads = no_fault style base text (BadLine line) range is reads.1
dump_is_read_back style base text (Err (UnknownStyle line)) range is valid reads = no_fault style base text (UnknownStyle line) range is reads.1
dump_is_read_back style base text (Err (BadValue line)) range is valid reads = no_fault style base text (BadValue line) range is reads.1
dump_is_read_back style base text (Err (OutOfRange line)) range is valid reads = no_fault style base text (OutOfRange line) range is reads.1
dump_is_read_back style base text (Err (Repeated line)) range is valid reads = no_fault style base text (Repeated line) range is reads.1
