-- What is written of a style, as lines.
use Rattle.std.proofs.Common.{◌≡◌, ℕ, Bool, true, false, ◌&&◌, if◌then◌else◌, List, [], ◌∷◌, ◌++◌, Some, None, Option, map, length, refl, ap, sym, subst, ◌∙◌, arith, append_assoc, codes, nat_lt}
use Rattle.std.specs.Str.{IsUtf8}
use Rattle.std.specs.List.{list_all}
use Rattle.bstr.specs.Text.{lines_of, without_terminator}
use Rattle.style_table.specs.declared.style.Style.{Style}
use Rattle.style_table.specs.declared.key.Key.{Key}
use Rattle.style_table.specs.Keys.{keys, shown, label_of, is_first_inside, outer_of as outer_text_of}
use Rattle.style_config.specs.Dump.{heading_of, indent_of, entry_text, entries_text, dump_text}
use Rattle.style_table.specs.Range.{IsInRange}
use Rattle.style_config.specs.declared.entry.Outer.{Outer}
use Rattle.style_config.specs.declared.entry.Outer.TheVariants.{BraceWrapping, AlignTrailingComments}
use Rattle.style_config.specs.Texts.{is_key_byte}
use Rattle.style_config.proofs.Cut.{is_plain, ArePlain, AllPlain, text_of_lines, lines_are_cut, lines_are_text}
use Rattle.style_config.proofs.Words.{AreKeyBytes, key_bytes}
use Rattle.style_config.proofs.Shown.{is_word, shown-word}
use Rattle.style_config.proofs.Labels.{outer_key, blanks_before, name_of, name_is, indent_is, label_is_word}

-- the line of a key
abbrev pub key_text : Style → Key → List ℕ
key_text style key = indent_of key ++ (label_of key ++ (58 ∷ 32 ∷ shown style key))

-- an outer key's own line before others, if it has one
abbrev pub with_heading : Bool → List ℕ → List (List ℕ) → List (List ℕ)
with_heading first outer rest = if first then (outer ++ 58 ∷ []) ∷ rest else rest

-- the lines of keys, and the end of the document
abbrev pub texts_of : Style → List Key → List (List ℕ)
texts_of style [] = codes "..." ∷ []
texts_of style (key ∷ keys) = with_heading (is_first_inside key) (outer_text_of key) (key_text style key ∷ texts_of style keys)

-- all lines
abbrev pub all_texts : Style → List (List ℕ)
all_texts style = codes "---" ∷ codes "Language: Cpp" ∷ texts_of style keys

flat : (h i l s v e rest : List ℕ) → (((((h ++ i) ++ l) ++ s) ++ v) ++ e) ++ rest ≡ h ++ ((i ++ (l ++ (s ++ v))) ++ (e ++ rest))
flat [] [] [] [] v e rest = append_assoc v e rest
flat [] [] [] (x ∷ s) v e rest = ap (λ t. x ∷ t) (flat [] [] [] s v e rest)
flat [] [] (x ∷ l) s v e rest = ap (λ t. x ∷ t) (flat [] [] l s v e rest)
flat [] (x ∷ i) l s v e rest = ap (λ t. x ∷ t) (flat [] i l s v e rest)
flat (x ∷ h) i l s v e rest = ap (λ t. x ∷ t) (flat h i l s v e rest)

heading_text : (first : Bool) (outer : List ℕ) (rest : List (List ℕ))
    → text_of_lines (with_heading first outer rest) ≡ (if first then outer ++ codes ":\n" else []) ++ text_of_lines rest
heading_text true outer rest = append_assoc outer (58 ∷ []) (10 ∷ text_of_lines rest) ∙ sym (append_assoc outer (codes ":\n") (text_of_lines rest))
heading_text false outer rest = refl

texts-entries : (style : Style) (keys : List Key) → text_of_lines (texts_of style keys) ≡ entries_text style keys ++ codes "...\n"
texts-entries style [] = refl
texts-entries style (key ∷ keys) =
    let rest : List ℕ = entries_text style keys ++ codes "...\n" in
    heading_text (is_first_inside key) (outer_text_of key) (key_text style key ∷ texts_of style keys)
    ∙ (ap (λ t. heading_of key ++ (key_text style key ++ 10 ∷ t)) (texts-entries style keys)
    ∙ (sym (flat (heading_of key) (indent_of key) (label_of key) (codes ": ") (shown style key) (codes "\n") rest)
    ∙ sym (append_assoc (entry_text style key) (entries_text style keys) (codes "...\n"))))

-- what is written of a style is the text of these lines
pub dump-texts : (style : Style) → dump_text style ≡ text_of_lines (all_texts style)
unfolding dump_text
dump-texts style =
    append_assoc (codes "---\nLanguage: Cpp\n") (entries_text style keys) (codes "...\n")
    ∙ ap (λ t. codes "---\nLanguage: Cpp\n" ++ t) (sym (texts-entries style keys))

plain_byte : (c : ℕ) → is_key_byte c ≡ true → is_plain c ≡ true
plain_byte c is = grind arith

plain_word : (text : List ℕ) → AreKeyBytes text → ArePlain text
plain_word [] all = tt
plain_word (c ∷ text) all = (plain_byte c all.0, plain_word text all.1)

plain-append : (xs ys : List ℕ) → ArePlain xs → ArePlain ys → ArePlain (xs ++ ys)
plain-append [] ys first rest = rest
plain-append (c ∷ xs) ys first rest = (first.0, plain-append xs ys first.1 rest)

plain_blanks : (outer : Option Outer) → ArePlain (blanks_before outer)
plain_blanks None = tt
plain_blanks (Some outer) = (refl, (refl, tt))

both : (a b : Bool) → (a && b) ≡ true → (a ≡ true) × (b ≡ true)
both true b is = (refl, is)
both false b is = let never : ⊥ = cc in absurd never

-- a word by the test that computes it
pub word_bytes : (text : List ℕ) → is_word text ≡ true → AreKeyBytes text
word_bytes text is = key_bytes text (both (list_all is_key_byte text) (nat_lt 0 (length text)) is).0

plain_by : (text : List ℕ) → list_all is_plain text ≡ true → ArePlain text
plain_by [] all = tt
plain_by (c ∷ text) all = let p = both (is_plain c) (list_all is_plain text) all in (p.0, plain_by text p.1)

plain_name : (outer : Option Outer) → list_all is_key_byte (name_of outer) ≡ true
plain_name None = refl
plain_name (Some BraceWrapping) = refl
plain_name (Some AlignTrailingComments) = refl

plain_key : (style : Style) → IsInRange style → (key : Key) → ArePlain (key_text style key)
plain_key style range key =
    rw (indent_is key) (plain-append (blanks_before (outer_key key)) _ (plain_blanks (outer_key key))
    (plain-append (label_of key) _ (plain_word (label_of key) (word_bytes (label_of key) (label_is_word key)))
    (refl, (refl, plain_word (shown style key) (word_bytes (shown style key) (shown-word style range key))))))

plain_heading : (key : Key) → ArePlain (outer_text_of key ++ 58 ∷ [])
plain_heading key = plain-append (outer_text_of key) (58 ∷ [])
    (rw (name_is key) (plain_word (name_of (outer_key key)) (key_bytes (name_of (outer_key key)) (plain_name (outer_key key))))) (refl, tt)

plain-with : (first : Bool) (key : Key) (rest : List (List ℕ)) → AllPlain rest → AllPlain (with_heading first (outer_text_of key) rest)
plain-with true key rest plain = (plain_heading key, plain)
plain-with false key rest plain = plain

plain_texts : (style : Style) → IsInRange style → (keys : List Key) → AllPlain (texts_of style keys)
plain_texts style range [] = ((refl, (refl, (refl, tt))), tt)
plain_texts style range (key ∷ keys) =
    plain-with (is_first_inside key) key (key_text style key ∷ texts_of style keys) (plain_key style range key, plain_texts style range keys)

plain_all : (style : Style) → IsInRange style → (rest : List (List ℕ)) → AllPlain rest → AllPlain (codes "---" ∷ codes "Language: Cpp" ∷ rest)
plain_all style range rest plain =
    (plain_by (codes "---") refl, (plain_by (codes "Language: Cpp") refl, plain))

-- what is written of a style is cut into these lines
pub dump_is_cut : (style : Style) → IsInRange style → map without_terminator (lines_of (dump_text style)) ≡ all_texts style
dump_is_cut style range =
    ap (λ text. map without_terminator (lines_of text)) (dump-texts style)
    ∙ lines_are_cut (all_texts style) (plain_all style range (texts_of style keys) (plain_texts style range keys))

-- what is written of a style is UTF-8
pub dump_is_text : (style : Style) → IsInRange style → IsUtf8 (dump_text style)
dump_is_text style range =
    subst IsUtf8 (sym (dump-texts style)) (lines_are_text (all_texts style) (plain_all style range (texts_of style keys) (plain_texts style range keys)))
