-- What the definitions make of worked texts. Each is computed: short texts from their bytes, longer ones from their sections.
use Rattle.std.proofs.Common.{◌≡◌, ℕ, Bool, true, false, List, [], ◌∷◌, option_map, refl}
use Rattle.std.specs.Prelude.{codes}
use Rattle.std.specs.Str.{is_utf8, chars}
use Rattle.c_chars.specs.Characters.{trigraph}
use Rattle.c_chars.specs.declared.Dialect.{Dialect}
use Rattle.c_chars.specs.declared.Dialect.TheVariants.{C11, C23}
use Rattle.c_grammar.specs.Grammar.{is_white, is_new_line, is_digit, is_letter, is_hex, is_sign, is_exponent, is_wide, is_universal_name, is_letter_unit, is_word_unit, is_number_head, is_number_unit, punctuators, is_punctuator, is_quoted_unit, is_char_prefix, is_string_prefix, is_other, is_other_unit}
use Rattle.item_kinds.specs.declared.ItemKind.{ItemKind}
use Rattle.item_kinds.specs.declared.ItemKind.TheVariants.{Identifier, Number, StringLit, Punct}
use Rattle.pp_model.specs.Token.{Plain, Line, Str, Pasted, no_part, part, no_token, one_more}
use Rattle.pp_model.specs.Finding.{kind_of}
use Rattle.pp_model.specs.Preprocess.{Item, SectionKind, If, Ifdef, Ifndef, Elif, Elifndef, Else, Endif, Include, Define, Undef, LineNumber, Warning, Embed, Pragma, Null, Unknown, Section, Source, Lexed, Event, TokenEvent, PragmaEvent, LineEvent, WarningEvent, EmbedEvent, IncludeNotFound, Malformed, Unlexed, TurnsSpent, preprocess}
use Rattle.pp_model.specs.Stream.{source_of, text_section}
use Rattle.pp_model.specs.Setting.{Setting, holds_in, find_text, table_by, Preprocess}

-- no macros, texts and answers, and so many turns
abbrev pub turns : ℕ → Setting
turns n = record { macros = []; includes = []; conditions = []; depth = 0; turns = n }

-- enough turns for each text here
abbrev pub bare : Setting
bare = turns 300

-- an item, by its kind, spelling, `white before` and line
abbrev pub item : ItemKind → List ℕ → Bool → ℕ → Item
item kind text white line = record { kind = kind; text = text; white = white; line = line }

-- a directive: whether it defines a function-like macro, its items, and the line behind it
abbrev pub section : SectionKind → Bool → List Item → ℕ → Section
section kind function_like items next = record { kind = kind; function_like = function_like; items = items; next = next }

-- the events of a text that is cut into sections already
abbrev pub events : Dialect → Setting → Source → List Event
events d s src =
    preprocess (kind_of d) (holds_in s.conditions) (λ k. option_map (source_of d) (find_text s.includes k)) s.depth (table_by (kind_of d) s.macros) s.turns src

-- the longest items, and no white space
plain_text : Preprocess C11 bare (codes "a+++b ") ≡ (TokenEvent (Plain (codes "a")) ∷ TokenEvent (Plain (codes "++")) ∷ TokenEvent (Plain (codes "+")) ∷ TokenEvent (Plain (codes "b")) ∷ [])
unfolding is_white is_new_line is_digit is_letter is_hex is_sign is_exponent is_wide is_universal_name is_letter_unit is_word_unit is_number_head is_number_unit punctuators is_punctuator is_quoted_unit is_char_prefix is_string_prefix is_other is_other_unit trigraph is_utf8 chars lib.Utf8.encode
plain_text = refl

-- 6.10.3p9
object_like : Preprocess C11 bare (codes "#define A b\nA") ≡ (TokenEvent (Plain (codes "b")) ∷ [])
unfolding is_white is_new_line is_digit is_letter is_hex is_sign is_exponent is_wide is_universal_name is_letter_unit is_word_unit is_number_head is_number_unit punctuators is_punctuator is_quoted_unit is_char_prefix is_string_prefix is_other is_other_unit trigraph is_utf8 chars lib.Utf8.encode
object_like = refl

-- an object-like macro whose body begins with ( : 6.10.3p3
no_call : Preprocess C11 bare (codes "#define f (x\nf") ≡ (TokenEvent (Plain (codes "(")) ∷ TokenEvent (Plain (codes "x")) ∷ [])
unfolding is_white is_new_line is_digit is_letter is_hex is_sign is_exponent is_wide is_universal_name is_letter_unit is_word_unit is_number_head is_number_unit punctuators is_punctuator is_quoted_unit is_char_prefix is_string_prefix is_other is_other_unit trigraph is_utf8 chars lib.Utf8.encode
no_call = refl

-- 6.10.3p10
function_like : Preprocess C11 bare (codes "#define f(x)x\nf(1)") ≡ (TokenEvent (Plain (codes "1")) ∷ [])
unfolding is_white is_new_line is_digit is_letter is_hex is_sign is_exponent is_wide is_universal_name is_letter_unit is_word_unit is_number_head is_number_unit punctuators is_punctuator is_quoted_unit is_char_prefix is_string_prefix is_other is_other_unit trigraph is_utf8 chars lib.Utf8.encode
function_like = refl

-- a comment is white space, so the macro is object-like
comment_before_paren : Preprocess C11 bare (codes "#define f/**/()\nf") ≡ (TokenEvent (Plain (codes "(")) ∷ TokenEvent (Plain (codes ")")) ∷ [])
unfolding is_white is_new_line is_digit is_letter is_hex is_sign is_exponent is_wide is_universal_name is_letter_unit is_word_unit is_number_head is_number_unit punctuators is_punctuator is_quoted_unit is_char_prefix is_string_prefix is_other is_other_unit trigraph is_utf8 chars lib.Utf8.encode
comment_before_paren = refl

-- a splice is no white space, so the macro is function-like
spliced_name : Preprocess C11 bare (codes "#define f\\\n()1\nf()") ≡ (TokenEvent (Plain (codes "1")) ∷ [])
unfolding is_white is_new_line is_digit is_letter is_hex is_sign is_exponent is_wide is_universal_name is_letter_unit is_word_unit is_number_head is_number_unit punctuators is_punctuator is_quoted_unit is_char_prefix is_string_prefix is_other is_other_unit trigraph is_utf8 chars lib.Utf8.encode
spliced_name = refl

-- 5.1.1.2, phase 2
spliced_item : Preprocess C11 bare (codes "a\\\nb") ≡ (TokenEvent (Plain (codes "ab")) ∷ [])
unfolding is_white is_new_line is_digit is_letter is_hex is_sign is_exponent is_wide is_universal_name is_letter_unit is_word_unit is_number_head is_number_unit punctuators is_punctuator is_quoted_unit is_char_prefix is_string_prefix is_other is_other_unit trigraph is_utf8 chars lib.Utf8.encode
spliced_item = refl

-- 5.2.1.1: ??= is #
trigraph_hash : Preprocess C11 bare (codes "??=define A\n") ≡ ([])
unfolding is_white is_new_line is_digit is_letter is_hex is_sign is_exponent is_wide is_universal_name is_letter_unit is_word_unit is_number_head is_number_unit punctuators is_punctuator is_quoted_unit is_char_prefix is_string_prefix is_other is_other_unit trigraph is_utf8 chars lib.Utf8.encode
trigraph_hash = refl

-- 6.4.6p3: %: is #
digraph : Preprocess C11 bare (codes "%:define A 1\nA") ≡ (TokenEvent (Plain (codes "1")) ∷ [])
unfolding is_white is_new_line is_digit is_letter is_hex is_sign is_exponent is_wide is_universal_name is_letter_unit is_word_unit is_number_head is_number_unit punctuators is_punctuator is_quoted_unit is_char_prefix is_string_prefix is_other is_other_unit trigraph is_utf8 chars lib.Utf8.encode
digraph = refl

-- a block comment without an end
unlexed : Preprocess C11 bare (codes "a /* b") ≡ (Unlexed ∷ [])
unfolding is_white is_new_line is_digit is_letter is_hex is_sign is_exponent is_wide is_universal_name is_letter_unit is_word_unit is_number_head is_number_unit punctuators is_punctuator is_quoted_unit is_char_prefix is_string_prefix is_other is_other_unit trigraph is_utf8 chars lib.Utf8.encode
unlexed = refl

-- 6.10.4p3 and 6.10.8.1
line_number : Preprocess C11 bare (codes "#line 90\n__LINE__") ≡ (LineEvent (Plain (codes "90") ∷ []) ∷ TokenEvent (Line 90) ∷ [])
unfolding is_white is_new_line is_digit is_letter is_hex is_sign is_exponent is_wide is_universal_name is_letter_unit is_word_unit is_number_head is_number_unit punctuators is_punctuator is_quoted_unit is_char_prefix is_string_prefix is_other is_other_unit trigraph is_utf8 chars lib.Utf8.encode
line_number = refl

-- 6.10.3.2p2: a comment in an argument is one space
string_gap : Preprocess C11 bare (codes "#define s(x)#x\ns( a/**/b )") ≡ (TokenEvent (Str (part false (Plain (codes "a")) (part true (Plain (codes "b")) no_part))) ∷ [])
unfolding is_white is_new_line is_digit is_letter is_hex is_sign is_exponent is_wide is_universal_name is_letter_unit is_word_unit is_number_head is_number_unit punctuators is_punctuator is_quoted_unit is_char_prefix is_string_prefix is_other is_other_unit trigraph is_utf8 chars lib.Utf8.encode
string_gap = refl

-- a name is not replaced in its own replacement, 6.10.3.4p2
object_again : events C11 bare (Lexed (
    text_section ([])
    ∷ section Define false (item Identifier (codes "A") true 1 ∷ item Identifier (codes "B") true 1 ∷ item Identifier (codes "c") true 1 ∷ []) 2
    ∷ text_section ([])
    ∷ section Define false (item Identifier (codes "B") true 2 ∷ item Identifier (codes "A") true 2 ∷ item Identifier (codes "d") true 2 ∷ []) 3
    ∷ text_section (item Identifier (codes "A") false 3 ∷ item Identifier (codes "x") true 3 ∷ [])
    ∷ [])) ≡ (TokenEvent (Plain (codes "A")) ∷ TokenEvent (Plain (codes "d")) ∷ TokenEvent (Plain (codes "c")) ∷ TokenEvent (Plain (codes "x")) ∷ [])
unfolding is_white is_new_line is_digit is_letter is_hex is_sign is_exponent is_wide is_universal_name is_letter_unit is_word_unit is_number_head is_number_unit punctuators is_punctuator is_quoted_unit is_char_prefix is_string_prefix is_other is_other_unit trigraph is_utf8 chars lib.Utf8.encode
object_again = refl

-- 6.10.3.4p4 leaves this open: by hide sets g stays
nested_call : events C11 bare (Lexed (
    text_section ([])
    ∷ section Define true (item Identifier (codes "f") true 1 ∷ item Punct (codes "(") false 1 ∷ item Identifier (codes "a") false 1 ∷ item Punct (codes ")") false 1 ∷ item Identifier (codes "a") true 1 ∷ item Punct (codes "*") false 1 ∷ item Identifier (codes "g") false 1 ∷ []) 2
    ∷ text_section ([])
    ∷ section Define true (item Identifier (codes "g") true 2 ∷ item Punct (codes "(") false 2 ∷ item Identifier (codes "a") false 2 ∷ item Punct (codes ")") false 2 ∷ item Identifier (codes "f") true 2 ∷ item Punct (codes "(") false 2 ∷ item Identifier (codes "a") false 2 ∷ item Punct (codes ")") false 2 ∷ []) 3
    ∷ text_section (item Identifier (codes "f") false 3 ∷ item Punct (codes "(") false 3 ∷ item Number (codes "2") false 3 ∷ item Punct (codes ")") false 3 ∷ item Punct (codes "(") false 3 ∷ item Number (codes "9") false 3 ∷ item Punct (codes ")") false 3 ∷ [])
    ∷ [])) ≡ (TokenEvent (Plain (codes "2")) ∷ TokenEvent (Plain (codes "*")) ∷ TokenEvent (Plain (codes "9")) ∷ TokenEvent (Plain (codes "*")) ∷ TokenEvent (Plain (codes "g")) ∷ [])
unfolding is_white is_new_line is_digit is_letter is_hex is_sign is_exponent is_wide is_universal_name is_letter_unit is_word_unit is_number_head is_number_unit punctuators is_punctuator is_quoted_unit is_char_prefix is_string_prefix is_other is_other_unit trigraph is_utf8 chars lib.Utf8.encode
nested_call = refl

-- 6.10.3.3p4
hash_hash : events C11 bare (Lexed (
    text_section ([])
    ∷ section Define false (item Identifier (codes "hash_hash") true 1 ∷ item Punct (codes "#") true 1 ∷ item Punct (codes "##") true 1 ∷ item Punct (codes "#") true 1 ∷ []) 2
    ∷ text_section ([])
    ∷ section Define true (item Identifier (codes "mkstr") true 2 ∷ item Punct (codes "(") false 2 ∷ item Identifier (codes "a") false 2 ∷ item Punct (codes ")") false 2 ∷ item Punct (codes "#") true 2 ∷ item Identifier (codes "a") true 2 ∷ []) 3
    ∷ text_section ([])
    ∷ section Define true (item Identifier (codes "in_between") true 3 ∷ item Punct (codes "(") false 3 ∷ item Identifier (codes "a") false 3 ∷ item Punct (codes ")") false 3 ∷ item Identifier (codes "mkstr") true 3 ∷ item Punct (codes "(") false 3 ∷ item Identifier (codes "a") false 3 ∷ item Punct (codes ")") false 3 ∷ []) 4
    ∷ text_section ([])
    ∷ section Define true (item Identifier (codes "join") true 4 ∷ item Punct (codes "(") false 4 ∷ item Identifier (codes "c") false 4 ∷ item Punct (codes ",") false 4 ∷ item Identifier (codes "d") true 4 ∷ item Punct (codes ")") false 4 ∷ item Identifier (codes "in_between") true 4 ∷ item Punct (codes "(") false 4 ∷ item Identifier (codes "c") false 4 ∷ item Identifier (codes "hash_hash") true 4 ∷ item Identifier (codes "d") true 4 ∷ item Punct (codes ")") false 4 ∷ []) 5
    ∷ text_section (item Identifier (codes "char") false 5 ∷ item Identifier (codes "p") true 5 ∷ item Punct (codes "[") false 5 ∷ item Punct (codes "]") false 5 ∷ item Punct (codes "=") true 5 ∷ item Identifier (codes "join") true 5 ∷ item Punct (codes "(") false 5 ∷ item Identifier (codes "x") false 5 ∷ item Punct (codes ",") false 5 ∷ item Identifier (codes "y") true 5 ∷ item Punct (codes ")") false 5 ∷ item Punct (codes ";") false 5 ∷ [])
    ∷ [])) ≡ (TokenEvent (Plain (codes "char")) ∷ TokenEvent (Plain (codes "p")) ∷ TokenEvent (Plain (codes "[")) ∷ TokenEvent (Plain (codes "]")) ∷ TokenEvent (Plain (codes "=")) ∷ TokenEvent (Str (part false (Plain (codes "x")) (part true (Plain (codes "##")) (part true (Plain (codes "y")) no_part)))) ∷ TokenEvent (Plain (codes ";")) ∷ [])
unfolding is_white is_new_line is_digit is_letter is_hex is_sign is_exponent is_wide is_universal_name is_letter_unit is_word_unit is_number_head is_number_unit punctuators is_punctuator is_quoted_unit is_char_prefix is_string_prefix is_other is_other_unit trigraph is_utf8 chars lib.Utf8.encode
hash_hash = refl

-- 6.10.3.5, example 3, first line
example_3a : events C11 bare (Lexed (
    text_section ([])
    ∷ section Define false (item Identifier (codes "x") true 1 ∷ item Number (codes "3") true 1 ∷ []) 2
    ∷ text_section ([])
    ∷ section Define true (item Identifier (codes "f") true 2 ∷ item Punct (codes "(") false 2 ∷ item Identifier (codes "a") false 2 ∷ item Punct (codes ")") false 2 ∷ item Identifier (codes "f") true 2 ∷ item Punct (codes "(") false 2 ∷ item Identifier (codes "x") false 2 ∷ item Punct (codes "*") true 2 ∷ item Punct (codes "(") true 2 ∷ item Identifier (codes "a") false 2 ∷ item Punct (codes ")") false 2 ∷ item Punct (codes ")") false 2 ∷ []) 3
    ∷ text_section ([])
    ∷ section Undef false (item Identifier (codes "x") true 3 ∷ []) 4
    ∷ text_section ([])
    ∷ section Define false (item Identifier (codes "x") true 4 ∷ item Number (codes "2") true 4 ∷ []) 5
    ∷ text_section ([])
    ∷ section Define false (item Identifier (codes "g") true 5 ∷ item Identifier (codes "f") true 5 ∷ []) 6
    ∷ text_section ([])
    ∷ section Define false (item Identifier (codes "z") true 6 ∷ item Identifier (codes "z") true 6 ∷ item Punct (codes "[") false 6 ∷ item Number (codes "0") false 6 ∷ item Punct (codes "]") false 6 ∷ []) 7
    ∷ text_section ([])
    ∷ section Define false (item Identifier (codes "h") true 7 ∷ item Identifier (codes "g") true 7 ∷ item Punct (codes "(") false 7 ∷ item Punct (codes "~") false 7 ∷ []) 8
    ∷ text_section ([])
    ∷ section Define true (item Identifier (codes "m") true 8 ∷ item Punct (codes "(") false 8 ∷ item Identifier (codes "a") false 8 ∷ item Punct (codes ")") false 8 ∷ item Identifier (codes "a") true 8 ∷ item Punct (codes "(") false 8 ∷ item Identifier (codes "w") false 8 ∷ item Punct (codes ")") false 8 ∷ []) 9
    ∷ text_section ([])
    ∷ section Define false (item Identifier (codes "w") true 9 ∷ item Number (codes "0") true 9 ∷ item Punct (codes ",") false 9 ∷ item Number (codes "1") false 9 ∷ []) 10
    ∷ text_section ([])
    ∷ section Define true (item Identifier (codes "t") true 10 ∷ item Punct (codes "(") false 10 ∷ item Identifier (codes "a") false 10 ∷ item Punct (codes ")") false 10 ∷ item Identifier (codes "a") true 10 ∷ []) 11
    ∷ text_section ([])
    ∷ section Define true (item Identifier (codes "p") true 11 ∷ item Punct (codes "(") false 11 ∷ item Punct (codes ")") false 11 ∷ item Identifier (codes "int") true 11 ∷ []) 12
    ∷ text_section ([])
    ∷ section Define true (item Identifier (codes "q") true 12 ∷ item Punct (codes "(") false 12 ∷ item Identifier (codes "x") false 12 ∷ item Punct (codes ")") false 12 ∷ item Identifier (codes "x") true 12 ∷ []) 13
    ∷ text_section ([])
    ∷ section Define true (item Identifier (codes "r") true 13 ∷ item Punct (codes "(") false 13 ∷ item Identifier (codes "x") false 13 ∷ item Punct (codes ",") false 13 ∷ item Identifier (codes "y") false 13 ∷ item Punct (codes ")") false 13 ∷ item Identifier (codes "x") true 13 ∷ item Punct (codes "##") true 13 ∷ item Identifier (codes "y") true 13 ∷ []) 14
    ∷ text_section ([])
    ∷ section Define true (item Identifier (codes "str") true 14 ∷ item Punct (codes "(") false 14 ∷ item Identifier (codes "x") false 14 ∷ item Punct (codes ")") false 14 ∷ item Punct (codes "#") true 14 ∷ item Identifier (codes "x") true 14 ∷ []) 15
    ∷ text_section (item Identifier (codes "f") false 15 ∷ item Punct (codes "(") false 15 ∷ item Identifier (codes "y") false 15 ∷ item Punct (codes "+") false 15 ∷ item Number (codes "1") false 15 ∷ item Punct (codes ")") false 15 ∷ item Punct (codes "+") true 15 ∷ item Identifier (codes "f") true 15 ∷ item Punct (codes "(") false 15 ∷ item Identifier (codes "f") false 15 ∷ item Punct (codes "(") false 15 ∷ item Identifier (codes "z") false 15 ∷ item Punct (codes ")") false 15 ∷ item Punct (codes ")") false 15 ∷ item Punct (codes "%") true 15 ∷ item Identifier (codes "t") true 15 ∷ item Punct (codes "(") false 15 ∷ item Identifier (codes "t") false 15 ∷ item Punct (codes "(") false 15 ∷ item Identifier (codes "g") false 15 ∷ item Punct (codes ")") false 15 ∷ item Punct (codes "(") false 15 ∷ item Number (codes "0") false 15 ∷ item Punct (codes ")") false 15 ∷ item Punct (codes "+") true 15 ∷ item Identifier (codes "t") true 15 ∷ item Punct (codes ")") false 15 ∷ item Punct (codes "(") false 15 ∷ item Number (codes "1") false 15 ∷ item Punct (codes ")") false 15 ∷ item Punct (codes ";") false 15 ∷ [])
    ∷ [])) ≡ (TokenEvent (Plain (codes "f")) ∷ TokenEvent (Plain (codes "(")) ∷ TokenEvent (Plain (codes "2")) ∷ TokenEvent (Plain (codes "*")) ∷ TokenEvent (Plain (codes "(")) ∷ TokenEvent (Plain (codes "y")) ∷ TokenEvent (Plain (codes "+")) ∷ TokenEvent (Plain (codes "1")) ∷ TokenEvent (Plain (codes ")")) ∷ TokenEvent (Plain (codes ")")) ∷ TokenEvent (Plain (codes "+")) ∷ TokenEvent (Plain (codes "f")) ∷ TokenEvent (Plain (codes "(")) ∷ TokenEvent (Plain (codes "2")) ∷ TokenEvent (Plain (codes "*")) ∷ TokenEvent (Plain (codes "(")) ∷ TokenEvent (Plain (codes "f")) ∷ TokenEvent (Plain (codes "(")) ∷ TokenEvent (Plain (codes "2")) ∷ TokenEvent (Plain (codes "*")) ∷ TokenEvent (Plain (codes "(")) ∷ TokenEvent (Plain (codes "z")) ∷ TokenEvent (Plain (codes "[")) ∷ TokenEvent (Plain (codes "0")) ∷ TokenEvent (Plain (codes "]")) ∷ TokenEvent (Plain (codes ")")) ∷ TokenEvent (Plain (codes ")")) ∷ TokenEvent (Plain (codes ")")) ∷ TokenEvent (Plain (codes ")")) ∷ TokenEvent (Plain (codes "%")) ∷ TokenEvent (Plain (codes "f")) ∷ TokenEvent (Plain (codes "(")) ∷ TokenEvent (Plain (codes "2")) ∷ TokenEvent (Plain (codes "*")) ∷ TokenEvent (Plain (codes "(")) ∷ TokenEvent (Plain (codes "0")) ∷ TokenEvent (Plain (codes ")")) ∷ TokenEvent (Plain (codes ")")) ∷ TokenEvent (Plain (codes "+")) ∷ TokenEvent (Plain (codes "t")) ∷ TokenEvent (Plain (codes "(")) ∷ TokenEvent (Plain (codes "1")) ∷ TokenEvent (Plain (codes ")")) ∷ TokenEvent (Plain (codes ";")) ∷ [])
unfolding is_white is_new_line is_digit is_letter is_hex is_sign is_exponent is_wide is_universal_name is_letter_unit is_word_unit is_number_head is_number_unit punctuators is_punctuator is_quoted_unit is_char_prefix is_string_prefix is_other is_other_unit trigraph is_utf8 chars lib.Utf8.encode
example_3a = refl

-- 6.10.3.5, example 3, second and third line
example_3b : events C11 bare (Lexed (
    text_section ([])
    ∷ section Define false (item Identifier (codes "x") true 1 ∷ item Number (codes "3") true 1 ∷ []) 2
    ∷ text_section ([])
    ∷ section Define true (item Identifier (codes "f") true 2 ∷ item Punct (codes "(") false 2 ∷ item Identifier (codes "a") false 2 ∷ item Punct (codes ")") false 2 ∷ item Identifier (codes "f") true 2 ∷ item Punct (codes "(") false 2 ∷ item Identifier (codes "x") false 2 ∷ item Punct (codes "*") true 2 ∷ item Punct (codes "(") true 2 ∷ item Identifier (codes "a") false 2 ∷ item Punct (codes ")") false 2 ∷ item Punct (codes ")") false 2 ∷ []) 3
    ∷ text_section ([])
    ∷ section Undef false (item Identifier (codes "x") true 3 ∷ []) 4
    ∷ text_section ([])
    ∷ section Define false (item Identifier (codes "x") true 4 ∷ item Number (codes "2") true 4 ∷ []) 5
    ∷ text_section ([])
    ∷ section Define false (item Identifier (codes "g") true 5 ∷ item Identifier (codes "f") true 5 ∷ []) 6
    ∷ text_section ([])
    ∷ section Define false (item Identifier (codes "z") true 6 ∷ item Identifier (codes "z") true 6 ∷ item Punct (codes "[") false 6 ∷ item Number (codes "0") false 6 ∷ item Punct (codes "]") false 6 ∷ []) 7
    ∷ text_section ([])
    ∷ section Define false (item Identifier (codes "h") true 7 ∷ item Identifier (codes "g") true 7 ∷ item Punct (codes "(") false 7 ∷ item Punct (codes "~") false 7 ∷ []) 8
    ∷ text_section ([])
    ∷ section Define true (item Identifier (codes "m") true 8 ∷ item Punct (codes "(") false 8 ∷ item Identifier (codes "a") false 8 ∷ item Punct (codes ")") false 8 ∷ item Identifier (codes "a") true 8 ∷ item Punct (codes "(") false 8 ∷ item Identifier (codes "w") false 8 ∷ item Punct (codes ")") false 8 ∷ []) 9
    ∷ text_section ([])
    ∷ section Define false (item Identifier (codes "w") true 9 ∷ item Number (codes "0") true 9 ∷ item Punct (codes ",") false 9 ∷ item Number (codes "1") false 9 ∷ []) 10
    ∷ text_section ([])
    ∷ section Define true (item Identifier (codes "t") true 10 ∷ item Punct (codes "(") false 10 ∷ item Identifier (codes "a") false 10 ∷ item Punct (codes ")") false 10 ∷ item Identifier (codes "a") true 10 ∷ []) 11
    ∷ text_section ([])
    ∷ section Define true (item Identifier (codes "p") true 11 ∷ item Punct (codes "(") false 11 ∷ item Punct (codes ")") false 11 ∷ item Identifier (codes "int") true 11 ∷ []) 12
    ∷ text_section ([])
    ∷ section Define true (item Identifier (codes "q") true 12 ∷ item Punct (codes "(") false 12 ∷ item Identifier (codes "x") false 12 ∷ item Punct (codes ")") false 12 ∷ item Identifier (codes "x") true 12 ∷ []) 13
    ∷ text_section ([])
    ∷ section Define true (item Identifier (codes "r") true 13 ∷ item Punct (codes "(") false 13 ∷ item Identifier (codes "x") false 13 ∷ item Punct (codes ",") false 13 ∷ item Identifier (codes "y") false 13 ∷ item Punct (codes ")") false 13 ∷ item Identifier (codes "x") true 13 ∷ item Punct (codes "##") true 13 ∷ item Identifier (codes "y") true 13 ∷ []) 14
    ∷ text_section ([])
    ∷ section Define true (item Identifier (codes "str") true 14 ∷ item Punct (codes "(") false 14 ∷ item Identifier (codes "x") false 14 ∷ item Punct (codes ")") false 14 ∷ item Punct (codes "#") true 14 ∷ item Identifier (codes "x") true 14 ∷ []) 15
    ∷ text_section (item Identifier (codes "g") false 15 ∷ item Punct (codes "(") false 15 ∷ item Identifier (codes "x") false 15 ∷ item Punct (codes "+") false 15 ∷ item Punct (codes "(") false 15 ∷ item Number (codes "3") false 15 ∷ item Punct (codes ",") false 15 ∷ item Number (codes "4") false 15 ∷ item Punct (codes ")") false 15 ∷ item Punct (codes "-") false 15 ∷ item Identifier (codes "w") false 15 ∷ item Punct (codes ")") false 15 ∷ item Punct (codes "|") true 15 ∷ item Identifier (codes "h") true 15 ∷ item Number (codes "5") true 15 ∷ item Punct (codes ")") false 15 ∷ item Punct (codes "&") true 15 ∷ item Identifier (codes "m") true 15 ∷ item Punct (codes "(") true 16 ∷ item Identifier (codes "f") false 16 ∷ item Punct (codes ")") false 16 ∷ item Punct (codes "^") false 16 ∷ item Identifier (codes "m") false 16 ∷ item Punct (codes "(") false 16 ∷ item Identifier (codes "m") false 16 ∷ item Punct (codes ")") false 16 ∷ item Punct (codes ";") false 16 ∷ [])
    ∷ [])) ≡ (TokenEvent (Plain (codes "f")) ∷ TokenEvent (Plain (codes "(")) ∷ TokenEvent (Plain (codes "2")) ∷ TokenEvent (Plain (codes "*")) ∷ TokenEvent (Plain (codes "(")) ∷ TokenEvent (Plain (codes "2")) ∷ TokenEvent (Plain (codes "+")) ∷ TokenEvent (Plain (codes "(")) ∷ TokenEvent (Plain (codes "3")) ∷ TokenEvent (Plain (codes ",")) ∷ TokenEvent (Plain (codes "4")) ∷ TokenEvent (Plain (codes ")")) ∷ TokenEvent (Plain (codes "-")) ∷ TokenEvent (Plain (codes "0")) ∷ TokenEvent (Plain (codes ",")) ∷ TokenEvent (Plain (codes "1")) ∷ TokenEvent (Plain (codes ")")) ∷ TokenEvent (Plain (codes ")")) ∷ TokenEvent (Plain (codes "|")) ∷ TokenEvent (Plain (codes "f")) ∷ TokenEvent (Plain (codes "(")) ∷ TokenEvent (Plain (codes "2")) ∷ TokenEvent (Plain (codes "*")) ∷ TokenEvent (Plain (codes "(")) ∷ TokenEvent (Plain (codes "~")) ∷ TokenEvent (Plain (codes "5")) ∷ TokenEvent (Plain (codes ")")) ∷ TokenEvent (Plain (codes ")")) ∷ TokenEvent (Plain (codes "&")) ∷ TokenEvent (Plain (codes "f")) ∷ TokenEvent (Plain (codes "(")) ∷ TokenEvent (Plain (codes "2")) ∷ TokenEvent (Plain (codes "*")) ∷ TokenEvent (Plain (codes "(")) ∷ TokenEvent (Plain (codes "0")) ∷ TokenEvent (Plain (codes ",")) ∷ TokenEvent (Plain (codes "1")) ∷ TokenEvent (Plain (codes ")")) ∷ TokenEvent (Plain (codes ")")) ∷ TokenEvent (Plain (codes "^")) ∷ TokenEvent (Plain (codes "m")) ∷ TokenEvent (Plain (codes "(")) ∷ TokenEvent (Plain (codes "0")) ∷ TokenEvent (Plain (codes ",")) ∷ TokenEvent (Plain (codes "1")) ∷ TokenEvent (Plain (codes ")")) ∷ TokenEvent (Plain (codes ";")) ∷ [])
unfolding is_white is_new_line is_digit is_letter is_hex is_sign is_exponent is_wide is_universal_name is_letter_unit is_word_unit is_number_head is_number_unit punctuators is_punctuator is_quoted_unit is_char_prefix is_string_prefix is_other is_other_unit trigraph is_utf8 chars lib.Utf8.encode
example_3b = refl

-- 6.10.3.5, example 3, fourth line
example_3c : events C11 bare (Lexed (
    text_section ([])
    ∷ section Define false (item Identifier (codes "x") true 1 ∷ item Number (codes "3") true 1 ∷ []) 2
    ∷ text_section ([])
    ∷ section Define true (item Identifier (codes "f") true 2 ∷ item Punct (codes "(") false 2 ∷ item Identifier (codes "a") false 2 ∷ item Punct (codes ")") false 2 ∷ item Identifier (codes "f") true 2 ∷ item Punct (codes "(") false 2 ∷ item Identifier (codes "x") false 2 ∷ item Punct (codes "*") true 2 ∷ item Punct (codes "(") true 2 ∷ item Identifier (codes "a") false 2 ∷ item Punct (codes ")") false 2 ∷ item Punct (codes ")") false 2 ∷ []) 3
    ∷ text_section ([])
    ∷ section Undef false (item Identifier (codes "x") true 3 ∷ []) 4
    ∷ text_section ([])
    ∷ section Define false (item Identifier (codes "x") true 4 ∷ item Number (codes "2") true 4 ∷ []) 5
    ∷ text_section ([])
    ∷ section Define false (item Identifier (codes "g") true 5 ∷ item Identifier (codes "f") true 5 ∷ []) 6
    ∷ text_section ([])
    ∷ section Define false (item Identifier (codes "z") true 6 ∷ item Identifier (codes "z") true 6 ∷ item Punct (codes "[") false 6 ∷ item Number (codes "0") false 6 ∷ item Punct (codes "]") false 6 ∷ []) 7
    ∷ text_section ([])
    ∷ section Define false (item Identifier (codes "h") true 7 ∷ item Identifier (codes "g") true 7 ∷ item Punct (codes "(") false 7 ∷ item Punct (codes "~") false 7 ∷ []) 8
    ∷ text_section ([])
    ∷ section Define true (item Identifier (codes "m") true 8 ∷ item Punct (codes "(") false 8 ∷ item Identifier (codes "a") false 8 ∷ item Punct (codes ")") false 8 ∷ item Identifier (codes "a") true 8 ∷ item Punct (codes "(") false 8 ∷ item Identifier (codes "w") false 8 ∷ item Punct (codes ")") false 8 ∷ []) 9
    ∷ text_section ([])
    ∷ section Define false (item Identifier (codes "w") true 9 ∷ item Number (codes "0") true 9 ∷ item Punct (codes ",") false 9 ∷ item Number (codes "1") false 9 ∷ []) 10
    ∷ text_section ([])
    ∷ section Define true (item Identifier (codes "t") true 10 ∷ item Punct (codes "(") false 10 ∷ item Identifier (codes "a") false 10 ∷ item Punct (codes ")") false 10 ∷ item Identifier (codes "a") true 10 ∷ []) 11
    ∷ text_section ([])
    ∷ section Define true (item Identifier (codes "p") true 11 ∷ item Punct (codes "(") false 11 ∷ item Punct (codes ")") false 11 ∷ item Identifier (codes "int") true 11 ∷ []) 12
    ∷ text_section ([])
    ∷ section Define true (item Identifier (codes "q") true 12 ∷ item Punct (codes "(") false 12 ∷ item Identifier (codes "x") false 12 ∷ item Punct (codes ")") false 12 ∷ item Identifier (codes "x") true 12 ∷ []) 13
    ∷ text_section ([])
    ∷ section Define true (item Identifier (codes "r") true 13 ∷ item Punct (codes "(") false 13 ∷ item Identifier (codes "x") false 13 ∷ item Punct (codes ",") false 13 ∷ item Identifier (codes "y") false 13 ∷ item Punct (codes ")") false 13 ∷ item Identifier (codes "x") true 13 ∷ item Punct (codes "##") true 13 ∷ item Identifier (codes "y") true 13 ∷ []) 14
    ∷ text_section ([])
    ∷ section Define true (item Identifier (codes "str") true 14 ∷ item Punct (codes "(") false 14 ∷ item Identifier (codes "x") false 14 ∷ item Punct (codes ")") false 14 ∷ item Punct (codes "#") true 14 ∷ item Identifier (codes "x") true 14 ∷ []) 15
    ∷ text_section (item Identifier (codes "p") false 15 ∷ item Punct (codes "(") false 15 ∷ item Punct (codes ")") false 15 ∷ item Identifier (codes "i") true 15 ∷ item Punct (codes "[") false 15 ∷ item Identifier (codes "q") false 15 ∷ item Punct (codes "(") false 15 ∷ item Punct (codes ")") false 15 ∷ item Punct (codes "]") false 15 ∷ item Punct (codes "=") true 15 ∷ item Punct (codes "{") true 15 ∷ item Identifier (codes "q") true 15 ∷ item Punct (codes "(") false 15 ∷ item Number (codes "1") false 15 ∷ item Punct (codes ")") false 15 ∷ item Punct (codes ",") false 15 ∷ item Identifier (codes "r") true 15 ∷ item Punct (codes "(") false 15 ∷ item Number (codes "2") false 15 ∷ item Punct (codes ",") false 15 ∷ item Number (codes "3") false 15 ∷ item Punct (codes ")") false 15 ∷ item Punct (codes ",") false 15 ∷ item Identifier (codes "r") true 15 ∷ item Punct (codes "(") false 15 ∷ item Number (codes "4") false 15 ∷ item Punct (codes ",") false 15 ∷ item Punct (codes ")") false 15 ∷ item Punct (codes ",") false 15 ∷ item Identifier (codes "r") true 15 ∷ item Punct (codes "(") false 15 ∷ item Punct (codes ",") false 15 ∷ item Number (codes "5") false 15 ∷ item Punct (codes ")") false 15 ∷ item Punct (codes ",") false 15 ∷ item Identifier (codes "r") true 15 ∷ item Punct (codes "(") false 15 ∷ item Punct (codes ",") false 15 ∷ item Punct (codes ")") false 15 ∷ item Punct (codes "}") true 15 ∷ item Punct (codes ";") false 15 ∷ [])
    ∷ [])) ≡ (TokenEvent (Plain (codes "int")) ∷ TokenEvent (Plain (codes "i")) ∷ TokenEvent (Plain (codes "[")) ∷ TokenEvent (Plain (codes "]")) ∷ TokenEvent (Plain (codes "=")) ∷ TokenEvent (Plain (codes "{")) ∷ TokenEvent (Plain (codes "1")) ∷ TokenEvent (Plain (codes ",")) ∷ TokenEvent (Plain (codes "23")) ∷ TokenEvent (Plain (codes ",")) ∷ TokenEvent (Plain (codes "4")) ∷ TokenEvent (Plain (codes ",")) ∷ TokenEvent (Plain (codes "5")) ∷ TokenEvent (Plain (codes ",")) ∷ TokenEvent (Plain (codes "}")) ∷ TokenEvent (Plain (codes ";")) ∷ [])
unfolding is_white is_new_line is_digit is_letter is_hex is_sign is_exponent is_wide is_universal_name is_letter_unit is_word_unit is_number_head is_number_unit punctuators is_punctuator is_quoted_unit is_char_prefix is_string_prefix is_other is_other_unit trigraph is_utf8 chars lib.Utf8.encode
example_3c = refl

-- 6.10.3.5, example 3, fifth line
example_3d : events C11 bare (Lexed (
    text_section ([])
    ∷ section Define false (item Identifier (codes "x") true 1 ∷ item Number (codes "3") true 1 ∷ []) 2
    ∷ text_section ([])
    ∷ section Define true (item Identifier (codes "f") true 2 ∷ item Punct (codes "(") false 2 ∷ item Identifier (codes "a") false 2 ∷ item Punct (codes ")") false 2 ∷ item Identifier (codes "f") true 2 ∷ item Punct (codes "(") false 2 ∷ item Identifier (codes "x") false 2 ∷ item Punct (codes "*") true 2 ∷ item Punct (codes "(") true 2 ∷ item Identifier (codes "a") false 2 ∷ item Punct (codes ")") false 2 ∷ item Punct (codes ")") false 2 ∷ []) 3
    ∷ text_section ([])
    ∷ section Undef false (item Identifier (codes "x") true 3 ∷ []) 4
    ∷ text_section ([])
    ∷ section Define false (item Identifier (codes "x") true 4 ∷ item Number (codes "2") true 4 ∷ []) 5
    ∷ text_section ([])
    ∷ section Define false (item Identifier (codes "g") true 5 ∷ item Identifier (codes "f") true 5 ∷ []) 6
    ∷ text_section ([])
    ∷ section Define false (item Identifier (codes "z") true 6 ∷ item Identifier (codes "z") true 6 ∷ item Punct (codes "[") false 6 ∷ item Number (codes "0") false 6 ∷ item Punct (codes "]") false 6 ∷ []) 7
    ∷ text_section ([])
    ∷ section Define false (item Identifier (codes "h") true 7 ∷ item Identifier (codes "g") true 7 ∷ item Punct (codes "(") false 7 ∷ item Punct (codes "~") false 7 ∷ []) 8
    ∷ text_section ([])
    ∷ section Define true (item Identifier (codes "m") true 8 ∷ item Punct (codes "(") false 8 ∷ item Identifier (codes "a") false 8 ∷ item Punct (codes ")") false 8 ∷ item Identifier (codes "a") true 8 ∷ item Punct (codes "(") false 8 ∷ item Identifier (codes "w") false 8 ∷ item Punct (codes ")") false 8 ∷ []) 9
    ∷ text_section ([])
    ∷ section Define false (item Identifier (codes "w") true 9 ∷ item Number (codes "0") true 9 ∷ item Punct (codes ",") false 9 ∷ item Number (codes "1") false 9 ∷ []) 10
    ∷ text_section ([])
    ∷ section Define true (item Identifier (codes "t") true 10 ∷ item Punct (codes "(") false 10 ∷ item Identifier (codes "a") false 10 ∷ item Punct (codes ")") false 10 ∷ item Identifier (codes "a") true 10 ∷ []) 11
    ∷ text_section ([])
    ∷ section Define true (item Identifier (codes "p") true 11 ∷ item Punct (codes "(") false 11 ∷ item Punct (codes ")") false 11 ∷ item Identifier (codes "int") true 11 ∷ []) 12
    ∷ text_section ([])
    ∷ section Define true (item Identifier (codes "q") true 12 ∷ item Punct (codes "(") false 12 ∷ item Identifier (codes "x") false 12 ∷ item Punct (codes ")") false 12 ∷ item Identifier (codes "x") true 12 ∷ []) 13
    ∷ text_section ([])
    ∷ section Define true (item Identifier (codes "r") true 13 ∷ item Punct (codes "(") false 13 ∷ item Identifier (codes "x") false 13 ∷ item Punct (codes ",") false 13 ∷ item Identifier (codes "y") false 13 ∷ item Punct (codes ")") false 13 ∷ item Identifier (codes "x") true 13 ∷ item Punct (codes "##") true 13 ∷ item Identifier (codes "y") true 13 ∷ []) 14
    ∷ text_section ([])
    ∷ section Define true (item Identifier (codes "str") true 14 ∷ item Punct (codes "(") false 14 ∷ item Identifier (codes "x") false 14 ∷ item Punct (codes ")") false 14 ∷ item Punct (codes "#") true 14 ∷ item Identifier (codes "x") true 14 ∷ []) 15
    ∷ text_section (item Identifier (codes "char") false 15 ∷ item Identifier (codes "c") true 15 ∷ item Punct (codes "[") false 15 ∷ item Number (codes "2") false 15 ∷ item Punct (codes "]") false 15 ∷ item Punct (codes "[") false 15 ∷ item Number (codes "6") false 15 ∷ item Punct (codes "]") false 15 ∷ item Punct (codes "=") true 15 ∷ item Punct (codes "{") true 15 ∷ item Identifier (codes "str") true 15 ∷ item Punct (codes "(") false 15 ∷ item Identifier (codes "hello") false 15 ∷ item Punct (codes ")") false 15 ∷ item Punct (codes ",") false 15 ∷ item Identifier (codes "str") true 15 ∷ item Punct (codes "(") false 15 ∷ item Punct (codes ")") false 15 ∷ item Punct (codes "}") true 15 ∷ item Punct (codes ";") false 15 ∷ [])
    ∷ [])) ≡ (TokenEvent (Plain (codes "char")) ∷ TokenEvent (Plain (codes "c")) ∷ TokenEvent (Plain (codes "[")) ∷ TokenEvent (Plain (codes "2")) ∷ TokenEvent (Plain (codes "]")) ∷ TokenEvent (Plain (codes "[")) ∷ TokenEvent (Plain (codes "6")) ∷ TokenEvent (Plain (codes "]")) ∷ TokenEvent (Plain (codes "=")) ∷ TokenEvent (Plain (codes "{")) ∷ TokenEvent (Str (part false (Plain (codes "hello")) no_part)) ∷ TokenEvent (Plain (codes ",")) ∷ TokenEvent (Str no_part) ∷ TokenEvent (Plain (codes "}")) ∷ TokenEvent (Plain (codes ";")) ∷ [])
unfolding is_white is_new_line is_digit is_letter is_hex is_sign is_exponent is_wide is_universal_name is_letter_unit is_word_unit is_number_head is_number_unit punctuators is_punctuator is_quoted_unit is_char_prefix is_string_prefix is_other is_other_unit trigraph is_utf8 chars lib.Utf8.encode
example_3d = refl

-- 6.10.3.5, example 4, first line
example_4a : events C11 bare (Lexed (
    text_section ([])
    ∷ section Define true (item Identifier (codes "str") true 1 ∷ item Punct (codes "(") false 1 ∷ item Identifier (codes "s") false 1 ∷ item Punct (codes ")") false 1 ∷ item Punct (codes "#") true 1 ∷ item Identifier (codes "s") true 1 ∷ []) 2
    ∷ text_section ([])
    ∷ section Define true (item Identifier (codes "xstr") true 2 ∷ item Punct (codes "(") false 2 ∷ item Identifier (codes "s") false 2 ∷ item Punct (codes ")") false 2 ∷ item Identifier (codes "str") true 2 ∷ item Punct (codes "(") false 2 ∷ item Identifier (codes "s") false 2 ∷ item Punct (codes ")") false 2 ∷ []) 3
    ∷ text_section ([])
    ∷ section Define true (item Identifier (codes "debug") true 3 ∷ item Punct (codes "(") false 3 ∷ item Identifier (codes "s") false 3 ∷ item Punct (codes ",") false 3 ∷ item Identifier (codes "t") true 3 ∷ item Punct (codes ")") false 3 ∷ item Identifier (codes "printf") true 3 ∷ item Punct (codes "(") false 3 ∷ item StringLit (codes "\"x\"") false 3 ∷ item Punct (codes "#") true 3 ∷ item Identifier (codes "s") true 3 ∷ item StringLit (codes "\"= %d, x\"") true 3 ∷ item Punct (codes "#") true 3 ∷ item Identifier (codes "t") true 3 ∷ item StringLit (codes "\"= %s\"") true 3 ∷ item Punct (codes ",") false 3 ∷ item Identifier (codes "x") true 3 ∷ item Punct (codes "##") true 3 ∷ item Identifier (codes "s") true 3 ∷ item Punct (codes ",") false 3 ∷ item Identifier (codes "x") true 3 ∷ item Punct (codes "##") true 3 ∷ item Identifier (codes "t") true 3 ∷ item Punct (codes ")") false 3 ∷ []) 4
    ∷ text_section ([])
    ∷ section Define true (item Identifier (codes "INCFILE") true 4 ∷ item Punct (codes "(") false 4 ∷ item Identifier (codes "n") false 4 ∷ item Punct (codes ")") false 4 ∷ item Identifier (codes "vers") true 4 ∷ item Punct (codes "##") true 4 ∷ item Identifier (codes "n") true 4 ∷ []) 5
    ∷ text_section ([])
    ∷ section Define true (item Identifier (codes "glue") true 5 ∷ item Punct (codes "(") false 5 ∷ item Identifier (codes "a") false 5 ∷ item Punct (codes ",") false 5 ∷ item Identifier (codes "b") true 5 ∷ item Punct (codes ")") false 5 ∷ item Identifier (codes "a") true 5 ∷ item Punct (codes "##") true 5 ∷ item Identifier (codes "b") true 5 ∷ []) 6
    ∷ text_section ([])
    ∷ section Define true (item Identifier (codes "xglue") true 6 ∷ item Punct (codes "(") false 6 ∷ item Identifier (codes "a") false 6 ∷ item Punct (codes ",") false 6 ∷ item Identifier (codes "b") true 6 ∷ item Punct (codes ")") false 6 ∷ item Identifier (codes "glue") true 6 ∷ item Punct (codes "(") false 6 ∷ item Identifier (codes "a") false 6 ∷ item Punct (codes ",") false 6 ∷ item Identifier (codes "b") true 6 ∷ item Punct (codes ")") false 6 ∷ []) 7
    ∷ text_section ([])
    ∷ section Define false (item Identifier (codes "HIGHLOW") true 7 ∷ item StringLit (codes "\"hello\"") true 7 ∷ []) 8
    ∷ text_section ([])
    ∷ section Define false (item Identifier (codes "LOW") true 8 ∷ item Identifier (codes "LOW") true 8 ∷ item StringLit (codes "\", world\"") true 8 ∷ []) 9
    ∷ text_section (item Identifier (codes "debug") false 9 ∷ item Punct (codes "(") false 9 ∷ item Number (codes "1") false 9 ∷ item Punct (codes ",") false 9 ∷ item Number (codes "2") true 9 ∷ item Punct (codes ")") false 9 ∷ item Punct (codes ";") false 9 ∷ [])
    ∷ [])) ≡ (TokenEvent (Plain (codes "printf")) ∷ TokenEvent (Plain (codes "(")) ∷ TokenEvent (Plain (codes "\"x\"")) ∷ TokenEvent (Str (part false (Plain (codes "1")) no_part)) ∷ TokenEvent (Plain (codes "\"= %d, x\"")) ∷ TokenEvent (Str (part false (Plain (codes "2")) no_part)) ∷ TokenEvent (Plain (codes "\"= %s\"")) ∷ TokenEvent (Plain (codes ",")) ∷ TokenEvent (Plain (codes "x1")) ∷ TokenEvent (Plain (codes ",")) ∷ TokenEvent (Plain (codes "x2")) ∷ TokenEvent (Plain (codes ")")) ∷ TokenEvent (Plain (codes ";")) ∷ [])
unfolding is_white is_new_line is_digit is_letter is_hex is_sign is_exponent is_wide is_universal_name is_letter_unit is_word_unit is_number_head is_number_unit punctuators is_punctuator is_quoted_unit is_char_prefix is_string_prefix is_other is_other_unit trigraph is_utf8 chars lib.Utf8.encode
example_4a = refl

-- 6.10.3.5, example 4, the string of an include
example_4b : events C11 bare (Lexed (
    text_section ([])
    ∷ section Define true (item Identifier (codes "str") true 1 ∷ item Punct (codes "(") false 1 ∷ item Identifier (codes "s") false 1 ∷ item Punct (codes ")") false 1 ∷ item Punct (codes "#") true 1 ∷ item Identifier (codes "s") true 1 ∷ []) 2
    ∷ text_section ([])
    ∷ section Define true (item Identifier (codes "xstr") true 2 ∷ item Punct (codes "(") false 2 ∷ item Identifier (codes "s") false 2 ∷ item Punct (codes ")") false 2 ∷ item Identifier (codes "str") true 2 ∷ item Punct (codes "(") false 2 ∷ item Identifier (codes "s") false 2 ∷ item Punct (codes ")") false 2 ∷ []) 3
    ∷ text_section ([])
    ∷ section Define true (item Identifier (codes "debug") true 3 ∷ item Punct (codes "(") false 3 ∷ item Identifier (codes "s") false 3 ∷ item Punct (codes ",") false 3 ∷ item Identifier (codes "t") true 3 ∷ item Punct (codes ")") false 3 ∷ item Identifier (codes "printf") true 3 ∷ item Punct (codes "(") false 3 ∷ item StringLit (codes "\"x\"") false 3 ∷ item Punct (codes "#") true 3 ∷ item Identifier (codes "s") true 3 ∷ item StringLit (codes "\"= %d, x\"") true 3 ∷ item Punct (codes "#") true 3 ∷ item Identifier (codes "t") true 3 ∷ item StringLit (codes "\"= %s\"") true 3 ∷ item Punct (codes ",") false 3 ∷ item Identifier (codes "x") true 3 ∷ item Punct (codes "##") true 3 ∷ item Identifier (codes "s") true 3 ∷ item Punct (codes ",") false 3 ∷ item Identifier (codes "x") true 3 ∷ item Punct (codes "##") true 3 ∷ item Identifier (codes "t") true 3 ∷ item Punct (codes ")") false 3 ∷ []) 4
    ∷ text_section ([])
    ∷ section Define true (item Identifier (codes "INCFILE") true 4 ∷ item Punct (codes "(") false 4 ∷ item Identifier (codes "n") false 4 ∷ item Punct (codes ")") false 4 ∷ item Identifier (codes "vers") true 4 ∷ item Punct (codes "##") true 4 ∷ item Identifier (codes "n") true 4 ∷ []) 5
    ∷ text_section ([])
    ∷ section Define true (item Identifier (codes "glue") true 5 ∷ item Punct (codes "(") false 5 ∷ item Identifier (codes "a") false 5 ∷ item Punct (codes ",") false 5 ∷ item Identifier (codes "b") true 5 ∷ item Punct (codes ")") false 5 ∷ item Identifier (codes "a") true 5 ∷ item Punct (codes "##") true 5 ∷ item Identifier (codes "b") true 5 ∷ []) 6
    ∷ text_section ([])
    ∷ section Define true (item Identifier (codes "xglue") true 6 ∷ item Punct (codes "(") false 6 ∷ item Identifier (codes "a") false 6 ∷ item Punct (codes ",") false 6 ∷ item Identifier (codes "b") true 6 ∷ item Punct (codes ")") false 6 ∷ item Identifier (codes "glue") true 6 ∷ item Punct (codes "(") false 6 ∷ item Identifier (codes "a") false 6 ∷ item Punct (codes ",") false 6 ∷ item Identifier (codes "b") true 6 ∷ item Punct (codes ")") false 6 ∷ []) 7
    ∷ text_section ([])
    ∷ section Define false (item Identifier (codes "HIGHLOW") true 7 ∷ item StringLit (codes "\"hello\"") true 7 ∷ []) 8
    ∷ text_section ([])
    ∷ section Define false (item Identifier (codes "LOW") true 8 ∷ item Identifier (codes "LOW") true 8 ∷ item StringLit (codes "\", world\"") true 8 ∷ []) 9
    ∷ text_section (item Identifier (codes "xstr") false 9 ∷ item Punct (codes "(") false 9 ∷ item Identifier (codes "INCFILE") false 9 ∷ item Punct (codes "(") false 9 ∷ item Number (codes "2") false 9 ∷ item Punct (codes ")") false 9 ∷ item Punct (codes ".") false 9 ∷ item Identifier (codes "h") false 9 ∷ item Punct (codes ")") false 9 ∷ [])
    ∷ [])) ≡ (TokenEvent (Str (part false (Plain (codes "vers2")) (part false (Plain (codes ".")) (part false (Plain (codes "h")) no_part)))) ∷ [])
unfolding is_white is_new_line is_digit is_letter is_hex is_sign is_exponent is_wide is_universal_name is_letter_unit is_word_unit is_number_head is_number_unit punctuators is_punctuator is_quoted_unit is_char_prefix is_string_prefix is_other is_other_unit trigraph is_utf8 chars lib.Utf8.encode
example_4b = refl

-- 6.10.3.5, example 4, glue(HIGH, LOW);
example_4c : events C11 bare (Lexed (
    text_section ([])
    ∷ section Define true (item Identifier (codes "str") true 1 ∷ item Punct (codes "(") false 1 ∷ item Identifier (codes "s") false 1 ∷ item Punct (codes ")") false 1 ∷ item Punct (codes "#") true 1 ∷ item Identifier (codes "s") true 1 ∷ []) 2
    ∷ text_section ([])
    ∷ section Define true (item Identifier (codes "xstr") true 2 ∷ item Punct (codes "(") false 2 ∷ item Identifier (codes "s") false 2 ∷ item Punct (codes ")") false 2 ∷ item Identifier (codes "str") true 2 ∷ item Punct (codes "(") false 2 ∷ item Identifier (codes "s") false 2 ∷ item Punct (codes ")") false 2 ∷ []) 3
    ∷ text_section ([])
    ∷ section Define true (item Identifier (codes "debug") true 3 ∷ item Punct (codes "(") false 3 ∷ item Identifier (codes "s") false 3 ∷ item Punct (codes ",") false 3 ∷ item Identifier (codes "t") true 3 ∷ item Punct (codes ")") false 3 ∷ item Identifier (codes "printf") true 3 ∷ item Punct (codes "(") false 3 ∷ item StringLit (codes "\"x\"") false 3 ∷ item Punct (codes "#") true 3 ∷ item Identifier (codes "s") true 3 ∷ item StringLit (codes "\"= %d, x\"") true 3 ∷ item Punct (codes "#") true 3 ∷ item Identifier (codes "t") true 3 ∷ item StringLit (codes "\"= %s\"") true 3 ∷ item Punct (codes ",") false 3 ∷ item Identifier (codes "x") true 3 ∷ item Punct (codes "##") true 3 ∷ item Identifier (codes "s") true 3 ∷ item Punct (codes ",") false 3 ∷ item Identifier (codes "x") true 3 ∷ item Punct (codes "##") true 3 ∷ item Identifier (codes "t") true 3 ∷ item Punct (codes ")") false 3 ∷ []) 4
    ∷ text_section ([])
    ∷ section Define true (item Identifier (codes "INCFILE") true 4 ∷ item Punct (codes "(") false 4 ∷ item Identifier (codes "n") false 4 ∷ item Punct (codes ")") false 4 ∷ item Identifier (codes "vers") true 4 ∷ item Punct (codes "##") true 4 ∷ item Identifier (codes "n") true 4 ∷ []) 5
    ∷ text_section ([])
    ∷ section Define true (item Identifier (codes "glue") true 5 ∷ item Punct (codes "(") false 5 ∷ item Identifier (codes "a") false 5 ∷ item Punct (codes ",") false 5 ∷ item Identifier (codes "b") true 5 ∷ item Punct (codes ")") false 5 ∷ item Identifier (codes "a") true 5 ∷ item Punct (codes "##") true 5 ∷ item Identifier (codes "b") true 5 ∷ []) 6
    ∷ text_section ([])
    ∷ section Define true (item Identifier (codes "xglue") true 6 ∷ item Punct (codes "(") false 6 ∷ item Identifier (codes "a") false 6 ∷ item Punct (codes ",") false 6 ∷ item Identifier (codes "b") true 6 ∷ item Punct (codes ")") false 6 ∷ item Identifier (codes "glue") true 6 ∷ item Punct (codes "(") false 6 ∷ item Identifier (codes "a") false 6 ∷ item Punct (codes ",") false 6 ∷ item Identifier (codes "b") true 6 ∷ item Punct (codes ")") false 6 ∷ []) 7
    ∷ text_section ([])
    ∷ section Define false (item Identifier (codes "HIGHLOW") true 7 ∷ item StringLit (codes "\"hello\"") true 7 ∷ []) 8
    ∷ text_section ([])
    ∷ section Define false (item Identifier (codes "LOW") true 8 ∷ item Identifier (codes "LOW") true 8 ∷ item StringLit (codes "\", world\"") true 8 ∷ []) 9
    ∷ text_section (item Identifier (codes "glue") false 9 ∷ item Punct (codes "(") false 9 ∷ item Identifier (codes "HIGH") false 9 ∷ item Punct (codes ",") false 9 ∷ item Identifier (codes "LOW") true 9 ∷ item Punct (codes ")") false 9 ∷ item Punct (codes ";") false 9 ∷ [])
    ∷ [])) ≡ (TokenEvent (Plain (codes "\"hello\"")) ∷ TokenEvent (Plain (codes ";")) ∷ [])
unfolding is_white is_new_line is_digit is_letter is_hex is_sign is_exponent is_wide is_universal_name is_letter_unit is_word_unit is_number_head is_number_unit punctuators is_punctuator is_quoted_unit is_char_prefix is_string_prefix is_other is_other_unit trigraph is_utf8 chars lib.Utf8.encode
example_4c = refl

-- 6.10.3.5, example 4, xglue(HIGH, LOW)
example_4d : events C11 bare (Lexed (
    text_section ([])
    ∷ section Define true (item Identifier (codes "str") true 1 ∷ item Punct (codes "(") false 1 ∷ item Identifier (codes "s") false 1 ∷ item Punct (codes ")") false 1 ∷ item Punct (codes "#") true 1 ∷ item Identifier (codes "s") true 1 ∷ []) 2
    ∷ text_section ([])
    ∷ section Define true (item Identifier (codes "xstr") true 2 ∷ item Punct (codes "(") false 2 ∷ item Identifier (codes "s") false 2 ∷ item Punct (codes ")") false 2 ∷ item Identifier (codes "str") true 2 ∷ item Punct (codes "(") false 2 ∷ item Identifier (codes "s") false 2 ∷ item Punct (codes ")") false 2 ∷ []) 3
    ∷ text_section ([])
    ∷ section Define true (item Identifier (codes "debug") true 3 ∷ item Punct (codes "(") false 3 ∷ item Identifier (codes "s") false 3 ∷ item Punct (codes ",") false 3 ∷ item Identifier (codes "t") true 3 ∷ item Punct (codes ")") false 3 ∷ item Identifier (codes "printf") true 3 ∷ item Punct (codes "(") false 3 ∷ item StringLit (codes "\"x\"") false 3 ∷ item Punct (codes "#") true 3 ∷ item Identifier (codes "s") true 3 ∷ item StringLit (codes "\"= %d, x\"") true 3 ∷ item Punct (codes "#") true 3 ∷ item Identifier (codes "t") true 3 ∷ item StringLit (codes "\"= %s\"") true 3 ∷ item Punct (codes ",") false 3 ∷ item Identifier (codes "x") true 3 ∷ item Punct (codes "##") true 3 ∷ item Identifier (codes "s") true 3 ∷ item Punct (codes ",") false 3 ∷ item Identifier (codes "x") true 3 ∷ item Punct (codes "##") true 3 ∷ item Identifier (codes "t") true 3 ∷ item Punct (codes ")") false 3 ∷ []) 4
    ∷ text_section ([])
    ∷ section Define true (item Identifier (codes "INCFILE") true 4 ∷ item Punct (codes "(") false 4 ∷ item Identifier (codes "n") false 4 ∷ item Punct (codes ")") false 4 ∷ item Identifier (codes "vers") true 4 ∷ item Punct (codes "##") true 4 ∷ item Identifier (codes "n") true 4 ∷ []) 5
    ∷ text_section ([])
    ∷ section Define true (item Identifier (codes "glue") true 5 ∷ item Punct (codes "(") false 5 ∷ item Identifier (codes "a") false 5 ∷ item Punct (codes ",") false 5 ∷ item Identifier (codes "b") true 5 ∷ item Punct (codes ")") false 5 ∷ item Identifier (codes "a") true 5 ∷ item Punct (codes "##") true 5 ∷ item Identifier (codes "b") true 5 ∷ []) 6
    ∷ text_section ([])
    ∷ section Define true (item Identifier (codes "xglue") true 6 ∷ item Punct (codes "(") false 6 ∷ item Identifier (codes "a") false 6 ∷ item Punct (codes ",") false 6 ∷ item Identifier (codes "b") true 6 ∷ item Punct (codes ")") false 6 ∷ item Identifier (codes "glue") true 6 ∷ item Punct (codes "(") false 6 ∷ item Identifier (codes "a") false 6 ∷ item Punct (codes ",") false 6 ∷ item Identifier (codes "b") true 6 ∷ item Punct (codes ")") false 6 ∷ []) 7
    ∷ text_section ([])
    ∷ section Define false (item Identifier (codes "HIGHLOW") true 7 ∷ item StringLit (codes "\"hello\"") true 7 ∷ []) 8
    ∷ text_section ([])
    ∷ section Define false (item Identifier (codes "LOW") true 8 ∷ item Identifier (codes "LOW") true 8 ∷ item StringLit (codes "\", world\"") true 8 ∷ []) 9
    ∷ text_section (item Identifier (codes "xglue") false 9 ∷ item Punct (codes "(") false 9 ∷ item Identifier (codes "HIGH") false 9 ∷ item Punct (codes ",") false 9 ∷ item Identifier (codes "LOW") true 9 ∷ item Punct (codes ")") false 9 ∷ [])
    ∷ [])) ≡ (TokenEvent (Plain (codes "\"hello\"")) ∷ TokenEvent (Plain (codes "\", world\"")) ∷ [])
unfolding is_white is_new_line is_digit is_letter is_hex is_sign is_exponent is_wide is_universal_name is_letter_unit is_word_unit is_number_head is_number_unit punctuators is_punctuator is_quoted_unit is_char_prefix is_string_prefix is_other is_other_unit trigraph is_utf8 chars lib.Utf8.encode
example_4d = refl

-- 6.10.3.5, example 5
example_5 : events C11 bare (Lexed (
    text_section ([])
    ∷ section Define true (item Identifier (codes "t") true 1 ∷ item Punct (codes "(") false 1 ∷ item Identifier (codes "x") false 1 ∷ item Punct (codes ",") false 1 ∷ item Identifier (codes "y") false 1 ∷ item Punct (codes ",") false 1 ∷ item Identifier (codes "z") false 1 ∷ item Punct (codes ")") false 1 ∷ item Identifier (codes "x") true 1 ∷ item Punct (codes "##") true 1 ∷ item Identifier (codes "y") true 1 ∷ item Punct (codes "##") true 1 ∷ item Identifier (codes "z") true 1 ∷ []) 2
    ∷ text_section (item Identifier (codes "int") false 2 ∷ item Identifier (codes "j") true 2 ∷ item Punct (codes "[") false 2 ∷ item Punct (codes "]") false 2 ∷ item Punct (codes "=") true 2 ∷ item Punct (codes "{") true 2 ∷ item Identifier (codes "t") true 2 ∷ item Punct (codes "(") false 2 ∷ item Number (codes "1") false 2 ∷ item Punct (codes ",") false 2 ∷ item Number (codes "2") false 2 ∷ item Punct (codes ",") false 2 ∷ item Number (codes "3") false 2 ∷ item Punct (codes ")") false 2 ∷ item Punct (codes ",") false 2 ∷ item Identifier (codes "t") true 2 ∷ item Punct (codes "(") false 2 ∷ item Punct (codes ",") false 2 ∷ item Number (codes "4") false 2 ∷ item Punct (codes ",") false 2 ∷ item Number (codes "5") false 2 ∷ item Punct (codes ")") false 2 ∷ item Punct (codes ",") false 2 ∷ item Identifier (codes "t") true 2 ∷ item Punct (codes "(") false 2 ∷ item Number (codes "6") false 2 ∷ item Punct (codes ",") false 2 ∷ item Punct (codes ",") false 2 ∷ item Number (codes "7") false 2 ∷ item Punct (codes ")") false 2 ∷ item Punct (codes ",") false 2 ∷ item Identifier (codes "t") true 2 ∷ item Punct (codes "(") false 2 ∷ item Number (codes "8") false 2 ∷ item Punct (codes ",") false 2 ∷ item Number (codes "9") false 2 ∷ item Punct (codes ",") false 2 ∷ item Punct (codes ")") false 2 ∷ item Punct (codes ",") false 2 ∷ item Identifier (codes "t") true 2 ∷ item Punct (codes "(") false 2 ∷ item Number (codes "10") false 2 ∷ item Punct (codes ",") false 2 ∷ item Punct (codes ",") false 2 ∷ item Punct (codes ")") false 2 ∷ item Punct (codes ",") false 2 ∷ item Identifier (codes "t") true 2 ∷ item Punct (codes "(") false 2 ∷ item Punct (codes ",") false 2 ∷ item Number (codes "11") false 2 ∷ item Punct (codes ",") false 2 ∷ item Punct (codes ")") false 2 ∷ item Punct (codes ",") false 2 ∷ item Identifier (codes "t") true 2 ∷ item Punct (codes "(") false 2 ∷ item Punct (codes ",") false 2 ∷ item Punct (codes ",") false 2 ∷ item Number (codes "12") false 2 ∷ item Punct (codes ")") false 2 ∷ item Punct (codes ",") false 2 ∷ item Identifier (codes "t") true 2 ∷ item Punct (codes "(") false 2 ∷ item Punct (codes ",") false 2 ∷ item Punct (codes ",") false 2 ∷ item Punct (codes ")") false 2 ∷ item Punct (codes "}") true 2 ∷ item Punct (codes ";") false 2 ∷ [])
    ∷ [])) ≡ (TokenEvent (Plain (codes "int")) ∷ TokenEvent (Plain (codes "j")) ∷ TokenEvent (Plain (codes "[")) ∷ TokenEvent (Plain (codes "]")) ∷ TokenEvent (Plain (codes "=")) ∷ TokenEvent (Plain (codes "{")) ∷ TokenEvent (Plain (codes "123")) ∷ TokenEvent (Plain (codes ",")) ∷ TokenEvent (Plain (codes "45")) ∷ TokenEvent (Plain (codes ",")) ∷ TokenEvent (Plain (codes "67")) ∷ TokenEvent (Plain (codes ",")) ∷ TokenEvent (Plain (codes "89")) ∷ TokenEvent (Plain (codes ",")) ∷ TokenEvent (Plain (codes "10")) ∷ TokenEvent (Plain (codes ",")) ∷ TokenEvent (Plain (codes "11")) ∷ TokenEvent (Plain (codes ",")) ∷ TokenEvent (Plain (codes "12")) ∷ TokenEvent (Plain (codes ",")) ∷ TokenEvent (Plain (codes "}")) ∷ TokenEvent (Plain (codes ";")) ∷ [])
unfolding is_white is_new_line is_digit is_letter is_hex is_sign is_exponent is_wide is_universal_name is_letter_unit is_word_unit is_number_head is_number_unit punctuators is_punctuator is_quoted_unit is_char_prefix is_string_prefix is_other is_other_unit trigraph is_utf8 chars lib.Utf8.encode
example_5 = refl

-- 6.10.3.5, example 7, debug("Flag");
example_7a : events C11 bare (Lexed (
    text_section ([])
    ∷ section Define true (item Identifier (codes "debug") true 1 ∷ item Punct (codes "(") false 1 ∷ item Punct (codes "...") false 1 ∷ item Punct (codes ")") false 1 ∷ item Identifier (codes "fprintf") true 1 ∷ item Punct (codes "(") false 1 ∷ item Identifier (codes "stderr") false 1 ∷ item Punct (codes ",") false 1 ∷ item Identifier (codes "__VA_ARGS__") true 1 ∷ item Punct (codes ")") false 1 ∷ []) 2
    ∷ text_section ([])
    ∷ section Define true (item Identifier (codes "showlist") true 2 ∷ item Punct (codes "(") false 2 ∷ item Punct (codes "...") false 2 ∷ item Punct (codes ")") false 2 ∷ item Identifier (codes "puts") true 2 ∷ item Punct (codes "(") false 2 ∷ item Punct (codes "#") false 2 ∷ item Identifier (codes "__VA_ARGS__") false 2 ∷ item Punct (codes ")") false 2 ∷ []) 3
    ∷ text_section ([])
    ∷ section Define true (item Identifier (codes "report") true 3 ∷ item Punct (codes "(") false 3 ∷ item Identifier (codes "test") false 3 ∷ item Punct (codes ",") false 3 ∷ item Punct (codes "...") true 3 ∷ item Punct (codes ")") false 3 ∷ item Punct (codes "(") true 3 ∷ item Punct (codes "(") false 3 ∷ item Identifier (codes "test") false 3 ∷ item Punct (codes ")") false 3 ∷ item Punct (codes "?") false 3 ∷ item Identifier (codes "puts") false 3 ∷ item Punct (codes "(") false 3 ∷ item Punct (codes "#") false 3 ∷ item Identifier (codes "test") false 3 ∷ item Punct (codes ")") false 3 ∷ item Punct (codes ":") false 3 ∷ item Identifier (codes "printf") true 3 ∷ item Punct (codes "(") false 3 ∷ item Identifier (codes "__VA_ARGS__") false 3 ∷ item Punct (codes ")") false 3 ∷ item Punct (codes ")") false 3 ∷ []) 4
    ∷ text_section (item Identifier (codes "debug") false 4 ∷ item Punct (codes "(") false 4 ∷ item StringLit (codes "\"Flag\"") false 4 ∷ item Punct (codes ")") false 4 ∷ item Punct (codes ";") false 4 ∷ item Identifier (codes "debug") true 5 ∷ item Punct (codes "(") false 5 ∷ item StringLit (codes "\"X = %d\\n\"") false 5 ∷ item Punct (codes ",") false 5 ∷ item Identifier (codes "x") true 5 ∷ item Punct (codes ")") false 5 ∷ item Punct (codes ";") false 5 ∷ [])
    ∷ [])) ≡ (TokenEvent (Plain (codes "fprintf")) ∷ TokenEvent (Plain (codes "(")) ∷ TokenEvent (Plain (codes "stderr")) ∷ TokenEvent (Plain (codes ",")) ∷ TokenEvent (Plain (codes "\"Flag\"")) ∷ TokenEvent (Plain (codes ")")) ∷ TokenEvent (Plain (codes ";")) ∷ TokenEvent (Plain (codes "fprintf")) ∷ TokenEvent (Plain (codes "(")) ∷ TokenEvent (Plain (codes "stderr")) ∷ TokenEvent (Plain (codes ",")) ∷ TokenEvent (Plain (codes "\"X = %d\\n\"")) ∷ TokenEvent (Plain (codes ",")) ∷ TokenEvent (Plain (codes "x")) ∷ TokenEvent (Plain (codes ")")) ∷ TokenEvent (Plain (codes ";")) ∷ [])
unfolding is_white is_new_line is_digit is_letter is_hex is_sign is_exponent is_wide is_universal_name is_letter_unit is_word_unit is_number_head is_number_unit punctuators is_punctuator is_quoted_unit is_char_prefix is_string_prefix is_other is_other_unit trigraph is_utf8 chars lib.Utf8.encode
example_7a = refl

-- 6.10.3.5, example 7, showlist
example_7b : events C11 bare (Lexed (
    text_section ([])
    ∷ section Define true (item Identifier (codes "debug") true 1 ∷ item Punct (codes "(") false 1 ∷ item Punct (codes "...") false 1 ∷ item Punct (codes ")") false 1 ∷ item Identifier (codes "fprintf") true 1 ∷ item Punct (codes "(") false 1 ∷ item Identifier (codes "stderr") false 1 ∷ item Punct (codes ",") false 1 ∷ item Identifier (codes "__VA_ARGS__") true 1 ∷ item Punct (codes ")") false 1 ∷ []) 2
    ∷ text_section ([])
    ∷ section Define true (item Identifier (codes "showlist") true 2 ∷ item Punct (codes "(") false 2 ∷ item Punct (codes "...") false 2 ∷ item Punct (codes ")") false 2 ∷ item Identifier (codes "puts") true 2 ∷ item Punct (codes "(") false 2 ∷ item Punct (codes "#") false 2 ∷ item Identifier (codes "__VA_ARGS__") false 2 ∷ item Punct (codes ")") false 2 ∷ []) 3
    ∷ text_section ([])
    ∷ section Define true (item Identifier (codes "report") true 3 ∷ item Punct (codes "(") false 3 ∷ item Identifier (codes "test") false 3 ∷ item Punct (codes ",") false 3 ∷ item Punct (codes "...") true 3 ∷ item Punct (codes ")") false 3 ∷ item Punct (codes "(") true 3 ∷ item Punct (codes "(") false 3 ∷ item Identifier (codes "test") false 3 ∷ item Punct (codes ")") false 3 ∷ item Punct (codes "?") false 3 ∷ item Identifier (codes "puts") false 3 ∷ item Punct (codes "(") false 3 ∷ item Punct (codes "#") false 3 ∷ item Identifier (codes "test") false 3 ∷ item Punct (codes ")") false 3 ∷ item Punct (codes ":") false 3 ∷ item Identifier (codes "printf") true 3 ∷ item Punct (codes "(") false 3 ∷ item Identifier (codes "__VA_ARGS__") false 3 ∷ item Punct (codes ")") false 3 ∷ item Punct (codes ")") false 3 ∷ []) 4
    ∷ text_section (item Identifier (codes "showlist") false 4 ∷ item Punct (codes "(") false 4 ∷ item Identifier (codes "The") false 4 ∷ item Identifier (codes "first") true 4 ∷ item Punct (codes ",") false 4 ∷ item Identifier (codes "second") true 4 ∷ item Punct (codes ",") false 4 ∷ item Identifier (codes "and") true 4 ∷ item Identifier (codes "third") true 4 ∷ item Identifier (codes "items") true 4 ∷ item Punct (codes ".") false 4 ∷ item Punct (codes ")") false 4 ∷ item Punct (codes ";") false 4 ∷ [])
    ∷ [])) ≡ (TokenEvent (Plain (codes "puts")) ∷ TokenEvent (Plain (codes "(")) ∷ TokenEvent (Str (part false (Plain (codes "The")) (part true (Plain (codes "first")) (part false (Plain (codes ",")) (part true (Plain (codes "second")) (part false (Plain (codes ",")) (part true (Plain (codes "and")) (part true (Plain (codes "third")) (part true (Plain (codes "items")) (part false (Plain (codes ".")) no_part)))))))))) ∷ TokenEvent (Plain (codes ")")) ∷ TokenEvent (Plain (codes ";")) ∷ [])
unfolding is_white is_new_line is_digit is_letter is_hex is_sign is_exponent is_wide is_universal_name is_letter_unit is_word_unit is_number_head is_number_unit punctuators is_punctuator is_quoted_unit is_char_prefix is_string_prefix is_other is_other_unit trigraph is_utf8 chars lib.Utf8.encode
example_7b = refl

-- 6.10.3.5, example 7, report
example_7c : events C11 bare (Lexed (
    text_section ([])
    ∷ section Define true (item Identifier (codes "debug") true 1 ∷ item Punct (codes "(") false 1 ∷ item Punct (codes "...") false 1 ∷ item Punct (codes ")") false 1 ∷ item Identifier (codes "fprintf") true 1 ∷ item Punct (codes "(") false 1 ∷ item Identifier (codes "stderr") false 1 ∷ item Punct (codes ",") false 1 ∷ item Identifier (codes "__VA_ARGS__") true 1 ∷ item Punct (codes ")") false 1 ∷ []) 2
    ∷ text_section ([])
    ∷ section Define true (item Identifier (codes "showlist") true 2 ∷ item Punct (codes "(") false 2 ∷ item Punct (codes "...") false 2 ∷ item Punct (codes ")") false 2 ∷ item Identifier (codes "puts") true 2 ∷ item Punct (codes "(") false 2 ∷ item Punct (codes "#") false 2 ∷ item Identifier (codes "__VA_ARGS__") false 2 ∷ item Punct (codes ")") false 2 ∷ []) 3
    ∷ text_section ([])
    ∷ section Define true (item Identifier (codes "report") true 3 ∷ item Punct (codes "(") false 3 ∷ item Identifier (codes "test") false 3 ∷ item Punct (codes ",") false 3 ∷ item Punct (codes "...") true 3 ∷ item Punct (codes ")") false 3 ∷ item Punct (codes "(") true 3 ∷ item Punct (codes "(") false 3 ∷ item Identifier (codes "test") false 3 ∷ item Punct (codes ")") false 3 ∷ item Punct (codes "?") false 3 ∷ item Identifier (codes "puts") false 3 ∷ item Punct (codes "(") false 3 ∷ item Punct (codes "#") false 3 ∷ item Identifier (codes "test") false 3 ∷ item Punct (codes ")") false 3 ∷ item Punct (codes ":") false 3 ∷ item Identifier (codes "printf") true 3 ∷ item Punct (codes "(") false 3 ∷ item Identifier (codes "__VA_ARGS__") false 3 ∷ item Punct (codes ")") false 3 ∷ item Punct (codes ")") false 3 ∷ []) 4
    ∷ text_section (item Identifier (codes "report") false 4 ∷ item Punct (codes "(") false 4 ∷ item Identifier (codes "x") false 4 ∷ item Punct (codes ">") false 4 ∷ item Identifier (codes "y") false 4 ∷ item Punct (codes ",") false 4 ∷ item StringLit (codes "\"x is %d but y is %d\"") true 4 ∷ item Punct (codes ",") false 4 ∷ item Identifier (codes "x") true 4 ∷ item Punct (codes ",") false 4 ∷ item Identifier (codes "y") true 4 ∷ item Punct (codes ")") false 4 ∷ item Punct (codes ";") false 4 ∷ [])
    ∷ [])) ≡ (TokenEvent (Plain (codes "(")) ∷ TokenEvent (Plain (codes "(")) ∷ TokenEvent (Plain (codes "x")) ∷ TokenEvent (Plain (codes ">")) ∷ TokenEvent (Plain (codes "y")) ∷ TokenEvent (Plain (codes ")")) ∷ TokenEvent (Plain (codes "?")) ∷ TokenEvent (Plain (codes "puts")) ∷ TokenEvent (Plain (codes "(")) ∷ TokenEvent (Str (part false (Plain (codes "x")) (part false (Plain (codes ">")) (part false (Plain (codes "y")) no_part)))) ∷ TokenEvent (Plain (codes ")")) ∷ TokenEvent (Plain (codes ":")) ∷ TokenEvent (Plain (codes "printf")) ∷ TokenEvent (Plain (codes "(")) ∷ TokenEvent (Plain (codes "\"x is %d but y is %d\"")) ∷ TokenEvent (Plain (codes ",")) ∷ TokenEvent (Plain (codes "x")) ∷ TokenEvent (Plain (codes ",")) ∷ TokenEvent (Plain (codes "y")) ∷ TokenEvent (Plain (codes ")")) ∷ TokenEvent (Plain (codes ")")) ∷ TokenEvent (Plain (codes ";")) ∷ [])
unfolding is_white is_new_line is_digit is_letter is_hex is_sign is_exponent is_wide is_universal_name is_letter_unit is_word_unit is_number_head is_number_unit punctuators is_punctuator is_quoted_unit is_char_prefix is_string_prefix is_other is_other_unit trigraph is_utf8 chars lib.Utf8.encode
example_7c = refl

-- 6.10.3.3p3: a paste that is no item keeps all that was pasted
pasted_items : events C11 bare (Lexed (
    text_section ([])
    ∷ section Define true (item Identifier (codes "P") true 1 ∷ item Punct (codes "(") false 1 ∷ item Identifier (codes "a") false 1 ∷ item Punct (codes ",") false 1 ∷ item Identifier (codes "b") false 1 ∷ item Punct (codes ",") false 1 ∷ item Identifier (codes "c") false 1 ∷ item Punct (codes ")") false 1 ∷ item Identifier (codes "a") true 1 ∷ item Punct (codes "##") true 1 ∷ item Identifier (codes "b") true 1 ∷ item Punct (codes "##") true 1 ∷ item Identifier (codes "c") true 1 ∷ []) 2
    ∷ text_section (item Identifier (codes "P") false 2 ∷ item Punct (codes "(") false 2 ∷ item Punct (codes "-") false 2 ∷ item Punct (codes ",") false 2 ∷ item Identifier (codes "x") false 2 ∷ item Punct (codes ",") false 2 ∷ item Punct (codes "+") false 2 ∷ item Punct (codes ")") false 2 ∷ [])
    ∷ [])) ≡ (TokenEvent (Pasted (one_more (Plain (codes "-")) (one_more (Plain (codes "x")) (one_more (Plain (codes "+")) no_token)))) ∷ [])
unfolding is_white is_new_line is_digit is_letter is_hex is_sign is_exponent is_wide is_universal_name is_letter_unit is_word_unit is_number_head is_number_unit punctuators is_punctuator is_quoted_unit is_char_prefix is_string_prefix is_other is_other_unit trigraph is_utf8 chars lib.Utf8.encode
pasted_items = refl

-- 6.10.3p4: a call with another number of arguments, or without ), leaves its name
wrong_calls : events C11 bare (Lexed (
    text_section ([])
    ∷ section Define true (item Identifier (codes "F") true 1 ∷ item Punct (codes "(") false 1 ∷ item Identifier (codes "a") false 1 ∷ item Punct (codes ",") false 1 ∷ item Identifier (codes "b") false 1 ∷ item Punct (codes ")") false 1 ∷ item Number (codes "1") true 1 ∷ []) 2
    ∷ text_section ([])
    ∷ section Define true (item Identifier (codes "V") true 2 ∷ item Punct (codes "(") false 2 ∷ item Identifier (codes "a") false 2 ∷ item Punct (codes ",") false 2 ∷ item Punct (codes "...") false 2 ∷ item Punct (codes ")") false 2 ∷ item Number (codes "2") true 2 ∷ []) 3
    ∷ text_section (item Identifier (codes "F") false 3 ∷ item Punct (codes "(") false 3 ∷ item Number (codes "1") false 3 ∷ item Punct (codes ")") false 3 ∷ item Identifier (codes "F") true 3 ∷ item Punct (codes "(") false 3 ∷ item Number (codes "1") false 3 ∷ item Punct (codes ",") false 3 ∷ item Number (codes "2") false 3 ∷ item Punct (codes ")") false 3 ∷ item Identifier (codes "V") true 3 ∷ item Punct (codes "(") false 3 ∷ item Number (codes "1") false 3 ∷ item Punct (codes ")") false 3 ∷ item Identifier (codes "V") true 3 ∷ item Punct (codes "(") false 3 ∷ item Number (codes "1") false 3 ∷ item Punct (codes ",") false 3 ∷ item Punct (codes ")") false 3 ∷ item Identifier (codes "F") true 3 ∷ item Punct (codes "(") false 3 ∷ item Number (codes "1") false 3 ∷ item Punct (codes ",") false 3 ∷ item Number (codes "2") false 3 ∷ [])
    ∷ [])) ≡ (TokenEvent (Plain (codes "F")) ∷ TokenEvent (Plain (codes "(")) ∷ TokenEvent (Plain (codes "1")) ∷ TokenEvent (Plain (codes ")")) ∷ TokenEvent (Plain (codes "1")) ∷ TokenEvent (Plain (codes "V")) ∷ TokenEvent (Plain (codes "(")) ∷ TokenEvent (Plain (codes "1")) ∷ TokenEvent (Plain (codes ")")) ∷ TokenEvent (Plain (codes "2")) ∷ TokenEvent (Plain (codes "F")) ∷ TokenEvent (Plain (codes "(")) ∷ TokenEvent (Plain (codes "1")) ∷ TokenEvent (Plain (codes ",")) ∷ TokenEvent (Plain (codes "2")) ∷ [])
unfolding is_white is_new_line is_digit is_letter is_hex is_sign is_exponent is_wide is_universal_name is_letter_unit is_word_unit is_number_head is_number_unit punctuators is_punctuator is_quoted_unit is_char_prefix is_string_prefix is_other is_other_unit trigraph is_utf8 chars lib.Utf8.encode
wrong_calls = refl

-- a name in a body has the line of the name that is replaced
lines : events C11 bare (Lexed (
    text_section ([])
    ∷ section Define false (item Identifier (codes "L") true 1 ∷ item Identifier (codes "__LINE__") true 1 ∷ []) 2
    ∷ text_section (item Identifier (codes "__LINE__") false 2 ∷ item Identifier (codes "L") true 2 ∷ [])
    ∷ section LineNumber false (item Number (codes "90") true 4 ∷ []) 5
    ∷ text_section (item Identifier (codes "L") false 5 ∷ item Identifier (codes "__LINE__") true 6 ∷ [])
    ∷ [])) ≡ (TokenEvent (Line 2) ∷ TokenEvent (Line 2) ∷ LineEvent (Plain (codes "90") ∷ []) ∷ TokenEvent (Line 90) ∷ TokenEvent (Line 91) ∷ [])
unfolding is_white is_new_line is_digit is_letter is_hex is_sign is_exponent is_wide is_universal_name is_letter_unit is_word_unit is_number_head is_number_unit punctuators is_punctuator is_quoted_unit is_char_prefix is_string_prefix is_other is_other_unit trigraph is_utf8 chars lib.Utf8.encode
lines = refl

-- each token that is read spends a turn
spent : events C11 (turns 2) (Lexed (
    text_section ([])
    ∷ section Define false (item Identifier (codes "A") true 1 ∷ item Identifier (codes "B") true 1 ∷ []) 2
    ∷ text_section (item Identifier (codes "A") false 2 ∷ item Identifier (codes "x") true 2 ∷ [])
    ∷ [])) ≡ (TurnsSpent ∷ [])
unfolding is_white is_new_line is_digit is_letter is_hex is_sign is_exponent is_wide is_universal_name is_letter_unit is_word_unit is_number_head is_number_unit punctuators is_punctuator is_quoted_unit is_char_prefix is_string_prefix is_other is_other_unit trigraph is_utf8 chars lib.Utf8.encode
spent = refl

-- a text of n tokens without macros needs n turns
enough : events C11 (turns 3) (Lexed (
    text_section (item Identifier (codes "a") false 1 ∷ item Identifier (codes "b") true 1 ∷ item Identifier (codes "c") true 1 ∷ [])
    ∷ [])) ≡ (TokenEvent (Plain (codes "a")) ∷ TokenEvent (Plain (codes "b")) ∷ TokenEvent (Plain (codes "c")) ∷ [])
unfolding is_white is_new_line is_digit is_letter is_hex is_sign is_exponent is_wide is_universal_name is_letter_unit is_word_unit is_number_head is_number_unit punctuators is_punctuator is_quoted_unit is_char_prefix is_string_prefix is_other is_other_unit trigraph is_utf8 chars lib.Utf8.encode
enough = refl

-- 6.10.1: groups, a doubled #else, an #endif too many, and a conditional that stays open
conditionals : events C11 bare (Lexed (
    text_section ([])
    ∷ section Ifdef false (item Identifier (codes "A") true 1 ∷ []) 2
    ∷ text_section (item Identifier (codes "a") false 2 ∷ [])
    ∷ section Elif false (item Identifier (codes "defined") true 3 ∷ item Punct (codes "(") false 3 ∷ item Identifier (codes "B") false 3 ∷ item Punct (codes ")") false 3 ∷ item Punct (codes "&&") true 3 ∷ item Identifier (codes "C") true 3 ∷ []) 4
    ∷ text_section (item Identifier (codes "b") false 4 ∷ [])
    ∷ section Else false ([]) 6
    ∷ text_section (item Identifier (codes "c") false 6 ∷ [])
    ∷ section Endif false ([]) 8
    ∷ text_section ([])
    ∷ section Ifndef false (item Identifier (codes "A") true 8 ∷ []) 9
    ∷ text_section (item Identifier (codes "d") false 9 ∷ [])
    ∷ section Else false ([]) 11
    ∷ text_section ([])
    ∷ section Else false ([]) 12
    ∷ text_section ([])
    ∷ section Ifdef false (item Identifier (codes "Q") true 12 ∷ []) 13
    ∷ text_section ([])
    ∷ section Else false ([]) 14
    ∷ text_section ([])
    ∷ section Else false ([]) 15
    ∷ text_section ([])
    ∷ section Endif false ([]) 16
    ∷ text_section ([])
    ∷ section Endif false ([]) 17
    ∷ text_section ([])
    ∷ section Endif false ([]) 18
    ∷ text_section ([])
    ∷ section If false (item Number (codes "1") true 18 ∷ []) 19
    ∷ text_section (item Identifier (codes "e") false 19 ∷ [])
    ∷ [])) ≡ (Malformed [] ∷ Malformed [] ∷ TokenEvent (Plain (codes "c")) ∷ TokenEvent (Plain (codes "d")) ∷ Malformed [] ∷ [])
unfolding is_white is_new_line is_digit is_letter is_hex is_sign is_exponent is_wide is_universal_name is_letter_unit is_word_unit is_number_head is_number_unit punctuators is_punctuator is_quoted_unit is_char_prefix is_string_prefix is_other is_other_unit trigraph is_utf8 chars lib.Utf8.encode
conditionals = refl

-- conditionals are followed inside the arguments of a call
in_arguments : events C11 bare (Lexed (
    text_section ([])
    ∷ section Define true (item Identifier (codes "F") true 1 ∷ item Punct (codes "(") false 1 ∷ item Identifier (codes "x") false 1 ∷ item Punct (codes ")") false 1 ∷ item Punct (codes "[") true 1 ∷ item Identifier (codes "x") false 1 ∷ item Punct (codes "]") false 1 ∷ []) 2
    ∷ text_section (item Identifier (codes "F") false 2 ∷ item Punct (codes "(") false 2 ∷ item Number (codes "1") false 2 ∷ [])
    ∷ section Ifdef false (item Identifier (codes "A") true 3 ∷ []) 4
    ∷ text_section (item Number (codes "2") false 4 ∷ [])
    ∷ section Else false ([]) 6
    ∷ text_section (item Number (codes "3") false 6 ∷ [])
    ∷ section Endif false ([]) 8
    ∷ text_section (item Punct (codes ")") false 8 ∷ [])
    ∷ [])) ≡ (TokenEvent (Plain (codes "[")) ∷ TokenEvent (Plain (codes "1")) ∷ TokenEvent (Plain (codes "3")) ∷ TokenEvent (Plain (codes "]")) ∷ [])
unfolding is_white is_new_line is_digit is_letter is_hex is_sign is_exponent is_wide is_universal_name is_letter_unit is_word_unit is_number_head is_number_unit punctuators is_punctuator is_quoted_unit is_char_prefix is_string_prefix is_other is_other_unit trigraph is_utf8 chars lib.Utf8.encode
in_arguments = refl

-- every other directive cuts the text
cut_arguments : events C11 bare (Lexed (
    text_section ([])
    ∷ section Define true (item Identifier (codes "F") true 1 ∷ item Punct (codes "(") false 1 ∷ item Identifier (codes "x") false 1 ∷ item Punct (codes ")") false 1 ∷ item Punct (codes "[") true 1 ∷ item Identifier (codes "x") false 1 ∷ item Punct (codes "]") false 1 ∷ []) 2
    ∷ text_section (item Identifier (codes "F") false 2 ∷ item Punct (codes "(") false 2 ∷ item Number (codes "1") false 2 ∷ [])
    ∷ section Pragma false (item Identifier (codes "p") true 3 ∷ []) 4
    ∷ text_section (item Punct (codes ")") false 4 ∷ [])
    ∷ [])) ≡ (TokenEvent (Plain (codes "F")) ∷ TokenEvent (Plain (codes "(")) ∷ TokenEvent (Plain (codes "1")) ∷ PragmaEvent (Plain (codes "p") ∷ []) ∷ TokenEvent (Plain (codes ")")) ∷ [])
unfolding is_white is_new_line is_digit is_letter is_hex is_sign is_exponent is_wide is_universal_name is_letter_unit is_word_unit is_number_head is_number_unit punctuators is_punctuator is_quoted_unit is_char_prefix is_string_prefix is_other is_other_unit trigraph is_utf8 chars lib.Utf8.encode
cut_arguments = refl

-- what 6.10.3 does not allow changes nothing
defines : events C11 bare (Lexed (
    text_section ([])
    ∷ section Define false (item Identifier (codes "defined") true 1 ∷ item Number (codes "1") true 1 ∷ []) 2
    ∷ text_section ([])
    ∷ section Define true (item Identifier (codes "A") true 2 ∷ item Punct (codes "(") false 2 ∷ item Identifier (codes "x") false 2 ∷ item Punct (codes ",") false 2 ∷ item Identifier (codes "x") true 2 ∷ item Punct (codes ")") false 2 ∷ item Identifier (codes "y") true 2 ∷ []) 3
    ∷ text_section ([])
    ∷ section Define false (item Identifier (codes "B") true 3 ∷ item Punct (codes "##") true 3 ∷ item Identifier (codes "x") true 3 ∷ []) 4
    ∷ text_section ([])
    ∷ section Define true (item Identifier (codes "C") true 4 ∷ item Punct (codes "(") false 4 ∷ item Identifier (codes "x") false 4 ∷ item Punct (codes ")") false 4 ∷ item Punct (codes "#") true 4 ∷ item Identifier (codes "y") true 4 ∷ []) 5
    ∷ text_section ([])
    ∷ section Define false (item Identifier (codes "D") true 5 ∷ item Punct (codes "#") true 5 ∷ item Identifier (codes "y") true 5 ∷ []) 6
    ∷ text_section (item Identifier (codes "D") false 6 ∷ [])
    ∷ section Undef false (item Identifier (codes "D") true 7 ∷ []) 8
    ∷ text_section (item Identifier (codes "D") false 8 ∷ [])
    ∷ section Pragma false (item Identifier (codes "once") true 9 ∷ []) 10
    ∷ text_section ([])
    ∷ section Unknown false (item Identifier (codes "foo") false 10 ∷ item Identifier (codes "bar") true 10 ∷ []) 11
    ∷ text_section ([])
    ∷ section Null false [] 12
    ∷ text_section ([])
    ∷ section Include false (item StringLit (codes "\"x.h\"") true 12 ∷ []) 13
    ∷ text_section ([])
    ∷ [])) ≡ (Malformed [] ∷ Malformed [] ∷ Malformed [] ∷ Malformed [] ∷ TokenEvent (Plain (codes "#")) ∷ TokenEvent (Plain (codes "y")) ∷ TokenEvent (Plain (codes "D")) ∷ PragmaEvent (Plain (codes "once") ∷ []) ∷ Malformed (Plain (codes "foo") ∷ Plain (codes "bar") ∷ []) ∷ IncludeNotFound ∷ [])
unfolding is_white is_new_line is_digit is_letter is_hex is_sign is_exponent is_wide is_universal_name is_letter_unit is_word_unit is_number_head is_number_unit punctuators is_punctuator is_quoted_unit is_char_prefix is_string_prefix is_other is_other_unit trigraph is_utf8 chars lib.Utf8.encode
defines = refl

-- a condition is answered by its tokens, expanded
answered : Preprocess C11 (record { macros = []; includes = []; conditions = record { key = Plain (codes "2") ∷ []; holds = true } ∷ []; depth = 0; turns = 20 }) (codes "#define T 2\n#if T\ny\n#endif") ≡ (TokenEvent (Plain (codes "y")) ∷ [])
unfolding is_white is_new_line is_digit is_letter is_hex is_sign is_exponent is_wide is_universal_name is_letter_unit is_word_unit is_number_head is_number_unit punctuators is_punctuator is_quoted_unit is_char_prefix is_string_prefix is_other is_other_unit trigraph is_utf8 chars lib.Utf8.encode
answered = refl

-- a text that the setting has; its macros stay, its lines are its own
included : Preprocess C11 (record { macros = []; includes = record { key = Plain (codes "<h>") ∷ []; bytes = codes "#define B c\na" } ∷ []; conditions = []; depth = 1; turns = 20 }) (codes "#include<h>\nB __LINE__") ≡ (TokenEvent (Plain (codes "a")) ∷ TokenEvent (Plain (codes "c")) ∷ TokenEvent (Line 2) ∷ [])
unfolding is_white is_new_line is_digit is_letter is_hex is_sign is_exponent is_wide is_universal_name is_letter_unit is_word_unit is_number_head is_number_unit punctuators is_punctuator is_quoted_unit is_char_prefix is_string_prefix is_other is_other_unit trigraph is_utf8 chars lib.Utf8.encode
included = refl

-- no depth is left
no_depth : Preprocess C11 (record { macros = []; includes = record { key = Plain (codes "<h>") ∷ []; bytes = codes "a" } ∷ []; conditions = []; depth = 0; turns = 20 }) (codes "#include<h>\nB") ≡ (IncludeNotFound ∷ TokenEvent (Plain (codes "B")) ∷ [])
unfolding is_white is_new_line is_digit is_letter is_hex is_sign is_exponent is_wide is_universal_name is_letter_unit is_word_unit is_number_head is_number_unit punctuators is_punctuator is_quoted_unit is_char_prefix is_string_prefix is_other is_other_unit trigraph is_utf8 chars lib.Utf8.encode
no_depth = refl

-- C23: a branch that asks the table
elifdef : events C23 bare (Lexed (
    text_section ([])
    ∷ section Ifdef false (item Identifier (codes "A") true 1 ∷ []) 2
    ∷ text_section (item Identifier (codes "a") false 2 ∷ [])
    ∷ section Elifndef false (item Identifier (codes "A") true 3 ∷ []) 4
    ∷ text_section (item Identifier (codes "b") false 4 ∷ [])
    ∷ section Else false ([]) 6
    ∷ text_section (item Identifier (codes "c") false 6 ∷ [])
    ∷ section Endif false ([]) 8
    ∷ text_section ([])
    ∷ section Warning false (item Identifier (codes "w") true 8 ∷ []) 9
    ∷ text_section ([])
    ∷ section Embed false (item Identifier (codes "B") true 9 ∷ []) 10
    ∷ text_section ([])
    ∷ [])) ≡ (TokenEvent (Plain (codes "b")) ∷ WarningEvent (Plain (codes "w") ∷ []) ∷ EmbedEvent (Plain (codes "B") ∷ []) ∷ [])
unfolding is_white is_new_line is_digit is_letter is_hex is_sign is_exponent is_wide is_universal_name is_letter_unit is_word_unit is_number_head is_number_unit punctuators is_punctuator is_quoted_unit is_char_prefix is_string_prefix is_other is_other_unit trigraph is_utf8 chars lib.Utf8.encode
elifdef = refl

-- C11 does not have it, but a skipped unknown directive is nothing
elifdef_c11 : events C11 bare (Lexed (
    text_section ([])
    ∷ section Ifdef false (item Identifier (codes "A") true 1 ∷ []) 2
    ∷ text_section ([])
    ∷ section Unknown false (item Identifier (codes "elifndef") false 2 ∷ item Identifier (codes "A") true 2 ∷ []) 3
    ∷ text_section (item Identifier (codes "b") false 3 ∷ [])
    ∷ section Endif false ([]) 5
    ∷ text_section ([])
    ∷ [])) ≡ ([])
unfolding is_white is_new_line is_digit is_letter is_hex is_sign is_exponent is_wide is_universal_name is_letter_unit is_word_unit is_number_head is_number_unit punctuators is_punctuator is_quoted_unit is_char_prefix is_string_prefix is_other is_other_unit trigraph is_utf8 chars lib.Utf8.encode
elifdef_c11 = refl

-- a text with two headers and one body: one turn for each item outside the group that is skipped
two_headers : events C11 (turns 17) (Lexed (
    text_section (item Identifier (codes "void") false 1 ∷ item Identifier (codes "g") true 1 ∷ item Punct (codes "(") false 1 ∷ item Identifier (codes "void") false 1 ∷ item Punct (codes ")") false 1 ∷ item Punct (codes "{") false 1 ∷ [])
    ∷ section Ifdef false (item Identifier (codes "A") true 2 ∷ []) 3
    ∷ text_section (item Identifier (codes "if") false 3 ∷ item Punct (codes "(") false 3 ∷ item Identifier (codes "x") false 3 ∷ item Punct (codes ")") false 3 ∷ item Punct (codes "{") false 3 ∷ [])
    ∷ section Else false ([]) 5
    ∷ text_section (item Identifier (codes "if") true 5 ∷ item Punct (codes "(") true 5 ∷ item Identifier (codes "y") false 5 ∷ item Punct (codes ")") false 5 ∷ item Punct (codes "{") false 5 ∷ [])
    ∷ section Endif false ([]) 7
    ∷ text_section (item Identifier (codes "f") false 7 ∷ item Punct (codes "(") false 7 ∷ item Punct (codes ")") true 7 ∷ item Punct (codes ";") false 7 ∷ item Punct (codes "}") true 8 ∷ item Punct (codes "}") true 9 ∷ [])
    ∷ [])) ≡ (TokenEvent (Plain (codes "void")) ∷ TokenEvent (Plain (codes "g")) ∷ TokenEvent (Plain (codes "(")) ∷ TokenEvent (Plain (codes "void")) ∷ TokenEvent (Plain (codes ")")) ∷ TokenEvent (Plain (codes "{")) ∷ TokenEvent (Plain (codes "if")) ∷ TokenEvent (Plain (codes "(")) ∷ TokenEvent (Plain (codes "y")) ∷ TokenEvent (Plain (codes ")")) ∷ TokenEvent (Plain (codes "{")) ∷ TokenEvent (Plain (codes "f")) ∷ TokenEvent (Plain (codes "(")) ∷ TokenEvent (Plain (codes ")")) ∷ TokenEvent (Plain (codes ";")) ∷ TokenEvent (Plain (codes "}")) ∷ TokenEvent (Plain (codes "}")) ∷ [])
unfolding is_white is_new_line is_digit is_letter is_hex is_sign is_exponent is_wide is_universal_name is_letter_unit is_word_unit is_number_head is_number_unit punctuators is_punctuator is_quoted_unit is_char_prefix is_string_prefix is_other is_other_unit trigraph is_utf8 chars lib.Utf8.encode
two_headers = refl

-- a twin of it
two_headers_formatted : events C11 (turns 17) (Lexed (
    text_section (item Identifier (codes "void") false 1 ∷ item Identifier (codes "g") true 1 ∷ item Punct (codes "(") false 1 ∷ item Identifier (codes "void") false 1 ∷ item Punct (codes ")") false 1 ∷ item Punct (codes "{") true 1 ∷ [])
    ∷ section Ifdef false (item Identifier (codes "A") true 2 ∷ []) 3
    ∷ text_section (item Identifier (codes "if") true 3 ∷ item Punct (codes "(") true 3 ∷ item Identifier (codes "x") false 3 ∷ item Punct (codes ")") false 3 ∷ item Punct (codes "{") true 3 ∷ [])
    ∷ section Else false ([]) 5
    ∷ text_section (item Identifier (codes "if") true 5 ∷ item Punct (codes "(") true 5 ∷ item Identifier (codes "y") false 5 ∷ item Punct (codes ")") false 5 ∷ item Punct (codes "{") true 5 ∷ [])
    ∷ section Endif false ([]) 7
    ∷ text_section (item Identifier (codes "f") true 7 ∷ item Punct (codes "(") false 7 ∷ item Punct (codes ")") false 7 ∷ item Punct (codes ";") false 7 ∷ item Punct (codes "}") true 8 ∷ item Punct (codes "}") true 9 ∷ [])
    ∷ [])) ≡ (TokenEvent (Plain (codes "void")) ∷ TokenEvent (Plain (codes "g")) ∷ TokenEvent (Plain (codes "(")) ∷ TokenEvent (Plain (codes "void")) ∷ TokenEvent (Plain (codes ")")) ∷ TokenEvent (Plain (codes "{")) ∷ TokenEvent (Plain (codes "if")) ∷ TokenEvent (Plain (codes "(")) ∷ TokenEvent (Plain (codes "y")) ∷ TokenEvent (Plain (codes ")")) ∷ TokenEvent (Plain (codes "{")) ∷ TokenEvent (Plain (codes "f")) ∷ TokenEvent (Plain (codes "(")) ∷ TokenEvent (Plain (codes ")")) ∷ TokenEvent (Plain (codes ";")) ∷ TokenEvent (Plain (codes "}")) ∷ TokenEvent (Plain (codes "}")) ∷ [])
unfolding is_white is_new_line is_digit is_letter is_hex is_sign is_exponent is_wide is_universal_name is_letter_unit is_word_unit is_number_head is_number_unit punctuators is_punctuator is_quoted_unit is_char_prefix is_string_prefix is_other is_other_unit trigraph is_utf8 chars lib.Utf8.encode
two_headers_formatted = refl

-- a conditional in the arguments of a call
branch_in_call : events C11 bare (Lexed (
    text_section ([])
    ∷ section Define true (item Identifier (codes "f") true 1 ∷ item Punct (codes "(") false 1 ∷ item Identifier (codes "x") false 1 ∷ item Punct (codes ",") false 1 ∷ item Identifier (codes "y") true 1 ∷ item Punct (codes ",") false 1 ∷ item Identifier (codes "z") true 1 ∷ item Punct (codes ")") false 1 ∷ item Identifier (codes "z") true 1 ∷ item Punct (codes "#") true 1 ∷ item Identifier (codes "y") true 1 ∷ []) 2
    ∷ text_section (item Identifier (codes "f") false 2 ∷ item Punct (codes "(") false 2 ∷ item Identifier (codes "a") false 2 ∷ item Punct (codes ",") false 2 ∷ [])
    ∷ section Ifdef false (item Identifier (codes "X") true 3 ∷ []) 4
    ∷ text_section (item Identifier (codes "b") false 4 ∷ item Punct (codes ",") true 4 ∷ [])
    ∷ section Else false ([]) 6
    ∷ text_section (item Identifier (codes "c") false 6 ∷ item Punct (codes "(") true 6 ∷ item Identifier (codes "e") false 6 ∷ item Punct (codes ")") false 6 ∷ item Punct (codes ",") false 6 ∷ [])
    ∷ section Endif false ([]) 8
    ∷ text_section (item Identifier (codes "d") false 8 ∷ item Punct (codes ")") false 8 ∷ item Punct (codes ";") false 8 ∷ [])
    ∷ [])) ≡ (TokenEvent (Plain (codes "d")) ∷ TokenEvent (Str (part false (Plain (codes "c")) (part true (Plain (codes "(")) (part false (Plain (codes "e")) (part false (Plain (codes ")")) no_part))))) ∷ TokenEvent (Plain (codes ";")) ∷ [])
unfolding is_white is_new_line is_digit is_letter is_hex is_sign is_exponent is_wide is_universal_name is_letter_unit is_word_unit is_number_head is_number_unit punctuators is_punctuator is_quoted_unit is_char_prefix is_string_prefix is_other is_other_unit trigraph is_utf8 chars lib.Utf8.encode
branch_in_call = refl

-- a twin of it, but for the white space in the string
branch_in_call_formatted : events C11 bare (Lexed (
    text_section ([])
    ∷ section Define true (item Identifier (codes "f") true 1 ∷ item Punct (codes "(") false 1 ∷ item Identifier (codes "x") false 1 ∷ item Punct (codes ",") false 1 ∷ item Identifier (codes "y") true 1 ∷ item Punct (codes ",") false 1 ∷ item Identifier (codes "z") true 1 ∷ item Punct (codes ")") false 1 ∷ item Identifier (codes "z") true 1 ∷ item Punct (codes "#") true 1 ∷ item Identifier (codes "y") true 1 ∷ []) 2
    ∷ text_section (item Identifier (codes "f") false 2 ∷ item Punct (codes "(") false 2 ∷ item Identifier (codes "a") false 2 ∷ item Punct (codes ",") false 2 ∷ [])
    ∷ section Ifdef false (item Identifier (codes "X") true 3 ∷ []) 4
    ∷ text_section (item Identifier (codes "b") true 4 ∷ item Punct (codes ",") false 4 ∷ [])
    ∷ section Else false ([]) 6
    ∷ text_section (item Identifier (codes "c") true 6 ∷ item Punct (codes "(") true 6 ∷ item Identifier (codes "e") false 6 ∷ item Punct (codes ")") false 6 ∷ item Punct (codes ",") false 6 ∷ [])
    ∷ section Endif false ([]) 8
    ∷ text_section (item Identifier (codes "d") true 8 ∷ item Punct (codes ")") false 8 ∷ item Punct (codes ";") false 8 ∷ [])
    ∷ [])) ≡ (TokenEvent (Plain (codes "d")) ∷ TokenEvent (Str (part false (Plain (codes "c")) (part true (Plain (codes "(")) (part false (Plain (codes "e")) (part false (Plain (codes ")")) no_part))))) ∷ TokenEvent (Plain (codes ";")) ∷ [])
unfolding is_white is_new_line is_digit is_letter is_hex is_sign is_exponent is_wide is_universal_name is_letter_unit is_word_unit is_number_head is_number_unit punctuators is_punctuator is_quoted_unit is_char_prefix is_string_prefix is_other is_other_unit trigraph is_utf8 chars lib.Utf8.encode
branch_in_call_formatted = refl

-- white space before the ( makes an object-like macro
paren_apart : Preprocess C11 bare (codes "#define F (x)\nF") ≡ (TokenEvent (Plain (codes "(")) ∷ TokenEvent (Plain (codes "x")) ∷ TokenEvent (Plain (codes ")")) ∷ [])
unfolding is_white is_new_line is_digit is_letter is_hex is_sign is_exponent is_wide is_universal_name is_letter_unit is_word_unit is_number_head is_number_unit punctuators is_punctuator is_quoted_unit is_char_prefix is_string_prefix is_other is_other_unit trigraph is_utf8 chars lib.Utf8.encode
paren_apart = refl

-- and none makes a function-like one
paren_at_once : Preprocess C11 bare (codes "#define G(x) x\nG(1)") ≡ (TokenEvent (Plain (codes "1")) ∷ [])
unfolding is_white is_new_line is_digit is_letter is_hex is_sign is_exponent is_wide is_universal_name is_letter_unit is_word_unit is_number_head is_number_unit punctuators is_punctuator is_quoted_unit is_char_prefix is_string_prefix is_other is_other_unit trigraph is_utf8 chars lib.Utf8.encode
paren_at_once = refl
