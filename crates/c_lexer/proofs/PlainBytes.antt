-- Characters that are bytes of their text by themselves, and those of items.
use Rattle.std.proofs.Common.{◌≡◌, ◌==◌, ◌&&◌, ◌∙◌, Bool, true, false, not, ℕ, zero, suc, ◌+◌, ◌-◌, ◌<◌, ◌≤◌, List, [], ◌∷◌, ◌++◌, length, take, drop, get_or, refl, sym, ap, subst, arith}
use Rattle.std.specs.Prelude.{⊤, Some, slice_get, codes, if◌then◌else◌}
use Rattle.std.specs.Int.{is_in_range}
use Rattle.std.specs.List.{list_all}
use Rattle.std.proofs.lemmas.Bool.{and_from, and_parts, not-true}
use Rattle.std.proofs.lemmas.Bool.Decides.{nat_tests}
use Rattle.std.proofs.lemmas.List.{drop-drop, drop_more}
use Rattle.c_chars.specs.Characters.{placed, replaced, with_lines, spliced, phase_1, logical, mark_len, is_plain, is_trigraph, is_word_byte, trigraph}
use Rattle.c_chars.specs.Coming.{Coming, AreBetween, AreBytesPassed, passed, behind}
use Rattle.c_chars.specs.declared.Dialect.{Dialect}
use Rattle.c_chars.specs.declared.Dialect.TheVariants.{C11, C23}
use Rattle.c_chars.specs.declared.LogicalChar.{LogicalChar}
use Rattle.c_grammar.specs.Grammar.{is_digit, is_letter, is_of}
use Rattle.c_grammar.specs.Bytes.{begins_punctuator}
use Rattle.c_grammar.specs.Place.{IsSpanned}
use Rattle.c_chars.proofs.Steps.{onwards}
use Rattle.c_lexer.specs.Class.{is_lone_mark}
use Rattle.c_lexer.specs.Reading.{AreOwnBytes, AreRaw, BeforeLeft, ends_in_backslash, is_own_byte}
use Rattle.c_lexer.specs.Run.{begins_long, is_pair_mark, is_shift_mark}
use Rattle.c_lexer.proofs.Backslashes.{by_test}
use Rattle.c_lexer.proofs.Stepping.{behind_chars}

-- Characters of one byte are that byte.

-- these characters stand one behind another from this offset on, and each of one byte is that byte of the text
abbrev AreRawFrom : List ℕ → ℕ → List LogicalChar → Type 0
AreRawFrom text low [] = ⊤
AreRawFrom text low (c ∷ s) = (low ≤ c.from) × (c.from < c.to) × (c.to ≡ c.from + 1 → c.byte ≡ get_or text c.from 0) × AreRawFrom text c.to s

placed_raw : (text : List ℕ) (at : ℕ) (s : List ℕ) → s ≡ drop at text → AreRawFrom text at (placed at s)
placed_raw text at [] e = tt
placed_raw text at (b ∷ s) e =
    (omega arith, omega arith, λ one. ap (λ z. get_or z 0 0) e ∙ first text at, placed_raw text (at + 1) s (ap (drop 1) e ∙ drop-drop 1 at text))
  where
    first : (text : List ℕ) (at : ℕ) → get_or (drop at text) 0 0 ≡ get_or text at 0
    first text zero = refl
    first [] (suc at) = refl
    first (b ∷ text) (suc at) = first text at

raw_lower : (text : List ℕ) (low low2 : ℕ) (s : List LogicalChar) → low ≤ low2 → AreRawFrom text low2 s → AreRawFrom text low s
raw_lower text low low2 [] below h = tt
raw_lower text low low2 (c ∷ s) below h = let first : low2 ≤ c.from = h.0 in (omega (arith, below, first), h.1, h.2, h.3)

replaced_raw : (text : List ℕ) (low : ℕ) (s : List LogicalChar) → AreRawFrom text low s → AreRawFrom text low (replaced s)
replaced_raw text low [] h = h
replaced_raw text low (a ∷ []) h = h
replaced_raw text low (a ∷ b ∷ []) h = h
replaced_raw text low (a ∷ b ∷ c ∷ s) h =
    let ha : a.from < a.to = h.1 in
    let hb : a.to ≤ b.from = h.3.0 in
    let hb2 : b.from < b.to = h.3.1 in
    let hc : b.to ≤ c.from = h.3.3.0 in
    let hc2 : c.from < c.to = h.3.3.1 in
    by_test (AreRawFrom text low) (is_trigraph a b c) (record { byte = trigraph c.byte; from = a.from; to = c.to } ∷ replaced s) (a ∷ replaced (b ∷ c ∷ s))
    (h.0, omega (arith, ha, hb, hb2, hc, hc2), λ one. absurd (omega (arith, one, ha, hb, hb2, hc, hc2)), replaced_raw text c.to s h.3.3.3)
    (h.0, h.1, h.2, replaced_raw text a.to (b ∷ c ∷ s) h.3)

lines_raw : (text : List ℕ) (low : ℕ) (s : List LogicalChar) → AreRawFrom text low s → AreRawFrom text low (with_lines s)
lines_raw text low [] h = h
lines_raw text low (a ∷ []) h = h
lines_raw text low (a ∷ b ∷ s) h =
    let ha : a.from < a.to = h.1 in
    let hb : a.to ≤ b.from = h.3.0 in
    let hb2 : b.from < b.to = h.3.1 in
    by_test (AreRawFrom text low) ((a.byte == 13) && (b.byte == 10)) (record { byte = 10; from = a.from; to = b.to } ∷ with_lines s) (a ∷ with_lines (b ∷ s))
    (h.0, omega (arith, ha, hb, hb2), λ one. absurd (omega (arith, one, ha, hb, hb2)), lines_raw text b.to s h.3.3)
    (h.0, h.1, h.2, lines_raw text a.to (b ∷ s) h.3)

spliced_raw : (text : List ℕ) (low : ℕ) (s : List LogicalChar) → AreRawFrom text low s → AreRawFrom text low (spliced s)
spliced_raw text low [] h = h
spliced_raw text low (a ∷ []) h = h
spliced_raw text low (a ∷ b ∷ s) h =
    let first : low ≤ a.from = h.0 in
    let ha : a.from < a.to = h.1 in
    let hb : a.to ≤ b.from = h.3.0 in
    let hb2 : b.from < b.to = h.3.1 in
    by_test (AreRawFrom text low) ((a.byte == 92) && (b.byte == 10)) (spliced s) (a ∷ spliced (b ∷ s))
    (raw_lower text low b.to (spliced s) (omega (arith, first, ha, hb, hb2)) (spliced_raw text b.to s h.3.3))
    (h.0, h.1, h.2, spliced_raw text a.to (b ∷ s) h.3)

phase_raw : (text : List ℕ) (at : ℕ) (d : Dialect) (s : List LogicalChar) → AreRawFrom text at s → AreRawFrom text at (phase_1 d s)
phase_raw text at C11 s h = replaced_raw text at s h
phase_raw text at C23 s h = h

raw_all : (text : List ℕ) (low : ℕ) (s : List LogicalChar) → AreRawFrom text low s → AreRaw text s
raw_all text low [] h = tt
raw_all text low (c ∷ s) h = (h.2, raw_all text c.to s h.3)

pub text_raw : (text : List ℕ) (d : Dialect) → AreRaw text (logical d text)
text_raw text d =
    let at : ℕ = mark_len text in
    raw_all text at (logical d text)
    (spliced_raw text at (with_lines (phase_1 d (placed at (drop at text))))
    (lines_raw text at (phase_1 d (placed at (drop at text))) (phase_raw text at d (placed at (drop at text)) (placed_raw text at (drop at text) refl))))

rest_raw : (text : List ℕ) (n : ℕ) (s : List LogicalChar) → AreRaw text s → AreRaw text (drop n s)
rest_raw text zero s h = h
rest_raw text (suc n) [] h = h
rest_raw text (suc n) (c ∷ s) h = rest_raw text n s h.1

pub raw_rest : (text : List ℕ) (x y : Coming) (n : ℕ) → AreRaw text x.chars → y ≡ behind x n → AreRaw text y.chars
raw_rest text x y n h e = subst (AreRaw text) (sym (ap (λ z. z.chars) e ∙ behind_chars x.dialect x.at n x.chars)) (rest_raw text n x.chars h)

-- characters that are bytes by themselves are the text's bytes
placed_there : (text : List ℕ) (at : ℕ) (bytes : List ℕ) (rest : List LogicalChar) → AreRaw text (placed at bytes ++ rest) → at + length bytes ≤ length text → take (length bytes) (drop at text) ≡ bytes
placed_there text at [] rest h within = refl
placed_there text at (b ∷ bytes) rest h within =
    let len : length (b ∷ bytes) ≡ suc (length bytes) = omega arith in
    let here : drop at text ≡ get_or text at 0 ∷ drop (at + 1) text = drop_more text at 0 (omega (arith, len, within)) in
    let more : take (length bytes) (drop (at + 1) text) ≡ bytes = placed_there text (at + 1) bytes rest h.1 (omega (arith, len, within)) in
    let first : get_or text at 0 ≡ b = sym (h.0 refl) in
    ap (λ k. take k (drop at text)) len ∙ (ap (λ z. take (suc (length bytes)) z) here ∙ (ap (λ z. z ∷ take (length bytes) (drop (at + 1) text)) first ∙ ap (λ z. b ∷ z) more))

-- Bytes that passed.

pub each : (p q : ℕ → Bool) (s : List ℕ) → ((b : ℕ) → p b ≡ true → q b ≡ true) → list_all p s ≡ true → list_all q s ≡ true
each p q [] more h = refl
each p q (b ∷ s) more h = let parts = and_parts (p b) (list_all p s) h in and_from (q b) (list_all q s) (more b parts.0) (each p q s more parts.1)

pub none_passed : (p : ℕ → Bool) (x : Coming) → AreBytesPassed p x x
none_passed p x = record { bytes = []; all = refl; chars_are = refl; at_is = omega arith }

char_made : (byte from to from2 to2 : ℕ) → from ≡ from2 → to ≡ to2 → ◌≡◌ {A = LogicalChar} (record { byte = byte; from = from; to = to }) (record { byte = byte; from = from2; to = to2 })
char_made byte from to from2 to2 f t = cc

pub one_passed : (p : ℕ → Bool) (x z y : Coming) (c : LogicalChar) → x.chars ≡ c ∷ z.chars → z.at ≡ c.to → c.from ≡ x.at → c.to ≡ x.at + 1 → p c.byte ≡ true → AreBytesPassed p z y → AreBytesPassed p x y
one_passed p x z y c chars at from to holds r =
    let made : c ≡ record { byte = c.byte; from = x.at; to = x.at + 1 } = char_made c.byte c.from c.to x.at (x.at + 1) from to in
    let len : length (c.byte ∷ r.bytes) ≡ suc (length r.bytes) = omega arith in
    let there : y.at ≡ z.at + length r.bytes = r.at_is in
    record {
      bytes = c.byte ∷ r.bytes;
      all = and_from (p c.byte) (list_all p r.bytes) holds r.all;
      chars_are = chars ∙ (ap (λ s. c ∷ s) r.chars_are ∙ (ap (λ k. c ∷ placed k r.bytes ++ y.chars) (at ∙ to) ∙ ap (λ e. e ∷ placed (x.at + 1) r.bytes ++ y.chars) made));
      at_is = omega (arith, len, there, at, to);
    }

pub next_passed : (d : Dialect) (at : ℕ) (s : List LogicalChar) (e : LogicalChar) → slice_get s 0 ≡ Some e → (s ≡ e ∷ drop 1 s) × (passed d at s 1 ≡ record { dialect = d; at = e.to; chars = drop 1 s })
next_passed d at [] e h = cc
next_passed d at (f ∷ s) e h = let same : f ≡ e = cc in (ap (λ z. z ∷ s) same, ap (λ (z : LogicalChar). record { dialect = d; at = z.to; chars = s }) same)

-- the next character by itself
pub next_one : (p : ℕ → Bool) (x y : Coming) (e : LogicalChar) → slice_get x.chars 0 ≡ Some e → e.from ≡ x.at → e.to ≡ x.at + 1 → p e.byte ≡ true → y ≡ behind x 1 → AreBytesPassed p x y
next_one p x y e first from to holds y_is =
    let next = next_passed x.dialect x.at x.chars e first in
    let left = y_is ∙ next.1 in
    one_passed p x y y e (next.0 ∙ ap (λ s. e ∷ s) (sym (ap (λ z. z.chars) left))) (ap (λ z. z.at) left) from to holds (none_passed p y)

-- Characters of items: printable, and each by itself.

pub letter_item : (b : ℕ) → is_letter b ≡ true → is_own_byte b ≡ true
unfolding is_letter is_own_byte
letter_item b h = grind (arith, nat_tests)

pub digit_item : (b : ℕ) → is_digit b ≡ true → is_own_byte b ≡ true
unfolding is_digit is_own_byte
digit_item b h = grind (arith, nat_tests)

pub lone_item : (b : ℕ) → is_lone_mark b ≡ true → is_own_byte b ≡ true
unfolding is_lone_mark is_own_byte
lone_item b h = grind (arith, nat_tests)

pub mark_item : (b : ℕ) → begins_long b ≡ true → is_own_byte b ≡ true
unfolding begins_long is_own_byte
mark_item b h = grind (arith, nat_tests)

-- what longer punctuators begin with begins a punctuator
pub long_mark : (b : ℕ) → begins_long b ≡ true → begins_punctuator b ≡ true
unfolding begins_long begins_punctuator
long_mark b h = grind (arith, nat_tests)

-- whatever the first byte has to be
second_of : (b : ℕ) (p q r : Bool) → (if b == 61 then p else (if b == 62 then q else (is_of (codes "&+|-#") b && r))) ≡ true → is_own_byte b ≡ true
unfolding is_own_byte
second_of b p q r h = grind (arith, nat_tests)

pub second_item : (a b : ℕ) → is_pair_mark a b ≡ true → is_own_byte b ≡ true
unfolding is_pair_mark
second_item a b h = second_of b (is_of (codes "=!+<>-|&*/%^") a) (a == 45) (a == b) h

pub shift_item : (a b : ℕ) → is_shift_mark a b ≡ true → is_own_byte b ≡ true
unfolding is_shift_mark is_own_byte
shift_item a b h = grind (arith, nat_tests)

pub shift_mark : (a b : ℕ) → is_shift_mark a b ≡ true → begins_long a ≡ true
unfolding is_shift_mark begins_long
shift_mark a b h = grind (arith, nat_tests)

word_item : (b : ℕ) → is_word_byte b ≡ true → is_own_byte b ≡ true
unfolding is_word_byte is_own_byte
word_item b h = grind (arith, nat_tests)

pub words_items : (x y : Coming) → AreBytesPassed is_word_byte x y → AreBytesPassed is_own_byte x y
words_items x y r = record {
  bytes = r.bytes;
  all = each is_word_byte is_own_byte r.bytes word_item r.all;
  chars_are = r.chars_are;
  at_is = r.at_is;
}

pub item_printable : (b : ℕ) → is_own_byte b ≡ true → is_in_range 0x20 0x7E b ≡ true
unfolding is_own_byte
item_printable b h = (and_parts (is_in_range 0x20 0x7E b) (is_plain b) h).0

pub item_plain : (b : ℕ) → is_own_byte b ≡ true → is_plain b ≡ true
unfolding is_own_byte
item_plain b h = (and_parts (is_in_range 0x20 0x7E b) (is_plain b) h).1

item_other : (b : ℕ) → is_own_byte b ≡ true → (b == 92) ≡ false
item_other b h =
    let other = and_parts (not (b == 63)) (not (b == 13) && not (b == 92)) (item_plain b h) in
    not-true (b == 92) (and_parts (not (b == 13)) (not (b == 92)) other.1).1

-- an item's characters, each a byte by itself
items_passed : (x y left : Coming) (first : LogicalChar) → x.chars ≡ first ∷ y.chars → y.at ≡ first.to → first.from ≡ x.at → first.to ≡ x.at + 1 → AreOwnBytes first y left → AreBytesPassed is_own_byte x left
items_passed x y left first chars at from to items = one_passed is_own_byte x y left first chars at from to items.first_is items.rest_are

-- what holds of each character of an item holds of its bytes
pub raw_each : (p : ℕ → Bool) (text : List ℕ) (x y left : Coming) (first : LogicalChar) → AreRaw text x.chars → left.at ≤ length text → x.chars ≡ first ∷ y.chars → y.at ≡ first.to → first.from ≡ x.at → first.to ≡ x.at + 1
    → AreOwnBytes first y left → ((b : ℕ) → is_own_byte b ≡ true → p b ≡ true) → list_all p (take (left.at - first.from) (drop first.from text)) ≡ true
raw_each p text x y left first raw within chars at from to items holds =
    let all : AreBytesPassed is_own_byte x left = items_passed x y left first chars at from to items in
    let there : left.at ≡ x.at + length all.bytes = all.at_is in
    let len : left.at - first.from ≡ length all.bytes = omega (arith, there, from) in
    let bytes : take (length all.bytes) (drop x.at text) ≡ all.bytes = placed_there text x.at all.bytes left.chars (subst (AreRaw text) all.chars_are raw) (omega (arith, there, within)) in
    ap (λ k. list_all p (take k (drop first.from text))) len
    ∙ (ap (λ k. list_all p (take (length all.bytes) (drop k text))) from ∙ (ap (list_all p) bytes ∙ each is_own_byte p all.bytes holds all.all))

-- no backslash is the last of them

back_behind : (c : LogicalChar) (s : List LogicalChar) → (c.byte == 92) ≡ false → ends_in_backslash s ≡ false → ends_in_backslash (c ∷ s) ≡ false
back_behind c [] h rest = h
back_behind c (e ∷ s) h rest = rest

none_back : (d : Dialect) (at high n : ℕ) (bytes : List ℕ) (rest : List LogicalChar) → AreBetween at (placed at bytes ++ rest) high → list_all is_own_byte bytes ≡ true → n ≤ length (placed at bytes ++ rest)
    → (passed d at (placed at bytes ++ rest) n).at ≡ at + length bytes → ends_in_backslash (take n (placed at bytes ++ rest)) ≡ false
none_back d at high zero bytes rest between items within there = refl
none_back d at high (suc n) [] [] between items within there = absurd (omega (arith, within))
none_back d at high (suc n) [] (c ∷ rest) between items within there =
    let on = onwards d c.to n high rest between.2 in
    let first : at ≤ c.from = between.0 in
    let some : c.from < c.to = between.1 in
    absurd (omega (arith, on, first, some, there))
none_back d at high (suc n) (b ∷ bytes) rest between items within there =
    let parts = and_parts (is_own_byte b) (list_all is_own_byte bytes) items in
    let far : (passed d (at + 1) (placed (at + 1) bytes ++ rest) n).at ≡ (at + 1) + length bytes = omega (arith, there) in
    back_behind (record { byte = b; from = at; to = at + 1 }) (take n (placed (at + 1) bytes ++ rest)) (item_other b parts.0)
    (none_back d (at + 1) high n bytes rest between.2 parts.1 (omega (arith, within)) far)

pub items_told : (x y left : Coming) (first : LogicalChar) → IsSpanned x → x.chars ≡ first ∷ y.chars → y.at ≡ first.to → first.from ≡ x.at → first.to ≡ x.at + 1 → AreOwnBytes first y left
    → BeforeLeft x left (λ s. ends_in_backslash s ≡ false)
items_told x y left first spanned chars at from to items = λ n within left_is.
    let all = items_passed x y left first chars at from to items in
    let there : (passed x.dialect x.at x.chars n).at ≡ x.at + length all.bytes = sym (ap (λ z. z.at) left_is) ∙ all.at_is in
    ap (λ z. ends_in_backslash (take n z)) all.chars_are
    ∙ none_back x.dialect x.at spanned.high n all.bytes left.chars (subst (λ z. AreBetween x.at z spanned.high) all.chars_are spanned.spans) all.all (subst (λ z. n ≤ length z) all.chars_are within)
    (subst (λ z. (passed x.dialect x.at z n).at ≡ x.at + length all.bytes) all.chars_are there)
