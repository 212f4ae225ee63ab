-- A text of lines is cut into them again.
use Rattle.std.proofs.Common.{◌≡◌, ◌<◌, ◌≤◌, ◌+◌, ◌-◌, ◌==◌, ℕ, zero, suc, Bool, true, false, ◌&&◌, cond, List, [], ◌∷◌, ◌++◌, map, length, take, drop, refl, ap, ap₂, ◌∙◌, arith, nat_le, nat_lt, lit<}
use Rattle.std.specs.Prelude.{slice_index}
use Rattle.std.specs.Str.{IsUtf8}
use Rattle.std.proofs.lemmas.Str.{IsUtf8-from_ascii}
use Rattle.style_config.proofs.Names.{AreLow, low_at}
use Rattle.bstr.specs.Text.{lines_from, lines_of, line_len, without_terminator, no_cr}

-- an ASCII character that is no control character
abbrev pub is_plain : ℕ → Bool
is_plain c = nat_le 32 c && nat_lt c 128

-- each byte is one
abbrev pub ArePlain : List ℕ → Type 0
ArePlain [] = Unit {0}
ArePlain (c ∷ text) = (is_plain c ≡ true) × ArePlain text

abbrev pub AllPlain : List (List ℕ) → Type 0
AllPlain [] = Unit {0}
AllPlain (line ∷ lines) = ArePlain line × AllPlain lines

-- the text of these lines, each with its line end
abbrev pub text_of_lines : List (List ℕ) → List ℕ
text_of_lines [] = []
text_of_lines (line ∷ lines) = line ++ 10 ∷ text_of_lines lines

not_line_end : (c : ℕ) → is_plain c ≡ true → (c == 10) ≡ false
not_line_end c is = grind arith

not_return : (c : ℕ) → is_plain c ≡ true → (c == 13) ≡ false
not_return c is = grind arith

len_is : (line rest : List ℕ) → ArePlain line → line_len (line ++ 10 ∷ rest) ≡ suc (length line)
unfolding line_len
len_is [] rest plain = refl
len_is (c ∷ line) rest plain =
    ap (λ b. cond b 1 (suc (line_len (line ++ 10 ∷ rest)))) (not_line_end c plain.0) ∙ ap suc (len_is line rest plain.1)

take_line : (line rest : List ℕ) → take (suc (length line)) (line ++ 10 ∷ rest) ≡ line ++ 10 ∷ []
take_line [] rest = refl
take_line (c ∷ line) rest = ap (λ t. c ∷ t) (take_line line rest)

drop_line_end : (line rest : List ℕ) → drop (suc (length line)) (line ++ 10 ∷ rest) ≡ rest
drop_line_end [] rest = refl
drop_line_end (c ∷ line) rest = drop_line_end line rest

length_line : (line rest : List ℕ) → length (line ++ 10 ∷ rest) ≡ suc (length line + length rest)
length_line [] rest = omega arith
length_line (c ∷ line) rest = let len = length_line line rest in omega (arith, len)

step : (fuel : ℕ) (text : List ℕ) → 0 < length text → lines_from (suc fuel) text ≡ take (line_len text) text ∷ lines_from fuel (drop (line_len text) text)
unfolding lines_from
step fuel [] some = let never : ⊥ = omega (arith, some) in absurd never
step fuel (c ∷ text) some = refl

stop : (fuel : ℕ) → lines_from fuel [] ≡ []
unfolding lines_from
stop zero = refl
stop (suc fuel) = refl

cut_line : (fuel : ℕ) (line rest : List ℕ) → ArePlain line → lines_from (suc fuel) (line ++ 10 ∷ rest) ≡ (line ++ 10 ∷ []) ∷ lines_from fuel rest
cut_line fuel line rest plain =
    let text : List ℕ = line ++ 10 ∷ rest in
    let some : 0 < length text = let len = length_line line rest in omega (arith, len) in
    step fuel text some ∙ (ap (λ n. take n text ∷ lines_from fuel (drop n text)) (len_is line rest plain)
    ∙ ap₂ (λ l r. l ∷ lines_from fuel r) (take_line line rest) (drop_line_end line rest))

abbrev with_end : List ℕ → List ℕ
with_end line = line ++ 10 ∷ []

cut_from : (lines : List (List ℕ)) (fuel : ℕ) → length (text_of_lines lines) ≤ fuel → AllPlain lines → lines_from fuel (text_of_lines lines) ≡ map with_end lines
cut_from [] fuel enough plain = stop fuel
cut_from (line ∷ lines) zero enough plain =
    let len = length_line line (text_of_lines lines) in let never : ⊥ = omega (arith, enough, len) in absurd never
cut_from (line ∷ lines) (suc fuel) enough plain =
    let len = length_line line (text_of_lines lines) in
    cut_line fuel line (text_of_lines lines) plain.0 ∙ ap (λ rest. with_end line ∷ rest) (cut_from lines fuel (omega (arith, enough, len)) plain.1)

no_return_at : (line : List ℕ) (at : ℕ) → ArePlain line → (slice_index line at == 13) ≡ false
no_return_at [] zero plain = refl
no_return_at [] (suc at) plain = refl
no_return_at (c ∷ line) zero plain = not_return c plain.0
no_return_at (c ∷ line) (suc at) plain = no_return_at line at plain.1

and_false : (a b : Bool) → b ≡ false → (a && b) ≡ false
and_false true b is = is
and_false false b is = refl

last_is_end : (line : List ℕ) → slice_index (line ++ 10 ∷ []) (length line) ≡ 10
last_is_end [] = refl
last_is_end (c ∷ line) = last_is_end line

front_is_line : (line : List ℕ) → take (length line) (line ++ 10 ∷ []) ≡ line
front_is_line [] = refl
front_is_line (c ∷ line) = ap (λ t. c ∷ t) (front_is_line line)

-- a line end is taken away
without_end : (line : List ℕ) → ArePlain line → without_terminator (with_end line) ≡ line
without_end line plain =
    let bs : List ℕ = with_end line in
    let len : length bs ≡ suc (length line) = let l = length_line line [] in omega (arith, l) in
    let less : length bs - 1 ≡ length line = omega (arith, len) in
    let ends : (nat_lt 0 (length bs) && (slice_index bs (length bs - 1) == 10)) ≡ true =
    let some : nat_lt 0 (length bs) ≡ true = grind (arith, len) in
    ap₂ (λ a b. a && b) some (ap (λ n. slice_index bs n == 10) less ∙ ap (λ c. c == 10) (last_is_end line)) in
    let kept : no_cr line ≡ line =
    ap (λ b. cond b (take (length line - 1) line) line) (and_false (nat_lt 0 (length line)) (slice_index line (length line - 1) == 13) (no_return_at line (length line - 1) plain)) in
    ap (λ b. cond b (no_cr (take (length bs - 1) bs)) bs) ends ∙ (ap no_cr (ap (λ n. take n bs) less ∙ front_is_line line) ∙ kept)

ends_taken : (lines : List (List ℕ)) → AllPlain lines → map without_terminator (map with_end lines) ≡ lines
ends_taken [] plain = refl
ends_taken (line ∷ lines) plain = ap₂ (λ l r. l ∷ r) (without_end line plain.0) (ends_taken lines plain.1)

-- a text of lines is cut into them
pub lines_are_cut : (lines : List (List ℕ)) → AllPlain lines → map without_terminator (lines_of (text_of_lines lines)) ≡ lines
lines_are_cut lines plain = ap (map without_terminator) (cut_from lines (length (text_of_lines lines)) (omega arith) plain) ∙ ends_taken lines plain

low_byte : (c : ℕ) → is_plain c ≡ true → c < 128
low_byte c is = grind arith

low_line : (line rest : List ℕ) → ArePlain line → AreLow rest → AreLow (line ++ 10 ∷ rest)
low_line [] rest plain low = (lit< tt, low)
low_line (c ∷ line) rest plain low = (low_byte c plain.0, low_line line rest plain.1 low)

low_text : (lines : List (List ℕ)) → AllPlain lines → AreLow (text_of_lines lines)
low_text [] plain = tt
low_text (line ∷ lines) plain = low_line line (text_of_lines lines) plain.0 (low_text lines plain.1)

-- a text of such lines is UTF-8
pub lines_are_text : (lines : List (List ℕ)) → AllPlain lines → IsUtf8 (text_of_lines lines)
lines_are_text lines plain = IsUtf8-from_ascii (text_of_lines lines) (low_at (text_of_lines lines) (low_text lines plain))
