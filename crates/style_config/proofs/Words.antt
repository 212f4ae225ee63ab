-- A key and a value of letters and digits, as they are read.
use Rattle.std.proofs.Common.{◌≡◌, ◌+◌, ◌-◌, ◌==◌, ℕ, suc, Bool, true, false, ◌&&◌, ◌||◌, cond, if◌then◌else◌, List, [], ◌∷◌, ◌++◌, length, take, drop, get_or, Some, None, refl, ap, ap₂, ◌∙◌, arith, nat_le, nat_lt}
use Rattle.std.specs.Prelude.{slice_index}
use Rattle.std.specs.List.{list_all, prefix_len, suffix_len}
use Rattle.std.proofs.lemmas.List.Sums.{suffix_len_is}
use Rattle.style_config.specs.Texts.{is_blank, is_key_byte, begins_with_hash, comment_start, without_comment, without_last_blanks, without_first_blanks, written_of, pair_with, Pair, is_pair, pair_from, pair_of}

-- each byte may stand in a key
abbrev pub AreKeyBytes : List ℕ → Type 0
AreKeyBytes [] = Unit {0}
AreKeyBytes (c ∷ text) = (is_key_byte c ≡ true) × AreKeyBytes text

both : (a b : Bool) → (a && b) ≡ true → (a ≡ true) × (b ≡ true)
both true b is = (refl, is)
both false b is = let never : ⊥ = cc in absurd never

-- by the test that computes it
pub key_bytes : (text : List ℕ) → list_all is_key_byte text ≡ true → AreKeyBytes text
key_bytes [] all = tt
key_bytes (c ∷ text) all = let p = both (is_key_byte c) (list_all is_key_byte text) all in (p.0, key_bytes text p.1)

not_blank : (c : ℕ) → is_key_byte c ≡ true → is_blank c ≡ false
not_blank c is = grind arith

not_hash : (c : ℕ) → is_key_byte c ≡ true → (c == 35) ≡ false
not_hash c is = grind arith

not_quote : (c : ℕ) → is_key_byte c ≡ true → ((c == 39) || (c == 34)) ≡ false
not_quote c is = grind arith

none_begins : (text : List ℕ) → AreKeyBytes text → begins_with_hash text ≡ false
none_begins [] all = refl
none_begins (c ∷ text) all = not_hash c all.0

no_comment : (text : List ℕ) → AreKeyBytes text → comment_start text ≡ length text
unfolding comment_start
no_comment [] all = refl
no_comment (c ∷ text) all =
    ap (λ b. if b && begins_with_hash text then 0 else suc (comment_start text)) (not_blank c all.0) ∙ ap suc (no_comment text all.1)

no_comment_behind : (text : List ℕ) → AreKeyBytes text → comment_start (32 ∷ text) ≡ suc (length text)
unfolding comment_start
no_comment_behind text all = ap (λ b. if b then 0 else suc (comment_start text)) (none_begins text all) ∙ ap suc (no_comment text all)

take_whole : (text : List ℕ) → take (length text) text ≡ text
take_whole [] = refl
take_whole (c ∷ text) = ap (λ rest. c ∷ rest) (take_whole text)

last_not_blank : (c : ℕ) (text : List ℕ) → AreKeyBytes (c ∷ text) → is_blank (get_or (c ∷ text) (length text) 0) ≡ false
last_not_blank c [] all = not_blank c all.0
last_not_blank c (d ∷ text) all = last_not_blank d text all.1

and_false : (a b e : Bool) → b ≡ false → ((a && b) && e) ≡ false
and_false true b e is = ap (λ x. x && e) is
and_false false b e is = refl

-- behind a blank a word is written
written_word : (c : ℕ) (text : List ℕ) → AreKeyBytes (c ∷ text) → written_of (32 ∷ c ∷ text) ≡ c ∷ text
written_word c text all =
    let word : List ℕ = c ∷ text in
    let whole : without_comment (32 ∷ word) ≡ 32 ∷ word =
    ap (λ n. take n (32 ∷ word)) (no_comment_behind word all) ∙ ap (λ rest. 32 ∷ rest) (take_whole word) in
    let none : suffix_len is_blank (32 ∷ word) ≡ length (32 ∷ word) - length (32 ∷ word) =
    suffix_len_is is_blank (32 ∷ word) (length (32 ∷ word)) 0 (omega arith) (λ k low high. let never : ⊥ = omega (arith, low, high) in absurd never) (λ some. ap (λ k. is_blank (get_or (32 ∷ word) k 0)) (let k : length (32 ∷ word) - 1 ≡ suc (length text) = omega arith in k) ∙ last_not_blank c text all) in
    let last : without_last_blanks (32 ∷ word) ≡ 32 ∷ word =
    ap (λ n. take n (32 ∷ word)) (let n : length (32 ∷ word) - suffix_len is_blank (32 ∷ word) ≡ length (32 ∷ word) = omega (arith, none) in n) ∙ take_whole (32 ∷ word) in
    let first : without_first_blanks (32 ∷ word) ≡ word =
    ap (λ b. drop (1 + cond b (1 + prefix_len is_blank text) 0) (32 ∷ word)) (not_blank c all.0) in
    ap (λ t. without_first_blanks (without_last_blanks t)) whole ∙ (ap without_first_blanks last ∙ first)

-- a word stands in no quotes
word_with : (key : List ℕ) (c : ℕ) (text : List ℕ) → AreKeyBytes (c ∷ text) → pair_with key (c ∷ text) ≡ record { key = key; value = c ∷ text; is_quoted = false }
word_with key c text all =
    let word : List ℕ = c ∷ text in
    let pair : Bool → Pair = λ b. record { key = key; value = if b then take (length word - 2) (drop 1 word) else word; is_quoted = b } in
    ap pair (and_false (nat_le 2 (length word)) ((c == 39) || (c == 34)) (c == slice_index word (length word - 1)) (not_quote c all.0))

key_len_is : (label rest : List ℕ) → AreKeyBytes label → prefix_len is_key_byte (label ++ 58 ∷ rest) ≡ length label
key_len_is [] rest all = refl
key_len_is (c ∷ label) rest all =
    ap (λ b. cond b (1 + prefix_len is_key_byte (label ++ 58 ∷ rest)) 0) all.0 ∙ (let len = key_len_is label rest all.1 in omega (arith, len))

index_behind : (label rest : List ℕ) (x : ℕ) → slice_index (label ++ x ∷ rest) (length label) ≡ x
index_behind [] rest x = refl
index_behind (c ∷ label) rest x = index_behind label rest x

index_second : (label rest : List ℕ) (x y : ℕ) → slice_index (label ++ x ∷ y ∷ rest) (suc (length label)) ≡ y
index_second [] rest x y = refl
index_second (c ∷ label) rest x y = index_second label rest x y

take_front : (label rest : List ℕ) → take (length label) (label ++ rest) ≡ label
take_front [] rest = refl
take_front (c ∷ label) rest = ap (λ t. c ∷ t) (take_front label rest)

drop_behind : (label rest : List ℕ) (x : ℕ) → drop (suc (length label)) (label ++ x ∷ rest) ≡ rest
drop_behind [] rest x = refl
drop_behind (c ∷ label) rest x = drop_behind label rest x

length_behind : (label rest : List ℕ) → length (label ++ rest) ≡ length label + length rest
length_behind [] rest = omega arith
length_behind (c ∷ label) rest = let len = length_behind label rest in omega (arith, len)

or_true : (a b : Bool) → b ≡ true → (a || b) ≡ true
or_true true b is = refl
or_true false b is = is

all_four : {a b c d : Bool} → a ≡ true → b ≡ true → c ≡ true → d ≡ true → (((a && b) && c) && d) ≡ true
all_four p q r s = ap₂ (λ x y. x && y) (ap₂ (λ x y. x && y) (ap₂ (λ x y. x && y) p q) r) s

-- a key with a word behind it is read as the two
pub pair_of_word : (a c : ℕ) (label text : List ℕ) → AreKeyBytes (a ∷ label) → AreKeyBytes (c ∷ text)
    → pair_of ((a ∷ label) ++ 58 ∷ 32 ∷ c ∷ text) ≡ Some (record { key = a ∷ label; value = c ∷ text; is_quoted = false })
pair_of_word a c label text key word =
    let line : List ℕ = (a ∷ label) ++ 58 ∷ 32 ∷ c ∷ text in
    let n : ℕ = length (a ∷ label) in
    let next : n + 1 ≡ suc n = omega arith in
    let colon : slice_index line n ≡ 58 = index_behind (a ∷ label) (32 ∷ c ∷ text) 58 in
    let blank : slice_index line (n + 1) ≡ 32 = ap (slice_index line) next ∙ index_second (a ∷ label) (c ∷ text) 58 32 in
    let len : length line ≡ n + length (58 ∷ 32 ∷ c ∷ text) = length_behind (a ∷ label) (58 ∷ 32 ∷ c ∷ text) in
    let some : nat_lt 0 n ≡ true = grind arith in
    let within : nat_lt n (length line) ≡ true = grind (arith, len) in
    let is : is_pair n line ≡ true =
    all_four some within (ap (λ c. c == 58) colon) (or_true (nat_le (length line) (n + 1)) (is_blank (slice_index line (n + 1))) (ap is_blank blank)) in
    ap (λ k. pair_from k line) (key_len_is (a ∷ label) (32 ∷ c ∷ text) key)
    ∙ (ap (λ b. if b then Some (pair_with (take n line) (written_of (drop (n + 1) line))) else None) is
    ∙ (ap (λ k. Some (pair_with k (written_of (drop (n + 1) line)))) (take_front (a ∷ label) (58 ∷ 32 ∷ c ∷ text))
    ∙ (ap (λ v. Some (pair_with (a ∷ label) v)) (ap written_of (ap (λ k. drop k line) next ∙ drop_behind (a ∷ label) (32 ∷ c ∷ text) 58) ∙ written_word c text word)
    ∙ ap Some (word_with (a ∷ label) c text word))))
