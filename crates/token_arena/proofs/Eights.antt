-- What the highest bits of eight bytes tell of each of them.
use Rattle.std.proofs.Common.{◌≡◌, ◌==◌, ◌&&◌, ◌∙◌, ℕ, zero, suc, ◌+◌, ◌-◌, ◌*◌, ◌^◌, ◌<◌, ◌≤◌, Bool, true, List, [], ◌∷◌, length, get_or, take, drop, w64, refl, sym, ap, subst, arith, inl, inr, if◌then◌else◌}
use Rattle.std.proofs.lemmas.Bool.{and_from, and_parts, both_ways, cases_Bool, eqb-true, eq-eqb}
use Rattle.std.proofs.lemmas.Bool.Decides.{nat_tests}
use Rattle.std.proofs.lemmas.List.{drop-drop}
use Rattle.std.specs.Prelude.{nat_lt}
use Rattle.std.proofs.lemmas.Nat.{and_block, or_block, xor_block, and_le_r, or_lt, xor_lt}
use Rattle.std.specs.Int.{is_in_range, from_le_bytes}
use Rattle.std.specs.List.{list_all}
use Rattle.std.specs.Int.Bits.{bit_and, bit_or, bit_xor}
use Rattle.std.specs.Slice.Scan.{digits_from}
use Rattle.token_arena.specs.Eight.{unprintable}

abbrev Bytes : (ℕ → ℕ) → Type 0
Bytes f = (k : ℕ) → f k < 256

-- an operation goes byte by byte
module _ (o : ℕ → ℕ → ℕ) (zeros : o 0 0 ≡ 0) (block : (k a b r s : ℕ) → r < 2 ^ k → s < 2 ^ k → o (a * 2 ^ k + r) (b * 2 ^ k + s) ≡ o a b * 2 ^ k + o r s) where
  by_byte : (f g : ℕ → ℕ) → Bytes f → Bytes g → (n k : ℕ) → o (digits_from f k n) (digits_from g k n) ≡ digits_from (λ j. o (f j) (g j)) k n
  by_byte f g a b zero k = zeros
  by_byte f g a b (suc n) k =
      let x : f k + 256 * digits_from f (suc k) n ≡ digits_from f (suc k) n * 256 + f k = omega arith in
      let y : g k + 256 * digits_from g (suc k) n ≡ digits_from g (suc k) n * 256 + g k = omega arith in
      (λ i. o (x i) (y i)) ∙ block 8 _ _ _ _ (a k) (b k) ∙ omega (arith, by_byte f g a b n (suc k))

and_Bytes : (f g : ℕ → ℕ) → Bytes f → Bytes g → bit_and (digits_from f 0 8) (digits_from g 0 8) ≡ digits_from (λ j. bit_and (f j) (g j)) 0 8
and_Bytes f g a b = by_byte bit_and refl and_block f g a b 8 0

or_Bytes : (f g : ℕ → ℕ) → Bytes f → Bytes g → bit_or (digits_from f 0 8) (digits_from g 0 8) ≡ digits_from (λ j. bit_or (f j) (g j)) 0 8
or_Bytes f g a b = by_byte bit_or refl or_block f g a b 8 0

xor_Bytes : (f g : ℕ → ℕ) → Bytes f → Bytes g → bit_xor (digits_from f 0 8) (digits_from g 0 8) ≡ digits_from (λ j. bit_xor (f j) (g j)) 0 8
xor_Bytes f g a b = by_byte bit_xor refl xor_block f g a b 8 0

-- the same of one byte
abbrev flag : ℕ → ℕ
flag y = bit_and (bit_or (bit_or (bit_xor (bit_and y 127 + 96) 128) (bit_and y 127 + 1)) y) 128

unprintable_Bytes : (f : ℕ → ℕ) → Bytes f → unprintable (digits_from f 0 8) ≡ digits_from (λ k. flag (f k)) 0 8
unfolding unprintable
unprintable_Bytes f f_small =
    let low = λ (k : ℕ). bit_and (f k) 127 in
    let ink = λ (k : ℕ). low k + 96 in
    let ink_small : Bytes ink = λ k. omega (arith, and_le_r (f k) 127) in
    let turned = λ (k : ℕ). bit_xor (ink k) 128 in
    let turned_small : Bytes turned = λ k. xor_lt 8 (ink k) 128 (ink_small k) (omega arith) in
    let delete = λ (k : ℕ). low k + 1 in
    let delete_small : Bytes delete = λ k. omega (arith, and_le_r (f k) 127) in
    let two = λ (k : ℕ). bit_or (turned k) (delete k) in
    let two_small : Bytes two = λ k. or_lt 8 (turned k) (delete k) (turned_small k) (delete_small k) in
    let three = λ (k : ℕ). bit_or (two k) (f k) in
    let three_small : Bytes three = λ k. or_lt 8 (two k) (f k) (two_small k) (f_small k) in
    let masked : bit_and (digits_from f 0 8) 0x7f7f_7f7f_7f7f_7f7f ≡ digits_from low 0 8 = and_Bytes f (λ _. 127) f_small (λ _. omega arith) in
    let ink_is : bit_and (digits_from f 0 8) 0x7f7f_7f7f_7f7f_7f7f + 0x6060_6060_6060_6060 ≡ digits_from ink 0 8 = ap (λ w. w + 0x6060_6060_6060_6060) masked ∙ omega arith in
    let delete_is : bit_and (digits_from f 0 8) 0x7f7f_7f7f_7f7f_7f7f + 0x0101_0101_0101_0101 ≡ digits_from delete 0 8 = ap (λ w. w + 0x0101_0101_0101_0101) masked ∙ omega arith in
    let turned_is : bit_xor (bit_and (digits_from f 0 8) 0x7f7f_7f7f_7f7f_7f7f + 0x6060_6060_6060_6060) 0x8080_8080_8080_8080 ≡ digits_from turned 0 8 =
    ap (λ w. bit_xor w 0x8080_8080_8080_8080) ink_is ∙ xor_Bytes ink (λ _. 128) ink_small (λ _. omega arith) in
    let two_is = (λ j. bit_or (turned_is j) (delete_is j)) ∙ or_Bytes turned delete turned_small delete_small in
    let three_is = ap (λ w. bit_or w (digits_from f 0 8)) two_is ∙ or_Bytes two f two_small f_small in
    ap (λ w. bit_and w 0x8080_8080_8080_8080) three_is ∙ and_Bytes three (λ _. 128) three_small (λ _. omega arith)

-- facts of one byte, by trying each
abbrev each_below : ℕ → (ℕ → Bool) → Bool
each_below zero t = true
each_below (suc n) t = t n && each_below n t

tried : (n : ℕ) (t : ℕ → Bool) → each_below n t ≡ true → (b : ℕ) → b < n → t b ≡ true
tried zero t e b l = absurd (omega (arith, l))
tried (suc n) t e b l =
    let parts = and_parts (t n) (each_below n t) e in elim (cases_Bool (b == n)) [
      | inl y ↦ let same : b ≡ n = eqb-true b n y in subst (λ z. t z ≡ true) (sym same) parts.0
      | inr m ↦ tried n t parts.1 b (below b n l (λ same. both_ways (b == n) m (eq-eqb b n same)))
    ]
  where
    below : (b n : ℕ) → b < suc n → (b ≡ n → ⊥) → b < n
    below b n l ne = grind arith

printable_byte : (b : ℕ) → b < 256 → flag b ≡ 0 → is_in_range 0x20 0x7E b ≡ true
printable_byte b l none = told (flag b) (is_in_range 0x20 0x7E b) none (tried 256 (λ y. if flag y == 0 then is_in_range 0x20 0x7E y else true) refl b l)
  where
    told : (n : ℕ) (t : Bool) → n ≡ 0 → (if n == 0 then t else true) ≡ true → t ≡ true
    told n t e h = let z = eq-eqb n 0 e in subst (λ (x : Bool). (if x then t else true) ≡ true) z h

-- where the sum of digits is 0 each of them is
digit_zero : (g : ℕ → ℕ) (n k : ℕ) → digits_from g k n ≡ 0 → (j : ℕ) → k ≤ j → j < k + n → g j ≡ 0
digit_zero g zero k e j later below = absurd (omega (arith, later, below))
digit_zero g (suc n) k e j later below = elim (cases_Bool (k == j)) [
  | inl y ↦ let same : k ≡ j = eqb-true k j y in subst (λ i. g i ≡ 0) same (omega (arith, e))
  | inr m ↦ digit_zero g n (suc k) (omega (arith, e)) j (behind k j later (λ same. both_ways (k == j) m (eq-eqb k j same))) (omega (arith, below))
]
  where
    behind : (k j : ℕ) → k ≤ j → (k ≡ j → ⊥) → suc k ≤ j
    behind k j later ne = grind arith

-- eight bytes as a number
read : (eight : List ℕ) → from_le_bytes w64 eight ≡ digits_from (λ k. get_or eight k 0) 0 8
read eight = omega arith

-- where each byte of a row is printable all are
all_printable : (row : List ℕ) → ((k : ℕ) → k < length row → is_in_range 0x20 0x7E (get_or row k 0) ≡ true) → list_all (is_in_range 0x20 0x7E) row ≡ true
all_printable [] each = refl
all_printable (b ∷ row) each = and_from (is_in_range 0x20 0x7E b) (list_all (is_in_range 0x20 0x7E) row) (each 0 (omega arith)) (all_printable row (λ k below. each (suc k) (omega (arith, below))))

pub eight_printable : (eight : List ℕ) → length eight ≡ 8 → ((k : ℕ) → get_or eight k 0 < 256) → unprintable (from_le_bytes w64 eight) ≡ 0 → list_all (is_in_range 0x20 0x7E) eight ≡ true
eight_printable eight len small none =
    let f = λ (k : ℕ). get_or eight k 0 in
    let zero_sum : digits_from (λ k. flag (f k)) 0 8 ≡ 0 = sym (ap unprintable (read eight) ∙ unprintable_Bytes f small) ∙ none in
    all_printable eight (λ k below. printable_byte (f k) (small k) (digit_zero (λ j. flag (f j)) 8 0 zero_sum k (omega arith) (omega (arith, below, len))))

-- what is printable in front tells nothing of the rest
pub behind_front : (p : ℕ → Bool) (n : ℕ) (row : List ℕ) → list_all p (take n row) ≡ true → list_all p (drop n row) ≡ list_all p row
behind_front p zero row h = refl
behind_front p (suc n) [] h = refl
behind_front p (suc n) (b ∷ row) h =
    let parts = and_parts (p b) (list_all p (take n row)) h in
    behind_front p n row parts.1 ∙ sym (ap (λ t. t && list_all p row) parts.0)

all_behind : (p : ℕ → Bool) (n : ℕ) (row : List ℕ) → list_all p row ≡ true → list_all p (drop n row) ≡ true
all_behind p zero row h = h
all_behind p (suc n) [] h = h
all_behind p (suc n) (b ∷ row) h = all_behind p n row (and_parts (p b) (list_all p row) h).1

-- where the last eight are printable so are those that are left, fewer than eight
pub last_front : (p : ℕ → Bool) (row rest : List ℕ) → 8 ≤ length row → length rest < 8 → rest ≡ drop (length row - length rest) row → list_all p (drop (length row - 8) row) ≡ true → list_all p rest ≡ true
last_front p row rest some few rest_is last =
    let far : (length row - 8) + (8 - length rest) ≡ length row - length rest = omega (arith, some, few) in
    let same : drop (8 - length rest) (drop (length row - 8) row) ≡ rest = drop-drop (8 - length rest) (length row - 8) row ∙ (ap (λ k. drop k row) far ∙ sym rest_is) in
    subst (λ z. list_all p z ≡ true) same (all_behind p (8 - length rest) (drop (length row - 8) row) last)

-- eight bytes further on
pub eight_on : (row rest behind : List ℕ) → rest ≡ drop (length row - length rest) row → length rest ≤ length row → behind ≡ drop 8 rest → length behind + 8 ≡ length rest → behind ≡ drop (length row - length behind) row
eight_on row rest behind rest_is within behind_is len =
    let far : (length row - length rest) + 8 ≡ length row - length behind = omega (arith, within, len) in
    behind_is ∙ (ap (drop 8) rest_is ∙ (drop-drop 8 (length row - length rest) row ∙ ap (λ k. drop k row) far))

pub below_eight : (n : ℕ) → nat_lt n 8 ≡ true → n < 8
below_eight n h = grind (arith, nat_tests)
