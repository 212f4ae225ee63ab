-- Where the first row of an item ends, and where its last row begins.
use Rattle.std.proofs.Common.{◌≡◌, ◌==◌, ◌∙◌, ℕ, zero, suc, ◌+◌, ◌-◌, ◌<◌, ◌≤◌, not, Bool, true, false, List, [], ◌∷◌, length, get_or, refl, sym, ap, arith, eq-eqb, count_by, if◌then◌else◌, inl, inr}
use Rattle.std.specs.List.{position_or_len, prefix_len, suffix_len, list_all}
use Rattle.std.proofs.lemmas.List.Sums.{position_or_len_is, suffix_len_is, sum_by-cons}
use Rattle.token_arena.specs.Stored.{is_line_feed, rows_of, first_row, last_row, width_of}
use Rattle.std.specs.Str.{IsAscii, IsUtf8, chars}
use Rattle.std.specs.Int.{is_in_range}
use Rattle.std.proofs.lemmas.Bool.{and_parts, cases_Bool, ne_eqb}
use Rattle.std.proofs.lemmas.Bool.Decides.{nat_tests}
use Rattle.unicode_width.proofs.Rules.{str_width-printable}
use Rattle.std.specs.Str.Lossy.{utf8_valid_len}
use Rattle.std.proofs.lemmas.Str.{chars-IsAscii, utf8_valid_len-IsUtf8}
use Rattle.unicode_width.specs.Width.{Reading, past_emoji, plain, read_before, step, str_width}
use Rattle.c_chars.specs.Characters.{is_row_byte}

pub first_row_ends : (raw : List ℕ) (i : ℕ) → i ≤ length raw → ((k : ℕ) → k < i → is_line_feed (get_or raw k 0) ≡ false)
    → (i < length raw → get_or raw i 0 ≡ 10) → i ≡ position_or_len is_line_feed raw
first_row_ends raw i within before here =
    sym (position_or_len_is is_line_feed raw i 0 within before (λ below. eq-eqb (get_or raw i 0) 10 (here below)))

pub last_row_starts : (raw : List ℕ) (n : ℕ) → n ≤ length raw → ((k : ℕ) → n ≤ k → k < length raw → is_line_feed (get_or raw k 0) ≡ false)
    → (0 < n → get_or raw (n - 1) 0 ≡ 10) → n ≡ length raw - suffix_len (λ b. not (is_line_feed b)) raw
last_row_starts raw n within behind before =
    let e : suffix_len (λ b. not (is_line_feed b)) raw ≡ length raw - n =
    suffix_len_is (λ b. not (is_line_feed b)) raw n 0 within (λ k later below. ap not (behind k later below)) (λ some. ap not (eq-eqb (get_or raw (n - 1) 0) 10 (before some))) in
    rw e (omega arith)

counted_none : (b : ℕ) (raw : List ℕ) → count_by is_line_feed (b ∷ raw) ≡ 0 → (is_line_feed b ≡ false) × (count_by is_line_feed raw ≡ 0)
counted_none b raw none =
    let sum : (if is_line_feed b then 1 else 0) + count_by is_line_feed raw ≡ 0 = sym (sum_by-cons (λ (c : ℕ). if is_line_feed c then 1 else 0) b raw) ∙ none in
    (is_not (is_line_feed b) (omega (arith, sum)), omega (arith, sum))
  where
    is_not : (t : Bool) → ◌≡◌ {A = ℕ} (if t then 1 else 0) 0 → t ≡ false
    is_not true h = absurd (omega arith)
    is_not false h = refl

-- where no new-line is counted, no byte is one
no_feed : (raw : List ℕ) → count_by is_line_feed raw ≡ 0 → (k : ℕ) → k < length raw → is_line_feed (get_or raw k 0) ≡ false
no_feed [] none k below = absurd (omega arith)
no_feed (b ∷ raw) none zero below = (counted_none b raw none).0
no_feed (b ∷ raw) none (suc k) below = no_feed raw (counted_none b raw none).1 k (omega arith)

-- an item without a new-line is its own first row, and its own last row
pub first_row-one : (raw : List ℕ) → count_by is_line_feed raw ≡ 0 → first_row raw ≡ raw
first_row-one raw none =
    let ends : length raw ≡ position_or_len is_line_feed raw = first_row_ends raw (length raw) (omega arith) (no_feed raw none) (λ below. absurd (omega arith)) in
    let test : (position_or_len is_line_feed raw == length raw) ≡ true = eq-eqb (position_or_len is_line_feed raw) (length raw) (sym ends) in
    rw test refl

pub last_row-one : (raw : List ℕ) → count_by is_line_feed raw ≡ 0 → last_row raw ≡ raw
last_row-one raw none =
    let starts : 0 ≡ length raw - suffix_len (λ b. not (is_line_feed b)) raw = last_row_starts raw 0 (omega arith) (λ k later below. no_feed raw none k below) (λ some. absurd (omega arith)) in
    rw (← starts) refl

-- a row that is UTF-8 is as wide as its text
pub width_of-utf8 : (row : List ℕ) → IsUtf8 row → width_of row ≡ str_width false (chars row)
width_of-utf8 row text =
    let test : (utf8_valid_len row == length row) ≡ true = eq-eqb (utf8_valid_len row) (length row) (utf8_valid_len-IsUtf8 row text) in
    ap (λ t. if t then str_width false (chars row) else length row) test

-- printable ASCII is ASCII
ascii : (row : List ℕ) → list_all (is_in_range 0x20 0x7E) row ≡ true → IsAscii row
ascii [] h i = omega arith
ascii (b ∷ row) h zero = in_ascii b (and_parts (is_in_range 0x20 0x7E b) (list_all (is_in_range 0x20 0x7E) row) h).0
  where
    in_ascii : (b : ℕ) → is_in_range 0x20 0x7E b ≡ true → b < 128
    in_ascii b h = grind (arith, nat_tests)
ascii (b ∷ row) h (suc i) = ascii row (and_parts (is_in_range 0x20 0x7E b) (list_all (is_in_range 0x20 0x7E) row) h).1 i

either : (t : Bool) (x y : ℕ) → x ≡ y → (if t then x else y) ≡ y
either true x y h = h
either false x y h = refl

-- a row of printable ASCII is as wide as it is long
pub width_of-printable : (row : List ℕ) → list_all (is_in_range 0x20 0x7E) row ≡ true → width_of row ≡ length row
width_of-printable row h =
    let same : str_width false (chars row) ≡ length row = ap (str_width false) (chars-IsAscii row (ascii row h)) ∙ str_width-printable false row h in
    either (utf8_valid_len row == length row) (str_width false (chars row)) (length row) same

-- each character of a row of ASCII takes a column

row_step : (c total : ℕ) → is_row_byte c ≡ true → step false c (total, plain) ≡ (total + 1, plain)
unfolding step past_emoji is_row_byte
row_step c total h = grind (arith, nat_tests)

row_read : (row : List ℕ) → list_all is_row_byte row ≡ true → read_before false row (0, plain) ≡ (length row, plain)
row_read [] h = refl
row_read (c ∷ row) h =
    let parts = and_parts (is_row_byte c) (list_all is_row_byte row) h in
    let one : length row + 1 ≡ suc (length row) = omega arith in
    ap (step false c) (row_read row parts.1) ∙ (row_step c (length row) parts.0 ∙ ap (λ (n : ℕ). (n, plain)) one)

row_below : (b : ℕ) → is_row_byte b ≡ true → b < 128
unfolding is_row_byte
row_below b h = grind (arith, nat_tests)

row_ascii : (row : List ℕ) → list_all is_row_byte row ≡ true → IsAscii row
row_ascii [] h i = omega arith
row_ascii (b ∷ row) h zero = row_below b (and_parts (is_row_byte b) (list_all is_row_byte row) h).0
row_ascii (b ∷ row) h (suc i) = row_ascii row (and_parts (is_row_byte b) (list_all is_row_byte row) h).1 i

all_row : (row : List ℕ) → prefix_len is_row_byte row ≡ length row → list_all is_row_byte row ≡ true
all_row [] h = refl
all_row (b ∷ row) h = elim (cases_Bool (is_row_byte b)) [
  | inl y ↦
      let len : prefix_len is_row_byte (b ∷ row) ≡ suc (prefix_len is_row_byte row) = rw y (omega arith) in
      let rest : prefix_len is_row_byte row ≡ length row = omega (arith, len, h) in
      rw y (all_row row rest)
  | inr n ↦
      let none : prefix_len is_row_byte (b ∷ row) ≡ 0 = rw n refl in
      absurd (omega (arith, none, h))
]

pub width_of-row : (row : List ℕ) → prefix_len is_row_byte row ≡ length row → width_of row ≡ length row
unfolding str_width
width_of-row row h =
    let all = all_row row h in
    let same : str_width false (chars row) ≡ length row = ap (str_width false) (chars-IsAscii row (row_ascii row all)) ∙ ap (λ (r : Reading). r.0) (row_read row all) in
    either (utf8_valid_len row == length row) (str_width false (chars row)) (length row) same

-- a row of printable ASCII has no new-line
pub no_feed-printable : (row : List ℕ) → list_all (is_in_range 0x20 0x7E) row ≡ true → count_by is_line_feed row ≡ 0
no_feed-printable [] h = refl
no_feed-printable (b ∷ row) h =
    let parts = and_parts (is_in_range 0x20 0x7E b) (list_all (is_in_range 0x20 0x7E) row) h in
    let later : count_by is_line_feed row ≡ 0 = no_feed-printable row parts.1 in
    sum_by-cons (λ (c : ℕ). if is_line_feed c then 1 else 0) b row ∙ rw (other b parts.0) (omega (arith, later))
  where
    other : (b : ℕ) → is_in_range 0x20 0x7E b ≡ true → is_line_feed b ≡ false
    other b h = ne_eqb b 10 (λ e. grind (arith, nat_tests))

-- printable ASCII is one row, as wide as it is long
pub rows-printable : (raw : List ℕ) → list_all (is_in_range 0x20 0x7E) raw ≡ true → rows_of raw ≡ 1
rows-printable raw h = ap (λ (n : ℕ). 1 + n) (no_feed-printable raw h)

pub first-printable : (raw : List ℕ) → list_all (is_in_range 0x20 0x7E) raw ≡ true → width_of (first_row raw) ≡ length raw
first-printable raw h = ap width_of (first_row-one raw (no_feed-printable raw h)) ∙ width_of-printable raw h

pub last-printable : (raw : List ℕ) → list_all (is_in_range 0x20 0x7E) raw ≡ true → width_of (last_row raw) ≡ length raw
last-printable raw h = ap width_of (last_row-one raw (no_feed-printable raw h)) ∙ width_of-printable raw h

-- so is ASCII without a new-line

row_no_feed : (b : ℕ) → is_row_byte b ≡ true → is_line_feed b ≡ false
unfolding is_row_byte
row_no_feed b h = ne_eqb b 10 (λ e. grind (arith, nat_tests))

no_feed-row : (row : List ℕ) → list_all is_row_byte row ≡ true → count_by is_line_feed row ≡ 0
no_feed-row [] h = refl
no_feed-row (b ∷ row) h =
    let parts = and_parts (is_row_byte b) (list_all is_row_byte row) h in
    let later : count_by is_line_feed row ≡ 0 = no_feed-row row parts.1 in
    sum_by-cons (λ (c : ℕ). if is_line_feed c then 1 else 0) b row ∙ rw (row_no_feed b parts.0) (omega (arith, later))

pub rows-row : (raw : List ℕ) → prefix_len is_row_byte raw ≡ length raw → rows_of raw ≡ 1
rows-row raw h = ap (λ (n : ℕ). 1 + n) (no_feed-row raw (all_row raw h))

pub first-row : (raw : List ℕ) → prefix_len is_row_byte raw ≡ length raw → width_of (first_row raw) ≡ length raw
first-row raw h = ap width_of (first_row-one raw (no_feed-row raw (all_row raw h))) ∙ width_of-row raw h

pub last-row : (raw : List ℕ) → prefix_len is_row_byte raw ≡ length raw → width_of (last_row raw) ≡ length raw
last-row raw h = ap width_of (last_row-one raw (no_feed-row raw (all_row raw h))) ∙ width_of-row raw h
