-- Words, with the spaces and tabs between them.
use Rattle.std.proofs.Common.{◌≡◌, ◌||◌, ◌&&◌, nat_le, Bool, ℕ, zero, suc, ◌+◌, ◌≤◌, arith, true, false, List, [], ◌∷◌, ◌++◌, length, take, drop, get_or, refl, sym, ◌∙◌, ap, inl, inr}
use Rattle.std.specs.List.{list_all, prefix_len}
use Rattle.std.proofs.lemmas.Bool.{and_parts, and_from, both_ways, cases_Bool}
use Rattle.c_chars.specs.Characters.{are_words, bytes_of, chars, placed, is_comment_ink, is_plain, is_quiet_comment, is_space_byte, is_comment_byte}
use Rattle.c_chars.specs.Coming.{AreBytesPassed, AreWordsPassed, passed}
use Rattle.c_chars.specs.declared.Dialect.{Dialect}
use Rattle.c_chars.proofs.Runs.{plain_first, comment_plain}

ink_comment : (b : ℕ) → is_comment_ink b ≡ true → is_comment_byte b ≡ true
unfolding is_comment_byte
ink_comment b h = rw h refl

-- such a byte that is no space
ink_left : (b : ℕ) → is_comment_byte b ≡ true → is_space_byte b ≡ false → is_comment_ink b ≡ true
unfolding is_comment_byte
ink_left b h n = elim (cases_Bool (is_comment_ink b)) [
  | inl y ↦ y
  | inr m ↦ absurd (both_ways (is_comment_ink b || is_space_byte b) (rw (m, n) refl) h)
]

-- the front of a run is words where its last byte is no space
pub words_front : (n : ℕ) (s : List ℕ) → n ≤ prefix_len is_comment_byte s → ((m : ℕ) → n ≡ suc m → is_space_byte (get_or s m 0) ≡ false) → are_words (take n s) ≡ true
words_front zero s within last = refl
words_front (suc n) [] within last = absurd (omega (arith, within))
words_front (suc n) (b ∷ s) within last = elim (cases_Bool (is_comment_byte b)) [
  | inl y ↦
      let len : prefix_len is_comment_byte (b ∷ s) ≡ 1 + prefix_len is_comment_byte s = rw y refl in
      on n s y (omega (arith, within, len)) last (λ more. words_front n s (omega (arith, within, len)) more)
  | inr m ↦
      let len : prefix_len is_comment_byte (b ∷ s) ≡ 0 = rw m refl in
      absurd (omega (arith, within, len))
]
  where
    on : (n : ℕ) (s : List ℕ) → is_comment_byte b ≡ true → n ≤ prefix_len is_comment_byte s → ((m : ℕ) → suc n ≡ suc m → is_space_byte (get_or (b ∷ s) m 0) ≡ false)
        → (((m : ℕ) → n ≡ suc m → is_space_byte (get_or s m 0) ≡ false) → are_words (take n s) ≡ true) → are_words (b ∷ take n s) ≡ true
    on zero s y within last front = ink_left b y (last 0 refl)
    on (suc n) [] y within last front = absurd (omega (arith, within))
    on (suc n) (c ∷ s) y within last front = and_from (is_comment_byte b) (are_words (c ∷ take n s)) y (front (λ m e. last (suc m) (ap suc e)))

-- printable bytes of comments are bytes of comments
quiet_comment : (b : ℕ) → is_quiet_comment b ≡ true → is_comment_byte b ≡ true
unfolding is_quiet_comment
quiet_comment b h = (and_parts (is_comment_byte b) (nat_le 32 b && nat_le b 126) h).0

pub quiet_comment_plain : (b : ℕ) → is_quiet_comment b ≡ true → is_plain b ≡ true
quiet_comment_plain b h = comment_plain b (quiet_comment b h)

pub quiet_less : (s : List ℕ) → prefix_len is_quiet_comment s ≤ prefix_len is_comment_byte s
quiet_less [] = omega arith
quiet_less (b ∷ s) = elim (cases_Bool (is_quiet_comment b)) [
  | inl y ↦
      let more = quiet_less s in
      let few : prefix_len is_quiet_comment (b ∷ s) ≡ 1 + prefix_len is_quiet_comment s = rw y refl in
      let all : prefix_len is_comment_byte (b ∷ s) ≡ 1 + prefix_len is_comment_byte s = let comment = quiet_comment b y in rw comment refl in
      omega (arith, more, few, all)
  | inr m ↦ let none : prefix_len is_quiet_comment (b ∷ s) ≡ 0 = rw m refl in omega (arith, none)
]

-- the front of a run is of its class
pub quiet_front : (n : ℕ) (s : List ℕ) → n ≤ prefix_len is_quiet_comment s → list_all is_quiet_comment (take n s) ≡ true
quiet_front zero s within = refl
quiet_front (suc n) [] within = absurd (omega (arith, within))
quiet_front (suc n) (b ∷ s) within = elim (cases_Bool (is_quiet_comment b)) [
  | inl y ↦
      let len : prefix_len is_quiet_comment (b ∷ s) ≡ 1 + prefix_len is_quiet_comment s = rw y refl in
      and_from (is_quiet_comment b) (list_all is_quiet_comment (take n s)) y (quiet_front n s (omega (arith, within, len)))
  | inr m ↦ let none : prefix_len is_quiet_comment (b ∷ s) ≡ 0 = rw m refl in absurd (omega (arith, within, none))
]

-- bytes of a class of plain ones are characters by themselves
front_chars : (p : ℕ → Bool) (d : Dialect) (at n : ℕ) (s : List ℕ) → ((b : ℕ) → p b ≡ true → is_plain b ≡ true) → n ≤ length s → list_all p (take n s) ≡ true →
    chars d at s ≡ placed at (take n s) ++ chars d (at + n) (drop n s)
front_chars p d at zero s plain within all = let z : at + 0 ≡ at = omega arith in sym (ap (λ k. chars d k s) z)
front_chars p d at (suc n) [] plain within all = absurd (omega (arith, within))
front_chars p d at (suc n) (b ∷ s) plain within all =
    let parts = and_parts (p b) (list_all p (take n s)) all in
    let far : (at + 1) + n ≡ at + suc n = omega arith in
    plain_first d at b s (plain b parts.0)
    ∙ ap (λ z. record { byte = b; from = at; to = at + 1 } ∷ z) (front_chars p d (at + 1) n s plain (omega (arith, within)) parts.1 ∙ ap (λ k. placed (at + 1) (take n s) ++ chars d k (drop n s)) far)

-- a reader that passed such bytes
pub front_passed : (p : ℕ → Bool) (d d2 : Dialect) (at at2 n : ℕ) (s rest : List ℕ) → ((b : ℕ) → p b ≡ true → is_plain b ≡ true) → n ≤ length s → list_all p (take n s) ≡ true → d2 ≡ d → at2 ≡ at + n → rest ≡ drop n s →
    AreBytesPassed p (record { dialect = d; at = at; chars = chars d at s }) (record { dialect = d2; at = at2; chars = chars d2 at2 rest })
front_passed p d d2 at at2 n s rest plain within all dd aa rr =
    let same : chars d2 at2 rest ≡ chars d (at + n) (drop n s) = rw (dd, aa, rr) refl in
    record {
      bytes = take n s;
      all = all;
      chars_are = front_chars p d at n s plain within all ∙ ap (λ z. placed at (take n s) ++ z) (sym same);
      at_is = let len = length_take n s within in omega (arith, aa, len);
    }
  where
    length_take : (n : ℕ) (s : List ℕ) → n ≤ length s → length (take n s) ≡ n
    length_take zero s within = refl
    length_take (suc n) [] within = absurd (omega (arith, within))
    length_take (suc n) (b ∷ s) within = ap suc (length_take n s (omega (arith, within)))

words_parts : (b : ℕ) (s : List ℕ) → are_words (b ∷ s) ≡ true → (is_comment_byte b ≡ true) × (are_words s ≡ true)
words_parts b [] h = (ink_comment b h, refl)
words_parts b (c ∷ s) h = and_parts (is_comment_byte b) (are_words (c ∷ s)) h

-- bytes of words are characters by themselves
record AreAlone (d : Dialect) (at n : ℕ) (s : List ℕ) : Type 0 where
  within : n ≤ length (chars d at s)
  bytes_are : take n (bytes_of (chars d at s)) ≡ take n s
  behind_is : passed d at (chars d at s) n ≡ record { dialect = d; at = at + n; chars = chars d (at + n) (drop n s) }

words_alone : (d : Dialect) (at n : ℕ) (s : List ℕ) → n ≤ length s → are_words (take n s) ≡ true → AreAlone d at n s
words_alone d at zero s within words =
    let z : at + 0 ≡ at = omega arith in
    record { within = omega arith; bytes_are = refl; behind_is = sym (ap (λ k. record { dialect = d; at = k; chars = chars d k s }) z) }
words_alone d at (suc n) [] within words = absurd (omega (arith, within))
words_alone d at (suc n) (b ∷ s) within words =
    let parts = words_parts b (take n s) words in
    let rest = words_alone d (at + 1) n s (omega (arith, within)) parts.1 in
    let first = plain_first d at b s (comment_plain b parts.0) in
    let len : length (chars d at (b ∷ s)) ≡ suc (length (chars d (at + 1) s)) = ap length first in
    let far : (at + 1) + n ≡ at + suc n = omega arith in
    record {
      within = omega (arith, len, rest.within);
      bytes_are = ap (λ z. take (suc n) (bytes_of z)) first ∙ ap (λ z. b ∷ z) rest.bytes_are;
      behind_is = ap (λ z. passed d at z (suc n)) first ∙ (rest.behind_is ∙ ap (λ k. record { dialect = d; at = k; chars = chars d k (drop n s) }) far);
    }

-- a reader that passed words
pub words_passed : (d d2 : Dialect) (at at2 n : ℕ) (s rest : List ℕ) → n ≤ length s → are_words (take n s) ≡ true → d2 ≡ d → at2 ≡ at + n → rest ≡ drop n s →
    AreWordsPassed (record { dialect = d; at = at; chars = chars d at s }) (record { dialect = d2; at = at2; chars = chars d2 at2 rest })
words_passed d d2 at at2 n s rest within words dd aa rr =
    let alone = words_alone d at n s within words in
    record {
      n = n;
      within = alone.within;
      all = ap are_words alone.bytes_are ∙ words;
      new_is = (λ i. record { dialect = dd i; at = aa i; chars = chars (dd i) (aa i) (rr i) }) ∙ sym alone.behind_is;
    }
