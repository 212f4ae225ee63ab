-- Steps over characters.
use Rattle.std.specs.List.{list_all, list_any, prefix_len}
use Rattle.c_lexer.specs.Quote.{closes_quote, quote_len}
use Rattle.c_lexer.specs.Header.{ends_name, name_len, begins_header, header_len}
use Rattle.c_lexer.specs.Comment.{closes_block, block_len, line_len, over_white}
use Rattle.std.specs.Prelude.{if◌then◌else◌, not, slice_get, Option, Some, None, MatchOption}
use Rattle.std.proofs.lemmas.Bool.{cases_Bool, eqb-true, eq-eqb, ne_eqb, and_parts, not-false}
use Rattle.std.proofs.lemmas.Bool.Decides.{nat_tests}
use Rattle.c_grammar.specs.Grammar.{is_white, is_new_line}
use Rattle.c_grammar.specs.Touch.{starts}
use Rattle.c_grammar.specs.Bytes.{is_quote_mark}
use Rattle.std.proofs.Common.{true, inl, inr, ◌≡◌, ◌≤◌, ◌==◌, ◌&&◌, Bool, false, ℕ, zero, suc, length, ◌+◌, ◌||◌, List, [], ◌∷◌, take, refl, sym, ◌∙◌, ap, arith}
use Rattle.c_chars.proofs.Steps.{behind_next}
use Rattle.c_chars.specs.Coming.{Coming, ArePassed, AreWordsPassed, behind, passed}
use Rattle.c_chars.specs.Characters.{are_words, bytes_of, is_comment_byte, is_comment_ink, is_ink_byte, is_space_byte, is_text_byte}
use Rattle.c_chars.specs.declared.Dialect.{Dialect}
use Rattle.c_chars.specs.declared.LogicalChar.{LogicalChar}

pub behind_none : (x : Coming) → behind x 0 ≡ x
behind_none x = refl

-- a comment that doesn't end with this character
pub block_next : (x y : Coming) (c : LogicalChar) (star : Bool) → x.chars ≡ c ∷ y.chars → y.at ≡ c.to → y.dialect ≡ x.dialect → (star && c.byte == 47) ≡ false →
    (closes_block star (bytes_of x.chars) ≡ closes_block (c.byte == 42) (bytes_of y.chars)) × (behind x (block_len star (bytes_of x.chars)) ≡ behind y (block_len (c.byte == 42) (bytes_of y.chars)))
block_next x y c star chars at dialect n = (
  ap (λ s. closes_block star (bytes_of s)) chars ∙ (rw n refl),
  ap (λ s. behind x (block_len star (bytes_of s))) chars ∙ (rw n (behind_next x y c (block_len (c.byte == 42) (bytes_of y.chars)) chars at dialect)),
)

-- where a line comment ends whose last character that isn't white is this one, from what stands behind that and what is left
abbrev pub line_end : ℕ → Coming → Coming → Coming
line_end last rest kept = if line_len last (bytes_of rest.chars) == 0 && not (last == 92) then kept else behind rest (line_len last (bytes_of rest.chars))

pub line_begin : (last : ℕ) (x : Coming) → line_end last x x ≡ behind x (line_len last (bytes_of x.chars))
line_begin last x = elim (cases_Bool (line_len last (bytes_of x.chars) == 0)) [
  | inl y ↦ elim (cases_Bool (last == 92)) [
    | inl b ↦ rw (y, b) refl
    | inr b ↦ let none : line_len last (bytes_of x.chars) ≡ 0 = eqb-true (line_len last (bytes_of x.chars)) 0 y in rw (y, b) (sym (ap (λ n. behind x n) none))
  ]
  | inr n ↦ rw n refl
]

black_len : (last c : ℕ) (s : List ℕ) → is_new_line c ≡ false → is_white c ≡ false → line_len last (c ∷ s) ≡ 1 + line_len c s
black_len last c s n b = rw (n, b) refl

white_len : (last c : ℕ) (s : List ℕ) → is_new_line c ≡ false → is_white c ≡ true → line_len last (c ∷ s) ≡ over_white (last == 92) (line_len last s)
white_len last c s n b = rw (n, b) refl

pub line_black : (last : ℕ) (x y kept : Coming) (c : LogicalChar) → x.chars ≡ c ∷ y.chars → y.at ≡ c.to → y.dialect ≡ x.dialect → is_new_line c.byte ≡ false → is_white c.byte ≡ false →
    line_end c.byte y y ≡ line_end last x kept
line_black last x y kept c chars at dialect n b =
    let len : line_len last (bytes_of x.chars) ≡ 1 + line_len c.byte (bytes_of y.chars) = ap (λ s. line_len last (bytes_of s)) chars ∙ black_len last c.byte (bytes_of y.chars) n b in
    let some : (line_len last (bytes_of x.chars) == 0) ≡ false = some_more (line_len last (bytes_of x.chars)) (line_len c.byte (bytes_of y.chars)) len in
    line_begin c.byte y ∙ sym (rw some (ap (λ n. behind x n) len ∙ behind_next x y c (line_len c.byte (bytes_of y.chars)) chars at dialect))
  where
    some_more : (n m : ℕ) → n ≡ 1 + m → (n == 0) ≡ false
    some_more n m e = ne_eqb n 0 (λ z. absurd (omega (arith, e, z)))

pub line_white : (last : ℕ) (x y kept : Coming) (c : LogicalChar) → x.chars ≡ c ∷ y.chars → y.at ≡ c.to → y.dialect ≡ x.dialect → is_new_line c.byte ≡ false → is_white c.byte ≡ true →
    line_end last y kept ≡ line_end last x kept
line_white last x y kept c chars at dialect n b =
    let len : line_len last (bytes_of x.chars) ≡ over_white (last == 92) (line_len last (bytes_of y.chars)) = ap (λ s. line_len last (bytes_of s)) chars ∙ white_len last c.byte (bytes_of y.chars) n b in
    at_white (line_len last (bytes_of x.chars)) (line_len last (bytes_of y.chars)) len
  where
    at_white : (m k : ℕ) → m ≡ over_white (last == 92) k → (if k == 0 && not (last == 92) then kept else behind y k) ≡ (if m == 0 && not (last == 92) then kept else behind x m)
    at_white m k e = elim (cases_Bool (k == 0 && not (last == 92))) [
      | inl z ↦
          let none : m ≡ 0 = e ∙ (rw z refl) in
          let last_is : not (last == 92) ≡ true = (and_parts (k == 0) (not (last == 92)) z).1 in
          rw (z, none, last_is) refl
      | inr z ↦
          let one : m ≡ 1 + k = e ∙ (rw z refl) in
          let some : (m == 0) ≡ false = ne_eqb m 0 (λ q. absurd (omega (arith, one, q))) in
          rw (z, some) (sym (ap (λ n. behind x n) one ∙ behind_next x y c k chars at dialect))
    ]

pub line_done : (last : ℕ) (x kept : Coming) → starts (λ c. not (is_new_line c)) (bytes_of x.chars) ≡ false → line_end last x kept ≡ (if last == 92 then x else kept)
line_done last x kept h =
    let none : line_len last (bytes_of x.chars) ≡ 0 = ends_here (bytes_of x.chars) h in
    elim (cases_Bool (last == 92)) [ inl y ↦ rw (none, y) refl | inr y ↦ rw (none, y) refl ]
  where
    ends_here : (s : List ℕ) → starts (λ c. not (is_new_line c)) s ≡ false → line_len last s ≡ 0
    ends_here [] h = refl
    ends_here (c ∷ s) h = let line = not-false (is_new_line c) h in rw line refl

-- what stands first

pub first_is : (p : ℕ → Bool) (s : List LogicalChar) (c : LogicalChar) → slice_get s 0 ≡ Some c → starts p (bytes_of s) ≡ p c.byte
first_is p [] c h = cc
first_is p (e ∷ s) c h = let same : e ≡ c = cc in ap (λ z. p z.byte) same

pub first_none : (p : ℕ → Bool) (s : List LogicalChar) → slice_get s 0 ≡ None → starts p (bytes_of s) ≡ false
first_none p [] h = refl
first_none p (e ∷ s) h = cc

-- quotes and names

pub quote_next : (q : ℕ) (escaped : Bool) (x y : Coming) (c : LogicalChar) → x.chars ≡ c ∷ y.chars → y.at ≡ c.to → y.dialect ≡ x.dialect → is_new_line c.byte ≡ false → (not escaped && c.byte == q) ≡ false →
    (closes_quote q escaped (bytes_of x.chars) ≡ closes_quote q (not escaped && c.byte == 92) (bytes_of y.chars))
    × (behind x (quote_len q escaped (bytes_of x.chars)) ≡ behind y (quote_len q (not escaped && c.byte == 92) (bytes_of y.chars)))
quote_next q escaped x y c chars at dialect l n = (
  ap (λ s. closes_quote q escaped (bytes_of s)) chars ∙ (rw (l, n) refl),
  ap (λ s. behind x (quote_len q escaped (bytes_of s))) chars ∙ (rw (l, n) (behind_next x y c (quote_len q (not escaped && c.byte == 92) (bytes_of y.chars)) chars at dialect)),
)

pub name_next : (last : ℕ) (some : Bool) (x y : Coming) (c : LogicalChar) → x.chars ≡ c ∷ y.chars → y.at ≡ c.to → y.dialect ≡ x.dialect → is_new_line c.byte ≡ false → (c.byte == last) ≡ false →
    (ends_name last some (bytes_of x.chars) ≡ ends_name last true (bytes_of y.chars)) × (behind x (name_len last (bytes_of x.chars)) ≡ behind y (name_len last (bytes_of y.chars)))
name_next last some x y c chars at dialect l n = (
  ap (λ s. ends_name last some (bytes_of s)) chars ∙ (rw (l, n) refl),
  ap (λ s. behind x (name_len last (bytes_of s))) chars ∙ (rw n (behind_next x y c (name_len last (bytes_of y.chars)) chars at dialect)),
)

pub name_done : (last : ℕ) (some : Bool) (s : List ℕ) → starts (λ c. not (is_new_line c)) s ≡ false → ends_name last some s ≡ false
name_done last some [] h = refl
name_done last some (c ∷ s) h = let line = not-false (is_new_line c) h in rw line refl

pub name_found : (last : ℕ) (some : Bool) (x y : Coming) (c : LogicalChar) → x.chars ≡ c ∷ y.chars → y.at ≡ c.to → y.dialect ≡ x.dialect → is_new_line c.byte ≡ false → c.byte ≡ last →
    (ends_name last some (bytes_of x.chars) ≡ some) × (behind x (name_len last (bytes_of x.chars)) ≡ y)
name_found last some x y c chars at dialect l e =
    let same = eq-eqb c.byte last e in (
      ap (λ s. ends_name last some (bytes_of s)) chars ∙ (rw (l, same) refl),
      ap (λ s. behind x (name_len last (bytes_of s))) chars ∙ (rw same (behind_next x y c 0 chars at dialect)),
    )

pub header_angle : (x y : Coming) (c : LogicalChar) → x.chars ≡ c ∷ y.chars → y.at ≡ c.to → y.dialect ≡ x.dialect → c.byte ≡ 60 →
    (begins_header (bytes_of x.chars) ≡ ends_name 62 false (bytes_of y.chars)) × (behind x (header_len (bytes_of x.chars)) ≡ behind y (name_len 62 (bytes_of y.chars)))
header_angle x y c chars at dialect e =
    let angle = eq-eqb c.byte 60 e in (
      ap (λ s. begins_header (bytes_of s)) chars ∙ (rw angle refl),
      ap (λ s. behind x (header_len (bytes_of s))) chars ∙ (rw angle (behind_next x y c (name_len 62 (bytes_of y.chars)) chars at dialect)),
    )

pub header_quote : (x y : Coming) (c : LogicalChar) → x.chars ≡ c ∷ y.chars → y.at ≡ c.to → y.dialect ≡ x.dialect → (c.byte == 60) ≡ false → c.byte ≡ 34 →
    (begins_header (bytes_of x.chars) ≡ ends_name 34 false (bytes_of y.chars)) × (behind x (header_len (bytes_of x.chars)) ≡ behind y (name_len 34 (bytes_of y.chars)))
header_quote x y c chars at dialect n e =
    let quote = eq-eqb c.byte 34 e in (
      ap (λ s. begins_header (bytes_of s)) chars ∙ (rw (n, quote) refl),
      ap (λ s. behind x (header_len (bytes_of s))) chars ∙ (rw n (behind_next x y c (name_len 34 (bytes_of y.chars)) chars at dialect)),
    )

-- the same outcome under other names
pub same_outcome : (o : Option Coming) (a b : Bool) (r t : Coming) → a ≡ b → r ≡ t → MatchOption o (b ≡ false) (λ rest. (b ≡ true) × (rest ≡ t)) → MatchOption o (a ≡ false) (λ rest. (a ≡ true) × (rest ≡ r))
same_outcome None a b r t e f h = e ∙ h
same_outcome (Some x) a b r t e f h = (e ∙ h.0, h.1 ∙ sym f)

-- runs of what passes

pub prefix_next : (p : ℕ → Bool) (x y : Coming) (c : LogicalChar) → x.chars ≡ c ∷ y.chars → y.at ≡ c.to → y.dialect ≡ x.dialect → p c.byte ≡ true →
    behind x (prefix_len p (bytes_of x.chars)) ≡ behind y (prefix_len p (bytes_of y.chars))
prefix_next p x y c chars at dialect h =
    ap (λ s. behind x (prefix_len p (bytes_of s))) chars ∙ (rw h (behind_next x y c (prefix_len p (bytes_of y.chars)) chars at dialect))

pub prefix_done : (p : ℕ → Bool) (s : List ℕ) → starts p s ≡ false → prefix_len p s ≡ 0
prefix_done p [] h = refl
prefix_done p (c ∷ s) h = rw h refl

-- whether a new-line stands in the run
abbrev pub has_line : (ℕ → Bool) → List ℕ → Bool
has_line p s = list_any is_new_line (take (prefix_len p s) s)

pub line_next : (p : ℕ → Bool) (x y : Coming) (c : LogicalChar) → x.chars ≡ c ∷ y.chars → p c.byte ≡ true →
    has_line p (bytes_of x.chars) ≡ (is_new_line c.byte || has_line p (bytes_of y.chars))
line_next p x y c chars h = ap (λ s. has_line p (bytes_of s)) chars ∙ at c.byte (bytes_of y.chars) h
  where
    at : (c : ℕ) (s : List ℕ) → p c ≡ true → has_line p (c ∷ s) ≡ (is_new_line c || has_line p s)
    at c s h = let one : 1 + prefix_len p s ≡ suc (prefix_len p s) = omega arith in rw (h, one) refl

pub or_assoc : (a b c : Bool) → ((a || b) || c) ≡ (a || (b || c))
or_assoc true b c = refl
or_assoc false b c = refl

-- what passed is in front of the run
pub passed_run : (p q : ℕ → Bool) (x y : Coming) → ((b : ℕ) → q b ≡ true → p b ≡ true) → ArePassed q x y → behind y (prefix_len p (bytes_of y.chars)) ≡ behind x (prefix_len p (bytes_of x.chars))
passed_run p q x y more r =
    ap (λ z. behind z (prefix_len p (bytes_of z.chars))) r.new_is ∙ go x.dialect x.at x.chars r.n r.within r.all
  where
    go : (d : Dialect) (at : ℕ) (s : List LogicalChar) (n : ℕ) → n ≤ length s → list_all q (take n (bytes_of s)) ≡ true →
        behind (passed d at s n) (prefix_len p (bytes_of (passed d at s n).chars)) ≡ passed d at s (prefix_len p (bytes_of s))
    go d at s zero within all = refl
    go d at [] (suc n) within all = absurd (omega arith)
    go d at (c ∷ s) (suc n) within all =
        let parts = and_parts (q c.byte) (list_all q (take n (bytes_of s))) all in
        let one : 1 + prefix_len p (bytes_of s) ≡ suc (prefix_len p (bytes_of s)) = omega arith in
        let yes : p c.byte ≡ true = more c.byte parts.0 in
        go d c.to s n (omega (arith, within)) parts.1 ∙ sym (rw (yes, one) refl)

-- Bytes of comments and strings that end neither.

pub ink_means : (b : ℕ) → is_comment_ink b ≡ true → (is_new_line b ≡ false) × ((is_white b ≡ false) × ((b == 92) ≡ false))
unfolding is_comment_ink is_new_line is_white
ink_means b h = (grind (arith, nat_tests), (grind (arith, nat_tests), grind (arith, nat_tests)))

comment_means : (b : ℕ) → is_comment_byte b ≡ true → (b == 42) ≡ false
unfolding is_comment_byte is_comment_ink is_space_byte
comment_means b h = grind (arith, nat_tests)

pub text_means : (b : ℕ) → is_text_byte b ≡ true → (is_new_line b ≡ false) × ((b == 92) ≡ false)
unfolding is_text_byte is_ink_byte is_space_byte is_new_line
text_means b h = (grind (arith, nat_tests), grind (arith, nat_tests))

pub text_quote : (q b : ℕ) → is_quote_mark q ≡ true → is_text_byte b ≡ true → (b == q) ≡ false
unfolding is_text_byte is_ink_byte is_space_byte
text_quote q b k h = grind (arith, nat_tests)

-- what passed ends no block comment
pub passed_block : (x y : Coming) → ArePassed is_comment_byte x y →
    (closes_block false (bytes_of y.chars) ≡ closes_block false (bytes_of x.chars)) × (behind y (block_len false (bytes_of y.chars)) ≡ behind x (block_len false (bytes_of x.chars)))
passed_block x y r = (
  ap (λ z. closes_block false (bytes_of z.chars)) r.new_is ∙ closes x.dialect x.at x.chars r.n r.within r.all,
  ap (λ z. behind z (block_len false (bytes_of z.chars))) r.new_is ∙ on x.dialect x.at x.chars r.n r.within r.all,
)
  where
    closes : (d : Dialect) (at : ℕ) (s : List LogicalChar) (n : ℕ) → n ≤ length s → list_all is_comment_byte (take n (bytes_of s)) ≡ true →
        closes_block false (bytes_of (passed d at s n).chars) ≡ closes_block false (bytes_of s)
    closes d at s zero within all = refl
    closes d at [] (suc n) within all = absurd (omega arith)
    closes d at (c ∷ s) (suc n) within all =
        let parts = and_parts (is_comment_byte c.byte) (list_all is_comment_byte (take n (bytes_of s))) all in
        let star = comment_means c.byte parts.0 in
        closes d c.to s n (omega (arith, within)) parts.1 ∙ sym (ap (λ b. closes_block b (bytes_of s)) star)

    on : (d : Dialect) (at : ℕ) (s : List LogicalChar) (n : ℕ) → n ≤ length s → list_all is_comment_byte (take n (bytes_of s)) ≡ true →
        behind (passed d at s n) (block_len false (bytes_of (passed d at s n).chars)) ≡ passed d at s (block_len false (bytes_of s))
    on d at s zero within all = refl
    on d at [] (suc n) within all = absurd (omega arith)
    on d at (c ∷ s) (suc n) within all =
        let parts = and_parts (is_comment_byte c.byte) (list_all is_comment_byte (take n (bytes_of s))) all in
        let star = comment_means c.byte parts.0 in
        let one : 1 + block_len false (bytes_of s) ≡ suc (block_len false (bytes_of s)) = omega arith in
        on d c.to s n (omega (arith, within)) parts.1 ∙ sym (ap (λ b. passed d at (c ∷ s) (1 + block_len b (bytes_of s))) star ∙ rw one refl)

-- what passed closes no quote
pub passed_quote : (q : ℕ) (x y : Coming) → is_quote_mark q ≡ true → ArePassed is_text_byte x y →
    (closes_quote q false (bytes_of y.chars) ≡ closes_quote q false (bytes_of x.chars)) × (behind y (quote_len q false (bytes_of y.chars)) ≡ behind x (quote_len q false (bytes_of x.chars)))
passed_quote q x y mark r = (
  ap (λ z. closes_quote q false (bytes_of z.chars)) r.new_is ∙ closes x.dialect x.at x.chars r.n r.within r.all,
  ap (λ z. behind z (quote_len q false (bytes_of z.chars))) r.new_is ∙ on x.dialect x.at x.chars r.n r.within r.all,
)
  where
    closes : (d : Dialect) (at : ℕ) (s : List LogicalChar) (n : ℕ) → n ≤ length s → list_all is_text_byte (take n (bytes_of s)) ≡ true →
        closes_quote q false (bytes_of (passed d at s n).chars) ≡ closes_quote q false (bytes_of s)
    closes d at s zero within all = refl
    closes d at [] (suc n) within all = absurd (omega arith)
    closes d at (c ∷ s) (suc n) within all =
        let parts = and_parts (is_text_byte c.byte) (list_all is_text_byte (take n (bytes_of s))) all in
        let means = text_means c.byte parts.0 in
        let line = means.0 in
        let slash = means.1 in
        let other = text_quote q c.byte mark parts.0 in
        closes d c.to s n (omega (arith, within)) parts.1 ∙ sym (rw (line, other, slash) refl)

    on : (d : Dialect) (at : ℕ) (s : List LogicalChar) (n : ℕ) → n ≤ length s → list_all is_text_byte (take n (bytes_of s)) ≡ true →
        behind (passed d at s n) (quote_len q false (bytes_of (passed d at s n).chars)) ≡ passed d at s (quote_len q false (bytes_of s))
    on d at s zero within all = refl
    on d at [] (suc n) within all = absurd (omega arith)
    on d at (c ∷ s) (suc n) within all =
        let parts = and_parts (is_text_byte c.byte) (list_all is_text_byte (take n (bytes_of s))) all in
        let means = text_means c.byte parts.0 in
        let line = means.0 in
        let slash = means.1 in
        let other = text_quote q c.byte mark parts.0 in
        let one : 1 + quote_len q false (bytes_of s) ≡ suc (quote_len q false (bytes_of s)) = omega arith in
        on d c.to s n (omega (arith, within)) parts.1 ∙ sym (rw (line, other, slash, one) refl)

-- only whether the last character is a backslash tells how long a line comment is
same_last : (a b : ℕ) (s : List ℕ) → (a == 92) ≡ (b == 92) → line_len a s ≡ line_len b s
same_last a b [] e = refl
same_last a b (c ∷ s) e = elim (cases_Bool (is_new_line c)) [
  | inl y ↦ rw y refl
  | inr n ↦ elim (cases_Bool (is_white c)) [
    | inl w ↦ rw (n, w) ((λ i. over_white (e i) (line_len a s)) ∙ ap (λ k. over_white (b == 92) k) (same_last a b s e))
    | inr w ↦ rw (n, w) refl
  ]
]

-- such a byte is a space or a tab, or no white space
comment_parts : (b : ℕ) → is_comment_byte b ≡ true → is_comment_ink b ≡ false → (is_new_line b ≡ false) × (is_white b ≡ true)
unfolding is_comment_byte is_comment_ink is_space_byte is_new_line is_white
comment_parts b h n = (grind (arith, nat_tests), grind (arith, nat_tests))

ink_comment : (b : ℕ) → is_comment_ink b ≡ true → is_comment_byte b ≡ true
unfolding is_comment_byte
ink_comment b h = rw h refl

words_first : (b : ℕ) (s : List ℕ) → are_words (b ∷ s) ≡ true → (is_comment_byte b ≡ true) × (are_words s ≡ true)
words_first b [] h = (ink_comment b h, refl)
words_first b (c ∷ s) h = and_parts (is_comment_byte b) (are_words (c ∷ s)) h

-- white space stands within a comment that goes on behind it
over_some : (keeps : Bool) (m : ℕ) → (m == 0) ≡ false → over_white keeps m ≡ 1 + m
over_some keeps m e = rw e refl

-- a line comment has the words that come next
some_ink : (last b : ℕ) (s : List ℕ) → is_comment_ink b ≡ true → (line_len last (b ∷ s) == 0) ≡ false
some_ink last b s h =
    let means = ink_means b h in
    let len = black_len last b s means.0 means.1.0 in
    ne_eqb (line_len last (b ∷ s)) 0 (λ z. absurd (omega (arith, len, z)))

some_words : (last n b : ℕ) (s : List ℕ) → are_words (b ∷ take n s) ≡ true → (line_len last (b ∷ s) == 0) ≡ false
some_words last zero b s h = some_ink last b s h
some_words last (suc n) b [] h = some_ink last b [] h
some_words last (suc n) b (c ∷ s) h =
    let parts = words_first b (c ∷ take n s) h in
    let rest = some_words last n c s parts.1 in
    elim (cases_Bool (is_comment_ink b)) [
      | inl y ↦ some_ink last b (c ∷ s) y
      | inr m ↦
          let means = comment_parts b parts.0 m in
          let len : line_len last (b ∷ c ∷ s) ≡ 1 + line_len last (c ∷ s) = white_len last b (c ∷ s) means.0 means.1 ∙ over_some (last == 92) (line_len last (c ∷ s)) rest in
          ne_eqb (line_len last (b ∷ c ∷ s)) 0 (λ z. absurd (omega (arith, len, z)))
    ]

-- one character of words is passed
word_len : (last n : ℕ) (b : ℕ) (s : List ℕ) → (last == 92) ≡ false → are_words (b ∷ take n s) ≡ true → line_len last (b ∷ s) ≡ 1 + line_len last s
word_len last n b s other h = elim (cases_Bool (is_comment_ink b)) [
  | inl y ↦
      let means = ink_means b y in
      let same : line_len b s ≡ line_len last s = same_last b last s (means.1.1 ∙ sym other) in
      black_len last b s means.0 means.1.0 ∙ ap (λ k. 1 + k) same
  | inr m ↦ white n s (comment_parts b (words_first b (take n s) h).0 m) h m
]
  where
    white : (n : ℕ) (s : List ℕ) → (is_new_line b ≡ false) × (is_white b ≡ true) → are_words (b ∷ take n s) ≡ true → is_comment_ink b ≡ false → line_len last (b ∷ s) ≡ 1 + line_len last s
    white zero s means h m = let no : true ≡ false = sym h ∙ m in cc
    white (suc n) [] means h m = let no : true ≡ false = sym h ∙ m in cc
    white (suc n) (c ∷ s) means h m =
        let rest = some_words last n c s (words_first b (c ∷ take n s) h).1 in
        white_len last b (c ∷ s) means.0 means.1 ∙ over_some (last == 92) (line_len last (c ∷ s)) rest

-- what passed is within a line comment, and its last character is no white space
pub passed_line : (last : ℕ) (x y : Coming) → (last == 92) ≡ false → AreWordsPassed x y → behind y (line_len last (bytes_of y.chars)) ≡ behind x (line_len last (bytes_of x.chars))
passed_line last x y other r = ap (λ z. behind z (line_len last (bytes_of z.chars))) r.new_is ∙ on x.dialect x.at x.chars r.n r.within r.all
  where
    on : (d : Dialect) (at : ℕ) (s : List LogicalChar) (n : ℕ) → n ≤ length s → are_words (take n (bytes_of s)) ≡ true →
        behind (passed d at s n) (line_len last (bytes_of (passed d at s n).chars)) ≡ passed d at s (line_len last (bytes_of s))
    on d at s zero within all = refl
    on d at [] (suc n) within all = absurd (omega arith)
    on d at (c ∷ s) (suc n) within all =
        let len = word_len last n c.byte (bytes_of s) other all in
        let one : line_len last (c.byte ∷ bytes_of s) ≡ suc (line_len last (bytes_of s)) = omega (arith, len) in
        on d c.to s n (omega (arith, within)) (words_first c.byte (take n (bytes_of s)) all).1 ∙ sym (ap (λ k. passed d at (c ∷ s) k) one)

-- no more are left than were
fewer_behind : (d : Dialect) (at : ℕ) (s : List LogicalChar) (n : ℕ) → length (passed d at s n).chars ≤ length s
fewer_behind d at s zero = omega arith
fewer_behind d at [] (suc n) = omega arith
fewer_behind d at (c ∷ s) (suc n) = let h = fewer_behind d c.to s n in omega (arith, h)

pub fewer_words : (x y : Coming) → AreWordsPassed x y → length y.chars ≤ length x.chars
fewer_words x y r = let e : length y.chars ≡ length (behind x r.n).chars = ap (λ z. length z.chars) r.new_is in rw e (fewer_behind x.dialect x.at x.chars r.n)

pub fewer_left : (p : ℕ → Bool) (x y : Coming) → ArePassed p x y → length y.chars ≤ length x.chars
fewer_left p x y r = let e : length y.chars ≡ length (behind x r.n).chars = ap (λ z. length z.chars) r.new_is in rw e (fewer_behind x.dialect x.at x.chars r.n)
