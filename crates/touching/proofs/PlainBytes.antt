-- What the first characters of two items tell.
use Rattle.std.proofs.Common.{◌≡◌, ◌==◌, ◌&&◌, ◌||◌, ◌∙◌, inl, inr, not, ℕ, zero, suc, ◌+◌, ◌<◌, arith, Bool, true, false, List, [], ◌∷◌, codes, length, get_or, refl, sym, ap, eq-eqb}
use Rattle.std.specs.List.{list_any, list_all}
use Rattle.std.proofs.lemmas.Bool.{and_parts, and_left, and_right, not-true, eqb-true, cases_Bool, false≢true}
use Rattle.c_chars.specs.Characters.{bytes_of, chars, mark_len}
use Rattle.c_chars.specs.declared.Dialect.{Dialect}
use Rattle.c_chars.specs.declared.Dialect.TheVariants.{C11, C23}
use Rattle.c_grammar.specs.Grammar.{is_of, is_same, is_sign, is_exponent, is_string_prefix}
use Rattle.c_grammar.specs.Touch.{ends, is_front, is_identifier, is_number, is_other_kind, is_punct, takes_line, word_by_word, punct_goes_on, may_touch}
use Rattle.item_kinds.specs.declared.ItemKind.{ItemKind}
use Rattle.item_kinds.specs.declared.ItemKind.TheVariants.{Punct}
use Rattle.touching.specs.Spelling.{spelling}
use Rattle.touching.proofs.Marks.{first_of_two, high_step}
use Rattle.touching.proofs.NoMark.{mark_cases}
use Rattle.touching.specs.Near.{is_plain, seconds, thirds, going_on, pair_goes_on}

-- one of some characters is another than one that is none of them
among_apart : (cs : List ℕ) (r b : ℕ) → is_of cs r ≡ false → is_of cs b ≡ true → (r == b) ≡ false
among_apart cs r b none some = elim (cases_Bool (r == b)) [
  | inl y ↦ absurd (false≢true (sym none ∙ ap (is_of cs) (eqb-true r b y) ∙ some))
  | inr n ↦ n
]

-- the word has no second character, or this test holds of it
abbrev second_is : (ℕ → Bool) → List ℕ → Bool
second_is test [] = true
second_is test (a ∷ []) = true
second_is test (a ∷ b ∷ w) = test b

abbrev third_is : (ℕ → Bool) → List ℕ → Bool
third_is test [] = true
third_is test (a ∷ w) = second_is test w

two_fronts : (l r : ℕ) (w : List ℕ) → is_of seconds r ≡ false → second_is (is_of seconds) w ≡ true → is_front (l ∷ r ∷ []) w ≡ false
two_fronts l r [] none second = refl
two_fronts l r (a ∷ []) none second = and_right (l == a) false refl
two_fronts l r (a ∷ b ∷ w) none second = and_right (l == a) ((r == b) && true) (and_left (r == b) true (among_apart seconds r b none second))

three_fronts : (l m r : ℕ) (w : List ℕ) → is_of thirds r ≡ false → third_is (is_of thirds) w ≡ true → is_front (l ∷ m ∷ r ∷ []) w ≡ false
three_fronts l m r [] none third = refl
three_fronts l m r (a ∷ []) none third = and_right (l == a) false refl
three_fronts l m r (a ∷ b ∷ []) none third = and_right (l == a) ((m == b) && false) (and_right (m == b) false refl)
three_fronts l m r (a ∷ b ∷ c ∷ w) none third =
    and_right (l == a) ((m == b) && ((r == c) && true)) (and_right (m == b) ((r == c) && true) (and_left (r == c) true (among_apart thirds r c none third)))

none_any : (test check : List ℕ → Bool) (rows : List (List ℕ)) → ((w : List ℕ) → check w ≡ true → test w ≡ false) → list_all check rows ≡ true → list_any test rows ≡ false
none_any test check [] each all = refl
none_any test check (w ∷ rows) each all =
    let parts = and_parts (check w) (list_all check rows) all in
    rw (each w parts.0) (none_any test check rows each parts.1)

-- two characters of which the second goes on with nothing
pub pair_stays : (l r : ℕ) → is_of seconds r ≡ false → pair_goes_on l r ≡ false
pair_stays l r none = none_any (is_front (l ∷ r ∷ [])) (second_is (is_of seconds)) going_on (λ w second. two_fronts l r w none second) refl

-- three characters of which the third goes on with nothing
pub three_stay : (l m r : ℕ) → is_of thirds r ≡ false → list_any (is_front (l ∷ m ∷ r ∷ [])) going_on ≡ false
three_stay l m r none = none_any (is_front (l ∷ m ∷ r ∷ [])) (third_is (is_of thirds)) going_on (λ w third. three_fronts l m r w none third) refl

-- ## Plain bytes

plain_parts : (b : ℕ) → is_plain b ≡ true → ((b == 63) ≡ false) × (((b == 13) ≡ false) × (((b == 92) ≡ false) × ((b == 239) ≡ false)))
plain_parts b plain =
    let first = and_parts (not (b == 63)) (not (b == 13) && (not (b == 92) && not (b == 239))) plain in
    let second = and_parts (not (b == 13)) (not (b == 92) && not (b == 239)) first.1 in
    let third = and_parts (not (b == 92)) (not (b == 239)) second.1 in
    (not-true (b == 63) first.0, (not-true (b == 13) second.0, (not-true (b == 92) third.0, not-true (b == 239) third.1)))

-- bytes that begin with a plain one have no byte order mark
no_mark : (b : ℕ) (s : List ℕ) → (b == 239) ≡ false → mark_len (b ∷ s) ≡ 0
no_mark b s other = elim (mark_cases (b ∷ s)) [
  | inl none ↦ none
  | inr (t, is) ↦ absurd (false≢true (sym other ∙ eq-eqb b 239 (first_of_two is)))
]

-- a plain byte is the first character
plain_first : (d : Dialect) (b : ℕ) (s : List ℕ) → is_plain b ≡ true → spelling d (b ∷ s) ≡ b ∷ bytes_of (chars d 1 s)
plain_first d b s plain =
    let parts = plain_parts b plain in
    rw (no_mark b s parts.1.1.1) (high_step d 0 b s parts.0 parts.1.0 parts.1.1.0)

none_left : (d : Dialect) (at : ℕ) → bytes_of (chars d at []) ≡ []
none_left C11 at = refl
none_left C23 at = refl

pub first_reads : (d : Dialect) (s : List ℕ) → 0 < length s → is_plain (get_or s 0 0) ≡ true → (rest : List ℕ) × (spelling d s ≡ get_or s 0 0 ∷ rest)
first_reads d [] some plain = absurd (omega (arith, some))
first_reads d (b ∷ s) some plain = (bytes_of (chars d 1 s), plain_first d b s plain)

pub one_reads : (d : Dialect) (s : List ℕ) → length s ≡ 1 → is_plain (get_or s 0 0) ≡ true → spelling d s ≡ get_or s 0 0 ∷ []
one_reads d [] one plain = absurd (omega (arith, one))
one_reads d (b ∷ []) one plain = plain_first d b [] plain ∙ ap (λ z. b ∷ z) (none_left d 1)
one_reads d (b ∷ c ∷ s) one plain = absurd (omega (arith, one))

pub two_read : (d : Dialect) (s : List ℕ) → length s ≡ 2 → is_plain (get_or s 0 0) ≡ true → is_plain (get_or s 1 0) ≡ true → spelling d s ≡ get_or s 0 0 ∷ get_or s 1 0 ∷ []
two_read d [] two plain next = absurd (omega (arith, two))
two_read d (b ∷ []) two plain next = absurd (omega (arith, two))
two_read d (b ∷ c ∷ []) two plain next =
    let parts = plain_parts c next in
    plain_first d b (c ∷ []) plain ∙ ap (λ z. b ∷ z) (high_step d 1 c [] parts.0 parts.1.0 parts.1.1.0 ∙ ap (λ z. c ∷ z) (none_left d (1 + 1)))
two_read d (b ∷ c ∷ e ∷ s) two plain next = absurd (omega (arith, two))

-- ## The table

number_off : (n x y e : Bool) → (n && (x || y)) ≡ false → (n && (x || (y && e))) ≡ false
number_off false x y e h = refl
number_off true true y e h = h
number_off true false true e h = absurd (false≢true (sym h))
number_off true false false e h = refl

first_off : (a b c : Bool) → (a && c) ≡ false → ((a && b) && c) ≡ false
first_off true true c h = h
first_off true false c h = refl
first_off false b c h = refl

query_off : (a b c : Bool) → a ≡ false → ((a && b) && c) ≡ false
query_off a b c h = rw h refl

neither : (a b : Bool) → (a || b) ≡ false → (a ≡ false) × (b ≡ false)
neither true b h = absurd (false≢true (sym h))
neither false b h = (refl, h)

rows_left : (a b c d e f g h : Bool) → b ≡ false → c ≡ false → d ≡ false → f ≡ false → g ≡ false → h ≡ false → not (((((((a || b) || c) || d) || e) || f) || g) || h) ≡ not (a || e)
rows_left a b c d e f g h hb hc hd hf hg hh = rw (hb, hc, hd, hf, hg, hh) (last a e)
  where
    last : (a e : Bool) → not (((((((a || false) || false) || false) || e) || false) || false) || false) ≡ not (a || e)
    last true e = refl
    last false true = refl
    last false false = refl

two_rows : (left right : ItemKind) (l r : ℕ) (ls rs : List ℕ)
    → (is_identifier left && is_of (codes "'\"") r) ≡ false → (is_number left && (is_of (codes ".'") r || is_sign r)) ≡ false
    → ((l == 46) && is_number right) ≡ false → ((is_other_kind left || is_other_kind right) || takes_line left) ≡ false → (l == 63) ≡ false
    → may_touch left (l ∷ ls) right (r ∷ rs) ≡ not (word_by_word left right (r ∷ []) || punct_goes_on left (l ∷ ls) (r ∷ []))
two_rows left right l r ls rs quote number point apart query =
    let kinds = neither (is_other_kind left || is_other_kind right) (takes_line left) apart in
    rows_left (word_by_word left right (r ∷ [])) ((is_identifier left && is_string_prefix (l ∷ ls)) && is_of (codes "'\"") r)
    (is_number left && (is_of (codes ".'") r || (is_sign r && ends is_exponent (l ∷ ls)))) (((l == 46) && is_same ls []) && is_number right)
    (punct_goes_on left (l ∷ ls) (r ∷ [])) (((l == 63) && is_same ls []) && is_of (codes "?=(/)'<!>-") r) (is_other_kind left || is_other_kind right) (takes_line left)
    (first_off (is_identifier left) (is_string_prefix (l ∷ ls)) (is_of (codes "'\"") r) quote)
    (number_off (is_number left) (is_of (codes ".'") r) (is_sign r) (ends is_exponent (l ∷ ls)) number)
    (first_off (l == 46) (is_same ls []) (is_number right) point)
    (query_off (l == 63) (is_same ls []) (is_of (codes "?=(/)'<!>-") r) query) kinds.0 kinds.1

-- one plain byte, and a character
pub one_goes_on : (d : Dialect) (left : ItemKind) (s : List ℕ) (r : ℕ) → left ≡ Punct → length s ≡ 1 → is_plain (get_or s 0 0) ≡ true → pair_goes_on (get_or s 0 0) r ≡ punct_goes_on left (spelling d s) (r ∷ [])
one_goes_on d left s r punct one plain = rw (punct, one_reads d s one plain) refl

-- two plain bytes, and a character that goes on with none
pub two_stay : (d : Dialect) (left : ItemKind) (s : List ℕ) (r : ℕ) → length s ≡ 2 → is_plain (get_or s 0 0) ≡ true → is_plain (get_or s 1 0) ≡ true → is_of thirds r ≡ false
    → false ≡ punct_goes_on left (spelling d s) (r ∷ [])
two_stay d left s r two plain next none =
    rw (two_read d s two plain next)
    (sym (and_right (is_punct left) (list_any (is_front (get_or s 0 0 ∷ get_or s 1 0 ∷ r ∷ [])) going_on) (three_stay (get_or s 0 0) (get_or s 1 0) r none)))

-- two items with plain first bytes of which no other row speaks
pub near_is : (d : Dialect) (left right : ItemKind) (s t : List ℕ) (words goes_on : Bool)
    → 0 < length s → 0 < length t → is_plain (get_or s 0 0) ≡ true → is_plain (get_or t 0 0) ≡ true
    → (is_identifier left && is_of (codes "'\"") (get_or t 0 0)) ≡ false → (is_number left && (is_of (codes ".'") (get_or t 0 0) || is_sign (get_or t 0 0))) ≡ false
    → ((get_or s 0 0 == 46) && is_number right) ≡ false → ((is_other_kind left || is_other_kind right) || takes_line left) ≡ false
    → words ≡ word_by_word left right (get_or t 0 0 ∷ []) → goes_on ≡ punct_goes_on left (spelling d s) (get_or t 0 0 ∷ [])
    → not (words || goes_on) ≡ may_touch left (spelling d s) right (spelling d t)
near_is d left right s t words goes_on some first plain_s plain_t quote number point apart by_word by_punct =
    let here = first_reads d s some plain_s in
    let there = first_reads d t first plain_t in
    rw (by_word, by_punct, here.1, there.1)
    (sym (two_rows left right (get_or s 0 0) (get_or t 0 0) here.0 there.0 quote number point apart (plain_parts (get_or s 0 0) plain_s).0))

-- what isn't empty has a first byte
pub nonempty : (n : ℕ) (none : Bool) → none ≡ (n == 0) → none ≡ false → 0 < n
nonempty zero none is some = absurd (false≢true (sym some ∙ is))
nonempty (suc n) none is some = omega arith
