-- Words and punctuators of plain bytes, cut off where a plain byte behind them ends them.
use Rattle.std.proofs.Common.{◌≡◌, ◌==◌, ◌&&◌, ◌||◌, ◌∙◌, Bool, true, false, ℕ, List, [], ◌∷◌, drop, nat_eq, refl, sym, ap, subst, inl, inr, arith}
use Rattle.std.specs.Prelude.{⊤, Some, slice_get, codes}
use Rattle.std.specs.List.{prefix_len, starts_with}
use Rattle.std.proofs.lemmas.Bool.{and_parts, and_right, cases_Bool, eq-eqb, or_cases, or_left, or_parts, eqb-true, not-true, both_ways}
use Rattle.std.proofs.lemmas.Bool.Decides.{nat_tests}
use Rattle.unicode_ident.specs.Ident.{is_xid_continue}
use Rattle.c_chars.specs.Characters.{bytes_of, is_word_byte}
use Rattle.c_chars.specs.Coming.{Coming, ArePassed, behind, passed}
use Rattle.c_chars.specs.declared.Dialect.{Dialect}
use Rattle.c_chars.specs.declared.Dialect.TheVariants.{C11, C23}
use Rattle.c_chars.specs.declared.LogicalChar.{LogicalChar}
use Rattle.c_grammar.specs.Grammar.{is_letter, is_digit, is_word_unit, is_of}
use Rattle.c_grammar.specs.Touch.{starts}
use Rattle.item_kinds.specs.declared.ItemKind.TheVariants.{Identifier, Punct}
use Rattle.c_grammar.specs.Bytes.{begins_punctuator, is_beyond, is_quote_mark, IsFirst}
use Rattle.c_lexer.specs.Class.{ends_mark, ends_word, is_lone_mark}
use Rattle.c_lexer.specs.Cut.{IsCutOff}
use Rattle.c_lexer.specs.Reading.{IsBegun}
use Rattle.c_lexer.specs.Run.{begins_long, begins_number, first_front, goes_on_long, is_alone_mark, is_pair_mark, is_shift_mark, long}
use Rattle.c_lexer.proofs.CutOffs.{behind_again}
use Rattle.c_lexer.proofs.FirstBytes.{stands_alone, starts_so, two_apart}
use Rattle.c_lexer.proofs.MarksOff.{mark_off}
use Rattle.c_grammar.proofs.WordBytes.{word_byte}
use Rattle.c_chars.proofs.Steps.{behind_next}
use Rattle.c_lexer.proofs.Passing.{first_is, passed_run, prefix_done, prefix_next}
use Rattle.c_lexer.proofs.Puncts.{may_be_long, not_long}
use Rattle.c_lexer.proofs.UnitsOff.{rare_none, run_at, word_none, word_run, word_stopped}
use Rattle.c_lexer.proofs.WordsOff.{letter_first, word_off}

-- Words.

-- what passed is the whole word, since it goes on with nothing
passed_all : (p q : ℕ → Bool) (x y : Coming) → ((b : ℕ) → q b ≡ true → p b ≡ true) → ArePassed q x y → starts p (bytes_of y.chars) ≡ false → y ≡ behind x (prefix_len p (bytes_of x.chars))
passed_all p q x y more passed stops = sym (ap (λ n. behind y n) (prefix_done p (bytes_of y.chars) stops)) ∙ passed_run p q x y more passed

pub word_ended : (x z y : Coming) (f c : LogicalChar) → IsBegun x f z → is_letter f.byte ≡ true → ArePassed is_word_byte z y → slice_get y.chars 0 ≡ Some c → ends_word c.byte ≡ true → IsCutOff x y Identifier
word_ended x z y f c begun letter passed next ends =
    let parts = or_parts (is_letter c.byte || is_digit c.byte) (is_beyond c.byte || is_quote_mark c.byte) (not-true _ ends) in
    let far = or_parts (is_beyond c.byte) (is_quote_mark c.byte) parts.1 in
    let word : starts (λ b. is_letter b || is_digit b) (bytes_of y.chars) ≡ false = first_is (λ b. is_letter b || is_digit b) y.chars c next ∙ parts.0 in
    let beyond : starts is_beyond (bytes_of y.chars) ≡ false = first_is is_beyond y.chars c next ∙ far.0 in
    let quote : starts is_quote_mark (bytes_of y.chars) ≡ false = first_is is_quote_mark y.chars c next ∙ far.1 in
    let rest = passed_all (λ b. is_letter b || is_digit b) is_word_byte z y word_byte passed word in
    let whole = rest ∙ sym (prefix_next (λ b. is_letter b || is_digit b) x z f begun.chars_are begun.at_is begun.dialect_is (or_left (is_letter f.byte) (is_digit f.byte) letter)) in
    let rare = rare_none is_xid_continue (bytes_of y.chars) beyond in
    let run = word_run x y y whole (run_at is_word_unit y (word_none (bytes_of y.chars) (word_stopped x y whole) rare)) in
    word_off x y (letter_first (bytes_of x.chars) (ap (λ s. starts is_letter (bytes_of s)) begun.chars_are ∙ letter)) run (λ q. absurd (both_ways (starts is_quote_mark (bytes_of y.chars)) quote q))

-- Punctuators of one byte.

pub one_behind : (x y : Coming) (c : LogicalChar) → IsBegun x c y → y ≡ behind x 1
one_behind x y c begun = sym (behind_next x y c 0 begun.chars_are begun.at_is begun.dialect_is)

pub begun_first : (x y : Coming) (c : LogicalChar) → IsBegun x c y → IsFirst c.byte (bytes_of x.chars)
begun_first x y c begun = record { rest = bytes_of y.chars; whole = ap bytes_of begun.chars_are }

lone_begins : (c : ℕ) → is_lone_mark c ≡ true → begins_punctuator c ≡ true
unfolding is_lone_mark begins_punctuator
lone_begins c h = grind (arith, nat_tests)

lone_short : (c : ℕ) → is_lone_mark c ≡ true → begins_long c ≡ false
unfolding is_lone_mark begins_long
lone_short c h = grind (arith, nat_tests)

lone_other : (c : ℕ) → is_lone_mark c ≡ true → (is_digit c ≡ false) × ((c == 46) ≡ false) × ((c == 47) ≡ false)
unfolding is_lone_mark is_digit
lone_other c h = (grind (arith, nat_tests), grind (arith, nat_tests), grind (arith, nat_tests))

no_number : (c : ℕ) (s t : List ℕ) → s ≡ c ∷ t → is_digit c ≡ false → (c == 46 && starts is_digit t) ≡ false → begins_number s ≡ false
no_number c s t whole digit point = ap begins_number whole ∙ rw (digit, point) refl

pub no_pair : (a b c : ℕ) (s t : List ℕ) → s ≡ c ∷ t → starts (λ e. b == e) t ≡ false → starts_with nat_eq s (a ∷ b ∷ []) ≡ false
no_pair a b c s t whole second = ap (λ z. starts_with nat_eq z (a ∷ b ∷ [])) whole ∙ at t second
  where
    at : (t : List ℕ) → starts (λ e. b == e) t ≡ false → starts_with nat_eq (c ∷ t) (a ∷ b ∷ []) ≡ false
    at [] h = and_right (a == c) false refl
    at (e ∷ t) h = and_right (a == c) _ (rw h refl)

pub lone_off : (x y : Coming) (d : Dialect) (c : LogicalChar) → d ≡ x.dialect → IsBegun x c y → is_lone_mark c.byte ≡ true → IsCutOff x y Punct
lone_off x y d c same begun lone =
    let f = c.byte in
    let first = begun_first x y c begun in
    let other = lone_other f lone in
    let point : (f == 46 && starts is_digit first.rest) ≡ false = let no = other.1 in rw no refl in
    let apart : f ≡ 47 → ⊥ = λ e. both_ways (f == 47) other.2 (eq-eqb f 47 e) in
    mark_off x y d 1 same (starts_so begins_punctuator f (bytes_of x.chars) true first (lone_begins f lone)) (no_number f (bytes_of x.chars) first.rest first.whole other.0 point)
    (sym (two_apart 47 42 f (bytes_of x.chars) first apart)) (sym (two_apart 47 47 f (bytes_of x.chars) first apart))
    (sym (not_long d (bytes_of x.chars) (stands_alone f (bytes_of x.chars) first (lone_short f lone)))) (one_behind x y c begun)

-- A punctuator's first byte, and what comes behind it.

mark_no_digit : (c : ℕ) → begins_punctuator c ≡ true → is_digit c ≡ false
unfolding begins_punctuator is_digit
mark_no_digit c h = grind (arith, nat_tests)

short_there : (f : ℕ) (s t : List ℕ) → s ≡ f ∷ t → starts goes_on_long t ≡ false → may_be_long s ≡ false
short_there f s t whole stops = ap may_be_long whole ∙ at t stops
  where
    at : (t : List ℕ) → starts goes_on_long t ≡ false → may_be_long (f ∷ t) ≡ false
    at [] h = refl
    at (e ∷ t) h = and_right (begins_long f) (goes_on_long e) h

-- a punctuator begins that neither a digit nor a comment's second byte comes behind
begun_off : (x left : Coming) (d : Dialect) (f n : ℕ) (t : List ℕ) → d ≡ x.dialect → bytes_of x.chars ≡ f ∷ t → begins_punctuator f ≡ true → starts is_digit t ≡ false → starts (λ e. 42 == e) t ≡ false → starts (λ e. 47 == e) t ≡ false
    → n ≡ first_front (long d) (bytes_of x.chars) → left ≡ behind x n → IsCutOff x left Punct
begun_off x left d f n t same whole mark digit star slash len left_is =
    mark_off x left d n same (ap (starts begins_punctuator) whole ∙ mark) (no_number f (bytes_of x.chars) t whole (mark_no_digit f mark) (and_right (f == 46) (starts is_digit t) digit))
    (no_pair 47 42 f (bytes_of x.chars) t whole star) (no_pair 47 47 f (bytes_of x.chars) t whole slash) len left_is

apart : (a b : ℕ) → (b == a) ≡ false → (a == b) ≡ false
apart a b h = grind (arith, nat_tests)

pub ended_off : (x y : Coming) (d : Dialect) (c e : LogicalChar) → d ≡ x.dialect → IsBegun x c y → slice_get y.chars 0 ≡ Some e → begins_punctuator c.byte ≡ true → ends_mark e.byte ≡ true → IsCutOff x y Punct
ended_off x y d c e same begun next mark ends =
    let whole : bytes_of x.chars ≡ c.byte ∷ bytes_of y.chars = ap bytes_of begun.chars_are in
    let parts = or_parts (goes_on_long e.byte) (is_digit e.byte || (e.byte == 47 || e.byte == 42)) (not-true _ ends) in
    let rest = or_parts (is_digit e.byte) (e.byte == 47 || e.byte == 42) parts.1 in
    let comment = or_parts (e.byte == 47) (e.byte == 42) rest.1 in
    let short = short_there c.byte (bytes_of x.chars) (bytes_of y.chars) whole (first_is goes_on_long y.chars e next ∙ parts.0) in
    begun_off x y d c.byte 1 (bytes_of y.chars) same whole mark (first_is is_digit y.chars e next ∙ rest.0) (first_is (λ b. 42 == b) y.chars e next ∙ apart 42 e.byte comment.1)
    (first_is (λ b. 47 == b) y.chars e next ∙ apart 47 e.byte comment.0) (sym (not_long d (bytes_of x.chars) short)) (one_behind x y c begun)

-- Punctuators of two bytes.

-- it holds of each
abbrev OfEach : (ℕ → Type 0) → List ℕ → Type 0
OfEach Holds [] = ⊤
OfEach Holds (x ∷ xs) = Holds x × OfEach Holds xs

of_one : (Holds : ℕ → Type 0) (xs : List ℕ) (c : ℕ) → is_of xs c ≡ true → OfEach Holds xs → Holds c
of_one Holds [] c h all = cc
of_one Holds (x ∷ xs) c h all = elim (or_cases (x == c) (is_of xs c) h) [ inl y ↦ subst Holds (eqb-true x c y) all.0 | inr n ↦ of_one Holds xs c n all.1 ]

equal_len : (d : Dialect) (s : List ℕ) → OfEach (λ a. first_front (long d) (a ∷ 61 ∷ s) ≡ 2) (codes "=!+<>-|&*/%^")
equal_len C11 s = (refl, (refl, (refl, (refl, (refl, (refl, (refl, (refl, (refl, (refl, (refl, (refl, tt))))))))))))
equal_len C23 s = (refl, (refl, (refl, (refl, (refl, (refl, (refl, (refl, (refl, (refl, (refl, (refl, tt))))))))))))

arrow_len : (d : Dialect) (s : List ℕ) → first_front (long d) (45 ∷ 62 ∷ s) ≡ 2
arrow_len C11 s = refl
arrow_len C23 s = refl

twice_len : (d : Dialect) (s : List ℕ) → OfEach (λ b. first_front (long d) (b ∷ b ∷ s) ≡ 2) (codes "&+|-#")
twice_len C11 s = (refl, (refl, (refl, (refl, (refl, tt)))))
twice_len C23 s = (refl, (refl, (refl, (refl, (refl, tt)))))

pair_len : (d : Dialect) (a b : ℕ) (s : List ℕ) → is_pair_mark a b ≡ true → first_front (long d) (a ∷ b ∷ s) ≡ 2
unfolding is_pair_mark
pair_len d a b s h = elim (cases_Bool (b == 61)) [
  | inl y ↦
      let first : is_of (codes "=!+<>-|&*/%^") a ≡ true = sym (rw y refl) ∙ h in
      subst (λ z. first_front (long d) (a ∷ z ∷ s) ≡ 2) (sym (eqb-true b 61 y)) (of_one (λ z. first_front (long d) (z ∷ 61 ∷ s) ≡ 2) (codes "=!+<>-|&*/%^") a first (equal_len d s))
  | inr n ↦ elim (cases_Bool (b == 62)) [
    | inl y ↦
        let first : (a == 45) ≡ true = sym (rw (n, y) refl) ∙ h in
        let both = arrow_len d s in
        rw (eqb-true a 45 first, eqb-true b 62 y) both
    | inr m ↦
        let rest : (is_of (codes "&+|-#") b && a == b) ≡ true = sym (rw (n, m) refl) ∙ h in
        let parts = and_parts (is_of (codes "&+|-#") b) (a == b) rest in
        subst (λ z. first_front (long d) (z ∷ b ∷ s) ≡ 2) (sym (eqb-true a b parts.1)) (of_one (λ z. first_front (long d) (z ∷ z ∷ s) ≡ 2) (codes "&+|-#") b parts.0 (twice_len d s))
  ]
]

pair_second : (a b : ℕ) → is_pair_mark a b ≡ true → (is_digit b ≡ false) × ((42 == b) ≡ false) × ((47 == b) ≡ false)
unfolding is_pair_mark is_digit
pair_second a b h = (grind (arith, nat_tests), grind (arith, nat_tests), grind (arith, nat_tests))

pub next_bytes : (s : List LogicalChar) (e : LogicalChar) → slice_get s 0 ≡ Some e → bytes_of s ≡ e.byte ∷ drop 1 (bytes_of s)
next_bytes [] e h = cc
next_bytes (f ∷ s) e h = let same : f ≡ e = cc in ap (λ z. z.byte ∷ bytes_of s) same

pub pair_off : (x y left : Coming) (d : Dialect) (c e : LogicalChar) → d ≡ x.dialect → IsBegun x c y → slice_get y.chars 0 ≡ Some e → begins_punctuator c.byte ≡ true → is_pair_mark c.byte e.byte ≡ true
    → left ≡ behind y 1 → IsCutOff x left Punct
pair_off x y left d c e same begun next mark pair left_is =
    let whole : bytes_of x.chars ≡ c.byte ∷ bytes_of y.chars = ap bytes_of begun.chars_are in
    let second = pair_second c.byte e.byte pair in
    let rest : bytes_of y.chars ≡ e.byte ∷ drop 1 (bytes_of y.chars) = next_bytes y.chars e next in
    let len : first_front (long d) (bytes_of x.chars) ≡ 2 = ap (first_front (long d)) (whole ∙ ap (λ z. c.byte ∷ z) rest) ∙ pair_len d c.byte e.byte (drop 1 (bytes_of y.chars)) pair in
    begun_off x left d c.byte 2 (bytes_of y.chars) same whole mark (first_is is_digit y.chars e next ∙ second.0) (first_is (λ b. 42 == b) y.chars e next ∙ second.1)
    (first_is (λ b. 47 == b) y.chars e next ∙ second.2) (sym len) (left_is ∙ (ap (λ z. behind z 1) (one_behind x y c begun) ∙ behind_again x 1 1))

-- Shifts.

shift_len : (d : Dialect) (a : ℕ) (s : List ℕ) → is_of (codes "<>") a ≡ true → starts (λ e. 61 == e) s ≡ false → first_front (long d) (a ∷ a ∷ s) ≡ 2
shift_len d a s shift stops = of_one (λ z. first_front (long d) (z ∷ z ∷ s) ≡ 2) (codes "<>") a shift (both d s stops)
  where
    both : (d : Dialect) (s : List ℕ) → starts (λ e. 61 == e) s ≡ false → OfEach (λ z. first_front (long d) (z ∷ z ∷ s) ≡ 2) (codes "<>")
    both C11 [] h = (refl, (refl, tt))
    both C23 [] h = (refl, (refl, tt))
    both C11 (e ∷ s) h = (rw h refl, (rw h refl, tt))
    both C23 (e ∷ s) h = (rw h refl, (rw h refl, tt))

shift_second : (a b : ℕ) → is_shift_mark a b ≡ true → (is_digit b ≡ false) × ((42 == b) ≡ false) × ((47 == b) ≡ false)
unfolding is_shift_mark is_digit
shift_second a b h = (grind (arith, nat_tests), grind (arith, nat_tests), grind (arith, nat_tests))

shift_parts : (a b : ℕ) → is_shift_mark a b ≡ true → (is_of (codes "<>") a ≡ true) × (a ≡ b)
unfolding is_shift_mark
shift_parts a b h = let parts = and_parts (is_of (codes "<>") a) (a == b) h in (parts.0, eqb-true a b parts.1)

left_bytes : (d : Dialect) (at : ℕ) (s : List LogicalChar) (e : LogicalChar) → slice_get s 0 ≡ Some e → bytes_of s ≡ e.byte ∷ bytes_of ((passed d at s 1).chars)
left_bytes d at [] e h = cc
left_bytes d at (f ∷ s) e h = let same : f ≡ e = cc in ap (λ (z : LogicalChar). z.byte ∷ bytes_of s) same

pub shift_off : (x y left : Coming) (d : Dialect) (c e t : LogicalChar) → d ≡ x.dialect → IsBegun x c y → slice_get y.chars 0 ≡ Some e → begins_punctuator c.byte ≡ true → is_shift_mark c.byte e.byte ≡ true
    → slice_get left.chars 0 ≡ Some t → (t.byte == 61) ≡ false → left ≡ behind y 1 → IsCutOff x left Punct
shift_off x y left d c e t same begun next mark shift third ends left_is =
    let whole : bytes_of x.chars ≡ c.byte ∷ bytes_of y.chars = ap bytes_of begun.chars_are in
    let second = shift_second c.byte e.byte shift in
    let parts = shift_parts c.byte e.byte shift in
    let rest : bytes_of y.chars ≡ c.byte ∷ bytes_of left.chars = left_bytes y.dialect y.at y.chars e next ∙ (ap (λ z. e.byte ∷ bytes_of z.chars) (sym left_is) ∙ ap (λ b. b ∷ bytes_of left.chars) (sym parts.1)) in
    let stops : starts (λ b. 61 == b) (bytes_of left.chars) ≡ false = first_is (λ b. 61 == b) left.chars t third ∙ apart 61 t.byte ends in
    let len : first_front (long d) (bytes_of x.chars) ≡ 2 = ap (first_front (long d)) (whole ∙ ap (λ z. c.byte ∷ z) rest) ∙ shift_len d c.byte (bytes_of left.chars) parts.0 stops in
    begun_off x left d c.byte 2 (bytes_of y.chars) same whole mark (first_is is_digit y.chars e next ∙ second.0) (first_is (λ b. 42 == b) y.chars e next ∙ second.1)
    (first_is (λ b. 47 == b) y.chars e next ∙ second.2) (sym len) (left_is ∙ (ap (λ z. behind z 1) (one_behind x y c begun) ∙ behind_again x 1 1))

-- Punctuators of one byte, whatever begins behind them.

alone_parts : (a b : ℕ) → is_alone_mark a b ≡ true → (goes_on_long b ≡ false) × ((a == 46) ≡ false) × ((a == 47) ≡ false)
unfolding is_alone_mark
alone_parts a b h =
    let parts = or_parts (goes_on_long b) (is_of (codes "./") a) (not-true _ h) in
    let other : is_of (codes "./") a ≡ false = parts.1 in
    (parts.0, grind (arith, nat_tests), grind (arith, nat_tests))

pub alone_off : (x y : Coming) (d : Dialect) (c e : LogicalChar) → d ≡ x.dialect → IsBegun x c y → slice_get y.chars 0 ≡ Some e → begins_punctuator c.byte ≡ true → is_alone_mark c.byte e.byte ≡ true → IsCutOff x y Punct
alone_off x y d c e same begun next mark alone =
    let first = begun_first x y c begun in
    let parts = alone_parts c.byte e.byte alone in
    let point : (c.byte == 46 && starts is_digit first.rest) ≡ false = let no = parts.1 in rw no refl in
    let other : c.byte ≡ 47 → ⊥ = λ z. both_ways (c.byte == 47) parts.2 (eq-eqb c.byte 47 z) in
    let short = short_there c.byte (bytes_of x.chars) (bytes_of y.chars) (ap bytes_of begun.chars_are) (first_is goes_on_long y.chars e next ∙ parts.0) in
    mark_off x y d 1 same (starts_so begins_punctuator c.byte (bytes_of x.chars) true first mark) (no_number c.byte (bytes_of x.chars) first.rest first.whole (mark_no_digit c.byte mark) point)
    (sym (two_apart 47 42 c.byte (bytes_of x.chars) first other)) (sym (two_apart 47 47 c.byte (bytes_of x.chars) first other)) (sym (not_long d (bytes_of x.chars) short)) (one_behind x y c begun)
