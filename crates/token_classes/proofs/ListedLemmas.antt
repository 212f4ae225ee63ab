-- Words and marks found in tables.
use Rattle.std.proofs.Common.{◌≡◌, ◌∙◌, ◌==◌, ◌&&◌, ℕ, zero, suc, ◌+◌, ◌-◌, ◌<◌, ◌≤◌, nat_le, Bool, true, false, cond, List, [], ◌∷◌, length, get_or, map, refl, sym, ap, arith, eq-eqb, bytes_eq}
use Rattle.std.specs.List.{range_with_len}
use Rattle.std.proofs.lemmas.Bool.{and_parts, eqb-true, false_from_ne_true, false≢true}
use Rattle.std.proofs.lemmas.Bool.Decides.{nat_tests}
use Rattle.std.proofs.lemmas.List.{get_or-map}
use Rattle.std.proofs.lemmas.List.FromFn.{get_or-range_with_len, length-range_with_len}
use Rattle.std.proofs.lemmas.Slice.Eq.{bytes_eq-Decides}
use Rattle.token_classes.specs.declared.class.TokenClass.{TokenClass}
use Rattle.token_classes.specs.declared.class.TokenClass.TheVariants.{Other}
use Rattle.token_classes.specs.Inside.{key_of, no_row}
use Rattle.token_classes.specs.Words.{class_in, words}

-- Places in tables.

-- each of these numbers is at most this one
abbrev pub most_of : ℕ → List ℕ → Bool
most_of most [] = true
most_of most (x ∷ xs) = nat_le x most && most_of most xs

le_of : (a b : ℕ) → nat_le a b ≡ true → a ≤ b
le_of a b h = grind (arith, nat_tests)

pub each_below : (most place : ℕ) (xs : List ℕ) → most_of most xs ≡ true → get_or xs place 0 ≤ most
each_below most place [] h = omega arith
each_below most zero (x ∷ xs) h = le_of x most (and_parts (nat_le x most) (most_of most xs) h).0
each_below most (suc place) (x ∷ xs) h = each_below most place xs (and_parts (nat_le x most) (most_of most xs) h).1

-- Words.

-- the table has the number of each of these rows, from this one on, at the key of its word
abbrev pub are_keyed : List ℕ → ℕ → List (List ℕ × TokenClass) → Bool
are_keyed keys n [] = true
are_keyed keys n (row ∷ rows) = (get_or keys (key_of row.0) 0 == n) && are_keyed keys (suc n) rows

-- a text with another number is not the word
differs : (keys : List ℕ) (n : ℕ) (s : List ℕ) (row : List ℕ × TokenClass) → (get_or keys (key_of row.0) 0 == n) ≡ true → (get_or keys (key_of s) 0 ≡ n → ⊥) → bytes_eq s row.0 ≡ false
differs keys n s row keyed apart =
    false_from_ne_true _ (λ e. apart (ap (λ w. get_or keys (key_of w) 0) ((bytes_eq-Decides s row.0).0 e) ∙ eqb-true (get_or keys (key_of row.0) 0) n keyed))

none_keyed : (keys : List ℕ) (n : ℕ) (rows : List (List ℕ × TokenClass)) (s : List ℕ) (named : TokenClass) → are_keyed keys n rows ≡ true → get_or keys (key_of s) 0 < n → class_in rows s named ≡ named
none_keyed keys n [] s named h below = refl
none_keyed keys n (row ∷ rows) s named h below =
    let parts = and_parts (get_or keys (key_of row.0) 0 == n) (are_keyed keys (suc n) rows) h in
    rw (differs keys n s row parts.0 (λ e. absurd (omega (arith, e, below)))) (none_keyed keys (suc n) rows s named parts.1 (omega (arith, below)))

alone : (s : List ℕ) (named : TokenClass) → 0 < length s → class_in (no_row ∷ []) s named ≡ named
alone [] named some = absurd (omega (arith, some))
alone (x ∷ s) named some = refl

later_than : (a b : ℕ) → b ≤ a → (a ≡ b → ⊥) → suc b ≤ a
later_than a b h ne = grind arith

keyed_step : (keys : List ℕ) (n : ℕ) (row : List ℕ × TokenClass) (rows : List (List ℕ × TokenClass)) (s : List ℕ) (named : TokenClass) (there : ℕ) → there ≡ get_or keys (key_of s) 0
    → (get_or keys (key_of row.0) 0 == n) ≡ true → are_keyed keys (suc n) rows ≡ true → n ≤ there
    → (suc n ≤ there → class_in (get_or rows (there - suc n) no_row ∷ []) s named ≡ class_in rows s named)
    → (t : Bool) → (there == n) ≡ t → class_in (get_or (row ∷ rows) (there - n) no_row ∷ []) s named ≡ class_in (row ∷ rows) s named
keyed_step keys n row rows s named there told first rest from later true e =
    let same : there ≡ n = eqb-true there n e in
    let start : there - n ≡ 0 = omega (arith, same) in
    rw start (ap (λ (class : TokenClass). cond (bytes_eq s row.0) row.1 class) (sym (none_keyed keys (suc n) rows s named rest (omega (arith, same, told)))))
keyed_step keys n row rows s named there told first rest from later false e =
    let apart : there ≡ n → ⊥ = λ same. false≢true (sym e ∙ eq-eqb there n same) in
    let behind : suc n ≤ there = later_than there n from apart in
    let next : there - n ≡ suc (there - suc n) = omega (arith, behind) in
    rw (next, differs keys n s row first (λ same. apart (told ∙ same))) (later behind)

one_keyed : (keys : List ℕ) (n : ℕ) (rows : List (List ℕ × TokenClass)) (s : List ℕ) (named : TokenClass) → are_keyed keys n rows ≡ true → n ≤ get_or keys (key_of s) 0 → 0 < length s
    → class_in (get_or rows (get_or keys (key_of s) 0 - n) no_row ∷ []) s named ≡ class_in rows s named
one_keyed keys n [] s named h from some = alone s named some
one_keyed keys n (row ∷ rows) s named h from some =
    let parts = and_parts (get_or keys (key_of row.0) 0 == n) (are_keyed keys (suc n) rows) h in
    keyed_step keys n row rows s named (get_or keys (key_of s) 0) refl parts.0 parts.1 from (λ behind. one_keyed keys (suc n) rows s named parts.1 behind some) (get_or keys (key_of s) 0 == n) refl

-- all rows of the table: behind one for no word those of the words of the language
abbrev pub all_rows : List (List ℕ × TokenClass)
all_rows = no_row ∷ words

-- the only row that a text can be of tells its class among the words of the language
pub candidate_told : (keys : List ℕ) (s : List ℕ) (named : TokenClass) → are_keyed keys 0 all_rows ≡ true → 0 < length s
    → class_in (get_or all_rows (get_or keys (key_of s) 0) no_row ∷ []) s named ≡ class_in words s named
candidate_told keys s named keyed some =
    let start : get_or keys (key_of s) 0 - 0 ≡ get_or keys (key_of s) 0 = omega arith in
    ap (λ (place : ℕ). class_in (get_or all_rows place no_row ∷ []) s named) (sym start)
    ∙ (one_keyed keys 0 all_rows s named keyed (omega arith) some ∙ behind s some)
  where
    behind : (s : List ℕ) → 0 < length s → class_in all_rows s named ≡ class_in words s named
    behind [] some = absurd (omega (arith, some))
    behind (x ∷ s) some = refl

-- Marks.

-- what is told of a byte where its place stands in a table of places
pub place_told : (p : ℕ → TokenClass) (places : List ℕ) (classes : List TokenClass) (b : ℕ) → b < 256 → length places ≡ 256
    → map (λ place. get_or classes place Other) places ≡ map p (range_with_len 0 256) → get_or classes (get_or places b 0) Other ≡ p b
place_told p places classes b h whole same =
    let len = length-range_with_len 0 256 in
    let first : 0 + b ≡ b = omega arith in
    sym (get_or-map (λ place. get_or classes place Other) places b 0 Other (omega (arith, whole, h)))
    ∙ (ap (λ all. get_or all b Other) same
    ∙ (get_or-map p (range_with_len 0 256) b 0 Other (omega (arith, len, h)) ∙ (ap p (get_or-range_with_len 0 256 b 0 h) ∙ ap p first)))
