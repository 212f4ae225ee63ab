-- What the bytes of a gap begin and end with, and that no pattern lies over the cut between them and an item.
use Rattle.std.proofs.Common.{◌≡◌, ◌==◌, ◌||◌, ◌&&◌, not, ℕ, ◌+◌, arith, length, Bool, true, false, List, [], ◌∷◌, ◌++◌, get_or, refl, sym, ◌∙◌, ap, subst, inl, inr}
use Rattle.std.specs.Prelude.{if◌then◌else◌}
use Rattle.std.proofs.lemmas.Bool.{cases_Bool, and_parts, and_left, and_right, or_cases, or_parts, or_from, or_left, or_right, eqb-true, both_ways, ne_eqb}
use Rattle.c_chars.specs.Characters.{trigraph, is_trigraph, replaced, with_lines, spliced, placed, phase_1, chars, bytes_of, begins_trigraph, begins_return, begins_line_end, has_trigraphs}
use Rattle.c_chars.specs.declared.Dialect.{Dialect}
use Rattle.c_chars.specs.declared.Dialect.TheVariants.{C11, C23}
use Rattle.c_chars.specs.declared.LogicalChar.{LogicalChar}
use Rattle.c_chars.proofs.Cuts.{ends_in, starts_in, starts_third, starts_inner, trigraph_over, phase_over, units, IsCleanCut}
use Rattle.c_chars.proofs.Ends.{last_byte, lines_last}
use Rattle.c_chars.proofs.FirstUnits.{trigraph_no_line, front_line, at_trigraph, at_plain}
use Rattle.c_grammar.specs.Grammar.{is_white, is_new_line}
use Rattle.c_grammar.specs.Items.{is_gap}
use Rattle.c_grammar.proofs.Lists.{of_table}
use Rattle.c_grammar.proofs.Unique.{is_blank}

-- Cases of a test within a definition.
by_test : (p : ℕ → Bool) (t : Bool) (x y : ℕ) → p x ≡ false → p y ≡ false → p (if t then x else y) ≡ false
by_test p true x y h k = h
by_test p false x y h k = k

-- no trigraph stands for a blank
trigraph_black : (c : ℕ) → is_blank (trigraph c) ≡ false
unfolding trigraph is_white is_new_line
trigraph_black c =
    by_test is_blank (c == 61) 35 _ refl (by_test is_blank (c == 40) 91 _ refl (by_test is_blank (c == 47) 92 _ refl (by_test is_blank (c == 41) 93 _ refl (by_test is_blank (c == 39) 94 _ refl
    (by_test is_blank (c == 60) 123 _ refl (by_test is_blank (c == 33) 124 _ refl (by_test is_blank (c == 62) 125 _ refl (by_test is_blank (c == 45) 126 _ refl refl))))))))

line_blank : (c : ℕ) → (c == 10) ≡ true → is_blank c ≡ true
unfolding is_white is_new_line
line_blank c h = let is : c ≡ 10 = eqb-true c 10 h in subst (λ z. is_blank z ≡ true) (sym is) refl

return_blank : (c : ℕ) → (c == 13) ≡ true → is_blank c ≡ true
unfolding is_white is_new_line
return_blank c h = let is : c ≡ 13 = eqb-true c 13 h in subst (λ z. is_blank z ≡ true) (sym is) refl

blank_not : (n c : ℕ) → is_blank n ≡ false → is_blank c ≡ true → (c == n) ≡ false
blank_not n c h b = ne_eqb c n (λ e. both_ways (is_blank n) h (subst (λ z. is_blank z ≡ true) e b))

query_black : is_blank 63 ≡ false
unfolding is_white is_new_line
query_black = refl

pub black_no_line : (c : ℕ) → is_blank c ≡ false → (c == 10) ≡ false
black_no_line c h = elim (cases_Bool (c == 10)) [ inr n ↦ n | inl y ↦ absurd (both_ways (is_blank c) h (line_blank c y)) ]

pub black_no_return : (c : ℕ) → is_blank c ≡ false → (c == 13) ≡ false
black_no_return c h = elim (cases_Bool (c == 13)) [ inr n ↦ n | inl y ↦ absurd (both_ways (is_blank c) h (return_blank c y)) ]

-- The last byte of a gap is a blank.

spliced_blank : (z : ℕ) (s : List LogicalChar) → is_gap (bytes_of (spliced s)) ≡ true → is_blank z ≡ true → is_blank (last_byte z s) ≡ true
spliced_blank z [] g h = h
spliced_blank z (a ∷ []) g h = (and_parts (is_blank a.byte) true g).0
spliced_blank z (a ∷ b ∷ s) g h = elim (cases_Bool ((a.byte == 92) && (b.byte == 10))) [
  | inl y ↦ spliced_blank b.byte s (rw y at g) (line_blank b.byte (and_parts (a.byte == 92) (b.byte == 10) y).1)
  | inr n ↦
      let kept : (is_blank a.byte && is_gap (bytes_of (spliced (b ∷ s)))) ≡ true = rw n at g in
      let parts = and_parts (is_blank a.byte) (is_gap (bytes_of (spliced (b ∷ s)))) kept in
      spliced_blank a.byte (b ∷ s) parts.1 parts.0
]

replaced_blank : (z y : ℕ) (s : List LogicalChar) → (is_blank z ≡ true → is_blank y ≡ true) → is_blank (last_byte z (replaced s)) ≡ true → is_blank (last_byte y s) ≡ true
replaced_blank z y [] f h = f h
replaced_blank z y (a ∷ []) f h = h
replaced_blank z y (a ∷ b ∷ []) f h = h
replaced_blank z y (a ∷ b ∷ c ∷ s) f h = elim (cases_Bool (is_trigraph a b c)) [
  | inl t ↦ replaced_blank (trigraph c.byte) c.byte s (λ k. absurd (both_ways (is_blank (trigraph c.byte)) (trigraph_black c.byte) k)) (rw t at h)
  | inr n ↦ replaced_blank a.byte a.byte (b ∷ c ∷ s) (λ k. k) (rw n at h)
]

phase_blank : (d : Dialect) (z : ℕ) (s : List LogicalChar) → is_blank (last_byte z (phase_1 d s)) ≡ true → is_blank (last_byte z s) ≡ true
phase_blank C11 z s h = replaced_blank z z s (λ k. k) h
phase_blank C23 z s h = h

blank_32 : is_blank 32 ≡ true
unfolding is_white is_new_line
blank_32 = refl

gap_last : (d : Dialect) (at : ℕ) (g : List ℕ) → is_gap (bytes_of (chars d at g)) ≡ true → is_blank (last_byte 32 (placed at g)) ≡ true
gap_last d at g h =
    phase_blank d 32 (placed at g) (subst (λ z. is_blank z ≡ true) (lines_last 32 (phase_1 d (placed at g))) (spliced_blank 32 (units d at g) h blank_32))

-- The first byte of a gap is a blank or begins a splice.

abbrev opens_gap : ℕ → Bool
opens_gap c = is_blank c || c == 92

abbrev pub first_byte : ℕ → List LogicalChar → ℕ
first_byte z [] = z
first_byte z (c ∷ s) = c.byte

spliced_opens : (z : ℕ) (s : List LogicalChar) → is_gap (bytes_of (spliced s)) ≡ true → opens_gap z ≡ true → opens_gap (first_byte z s) ≡ true
spliced_opens z [] g h = h
spliced_opens z (a ∷ []) g h = or_left (is_blank a.byte) (a.byte == 92) (and_parts (is_blank a.byte) true g).0
spliced_opens z (a ∷ b ∷ s) g h = elim (cases_Bool ((a.byte == 92) && (b.byte == 10))) [
  | inl y ↦ or_right (is_blank a.byte) (a.byte == 92) (and_parts (a.byte == 92) (b.byte == 10) y).0
  | inr n ↦
      let kept : (is_blank a.byte && is_gap (bytes_of (spliced (b ∷ s)))) ≡ true = rw n at g in
      or_left (is_blank a.byte) (a.byte == 92) (and_parts (is_blank a.byte) (is_gap (bytes_of (spliced (b ∷ s)))) kept).0
]

lines_opens : (z : ℕ) (s : List LogicalChar) → opens_gap (first_byte z (with_lines s)) ≡ true → opens_gap (first_byte z s) ≡ true
lines_opens z [] h = h
lines_opens z (a ∷ []) h = h
lines_opens z (a ∷ b ∷ s) h = elim (cases_Bool ((a.byte == 13) && (b.byte == 10))) [
  | inl y ↦ or_left (is_blank a.byte) (a.byte == 92) (return_blank a.byte (and_parts (a.byte == 13) (b.byte == 10) y).0)
  | inr n ↦ rw n at h
]

-- what can be the last of a trigraph, and the last two
abbrev pub third_byte : List ℕ → Bool
third_byte [] = false
third_byte (b ∷ s) = not (trigraph b == 0)

abbrev pub inner_byte : List ℕ → Bool
inner_byte [] = false
inner_byte (b ∷ s) = (b == 63) && third_byte s

pub third_placed : (at : ℕ) (s : List ℕ) → starts_third (placed at s) ≡ third_byte s
third_placed at [] = refl
third_placed at (b ∷ s) = refl

pub inner_placed : (at : ℕ) (s : List ℕ) → starts_inner (placed at s) ≡ inner_byte s
inner_placed at [] = refl
inner_placed at (b ∷ s) = ap (λ z. (b == 63) && z) (third_placed (at + 1) s)

opens_no_third : (b : ℕ) → opens_gap b ≡ true → not (trigraph b == 0) ≡ false
unfolding trigraph is_white is_new_line
opens_no_third b h =
    let zero_there : (trigraph b == 0) ≡ true = elim (or_cases (is_white b || is_new_line b) (b == 92) h) [
      | inl w ↦ elim (or_cases (is_white b) (is_new_line b) w) [
        | inl e ↦ of_table (λ c. trigraph c == 0) (9 ∷ 11 ∷ 12 ∷ 13 ∷ 32 ∷ []) refl b e
        | inr e ↦ let is : b ≡ 10 = eqb-true b 10 e in subst (λ z. (trigraph z == 0) ≡ true) (sym is) refl
      ]
      | inr e ↦ let is : b ≡ 92 = eqb-true b 92 e in subst (λ z. (trigraph z == 0) ≡ true) (sym is) refl
    ] in
    rw zero_there refl

opens_no_query : (b : ℕ) → opens_gap b ≡ true → (b == 63) ≡ false
opens_no_query b h = elim (or_cases (is_blank b) (b == 92) h) [
  | inl w ↦ blank_not 63 b query_black w
  | inr e ↦ let is : b ≡ 92 = eqb-true b 92 e in subst (λ z. (z == 63) ≡ false) (sym is) refl
]

-- a gap begins with nothing that goes on with a trigraph
pub record OpensNone (s : List ℕ) : Type 0 where
  pub third : third_byte s ≡ false
  pub inner : inner_byte s ≡ false

opens_none : (b : ℕ) (s : List ℕ) → opens_gap b ≡ true → OpensNone (b ∷ s)
opens_none b s h = record { third = opens_no_third b h; inner = and_left (b == 63) (third_byte s) (opens_no_query b h) }

queries_none : (b c : ℕ) (s : List ℕ) → (b == 63) ≡ true → (c == 63) ≡ true → OpensNone (b ∷ c ∷ s)
unfolding trigraph
queries_none b c s h k =
    let b_is : b ≡ 63 = eqb-true b 63 h in
    let c_is : c ≡ 63 = eqb-true c 63 k in
    subst (λ z. OpensNone (z ∷ c ∷ s)) (sym b_is) (subst (λ z. OpensNone (63 ∷ z ∷ s)) (sym c_is) (record { third = refl; inner = refl }))

phase_opens : (d : Dialect) (at b : ℕ) (s rest : List ℕ) → opens_gap (first_byte 32 (phase_1 d (placed at (b ∷ s)))) ≡ true → OpensNone (b ∷ (s ++ rest))
phase_opens C23 at b s rest h = opens_none b (s ++ rest) h
phase_opens C11 at b [] rest h = opens_none b rest h
phase_opens C11 at b (c ∷ []) rest h = opens_none b (c ∷ rest) h
phase_opens C11 at b (c ∷ e ∷ s) rest h = elim (cases_Bool ((b == 63) && ((c == 63) && not (trigraph e == 0)))) [
  | inl y ↦ let parts = and_parts (b == 63) ((c == 63) && not (trigraph e == 0)) y in queries_none b c (e ∷ (s ++ rest)) parts.0 (and_parts (c == 63) (not (trigraph e == 0)) parts.1).0
  | inr n ↦ opens_none b (c ∷ e ∷ (s ++ rest)) (rw n at h)
]

pub gap_opens : (d : Dialect) (at b : ℕ) (s rest : List ℕ) → is_gap (bytes_of (chars d at (b ∷ s))) ≡ true → OpensNone (b ∷ (s ++ rest))
gap_opens d at b s rest h = phase_opens d at b s rest (lines_opens 32 (phase_1 d (placed at (b ∷ s))) (spliced_opens 32 (units d at (b ∷ s)) h (or_left (is_blank 32) (32 == 92) blank_32)))

-- What begins with a character that isn't blank begins with such a byte.

replaced_keeps : (z : ℕ) (s : List LogicalChar) → is_blank (first_byte z s) ≡ true → is_blank (first_byte z (replaced s)) ≡ true
replaced_keeps z [] h = h
replaced_keeps z (a ∷ []) h = h
replaced_keeps z (a ∷ b ∷ []) h = h
replaced_keeps z (a ∷ b ∷ c ∷ s) h = elim (cases_Bool (is_trigraph a b c)) [
  | inl y ↦ absurd (both_ways (a.byte == 63) (blank_not 63 a.byte query_black h) (and_parts (a.byte == 63) ((b.byte == 63) && not (trigraph c.byte == 0)) y).0)
  | inr n ↦ rw n h
]

lines_keeps : (z : ℕ) (s : List LogicalChar) → is_blank (first_byte z s) ≡ true → is_blank (first_byte z (with_lines s)) ≡ true
unfolding is_white is_new_line
lines_keeps z [] h = h
lines_keeps z (a ∷ []) h = h
lines_keeps z (a ∷ b ∷ s) h = elim (cases_Bool ((a.byte == 13) && (b.byte == 10))) [ inl y ↦ rw y refl | inr n ↦ rw n h ]

phase_keeps : (d : Dialect) (z : ℕ) (s : List LogicalChar) → is_blank (first_byte z s) ≡ true → is_blank (first_byte z (phase_1 d s)) ≡ true
phase_keeps C11 z s h = replaced_keeps z s h
phase_keeps C23 z s h = h

pub first_black : (d : Dialect) (at b : ℕ) (s : List ℕ) → is_blank (first_byte 32 (units d at (b ∷ s))) ≡ false → is_blank b ≡ false
first_black d at b s h = elim (cases_Bool (is_blank b)) [
  | inr n ↦ n
  | inl y ↦ absurd (both_ways (is_blank (first_byte 32 (units d at (b ∷ s)))) h (lines_keeps 32 (phase_1 d (placed at (b ∷ s))) (phase_keeps d 32 (placed at (b ∷ s)) y)))
]

-- Cuts

-- no new-line begins the characters where no line end begins the bytes
pub units_no_line : (d : Dialect) (at : ℕ) (s : List ℕ) → begins_line_end s ≡ false → starts_in (λ c. c.byte == 10) (units d at s) ≡ false
units_no_line C11 at [] h = refl
units_no_line C23 at [] h = refl
units_no_line d at (b ∷ s) h = elim (cases_Bool (has_trigraphs d && begins_trigraph (b ∷ s))) [
  | inl t ↦ ap (starts_in (λ c. c.byte == 10)) (at_trigraph d (b ∷ s) (trigraph (get_or (b ∷ s) 2 0)) t refl at) ∙ trigraph_no_line (get_or (b ∷ s) 2 0)
  | inr t ↦
      let parts = or_parts (b == 10) (begins_return (b ∷ s)) h in
      ap (starts_in (λ c. c.byte == 10)) (at_plain d (b ∷ s) (omega arith) t parts.1 at) ∙ parts.0
]

over_last : (z : ℕ) (a b : List LogicalChar) → (last_byte z a == 63) ≡ false → trigraph_over a b ≡ false
over_last z [] b h = refl
over_last z (x ∷ []) b h = and_left (x.byte == 63) (starts_inner b) h
over_last z (x ∷ y ∷ []) b h = or_from _ _ (and_right (x.byte == 63) ((y.byte == 63) && starts_third b) (and_left (y.byte == 63) (starts_third b) h)) (and_left (y.byte == 63) (starts_inner b) h)
over_last z (x ∷ y ∷ w ∷ a) b h = over_last z (y ∷ w ∷ a) b h

phase_over_last : (d : Dialect) (z : ℕ) (a b : List LogicalChar) → (last_byte z a == 63) ≡ false → phase_over d a b ≡ false
phase_over_last C11 z a b h = over_last z a b h
phase_over_last C23 z a b h = refl

pub black_no_end : (b : ℕ) (s : List ℕ) → is_blank b ≡ false → begins_line_end (b ∷ s) ≡ false
black_no_end b [] h = or_from (b == 10) false (black_no_line b h) refl
black_no_end b (c ∷ s) h = or_from (b == 10) ((b == 13) && (c == 10)) (black_no_line b h) (and_left (b == 13) (c == 10) (black_no_return b h))

-- between a gap and an item
pub gap_cut : (d : Dialect) (at : ℕ) (g : List ℕ) (b : ℕ) (s : List ℕ) → is_gap (bytes_of (chars d at g)) ≡ true → is_blank b ≡ false → IsCleanCut d at g (b ∷ s)
gap_cut d at g b s w h = record {
  trigraph = phase_over_last d 32 (placed at g) (placed (at + length g) (b ∷ s)) (blank_not 63 (last_byte 32 (placed at g)) query_black (gap_last d at g w));
  line = and_right (ends_in (λ c. c.byte == 13) (phase_1 d (placed at g))) (starts_in (λ c. c.byte == 10) (phase_1 d (placed (at + length g) (b ∷ s)))) (front_line d (at + length g) (b ∷ s) ∙ black_no_line b h);
  splice = and_right (ends_in (λ c. c.byte == 92) (units d at g)) (starts_in (λ c. c.byte == 10) (units d (at + length g) (b ∷ s))) (units_no_line d (at + length g) (b ∷ s) (black_no_end b s h));
}
