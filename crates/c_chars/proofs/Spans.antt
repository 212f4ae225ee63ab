-- The spans of logical characters ascend: each begins at the end of the one before it or behind it, and lies in the text.
use Rattle.std.proofs.Common.{◌≡◌, ◌==◌, ◌&&◌, ℕ, ◌+◌, ◌<◌, ◌≤◌, Bool, true, false, List, [], ◌∷◌, ◌++◌, length, arith, refl, if◌then◌else◌}
use Rattle.c_chars.specs.Characters.{placed, replaced, with_lines, spliced, phase_1, chars, is_trigraph, trigraph}
use Rattle.c_chars.specs.Coming.{AreBetween}
use Rattle.c_chars.specs.declared.Dialect.{Dialect}
use Rattle.c_chars.specs.declared.Dialect.TheVariants.{C11, C23}
use Rattle.c_chars.specs.declared.LogicalChar.{LogicalChar}

-- these characters have spans that ascend from this offset on and end at that one at most
abbrev pub Ascend : ℕ → ℕ → List LogicalChar → Type 0
Ascend at stop [] = at ≤ stop
Ascend at stop (c ∷ s) = (at ≤ c.from) × (c.from < c.to) × Ascend c.to stop s

pub later_ascend : (at later stop : ℕ) (s : List LogicalChar) → at ≤ later → Ascend later stop s → Ascend at stop s
later_ascend at later stop [] h up = omega arith
later_ascend at later stop (c ∷ s) h up = (omega (arith, up.0), up.1, up.2)

pub placed_ascend : (at stop : ℕ) (s : List ℕ) → at + length s ≡ stop → Ascend at stop (placed at s)
placed_ascend at stop [] h = omega arith
placed_ascend at stop (b ∷ s) h = (omega arith, omega arith, placed_ascend (at + 1) stop s (omega arith))

-- Cases of a test within a definition.
by_test : {A : Type 0} (P : A → Type 0) (t : Bool) (x y : A) → P x → P y → P (if t then x else y)
by_test P true x y p q = p
by_test P false x y p q = q

pub replaced_ascend : (at stop : ℕ) (s : List LogicalChar) → Ascend at stop s → Ascend at stop (replaced s)
replaced_ascend at stop [] up = up
replaced_ascend at stop (a ∷ []) up = up
replaced_ascend at stop (a ∷ b ∷ []) up = up
replaced_ascend at stop (a ∷ b ∷ c ∷ s) up =
    by_test (Ascend at stop) (is_trigraph a b c) (record { byte = trigraph c.byte; from = a.from; to = c.to } ∷ replaced s) (a ∷ replaced (b ∷ c ∷ s))
    (up.0, omega (arith, up.1, up.2.0, up.2.1, up.2.2.0, up.2.2.1), replaced_ascend c.to stop s up.2.2.2)
    (up.0, up.1, replaced_ascend a.to stop (b ∷ c ∷ s) up.2)

pub lines_ascend : (at stop : ℕ) (s : List LogicalChar) → Ascend at stop s → Ascend at stop (with_lines s)
lines_ascend at stop [] up = up
lines_ascend at stop (a ∷ []) up = up
lines_ascend at stop (a ∷ b ∷ s) up =
    by_test (Ascend at stop) ((a.byte == 13) && (b.byte == 10)) (record { byte = 10; from = a.from; to = b.to } ∷ with_lines s) (a ∷ with_lines (b ∷ s))
    (up.0, omega (arith, up.1, up.2.0, up.2.1), lines_ascend b.to stop s up.2.2)
    (up.0, up.1, lines_ascend a.to stop (b ∷ s) up.2)

pub spliced_ascend : (at stop : ℕ) (s : List LogicalChar) → Ascend at stop s → Ascend at stop (spliced s)
spliced_ascend at stop [] up = up
spliced_ascend at stop (a ∷ []) up = up
spliced_ascend at stop (a ∷ b ∷ s) up =
    by_test (Ascend at stop) ((a.byte == 92) && (b.byte == 10)) (spliced s) (a ∷ spliced (b ∷ s))
    (later_ascend at b.to stop (spliced s) (omega (arith, up.0, up.1, up.2.0, up.2.1)) (spliced_ascend b.to stop s up.2.2))
    (up.0, up.1, spliced_ascend a.to stop (b ∷ s) up.2)

phase_ascend : (d : Dialect) (at stop : ℕ) (s : List LogicalChar) → Ascend at stop s → Ascend at stop (phase_1 d s)
phase_ascend C11 at stop s up = replaced_ascend at stop s up
phase_ascend C23 at stop s up = up

pub chars_ascend : (d : Dialect) (at stop : ℕ) (s : List ℕ) → at + length s ≡ stop → Ascend at stop (chars d at s)
chars_ascend d at stop s h =
    spliced_ascend at stop (with_lines (phase_1 d (placed at s))) (lines_ascend at stop (phase_1 d (placed at s)) (phase_ascend d at stop (placed at s) (placed_ascend at stop s h)))

-- A part in front ascends to where what is behind it ascends from.
unfoldable pub finish_from : ℕ → List LogicalChar → ℕ
finish_from at [] = at
finish_from at (c ∷ s) = finish_from c.to s

pub ascend_cut : (at stop : ℕ) (u v : List LogicalChar) → Ascend at stop (u ++ v) → Ascend at (finish_from at u) u × Ascend (finish_from at u) stop v
unfolding finish_from
ascend_cut at stop [] v up = (omega arith, up)
ascend_cut at stop (c ∷ u) v up = let rest = ascend_cut c.to stop u v up.2 in ((up.0, up.1, rest.0), rest.1)

-- nothing ascends below where it begins
pub ascend_on : (at stop : ℕ) (s : List LogicalChar) → Ascend at stop s → at ≤ finish_from at s
unfolding finish_from
ascend_on at stop [] up = omega arith
ascend_on at stop (c ∷ s) up = omega (arith, up.0, up.1, ascend_on c.to stop s up.2)

-- what ascends to an end begins there at most
pub ascend_fits : (at stop : ℕ) (s : List LogicalChar) → Ascend at stop s → at ≤ stop
ascend_fits at stop [] up = up
ascend_fits at stop (c ∷ s) up = omega (arith, up.0, up.1, ascend_fits c.to stop s up.2)

-- The characters of a text stand between its offsets.
between : (at stop : ℕ) (s : List LogicalChar) → Ascend at stop s → AreBetween at s stop
between at stop [] up = up
between at stop (c ∷ s) up = (up.0, up.1, between c.to stop s up.2)

pub between_chars : (d : Dialect) (at : ℕ) (s : List ℕ) → AreBetween at (chars d at s) (at + length s)
between_chars d at s = between at (at + length s) (chars d at s) (chars_ascend d at (at + length s) s refl)
