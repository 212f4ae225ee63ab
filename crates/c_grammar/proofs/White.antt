-- White space reads as it is meant.
use Rattle.std.proofs.Common.{◌≡◌, ◌==◌, ◌&&◌, ℕ, ◌+◌, arith, true, false, List, [], ◌∷◌, refl, ◌∙◌, ap, inl, inr}
use Rattle.std.proofs.lemmas.Bool.{or_cases, eqb-true}
use Rattle.c_chars.specs.Characters.{bytes_of, IsUnit, begins_trigraph, begins_return, begins_line_end, has_trigraphs}
use Rattle.c_chars.specs.declared.Dialect.{Dialect}
use Rattle.c_chars.specs.declared.Dialect.TheVariants.{C11, C23}
use Rattle.c_chars.proofs.Cuts.{starts_in, units}
use Rattle.c_chars.proofs.FirstUnits.{at_plain, at_return, return_unit, step_plain, step_splice}
use Rattle.c_grammar.specs.Rewritten.{read_alone, Blank, Tab, LineEnd, Splice, white_bytes, WhiteReadsSo}
use Rattle.c_chars.proofs.Moved.{bytes_at}

no_trigraph : (d : Dialect) (b : ℕ) (s : List ℕ) → (b == 63) ≡ false → (has_trigraphs d && begins_trigraph (b ∷ s)) ≡ false
no_trigraph C23 b s h = refl
no_trigraph C11 b [] h = refl
no_trigraph C11 b (c ∷ []) h = refl
no_trigraph C11 b (c ∷ e ∷ s) h = rw h refl

no_return : (b : ℕ) (s : List ℕ) → (b == 13) ≡ false → begins_return (b ∷ s) ≡ false
no_return b [] h = refl
no_return b (c ∷ s) h = rw h refl

-- a byte that begins no pattern but a splice
pub unit_plain : (d : Dialect) (b : ℕ) (s : List ℕ) → (b == 63) ≡ false → (b == 13) ≡ false → IsUnit d (b ∷ s) b 1
unit_plain d b s q r = at_plain d (b ∷ s) (omega arith) (no_trigraph d b s q) (no_return b s r)

-- a line end begins the characters where one begins the bytes
pub units_line : (d : Dialect) (at : ℕ) (s : List ℕ) → begins_line_end s ≡ true → starts_in (λ c. c.byte == 10) (units d at s) ≡ true
units_line d at [] h = cc
units_line d at (b ∷ s) h = elim (or_cases (b == 10) (begins_return (b ∷ s)) h) [
  | inl e ↦
      let is : b ≡ 10 = eqb-true b 10 e in
      ap (λ z. starts_in (λ c. c.byte == 10) (units d at (z ∷ s))) is ∙ ap (starts_in (λ c. c.byte == 10)) (unit_plain d 10 s refl refl at)
  | inr e ↦ ap (starts_in (λ c. c.byte == 10)) (at_return d (b ∷ s) e at)
]

-- one character that is kept
kept_plain : (d : Dialect) (b : ℕ) (s : List ℕ) → (b == 63) ≡ false → (b == 13) ≡ false → (b == 92) ≡ false → read_alone d (b ∷ s) ≡ b ∷ read_alone d s
kept_plain d b s q r p = ap bytes_of (step_plain d (b ∷ s) s b 1 0 (unit_plain d b s q r) refl p) ∙ ap (λ z. b ∷ z) (bytes_at d (0 + 1) s)

kept_return : (d : Dialect) (s : List ℕ) → read_alone d (13 ∷ 10 ∷ s) ≡ 10 ∷ read_alone d s
kept_return d s = ap bytes_of (step_plain d (13 ∷ 10 ∷ s) s 10 2 0 (return_unit d s) refl refl) ∙ ap (λ z. 10 ∷ z) (bytes_at d (0 + 2) s)

gone_line : (d : Dialect) (s : List ℕ) → read_alone d (92 ∷ 10 ∷ s) ≡ read_alone d s
gone_line d s = ap bytes_of (step_splice d (92 ∷ 10 ∷ s) (10 ∷ s) s 92 1 10 1 0 (unit_plain d 92 (10 ∷ s) refl refl) refl (unit_plain d 10 s refl refl) refl refl refl) ∙ bytes_at d (0 + (1 + 1)) s

gone_return : (d : Dialect) (s : List ℕ) → read_alone d (92 ∷ 13 ∷ 10 ∷ s) ≡ read_alone d s
gone_return d s = ap bytes_of (step_splice d (92 ∷ 13 ∷ 10 ∷ s) (13 ∷ 10 ∷ s) s 92 1 10 2 0 (unit_plain d 92 (13 ∷ 10 ∷ s) refl refl) refl (return_unit d s) refl refl refl) ∙ bytes_at d (0 + (1 + 2)) s

pub white_reads_so : WhiteReadsSo
white_reads_so C11 [] = refl
white_reads_so C23 [] = refl
white_reads_so d (Blank ∷ ws) = kept_plain d 32 (white_bytes ws) refl refl refl ∙ ap (λ z. 32 ∷ z) (white_reads_so d ws)
white_reads_so d (Tab ∷ ws) = kept_plain d 9 (white_bytes ws) refl refl refl ∙ ap (λ z. 9 ∷ z) (white_reads_so d ws)
white_reads_so d (LineEnd true ∷ ws) = kept_return d (white_bytes ws) ∙ ap (λ z. 10 ∷ z) (white_reads_so d ws)
white_reads_so d (LineEnd false ∷ ws) = kept_plain d 10 (white_bytes ws) refl refl refl ∙ ap (λ z. 10 ∷ z) (white_reads_so d ws)
white_reads_so d (Splice true ∷ ws) = gone_return d (white_bytes ws) ∙ white_reads_so d ws
white_reads_so d (Splice false ∷ ws) = gone_line d (white_bytes ws) ∙ white_reads_so d ws
