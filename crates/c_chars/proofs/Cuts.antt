-- Phases 1 and 2 go by parts where no pattern lies over the cut.
use Rattle.std.proofs.Common.{◌≡◌, ◌==◌, ◌||◌, ◌&&◌, not, ℕ, ◌+◌, suc, arith, length, map, Bool, false, List, [], ◌∷◌, ◌++◌, refl, ◌∙◌, ap, inl, inr}
use Rattle.std.proofs.lemmas.Bool.{cases_Bool, or_parts}
use Rattle.c_chars.specs.Characters.{trigraph, is_trigraph, replaced, with_lines, spliced, placed, phase_1, chars, moved}
use Rattle.c_chars.specs.declared.Dialect.{Dialect}
use Rattle.c_chars.specs.declared.Dialect.TheVariants.{C11, C23}
use Rattle.c_chars.specs.declared.LogicalChar.{LogicalChar}

abbrev pub ends_in : (LogicalChar → Bool) → List LogicalChar → Bool
ends_in p [] = false
ends_in p (c ∷ []) = p c
ends_in p (c ∷ e ∷ s) = ends_in p (e ∷ s)

abbrev pub starts_in : (LogicalChar → Bool) → List LogicalChar → Bool
starts_in p [] = false
starts_in p (c ∷ s) = p c

-- no pair that a pass over pairs changes lies over the cut
pub spliced_cut : (a b : List LogicalChar) → (ends_in (λ c. c.byte == 92) a && starts_in (λ c. c.byte == 10) b) ≡ false → spliced (a ++ b) ≡ spliced a ++ spliced b
spliced_cut [] b h = refl
spliced_cut (x ∷ []) [] h = refl
spliced_cut (x ∷ []) (y ∷ b) h = rw h refl
spliced_cut (x ∷ y ∷ []) b h = elim (cases_Bool ((x.byte == 92) && (y.byte == 10))) [
  | inl e ↦ rw e refl
  | inr e ↦ rw e (ap (λ z. x ∷ z) (spliced_cut (y ∷ []) b h))
]
spliced_cut (x ∷ y ∷ z ∷ a) b h = elim (cases_Bool ((x.byte == 92) && (y.byte == 10))) [
  | inl e ↦ rw e (spliced_cut (z ∷ a) b h)
  | inr e ↦ rw e (ap (λ w. x ∷ w) (spliced_cut (y ∷ z ∷ a) b h))
]

pub with_lines_cut : (a b : List LogicalChar) → (ends_in (λ c. c.byte == 13) a && starts_in (λ c. c.byte == 10) b) ≡ false → with_lines (a ++ b) ≡ with_lines a ++ with_lines b
with_lines_cut [] b h = refl
with_lines_cut (x ∷ []) [] h = refl
with_lines_cut (x ∷ []) (y ∷ b) h = rw h refl
with_lines_cut (x ∷ y ∷ []) b h = elim (cases_Bool ((x.byte == 13) && (y.byte == 10))) [
  | inl e ↦ rw e refl
  | inr e ↦ rw e (ap (λ z. x ∷ z) (with_lines_cut (y ∷ []) b h))
]
with_lines_cut (x ∷ y ∷ z ∷ a) b h = elim (cases_Bool ((x.byte == 13) && (y.byte == 10))) [
  | inl e ↦ rw e (ap (λ w. record { byte = 10; from = x.from; to = y.to } ∷ w) (with_lines_cut (z ∷ a) b h))
  | inr e ↦ rw e (ap (λ w. x ∷ w) (with_lines_cut (y ∷ z ∷ a) b h))
]

-- the first character can be the last of a trigraph
abbrev pub starts_third : List LogicalChar → Bool
starts_third [] = false
starts_third (c ∷ s) = not (trigraph c.byte == 0)

-- the first two characters can be the last two of a trigraph
abbrev pub starts_inner : List LogicalChar → Bool
starts_inner [] = false
starts_inner (c ∷ s) = (c.byte == 63) && starts_third s

-- a trigraph lies over the cut between the two
abbrev pub trigraph_over : List LogicalChar → List LogicalChar → Bool
trigraph_over [] b = false
trigraph_over (x ∷ []) b = (x.byte == 63) && starts_inner b
trigraph_over (x ∷ y ∷ []) b = ((x.byte == 63) && ((y.byte == 63) && starts_third b)) || ((y.byte == 63) && starts_inner b)
trigraph_over (x ∷ y ∷ z ∷ a) b = trigraph_over (y ∷ z ∷ a) b

over_less : (x y : LogicalChar) (a b : List LogicalChar) → trigraph_over (x ∷ y ∷ a) b ≡ false → trigraph_over (y ∷ a) b ≡ false
over_less x y [] b h = (or_parts ((x.byte == 63) && ((y.byte == 63) && starts_third b)) ((y.byte == 63) && starts_inner b) h).1
over_less x y (z ∷ a) b h = h

pub replaced_cut : (a b : List LogicalChar) → trigraph_over a b ≡ false → replaced (a ++ b) ≡ replaced a ++ replaced b
replaced_cut [] b h = refl
replaced_cut (x ∷ []) [] h = refl
replaced_cut (x ∷ []) (y ∷ []) h = refl
replaced_cut (x ∷ []) (y ∷ z ∷ b) h = rw h refl
replaced_cut (x ∷ y ∷ []) [] h = refl
replaced_cut (x ∷ y ∷ []) (z ∷ b) h =
    let parts = or_parts ((x.byte == 63) && ((y.byte == 63) && not (trigraph z.byte == 0))) ((y.byte == 63) && starts_inner (z ∷ b)) h in
    let e : is_trigraph x y z ≡ false = parts.0 in
    rw e (ap (λ w. x ∷ w) (replaced_cut (y ∷ []) (z ∷ b) parts.1))
replaced_cut (x ∷ y ∷ z ∷ []) b h = elim (cases_Bool (is_trigraph x y z)) [
  | inl e ↦ rw e refl
  | inr e ↦ rw e (ap (λ w. x ∷ w) (replaced_cut (y ∷ z ∷ []) b h))
]
replaced_cut (x ∷ y ∷ z ∷ u ∷ a) b h = elim (cases_Bool (is_trigraph x y z)) [
  | inl e ↦ rw e (ap (λ w. record { byte = trigraph z.byte; from = x.from; to = z.to } ∷ w) (replaced_cut (u ∷ a) b (over_less z u a b h)))
  | inr e ↦ rw e (ap (λ w. x ∷ w) (replaced_cut (y ∷ z ∷ u ∷ a) b h))
]

-- a trigraph of the dialect lies over the cut
abbrev pub phase_over : Dialect → List LogicalChar → List LogicalChar → Bool
phase_over C11 a b = trigraph_over a b
phase_over C23 a b = false

phase_cut : (d : Dialect) (a b : List LogicalChar) → phase_over d a b ≡ false → phase_1 d (a ++ b) ≡ phase_1 d a ++ phase_1 d b
phase_cut C11 a b h = replaced_cut a b h
phase_cut C23 a b h = refl

-- a `\r\n` lies over the cut
abbrev pub return_over : List LogicalChar → List LogicalChar → Bool
return_over a b = ends_in (λ c. c.byte == 13) a && starts_in (λ c. c.byte == 10) b

-- a splice lies over the cut
abbrev pub splice_over : List LogicalChar → List LogicalChar → Bool
splice_over a b = ends_in (λ c. c.byte == 92) a && starts_in (λ c. c.byte == 10) b

pub placed_append : (at : ℕ) (a b : List ℕ) → placed at (a ++ b) ≡ placed at a ++ placed (at + length a) b
placed_append at [] b = let e : at ≡ at + 0 = omega arith in ap (λ n. placed n b) e
placed_append at (x ∷ a) b =
    let e : (at + 1) + length a ≡ at + suc (length a) = omega arith in
    ap (λ z. record { byte = x; from = at; to = at + 1 } ∷ z) (placed_append (at + 1) a b ∙ ap (λ n. placed (at + 1) a ++ placed n b) e)

-- the characters before splices are taken out
abbrev pub units : Dialect → ℕ → List ℕ → List LogicalChar
units d at s = with_lines (phase_1 d (placed at s))

-- no trigraph, no `\r\n` and no splice lies over the cut
pub record IsCleanCut (d : Dialect) (at : ℕ) (a b : List ℕ) : Type 0 where
  pub trigraph : phase_over d (placed at a) (placed (at + length a) b) ≡ false
  pub line : return_over (phase_1 d (placed at a)) (phase_1 d (placed (at + length a) b)) ≡ false
  pub splice : splice_over (units d at a) (units d (at + length a) b) ≡ false

pub chars_cut : (d : Dialect) (at : ℕ) (a b : List ℕ) → IsCleanCut d at a b → chars d at (a ++ b) ≡ chars d at a ++ chars d (at + length a) b
chars_cut d at a b h =
    ap (λ z. spliced (with_lines (phase_1 d z))) (placed_append at a b)
    ∙ (ap (λ z. spliced (with_lines z)) (phase_cut d (placed at a) (placed (at + length a) b) h.trigraph)
    ∙ (ap spliced (with_lines_cut (phase_1 d (placed at a)) (phase_1 d (placed (at + length a) b)) h.line)
    ∙ spliced_cut (with_lines (phase_1 d (placed at a))) (with_lines (phase_1 d (placed (at + length a) b))) h.splice))

pub units_cut : (d : Dialect) (at : ℕ) (a b : List ℕ) → IsCleanCut d at a b → units d at (a ++ b) ≡ units d at a ++ units d (at + length a) b
units_cut d at a b h =
    ap (λ z. with_lines (phase_1 d z)) (placed_append at a b)
    ∙ (ap with_lines (phase_cut d (placed at a) (placed (at + length a) b) h.trigraph)
    ∙ with_lines_cut (phase_1 d (placed at a)) (phase_1 d (placed (at + length a) b)) h.line)

-- Moving a text moves its characters.

placed_moved : (n at : ℕ) (s : List ℕ) → placed (at + n) s ≡ map (moved n) (placed at s)
placed_moved n at [] = refl
placed_moved n at (x ∷ s) =
    let e : (at + n) + 1 ≡ (at + 1) + n = omega arith in
    ap (λ z. record { byte = x; from = at + n; to = z } ∷ placed z s) e ∙ ap (λ z. record { byte = x; from = at + n; to = (at + 1) + n } ∷ z) (placed_moved n (at + 1) s)

replaced_moved : (n : ℕ) (s : List LogicalChar) → replaced (map (moved n) s) ≡ map (moved n) (replaced s)
replaced_moved n [] = refl
replaced_moved n (a ∷ []) = refl
replaced_moved n (a ∷ b ∷ []) = refl
replaced_moved n (a ∷ b ∷ c ∷ s) = elim (cases_Bool (is_trigraph a b c)) [
  | inl e ↦ rw e (ap (λ w. record { byte = trigraph c.byte; from = a.from + n; to = c.to + n } ∷ w) (replaced_moved n s))
  | inr e ↦ rw e (ap (λ w. moved n a ∷ w) (replaced_moved n (b ∷ c ∷ s)))
]

lines_moved : (n : ℕ) (s : List LogicalChar) → with_lines (map (moved n) s) ≡ map (moved n) (with_lines s)
lines_moved n [] = refl
lines_moved n (a ∷ []) = refl
lines_moved n (a ∷ b ∷ s) = elim (cases_Bool ((a.byte == 13) && (b.byte == 10))) [
  | inl e ↦ rw e (ap (λ w. record { byte = 10; from = a.from + n; to = b.to + n } ∷ w) (lines_moved n s))
  | inr e ↦ rw e (ap (λ w. moved n a ∷ w) (lines_moved n (b ∷ s)))
]

spliced_moved : (n : ℕ) (s : List LogicalChar) → spliced (map (moved n) s) ≡ map (moved n) (spliced s)
spliced_moved n [] = refl
spliced_moved n (a ∷ []) = refl
spliced_moved n (a ∷ b ∷ s) = elim (cases_Bool ((a.byte == 92) && (b.byte == 10))) [
  | inl e ↦ rw e (spliced_moved n s)
  | inr e ↦ rw e (ap (λ w. moved n a ∷ w) (spliced_moved n (b ∷ s)))
]

phase_moved : (d : Dialect) (n : ℕ) (s : List LogicalChar) → phase_1 d (map (moved n) s) ≡ map (moved n) (phase_1 d s)
phase_moved C11 n s = replaced_moved n s
phase_moved C23 n s = refl

pub units_moved : (d : Dialect) (n at : ℕ) (s : List ℕ) → units d (at + n) s ≡ map (moved n) (units d at s)
units_moved d n at s =
    ap (λ z. with_lines (phase_1 d z)) (placed_moved n at s) ∙ (ap with_lines (phase_moved d n (placed at s)) ∙ lines_moved n (phase_1 d (placed at s)))

pub chars_moved : (d : Dialect) (n at : ℕ) (s : List ℕ) → chars d (at + n) s ≡ map (moved n) (chars d at s)
chars_moved d n at s =
    ap (λ z. spliced (with_lines (phase_1 d z))) (placed_moved n at s)
    ∙ (ap (λ z. spliced (with_lines z)) (phase_moved d n (placed at s))
    ∙ (ap spliced (lines_moved n (phase_1 d (placed at s))) ∙ spliced_moved n (with_lines (phase_1 d (placed at s)))))

-- The seam of characters: without the gap, the characters behind it stand its length nearer.
pub seam_of_characters : (d : Dialect) (at : ℕ) (a g b : List ℕ) → IsCleanCut d at a (g ++ b) → IsCleanCut d (at + length a) g b → IsCleanCut d at a b →
    (behind : List LogicalChar) × (chars d at (a ++ b) ≡ chars d at a ++ behind) × (chars d at (a ++ (g ++ b)) ≡ chars d at a ++ (chars d (at + length a) g ++ map (moved (length g)) behind))
seam_of_characters d at a g b h k m = (
  chars d (at + length a) b,
  chars_cut d at a b m,
  chars_cut d at a (g ++ b) h ∙ ap (λ z. chars d at a ++ z) (chars_cut d (at + length a) g b k ∙ ap (λ z. chars d (at + length a) g ++ z) (chars_moved d (length g) (at + length a) b)),
)
