-- What bytes read as by themselves, and as a text.
use Rattle.std.proofs.Common.{◌≡◌, ◌==◌, ◌&&◌, ◌∙◌, ℕ, ◌+◌, Bool, true, false, List, [], ◌∷◌, refl, sym, ap}
use Rattle.std.proofs.lemmas.Bool.{ne_eqb, eqb-true}
use Rattle.std.specs.Prelude.{if◌then◌else◌}
use Rattle.std.specs.List.{list_any}
use Rattle.c_chars.specs.Characters.{bytes_of, chars, logical, mark_len}
use Rattle.c_chars.specs.declared.Dialect.{Dialect}
use Rattle.c_chars.specs.declared.LogicalChar.{LogicalChar}
use Rattle.c_chars.proofs.FirstUnits.{step_plain}
use Rattle.c_grammar.specs.Grammar.{is_new_line}
use Rattle.c_grammar.specs.Rewritten.{read_alone}
use Rattle.c_grammar.proofs.White.{unit_plain}
use Rattle.c_chars.proofs.Moved.{bytes_at}

-- a byte that begins no trigraph, line end or splice is read as itself
pub plain_first : (d : Dialect) (at b : ℕ) (s : List ℕ) → (b == 63) ≡ false → (b == 13) ≡ false → (b == 92) ≡ false → bytes_of (chars d at (b ∷ s)) ≡ b ∷ bytes_of (chars d (at + 1) s)
plain_first d at b s question return back = ap bytes_of (step_plain d (b ∷ s) s b 1 at (unit_plain d b s question return) refl back)

pub plain_alone : (d : Dialect) (b : ℕ) (s : List ℕ) → (b == 63) ≡ false → (b == 13) ≡ false → (b == 92) ≡ false → read_alone d (b ∷ s) ≡ b ∷ read_alone d s
plain_alone d b s question return back = plain_first d 0 b s question return back ∙ ap (λ z. b ∷ z) (bytes_at d 1 s)

-- no byte order mark: the bytes read as the text's
pub no_mark_reads : (d : Dialect) (s : List ℕ) → mark_len s ≡ 0 → read_alone d s ≡ bytes_of (logical d s)
no_mark_reads d s none = rw none refl

-- a text begins with a mark, or its characters are what its bytes read as
pub data Marked (s : List ℕ) : Type 0 where
  has_mark : (rest : List ℕ) → s ≡ 239 ∷ 187 ∷ 191 ∷ rest → Marked s
  no_mark : mark_len s ≡ 0 → Marked s

pub marked : (s : List ℕ) → Marked s
marked [] = no_mark refl
marked (a ∷ []) = no_mark (elim (239 == a) as (λ v. ◌≡◌ {A = ℕ} (if v && false then 3 else 0) 0) [ true ↦ refl | false ↦ refl ])
marked (a ∷ b ∷ []) = no_mark (by (239 == a) (187 == b))
  where
    by : (v w : Bool) → ◌≡◌ {A = ℕ} (if v && (w && false) then 3 else 0) 0
    by true true = refl
    by true false = refl
    by false w = refl
marked (a ∷ b ∷ c ∷ s) = by (239 == a) (187 == b) (191 == c) refl refl refl
  where
    by : (u v w : Bool) → (239 == a) ≡ u → (187 == b) ≡ v → (191 == c) ≡ w → Marked (a ∷ b ∷ c ∷ s)
    by true true true e f g = has_mark s (rw (← eqb-true 239 a e, ← eqb-true 187 b f, ← eqb-true 191 c g) refl)
    by true true false e f g = no_mark (rw (e, f, g) refl)
    by true false w e f g = no_mark (rw (e, f) refl)
    by false v w e f g = no_mark (rw e refl)

-- a new-line is there in the text's characters and in the bytes read alone, or in neither
pub mark_lines : (d : Dialect) (s : List ℕ) → list_any is_new_line (bytes_of (logical d s)) ≡ list_any is_new_line (read_alone d s)
unfolding is_new_line
mark_lines d s = elim (marked s) [
  | no_mark none ↦ ap (list_any is_new_line) (sym (no_mark_reads d s none))
  | has_mark rest is ↦
      rw is
      (let alone : read_alone d (239 ∷ 187 ∷ 191 ∷ rest) ≡ 239 ∷ 187 ∷ 191 ∷ read_alone d rest =
      plain_alone d 239 (187 ∷ 191 ∷ rest) refl refl refl ∙ ap (λ z. 239 ∷ z) (plain_alone d 187 (191 ∷ rest) refl refl refl ∙ ap (λ z. 187 ∷ z) (plain_alone d 191 rest refl refl refl)) in
      ap (list_any is_new_line) (bytes_at d 3 rest) ∙ ap (list_any is_new_line) (sym alone))
]

-- a new-line comes first
pub line_first : (s t : List LogicalChar) (c : LogicalChar) → s ≡ c ∷ t → c.byte ≡ 10 → true ≡ list_any is_new_line (bytes_of s)
unfolding is_new_line
line_first s t c is line = rw (is, line) refl

-- another character comes first
pub other_line : (s t : List LogicalChar) (c : LogicalChar) → s ≡ c ∷ t → (c.byte ≡ 10 → ⊥) → list_any is_new_line (bytes_of t) ≡ list_any is_new_line (bytes_of s)
unfolding is_new_line
other_line s t c is line =
    let no : (c.byte == 10) ≡ false = ne_eqb c.byte 10 line in
    rw (is, no) refl
