-- How bytes are read, character by character.
use Rattle.std.proofs.Common.{◌≡◌, ◌<◌, ◌≤◌, ◌==◌, ◌&&◌, not, ℕ, ◌+◌, arith, length, get_or, Bool, true, false, List}
use Rattle.std.proofs.Common.{[], ◌∷◌, drop, refl, ◌∙◌, ap, sym, subst}
use Rattle.std.specs.List.{list_all}
use Rattle.c_chars.specs.Characters.{bytes_of, IsUnit}
use Rattle.std.proofs.lemmas.Bool.{and_parts, not-true, eqb-true}
use Rattle.c_chars.specs.declared.Dialect.{Dialect}
use Rattle.c_chars.specs.declared.Dialect.TheVariants.{C11, C23}
use Rattle.c_grammar.proofs.White.{unit_plain}
use Rattle.item_classes.specs.Viewed.{is_itself}
use Rattle.c_chars.proofs.FirstUnits.{step_last, step_plain}
use Rattle.c_grammar.specs.Rewritten.{read_alone}
use Rattle.c_chars.proofs.Moved.{bytes_at}

read_plain : (d : Dialect) (s rest : List ℕ) (b n : ℕ) → IsUnit d s b n → rest ≡ drop n s → (b == 92) ≡ false → read_alone d s ≡ b ∷ read_alone d rest
read_plain d s rest b n u e p = ap bytes_of (step_plain d s rest b n 0 u e p) ∙ ap (λ z. b ∷ z) (bytes_at d (0 + n) rest)

read_last : (d : Dialect) (s rest : List ℕ) (b n : ℕ) → IsUnit d s b n → rest ≡ drop n s → length rest ≡ 0 → read_alone d s ≡ b ∷ read_alone d rest
read_last d s rest b n u e l = ap bytes_of (step_last d s rest b n 0 u e l) ∙ ap (λ z. b ∷ z) (bytes_at d (0 + n) rest)

not_either : (b : ℕ) → is_itself b ≡ true → ((b == 63) ≡ false) × ((b == 13) ≡ false) × ((b == 92) ≡ false)
not_either b h =
    let first = and_parts (not (b == 63)) (not (b == 13) && not (b == 92)) h in
    let second = and_parts (not (b == 13)) (not (b == 92)) first.1 in
    (not-true (b == 63) first.0, not-true (b == 13) second.0, not-true (b == 92) second.1)

-- bytes that begin no trigraph, splice or line end read as themselves
pub reads_itself : (d : Dialect) (s : List ℕ) → list_all is_itself s ≡ true → read_alone d s ≡ s
reads_itself C11 [] h = refl
reads_itself C23 [] h = refl
reads_itself d (b ∷ s) h =
    let parts = and_parts (is_itself b) (list_all is_itself s) h in
    let kept = not_either b parts.0 in
    read_plain d (b ∷ s) s b 1 (unit_plain d b s kept.0 kept.1) refl kept.2 ∙ ap (λ z. b ∷ z) (reads_itself d s parts.1)

-- a byte alone reads as itself, whichever it is
pub reads_alone : (d : Dialect) (b : ℕ) → read_alone d (b ∷ []) ≡ b ∷ []
reads_alone d b = by_test (b == 63) refl (b == 13) refl
  where
    none : (d : Dialect) → read_alone d [] ≡ []
    none C11 = refl
    none C23 = refl

    question : (d : Dialect) → read_alone d (63 ∷ []) ≡ 63 ∷ []
    question C11 = refl
    question C23 = refl

    return : (d : Dialect) → read_alone d (13 ∷ []) ≡ 13 ∷ []
    return C11 = refl
    return C23 = refl

    by_test : (t : Bool) → (b == 63) ≡ t → (u : Bool) → (b == 13) ≡ u → read_alone d (b ∷ []) ≡ b ∷ []
    by_test true e u f = subst (λ x. read_alone d (x ∷ []) ≡ x ∷ []) (sym (eqb-true b 63 e)) (question d)
    by_test false e true f = subst (λ x. read_alone d (x ∷ []) ≡ x ∷ []) (sym (eqb-true b 13 f)) (return d)
    by_test false e false f = read_last d (b ∷ []) [] b 1 (unit_plain d b [] e f) refl refl ∙ ap (λ z. b ∷ z) (none d)

-- bytes of which there is one read as that byte
pub reads_one : (d : Dialect) (s : List ℕ) (b : ℕ) → 1 ≤ length s → length s < 2 → b ≡ get_or s 0 0 → read_alone d s ≡ b ∷ []
reads_one d [] b some few first = absurd (omega (arith, some))
reads_one d (x ∷ []) b some few first = reads_alone d x ∙ ap (λ y. y ∷ []) (sym first)
reads_one d (x ∷ y ∷ s) b some few first = absurd (omega (arith, few))
