-- Characters of bytes, wherever the bytes stand.
use Rattle.std.proofs.Common.{◌≡◌, ◌==◌, ℕ, ◌+◌, arith, length, false, List, [], ◌∷◌, map, drop, refl, ◌∙◌, ap}
use Rattle.c_chars.specs.Characters.{chars, bytes_of, moved, IsUnit}
use Rattle.c_chars.specs.Alone.{HasNoCharacter, IsFirstCharacter}
use Rattle.c_chars.specs.declared.Dialect.{Dialect}
use Rattle.c_chars.specs.declared.LogicalChar.{LogicalChar}
use Rattle.std.proofs.lemmas.List.{drop-drop}
use Rattle.c_chars.proofs.Cuts.{chars_moved}
use Rattle.c_chars.proofs.FirstUnits.{no_chars, step_last, step_plain, step_kept, step_splice}

pub bytes_moved : (n : ℕ) (s : List LogicalChar) → bytes_of (map (moved n) s) ≡ bytes_of s
bytes_moved n [] = refl
bytes_moved n (c ∷ s) = ap (λ z. c.byte ∷ z) (bytes_moved n s)

-- characters of bytes that begin elsewhere
pub chars_at : (d : Dialect) (n : ℕ) (s : List ℕ) → chars d n s ≡ map (moved n) (chars d 0 s)
chars_at d n s = let e : n ≡ 0 + n = omega arith in ap (λ z. chars d z s) e ∙ chars_moved d n 0 s

-- bytes read the same wherever they begin
pub bytes_at : (d : Dialect) (at : ℕ) (s : List ℕ) → bytes_of (chars d at s) ≡ bytes_of (chars d 0 s)
bytes_at d at s = ap bytes_of (chars_at d at s) ∙ bytes_moved at (chars d 0 s)

-- The first character

-- bytes whose characters are those of what is left of them behind n bytes of splices
pub record IsPassed (d : Dialect) (s rest : List ℕ) (n : ℕ) : Type 0 where
  pub same : (at : ℕ) → chars d at s ≡ chars d (at + n) rest
  pub rest_is : rest ≡ drop n s

pub none_passed : (d : Dialect) (s : List ℕ) → IsPassed d s s 0
none_passed d s = record { same = λ at. let e : at ≡ at + 0 = omega arith in ap (λ z. chars d z s) e; rest_is = refl }

found : (d : Dialect) (s rest behind : List ℕ) (m b n : ℕ) → IsPassed d s rest m → behind ≡ drop n rest
    → ((at : ℕ) → chars d at rest ≡ record { byte = b; from = at; to = at + n } ∷ chars d (at + n) behind)
    → IsFirstCharacter d s (record { byte = b; before = m; len = n })
found d s rest behind m b n passed e next at =
    let left : behind ≡ drop (m + n) s = e ∙ (ap (drop n) passed.rest_is ∙ drop-drop n m s) in
    passed.same at ∙ (next (at + m) ∙ ap (λ z. record { byte = b; from = at + m; to = (at + m) + n } ∷ chars d ((at + m) + n) z) left)

pub found_plain : (d : Dialect) (s rest behind : List ℕ) (m b n : ℕ) → IsPassed d s rest m → IsUnit d rest b n → behind ≡ drop n rest → (b == 92) ≡ false
    → IsFirstCharacter d s (record { byte = b; before = m; len = n })
found_plain d s rest behind m b n passed u e p = found d s rest behind m b n passed e (λ at. step_plain d rest behind b n at u e p)

pub found_last : (d : Dialect) (s rest behind : List ℕ) (m b n : ℕ) → IsPassed d s rest m → IsUnit d rest b n → behind ≡ drop n rest → length behind ≡ 0
    → IsFirstCharacter d s (record { byte = b; before = m; len = n })
found_last d s rest behind m b n passed u e l = found d s rest behind m b n passed e (λ at. step_last d rest behind b n at u e l)

pub found_kept : (d : Dialect) (s rest behind : List ℕ) (m b n c k : ℕ) → IsPassed d s rest m → IsUnit d rest b n → behind ≡ drop n rest → IsUnit d behind c k → (c == 10) ≡ false
    → IsFirstCharacter d s (record { byte = b; before = m; len = n })
found_kept d s rest behind m b n c k passed u e v p = found d s rest behind m b n passed e (λ at. step_kept d rest behind b n c k at u e v p)

pub found_none : (d : Dialect) (s rest : List ℕ) (m : ℕ) → IsPassed d s rest m → length rest ≡ 0 → HasNoCharacter d s
found_none d s rest m passed l at = passed.same at ∙ no_chars d (at + m) rest l

pub passed_more : (d : Dialect) (s rest behind after : List ℕ) (m b n c k : ℕ) → IsPassed d s rest m → IsUnit d rest b n → behind ≡ drop n rest → IsUnit d behind c k → after ≡ drop k behind → b ≡ 92 → c ≡ 10
    → IsPassed d s after (m + (n + k))
passed_more d s rest behind after m b n c k passed u e v a b_is c_is = record {
  same = λ at.
      let sum : (at + m) + (n + k) ≡ at + (m + (n + k)) = omega arith in
      passed.same at ∙ (step_splice d rest behind after b n c k (at + m) u e v a b_is c_is ∙ ap (λ z. chars d z after) sum);
  rest_is =
      let sum : (m + n) + k ≡ m + (n + k) = omega arith in
      a ∙ (ap (drop k) (e ∙ (ap (drop n) passed.rest_is ∙ drop-drop n m s)) ∙ (drop-drop k (m + n) s ∙ ap (λ z. drop z s) sum));
}
