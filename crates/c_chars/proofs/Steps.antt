-- What is to come behind some characters.
use Rattle.std.proofs.Common.{◌≡◌, ◌≤◌, ◌<◌, ◌+◌, ℕ, suc, zero, List, [], ◌∷◌, slice_get, Option, Some, None, IfSome, IfNone, refl, sym, ap, arith}
use Rattle.c_chars.specs.Coming.{AreBetween, Coming, behind, passed}
use Rattle.c_chars.specs.declared.Dialect.{Dialect}
use Rattle.c_chars.specs.declared.LogicalChar.{LogicalChar}

-- one character, and then n more
pub behind_next : (x y : Coming) (c : LogicalChar) (n : ℕ) → x.chars ≡ c ∷ y.chars → y.at ≡ c.to → y.dialect ≡ x.dialect → behind x (1 + n) ≡ behind y n
behind_next x y c n chars at dialect = let one : 1 + n ≡ suc n = omega arith in rw (one, chars, at, dialect) refl

-- it stands no earlier behind some characters
pub onwards : (d : Dialect) (at n high : ℕ) (s : List LogicalChar) → AreBetween at s high → at ≤ (passed d at s n).at
onwards d at zero high s b = omega arith
onwards d at (suc n) high [] b = omega arith
onwards d at (suc n) high (c ∷ s) b = let first : at ≤ c.from = b.0 in let some : c.from < c.to = b.1 in let rest = onwards d c.to n high s b.2 in omega arith

-- the first character behind n others is the one at place n
pub first_behind : (x : Coming) (n : ℕ) → slice_get (behind x n).chars 0 ≡ slice_get x.chars n
first_behind x n = first_passed x.dialect x.at n x.chars
  where
    first_passed : (d : Dialect) (at n : ℕ) (s : List LogicalChar) → slice_get (passed d at s n).chars 0 ≡ slice_get s n
    first_passed d at zero s = refl
    first_passed d at (suc n) [] = refl
    first_passed d at (suc n) (c ∷ s) = first_passed d c.to n s

-- the next character is the first of those that are to come
pub next_first : (x y : Coming) (r : Option LogicalChar) → IfSome r (λ c. (x.chars ≡ c ∷ y.chars) × (y.at ≡ c.to)) → IfNone r ((x.chars ≡ []) × (y ≡ x)) → r ≡ slice_get x.chars 0
next_first x y (Some c) some none = sym (ap (λ s. slice_get s 0) some.0)
next_first x y None some none = sym (ap (λ s. slice_get s 0) none.0)
