-- A partner by a number.
use Rattle.std.proofs.Common.{◌≡◌, ◌==◌, ℕ, Bool, true, false, Option, Some, None, refl, sym}
use Rattle.std.specs.Prelude.{if◌then◌else◌}
use Rattle.std.proofs.lemmas.Bool.{eqb-true}

-- the partner that a number stands for: the largest number of four bytes stands for none
abbrev pub partner_in : ℕ → Option ℕ
partner_in number = if number == 4294967295 then None else Some number

-- the number that stands for a partner
abbrev pub number_of : Option ℕ → ℕ
number_of None = 4294967295
number_of (Some place) = place

-- the number of the partner that a number stands for is the number itself
pub number_back : (n : ℕ) → number_of (partner_in n) ≡ n
number_back n = by_test (n == 4294967295) refl
  where
    by_test : (t : Bool) → (n == 4294967295) ≡ t → number_of (if t then None else Some n) ≡ n
    by_test true e = sym (eqb-true n 4294967295 e)
    by_test false e = refl
