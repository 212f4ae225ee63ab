-- What tests tell.
use Rattle.std.proofs.Common.{◌≡◌, ◌∙◌, ℕ, ◌+◌, ◌-◌, ◌<◌, ◌≤◌, nat_lt, Bool, true, false, ap, arith, sym}
use Rattle.token_classes.specs.declared.class.TokenClass.{TokenClass}

-- of the class that a lookup gave
pub known : (f : TokenClass → Bool) (x y : TokenClass) (r b : Bool) → x ≡ y → r ≡ f x → r ≡ b → f y ≡ b
known f x y r b e q h = ap f (sym e) ∙ (sym q ∙ h)

-- of the order of two places
pub lt_true : (a b : ℕ) → a < b → nat_lt a b ≡ true
lt_true a b h = grind arith

pub lt_false : (a b : ℕ) → b ≤ a → nat_lt a b ≡ false
lt_false a b h = grind arith

-- ## One place further

pub lt_next : (a b : ℕ) → a < b → a < b + 1
lt_next a b h = omega (arith, h)

pub next_le : (a b : ℕ) → a < b → a + 1 ≤ b
next_le a b h = omega (arith, h)

pub next_both : (a b : ℕ) → a ≤ b → a + 1 ≤ b + 1
next_both a b h = omega (arith, h)

pub less_next : (a b : ℕ) → a ≤ b → a - 1 ≤ b + 1
less_next a b h = omega (arith, h)

pub lt_far : (a b c : ℕ) → a < b → b < c → a < c
lt_far a b c h k = omega (arith, h, k)

pub le_far : (a b c : ℕ) → a ≤ b → b < c → a ≤ c
le_far a b c h k = omega (arith, h, k)
