-- The columns past the limit on one row, token by token.
use Rattle.std.proofs.Common.{◌≡◌, ℕ, ◌+◌, ◌-◌, ◌*◌, ◌≤◌, min, max, Bool, true, false, ◌&&◌, not, Option, Some, None, refl, ap, sym, ◌∙◌, subst, arith}
use Rattle.std.proofs.lemmas.Nat.{mul-le}
use Rattle.line_tokens.specs.Columns.{columns}
use Rattle.line_tokens.specs.declared.Fixed.{Fixed}
use Rattle.line_state.specs.Layout.{is_some_decision}

-- a sum of columns is one however it is bracketed
columns_assoc : (a b c : ℕ) → columns a (columns b c) ≡ columns (columns a b) c
columns_assoc a b c = omega arith

-- what lies past the limit behind a place is what lies past it up to there and what comes behind it
excess_parts : (limit column place next : ℕ) → min column 4294967295 ≤ place → columns place next - max column limit ≤ (place - limit - (column - limit)) + (columns place next - max place limit)
excess_parts limit column place next behind = omega (arith, behind)

-- what lies past the limit behind a token is what the token adds and what comes behind it
pub excess_adds : (limit column blanks token next : ℕ) → columns column (columns (columns blanks token) next) - max column limit ≤ (columns (columns column blanks) token - limit - (column - limit)) + (columns (columns (columns column blanks) token) next - max (columns (columns column blanks) token) limit)
excess_adds limit column blanks token next =
    let place : ℕ = columns (columns column blanks) token in
    let one : columns column (columns (columns blanks token) next) ≡ columns place next = columns_assoc column (columns blanks token) next ∙ ap (λ (k : ℕ). columns k next) (columns_assoc column blanks token) in
    subst (λ (k : ℕ). k - max column limit ≤ (place - limit - (column - limit)) + (columns place next - max place limit)) (sym one) (excess_parts limit column place next (omega arith))

-- .. and no more from a smaller column, where the columns don't saturate
pub excess_falls : (limit small large width : ℕ) → small ≤ large → large + width ≤ 4294967295 → columns small width - max small limit ≤ columns large width - max large limit
excess_falls limit small large width less room = omega (arith, less, room)

pub stay_costs : (penalty least next before here behind added : ℕ) → least ≤ next → before ≤ here + behind → penalty * here ≤ added → min least (penalty * before) ≤ added + min next (penalty * behind)
stay_costs penalty least next before here behind added less sum costs =
    let all : penalty * before ≤ penalty * (here + behind) = mul-le penalty before penalty (here + behind) (omega arith) sum in
    omega (arith, all, less, costs)

-- what a gap that may stay is known to be
pub record IsStaying (decision : Option Fixed) (must trailing high same : Bool) : Type 0 where
  pub free : decision ≡ None
  pub must_not : must ≡ false
  pub costs : trailing ≡ false
  pub low : high ≡ false
  pub even : same ≡ true

pub staying : (decision : Option Fixed) (must trailing high even : Bool) → (not (is_some_decision decision) && not must && not trailing && not high && even) ≡ true → IsStaying decision must trailing high even
staying (Some fixed) must trailing high even e = absurd (false_true e)
  where
    false_true : false ≡ true → ⊥
    false_true e = cc
staying None true trailing high even e = absurd (false_true e)
  where
    false_true : false ≡ true → ⊥
    false_true e = cc
staying None false true high even e = absurd (false_true e)
  where
    false_true : false ≡ true → ⊥
    false_true e = cc
staying None false false true even e = absurd (false_true e)
  where
    false_true : false ≡ true → ⊥
    false_true e = cc
staying None false false false even e = record { free = refl; must_not = refl; costs = refl; low = refl; even = e }
