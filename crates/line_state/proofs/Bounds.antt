-- What every list of choices costs at least from a layout on: a lower bound of the costs that are to come.
use Rattle.std.proofs.Common.{◌≡◌, ℕ, ◌+◌, ◌≤◌, Bool, List, length}
use Rattle.line_state.proofs.Ways.{Reached}

-- the bound falls by no more than a step costs, and is nothing behind n choices
pub record IsBound {S : Type 0} (step : S → Bool → S → ℕ → Type 0) (low : S → ℕ) (root : S) (n : ℕ) : Type 0 where
  pub falls : (r : List Bool) (s t : S) (c k : ℕ) (b : Bool) → Reached step root r s c → step s b t k → low s ≤ k + low t
  pub ends : (r : List Bool) (s : S) (c : ℕ) → length r ≡ n → Reached step root r s c → low s ≡ 0
