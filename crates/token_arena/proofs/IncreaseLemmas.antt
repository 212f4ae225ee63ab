-- The ids of stretches that ascend increase.
use Rattle.std.proofs.Common.{◌≡◌, ℕ, zero, suc, ◌+◌, ◌-◌, ◌<◌, ◌≤◌, List, [], ◌∷◌, ◌++◌, length, get_or, subst, arith}
use Rattle.std.specs.List.{range_with_len}
use Rattle.std.proofs.lemmas.List.FromFn.{length-range_with_len, get_or-range_with_len}
use Rattle.token_arena.specs.Ids.{IncreaseFrom}
use Rattle.token_arena.specs.Segments.{AscendFrom, ids_of}

-- a bound may be lowered
increase_lower : (low high : ℕ) (ids : List ℕ) → low ≤ high → IncreaseFrom high ids → IncreaseFrom low ids
increase_lower low high [] h increase = tt
increase_lower low high (id ∷ ids) h increase = (omega (arith, increase.0), increase.1)

-- ids in a row, and then others behind them
row_increases : (low first n : ℕ) (ids : List ℕ) → low ≤ first → IncreaseFrom (first + n) ids → IncreaseFrom low (range_with_len first n ++ ids)
row_increases low first zero ids h increase = increase_lower low (first + 0) ids (omega (arith, h)) increase
row_increases low first (suc n) ids h increase =
    let e : first + suc n ≡ first + 1 + n = omega arith in
    (h, row_increases (first + 1) (first + 1) n ids (omega arith) (subst (λ k. IncreaseFrom k ids) e increase))

pub ids_increase : (low : ℕ) (stretches : List (ℕ × ℕ)) → AscendFrom low stretches → IncreaseFrom low (ids_of stretches)
ids_increase low [] ascend = tt
ids_increase low (stretch ∷ stretches) ascend =
    row_increases low stretch.0 (stretch.1 - stretch.0) (ids_of stretches) ascend.0
    (increase_lower (stretch.0 + (stretch.1 - stretch.0)) (stretch.1 + 1) (ids_of stretches) (omega (arith, ascend.1)) (ids_increase (stretch.1 + 1) stretches ascend.2))

-- the numbers in a row are below its end
pub row_within : (first end : ℕ) (ids : List ℕ) → ids ≡ range_with_len first (end - first) → (k d : ℕ) → k < length ids → get_or ids k d < end
row_within first end ids is k d h =
    let len : length ids ≡ end - first = rw is (length-range_with_len first (end - first)) in
    let short : k < end - first = omega (arith, len, h) in
    let here : get_or ids k d ≡ first + k = rw is (get_or-range_with_len first (end - first) k d short) in
    omega (arith, here, short)
