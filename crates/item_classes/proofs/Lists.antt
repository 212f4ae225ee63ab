-- Lists.
use Rattle.token_arena.specs.Ids.{IncreaseFrom}
use Rattle.std.proofs.Common.{◌≡◌, ℕ, suc, ◌+◌, ◌-◌, ◌<◌, ◌≤◌, All, arith, List, [], ◌∷◌, ◌++◌, length, take, get_or}
use Rattle.std.proofs.Common.{map, ap, ◌∙◌}
use Rattle.std.proofs.lemmas.List.{take_more, map-append}

-- what a function makes of one more element
pub map_more : {X Y : Type 0} (f : X → Y) (xs : List X) (i : ℕ) (d : X) → i < length xs → map f (take (i + 1) xs) ≡ map f (take i xs) ++ f (get_or xs i d) ∷ []
map_more f xs i d h = ap (map f) (take_more xs i d h) ∙ map-append f (take i xs) (get_or xs i d ∷ [])

-- numbers that increase below a bound are few
pub few_below : (low n : ℕ) (ids : List ℕ) → IncreaseFrom low ids → All (λ id. id < n) ids → length ids ≤ n - low
few_below low n [] h k = omega arith
few_below low n (id ∷ ids) h k =
    let later : All (λ id. id < n) ids = λ i d within. k (suc i) d (omega arith) in
    let rest : length ids ≤ n - (id + 1) = few_below (id + 1) n ids h.1 later in
    let from : low ≤ id = h.0 in
    let below : id < n = k 0 0 (omega arith) in
    omega arith
