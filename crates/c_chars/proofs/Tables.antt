-- Tables of bytes.
use Rattle.std.proofs.Common.{◌≡◌, ◌<◌, ◌∙◌, ℕ, ◌+◌, Bool, false, List, ap, get_or, map, arith}
use Rattle.std.specs.List.{range_with_len}
use Rattle.std.proofs.lemmas.List.{get_or-map}
use Rattle.std.proofs.lemmas.List.FromFn.{get_or-range_with_len, length-range_with_len}

-- what is told of each byte
abbrev pub table_of : (ℕ → Bool) → List Bool
table_of p = map p (range_with_len 0 256)

pub table_told : (p : ℕ → Bool) (b : ℕ) → b < 256 → get_or (table_of p) b false ≡ p b
table_told p b h =
    let len = length-range_with_len 0 256 in
    let same : 0 + b ≡ b = omega arith in
    get_or-map p (range_with_len 0 256) b 0 false (omega (arith, len, h)) ∙ (ap p (get_or-range_with_len 0 256 b 0 h) ∙ ap p same)
