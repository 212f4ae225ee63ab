use Rattle.std.proofs.Common.{◌≡◌, ◌<◌, ◌≤◌, ℕ, zero, suc, [], ◌∷◌, get_or, length, arith}
use Rattle.std.proofs.lemmas.Result.{IfOk-at_ok}
use Rattle.layout_tests.proofs.joined_lines.has_rows_around.Goals as goal

within : (n : ℕ) → 7 ≤ n → (k d : ℕ) → k < 3 → get_or (0 ∷ 1 ∷ 6 ∷ []) k d < n
within n h zero d few = omega arith
within n h (suc zero) d few = omega arith
within n h (suc (suc zero)) d few = omega arith
within n h (suc (suc (suc k))) d few = absurd (omega (arith, few))

pub joined-found-requires-clause-within : goal.joined-found-requires-clause-within
joined-found-requires-clause-within g c =
    let items : c.expect-view.result ≡ 0 ∷ 1 ∷ 6 ∷ [] = IfOk-at_ok (λ view. view ≡ 0 ∷ 1 ∷ 6 ∷ []) c.expect-view.ensures c.of_stretches.ensures.items in
    let count : 7 ≤ length c.expect-arena.result.tokens = omega (arith, c.len.ensures.count) in
    rw items (within (length c.expect-arena.result.tokens) count)
