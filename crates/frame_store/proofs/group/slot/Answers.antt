use Rattle.std.proofs.Common.{◌≡◌, ℕ, ◌-◌, ◌*◌, ◌^◌, ◌%◌, ◌∙◌, ap, sym, bit_and}
use Rattle.std.proofs.lemmas.Nat.{and_mask, one_shl}
use Rattle.frame_store.proofs.group.slot.Goals as goal

pub returns-then-power-count-clause-value : goal.returns-then-power-count-clause-value
returns-then-power-count-clause-value c =
    let k : ℕ = c.ilog2.result in
    let one : 1 * 2 ^ k % 18446744073709551616 ≡ 2 ^ k = one_shl k 64 c.ilog2.ensures.bound in
    let whole : 1 * 2 ^ k % 18446744073709551616 ≡ c.args.count = c.if-power-count.true in
    ap (λ (n : ℕ). bit_and c.args.digest (n - 1)) one ∙ and_mask c.args.digest k ∙ ap (λ (n : ℕ). c.args.digest % n) (sym one ∙ whole)
