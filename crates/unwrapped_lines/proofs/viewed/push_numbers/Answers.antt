use Rattle.std.proofs.Common.{◌≡◌, ◌∙◌, ℕ, suc, ◌+◌, ◌-◌, ◌∷◌, [], ◌++◌, List, ap, arith}
use Rattle.std.specs.List.{range_with_len}
use Rattle.std.proofs.lemmas.List.{append_assoc}
use Rattle.unwrapped_lines.proofs.viewed.push_numbers.Goals as goal

pub loop-number-preserved : goal.loop-number-preserved
loop-number-preserved c =
    let old = c.loop-number.numbers.items in
    let k = c.loop-number.number in
    let n = c.args.first + c.args.count - (k + 1) in
    let e : suc n ≡ c.args.first + c.args.count - k = omega (arith, c.loop-number-test.true) in
    record {
      same =
          ap (λ (x : List ℕ). x ++ range_with_len (k + 1) n) c.push_reserved.ensures.items
          ∙ append_assoc old (k ∷ []) (range_with_len (k + 1) n)
          ∙ ap (λ (m : ℕ). old ++ range_with_len k m) e
          ∙ c.loop-number.invariant.same;
      count = omega (arith, c.loop-number.invariant.count, c.push_reserved.ensures.len);
      room = c.push_reserved.ensures.capacity ∙ c.loop-number.invariant.room;
      low = omega (arith, c.loop-number.invariant.low);
      high = omega (arith, c.loop-number-test.true);
    }
