use Rattle.std.proofs.lemmas.Bool.{OnTrue_from, OnFalse_from, ltb-true, ltb-false}
use Rattle.break_search.proofs.Counting.{over_by_count}
use Rattle.break_search.proofs.too_long.is_too_long.Goals as goal

pub returns : goal.returns
returns c = record {
  yes = OnTrue_from _ _ (λ holds. over_by_count c.args.count c.args.budget (ltb-true _ _ holds));
  no = OnFalse_from _ _ (λ fails. ltb-false _ _ fails);
}
