use Rattle.std.proofs.Common.{◌≡◌, false, true, rules}
use Rattle.frame_store.proofs.Tests.{both_on_true, first_not, second_not}
use Rattle.frame_store.proofs.node.is_same_node.Goals as goal

pub returns-then-not-is_same_below-clause-no : goal.returns-then-not-is_same_below-clause-no
returns-then-not-is_same_below-clause-no c =
    let differs : c.is_same_below.result ≡ false = search rules in
    λ frames belows. second_not _ _ c.is_same_below.ensures differs belows

pub returns-clause-yes : goal.returns-clause-yes
returns-clause-yes c =
    let same : c.is_same_below.result ≡ true = search rules in
    both_on_true _ _ _ c.is_same_frame.ensures (c.is_same_below.ensures.0 same)

pub returns-clause-no : goal.returns-clause-no
returns-clause-no c = first_not _ _ _ c.is_same_frame.ensures
