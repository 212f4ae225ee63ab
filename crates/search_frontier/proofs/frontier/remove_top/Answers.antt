use Rattle.std.proofs.lemmas.List.Sorted.{IsPermutation-trans}
use Rattle.std.proofs.lemmas.Option.{MatchOption-at_some}
use Rattle.std.proofs.Common.{rules}
use Rattle.search_frontier.proofs.frontier.remove_top.Goals as goal

pub returns-clause-permutation : goal.returns-clause-permutation
returns-clause-permutation c =
    let top = c.unwrap-top.result in
    let rest = MatchOption-at_some _ _ top c.unwrap-top.ensures c.peek_mut.ensures.rest in
    let whole = IsPermutation-trans _ _ _ rest c.pop.ensures.permutation in
    search rules
