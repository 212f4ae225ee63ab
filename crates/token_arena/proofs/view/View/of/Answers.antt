use Rattle.std.proofs.Common.{rules, arith, ◌≡◌, ◌-◌}
use Rattle.std.specs.List.{range_with_len}
use Rattle.token_arena.proofs.IncreaseLemmas.{row_within}
use Rattle.token_arena.proofs.view.View.of.Goals as goal
use Rattle.token_arena.proofs.view.View.of.Goals.{then-first-end+in_ok-push, else-first-end}

pub returns-clause-within : goal.returns-clause-within
returns-clause-within c =
    let row : c.from_segments.result ≡ range_with_len c.args.first (c.args.end - c.args.first) = elim c.if-first-end.branch [
      | then-first-end+in_ok-push w ↦ search (rules, arith, c.from_segments.ensures.items)
      | else-first-end w ↦ search (rules, arith, c.from_segments.ensures.items)
    ] in
    row_within c.args.first c.args.end c.from_segments.result row
