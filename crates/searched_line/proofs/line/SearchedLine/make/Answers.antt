use Rattle.searched_line.proofs.line.SearchedLine.make.Goals as goal

pub invariant_of-result : goal.invariant_of-result
invariant_of-result c = (c.in_ok-ahead.ensures.gaps, c.in_ok-ahead.ensures.stretches c.args.column)
