use Rattle.searched_line.proofs.line.SearchedLine.rules_into.Goals as goal

pub returns : goal.returns
returns c = λ left right one other. c.rules_before.ensures left right one other
