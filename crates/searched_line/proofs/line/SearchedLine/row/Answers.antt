use Rattle.searched_line.proofs.line.SearchedLine.row.Goals as goal

pub returns : goal.returns
returns c = λ left right one other. (c.gap.ensures left right one other).row
