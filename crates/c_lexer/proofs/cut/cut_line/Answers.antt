use Rattle.c_lexer.proofs.CutOffs.{line_off}
use Rattle.c_lexer.proofs.cut.cut_line.Goals as goal

pub returns : goal.returns
returns c = line_off c.args.text.now c.behind.result c.behind_line.result c.requires c.behind.ensures c.behind_line.ensures
