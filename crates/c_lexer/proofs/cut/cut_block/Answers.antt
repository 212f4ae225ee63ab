use Rattle.c_lexer.proofs.CutOffs.{block_off}
use Rattle.c_lexer.proofs.cut.cut_block.Goals as goal

pub returns : goal.returns
returns c = block_off c.args.text.now c.behind.result c.behind_block.result c.requires c.behind.ensures c.behind_block.ensures
