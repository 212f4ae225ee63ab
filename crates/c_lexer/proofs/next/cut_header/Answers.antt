use Rattle.c_lexer.proofs.Nexts.{header_there}
use Rattle.c_lexer.proofs.next.cut_header.Goals as goal

pub returns-in-BehindInclude : goal.returns-in-BehindInclude
returns-in-BehindInclude c = let e = c.in-BehindInclude.is in rw e (header_there c.args.text.now c.behind_header.result c.requires c.behind_header.ensures)
