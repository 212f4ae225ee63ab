use Rattle.c_grammar.proofs.White.{white_reads_so}
use Rattle.c_grammar.proofs.laws.white_reads_so.Goals as goal

pub returns : goal.returns
returns c = white_reads_so
