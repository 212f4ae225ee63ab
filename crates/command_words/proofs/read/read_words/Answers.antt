use Rattle.std.proofs.Common.{arith}
use Rattle.std.proofs.lemmas.Grind.{common_steps}
use Rattle.command_words.proofs.read.read_words.Goals as goal

pub returns-clause-reads : goal.returns-clause-reads
returns-clause-reads c = grind (arith, common_steps)

pub returns-then-said-clause-reads : goal.returns-then-said-clause-reads
returns-then-said-clause-reads c = grind (arith, common_steps)

pub returns-in_default-clause-reads : goal.returns-in_default-clause-reads
returns-in_default-clause-reads c = grind (arith, common_steps)

pub returns-in_default-generate_in-clause-reads : goal.returns-in_default-generate_in-clause-reads
returns-in_default-generate_in-clause-reads c = grind (arith, common_steps)

pub returns-in_err-said-clause-reads : goal.returns-in_err-said-clause-reads
returns-in_err-said-clause-reads c = grind (arith, common_steps)
