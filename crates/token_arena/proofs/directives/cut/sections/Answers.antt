use Rattle.token_arena.proofs.Whole.{sections_are_cut}
use Rattle.token_arena.proofs.directives.cut.sections.Goals as goal

pub returns-clause-cut : goal.returns-clause-cut
returns-clause-cut c = rw c.in_ok-sections.ensures (sections_are_cut c.args.arena.now)
