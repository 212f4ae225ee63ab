use Rattle.std.proofs.Common.{arith}
use Rattle.directive_layout.proofs.Laid.{directive_bounds}
use Rattle.early_gaps.proofs.all_directives.directive.lay_directive.Goals as goal

pub overflow_add-first : goal.overflow_add-first
overflow_add-first c =
    let bounds = directive_bounds c.args.arena.now c.args.dir.now c.requires.there in
    omega (arith, bounds.1, c.operand_first-first.ensures.within, c.len-count.ensures.count, c.len-count.ensures.most)

pub lay_with_roles-requires-clause-within : goal.lay_with_roles-requires-clause-within
lay_with_roles-requires-clause-within c = (directive_bounds c.args.arena.now c.args.dir.now c.requires.there).1
