use Rattle.std.proofs.Common.{arith, length}
use Rattle.token_arena.specs.Sections.{sections_of}
use Rattle.token_arena.proofs.Whole.{sections_are_cut, directive_within}
use Rattle.token_arena.proofs.directives.keeping.kept_after_name.Goals as goal

pub overflow_add-hash : goal.overflow_add-hash
overflow_add-hash c =
    let arena = c.args.arena.now in
    let within = directive_within (sections_of arena) 0 (length arena.tokens) c.requires.0 c.args.directive.now (sections_are_cut arena) c.requires.1 c.requires.2 in
    omega (arith, within.2)

pub keeps_after_name-requires : goal.keeps_after_name-requires
keeps_after_name-requires c =
    let arena = c.args.arena.now in
    let within = directive_within (sections_of arena) 0 (length arena.tokens) c.requires.0 c.args.directive.now (sections_are_cut arena) c.requires.1 c.requires.2 in
    within.3
