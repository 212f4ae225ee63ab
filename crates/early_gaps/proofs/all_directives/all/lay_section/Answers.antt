use Rattle.early_gaps.proofs.AllSound.{section_step}
use Rattle.early_gaps.proofs.all_directives.all.lay_section.Goals as goal

pub returns-in_ok-lay_directive-in-Dir-clause-plan : goal.returns-in_ok-lay_directive-in-Dir-clause-plan
returns-in_ok-lay_directive-in-Dir-clause-plan c = λ later.
    section_step c.args.style.now c.args.arena.now c.args.conditionals.now c.pass.new.self c.nesting_of.result c.args.section.now c.in-Dir.dir c.in_ok-depth-in-Dir.depth c.args.plan.now c.lay_directive.new.plan later
    c.in-Dir.is c.nesting_of.ensures c.in_ok-depth-in-Dir.ensures.depth c.in_ok-depth-in-Dir.ensures.behind c.in_ok-lay_directive-in-Dir.ensures.plan
