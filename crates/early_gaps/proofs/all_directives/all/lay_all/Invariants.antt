use Rattle.std.proofs.Common.{◌≡◌, ◌≤◌, length, drop}
use Rattle.replacements.specs.Decisions.{decided_all}
use Rattle.early_gaps.specs.AllLaid.{laid_in, all_laid}
use Rattle.early_gaps.proofs.all_directives.all.lay_all.Given as goal

abbrev pub invariant-loop-section : goal.invariant-loop-section
invariant-loop-section l = record {
  len : length l.plan ≡ length l.initial.plan;
  few : length l.conditionals ≤ l.section-index;
  rest : decided_all l.plan (laid_in l.style l.arena l.conditionals (drop l.section-index l.sections)) ≡ decided_all l.initial.plan (all_laid l.style l.arena);
}
