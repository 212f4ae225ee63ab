use Rattle.std.proofs.Common.{◌≡◌, drop, length}
use Rattle.replacements.specs.Decisions.{decided_all}
use Rattle.run_parts.specs.KeptGaps.{kept_decisions}
use Rattle.run_parts.proofs.kept.keep_gaps.Given as goal

abbrev pub invariant-loop-place : goal.invariant-loop-place
invariant-loop-place l = record {
  len : length l.plan ≡ length l.initial.plan;
  rest : decided_all l.plan (kept_decisions l.style l.arena l.column (drop l.place l.view) (drop l.place l.marks)) ≡ decided_all l.initial.plan (kept_decisions l.style l.arena 0 l.view l.marks);
}
