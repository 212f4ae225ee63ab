use Rattle.std.proofs.Common.{◌≡◌, ◌≤◌, ◌<◌, ◌-◌, ◌*◌, ℕ, length}
use Rattle.run_parts.specs.Bounds.{AreBounds}
use Rattle.run_parts.specs.Runs.{seen_by}
use Rattle.format_core.specs.InStep.{AreInStep}
use Rattle.format_core.proofs.RunsTold.{GoesOnRuns}
use Rattle.run_parts.proofs.SeenEarlier.{AreSeenDecided}
use Rattle.format_core.proofs.runs.lay_out_runs.Given as goal

abbrev pub invariant-loop-number : goal.invariant-loop-number
invariant-loop-number l = record {
  room : l.made.tally.searched ≤ l.number * 4294967296;
  state : AreInStep l.context.arena.now l.made l.known.ends l.known.spans.spans.items;
  bounds : 0 < l.number → (told : ℕ) × AreBounds l.context.arena.now (seen_by l.context.arena.now (l.number - 1)) l.known.bounds.items told;
  none : l.number ≡ 0 → length l.known.bounds.items ≡ 0;
  seen : AreSeenDecided l.context.arena.now l.made.plan l.number;
  on : GoesOnRuns l.context.style.now l.context.budget l.context.arena.now l.initial.made.plan l.count l.initial.made.tally l.made.plan l.number (l.count - l.number) l.made.tally;
}
