use Rattle.std.proofs.Common.{◌≤◌, ◌+◌, ◌*◌, ◌-◌, length}
use Rattle.std.specs.Prelude.{IsTrue}
use Rattle.branch_runs.specs.Anew.{items_between}
use Rattle.part_walk.specs.Places.{place_in}
use Rattle.run_parts.specs.Bounds.{AreBounds, BeginTold}
use Rattle.format_core.specs.PartByPart.{GoesOnFrom}
use Rattle.run_parts.specs.Runs.{seen_by}
use Rattle.format_core.specs.InStep.{AreInStep, IsBegun}
use Rattle.run_parts.specs.Windows.{place_before}
use Rattle.format_core.proofs.runs.lay_out_seen.Given as goal

abbrev pub invariant-loop-window : goal.invariant-loop-window
invariant-loop-window l = record {
  order : l.first ≤ l.end;
  new : l.turn.new_end ≤ l.end;
  place : place_before l.context.arena.now l.turn.number l.first ≤ length (seen_by l.context.arena.now l.turn.number);
  room : l.made.tally.searched ≤ l.initial.made.tally.searched + 67 * place_before l.context.arena.now l.turn.number l.first;
  state : AreInStep l.context.arena.now l.made l.known.ends l.known.spans.spans.items;
  begin : IsTrue l.turn.later → BeginTold l.context.arena.now (items_between 0 l.told (seen_by l.context.arena.now l.turn.number)) (place_before l.context.arena.now l.turn.number l.first) (place_in l.inside);
  begun : IsBegun l.context.arena.now l.made.plan (seen_by l.context.arena.now l.turn.number) (place_in l.inside) (place_before l.context.arena.now l.turn.number l.first);
  bounds : AreBounds l.context.arena.now (seen_by l.context.arena.now l.turn.number) l.known.bounds.items l.told;
  on : GoesOnFrom l.context.style.now l.context.budget l.context.arena.now l.turn.number l.initial.made.plan (seen_by l.context.arena.now l.turn.number) l.initial.made.tally l.made.plan (place_in l.inside) (place_before l.context.arena.now l.turn.number l.first) l.made.tally;
}

abbrev pub decreases-loop-window : goal.decreases-loop-window
decreases-loop-window l = l.items - l.end
