use Rattle.std.proofs.Common.{◌<◌, ◌≤◌, ◌+◌, ◌*◌, ◌-◌, List, Option, length}
use Rattle.std.specs.Prelude.{IsTrue}
use Rattle.branch_runs.specs.Anew.{items_between}
use Rattle.part_walk.specs.Places.{place_in}
use Rattle.replacements.specs.declared.slot.Slot.{Slot}
use Rattle.run_layout.specs.declared.report.Tally.{Tally}
use Rattle.run_parts.specs.Bounds.{AreBounds, BeginTold}
use Rattle.format_core.specs.PartByPart.{GoesOnFrom}
use Rattle.run_parts.specs.Runs.{seen_by}
use Rattle.format_core.specs.InStep.{AreInStep, IsBegun}
use Rattle.run_parts.specs.Windows.{place_before}
use Rattle.format_core.proofs.runs.lay_out_window.Given as goal

abbrev pub invariant-loop-way : goal.invariant-loop-way
invariant-loop-way l = record {
  inside : l.way.first ≤ length l.window.view;
  room : l.made.tally.searched ≤ l.initial.made.tally.searched + 67 * l.way.first;
  state : AreInStep l.context.arena.now l.made l.known.ends l.known.spans.spans.items;
  begin : IsTrue l.window.later → l.way.first < length l.window.view → BeginTold l.context.arena.now (items_between 0 l.way.told (seen_by l.context.arena.now l.window.number)) (place_before l.context.arena.now l.window.number l.window.first + l.way.first) (place_in l.way.inside);
  begun : IsBegun l.context.arena.now l.made.plan (seen_by l.context.arena.now l.window.number) (place_in l.way.inside) (place_before l.context.arena.now l.window.number l.window.first + l.way.first);
  bounds : AreBounds l.context.arena.now (seen_by l.context.arena.now l.window.number) l.known.bounds.items l.way.told;
  on : (plan : List (Option Slot)) (before : Tally)
      → GoesOnFrom l.context.style.now l.context.budget l.context.arena.now l.window.number plan (seen_by l.context.arena.now l.window.number) before l.initial.made.plan (place_in l.initial.way.inside) (place_before l.context.arena.now l.window.number l.window.first) l.initial.made.tally
      → GoesOnFrom l.context.style.now l.context.budget l.context.arena.now l.window.number plan (seen_by l.context.arena.now l.window.number) before l.made.plan (place_in l.way.inside) (place_before l.context.arena.now l.window.number l.window.first + l.way.first) l.made.tally;
}

abbrev pub decreases-loop-way : goal.decreases-loop-way
decreases-loop-way l = l.count - l.way.first
