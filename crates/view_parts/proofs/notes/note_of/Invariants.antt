use Rattle.std.proofs.Common.{◌≡◌, ◌≤◌, length}
use Rattle.view_parts.specs.Notes.{note_of}
use Rattle.view_parts.proofs.notes.note_of.Given as goal

abbrev pub invariant-loop-place : goal.invariant-loop-place
invariant-loop-place l = record {
  within : l.place ≤ length l.notes;
  same : note_of l.notes l.id l.place ≡ note_of l.notes l.id l.newest;
}

abbrev pub decreases-loop-place : goal.decreases-loop-place
decreases-loop-place l = l.place
