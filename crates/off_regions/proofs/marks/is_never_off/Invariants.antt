use Rattle.off_regions.proofs.Marked.{ArePassed}
use Rattle.off_regions.proofs.marks.is_never_off.Given as goal

abbrev pub invariant-loop-id : goal.invariant-loop-id
invariant-loop-id l = ArePassed l.arena l.comments l.id-index
