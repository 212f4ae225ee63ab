use Rattle.std.proofs.Common.{◌≡◌, length}
use Rattle.pp_model.specs.Finding.{are_units}
use Rattle.pp_items.specs.Units.{passes}
use Rattle.pp_items.proofs.unit.Units.are_units.Given as goal

abbrev pub invariant-loop-rest : goal.invariant-loop-rest
invariant-loop-rest l = are_units (passes l.self) l.rest ≡ are_units (passes l.self) l.text

abbrev pub decreases-loop-rest : goal.decreases-loop-rest
decreases-loop-rest l = length l.rest
