use Rattle.std.proofs.Common.{◌≡◌, ◌+◌, length}
use Rattle.c_chars.proofs.Moved.{IsPassed}
use Rattle.c_chars.proofs.alone.first_character.Given as goal

abbrev pub invariant-loop-rest : goal.invariant-loop-rest
invariant-loop-rest l = record {
  passed : IsPassed l.dialect l.bytes l.rest l.before;
  count : l.before + length l.rest ≡ length l.bytes;
}

abbrev pub decreases-loop-rest : goal.decreases-loop-rest
decreases-loop-rest l = length l.rest
