use Rattle.std.proofs.Common.{◌≡◌, ◌≤◌, drop}
use Rattle.pp_directives.proofs.LineNumbers.{value_from}
use Rattle.pp_directives.specs.LineNumber.{digits_value}
use Rattle.pp_directives.proofs.lines.digits_value.Given as goal

abbrev pub invariant-loop-byte : goal.invariant-loop-byte
invariant-loop-byte l = record { same : value_from l.number (drop l.byte-index l.text) ≡ digits_value l.text; small : l.number ≤ 2147483647 }
