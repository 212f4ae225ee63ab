use Rattle.std.proofs.Common.{◌≡◌, ◌++◌, length}
use Rattle.c_grammar.specs.Rewritten.{read_alone}
use Rattle.item_classes.proofs.spelling.joined.Given as goal

abbrev pub invariant-loop-byte : goal.invariant-loop-byte
invariant-loop-byte l = l.spelled.items ++ read_alone l.dialect l.rest ≡ read_alone l.dialect l.raw

abbrev pub decreases-loop-byte : goal.decreases-loop-byte
decreases-loop-byte l = length (read_alone l.dialect l.rest)
