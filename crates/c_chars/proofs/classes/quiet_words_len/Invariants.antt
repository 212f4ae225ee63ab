use Rattle.std.proofs.Common.{◌≤◌}
use Rattle.std.specs.List.{prefix_len}
use Rattle.c_chars.specs.Characters.{is_quiet_comment}
use Rattle.c_chars.proofs.classes.quiet_words_len.Given as goal

abbrev pub invariant-loop-len : goal.invariant-loop-len
invariant-loop-len l = l.len ≤ prefix_len is_quiet_comment l.bytes

abbrev pub decreases-loop-len : goal.decreases-loop-len
decreases-loop-len l = l.len
