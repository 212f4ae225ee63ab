use Rattle.std.proofs.Common.{◌≡◌}
use Rattle.command_words.specs.Generated.{generated}
use Rattle.command_words.proofs.generator.generated.Given as goal

abbrev pub invariant-loop-index : goal.invariant-loop-index
invariant-loop-index l = l.text.items ≡ generated l.seed l.index
