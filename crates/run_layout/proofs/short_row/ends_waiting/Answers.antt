use Rattle.std.proofs.Common.{arith}
use Rattle.run_layout.proofs.short_row.ends_waiting.Goals as goal

pub overflow_add-at : goal.overflow_add-at
overflow_add-at c = omega (arith, c.requires.within, c.requires.short)
