-- What is made of a text fits it where nothing failed.
use Rattle.std.proofs.Common.{◌≡◌, ◌+◌, ◌*◌, ◌≤◌, length}
use Rattle.std.specs.Prelude.{Result, Ok, Err, OnOk}
use Rattle.token_arena.specs.Gaps.{Contents}
use Rattle.line_gaps.specs.Counted.{IsCounted}
use Rattle.format_core.specs.declared.runs.Made.{Made}
use Rattle.format_core.specs.InStep.{IsMade}

pub made_so : {T E : Type 0} (r : Result T E) (arena : Contents) (made : Made) → OnOk r (length made.plan ≡ length arena.tokens + 1) → OnOk r (made.tally.cost ≤ made.tally.searched * 18446744073709551615)
    → OnOk r (IsCounted arena made.tally.lines) → OnOk r (IsMade arena made)
made_so (Ok x) arena made whole cheap counted = record { whole = whole; cheap = cheap; counted = counted }
made_so (Err e) arena made whole cheap counted = tt
