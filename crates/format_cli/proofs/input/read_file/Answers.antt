use Rattle.std.proofs.Common.{ℕ, refl}
use Rattle.std.specs.Prelude.{Vec}
use Rattle.std.specs.declared.alloc.Global.{Global}
use Rattle.format_cli.proofs.Refusals.{file_raises, read_refused}
use Rattle.format_cli.proofs.input.read_file.Goals as goal

pub returns-in-Ok-clause-bytes : goal.returns-in-Ok-clause-bytes
returns-in-Ok-clause-bytes g c = c.in-Ok.ensures.bytes.1

pub returns-in-Ok-clause-counts : goal.returns-in-Ok-clause-counts
returns-in-Ok-clause-counts g c = λ f.
    record { source = refl; out = refl; notes = refl; files = c.in-Ok.ensures.counts.cause.0; misses = c.in-Ok.ensures.counts.cause.1 }

pub returns-in-Err-clause-refused : goal.returns-in-Err-clause-refused
returns-in-Err-clause-refused g c = rw c.file_refusal.ensures (read_refused _ c.args.name c.in-Err.fault c.in-Err.ensures.bytes)

pub returns-in-Err-clause-counts : goal.returns-in-Err-clause-counts
returns-in-Err-clause-counts g c = λ f. rw c.file_refusal.ensures (file_raises (Vec ℕ Global) c.args.name c.in-Err.fault f _ _ _ _ c.in-Err.ensures.counts.cause)

pub returns-in-Ok-clause-refused : goal.returns-in-Ok-clause-refused
returns-in-Ok-clause-refused g c = tt

pub returns-in-Ok-clause-same : goal.returns-in-Ok-clause-same
returns-in-Ok-clause-same g c = c.in-Ok.ensures.same

pub returns-in-Err-clause-bytes : goal.returns-in-Err-clause-bytes
returns-in-Err-clause-bytes g c = tt

pub returns-in-Err-clause-same : goal.returns-in-Err-clause-same
returns-in-Err-clause-same g c = c.in-Err.ensures.same
