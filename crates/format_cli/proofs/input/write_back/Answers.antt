use Rattle.std.proofs.Common.{refl}
use Rattle.format_cli.proofs.Ends.{keeps_all_self}
use Rattle.format_cli.proofs.Refusals.{file_raises, not_written}
use Rattle.format_cli.proofs.input.write_back.Goals as goal

pub returns-in-Err-clause-refused : goal.returns-in-Err-clause-refused
returns-in-Err-clause-refused g c = keeps_all_self _

pub returns-in-Err-clause-counts : goal.returns-in-Err-clause-counts
returns-in-Err-clause-counts g c = λ f. record { source = refl; out = refl; notes = refl; files = refl; misses = refl }

pub returns-in-Ok-write-clause-done : goal.returns-in-Ok-write-clause-done
returns-in-Ok-write-clause-done g c =
    (refl, rw (c.deref.ensures.value, c.in-Ok.ensures) at c.in-Ok-write.ensures.bytes, c.in-Ok-write.ensures.others)

pub returns-in-Ok-write-clause-counts : goal.returns-in-Ok-write-clause-counts
returns-in-Ok-write-clause-counts g c = λ f.
    record { source = refl; out = refl; notes = refl; files = c.in-Ok-write.ensures.counts.cause.0; misses = c.in-Ok-write.ensures.counts.cause.1 }

pub returns-clause-refused : goal.returns-clause-refused
returns-clause-refused g c =
    rw c.file_refusal.ensures (not_written _ _ c.args.name c.deref.result.now c.in-Err-write.fault c.in-Err-write.ensures.bytes c.in-Err-write.ensures.others)

pub returns-clause-counts : goal.returns-clause-counts
returns-clause-counts g c = λ f. rw c.file_refusal.ensures (file_raises Unit c.args.name c.in-Err-write.fault f _ _ _ _ c.in-Err-write.ensures.counts.cause)

pub returns-in-Err-clause-done : goal.returns-in-Err-clause-done
returns-in-Err-clause-done g c = tt

pub returns-in-Ok-write-clause-refused : goal.returns-in-Ok-write-clause-refused
returns-in-Ok-write-clause-refused g c = tt

pub returns-clause-done : goal.returns-clause-done
returns-clause-done g c = tt
