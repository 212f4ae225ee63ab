use Rattle.std.proofs.Common.{refl}
use Rattle.format_cli.proofs.input.write_text.Goals as goal

pub returns-in-Ok-clause-done : goal.returns-in-Ok-clause-done
returns-in-Ok-clause-done g c = (refl, c.in-Ok.ensures.ok)

pub returns-in-Ok-clause-counts : goal.returns-in-Ok-clause-counts
returns-in-Ok-clause-counts g c = λ f.
    record { source = refl; out = c.in-Ok.ensures.counts.cause; notes = refl; files = refl; misses = refl }

pub returns-in-Err-clause-refused : goal.returns-in-Err-clause-refused
returns-in-Err-clause-refused g c = (refl, c.in-Err.ensures.part)

pub returns-in-Err-clause-counts : goal.returns-in-Err-clause-counts
returns-in-Err-clause-counts g c = λ f.
    (record { source = refl; out = refl; notes = refl; files = refl; misses = refl }, c.in-Err.ensures.counts.cause)

pub returns-in-Ok-clause-refused : goal.returns-in-Ok-clause-refused
returns-in-Ok-clause-refused g c = tt

pub returns-in-Err-clause-done : goal.returns-in-Err-clause-done
returns-in-Err-clause-done g c = tt
