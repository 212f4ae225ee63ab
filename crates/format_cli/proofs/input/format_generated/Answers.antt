use Rattle.std.proofs.Common.{ap, inl, refl}
use Rattle.format_core.specs.TextOf.{text_of}
use Rattle.format_core.specs.declared.formatted.Formatted.{Formatted}
use Rattle.format_cli.proofs.Done.{tells}
use Rattle.format_cli.proofs.Ends.{keeps_self}
use Rattle.format_cli.proofs.Rest.{passed}
use Rattle.format_cli.proofs.input.format_generated.Goals as goal

pub returns-in_err-made-clause-refused : goal.returns-in_err-made-clause-refused
returns-in_err-made-clause-refused g c =
    rw (passed c.from_residual.result c.in_err-made.field-0.0 c.from_residual.ensures)
    (rw (c.deref.ensures.value, c.in-Ok.ensures) at c.in_err-made.ensures.refused)

pub returns-in_err-made-clause-counts : goal.returns-in_err-made-clause-counts
returns-in_err-made-clause-counts g c = λ f.
    rw (passed c.from_residual.result c.in_err-made.field-0.0 c.from_residual.ensures) (c.in_err-made.ensures.counts f)

pub returns-clause-done : goal.returns-clause-done
returns-clause-done g c =
    let made = c.in_ok-made.made in
    let told = rw (c.deref.ensures.value, c.in-Ok.ensures) at c.in_ok-made.ensures.told in
    rw (ap (λ (made : Formatted). made.changed) c.made.view_is)
    ((text_of made.laid, told.0, told.1), tells made.changed _ (text_of made.laid) (rw (c.deref.ensures.value, c.in-Ok.ensures) at c.in_ok-made.ensures.changed))

pub returns-clause-counts : goal.returns-clause-counts
returns-clause-counts g c = λ f. c.in_ok-made.ensures.counts f

pub returns-in_err-made-clause-done : goal.returns-in_err-made-clause-done
returns-in_err-made-clause-done g c = rw (passed c.from_residual.result c.in_err-made.field-0.0 c.from_residual.ensures) tt

pub returns-clause-refused : goal.returns-clause-refused
returns-clause-refused g c = tt

pub returns-in-Err-clause-done : goal.returns-in-Err-clause-done
returns-in-Err-clause-done g c = tt

pub returns-in-Err-clause-refused : goal.returns-in-Err-clause-refused
returns-in-Err-clause-refused g c = inl (keeps_self _, tt)

pub returns-in-Err-clause-counts : goal.returns-in-Err-clause-counts
returns-in-Err-clause-counts g c = λ f. record { source = refl; out = refl; notes = refl; files = refl; misses = refl }
