use Rattle.std.proofs.Common.{inl, refl}
use Rattle.format_core.specs.TextOf.{text_of}
use Rattle.format_cli.specs.Options.{values_of}
use Rattle.format_cli.proofs.Done.{text_told, text_untold}
use Rattle.format_cli.proofs.Ends.{keeps_self}
use Rattle.format_cli.proofs.Rest.{passed}
use Rattle.format_cli.proofs.input.format_and_tell.Goals as goal

pub returns-in_err-formatted-clause-refused : goal.returns-in_err-formatted-clause-refused
returns-in_err-formatted-clause-refused g c =
    rw (passed c.from_residual.result c.in_err-formatted.field-0.0 c.from_residual.ensures)
    (inl (keeps_self _, c.in_err-formatted.ensures.refused))

pub returns-in_err-formatted-clause-counts : goal.returns-in_err-formatted-clause-counts
returns-in_err-formatted-clause-counts g c = λ f.
    rw (passed c.from_residual.result c.in_err-formatted.field-0.0 c.from_residual.ensures)
    (c.in_err-formatted.ensures.counts (record f { notes = g.E.Sink.faults c.args.notes.now }))

pub returns-in-Ok-clause-told : goal.returns-in-Ok-clause-told
returns-in-Ok-clause-told g c =
    let made = c.in_ok-formatted.formatted in
    text_told (values_of c.args.options.now) c.args.place c.args.name.now c.args.text.now (text_of made.laid) made.reports.now made.counts made.changed _ _ c.in_ok-formatted.ensures.formats c.in_ok-formatted.ensures.changed c.in-Ok.ensures.ok

pub returns-in-Ok-clause-changed : goal.returns-in-Ok-clause-changed
returns-in-Ok-clause-changed g c = c.in_ok-formatted.ensures.changed

pub returns-in-Ok-clause-counts : goal.returns-in-Ok-clause-counts
returns-in-Ok-clause-counts g c = λ f.
    record { source = refl; out = refl; notes = c.in-Ok.ensures.counts.cause; files = refl; misses = refl }

pub returns-clause-refused : goal.returns-clause-refused
returns-clause-refused g c =
    let made = c.in_ok-formatted.formatted in
    text_untold (values_of c.args.options.now) c.args.place c.args.name.now c.args.text.now (text_of made.laid) made.reports.now made.counts made.changed _ _ c.in_ok-formatted.ensures.formats c.in_ok-formatted.ensures.changed c.in-Err.ensures.part

pub returns-clause-counts : goal.returns-clause-counts
returns-clause-counts g c = λ f.
    (record { source = refl; out = refl; notes = refl; files = refl; misses = refl }, c.in-Err.ensures.counts.cause)

pub returns-in_err-formatted-clause-told : goal.returns-in_err-formatted-clause-told
returns-in_err-formatted-clause-told g c = rw (passed c.from_residual.result c.in_err-formatted.field-0.0 c.from_residual.ensures) tt

pub returns-in_err-formatted-clause-changed : goal.returns-in_err-formatted-clause-changed
returns-in_err-formatted-clause-changed g c = rw (passed c.from_residual.result c.in_err-formatted.field-0.0 c.from_residual.ensures) tt

pub returns-in-Ok-clause-refused : goal.returns-in-Ok-clause-refused
returns-in-Ok-clause-refused g c = tt

pub returns-clause-told : goal.returns-clause-told
returns-clause-told g c = tt

pub returns-clause-changed : goal.returns-clause-changed
returns-clause-changed g c = tt
