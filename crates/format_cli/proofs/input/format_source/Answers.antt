use Rattle.command_refusals.proofs.Counts.{counted_after, raises_after, same_after}
use Rattle.command_refusals.proofs.Results.{err_map, ok_follows}
use Rattle.format_core.specs.TextOf.{text_of}
use Rattle.format_cli.specs.Options.{values_of}
use Rattle.format_cli.proofs.Done.{source_refused, source_untold, tells}
use Rattle.format_cli.proofs.Ends.{keeps_self}
use Rattle.format_cli.proofs.Rest.{passed}
use Rattle.format_cli.proofs.input.format_source.Goals as goal

pub returns-in_err-text-clause-refused : goal.returns-in_err-text-clause-refused
returns-in_err-text-clause-refused g c =
    rw (passed c.from_residual.result c.in_err-text.field-0.0 c.from_residual.ensures)
    (source_refused (values_of c.args.options.now) c.args.place (g.S.Source.left c.args.source.now) _ _ _ c.in_err-text.field-0.0 (keeps_self _) c.in_err-text.ensures.refused)

pub returns-in_err-text-clause-counts : goal.returns-in_err-text-clause-counts
returns-in_err-text-clause-counts g c = λ f.
    rw (passed c.from_residual.result c.in_err-text.field-0.0 c.from_residual.ensures)
    (c.in_err-text.ensures.counts (record f { out = g.K.Sink.faults c.args.out.now; notes = g.E.Sink.faults c.args.notes.now }))

pub returns-in_err-made-clause-refused : goal.returns-in_err-made-clause-refused
returns-in_err-made-clause-refused g c =
    rw (passed c.from_residual-in_err-made.result c.in_err-made.field-0.0 c.from_residual-in_err-made.ensures)
    (source_untold (values_of c.args.options.now) c.args.place (g.S.Source.left c.args.source.now) _ _ _ c.in_ok-text.text.items c.in_err-made.field-0.0 c.in_ok-text.ensures.bytes (rw c.deref.ensures.value at c.in_err-made.ensures.refused))

pub returns-in_err-made-clause-counts : goal.returns-in_err-made-clause-counts
returns-in_err-made-clause-counts g c = λ f.
    rw (passed c.from_residual-in_err-made.result c.in_err-made.field-0.0 c.from_residual-in_err-made.ensures)
    (raises_after c.in_err-made.field-0.0 _ _ _
    (c.in_ok-text.ensures.counts (record f { out = g.K.Sink.faults c.args.out.now; notes = g.E.Sink.faults c.args.notes.now }))
    (c.in_err-made.ensures.counts (record f { source = g.S.Source.faults c.read_source.new.source; out = g.K.Sink.faults c.args.out.now })))

pub returns-clause-done : goal.returns-clause-done
returns-clause-done g c =
    let made = c.in_ok-made.made in
    let told = rw c.deref.ensures.value at c.in_ok-made.ensures.told in
    let changed = rw c.deref.ensures.value at c.in_ok-made.ensures.changed in
    ok_follows _ _ c.put_source.result
    (λ changes k. rw k.0
    ((c.in_ok-text.text.items, text_of made.laid, c.in_ok-text.ensures.bytes, told.0, k.1, told.1), tells made.changed c.in_ok-text.text.items (text_of made.laid) changed))
    c.put_source.ensures.done

pub returns-clause-refused : goal.returns-clause-refused
returns-clause-refused g c =
    let told = rw c.deref.ensures.value at c.in_ok-made.ensures.told in
    err_map _ _ c.put_source.result
    (λ refusal k. rw k.0 (c.in_ok-text.text.items, text_of c.in_ok-made.made.laid, c.in_ok-text.ensures.bytes, told.0, k.1, told.1))
    c.put_source.ensures.refused

pub returns-clause-counts : goal.returns-clause-counts
returns-clause-counts g c = λ f.
    let read = record f { source = g.S.Source.faults c.read_source.new.source } in
    counted_after _ c.put_source.result _ _ _
    (same_after _ _ _ (c.in_ok-text.ensures.counts (record f { out = g.K.Sink.faults c.args.out.now; notes = g.E.Sink.faults c.args.notes.now }))
    (c.in_ok-made.ensures.counts (record read { out = g.K.Sink.faults c.args.out.now })))
    (c.put_source.ensures.counts (record read { notes = g.E.Sink.faults c.format_and_tell.new.notes }))

pub returns-in_err-text-clause-done : goal.returns-in_err-text-clause-done
returns-in_err-text-clause-done g c = rw (passed c.from_residual.result c.in_err-text.field-0.0 c.from_residual.ensures) tt

pub returns-in_err-made-clause-done : goal.returns-in_err-made-clause-done
returns-in_err-made-clause-done g c = rw (passed c.from_residual-in_err-made.result c.in_err-made.field-0.0 c.from_residual-in_err-made.ensures) tt
