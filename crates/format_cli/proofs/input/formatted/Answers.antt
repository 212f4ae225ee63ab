use Rattle.std.proofs.Common.{refl}
use Rattle.c_chars.specs.declared.Dialect.TheVariants.{C11}
use Rattle.pp_model.proofs.Alike.{alike}
use Rattle.format_cli.proofs.Refusals.{text_cause, text_raises}
use Rattle.format_cli.proofs.input.formatted.Goals as goal

pub returns-in-Ok-clause-formats : goal.returns-in-Ok-clause-formats
returns-in-Ok-clause-formats c =
    let made = c.in-Ok.ensures.formats in (
      record {
        fits = c.in-Ok.ensures.fits;
        reports = c.in-Ok.formatted.reports.now;
        counts = c.in-Ok.formatted.counts;
        formats = made.formats;
        counted = made.counted;
        twins = c.in-Ok.ensures.twins;
        alike = alike C11 _ _ c.in-Ok.ensures.twins;
      },
      refl,
      refl,
    )

pub returns-in-Ok-clause-counts : goal.returns-in-Ok-clause-counts
returns-in-Ok-clause-counts c = λ f. record { source = refl; out = refl; notes = refl; files = refl; misses = refl }

pub returns-in-Err-clause-refused : goal.returns-in-Err-clause-refused
returns-in-Err-clause-refused c = rw c.text_refusal.ensures (text_cause c.args.name c.args.text.now c.in-Err.fault c.in-Err.ensures.fault)

pub returns-in-Err-clause-counts : goal.returns-in-Err-clause-counts
returns-in-Err-clause-counts c = λ f. rw c.text_refusal.ensures (text_raises c.args.name c.in-Err.fault f)

pub returns-in-Ok-clause-changed : goal.returns-in-Ok-clause-changed
returns-in-Ok-clause-changed c = c.in-Ok.ensures.changed

pub returns-in-Ok-clause-refused : goal.returns-in-Ok-clause-refused
returns-in-Ok-clause-refused c = tt

pub returns-in-Err-clause-formats : goal.returns-in-Err-clause-formats
returns-in-Err-clause-formats c = tt

pub returns-in-Err-clause-changed : goal.returns-in-Err-clause-changed
returns-in-Err-clause-changed c = tt
