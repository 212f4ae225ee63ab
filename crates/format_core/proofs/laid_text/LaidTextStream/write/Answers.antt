use Rattle.format_core.specs.TextOf.{text_of}
use Rattle.format_core.proofs.laid_text.LaidTextStream.write.Goals as goal

pub returns : goal.returns
unfolding text_of
returns g c = record { ok = c.write_out.ensures.ok; part = c.write_out.ensures.part; counts = c.write_out.ensures.counts }
