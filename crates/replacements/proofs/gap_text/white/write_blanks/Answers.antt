use Rattle.replacements.proofs.Blanks.{blanks_front}
use Rattle.replacements.proofs.gap_text.white.write_blanks.Goals as goal

pub returns-then-count-le64-clause-ok : goal.returns-then-count-le64-clause-ok
returns-then-count-le64-clause-ok g c = rw (blanks_front c.args.count c.if-count-le64.true) at c.write_front.ensures.ok

pub returns-then-count-le64-clause-part : goal.returns-then-count-le64-clause-part
returns-then-count-le64-clause-part g c = rw (blanks_front c.args.count c.if-count-le64.true) at c.write_front.ensures.part
