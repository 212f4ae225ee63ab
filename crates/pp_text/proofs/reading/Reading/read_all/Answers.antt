use Rattle.std.proofs.Common.{◌∙◌, ap, sym}
use Rattle.pp_text.specs.ReadingView.{rules_shown, reading_shown}
use Rattle.pp_text.proofs.Walks.{whole_over}
use Rattle.pp_text.proofs.reading.Reading.read_all.Goals as goal

pub returns-then-reading-clause-shown : goal.returns-then-reading-clause-shown
returns-then-reading-clause-shown c =
    sym (whole_over (rules_shown c.args.rules.now) (reading_shown c.sections.reading) c.if-reading.true)
    ∙ ap (λ w. w.events) c.sections.invariant
