use Rattle.std.proofs.Common.{◌∙◌, ap, sym}
use Rattle.statement_lines.specs.declared.open.Start.{Start}
use Rattle.statement_lines.specs.Forms.{form_of}
use Rattle.statement_lines.proofs.FormLemmas.{alone_stays, no_tail_form, tail_form}
use Rattle.statement_lines.proofs.forms.form_of.Goals.{in-Fresh, in-Tail+else-at-behind}
use Rattle.statement_lines.proofs.forms.form_of.Goals as goal

pub returns-then-at-behind-clause-same : goal.returns-then-at-behind-clause-same
returns-then-at-behind-clause-same c = tail_form _ _ c.args.opened _ _ c.tail_end-behind.result _ c.in-Tail.is c.tail_end-behind.ensures.same c.if-at-behind.true c.line_alone.ensures

pub returns-then-at-behind-clause-stays : goal.returns-then-at-behind-clause-stays
returns-then-at-behind-clause-stays c = alone_stays _ _ _ _ c.args.opened _ c.line_alone.ensures c.if-at-behind.true (c.tail_end-behind.ensures.most c.if-at-behind.true)

pub returns-in-Closing-clause-same : goal.returns-in-Closing-clause-same
returns-in-Closing-clause-same c = c.close_form.ensures.same ∙ ap (λ (s : Start). form_of c.args.braces.now c.args.tokens.now c.args.opened s c.args.at) (sym c.in-Closing.is)

pub returns-in-Closing-clause-stays : goal.returns-in-Closing-clause-stays
returns-in-Closing-clause-stays c = c.close_form.ensures.stays

pub returns-clause-same : goal.returns-clause-same
returns-clause-same c =
    elim c.match-start.branch [
      | in-Fresh w ↦ c.statement.ensures.same ∙ ap (λ (s : Start). form_of c.args.braces.now c.args.tokens.now c.args.opened s c.args.at) (sym w.in-Fresh.is)
      | in-Tail+else-at-behind w ↦ no_tail_form _ _ c.args.opened _ _ w.tail_end-behind.result _ w.in-Tail.is w.tail_end-behind.ensures.same w.if-at-behind.false c.statement.ensures.same
    ]

pub returns-clause-stays : goal.returns-clause-stays
returns-clause-stays c = c.statement.ensures.stays

pub returns-clause-level : goal.returns-clause-level
returns-clause-level c = c.statement.ensures.level
