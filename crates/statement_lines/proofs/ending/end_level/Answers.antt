use Rattle.std.proofs.Common.{◌∙◌, ◌∷◌, ap, reverse, sym}
use Rattle.statement_lines.specs.Tree.{level_of_list}
use Rattle.statement_lines.proofs.EndLemmas.{end_found, leads_from_file, leads_within, whole_within}
use Rattle.statement_lines.proofs.ending.end_level.Goals as goal

pub loop-opened-init : goal.loop-opened-init
loop-opened-init c = leads_from_file _ _ _ _ _ c.new-stack.ensures.items c.whole_file.ensures c.in_ok-push_open.ensures.items

pub returns-then-place-opened : goal.returns-then-place-opened
returns-then-place-opened c =
    c.level_of_list.ensures ∙ ap (λ below. level_of_list (c.in-Some.opened ∷ reverse below)) c.deref.ensures.value
    ∙ end_found c.args.braces.now c.args.tokens.now c.pop.new.self.items c.loop-opened.stack.items c.in-Some.opened c.loop-opened.place.start c.loop-opened.place.at
    c.in-Some.ensures.items c.loop-opened.invariant c.if-place-opened.true

pub form_of-form-requires-clause-list : goal.form_of-form-requires-clause-list
form_of-form-requires-clause-list c = whole_within _ _ _ _ _ _ (leads_within _ _ _ _ _ _ _ c.in-Some.ensures.items c.loop-opened.invariant)

pub form_of-form-requires-clause-low : goal.form_of-form-requires-clause-low
form_of-form-requires-clause-low c = (leads_within _ _ _ _ _ _ _ c.in-Some.ensures.items c.loop-opened.invariant).open_lists.1.0

pub form_of-form-requires-clause-case_low : goal.form_of-form-requires-clause-case_low
form_of-form-requires-clause-case_low c = (leads_within _ _ _ _ _ _ _ c.in-Some.ensures.items c.loop-opened.invariant).open_lists.1.1.0

pub form_of-form-requires-clause-start_low : goal.form_of-form-requires-clause-start_low
form_of-form-requires-clause-start_low c = c.loop-opened.invariant.low

pub skip_line-requires-clause-leads : goal.skip_line-requires-clause-leads
skip_line-requires-clause-leads c = leads_within _ _ _ _ _ _ _ c.in-Some.ensures.items c.loop-opened.invariant

pub skip_line-requires-clause-form : goal.skip_line-requires-clause-form
skip_line-requires-clause-form c = sym c.form_of-form.ensures.same

pub loop-opened-smaller : goal.loop-opened-smaller
loop-opened-smaller c = c.in_ok-place.ensures.up

pub loop-opened-preserved : goal.loop-opened-preserved
loop-opened-preserved c = c.in_ok-place.ensures.leads
