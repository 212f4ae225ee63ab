use Rattle.std.proofs.Common.{◌∙◌, ap, map}
use Rattle.pp_items.specs.View.{section_shown}
use Rattle.pp_directives.specs.WorldView.{world_shown}
use Rattle.pp_text.specs.Unread.{whole, entered}
use Rattle.pp_text.specs.ReadingView.{rules_shown, unread_shown, waiting_shown, sections_shown}
use Rattle.pp_text.proofs.Walks.{whole_begun}
use Rattle.pp_text.proofs.reading.Reading.read_include.Goals as goal

pub returns-in_ok-begin_text-in-Some-clause-shown : goal.returns-in_ok-begin_text-in-Some-clause-shown
returns-in_ok-begin_text-in-Some-clause-shown c =
    let rules = rules_shown c.args.rules.now in
    let old = c.args.self.now in
    let w = world_shown c.included.new.world in
    ap (λ r. whole rules r) c.in_ok-begin_text-in-Some.ensures.shown
    ∙ whole_begun rules (unread_shown old.text) c.args.next (map waiting_shown old.waiting.items) w _ (map section_shown c.in-Some.sections.items)
    (c.in_ok-included.ensures.shown ∙ ap (λ o. entered rules old.text.depth (sections_shown o) w) c.in-Some.is)
