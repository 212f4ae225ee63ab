use Rattle.std.proofs.Common.{ap}
use Rattle.line_state.specs.Layout.{layout_of}
use Rattle.line_state.specs.Line.{Line}
use Rattle.searched_line.proofs.LineSteps.{leads_on, leads_nowhere}
use Rattle.searched_line.proofs.Ruling.{ruled_by}
use Rattle.searched_line.proofs.line.SearchedLine.admits.Goals as goal

pub allowed_by-requires : goal.allowed_by-requires
allowed_by-requires c =
    ruled_by _ c.args.self.now.style _ _ _ (ap (λ (l : Line). l.style) c.self.view_is) (c.rules_before-rules.ensures _ _ c.token_before-left.ensures c.token-right.ensures)

pub returns-clause-yes : goal.returns-clause-yes
returns-clause-yes c =
    leads_on c.args.self.now (layout_of c.args.state.now) _ _ _ c.requires.some c.token_before-left.ensures c.token-right.ensures c.decision-fixed.ensures _ c.args.brk _ (ap (λ (l : Line). l.style) c.self.view_is) c.allowed_by.ensures

pub returns-clause-no : goal.returns-clause-no
returns-clause-no c =
    leads_nowhere c.args.self.now (layout_of c.args.state.now) _ _ _ c.requires.some c.token_before-left.ensures c.token-right.ensures c.decision-fixed.ensures _ c.args.brk _ (ap (λ (l : Line). l.style) c.self.view_is) c.allowed_by.ensures
