use Rattle.std.proofs.Common.{ap}
use Rattle.line_state.specs.Layout.{layout_of}
use Rattle.line_state.specs.Line.{Line}
use Rattle.searched_line.proofs.LineSteps.{went}
use Rattle.searched_line.proofs.line.SearchedLine.go.Goals as goal

pub returns : goal.returns
returns c =
    went c.args.self.now (layout_of c.args.state.now) _ _ _ c.requires.some c.token_before-left.ensures c.token-right.ensures c.decision-fixed.ensures _ c.args.brk _ c.advance.new.state (ap (λ (l : Line). l.style) c.self.view_is) c.requires.leads c.in_ok-advance.ensures.layout
    c.in_ok-advance.ensures.cost c.in_ok-advance.ensures.bound
