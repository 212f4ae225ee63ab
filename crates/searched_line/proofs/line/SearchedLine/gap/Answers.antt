use Rattle.std.proofs.Common.{ap}
use Rattle.line_state.specs.Line.{Line}
use Rattle.searched_line.proofs.Ruling.{gap_within, gap_before_token}
use Rattle.searched_line.proofs.line.SearchedLine.gap.Goals as goal

pub gap_at-requires : goal.gap_at-requires
gap_at-requires c =
    gap_within _ _ _ _ c.args.self.now _ (ap (λ (l : Line). l.style) c.self.view_is) (ap (λ (l : Line). l.tokens) c.self.view_is) (ap (λ (l : Line). l.fixed) c.self.view_is) c.self.invariant.0 c.requires.some c.requires.at

pub returns : goal.returns
returns c =
    gap_before_token _ _ _ _ c.args.self.now _ (ap (λ (l : Line). l.style) c.self.view_is) (ap (λ (l : Line). l.tokens) c.self.view_is) (ap (λ (l : Line). l.fixed) c.self.view_is) c.self.invariant.0 c.requires.some _ c.gap_at.ensures
