use Rattle.std.proofs.lemmas.Bool.{OnTrue_at}
use Rattle.std.proofs.Common.{arith, length, ap}
use Rattle.line_state.specs.Line.{Line}
use Rattle.searched_line.proofs.Reaches.{one_more_within, narrow_line}
use Rattle.searched_line.proofs.line.SearchedLine.saturation.Goals as goal

pub tokens-preserved : goal.tokens-preserved
tokens-preserved c = one_more_within c.args.self.now c.tokens.at c.tokens.width c.reach.result c.max-width.result c.tokens.invariant c.reach.ensures (omega (arith, c.max-width.ensures)) (omega (arith, c.max-width.ensures))

pub returns-then-has_room : goal.returns-then-has_room
returns-then-has_room c =
    narrow_line c.args.self.now c.requires.some c.self.inside.column (length c.self.inside.tokens.now) c.tokens.at c.tokens.width (ap (λ (l : Line). l.column) c.self.view_is) (ap (λ (l : Line). length l.tokens) c.self.view_is) c.tokens-test.false c.tokens.invariant
    (OnTrue_at c.if-has_room.true c.has_room.ensures)
