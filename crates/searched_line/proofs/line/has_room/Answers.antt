use Rattle.std.proofs.lemmas.Bool.{OnTrue_from}
use Rattle.std.proofs.Common.{arith}
use Rattle.std.proofs.lemmas.Bool.Decides.{nat_tests}
use Rattle.searched_line.proofs.Reaches.{fits}
use Rattle.searched_line.proofs.line.has_room.Goals as goal

pub returns : goal.returns
returns c = OnTrue_from _ _ (λ e. fits c.args.column c.from-room.result c.args.count c.args.width (omega (arith, c.ranges.column)) c.from-room.ensures (grind (arith, nat_tests, e)))
