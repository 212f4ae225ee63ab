use Rattle.searched_line.proofs.Reaches.{AreWithin}
use Rattle.searched_line.proofs.line.SearchedLine.saturation.Given as goal

abbrev pub invariant-tokens : goal.invariant-tokens
invariant-tokens l = AreWithin l.self l.at l.width
