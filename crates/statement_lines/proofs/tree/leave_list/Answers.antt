use Rattle.std.proofs.Common.{arith}
use Rattle.statement_lines.proofs.TurnLemmas.{block_turn, body_turn, body_end, no_turn}
use Rattle.statement_lines.proofs.tree.leave_list.Goals as goal

pub returns-then-opened-clause-stands : goal.returns-then-opened-clause-stands
returns-then-opened-clause-stands c = λ braces tokens out s. block_turn braces tokens out _ _ _ _ s c.requires.ended c.if-opened.true

pub returns-then-opened-clause-stays : goal.returns-then-opened-clause-stays
returns-then-opened-clause-stays c = λ braces tokens out s. (let within = s.fits.0 in omega (arith, within, c.requires.ended))

pub returns-in-Some-clause-stands : goal.returns-in-Some-clause-stands
returns-in-Some-clause-stands c = λ braces tokens out s. body_turn braces tokens out _ _ _ _ _ _ s c.requires.ended c.if-opened.false c.in-Some.ensures.some

pub returns-in-Some-clause-stays : goal.returns-in-Some-clause-stays
returns-in-Some-clause-stays c = λ braces tokens out s. body_end braces tokens out _ _ _ _ _ _ s c.requires.ended c.if-opened.false c.in-Some.ensures.some

pub returns-in-None-clause-stands : goal.returns-in-None-clause-stands
returns-in-None-clause-stands c = λ braces tokens out s. absurd (no_turn braces tokens out _ _ _ _ s c.if-opened.false c.in-None.ensures.none)
