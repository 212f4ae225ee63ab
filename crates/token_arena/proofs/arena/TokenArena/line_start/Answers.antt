use Rattle.std.proofs.Common.{◌<◌, length, arith}
use Rattle.token_arena.proofs.EntryLemmas.{begun_there, length_kept}
use Rattle.token_arena.proofs.arena.TokenArena.line_start.Goals as goal

pub returns-else-self-start-eq0-clause-begins : goal.returns-else-self-start-eq0-clause-begins
returns-else-self-start-eq0-clause-begins c = λ no_token less.
    let entries = c.self.inside.entries.now in
    let last : c.args.at < length entries = rw (← c.self.view_is, length_kept) at c.requires.within in
    let below : c.loop-start.start < length entries = omega (arith, last, c.loop-start.invariant.most) in
    rw (← c.self.view_is) (begun_there c.self.inside.text.now entries c.loop-start.start _ no_token below c.if-self-start-eq0.false)
