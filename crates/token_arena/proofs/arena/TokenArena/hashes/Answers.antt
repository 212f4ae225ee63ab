use Rattle.token_arena.proofs.arena.TokenArena.hashes.Goals as goal

pub returns : goal.returns
returns c = rw (← c.self.view_is) c.self.invariant.hashes_are
