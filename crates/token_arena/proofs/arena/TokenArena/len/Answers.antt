use Rattle.std.proofs.Common.{arith}
use Rattle.c_chars.specs.Characters.{mark_len}
use Rattle.token_arena.specs.Entries.{kept_by_all}
use Rattle.token_arena.proofs.GapLemmas.{few, joined-stand}
use Rattle.token_arena.proofs.EntryLemmas.{length_kept}
use Rattle.token_arena.proofs.arena.TokenArena.len.Goals as goal

pub overflow_cast-result : goal.overflow_cast-result
overflow_cast-result c =
    let text = c.self.inside.text.now in
    let room = few text (mark_len text) (kept_by_all text c.self.inside.entries.now) c.self.invariant.sound.stand in
    let count = length_kept text c.self.inside.entries.now in
    omega (arith, room, count, c.self.invariant.sound.fits)

pub returns-clause-whole : goal.returns-clause-whole
returns-clause-whole c =
    let text = c.self.inside.text.now in
    rw (← c.self.view_is) (joined-stand text (mark_len text) (kept_by_all text c.self.inside.entries.now) c.self.invariant.sound.stand)

pub returns-clause-fits : goal.returns-clause-fits
returns-clause-fits c = rw (← c.self.view_is) c.self.invariant.sound.fits

pub returns-clause-stand : goal.returns-clause-stand
returns-clause-stand c = rw (← c.self.view_is) c.self.invariant.sound.stand

pub returns-clause-most : goal.returns-clause-most
returns-clause-most c =
    let text = c.self.inside.text.now in
    let room = few text (mark_len text) (kept_by_all text c.self.inside.entries.now) c.self.invariant.sound.stand in
    let count = length_kept text c.self.inside.entries.now in
    omega (arith, room, count, c.self.invariant.sound.fits)
