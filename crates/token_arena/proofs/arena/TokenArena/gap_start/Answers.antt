use Rattle.std.proofs.Common.{◌≤◌, length, sym, arith}
use Rattle.c_chars.specs.Characters.{mark_len}
use Rattle.token_arena.proofs.EntryLemmas.{gap_start-kept, length_kept}
use Rattle.token_arena.proofs.arena.TokenArena.gap_start.Goals as goal

pub returns : goal.returns
returns c =
    let text = c.self.inside.text.now in
    let within : c.args.place ≤ length c.self.inside.entries.now = rw (← c.self.view_is, length_kept) at c.requires in
    rw (← c.self.view_is) (sym (gap_start-kept text c.self.inside.entries.now (mark_len text) c.args.place _ c.self.invariant.within (omega arith) within))
