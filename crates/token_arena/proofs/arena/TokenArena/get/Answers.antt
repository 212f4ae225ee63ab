use Rattle.std.proofs.Common.{◌<◌, length}
use Rattle.token_arena.proofs.EntryLemmas.{length_kept, kept_at}
use Rattle.token_arena.proofs.arena.TokenArena.get.Goals as goal

pub returns : goal.returns
returns c =
    let text = c.self.inside.text.now in
    let within : c.args.id.0 < length c.self.inside.entries.now = rw (← c.self.view_is, length_kept) at c.requires in
    rw (← c.self.view_is) (kept_at text c.self.inside.entries.now c.args.id.0 _ _ _ _ _ within c.bytes_of-raw.ensures c.bytes_of.ensures c.gap_kept.ensures c.is_back.ensures)
