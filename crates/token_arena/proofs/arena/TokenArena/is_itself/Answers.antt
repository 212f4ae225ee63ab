use Rattle.std.proofs.Common.{◌∙◌, ◌<◌, length, sym}
use Rattle.token_arena.proofs.EntryLemmas.{length_kept}
use Rattle.token_arena.proofs.RowsKept.{itself_bytes}
use Rattle.token_arena.proofs.arena.TokenArena.is_itself.Goals as goal

pub returns : goal.returns
returns c = λ no_token yes.
    let text = c.self.inside.text.now in
    let entries = c.self.inside.entries.now in
    let below : c.args.id.0 < length entries = rw (← c.self.view_is, length_kept) at c.requires in
    rw (← c.self.view_is) (itself_bytes text entries c.args.id.0 _ no_token below c.self.invariant.plain (sym c.is_itself.ensures ∙ yes))
