use Rattle.std.proofs.Common.{◌≡◌, ◌<◌, length, sym, arith}
use Rattle.token_arena.specs.Entries.{kept_by_all}
use Rattle.token_arena.proofs.GapLemmas.{gap_end-last}
use Rattle.token_arena.proofs.EntryLemmas.{gap_end-kept, length_kept}
use Rattle.token_arena.proofs.arena.TokenArena.gap_end.Goals as goal

pub returns-then-place-self : goal.returns-then-place-self
returns-then-place-self c =
    let text = c.self.inside.text.now in
    let tokens = kept_by_all text c.self.inside.entries.now in
    let last : c.args.place ≡ length tokens = rw length_kept (omega arith) in
    rw (← c.self.view_is) (sym (gap_end-last tokens (length text) c.args.place last))

pub returns : goal.returns
returns c =
    let text = c.self.inside.text.now in
    let within : c.args.place < length c.self.inside.entries.now =
    omega (arith, rw (← c.self.view_is, length_kept) at c.requires) in
    rw (← c.self.view_is) (sym (gap_end-kept text c.self.inside.entries.now (length text) c.args.place _ within))
