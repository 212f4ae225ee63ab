use Rattle.std.proofs.Common.{length, rules, ◌≤◌}
use Rattle.c_chars.specs.Characters.{mark_len}
use Rattle.token_arena.specs.Entries.{kept_by_all}
use Rattle.token_arena.proofs.GapLemmas.{gap_bounds, gap_is}
use Rattle.token_arena.proofs.arena.TokenArena.gap.Goals as goal

pub slice_bounds-result-count : goal.slice_bounds-result-count
slice_bounds-result-count c =
    let text = c.self.inside.text.now in
    rw (c.gap_start-from.ensures, c.gap_end-to.ensures, ← c.self.view_is)
    (gap_bounds text (mark_len text) (kept_by_all text c.self.inside.entries.now) c.args.place c.self.invariant.sound.stand).0

pub slice_bounds-result-start : goal.slice_bounds-result-start
slice_bounds-result-start c =
    let text = c.self.inside.text.now in
    let bounds : (c.gap_start-from.result ≤ c.gap_end-to.result) × (c.gap_end-to.result ≤ length c.self.inside.text.now) =
    rw (c.gap_start-from.ensures, c.gap_end-to.ensures, ← c.self.view_is)
    (gap_bounds text (mark_len text) (kept_by_all text c.self.inside.entries.now) c.args.place c.self.invariant.sound.stand) in
    search rules

pub slice_bounds-result-end : goal.slice_bounds-result-end
slice_bounds-result-end c =
    let text = c.self.inside.text.now in
    let bounds : (c.gap_start-from.result ≤ c.gap_end-to.result) × (c.gap_end-to.result ≤ length c.self.inside.text.now) =
    rw (c.gap_start-from.ensures, c.gap_end-to.ensures, ← c.self.view_is)
    (gap_bounds text (mark_len text) (kept_by_all text c.self.inside.entries.now) c.args.place c.self.invariant.sound.stand) in
    search rules

pub returns : goal.returns
returns c =
    let text = c.self.inside.text.now in
    rw (c.gap_start-from.ensures, c.gap_end-to.ensures, ← c.self.view_is)
    (gap_is text (mark_len text) (kept_by_all text c.self.inside.entries.now) c.args.place)
