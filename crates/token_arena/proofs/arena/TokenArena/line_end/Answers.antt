use Rattle.std.proofs.Common.{◌∙◌, ◌<◌, ◌+◌, length, ap, arith}
use Rattle.std.specs.List.{position_or_len}
use Rattle.c_chars.specs.Characters.{mark_len}
use Rattle.token_arena.specs.Entries.{is_begun, kept_by_all}
use Rattle.token_arena.proofs.GapLemmas.{few}
use Rattle.token_arena.proofs.EntryLemmas.{length_kept}
use Rattle.token_arena.proofs.LineEnds.{all_behind, few_behind, line_kept}
use Rattle.token_arena.proofs.arena.TokenArena.line_end.Goals as goal

pub slice_bounds-first_begun-count : goal.slice_bounds-first_begun-count
slice_bounds-first_begun-count c =
    let below : c.args.at < length c.self.inside.entries.now = rw (← c.self.view_is, length_kept) at c.requires in
    omega (arith, below)

pub slice_bounds-first_begun-start : goal.slice_bounds-first_begun-start
slice_bounds-first_begun-start c =
    let below : c.args.at < length c.self.inside.entries.now = rw (← c.self.view_is, length_kept) at c.requires in
    omega (arith, below)

pub overflow_add-result : goal.overflow_add-result
overflow_add-result c =
    let below : c.args.at < length c.self.inside.entries.now = rw (← c.self.view_is, length_kept) at c.requires in
    let text = c.self.inside.text.now in
    let room = few text (mark_len text) (kept_by_all text c.self.inside.entries.now) c.self.invariant.sound.stand in
    let count = length_kept text c.self.inside.entries.now in
    let behind = few_behind c.args.at c.first_begun.result c.self.inside.entries.now below (c.first_begun.ensures ∙ ap (position_or_len is_begun) (all_behind (c.args.at + 1) c.self.inside.entries.now)) in
    record { fits = omega (arith, room, count, behind, c.self.invariant.sound.fits) }

pub overflow_cast-result : goal.overflow_cast-result
overflow_cast-result c =
    let below : c.args.at < length c.self.inside.entries.now = rw (← c.self.view_is, length_kept) at c.requires in
    let text = c.self.inside.text.now in
    let room = few text (mark_len text) (kept_by_all text c.self.inside.entries.now) c.self.invariant.sound.stand in
    let count = length_kept text c.self.inside.entries.now in
    let behind = few_behind c.args.at c.first_begun.result c.self.inside.entries.now below (c.first_begun.ensures ∙ ap (position_or_len is_begun) (all_behind (c.args.at + 1) c.self.inside.entries.now)) in
    record { fits = omega (arith, room, count, behind, c.self.invariant.sound.fits) }

pub returns-clause-within : goal.returns-clause-within
returns-clause-within c =
    let below : c.args.at < length c.self.inside.entries.now = rw (← c.self.view_is, length_kept) at c.requires in
    let count = length_kept c.self.inside.text.now c.self.inside.entries.now in
    let behind = few_behind c.args.at c.first_begun.result c.self.inside.entries.now below (c.first_begun.ensures ∙ ap (position_or_len is_begun) (all_behind (c.args.at + 1) c.self.inside.entries.now)) in
    rw (← c.self.view_is) (omega (arith, count, behind))

pub returns-clause-line : goal.returns-clause-line
returns-clause-line c =
    let below : c.args.at < length c.self.inside.entries.now = rw (← c.self.view_is, length_kept) at c.requires in
    rw (← c.self.view_is) (line_kept c.self.inside.text.now c.self.inside.entries.now c.args.at c.first_begun.result below (c.first_begun.ensures ∙ ap (position_or_len is_begun) (all_behind (c.args.at + 1) c.self.inside.entries.now)))
