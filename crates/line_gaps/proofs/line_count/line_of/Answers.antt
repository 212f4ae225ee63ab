use Rattle.std.proofs.Common.{◌≡◌, ◌∙◌, ◌≤◌, ℕ, List, count_by, length, take, sym, ap, subst, arith}
use Rattle.token_arena.specs.Stored.{Stored, is_line_feed}
use Rattle.c_chars.specs.Characters.{mark_len}
use Rattle.item_classes.specs.Items.{item_at}
use Rattle.line_gaps.proofs.Counting.{line_is, start_within}
use Rattle.line_gaps.proofs.line_count.line_of.Goals as goal

pub feeds_before-feeds-requires-clause-place : goal.feeds_before-feeds-requires-clause-place
feeds_before-feeds-requires-clause-place c =
    let arena = c.args.arena.now in
    let start : c.item.result.item.start ≡ (item_at arena c.args.id).start = ap (λ (t : Stored). t.start) c.item.ensures.is in
    let within : (item_at arena c.args.id).start ≤ length arena.text = start_within arena.text (mark_len arena.text) arena.tokens c.args.id c.len-items.ensures.stand c.requires.within in
    subst (λ (text : List ℕ). c.item.result.item.start ≤ length text) (sym c.text.ensures) (omega (arith, start, within))

pub returns-clause-line : goal.returns-clause-line
returns-clause-line c =
    let arena = c.args.arena.now in
    let start : c.item.result.item.start ≡ (item_at arena c.args.id).start = ap (λ (t : Stored). t.start) c.item.ensures.is in
    let feeds : c.feeds_before-feeds.result ≡ count_by is_line_feed (take (item_at arena c.args.id).start arena.text) =
    c.feeds_before-feeds.ensures ∙ (ap (λ (text : List ℕ). count_by is_line_feed (take c.item.result.item.start text)) c.text.ensures ∙ ap (λ (n : ℕ). count_by is_line_feed (take n arena.text)) start) in
    omega (arith, feeds, line_is arena c.args.id c.len-items.ensures.holds c.requires.within)

pub returns-clause-counted : goal.returns-clause-counted
returns-clause-counted c =
    let arena = c.args.arena.now in
    let start : c.item.result.item.start ≡ (item_at arena c.args.id).start = ap (λ (t : Stored). t.start) c.item.ensures.is in
    let within : (item_at arena c.args.id).start ≤ length arena.text = start_within arena.text (mark_len arena.text) arena.tokens c.args.id c.len-items.ensures.stand c.requires.within in
    record {
      within = omega (arith, start, within);
      feeds = c.feeds_before-feeds.ensures ∙ ap (λ (text : List ℕ). count_by is_line_feed (take c.item.result.item.start text)) c.text.ensures;
    }
