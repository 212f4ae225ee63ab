use Rattle.std.proofs.Common.{◌≡◌, ◌<◌, length, sym, subst, arith, rules}
use Rattle.std.specs.Vec.{vec_len}
use Rattle.view_parts.specs.declared.known.KnownSpan.{KnownSpan}
use Rattle.view_parts.specs.Known.{IsSpan}
use Rattle.view_parts.proofs.EndsOfParts.{span_recalled}
use Rattle.view_parts.proofs.known.recalled_span.Goals as goal

pub overflow_add-result : goal.overflow_add-result
overflow_add-result c =
    let arena = c.args.source.now.arena.now in
    let spans = c.args.spans.now.spans in
    let many : vec_len spans ≡ length spans.items = first_of (omega (arith), search (rules), grind (arith, rules)) in
    let here : c.args.number < length spans.items = omega (arith, c.if-number-len.false, c.len.ensures, many) in
    let so : IsSpan arena c.index-span.result.now = subst (λ (span : KnownSpan). IsSpan arena span) (sym c.index-span.ensures) (c.requires.known c.args.number _ here) in
    let inside = c.has_items.ensures.within c.if-not-has_items.false in
    omega (arith, so.later, inside, c.len-count.ensures.count)

pub returns : goal.returns
returns c =
    let arena = c.args.source.now.arena.now in
    let view = c.args.source.now.view.now in
    let spans = c.args.spans.now.spans in
    let span = c.index-span.result.now in
    let many : vec_len spans ≡ length spans.items = first_of (omega (arith), search (rules), grind (arith, rules)) in
    let here : c.args.number < length spans.items = omega (arith, c.if-number-len.false, c.len.ensures, many) in
    let so : IsSpan arena span = subst (λ (span : KnownSpan). IsSpan arena span) (sym c.index-span.ensures) (c.requires.known c.args.number _ here) in
    span_recalled arena view c.args.first c.len-2.result span c.len-2.ensures.count (c.has_items.ensures.items c.if-not-has_items.false) (c.has_items.ensures.within c.if-not-has_items.false) so
