use Rattle.std.proofs.Common.{◌≡◌, ◌∙◌, ◌+◌, ◌-◌, sym, ap, arith, slice_get}
use Rattle.c_chars.specs.Characters.{mark_len}
use Rattle.token_arena.specs.Entries.{told_by}
use Rattle.directive_layout.proofs.Laid.{longest_step, raw_fits}
use Rattle.directive_layout.proofs.laying.longest_spliced.Goals as goal

pub inner_decision-decision-requires-clause-left :
    goal.inner_decision-decision-requires-clause-left
inner_decision-decision-requires-clause-left c =
    let arena = c.args.arena.now in
    let fits = raw_fits arena.text (mark_len arena.text) arena.tokens (c.loop-place.place - 1) (told_by c.loop-place.left) c.len-count.ensures.stand c.loop-place.invariant.left in
    omega (arith, fits, c.len-count.ensures.fits)

pub inner_decision-decision-requires-clause-right :
    goal.inner_decision-decision-requires-clause-right
inner_decision-decision-requires-clause-right c =
    let arena = c.args.arena.now in
    let fits = raw_fits arena.text (mark_len arena.text) arena.tokens c.loop-place.place (told_by c.get-token.result) c.len-count.ensures.stand c.get-token.ensures in
    omega (arith, fits, c.len-count.ensures.fits)

pub next_walk-walk-requires-clause-fits : goal.next_walk-walk-requires-clause-fits
next_walk-walk-requires-clause-fits c =
    let arena = c.args.arena.now in
    let fits = raw_fits arena.text (mark_len arena.text) arena.tokens c.loop-place.place (told_by c.get-token.result) c.len-count.ensures.stand c.get-token.ensures in
    omega (arith, fits, c.len-count.ensures.fits)

pub loop-place-preserved : goal.loop-place-preserved
loop-place-preserved c =
    let style = c.args.style.now in
    let arena = c.args.arena.now in
    let place = c.loop-place.place in
    let v = c.loop-place.invariant in
    record {
      some = omega arith;
      braces = omega (arith, v.braces, c.next_walk-walk.ensures.braces);
      index = omega (arith, v.index, c.next_walk-walk.ensures.index);
      left = let back : place ≡ place + 1 - 1 = omega arith in ap (λ n. slice_get arena.tokens n) (sym back) ∙ c.get-token.ensures;
      rest = λ token is.
          longest_step style arena c.dialect-dialect.result c.args.depth c.args.staying c.args.toks.now place c.args.end c.loop-place.walk c.next_walk-walk.result (told_by c.loop-place.left) (told_by c.get-token.result) c.loop-place.longest c.row_end.result c.larger-longest.result c.inner_decision-decision.result
          c.get-token.ensures c.loop-place-test.true c.dialect-dialect.ensures c.inner_decision-decision.ensures c.next_walk-walk.ensures.is c.row_end.ensures c.larger-longest.ensures ∙ v.rest token is;
    }
