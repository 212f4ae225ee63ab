use Rattle.std.proofs.Common.{◌∙◌, sym, ap, arith}
use Rattle.std.specs.Int.{is_in_range}
use Rattle.std.specs.List.{list_all}
use Rattle.token_arena.proofs.Eights.{behind_front, eight_on}
use Rattle.token_arena.proofs.facts.behind_printable.Goals as goal

pub loop-eight-preserved : goal.loop-eight-preserved
loop-eight-preserved c =
    let cases = c.in-Some.ensures.cases in
    let before = c.loop-eight.invariant in
    let front = ap (list_all (is_in_range 0x20 0x7E)) (sym cases.0) ∙ c.are_printable.ensures c.if-not-are_printable.false in
    record {
      same = ap (list_all (is_in_range 0x20 0x7E)) cases.1 ∙ (behind_front (is_in_range 0x20 0x7E) 8 c.loop-eight.rest.now front ∙ before.same);
      rest_is = eight_on c.args.row.now c.loop-eight.rest.now c.in-Some.behind.now before.rest_is before.within cases.1 cases.2;
      within = omega (arith, cases.2, before.within);
    }
