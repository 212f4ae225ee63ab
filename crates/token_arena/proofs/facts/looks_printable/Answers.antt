use Rattle.std.proofs.Common.{◌∙◌, sym, ap, arith}
use Rattle.std.specs.Int.{is_in_range}
use Rattle.std.specs.List.{list_all}
use Rattle.token_arena.proofs.Eights.{below_eight, last_front}
use Rattle.token_arena.proofs.facts.looks_printable.Goals as goal

pub returns-then-are_printable : goal.returns-then-are_printable
returns-then-are_printable c = λ few.
    let cases = c.in-Some.ensures.cases in
    let last = ap (list_all (is_in_range 0x20 0x7E)) (sym cases.1) ∙ c.are_printable.ensures c.if-are_printable.true in
    sym c.behind_printable.ensures.same
    ∙ last_front (is_in_range 0x20 0x7E) c.args.row.now c.behind_printable.result.now (omega (arith, cases.2)) (below_eight _ few) c.behind_printable.ensures.rest last
