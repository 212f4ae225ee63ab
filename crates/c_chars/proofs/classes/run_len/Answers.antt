use Rattle.std.proofs.Common.{◌∙◌, ◌<◌, not, map, ap, subst, arith}
use Rattle.std.proofs.lemmas.List.Sums.{prefix_len-le-length}
use lib.Lanes.{mask_l}
use lib.Count.{count_trailing_zeros}
use Rattle.c_chars.proofs.Sixteen.{run_stops}
use Rattle.c_chars.proofs.classes.run_len.Goals as goal

pub returns-then-stops-ne0 : goal.returns-then-stops-ne0
returns-then-stops-ne0 g c =
    let q = g.C.ByteClass.holds in
    let cases = c.in-Some.ensures.cases in
    let mask = c.stops-stops.ensures ∙ ap (λ z. mask_l (map (λ b. not (q b)) z)) cases.0 in
    let run = run_stops q c.loop-sixteen.rest.now 16 (omega (arith, cases.2)) (omega arith) (subst (λ m. 0 < m) mask (omega arith)) in
    let zeros = ap (count_trailing_zeros 64) mask in
    omega (arith, run, zeros, c.loop-sixteen.invariant.rest_is)

pub overflow_add-result-2 : goal.overflow_add-result-2
overflow_add-result-2 g c =
    let few = prefix_len-le-length g.C.ByteClass.holds c.args.bytes.now in
    omega (arith, few, c.loop-sixteen.invariant.rest_is, c.short_len.ensures)
