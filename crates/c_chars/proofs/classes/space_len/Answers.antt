use Rattle.std.proofs.Common.{◌∙◌, ◌<◌, not, map, ap, subst, arith}
use lib.Lanes.{mask_l}
use lib.Count.{count_trailing_zeros}
use Rattle.c_chars.specs.Characters.{is_space_byte}
use Rattle.c_chars.proofs.Sixteen.{run_stops}
use Rattle.c_chars.proofs.classes.space_len.Goals as goal

pub returns-then-stops-ne0 : goal.returns-then-stops-ne0
returns-then-stops-ne0 c =
    let cases = c.in-Some.ensures.cases in
    let mask = c.stops-stops.ensures ∙ ap (λ z. mask_l (map (λ b. not (is_space_byte b)) z)) cases.0 in
    let run = run_stops is_space_byte c.args.bytes.now 16 (omega (arith, cases.2)) (omega arith) (subst (λ m. 0 < m) mask (omega arith)) in
    let zeros = ap (count_trailing_zeros 64) mask in
    omega (arith, run, zeros)
