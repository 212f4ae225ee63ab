use Rattle.std.proofs.Common.{◌∙◌, ◌++◌, ℕ, List, drop, length, length-drop, map, min, not, ap, arith}
use Rattle.std.specs.Prelude.{replicate}
use lib.Lanes.{mask_l}
use lib.Count.{count_trailing_zeros}
use Rattle.c_chars.proofs.Sixteen.{run_within}
use Rattle.c_chars.proofs.classes.short_len.Goals as goal

pub returns : goal.returns
returns g c =
    let q = g.C.ByteClass.holds in
    let bytes = c.args.bytes.now in
    let behind : List ℕ = drop (length bytes) (replicate 16 0) in
    let few = length-drop {A = ℕ} (length bytes) (replicate 16 0) in
    let mask = c.stops-stops.ensures ∙ ap (λ s. mask_l (map (λ b. not (q b)) (s ++ behind))) c.copy_from_slice.ensures.after in
    c.min.ensures ∙ (ap (λ m. min (length bytes) (count_trailing_zeros 64 m)) mask ∙ run_within q bytes behind (omega (arith, c.requires)) (omega (arith, few)))
