use Rattle.std.proofs.Common.{ℕ, not, leb, cond, refl, sym}
use lib.Bits.{bit_or}
use Rattle.std.proofs.lemmas.List.{map-id}
use Rattle.std.proofs.lemmas.Simd.{splat_is_map, zip2_of_maps, zip2_splat}
use Rattle.c_chars.specs.Characters.{is_row_byte}
use Rattle.c_chars.proofs.Sixteen.{masked}
use Rattle.c_chars.proofs.lanes.RowBytesByteClass.stops.Goals as goal

pub returns : goal.returns
unfolding is_row_byte
returns c =
    let v = c.args.sixteen in
    let long = c.fits-sixteen.0 in
    let beyond = zip2_of_maps (λ a b. cond (leb a b) 255 0) _ _ v (splat_is_map v 16 128 long) (sym (map-id {A = ℕ} v)) in
    masked _ (λ b. not (is_row_byte b)) v _ long c.fits-sixteen.1 (zip2_of_maps bit_or _ _ v beyond (zip2_splat {Y = ℕ} _ v 16 10 long)) refl
