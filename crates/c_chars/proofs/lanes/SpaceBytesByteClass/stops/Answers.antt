use Rattle.std.proofs.Common.{ℕ, not, bit_and, refl}
use Rattle.std.proofs.lemmas.Simd.{zip2_of_maps, zip2_splat}
use Rattle.c_chars.specs.Characters.{is_space_byte}
use Rattle.c_chars.proofs.Sixteen.{masked}
use Rattle.c_chars.proofs.lanes.SpaceBytesByteClass.stops.Goals as goal

pub returns : goal.returns
unfolding is_space_byte
returns c =
    let v = c.args.sixteen in
    let long = c.fits-sixteen.0 in
    masked _ (λ b. not (is_space_byte b)) v _ long c.fits-sixteen.1 (zip2_of_maps bit_and _ _ v (zip2_splat {Y = ℕ} _ v 16 32 long) (zip2_splat {Y = ℕ} _ v 16 9 long)) refl
