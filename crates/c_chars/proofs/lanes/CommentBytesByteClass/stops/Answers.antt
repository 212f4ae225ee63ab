use Rattle.std.proofs.Common.{ℕ, not, bit_and, refl}
use lib.Bits.{bit_or}
use Rattle.std.proofs.lemmas.Simd.{zip2_of_maps, zip2_splat}
use Rattle.c_chars.specs.Characters.{is_comment_byte, is_comment_ink, is_space_byte}
use Rattle.c_chars.proofs.Sixteen.{masked}
use Rattle.c_chars.proofs.lanes.CommentBytesByteClass.stops.Goals as goal

pub returns : goal.returns
unfolding is_comment_byte is_comment_ink is_space_byte
returns c =
    let v = c.args.sixteen in
    let long = c.fits-sixteen.0 in
    masked _ (λ b. not (is_comment_byte b)) v _ long c.fits-sixteen.1
    (zip2_of_maps bit_or _ _ v
    (zip2_of_maps bit_or _ _ v (zip2_of_maps bit_and _ _ v (zip2_splat {Y = ℕ} _ v 16 32 long) (zip2_splat {Y = ℕ} _ v 16 9 long)) (zip2_splat {Y = ℕ} _ v 16 42 long))
    (zip2_of_maps bit_or _ _ v (zip2_splat {Y = ℕ} _ v 16 63 long) (zip2_splat {Y = ℕ} _ v 16 92 long))) refl
