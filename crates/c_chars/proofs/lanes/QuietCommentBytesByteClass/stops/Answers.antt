use Rattle.std.proofs.Common.{ℕ, not, leb, cond, refl}
use lib.Bits.{bit_or}
use Rattle.std.proofs.lemmas.Simd.{splat_is_map, zip2_of_maps, zip2_splat}
use Rattle.c_chars.specs.Characters.{is_comment_byte, is_comment_ink, is_quiet_comment, is_space_byte}
use Rattle.c_chars.proofs.Sixteen.{masked}
use Rattle.c_chars.proofs.lanes.QuietCommentBytesByteClass.stops.Goals as goal

pub returns : goal.returns
unfolding is_quiet_comment is_comment_byte is_comment_ink is_space_byte
returns c =
    let v = c.args.sixteen in
    let long = c.fits-sixteen.0 in
    let unprintable = zip2_of_maps (λ a b. cond (leb a b) 255 0) _ _ v (splat_is_map v 16 95 long) (zip2_splat {Y = ℕ} _ v 16 32 long) in
    masked _ (λ b. not (is_quiet_comment b)) v _ long c.fits-sixteen.1
    (zip2_of_maps bit_or _ _ v
    (zip2_of_maps bit_or _ _ v unprintable (zip2_splat {Y = ℕ} _ v 16 42 long))
    (zip2_of_maps bit_or _ _ v (zip2_splat {Y = ℕ} _ v 16 63 long) (zip2_splat {Y = ℕ} _ v 16 92 long))) refl
