use Rattle.std.proofs.Common.{ℕ, not, leb, cond, bit_and, refl}
use Rattle.std.proofs.lemmas.Simd.{splat_is_map, zip2_of_maps, zip2_splat}
use Rattle.c_chars.specs.Characters.{is_word_byte}
use Rattle.c_chars.proofs.Sixteen.{masked}
use Rattle.c_chars.proofs.lanes.WordBytesByteClass.stops.Goals as goal

pub returns : goal.returns
unfolding is_word_byte
returns c =
    let v = c.args.sixteen in
    let long = c.fits-sixteen.0 in
    let no_letter = zip2_of_maps (λ a b. cond (leb a b) 255 0) _ _ v (splat_is_map v 16 26 long) (zip2_of_maps _ _ _ v (zip2_splat {Y = ℕ} _ v 16 32 long) (splat_is_map v 16 97 long)) in
    let no_digit = zip2_of_maps (λ a b. cond (leb a b) 255 0) _ _ v (splat_is_map v 16 10 long) (zip2_splat {Y = ℕ} _ v 16 48 long) in
    let no_mark = zip2_of_maps bit_and _ _ v (zip2_splat {Y = ℕ} _ v 16 95 long) (zip2_splat {Y = ℕ} _ v 16 36 long) in
    masked _ (λ b. not (is_word_byte b)) v _ long c.fits-sixteen.1 (zip2_of_maps bit_and _ _ v (zip2_of_maps bit_and _ _ v no_letter no_digit) no_mark) refl
