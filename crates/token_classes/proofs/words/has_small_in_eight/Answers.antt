use Rattle.std.proofs.Common.{ℕ, refl}
use Rattle.std.proofs.lemmas.Simd.{splat_is_map, zip2_of_maps, zip2_splat}
use Rattle.std.specs.Char.{is_ascii_lowercase}
use Rattle.token_classes.proofs.SmallLetters.{any_masked}
use Rattle.token_classes.proofs.words.has_small_in_eight.Goals as goal

pub returns : goal.returns
returns c =
    let v = c.args.eight in
    let long = c.fits-eight.0 in
    any_masked _ is_ascii_lowercase v _ long c.fits-eight.1 (zip2_of_maps _ _ _ v (zip2_splat {Y = ℕ} _ v 8 97 long) (splat_is_map v 8 26 long)) refl
