use Rattle.std.proofs.Common.{◌≡◌, ◌∙◌, ℕ, Bool, not, length, nat_le, nat_lt, ◌&&◌, ◌||◌, bit_or, refl, ap, arith}
use Rattle.std.proofs.lemmas.List.{length-map}
use Rattle.std.proofs.lemmas.Simd.{splat_is_map, zip2_of_maps, zip2_splat}
use Rattle.token_classes.specs.declared.class.TokenClass.{TokenClass}
use Rattle.token_classes.specs.declared.class.TokenClass.TheVariants.{Case, Colon, LineComment, BlockComment}
use Rattle.token_classes.specs.Lanes.{number_of}
use Rattle.token_classes.proofs.FirstTold.{none_told, some_told}
use Rattle.unwrapped_lines.specs.Inside.{is_usual}
use Rattle.unwrapped_lines.proofs.lanes.usual_in_sixteen.Goals as goal

tells : ℕ → Bool
tells n = (nat_le 6 n && nat_lt n 7) || (nat_le 29 n && nat_lt n 30) || (nat_le 54 n && nat_lt n 56)

tells_class : (class : TokenClass) → tells (number_of class) ≡ not (is_usual class)
unfolding tells
tells_class Case = refl
tells_class Colon = refl
tells_class LineComment = refl
tells_class BlockComment = refl
tells_class _ = refl

pub returns-then-told-eq0 : goal.returns-then-told-eq0
unfolding tells
returns-then-told-eq0 c =
    let v = c.numbers-numbers.result in
    let classes = c.args.classes.now in
    let long : length v ≡ 16 = ap length c.numbers-numbers.ensures ∙ (length-map classes number_of ∙ c.told-classes) in
    let lanes = zip2_of_maps bit_or _ _ v (zip2_of_maps bit_or _ _ v (zip2_splat {Y = ℕ} _ v 16 6 long) (zip2_splat {Y = ℕ} _ v 16 29 long)) (zip2_of_maps _ _ _ v (zip2_splat {Y = ℕ} _ v 16 54 long) (splat_is_map v 16 2 long)) in
    none_told is_usual _ tells classes v _ c.told-classes c.numbers-numbers.ensures lanes refl tells_class c.if-told-eq0.true

pub returns : goal.returns
unfolding tells
returns c =
    let v = c.numbers-numbers.result in
    let classes = c.args.classes.now in
    let long : length v ≡ 16 = ap length c.numbers-numbers.ensures ∙ (length-map classes number_of ∙ c.told-classes) in
    let lanes = zip2_of_maps bit_or _ _ v (zip2_of_maps bit_or _ _ v (zip2_splat {Y = ℕ} _ v 16 6 long) (zip2_splat {Y = ℕ} _ v 16 29 long)) (zip2_of_maps _ _ _ v (zip2_splat {Y = ℕ} _ v 16 54 long) (splat_is_map v 16 2 long)) in
    some_told is_usual _ tells classes v _ c.told-classes c.numbers-numbers.ensures lanes refl tells_class (omega (arith, c.if-told-eq0.false))
