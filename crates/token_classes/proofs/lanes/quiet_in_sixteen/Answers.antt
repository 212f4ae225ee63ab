use Rattle.std.proofs.Common.{◌≡◌, ◌∙◌, ℕ, Bool, not, length, nat_le, nat_lt, ◌&&◌, refl, ap, arith}
use Rattle.std.proofs.lemmas.List.{length-map}
use Rattle.std.proofs.lemmas.Simd.{splat_is_map, zip2_of_maps, zip2_splat}
use Rattle.token_classes.specs.declared.class.TokenClass.{TokenClass}
use Rattle.token_classes.specs.declared.class.TokenClass.TheVariants.{OpenRound, CloseRound, OpenSquare, CloseSquare, OpenBrace, CloseBrace}
use Rattle.token_classes.specs.Lanes.{is_quiet, number_of}
use Rattle.token_classes.proofs.FirstTold.{none_told, some_told}
use Rattle.token_classes.proofs.lanes.quiet_in_sixteen.Goals as goal

tells : ℕ → Bool
tells n = nat_le 23 n && nat_lt n 29

tells_class : (class : TokenClass) → tells (number_of class) ≡ not (is_quiet class)
unfolding tells
tells_class OpenRound = refl
tells_class CloseRound = refl
tells_class OpenSquare = refl
tells_class CloseSquare = refl
tells_class OpenBrace = refl
tells_class CloseBrace = refl
tells_class _ = refl

pub returns-then-told-eq0 : goal.returns-then-told-eq0
unfolding tells
returns-then-told-eq0 c =
    let v = c.numbers.result in
    let classes = c.args.classes.now in
    let long : length v ≡ 16 = ap length c.numbers.ensures ∙ (length-map classes number_of ∙ c.told-classes) in
    none_told is_quiet _ tells classes v _ c.told-classes c.numbers.ensures (zip2_of_maps _ _ _ v (zip2_splat {Y = ℕ} _ v 16 23 long) (splat_is_map v 16 6 long)) refl tells_class c.if-told-eq0.true

pub returns : goal.returns
unfolding tells
returns c =
    let v = c.numbers.result in
    let classes = c.args.classes.now in
    let long : length v ≡ 16 = ap length c.numbers.ensures ∙ (length-map classes number_of ∙ c.told-classes) in
    some_told is_quiet _ tells classes v _ c.told-classes c.numbers.ensures (zip2_of_maps _ _ _ v (zip2_splat {Y = ℕ} _ v 16 23 long) (splat_is_map v 16 6 long)) refl tells_class (omega (arith, c.if-told-eq0.false))
