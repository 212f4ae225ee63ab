use Rattle.std.proofs.Common.{◌≡◌, ◌∙◌, ℕ, Bool, not, length, nat_le, nat_lt, ◌&&◌, refl, ap, arith}
use Rattle.std.proofs.lemmas.List.{length-map}
use Rattle.std.proofs.lemmas.Simd.{splat_is_map, zip2_of_maps, zip2_splat}
use Rattle.token_classes.specs.declared.class.TokenClass.{TokenClass}
use Rattle.token_classes.specs.declared.class.TokenClass.TheVariants.{OpenBrace, CloseBrace}
use Rattle.token_classes.specs.Lanes.{number_of}
use Rattle.view_parts.specs.Lanes.{is_flat}
use Rattle.token_classes.proofs.FirstTold.{none_told, some_told}
use Rattle.view_parts.proofs.lanes.flat_count.Goals as goal

tells : ℕ → Bool
tells n = nat_le 27 n && nat_lt n 29

tells_brace : (class : TokenClass) → tells (number_of class) ≡ not (is_flat class)
unfolding tells
tells_brace OpenBrace = refl
tells_brace CloseBrace = refl
tells_brace _ = refl

pub returns-then-told-eq0 : goal.returns-then-told-eq0
unfolding tells
returns-then-told-eq0 c =
    let v = c.numbers.result in
    let classes = c.args.classes.now in
    let long : length v ≡ 16 = ap length c.numbers.ensures ∙ (length-map classes number_of ∙ c.told-classes) in
    none_told is_flat _ tells classes v _ c.told-classes c.numbers.ensures (zip2_of_maps _ _ _ v (zip2_splat {Y = ℕ} _ v 16 27 long) (splat_is_map v 16 2 long)) refl tells_brace c.if-told-eq0.true

pub returns : goal.returns
unfolding tells
returns c =
    let v = c.numbers.result in
    let classes = c.args.classes.now in
    let long : length v ≡ 16 = ap length c.numbers.ensures ∙ (length-map classes number_of ∙ c.told-classes) in
    some_told is_flat _ tells classes v _ c.told-classes c.numbers.ensures (zip2_of_maps _ _ _ v (zip2_splat {Y = ℕ} _ v 16 27 long) (splat_is_map v 16 2 long)) refl tells_brace (omega (arith, c.if-told-eq0.false))
