use Rattle.std.proofs.Common.{◌≡◌, ◌∙◌, ℕ, Bool, true, not, length, nat_le, nat_lt, ◌&&◌, ◌||◌, bit_or, refl, ap, arith}
use Rattle.std.proofs.lemmas.List.{length-map}
use Rattle.std.proofs.lemmas.Simd.{splat_is_map, zip2_of_maps, zip2_splat}
use Rattle.token_classes.specs.declared.class.TokenClass.{TokenClass}
use Rattle.token_classes.specs.declared.class.TokenClass.TheVariants.{Semicolon, If, Else, For, While, Do, Switch, Case, Default, Struct, Union, OpenRound, CloseRound, OpenSquare, CloseSquare, OpenBrace, CloseBrace, LineComment, BlockComment}
use Rattle.part_walk.specs.declared.walk.Around.TheVariants.{Body}
use Rattle.token_classes.specs.Lanes.{number_of}
use Rattle.view_parts.specs.Quiet.{is_quiet}
use Rattle.token_classes.proofs.FirstTold.{none_told, some_told}
use Rattle.view_parts.proofs.lanes.quiet_behind_label.Goals as goal

tells : ℕ → Bool
tells n = (nat_le 23 n && nat_lt n 29) || (nat_le 54 n && nat_lt n 56) || (nat_le 11 n && nat_lt n 13) || nat_lt n 8 || (nat_le 30 n && nat_lt n 31)

tells_class : (class : TokenClass) → tells (number_of class) ≡ not (is_quiet Body true class)
unfolding tells
tells_class If = refl
tells_class Else = refl
tells_class For = refl
tells_class While = refl
tells_class Do = refl
tells_class Switch = refl
tells_class Case = refl
tells_class Default = refl
tells_class Struct = refl
tells_class Union = refl
tells_class OpenRound = refl
tells_class CloseRound = refl
tells_class OpenSquare = refl
tells_class CloseSquare = refl
tells_class OpenBrace = refl
tells_class CloseBrace = refl
tells_class LineComment = refl
tells_class BlockComment = refl
tells_class Semicolon = refl
tells_class _ = refl

pub returns-then-told-eq0 : goal.returns-then-told-eq0
unfolding tells
returns-then-told-eq0 c =
    let v = c.numbers-numbers.result in
    let classes = c.args.classes.now in
    let long : length v ≡ 16 = ap length c.numbers-numbers.ensures ∙ (length-map classes number_of ∙ c.told-classes) in
    let flat = zip2_of_maps bit_or _ _ v (zip2_of_maps _ _ _ v (zip2_splat {Y = ℕ} _ v 16 23 long) (splat_is_map v 16 6 long)) (zip2_of_maps _ _ _ v (zip2_splat {Y = ℕ} _ v 16 54 long) (splat_is_map v 16 2 long)) in
    let others = zip2_of_maps bit_or _ _ v (zip2_of_maps bit_or _ _ v flat (zip2_of_maps _ _ _ v (zip2_splat {Y = ℕ} _ v 16 11 long) (splat_is_map v 16 2 long))) (zip2_splat {Y = ℕ} _ v 16 8 long) in
    let lanes = zip2_of_maps bit_or _ _ v others (zip2_splat {Y = ℕ} _ v 16 30 long) in
    none_told (is_quiet Body true) _ tells classes v _ c.told-classes c.numbers-numbers.ensures lanes refl tells_class c.if-told-eq0.true

pub returns : goal.returns
unfolding tells
returns c =
    let v = c.numbers-numbers.result in
    let classes = c.args.classes.now in
    let long : length v ≡ 16 = ap length c.numbers-numbers.ensures ∙ (length-map classes number_of ∙ c.told-classes) in
    let flat = zip2_of_maps bit_or _ _ v (zip2_of_maps _ _ _ v (zip2_splat {Y = ℕ} _ v 16 23 long) (splat_is_map v 16 6 long)) (zip2_of_maps _ _ _ v (zip2_splat {Y = ℕ} _ v 16 54 long) (splat_is_map v 16 2 long)) in
    let others = zip2_of_maps bit_or _ _ v (zip2_of_maps bit_or _ _ v flat (zip2_of_maps _ _ _ v (zip2_splat {Y = ℕ} _ v 16 11 long) (splat_is_map v 16 2 long))) (zip2_splat {Y = ℕ} _ v 16 8 long) in
    let lanes = zip2_of_maps bit_or _ _ v others (zip2_splat {Y = ℕ} _ v 16 30 long) in
    some_told (is_quiet Body true) _ tells classes v _ c.told-classes c.numbers-numbers.ensures lanes refl tells_class (omega (arith, c.if-told-eq0.false))
