-- How many items the heads of bodies have, and the head that a `{` opens.
use Rattle.std.proofs.Common.{◌≡◌, ◌∙◌, ℕ, ◌+◌, Bool, true, Option, Some, None, List, [], ◌∷◌, ◌++◌, reverse, refl, sym, ap, arith}
use Rattle.std.specs.Prelude.{if◌then◌else◌}
use Rattle.std.proofs.lemmas.Grind.{reverse_onto}
use Rattle.token_classes.specs.declared.class.TokenClass.{TokenClass}
use Rattle.token_classes.specs.Classes.{is_open_brace}
use Rattle.part_walk.specs.declared.bodies.BodyKind.{BodyKind}
use Rattle.part_walk.specs.declared.bodies.Head.{Head}
use Rattle.part_walk.specs.declared.walk.Around.{Around}
use Rattle.part_walk.specs.declared.walk.Begun.{Begun}
use Rattle.part_walk.specs.declared.walk.Walk.{Walk}
use Rattle.part_walk.specs.Walk.{begun_before, body_kind, head_from, head_of_kind, heads_len, opened_head}

heads_len-append : (xs ys : List Head) → heads_len (xs ++ ys) ≡ heads_len xs + heads_len ys
heads_len-append [] ys = omega arith
heads_len-append (x ∷ xs) ys = (let rest = heads_len-append xs ys in omega (arith, rest))

pub heads_len-reverse : (heads : List Head) → heads_len (reverse heads) ≡ heads_len heads
heads_len-reverse [] = refl
heads_len-reverse (head ∷ heads) =
    let rest = heads_len-reverse heads in
    let cut = heads_len-append (reverse heads) (head ∷ []) in
    ap (λ (hs : List Head). heads_len hs) (reverse_onto heads head []) ∙ omega (arith, rest, cut)

-- the outermost is first in the code
pub opened_so : (walk : Walk) (stands : Around) (bodies : List Head) (id : ℕ) (class : TokenClass) (kind : BodyKind) (begun : Begun) (all : ℕ) (opened : Option Head)
    → is_open_brace class ≡ true → body_kind walk stands ≡ Some kind → begun ≡ begun_before walk stands id → all ≡ heads_len bodies → opened ≡ head_from begun walk.place id kind all → opened ≡ opened_head walk stands (reverse bodies) id class
opened_so walk stands bodies id class kind begun all opened opens kind_is begun_is all_is is =
    let count = heads_len (reverse bodies) in
    is
    ∙ (ap (λ n. head_from begun walk.place id kind n) (all_is ∙ sym (heads_len-reverse bodies))
    ∙ (ap (λ (b : Begun). head_from b walk.place id kind count) begun_is
    ∙ (ap (λ (k : Option BodyKind). head_of_kind k (begun_before walk stands id) walk.place id count) (sym kind_is)
    ∙ ap (λ (b : Bool). if b then head_of_kind (body_kind walk stands) (begun_before walk stands id) walk.place id count else None) (sym opens))))
