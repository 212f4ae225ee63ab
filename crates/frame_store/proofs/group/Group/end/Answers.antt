use Rattle.std.proofs.Common.{◌≡◌, ℕ, ◌<◌, ◌∙◌, List, length, get_or, sym, subst, ap, arith, eqb-true}
use Rattle.frame_store.specs.Chains.{Chained, IsOnChain, slot_of}
use Rattle.frame_store.proofs.Chaining.{on_one_chain, chain_of}
use Rattle.frame_store.proofs.group.Group.end.Goals as goal

pub returns-then-is_empty : goal.returns-then-is_empty
returns-then-is_empty c = λ u h.
    let group = c.args.self.now in
    let ends : c.as_slice-ends.result.now ≡ group.ends = c.as_slice-ends.ensures.value ∙ ap (λ (g : Chained). g.ends) c.self.view_is in
    let none : length group.ends ≡ 0 = ap length (sym ends) ∙ eqb-true _ _ (sym c.is_empty.ensures ∙ c.if-is_empty.true) in
    let all : c.len.result ≡ length group.links = omega (arith, c.len.ensures, ap (λ (g : Chained). length g.links) c.self.view_is) in
    subst (λ (end : ℕ). IsOnChain group.links end c.args.digest u) (sym all) (on_one_chain group.ends group.links c.args.digest u none h)

pub returns : goal.returns
returns c = λ u h.
    let group = c.args.self.now in
    let ends : c.as_slice-ends.result.now ≡ group.ends = c.as_slice-ends.ensures.value ∙ ap (λ (g : Chained). g.ends) c.self.view_is in
    let slot : c.slot.result ≡ slot_of (length group.ends) c.args.digest = c.slot.ensures.value ∙ ap (λ (es : List ℕ). slot_of (length es) c.args.digest) ends in
    let within : c.slot.result < length group.ends = omega (arith, c.slot.ensures.within, ap length ends) in
    subst (λ (es : List ℕ). IsOnChain group.links (get_or es c.slot.result 0) c.args.digest u) (sym ends) (chain_of group.ends group.links c.slot.result c.args.digest u slot within h)
