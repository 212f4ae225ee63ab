use Rattle.std.proofs.Common.{◌≡◌, ℕ, true, ◌==◌, ◌∙◌, length, sym, subst, arith, rules}
use Rattle.std.proofs.lemmas.Bool.Decides.{nat_tests}
use Rattle.frame_store.specs.Chains.{Chained, Lists}
use Rattle.std.specs.Vec.{vec_len}
use Rattle.frame_store.proofs.Chaining.{one_kept}
use Rattle.frame_store.proofs.group.Group.add_to_full.Goals as goal

is_none : (n m : ℕ) → true ≡ (n == 0) → n ≡ m → m ≡ 0
is_none n m e same = grind (arith, nat_tests, e, same)

pub returns-then-len-lt-MOST_ON_ONE_CHAIN-clause-kept : goal.returns-then-len-lt-MOST_ON_ONE_CHAIN-clause-kept
returns-then-len-lt-MOST_ON_ONE_CHAIN-clause-kept c = λ d u h.
    let old : Lists (record { ends = c.self.inside.ends.items; links = c.self.inside.links.items }) d u = subst (λ (g : Chained). Lists g d u) (sym c.self.view_is) h in
    let count : vec_len c.self.inside.ends ≡ length c.self.inside.ends.items = first_of (omega (arith), search (rules), grind (arith, rules)) in
    one_kept c.self.inside.ends.items c.self.inside.links.items c.chain.new.links.items (is_none (vec_len c.self.inside.ends) (length c.self.inside.ends.items) (sym c.if-is_empty.true ∙ c.is_empty.ensures) count) c.chain.ensures.kept d u old
