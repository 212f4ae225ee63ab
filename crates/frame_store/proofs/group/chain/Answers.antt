use Rattle.std.proofs.Common.{◌≡◌, ◌∙◌, List, [], ◌∷◌, ◌++◌, length, ap, arith, rules}
use Rattle.frame_store.specs.declared.group.Link.{Link}
use Rattle.frame_store.proofs.Chaining.{pushed_kept, pushed_added}
use Rattle.frame_store.proofs.group.chain.Goals as goal

pub returns-clause-kept : goal.returns-clause-kept
returns-clause-kept c =
    let link : Link = record { digest = c.args.digest; number = c.args.number; before = c.len-before.result } in
    let before : c.len-before.result ≡ length c.args.links.now.items = first_of (omega (arith, c.len-before.ensures), search (rules, c.len-before.ensures)) in
    pushed_kept c.args.links.now.items c.push.new.self.items link before (◌∙◌ {A = List Link} c.in_ok-push.ensures.items (ap (λ (l : Link). c.args.links.now.items ++ l ∷ []) c.in_ok-link_of.ensures))

pub returns-clause-added : goal.returns-clause-added
returns-clause-added c =
    let link : Link = record { digest = c.args.digest; number = c.args.number; before = c.len-before.result } in
    let before : c.len-before.result ≡ length c.args.links.now.items = first_of (omega (arith, c.len-before.ensures), search (rules, c.len-before.ensures)) in
    pushed_added c.args.links.now.items c.push.new.self.items link before (◌∙◌ {A = List Link} c.in_ok-push.ensures.items (ap (λ (l : Link). c.args.links.now.items ++ l ∷ []) c.in_ok-link_of.ensures))
