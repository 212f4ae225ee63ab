use Rattle.std.proofs.Common.{◌≡◌, ◌∙◌, List, ℕ, ◌+◌, ap, arith, rules, min, [], ◌∷◌, ◌++◌, length, slice_set}
use Rattle.std.proofs.lemmas.List.{length-append}
use Rattle.frame_store.specs.declared.group.Link.{Link}
use Rattle.frame_store.proofs.Chaining.{list_kept, list_added}
use Rattle.frame_store.proofs.group.list_in_room.Goals as goal

pub returns-clause-kept : goal.returns-clause-kept
returns-clause-kept c =
    let links = c.args.links.now.items in
    let link : Link = record { digest = c.args.digest; number = c.args.number; before = c.min-before.result } in
    let count : c.len-count.result ≡ length links = first_of (omega (arith, c.len-count.ensures), search (rules, c.len-count.ensures)) in
    let pushes : c.push_reserved.new.self.items ≡ links ++ link ∷ [] = ◌∙◌ {A = List Link} c.push_reserved.ensures.items (ap (λ (l : Link). links ++ l ∷ []) c.in_ok-link.ensures) in
    let last : c.len-count.result + 1 ≡ length c.push_reserved.new.self.items = omega (arith, count, ap length pushes, length-append links (link ∷ [])) in
    let before : c.min-before.result ≡ min c.index.result.now (length links) = first_of (omega (arith, c.min-before.ensures, count), search (rules, c.min-before.ensures, count)) in
    list_kept c.args.ends.now.items _ links c.push_reserved.new.self.items c.args.slot c.index.result.now link c.requires.slot c.index.ensures before pushes
    (ap (λ (k : ℕ). slice_set c.args.ends.now.items c.args.slot k) last)

pub returns-clause-added : goal.returns-clause-added
returns-clause-added c =
    let links = c.args.links.now.items in
    let link : Link = record { digest = c.args.digest; number = c.args.number; before = c.min-before.result } in
    let count : c.len-count.result ≡ length links = first_of (omega (arith, c.len-count.ensures), search (rules, c.len-count.ensures)) in
    let pushes : c.push_reserved.new.self.items ≡ links ++ link ∷ [] = ◌∙◌ {A = List Link} c.push_reserved.ensures.items (ap (λ (l : Link). links ++ l ∷ []) c.in_ok-link.ensures) in
    let last : c.len-count.result + 1 ≡ length c.push_reserved.new.self.items = omega (arith, count, ap length pushes, length-append links (link ∷ [])) in
    let before : c.min-before.result ≡ min c.index.result.now (length links) = first_of (omega (arith, c.min-before.ensures, count), search (rules, c.min-before.ensures, count)) in
    list_added c.args.ends.now.items _ links c.push_reserved.new.self.items c.args.slot c.index.result.now link c.requires.slot c.index.ensures before pushes
    (ap (λ (k : ℕ). slice_set c.args.ends.now.items c.args.slot k) last)
