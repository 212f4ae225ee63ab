use Rattle.std.proofs.Common.{arith, ◌≡◌, ◌+◌, ◌++◌, ◌<◌, ◌⊎◌, sym, subst, inl, inr, ℕ, List, ◌∷◌, map, length, get_or}
use Rattle.branch_runs.specs.declared.mark.MarkKind.TheVariants.{Text, Flat, Branch, LastBranch, Ends}
use Rattle.branch_runs.specs.declared.node.Node.{Node}
use Rattle.branch_runs.specs.declared.seen.OpenSlot.{OpenSlot}
use Rattle.branch_runs.specs.declared.seen.Place.{Place}
use Rattle.branch_runs.specs.Links.{node_mark}
use Rattle.branch_runs.specs.Fits.{FitsNode, FitNodes, rest_at, no_node}
use Rattle.branch_runs.specs.Seen.{seen_left, text_of, till_of}
use Rattle.branch_runs.proofs.Nodes.{fits_at, is_branch, branch_no_text}
use Rattle.branch_runs.proofs.Left.{Leaves, Room, leaves_opens, leaves_off, leaves_branch, leaves_ends, leaves_flat, leaves_out, left_text, room_text}
use Rattle.branch_runs.proofs.seen.step.Goals as goal

here : (nodes : List Node) (at : ℕ) → FitNodes (map node_mark nodes) 0 nodes → at < length nodes → FitsNode (map node_mark nodes) at (get_or nodes at no_node)
here nodes at fit within = fits_at (map node_mark nodes) at nodes no_node fit within

-- a text, or a directive that does nothing to the conditionals
flat_left : (nodes : List Node) (place : Place) (slots : List OpenSlot) → FitNodes (map node_mark nodes) 0 nodes → place.at < length nodes
    → ((get_or nodes place.at no_node).kind ≡ Text) ⊎ ((get_or nodes place.at no_node).kind ≡ Flat) → Room (rest_at (map node_mark nodes) place.at) place.from place.till slots
    → text_of (get_or nodes place.at no_node) place ++ seen_left (rest_at (map node_mark nodes) (place.at + 1)) place.from place.till slots
    ≡ seen_left (rest_at (map node_mark nodes) place.at) place.from place.till slots
flat_left nodes place slots fit within (inl is) h = rw is (sym (left_text (map node_mark nodes) place.at place.from place.till slots (get_or nodes place.at no_node) (here nodes place.at fit within) is))
flat_left nodes place slots fit within (inr is) h = rw is (leaves_flat (map node_mark nodes) place.at place.from place.till slots (get_or nodes place.at no_node) (here nodes place.at fit within) is h).left

flat_room : (nodes : List Node) (at from till : ℕ) (slots : List OpenSlot) → FitNodes (map node_mark nodes) 0 nodes → at < length nodes
    → ((get_or nodes at no_node).kind ≡ Text) ⊎ ((get_or nodes at no_node).kind ≡ Flat) → Room (rest_at (map node_mark nodes) at) from till slots
    → Room (rest_at (map node_mark nodes) (at + 1)) from till slots
flat_room nodes at from till slots fit within (inl is) h = room_text (map node_mark nodes) at from till slots (get_or nodes at no_node) (here nodes at fit within) is h
flat_room nodes at from till slots fit within (inr is) h = let p = leaves_flat (map node_mark nodes) at from till slots (get_or nodes at no_node) (here nodes at fit within) is h in (p.room, p.small, p.fits)

pub returns-in-Text-clause-left : goal.returns-in-Text-clause-left
returns-in-Text-clause-left c = rw c.moved.ensures (flat_left c.args.nodes.now c.args.place c.args.slots.now c.requires.fit c.requires.within c.in-Text.is c.requires.runs)

pub returns-in-Text-clause-runs : goal.returns-in-Text-clause-runs
returns-in-Text-clause-runs c = rw c.moved.ensures (flat_room c.args.nodes.now c.args.place.at c.args.place.from c.args.place.till c.args.slots.now c.requires.fit c.requires.within c.in-Text.is c.requires.runs)

pub passed-requires : goal.passed-requires
passed-requires c = let p = leaves_opens (map node_mark c.args.nodes.now) c.args.place.at c.args.place.from c.args.place.till c.args.slots.now _ (here c.args.nodes.now c.args.place.at c.requires.fit c.requires.within) c.in-Opens.is c.requires.runs in rw c.slot-slot.ensures (omega (arith, p.fits.0, p.fits.2))

pub in_branch-requires : goal.in_branch-requires
in_branch-requires c = let p = leaves_opens (map node_mark c.args.nodes.now) c.args.place.at c.args.place.from c.args.place.till c.args.slots.now _ (here c.args.nodes.now c.args.place.at c.requires.fit c.requires.within) c.in-Opens.is c.requires.runs in rw c.slot-slot.ensures (omega (arith, p.fits.0, p.fits.2))

pub returns-in_ok-push-in-Opens-clause-left : goal.returns-in_ok-push-in-Opens-clause-left
returns-in_ok-push-in-Opens-clause-left c = rw (c.in-Opens.is, c.in_branch.ensures, c.in_ok-push-in-Opens.ensures.ok, c.passed.ensures, c.slot-slot.ensures) (leaves_opens (map node_mark c.args.nodes.now) c.args.place.at c.args.place.from c.args.place.till c.args.slots.now _ (here c.args.nodes.now c.args.place.at c.requires.fit c.requires.within) c.in-Opens.is c.requires.runs).left

pub returns-in_ok-push-in-Opens-clause-runs : goal.returns-in_ok-push-in-Opens-clause-runs
returns-in_ok-push-in-Opens-clause-runs c = let p = leaves_opens (map node_mark c.args.nodes.now) c.args.place.at c.args.place.from c.args.place.till c.args.slots.now _ (here c.args.nodes.now c.args.place.at c.requires.fit c.requires.within) c.in-Opens.is c.requires.runs in rw (c.in_branch.ensures, c.in_ok-push-in-Opens.ensures.ok, c.passed.ensures, c.slot-slot.ensures) (p.room, p.small, p.fits)

pub returns-in_ok-push-in-IfZero-clause-left : goal.returns-in_ok-push-in-IfZero-clause-left
returns-in_ok-push-in-IfZero-clause-left c = rw (c.in-IfZero.is, c.moved-in-IfZero.ensures, c.in_ok-push-in-IfZero.ensures.ok, c.slot.ensures) (leaves_off (map node_mark c.args.nodes.now) c.args.place.at c.args.place.from c.args.place.till c.args.slots.now _ (here c.args.nodes.now c.args.place.at c.requires.fit c.requires.within) c.in-IfZero.is c.requires.runs).left

pub returns-in_ok-push-in-IfZero-clause-runs : goal.returns-in_ok-push-in-IfZero-clause-runs
returns-in_ok-push-in-IfZero-clause-runs c = let p = leaves_off (map node_mark c.args.nodes.now) c.args.place.at c.args.place.from c.args.place.till c.args.slots.now _ (here c.args.nodes.now c.args.place.at c.requires.fit c.requires.within) c.in-IfZero.is c.requires.runs in rw (c.moved-in-IfZero.ensures, c.in_ok-push-in-IfZero.ensures.ok, c.slot.ensures) (p.room, p.small, p.fits)

pub returns-in_ok-push-in-IfZero-clause-after : goal.returns-in_ok-push-in-IfZero-clause-after
returns-in_ok-push-in-IfZero-clause-after c = rw c.moved-in-IfZero.ensures (here c.args.nodes.now c.args.place.at c.requires.fit c.requires.within).next_after

-- a branch of an open conditional
on_branch : (nodes : List Node) (at from till : ℕ) (old : List OpenSlot) (slot : OpenSlot) (slots : List OpenSlot) → FitsNode (map node_mark nodes) at (get_or nodes at no_node)
    → ((get_or nodes at no_node).kind ≡ Branch) ⊎ ((get_or nodes at no_node).kind ≡ LastBranch) → old ≡ slot ∷ slots → Room (rest_at (map node_mark nodes) at) from till old
    → Leaves (rest_at (map node_mark nodes) at) (rest_at (map node_mark nodes) (at + 1)) from till slot.next (till_of (get_or nodes at no_node).later (get_or nodes at no_node).need slot.next slot.till) old
    (record { next = slot.next + (get_or nodes at no_node).need; from = slot.from; till = slot.till } ∷ slots)
on_branch nodes at from till old slot slots fits is top h =
    rw top (leaves_branch (map node_mark nodes) at from till slot slots (get_or nodes at no_node) fits (is_branch _ is) (subst (λ xs. Room (rest_at (map node_mark nodes) at) from till xs) top h))

pub passed-requires-in-Some : goal.passed-requires-in-Some
passed-requires-in-Some c = let p = on_branch c.args.nodes.now c.args.place.at c.args.place.from c.args.place.till c.args.slots.now c.in-Some.slot c.pop.new.self (here c.args.nodes.now c.args.place.at c.requires.fit c.requires.within) c.in-Branch.is c.in-Some.ensures c.requires.runs in omega (arith, p.fits.0, p.fits.2)

pub in_branch-requires-in-Some : goal.in_branch-requires-in-Some
in_branch-requires-in-Some c = let p = on_branch c.args.nodes.now c.args.place.at c.args.place.from c.args.place.till c.args.slots.now c.in-Some.slot c.pop.new.self (here c.args.nodes.now c.args.place.at c.requires.fit c.requires.within) c.in-Branch.is c.in-Some.ensures c.requires.runs in omega (arith, p.fits.0, p.fits.2)

pub returns-in_ok-push-in-Some-clause-left : goal.returns-in_ok-push-in-Some-clause-left
returns-in_ok-push-in-Some-clause-left c = rw (branch_no_text _ _ (is_branch _ c.in-Branch.is), c.in_branch-in-Some.ensures, c.in_ok-push-in-Some.ensures.ok, c.passed-in-Some.ensures) (on_branch c.args.nodes.now c.args.place.at c.args.place.from c.args.place.till c.args.slots.now c.in-Some.slot c.pop.new.self (here c.args.nodes.now c.args.place.at c.requires.fit c.requires.within) c.in-Branch.is c.in-Some.ensures c.requires.runs).left

pub returns-in_ok-push-in-Some-clause-runs : goal.returns-in_ok-push-in-Some-clause-runs
returns-in_ok-push-in-Some-clause-runs c = let p = on_branch c.args.nodes.now c.args.place.at c.args.place.from c.args.place.till c.args.slots.now c.in-Some.slot c.pop.new.self (here c.args.nodes.now c.args.place.at c.requires.fit c.requires.within) c.in-Branch.is c.in-Some.ensures c.requires.runs in rw (c.in_branch-in-Some.ensures, c.in_ok-push-in-Some.ensures.ok, c.passed-in-Some.ensures) (p.room, p.small, p.fits)

pub returns-in-None-clause-left : goal.returns-in-None-clause-left
returns-in-None-clause-left c = rw (branch_no_text _ _ (is_branch _ c.in-Branch.is), c.moved-in-None.ensures) (leaves_out c.args.nodes.now c.args.place.at c.args.place.from c.args.place.till c.args.slots.now c.pop.new.self _ (here c.args.nodes.now c.args.place.at c.requires.fit c.requires.within) (inl (is_branch _ c.in-Branch.is)) c.in-None.ensures.0 c.in-None.ensures.1 c.requires.runs).left

pub returns-in-None-clause-runs : goal.returns-in-None-clause-runs
returns-in-None-clause-runs c = let p = leaves_out c.args.nodes.now c.args.place.at c.args.place.from c.args.place.till c.args.slots.now c.pop.new.self _ (here c.args.nodes.now c.args.place.at c.requires.fit c.requires.within) (inl (is_branch _ c.in-Branch.is)) c.in-None.ensures.0 c.in-None.ensures.1 c.requires.runs in rw c.moved-in-None.ensures (p.room, p.small, p.fits)

-- the end of an open conditional
on_end : (nodes : List Node) (at from till : ℕ) (old : List OpenSlot) (slot : OpenSlot) (slots : List OpenSlot) → FitsNode (map node_mark nodes) at (get_or nodes at no_node)
    → (get_or nodes at no_node).kind ≡ Ends → old ≡ slot ∷ slots → Room (rest_at (map node_mark nodes) at) from till old
    → Leaves (rest_at (map node_mark nodes) at) (rest_at (map node_mark nodes) (at + 1)) from till slot.from slot.till old slots
on_end nodes at from till old slot slots fits is top h =
    rw top (leaves_ends (map node_mark nodes) at from till slot slots (get_or nodes at no_node) fits is (subst (λ xs. Room (rest_at (map node_mark nodes) at) from till xs) top h))

pub returns-in-Some-pop-clause-left : goal.returns-in-Some-pop-clause-left
returns-in-Some-pop-clause-left c = rw (c.in-Ends.is, c.around.ensures) (on_end c.args.nodes.now c.args.place.at c.args.place.from c.args.place.till c.args.slots.now c.in-Some-pop.slot c.pop-in-Ends.new.self (here c.args.nodes.now c.args.place.at c.requires.fit c.requires.within) c.in-Ends.is c.in-Some-pop.ensures c.requires.runs).left

pub returns-in-Some-pop-clause-runs : goal.returns-in-Some-pop-clause-runs
returns-in-Some-pop-clause-runs c = let p = on_end c.args.nodes.now c.args.place.at c.args.place.from c.args.place.till c.args.slots.now c.in-Some-pop.slot c.pop-in-Ends.new.self (here c.args.nodes.now c.args.place.at c.requires.fit c.requires.within) c.in-Ends.is c.in-Some-pop.ensures c.requires.runs in rw c.around.ensures (p.room, p.small, p.fits)

pub returns-in-None-pop-clause-left : goal.returns-in-None-pop-clause-left
returns-in-None-pop-clause-left c = rw (c.in-Ends.is, c.moved-in-None-pop.ensures) (leaves_out c.args.nodes.now c.args.place.at c.args.place.from c.args.place.till c.args.slots.now c.pop-in-Ends.new.self _ (here c.args.nodes.now c.args.place.at c.requires.fit c.requires.within) (inr c.in-Ends.is) c.in-None-pop.ensures.0 c.in-None-pop.ensures.1 c.requires.runs).left

pub returns-in-None-pop-clause-runs : goal.returns-in-None-pop-clause-runs
returns-in-None-pop-clause-runs c = let p = leaves_out c.args.nodes.now c.args.place.at c.args.place.from c.args.place.till c.args.slots.now c.pop-in-Ends.new.self _ (here c.args.nodes.now c.args.place.at c.requires.fit c.requires.within) (inr c.in-Ends.is) c.in-None-pop.ensures.0 c.in-None-pop.ensures.1 c.requires.runs in rw c.moved-in-None-pop.ensures (p.room, p.small, p.fits)
