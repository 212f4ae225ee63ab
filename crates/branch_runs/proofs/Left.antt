-- A pass over the nodes leaves the texts that it has not passed.
use Rattle.std.proofs.Common.{◌≡◌, ◌∙◌, ℕ, zero, suc, ◌+◌, ◌<◌, ◌≤◌, ◌^◌, ◌⊎◌, inl, inr, true, false, List, [], ◌∷◌, ◌++◌, map, length, drop, refl, sym, ap, subst, arith, append_assoc}
use Rattle.std.specs.Prelude.{min}
use Rattle.std.proofs.lemmas.Bool.{false≢true}
use Rattle.std.proofs.lemmas.List.{drop_all, length-map, append-nil}
use Rattle.branch_runs.specs.declared.mark.MarkKind.TheVariants.{Text, IfZero, Opens, Ends, Flat}
use Rattle.branch_runs.specs.declared.mark.Mark.{Mark}
use Rattle.branch_runs.specs.declared.node.Node.{Node}
use Rattle.branch_runs.specs.declared.seen.OpenSlot.{OpenSlot}
use Rattle.branch_runs.specs.declared.seen.SeenText.{SeenText}
use Rattle.branch_runs.specs.Tree.{Group, Branches, nothing, conditional, none, branch}
use Rattle.branch_runs.specs.Reading.{Around, branches_of, group_of, outside, rest_of}
use Rattle.branch_runs.specs.Runs.{need, needs, has_live}
use Rattle.branch_runs.specs.Links.{node_mark}
use Rattle.branch_runs.specs.Fits.{rest_at, FitsNode}
use Rattle.branch_runs.specs.Seen.{seen_texts, seen_texts_in, seen_around, seen_left, FitSlots, till_of}
use Rattle.branch_runs.proofs.Cover.{need_some, has_live-needs}
use Rattle.branch_runs.proofs.Nodes.{rest_here, branch_rest, no_needs, IsBranch}

-- What is left is the same after a step, and the runs still have room.
pub record Leaves (before after : Group × Around) (from till first last : ℕ) (slots new : List OpenSlot) : Type 0 where
  pub left : seen_left after first last new ≡ seen_left before from till slots
  pub room : first + need after.0 ≤ last
  pub small : last < 2 ^ 32
  pub fits : FitSlots after.1 new

-- the runs have room
abbrev pub Room : Group × Around → ℕ → ℕ → List OpenSlot → Type 0
Room rest from till slots = (from + need rest.0 ≤ till) × (till < 2 ^ 32) × FitSlots rest.1 slots

no_seen : (bs : Branches) (from till : ℕ) → has_live bs ≡ false → seen_texts_in bs from till ≡ []
no_seen none from till live = refl
no_seen (branch true g bs) from till live = absurd (false≢true (sym live))
no_seen (branch false g bs) from till live = no_seen bs from till live

some_or_none : (n : ℕ) → (n ≡ 0) ⊎ (0 < n)
some_or_none zero = inl refl
some_or_none (suc n) = inr (omega arith)

-- a branch and those behind it
in_branch : (g : Group) (bs : Branches) (from till : ℕ) → from + need g ≤ till
    → seen_texts g from (till_of (needs bs) (need g) from till) ++ seen_texts_in bs (from + need g) till ≡ seen_texts_in (branch true g bs) from till
in_branch g bs from till room = elim (some_or_none (needs bs)) [
  | inl is ↦
      let live : has_live bs ≡ false = no_needs bs is in
      rw (is, live, no_seen bs (from + need g) till live) (append-nil (seen_texts g from till))
  | inr some ↦
      let live : has_live bs ≡ true = has_live-needs bs some in
      let m : min till (from + need g) ≡ from + need g = omega (arith, room) in
      let t : till_of (needs bs) (need g) from till ≡ from + need g = grind (arith, some) in
      rw (live, m, t) refl
]

pub opened : (from till : ℕ) (g : Group) (a : Around) (slots : List OpenSlot) → Room (conditional (branch true g (branches_of a)) (group_of a), outside a) from till slots
    → Leaves (conditional (branch true g (branches_of a)) (group_of a), outside a) (g, a) from till from (till_of (needs (branches_of a)) (need g) from till) slots
    (record { next = from + need g; from = from; till = till } ∷ slots)
opened from till g a slots h =
    let last = till_of (needs (branches_of a)) (need g) from till in
    let own = seen_texts g from last in
    let rest = seen_texts_in (branches_of a) (from + need g) till in
    let behind = seen_texts (group_of a) from till in
    let more = seen_around (outside a) slots in
    let joins : own ++ rest ≡ seen_texts_in (branch true g (branches_of a)) from till = in_branch g (branches_of a) from till (omega (arith, h.0)) in
    record {
      left = sym (append_assoc own rest (behind ++ more)) ∙ (sym (append_assoc (own ++ rest) behind more) ∙ ap (λ xs. (xs ++ behind) ++ more) joins);
      room = grind (arith, h.0);
      small = grind (arith, h.0, h.1);
      fits = (omega (arith, h.0), omega (arith, h.0), h.1, h.2);
    }

pub opened_off : (from till : ℕ) (g : Group) (a : Around) (slots : List OpenSlot) → Room (conditional (branch false g (branches_of a)) (group_of a), outside a) from till slots
    → Leaves (conditional (branch false g (branches_of a)) (group_of a), outside a) (nothing, a) from till from till slots (record { next = from; from = from; till = till } ∷ slots)
opened_off from till g a slots h =
    record {
      left = sym (append_assoc (seen_texts_in (branches_of a) from till) (seen_texts (group_of a) from till) (seen_around (outside a) slots));
      room = omega (arith, h.0, need_some (group_of a));
      small = h.1;
      fits = (omega (arith, h.0), omega (arith, h.0), h.1, h.2);
    }

pub branched : (from till : ℕ) (g : Group) (a : Around) (slot : OpenSlot) (slots : List OpenSlot) → Room (nothing, (branch true g (branches_of a), group_of a) ∷ outside a) from till (slot ∷ slots)
    → Leaves (nothing, (branch true g (branches_of a), group_of a) ∷ outside a) (g, a) from till slot.next (till_of (needs (branches_of a)) (need g) slot.next slot.till) (slot ∷ slots)
    (record { next = slot.next + need g; from = slot.from; till = slot.till } ∷ slots)
branched from till g a slot slots h =
    let last = till_of (needs (branches_of a)) (need g) slot.next slot.till in
    let own = seen_texts g slot.next last in
    let rest = seen_texts_in (branches_of a) (slot.next + need g) slot.till in
    let behind = seen_texts (group_of a) slot.from slot.till ++ seen_around (outside a) slots in
    let joins : own ++ rest ≡ seen_texts_in (branch true g (branches_of a)) slot.next slot.till = in_branch g (branches_of a) slot.next slot.till (omega (arith, h.2.0)) in
    record {
      left = sym (append_assoc own rest behind) ∙ ap (λ xs. xs ++ behind) joins;
      room = grind (arith, h.2.0);
      small = grind (arith, h.2.0, h.2.2);
      fits = (omega (arith, h.2.0), h.2.1, h.2.2, h.2.3);
    }

pub ended : (from till : ℕ) (g : Group) (a : Around) (slot : OpenSlot) (slots : List OpenSlot) → Room (nothing, (none, g) ∷ a) from till (slot ∷ slots)
    → Leaves (nothing, (none, g) ∷ a) (g, a) from till slot.from slot.till (slot ∷ slots) slots
ended from till g a slot slots h = record { left = refl; room = h.2.1; small = h.2.2; fits = h.2.3 }

-- the section at a place
from_here : {from till first last : ℕ} {slots new : List OpenSlot} {before here after : Group × Around} → here ≡ before → Room here from till slots
    → (Room before from till slots → Leaves before after from till first last slots new) → Leaves here after from till first last slots new
from_here {from} {till} {first} {last} {slots} {new} {before} {here} {after} is h p =
    subst (λ x. Leaves x after from till first last slots new) (sym is) (p (subst (λ x. Room x from till slots) is h))

pub leaves_opens : (marks : List Mark) (at from till : ℕ) (slots : List OpenSlot) (node : Node) → FitsNode marks at node → node.kind ≡ Opens → Room (rest_at marks at) from till slots
    → Leaves (rest_at marks at) (rest_at marks (at + 1)) from till from (till_of node.later node.need from till) slots (record { next = from + node.need; from = from; till = till } ∷ slots)
leaves_opens marks at from till slots node fits is h =
    rw (fits.need_is, fits.leads.later_is)
    (from_here (rest_here marks at node Opens fits is) h (opened from till (rest_at marks (at + 1)).0 (rest_at marks (at + 1)).1 slots))

pub leaves_off : (marks : List Mark) (at from till : ℕ) (slots : List OpenSlot) (node : Node) → FitsNode marks at node → node.kind ≡ IfZero → Room (rest_at marks at) from till slots
    → Leaves (rest_at marks at) (rest_at marks node.next) from till from till slots (record { next = from; from = from; till = till } ∷ slots)
leaves_off marks at from till slots node fits is h =
    rw fits.leads.next_is (from_here (rest_here marks at node IfZero fits is) h (opened_off from till (rest_at marks (at + 1)).0 (rest_at marks (at + 1)).1 slots))

pub leaves_branch : (marks : List Mark) (at from till : ℕ) (slot : OpenSlot) (slots : List OpenSlot) (node : Node) → FitsNode marks at node → IsBranch node.kind
    → Room (rest_at marks at) from till (slot ∷ slots)
    → Leaves (rest_at marks at) (rest_at marks (at + 1)) from till slot.next (till_of node.later node.need slot.next slot.till) (slot ∷ slots)
    (record { next = slot.next + node.need; from = slot.from; till = slot.till } ∷ slots)
leaves_branch marks at from till slot slots node fits is h =
    let rest = rest_at marks (at + 1) in
    rw (fits.need_is, fits.leads.later_is)
    (from_here (ap rest_of fits.here ∙ branch_rest node.kind node.first node.end rest.0 rest.1 is) h (branched from till rest.0 rest.1 slot slots))

pub leaves_ends : (marks : List Mark) (at from till : ℕ) (slot : OpenSlot) (slots : List OpenSlot) (node : Node) → FitsNode marks at node → node.kind ≡ Ends
    → Room (rest_at marks at) from till (slot ∷ slots)
    → Leaves (rest_at marks at) (rest_at marks (at + 1)) from till slot.from slot.till (slot ∷ slots) slots
leaves_ends marks at from till slot slots node fits is h =
    from_here (rest_here marks at node Ends fits is) h (ended from till (rest_at marks (at + 1)).0 (rest_at marks (at + 1)).1 slot slots)

pub leaves_flat : (marks : List Mark) (at from till : ℕ) (slots : List OpenSlot) (node : Node) → FitsNode marks at node → node.kind ≡ Flat → Room (rest_at marks at) from till slots
    → Leaves (rest_at marks at) (rest_at marks (at + 1)) from till from till slots slots
leaves_flat marks at from till slots node fits is h =
    from_here (rest_here marks at node Flat fits is) h (λ k. record { left = refl; room = k.0; small = k.1; fits = k.2 })

-- a text is left before it
pub left_text : (marks : List Mark) (at from till : ℕ) (slots : List OpenSlot) (node : Node) → FitsNode marks at node → node.kind ≡ Text
    → seen_left (rest_at marks at) from till slots ≡ (record { first = node.first; end = node.end; from = from; till = till }) ∷ seen_left (rest_at marks (at + 1)) from till slots
left_text marks at from till slots node fits is = ap (λ x. seen_left x from till slots) (rest_here marks at node Text fits is)

pub room_text : (marks : List Mark) (at from till : ℕ) (slots : List OpenSlot) (node : Node) → FitsNode marks at node → node.kind ≡ Text
    → Room (rest_at marks at) from till slots → Room (rest_at marks (at + 1)) from till slots
room_text marks at from till slots node fits is h = subst (λ x. Room x from till slots) (rest_here marks at node Text fits is) h

pub around-nil : (slots : List OpenSlot) → seen_around [] slots ≡ []
around-nil [] = refl
around-nil (slot ∷ slots) = around-nil slots

-- behind the sections nothing is left
pub none_left : (nodes : List Node) (at from till : ℕ) (slots : List OpenSlot) → length nodes ≤ at
    → seen_left (rest_at (map node_mark nodes) at) from till slots ≡ []
none_left nodes at from till slots after =
    let end : drop at (map node_mark nodes) ≡ [] = drop_all at (map node_mark nodes) (rw (length-map nodes node_mark) after) in
    ap (λ (x : List Mark). seen_left (rest_of x) from till slots) end ∙ around-nil slots

-- nor is anything where a branch or an end fits no conditional
out_of : (marks : List Mark) (at : ℕ) (node : Node) → FitsNode marks at node → IsBranch node.kind ⊎ (node.kind ≡ Ends)
    → (x : Around) × (rest_at marks at ≡ (nothing, x))
out_of marks at node fits (inl is) =
    let rest = rest_at marks (at + 1) in
    (_, ap rest_of fits.here ∙ branch_rest node.kind node.first node.end rest.0 rest.1 is)
out_of marks at node fits (inr is) = (_, rest_here marks at node Ends fits is)

pub leaves_out : (nodes : List Node) (at from till : ℕ) (slots new : List OpenSlot) (node : Node) → FitsNode (map node_mark nodes) at node → IsBranch node.kind ⊎ (node.kind ≡ Ends)
    → slots ≡ [] → new ≡ [] → Room (rest_at (map node_mark nodes) at) from till slots
    → Leaves (rest_at (map node_mark nodes) at) (rest_at (map node_mark nodes) (length nodes)) from till from till slots new
leaves_out nodes at from till slots new node fits is none_before none_now h =
    let marks = map node_mark nodes in
    let end : rest_at marks (length nodes) ≡ (nothing, []) = ap rest_of (drop_all (length nodes) marks (rw (length-map nodes node_mark) (omega arith))) in
    let here : (x : Around) × (rest_at marks at ≡ (nothing, x)) = out_of marks at node fits is in
    rw (end, none_before, none_now) (from_here here.1 (subst (λ xs. Room (rest_at marks at) from till xs) none_before h) (λ k. record { left = refl; room = k.0; small = k.1; fits = tt }))

pub pushed : (texts new here xs ys : List SeenText) → new ≡ texts ++ here → here ++ ys ≡ xs → new ++ ys ≡ texts ++ xs
pushed texts new here xs ys is has = rw (is, ← has) (append_assoc texts here ys)
