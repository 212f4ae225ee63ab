-- Chains of links: what they keep when a link is put behind one, and how they are walked.
use Rattle.std.proofs.Common.{◌≡◌, ℕ, ◌+◌, ◌<◌, ◌≤◌, min, inl, inr, Some, None, List, [], ◌∷◌, ◌++◌, length, refl}
use Rattle.std.proofs.Common.{arith, ap, sym, ◌∙◌, subst, suc, zero, slice_get, slice_set, get_or, ◌⊎◌}
use Rattle.std.proofs.lemmas.Bool.{cases_eq}
use Rattle.std.proofs.lemmas.List.{length-append}
use Rattle.std.proofs.lemmas.Option.{slice_get-get_or, slice_get_read, slice_get_within}
use Rattle.frame_store.proofs.Edits.{At, at_set, at_push}
use Rattle.frame_store.specs.declared.group.Link.{Link}
use Rattle.frame_store.specs.Chains.{IsTold, IsChained, IsOnChain, IsListed, IsLinked, Lists, slot_of}

-- a link more leaves what the chains have
pub chained_push : (links : List Link) (link : Link) (n end d u : ℕ) → IsChained n links end d u → IsChained n (links ++ link ∷ []) end d u
chained_push links link zero end d u h = h
chained_push links link (suc n) end d u h =
    let less : h.0 < length links = slice_get_within links h.0 h.1 h.3 in (
      h.0,
      h.1,
      h.2,
      (at_push links link).others h.0 (λ e. omega (arith, e, less)) ∙ h.3,
      elim h.4 [
        | inl told ↦ inl told
        | inr rest ↦ inr (rest.0, chained_push links link n h.1.before d u rest.1)
      ],
    )

pub on_chain_push : (links : List Link) (link : Link) (end d u : ℕ) → IsOnChain links end d u → IsOnChain (links ++ link ∷ []) end d u
on_chain_push links link end d u h = (h.0, chained_push links link h.0 end d u h.1)

-- a chain with something on it ends within the links
pub chain_within : (links : List Link) (n end d u : ℕ) → IsChained n links end d u → end ≤ length links
chain_within links zero end d u h = absurd h
chain_within links (suc n) end d u h = omega (arith, h.2, slice_get_within links h.0 h.1 h.3)

-- nothing is on the empty chain
pub chain_empty : (links : List Link) (n end d u : ℕ) → end ≤ 0 → IsChained n links end d u → ⊥
chain_empty links zero end d u none h = h
chain_empty links (suc n) end d u none h = omega (arith, none, h.2)

-- .. nor on one that ends past the links
pub chain_past : (links : List Link) (n end at d u : ℕ) → end ≡ suc at → slice_get links at ≡ None → IsChained n links end d u → ⊥
chain_past links zero end at d u e none h = h
chain_past links (suc n) end at d u e none h =
    let same : h.0 ≡ at = omega (arith, e, h.2) in
    let there : None ≡ Some h.1 = sym none ∙ ap (λ (k : ℕ). slice_get links k) (sym same) ∙ h.3 in
    absurd (cc)

-- the last link of a chain tells the number, or the rest of the chain has it
pub chain_back : (links : List Link) (n end at d u : ℕ) (link : Link) → end ≡ suc at → slice_get links at ≡ Some link → IsChained n links end d u → IsTold link d u ⊎ IsOnChain links (min link.before at) d u
chain_back links zero end at d u link e is h = absurd h
chain_back links (suc n) end at d u link e is h =
    let same : h.0 ≡ at = omega (arith, e, h.2) in
    let both : Some h.1 ≡ Some link = sym h.3 ∙ ap (λ (k : ℕ). slice_get links k) same ∙ is in
    let one : h.1 ≡ link = cc in
    elim h.4 [
      | inl told ↦ inl (subst (λ (l : Link). IsTold l d u) one told)
      | inr rest ↦
          let low : link.before ≤ at = omega (arith, rest.0, same, ap (λ (l : Link). l.before) one) in
          let rest_is : h.1.before ≡ min link.before at = omega (arith, low, ap (λ (l : Link). l.before) one) in
          inr (n, subst (λ (k : ℕ). IsChained n links k d u) rest_is rest.1)
    ]

-- what a chain has, some link tells
pub chain_linked : (links : List Link) (n end d u : ℕ) → IsChained n links end d u → IsLinked links d u
chain_linked links zero end d u h = absurd h
chain_linked links (suc n) end d u h = elim h.4 [
  | inl told ↦ record { place = h.0; link = h.1; at = h.3; told = told }
  | inr rest ↦ chain_linked links n h.1.before d u rest.1
]

-- a link that was put behind the chain of a slot
module _ (ends new_ends : List ℕ) (links new_links : List Link) (slot end : ℕ) (link : Link) (within : slot < length ends) (is : end ≡ get_or ends slot end) (before : link.before ≡ min end (length links)) (pushes : new_links ≡ links ++ link ∷ []) (sets : new_ends ≡ slice_set ends slot (length new_links)) where
  edit : At ends new_ends slot (length new_links)
  edit = subst (λ (es : List ℕ). At ends es slot (length new_links)) (sym sets) (at_set ends slot (length new_links) within)

  was : slice_get ends slot ≡ Some end
  was = slice_get_read ends (length ends) slot end refl within is

  count : length new_links ≡ suc (length links)
  count = omega (arith, ap length pushes, length-append links (link ∷ []))

  last : slice_get new_links (length links) ≡ Some link
  last = subst (λ (ls : List Link). slice_get ls (length links) ≡ Some link) (sym pushes) (at_push links link).here

  keeps : (e d u : ℕ) → IsOnChain links e d u → IsOnChain new_links e d u
  keeps e d u h = subst (λ (ls : List Link). IsOnChain ls e d u) (sym pushes) (on_chain_push links link e d u h)

  pub list_added : IsListed new_ends new_links slot link.digest link.number
  list_added = record { end = length new_links; at = edit.here; has = (1, (length links, link, count, last, inl (refl, refl))) }

  pub list_kept : (i d u : ℕ) → IsListed ends links i d u → IsListed new_ends new_links i d u
  list_kept i d u h = elim (cases_eq i slot) [
    | inr ne ↦ record { end = h.end; at = edit.others i ne ∙ h.at; has = keeps h.end d u h.has }
    | inl e ↦
        let there : Some h.end ≡ Some end = sym h.at ∙ ap (λ (j : ℕ). slice_get ends j) e ∙ was in
        let same : h.end ≡ end = cc in
        let inside : h.end ≤ length links = chain_within links h.has.0 h.end d u h.has.1 in
        let rest : h.end ≡ link.before = omega (arith, same, inside, before) in
        let low : link.before ≤ length links = omega (arith, before) in
        let old = keeps link.before d u (subst (λ (k : ℕ). IsOnChain links k d u) rest h.has) in
        record { end = length new_links; at = ap (λ (j : ℕ). slice_get new_ends j) e ∙ edit.here; has = (suc old.0, (length links, link, count, last, inr (low, old.1))) }
  ]

-- the links below n are listed
abbrev pub AreSpread : List Link → List ℕ → List Link → ℕ → ℕ → Type 0
AreSpread links ends spread count n = (k : ℕ) (link : Link) → k < n → slice_get links k ≡ Some link → IsListed ends spread (slot_of count link.digest) link.digest link.number

-- .. and one more of them
pub one_more_spread : (links : List Link) (ends new_ends : List ℕ) (spread new_spread : List Link) (count n slot : ℕ) (link : Link) → slice_get links n ≡ Some link → slot ≡ slot_of count link.digest → ((i d u : ℕ) → IsListed ends spread i d u → IsListed new_ends new_spread i d u) → IsListed new_ends new_spread slot link.digest link.number →
    AreSpread links ends spread count n → AreSpread links new_ends new_spread count (n + 1)
one_more_spread links ends new_ends spread new_spread count n slot link is is_slot kept added listed k x less at = elim (cases_eq k n) [
  | inr ne ↦ kept _ _ _ (listed k x (omega (arith, less, ne)) at)
  | inl e ↦
      let here : Some link ≡ Some x = sym is ∙ ap (λ (w : ℕ). slice_get links w) (sym e) ∙ at in
      let same : link ≡ x = cc in
      subst (λ (l : Link). IsListed new_ends new_spread (slot_of count l.digest) l.digest l.number) same (subst (λ (i : ℕ). IsListed new_ends new_spread i link.digest link.number) is_slot added)
]

-- all links are listed once those below their number are
pub all_spread : (links : List Link) (ends : List ℕ) (spread : List Link) (count n : ℕ) → length links ≤ n → length ends ≡ count → AreSpread links ends spread count n → (d u : ℕ) → IsLinked links d u → IsListed ends spread (slot_of (length ends) d) d u
all_spread links ends spread count n all len listed d u h =
    let one = listed h.place h.link (omega (arith, all, slice_get_within links h.place h.link h.at)) h.at in
    let two = subst (λ (k : ℕ). IsListed ends spread (slot_of k h.link.digest) h.link.digest h.link.number) (sym len) one in
    let three = subst (λ (k : ℕ). IsListed ends spread (slot_of (length ends) k) k h.link.number) h.told.0 two in
    subst (λ (v : ℕ). IsListed ends spread (slot_of (length ends) d) d v) h.told.1 three

-- what a group lists, some link tells
pub lists_linked : (ends : List ℕ) (links : List Link) (d u : ℕ) → Lists (record { ends = ends; links = links }) d u → IsLinked links d u
lists_linked ends links d u h = chain_linked links h.2.0 h.0 d u h.2.1

-- a group lists what its slots do
pub from_slot : (ends : List ℕ) (links : List Link) (slot d u : ℕ) → slot ≡ slot_of (length ends) d → IsListed ends links slot d u → Lists (record { ends = ends; links = links }) d u
from_slot ends links slot d u is h = (h.end, inr (ap (λ (j : ℕ). slice_get ends j) (sym is) ∙ h.at), h.has)

-- .. and no more, where it has some
pub at_slot : (ends : List ℕ) (links : List Link) (d u : ℕ) → 0 < length ends → Lists (record { ends = ends; links = links }) d u → IsListed ends links (slot_of (length ends) d) d u
at_slot ends links d u some h = elim h.1 [
  | inl none ↦ absurd (omega (arith, some, none.0))
  | inr there ↦ record { end = h.0; at = there; has = h.2 }
]

-- .. and one without slots what its only chain has
pub on_one_chain : (ends : List ℕ) (links : List Link) (d u : ℕ) → length ends ≡ 0 → Lists (record { ends = ends; links = links }) d u → IsOnChain links (length links) d u
on_one_chain ends links d u none h = elim h.1 [
  | inl there ↦ subst (λ (k : ℕ). IsOnChain links k d u) there.1 h.2
  | inr there ↦ absurd (omega (arith, none, slice_get_within ends (slot_of (length ends) d) h.0 there))
]

pub from_one_chain : (ends : List ℕ) (links : List Link) (d u : ℕ) → length ends ≡ 0 → IsOnChain links (length links) d u → Lists (record { ends = ends; links = links }) d u
from_one_chain ends links d u none h = (length links, inl (none, refl), h)

-- a link behind the slots' chains
pub slots_kept : (ends new_ends : List ℕ) (links new_links : List Link) → 0 < length ends → length new_ends ≡ length ends → ((i d u : ℕ) → IsListed ends links i d u → IsListed new_ends new_links i d u) →
    (d u : ℕ) → Lists (record { ends = ends; links = links }) d u → Lists (record { ends = new_ends; links = new_links }) d u
slots_kept ends new_ends links new_links some len kept d u h = from_slot new_ends new_links (slot_of (length ends) d) d u (ap (λ (k : ℕ). slot_of k d) (sym len)) (kept (slot_of (length ends) d) d u (at_slot ends links d u some h))

-- a link behind the only chain
pub one_kept : (ends : List ℕ) (links new_links : List Link) → length ends ≡ 0 → ((d u : ℕ) → IsOnChain links (length links) d u → IsOnChain new_links (length new_links) d u) →
    (d u : ℕ) → Lists (record { ends = ends; links = links }) d u → Lists (record { ends = ends; links = new_links }) d u
one_kept ends links new_links none kept d u h = from_one_chain ends new_links d u none (kept d u (on_one_chain ends links d u none h))

-- the chain of the slot of a digest
pub chain_of : (ends : List ℕ) (links : List Link) (slot d u : ℕ) → slot ≡ slot_of (length ends) d → slot < length ends → Lists (record { ends = ends; links = links }) d u → IsOnChain links (get_or ends slot 0) d u
chain_of ends links slot d u is_slot within h =
    let listed = at_slot ends links d u (omega (arith, within)) h in
    let there : Some listed.end ≡ Some (get_or ends slot 0) = sym listed.at ∙ ap (λ (j : ℕ). slice_get ends j) (sym is_slot) ∙ slice_get-get_or ends slot 0 within in
    let same : listed.end ≡ get_or ends slot 0 = cc in
    subst (λ (k : ℕ). IsOnChain links k d u) same listed.has

-- a link more on the only chain
module _ (links new_links : List Link) (link : Link) (before : link.before ≡ length links) (pushes : new_links ≡ links ++ link ∷ []) where
  more : length new_links ≡ suc (length links)
  more = omega (arith, ap length pushes, length-append links (link ∷ []))

  top : slice_get new_links (length links) ≡ Some link
  top = subst (λ (ls : List Link). slice_get ls (length links) ≡ Some link) (sym pushes) (at_push links link).here

  pub pushed_kept : (d u : ℕ) → IsOnChain links (length links) d u → IsOnChain new_links (length new_links) d u
  pushed_kept d u h =
      let old = subst (λ (ls : List Link). IsOnChain ls (length links) d u) (sym pushes) (on_chain_push links link (length links) d u h) in
      let rest = subst (λ (k : ℕ). IsOnChain new_links k d u) (sym before) old in
      let low : link.before ≤ length links = omega (arith, before) in
      (suc rest.0, (length links, link, more, top, inr (low, rest.1)))

  pub pushed_added : IsOnChain new_links (length new_links) link.digest link.number
  pushed_added = (1, (length links, link, more, top, inl (refl, refl)))
