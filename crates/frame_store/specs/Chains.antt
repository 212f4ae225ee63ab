-- Groups of numbers by digests: each slot of a group has a chain of links, the last one first. A group without slots
-- has one chain.
use Rattle.std.specs.Prelude.{◌≡◌, ℕ, ◌≤◌, ◌⊎◌, ◌%◌, suc, zero, Some, List, length, slice_get}
use Rattle.frame_store.specs.declared.group.Link.{Link}

-- the slot of a digest, among so many
abbrev pub slot_of : ℕ → ℕ → ℕ
slot_of count digest = digest % count

-- the link tells the number, under its digest
abbrev pub IsTold : Link → ℕ → ℕ → Type 0
IsTold link digest u = (link.digest ≡ digest) × (link.number ≡ u)

-- the chain that ends there, behind its last link, has the number among its last n links
abbrev pub IsChained : ℕ → List Link → ℕ → ℕ → ℕ → Type 0
IsChained zero links end digest u = ⊥
IsChained (suc n) links end digest u =
    (at : ℕ) × (link : Link) × (end ≡ suc at) × (slice_get links at ≡ Some link)
    × (IsTold link digest u ⊎ ((link.before ≤ at) × IsChained n links link.before digest u))

-- .. among all of them
abbrev pub IsOnChain : List Link → ℕ → ℕ → ℕ → Type 0
IsOnChain links end digest u = (n : ℕ) × IsChained n links end digest u

-- the chain of a slot has the number
pub record IsListed (ends : List ℕ) (links : List Link) (slot digest u : ℕ) : Type 0 where
  pub end : ℕ
  pub at : slice_get ends slot ≡ Some end
  pub has : IsOnChain links end digest u

-- a group: for each slot where its chain ends, and the links of all chains
pub record Chained : Type 0 where
  pub ends : List ℕ
  pub links : List Link

-- where the chain ends that has the numbers of a digest
abbrev pub EndsAt : Chained → ℕ → ℕ → Type 0
EndsAt group digest end =
    ((length group.ends ≡ 0) × (end ≡ length group.links))
    ⊎ (slice_get group.ends (slot_of (length group.ends) digest) ≡ Some end)

-- the group lists the number under its digest
abbrev pub Lists : Chained → ℕ → ℕ → Type 0
Lists group digest u = (end : ℕ) × EndsAt group digest end × IsOnChain group.links end digest u

-- some link tells the number
pub record IsLinked (links : List Link) (digest u : ℕ) : Type 0 where
  pub place : ℕ
  pub link : Link
  pub at : slice_get links place ≡ Some link
  pub told : IsTold link digest u
