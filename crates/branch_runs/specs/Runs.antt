-- Runs, and what each sees. docs/PROFILE.md, "Runs", says the rules.
use Rattle.std.specs.Prelude.{ℕ, ◌+◌, ◌-◌, nat_lt, max, Bool, true, false, not, ◌||◌, List, [], ◌∷◌, ◌++◌}
use Rattle.std.specs.Prelude.{if◌then◌else◌}
pub use Rattle.token_arena.specs.Segments.{ids_of}
use Rattle.branch_runs.specs.Tree.{Group, Branches, nothing, text, conditional, none, branch}

-- How many runs a group needs: as many as the conditional in it that needs most, and at least one. A conditional needs
-- as many as its live branches need together.
abbrev mutual
  pub need : Group → ℕ
  need nothing = 1
  need (text first end group) = need group
  need (conditional branches group) = max (needs branches) (need group)

  pub needs : Branches → ℕ
  needs none = 0
  needs (branch true group branches) = need group + needs branches
  needs (branch false group branches) = needs branches

-- one of these branches is live
abbrev pub has_live : Branches → Bool
has_live none = false
has_live (branch true group branches) = true
has_live (branch false group branches) = has_live branches

-- The texts that a group takes where the local number is r. The slots of a conditional's live branches follow one
-- another from 0, each as long as its branch's need. It takes the live branch in whose slot r falls, or the last one
-- where r is past all slots. Inside that branch the local number is r less the start of the slot.
abbrev mutual
  pub texts : Group → ℕ → List (ℕ × ℕ)
  texts nothing r = []
  texts (text first end group) r = (first, end) ∷ texts group r
  texts (conditional branches group) r = texts_in branches r ++ texts group r

  pub texts_in : Branches → ℕ → List (ℕ × ℕ)
  texts_in none r = []
  texts_in (branch true group branches) r =
      if nat_lt r (need group) || not (has_live branches) then texts group r else texts_in branches (r - need group)
  texts_in (branch false group branches) r = texts_in branches r

-- the items that run r sees
abbrev pub view_of : Group → ℕ → List ℕ
view_of group r = ids_of (texts group r)
