-- The texts of a group, with the runs that see them.
use Rattle.std.specs.Prelude.{◌<◌, ◌≤◌, ℕ, ◌+◌, ◌^◌, nat_le, nat_lt, min, Bool, true, false, ◌&&◌, List, [], ◌∷◌, ◌++◌}
use Rattle.std.specs.Prelude.{if◌then◌else◌, ⊤}
use Rattle.branch_runs.specs.declared.mark.MarkKind.{MarkKind}
use Rattle.branch_runs.specs.declared.mark.MarkKind.TheVariants.{Text}
use Rattle.branch_runs.specs.declared.node.Node.{Node}
use Rattle.branch_runs.specs.declared.seen.SeenText.{SeenText}
use Rattle.branch_runs.specs.declared.seen.OpenSlot.{OpenSlot}
use Rattle.branch_runs.specs.declared.seen.Place.{Place}
use Rattle.branch_runs.specs.Tree.{Group, Branches, nothing, text, conditional, none, branch}
use Rattle.branch_runs.specs.Reading.{Around, branches_of, group_of, outside}
use Rattle.branch_runs.specs.Runs.{need, needs, has_live}

-- The texts that a group takes in the runs from one to before another, of which the first has the local number 0. Each
-- live branch but the last takes the runs of its slot, and the last one all that follow.
abbrev mutual
  pub seen_texts : Group → ℕ → ℕ → List SeenText
  seen_texts nothing from till = []
  seen_texts (text first end group) from till =
      (record { first = first; end = end; from = from; till = till }) ∷ seen_texts group from till
  seen_texts (conditional branches group) from till = seen_texts_in branches from till ++ seen_texts group from till

  pub seen_texts_in : Branches → ℕ → ℕ → List SeenText
  seen_texts_in none from till = []
  seen_texts_in (branch true group branches) from till =
      if has_live branches
      then seen_texts group from (min till (from + need group))
      ++ seen_texts_in branches (min till (from + need group)) till
      else seen_texts group from till
  seen_texts_in (branch false group branches) from till = seen_texts_in branches from till

-- the run sees the text
abbrev pub is_seen : SeenText → ℕ → Bool
is_seen seen r = nat_le seen.from r && nat_lt r seen.till

-- those of these texts that a run sees
abbrev pub taken : List SeenText → ℕ → List (ℕ × ℕ)
taken [] r = []
taken (seen ∷ texts) r = if is_seen seen r then (seen.first, seen.end) ∷ taken texts r else taken texts r

-- What the code keeps.

-- a section of this kind for the texts of a pass: it is one, or nothing
abbrev pub if_text : MarkKind → SeenText → List SeenText
if_text Text seen = seen ∷ []
if_text kind seen = []

-- what the section at a place adds to the texts
abbrev pub text_of : Node → Place → List SeenText
text_of node place =
    if_text node.kind (record { first = node.first; end = node.end; from = place.from; till = place.till })

-- the texts that are left behind the innermost group, where the conditionals around it have these slots
abbrev pub seen_around : Around → List OpenSlot → List SeenText
seen_around around [] = []
seen_around around (slot ∷ slots) =
    seen_texts_in (branches_of around) slot.next slot.till
    ++ (seen_texts (group_of around) slot.from slot.till ++ seen_around (outside around) slots)

-- those that are left from a place on, where the runs from one to before another see the innermost group
abbrev pub seen_left : Group × Around → ℕ → ℕ → List OpenSlot → List SeenText
seen_left rest from till slots = seen_texts rest.0 from till ++ seen_around rest.1 slots

-- the slots hold all runs that their groups need
abbrev pub FitSlots : Around → List OpenSlot → Type 0
FitSlots around [] = ⊤
FitSlots around (slot ∷ slots) =
    (slot.next + needs (branches_of around) ≤ slot.till) × (slot.from + need (group_of around) ≤ slot.till)
    × (slot.till < 2 ^ 32) × FitSlots (outside around) slots

abbrev pub FitPlace : Group × Around → Place → List OpenSlot → Type 0
FitPlace rest place slots = (place.from + need rest.0 ≤ place.till) × (place.till < 2 ^ 32) × FitSlots rest.1 slots

-- the first run that sees no more of a branch, which needs so many runs from this one on, where those behind it need so
-- many
abbrev pub till_of : ℕ → ℕ → ℕ → ℕ → ℕ
till_of later need from till = if nat_lt 0 later then from + need else till
