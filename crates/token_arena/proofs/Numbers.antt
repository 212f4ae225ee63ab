-- How the item with a number stands.
use Rattle.std.proofs.Common.{◌≡◌, ◌∙◌, ℕ, suc, ◌+◌, ◌-◌, ◌<◌, ◌≤◌, ◌⊎◌, inl, inr, true, false, List, [], ◌∷◌, ◌++◌, length, replicate, get_or, refl, ap, arith, length-append}
use Rattle.std.specs.Prelude.{nat_lt, if◌then◌else◌}
use Rattle.std.proofs.lemmas.List.{get_or_append_left, get_or-replicate, length-replicate}
use Rattle.std.proofs.Math.Seq.{get_or-append_right}
use Rattle.token_arena.specs.declared.directives.Section.{Section}
use Rattle.token_arena.specs.declared.directives.Section.TheVariants.{Text, Dir}
use Rattle.token_arena.specs.Sections.{sections_of, IsCut}
use Rattle.token_arena.specs.Standing.{Standing, Outside, Begins, Inside, standings, standing_in, EachItemStandsAsItsSectionSays}
use Rattle.token_arena.proofs.Whole.{sections_are_cut}
use Rattle.token_arena.proofs.Standings.{sections_say_how_items_stand}

cases_lt : (a b : ℕ) → (a < b) ⊎ (b ≤ a)
cases_lt a b = grind arith

is_less : (a b : ℕ) → a < b → nat_lt a b ≡ true
is_less a b h = grind arith

not_less : (a b : ℕ) → b ≤ a → nat_lt a b ≡ false
not_less a b h = grind arith

-- the items of a directive with so many before its `#` and so many behind it
abbrev of_directive : ℕ → ℕ → List Standing
of_directive a b = replicate a Outside ++ Begins ∷ replicate b Inside

long : (a b : ℕ) → length (of_directive a b) ≡ a + 1 + b
long a b =
    let whole = length-append (replicate a Outside) (Begins ∷ replicate b Inside) in
    let front = length-replicate a Outside in
    let back = length-replicate b Inside in
    omega (arith, whole, front, back)

before_hash : (a b j : ℕ) → j < a → get_or (of_directive a b) j Outside ≡ Outside
before_hash a b j h =
    let within : j < length (replicate a Outside) = omega (arith, length-replicate a Outside) in
    get_or_append_left (replicate a Outside) (Begins ∷ replicate b Inside) Outside j within ∙ get_or-replicate a j Outside Outside h

at_or_behind : (a b m : ℕ) → get_or (of_directive a b) (a + m) Outside ≡ get_or (Begins ∷ replicate b Inside) m Outside
at_or_behind a b m =
    let front = length-replicate a Outside in
    let past : length (replicate a Outside) ≤ a + m = omega (arith, front) in
    let e : (a + m) - length (replicate a Outside) ≡ m = omega (arith, front) in
    get_or-append_right (replicate a Outside) (Begins ∷ replicate b Inside) (a + m) Outside past ∙ ap (λ k. get_or (Begins ∷ replicate b Inside) k Outside) e

in_dir : (first hash end j : ℕ) → first ≤ hash → hash < end → first + j < end
    → get_or (of_directive (hash - first) (end - (hash + 1))) j Outside ≡ (if nat_lt (first + j) hash then Outside else (if nat_lt hash (first + j) then Inside else Begins))
in_dir first hash end j order less within = elim (cases_lt (first + j) hash) [
  | inl before ↦
      let yes = is_less (first + j) hash before in
      before_hash (hash - first) (end - (hash + 1)) j (omega arith) ∙ rw yes refl
  | inr past ↦ elim (cases_lt hash (first + j)) [
    | inl behind ↦
        let no = not_less (first + j) hash past in
        let yes = is_less hash (first + j) behind in
        let m : ℕ = first + j - hash - 1 in
        let there : j ≡ (hash - first) + suc m = omega arith in
        let inside : m < end - (hash + 1) = omega arith in
        ap (λ k. get_or (of_directive (hash - first) (end - (hash + 1))) k Outside) there
        ∙ (at_or_behind (hash - first) (end - (hash + 1)) (suc m) ∙ (get_or-replicate (end - (hash + 1)) m Inside Outside inside ∙ rw (no, yes) refl))
    | inr here ↦
        let no = not_less (first + j) hash past in
        let neither = not_less hash (first + j) here in
        let there : j ≡ (hash - first) + 0 = omega arith in
        ap (λ k. get_or (of_directive (hash - first) (end - (hash + 1))) k Outside) there
        ∙ (at_or_behind (hash - first) (end - (hash + 1)) 0 ∙ rw (no, neither) refl)
  ]
]

-- the standing of an item among items of which so many are of the first section
split : (xs ys : List Standing) (n j : ℕ) → length xs ≡ n → n ≤ j → get_or (xs ++ ys) j Outside ≡ get_or ys (j - n) Outside
split xs ys n j is h =
    let past : length xs ≤ j = omega (arith, is) in
    get_or-append_right xs ys j Outside past ∙ ap (λ k. get_or ys (j - k) Outside) is

numbered : (sections : List Section) (at len j : ℕ) → IsCut at len sections → get_or (standings sections) j Outside ≡ standing_in sections (at + j)
numbered [] at len j cut = refl
numbered (Text first end ∷ sections) at len j cut = elim (cases_lt (at + j) end) [
  | inl here ↦
      let yes = is_less (at + j) end here in
      let within : j < end - first = omega (arith, cut.0) in
      let inside : j < length (replicate (end - first) Outside) = omega (arith, length-replicate (end - first) Outside) in
      get_or_append_left (replicate (end - first) Outside) (standings sections) Outside j inside ∙ (get_or-replicate (end - first) j Outside Outside within ∙ rw yes refl)
  | inr past ↦
      let no = not_less (at + j) end past in
      let behind : end - first ≤ j = omega (arith, cut.0) in
      let same : end + (j - (end - first)) ≡ at + j = omega (arith, cut.0, cut.1) in
      split (replicate (end - first) Outside) (standings sections) (end - first) j (length-replicate (end - first) Outside) behind
      ∙ (numbered sections end len (j - (end - first)) cut.3 ∙ (ap (standing_in sections) same ∙ rw no refl))
]
numbered (Dir dir ∷ sections) at len j cut = elim (cases_lt (at + j) dir.end) [
  | inl here ↦
      let yes = is_less (at + j) dir.end here in
      let first_j : dir.first + j ≡ at + j = omega (arith, cut.0) in
      let before : dir.first + j < dir.end = omega (arith, first_j) in
      let size = long (dir.hash.0 - dir.first) (dir.end - (dir.hash.0 + 1)) in
      let inside : j < length (of_directive (dir.hash.0 - dir.first) (dir.end - (dir.hash.0 + 1))) = omega (arith, size, cut.0, cut.1, cut.2) in
      get_or_append_left (of_directive (dir.hash.0 - dir.first) (dir.end - (dir.hash.0 + 1))) (standings sections) Outside j inside
      ∙ (in_dir dir.first dir.hash.0 dir.end j cut.1 cut.2 before ∙ rw (first_j, yes) refl)
  | inr past ↦
      let no = not_less (at + j) dir.end past in
      let size = long (dir.hash.0 - dir.first) (dir.end - (dir.hash.0 + 1)) in
      let whole : length (of_directive (dir.hash.0 - dir.first) (dir.end - (dir.hash.0 + 1))) ≡ dir.end - dir.first = omega (arith, size, cut.1, cut.2) in
      let behind : dir.end - dir.first ≤ j = omega (arith, cut.0) in
      let same : dir.end + (j - (dir.end - dir.first)) ≡ at + j = omega (arith, cut.0, cut.1, cut.2) in
      split (of_directive (dir.hash.0 - dir.first) (dir.end - (dir.hash.0 + 1))) (standings sections) (dir.end - dir.first) j whole behind
      ∙ (numbered sections dir.end len (j - (dir.end - dir.first)) cut.3 ∙ (ap (standing_in sections) same ∙ rw no refl))
]

pub each_item_stands_as_its_section_says : EachItemStandsAsItsSectionSays
each_item_stands_as_its_section_says arena held at =
    let none : 0 + at ≡ at = omega arith in
    ap (λ xs. get_or xs at Outside) (sections_say_how_items_stand arena held)
    ∙ (numbered (sections_of arena) 0 (length arena.tokens) at (sections_are_cut arena) ∙ ap (standing_in (sections_of arena)) none)
