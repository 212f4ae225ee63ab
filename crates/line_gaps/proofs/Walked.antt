-- Decisions and lines, one after another.
use Rattle.std.proofs.Common.{◌≡◌, ◌+◌, ◌<◌, ◌≤◌, ℕ, zero, suc, Option, Some, None, List, [], ◌∷◌, ◌++◌, length, get_or}
use Rattle.std.proofs.Common.{refl, arith}
use Rattle.std.specs.Prelude.{IsSome, is_some, slice_set, if◌then◌else◌}
use Rattle.line_tokens.specs.declared.line.ULine.{ULine}
use Rattle.line_tokens.specs.Lines.{CutPlaces}
use Rattle.replacements.specs.declared.slot.Slot.{Slot}
use Rattle.replacements.specs.Decisions.{slot_of, decided, decided_all}

-- decisions behind others
pub decided_all-append : (plan : List (Option Slot)) (made later : List (ℕ × Slot)) → decided_all plan (made ++ later) ≡ decided_all (decided_all plan made) later
decided_all-append plan [] later = refl
decided_all-append plan (m ∷ made) later = decided_all-append (decided plan m.0 m.1) made later

-- a decision for a decided gap changes nothing
pub decided_again : (plan : List (Option Slot)) (id : ℕ) (slot : Slot) → IsSome (slot_of plan id) → decided plan id slot ≡ plan
decided_again plan id slot some = elim (slot_of plan id) as (λ o. IsSome o → (if is_some o then plan else slice_set plan id (Some slot)) ≡ plan) [
  | None ↦ λ h. absurd (none_is_none h)
  | Some first ↦ λ h. refl
] some
  where
    none_is_none : IsSome {T = Slot} None → ⊥
    none_is_none h = cc

-- ## The lines of a cut

pub cut_before : (at count : ℕ) (lines : List ULine) → CutPlaces at count lines → at ≤ count
cut_before at count [] cut = omega (arith, cut)
cut_before at count (line ∷ lines) cut =
    let rest : line.last + 1 ≤ count = cut_before (line.last + 1) count lines cut.1.1 in
    let from : line.first ≡ at = cut.0 in
    let some : line.first ≤ line.last = cut.1.0 in
    omega arith

-- each line ends before the end
pub cut_within : (at count : ℕ) (lines : List ULine) → CutPlaces at count lines → (i : ℕ) (d : ULine) → i < length lines → (get_or lines i d).last < count
cut_within at count [] cut i d within = omega (arith, within)
cut_within at count (line ∷ lines) cut zero d within =
    let rest : line.last + 1 ≤ count = cut_before (line.last + 1) count lines cut.1.1 in
    omega arith
cut_within at count (line ∷ lines) cut (suc i) d within = cut_within (line.last + 1) count lines cut.1.1 i d (omega arith)
