-- Groups of nodes: what they list stays where one of them lists more, or one more is added.
use Rattle.std.proofs.Common.{◌≡◌, ℕ, ◌<◌, inl, inr, Some, List, [], ◌∷◌, ◌++◌, length, refl, arith, ap, sym, ◌∙◌}
use Rattle.std.proofs.Common.{subst, slice_get, slice_set, get_or}
use Rattle.std.specs.Prelude.{Result, Ok, Err, OnOk}
use Rattle.std.proofs.lemmas.Bool.{cases_eq}
use Rattle.std.proofs.lemmas.Option.{slice_get_read, slice_get_within}
use Rattle.frame_store.proofs.Edits.{At, at_set, at_push}
use Rattle.frame_store.specs.Chains.{Chained, Lists}
use Rattle.search_nodes.specs.Groups.{IsGrouped}

module _ (groups new : List Chained) (index : ℕ) (old group : Chained) (within : index < length groups) (is : old ≡ get_or groups index old) (sets : new ≡ slice_set groups index group) where
  edit : At groups new index group
  edit = subst (λ (gs : List Chained). At groups gs index group) (sym sets) (at_set groups index group within)

  was : slice_get groups index ≡ Some old
  was = slice_get_read groups (length groups) index old refl within is

  pub group_kept : ((d u : ℕ) → Lists old d u → Lists group d u) → (i d u : ℕ) → IsGrouped groups i d u → IsGrouped new i d u
  group_kept grows i d u h = elim (cases_eq i index) [
    | inr ne ↦ record { group = h.group; at = edit.others i ne ∙ h.at; has = h.has }
    | inl e ↦
        let there : Some h.group ≡ Some old = sym h.at ∙ ap (λ (j : ℕ). slice_get groups j) e ∙ was in
        let same : h.group ≡ old = cc in
        record { group = group; at = ap (λ (j : ℕ). slice_get new j) e ∙ edit.here; has = grows d u (subst (λ (g : Chained). Lists g d u) same h.has) }
  ]

  pub group_added : (d u : ℕ) → Lists group d u → IsGrouped new index d u
  group_added d u h = record { group = group; at = edit.here; has = h }

-- a group more
pub more_kept : (groups new : List Chained) (group : Chained) → new ≡ groups ++ group ∷ [] → (i d u : ℕ) → IsGrouped groups i d u → IsGrouped new i d u
more_kept groups new group pushes i d u h =
    let less : i < length groups = slice_get_within groups i h.group h.at in
    let at : slice_get (groups ++ group ∷ []) i ≡ Some h.group = (at_push groups group).others i (λ e. omega (arith, e, less)) ∙ h.at in
    record { group = h.group; at = subst (λ (gs : List Chained). slice_get gs i ≡ Some h.group) (sym pushes) at; has = h.has }

pub on_ok : {T E : Type 0} (r : Result T E) (P : Type 0) → P → OnOk r P
on_ok (Ok x) P h = h
on_ok (Err e) P h = tt
