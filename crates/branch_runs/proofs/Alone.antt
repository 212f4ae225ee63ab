-- The items that one run sees and another doesn't.
use Rattle.std.proofs.Common.{◌≡◌, ◌∙◌, ℕ, ◌+◌, ◌-◌, ◌<◌, ◌≤◌, ◌⊎◌, inl, inr, Bool, true, false, List, [], ◌∷◌, map, refl, sym, arith}
use Rattle.std.specs.Prelude.{if◌then◌else◌}
use Rattle.std.proofs.lemmas.Bool.{true≢false}
use Rattle.token_arena.specs.Segments.{AscendFrom}
use Rattle.branch_runs.specs.declared.seen.SeenText.{SeenText}
use Rattle.branch_runs.specs.Runs.{ids_of}
use Rattle.branch_runs.specs.Seen.{is_seen, taken}
use Rattle.branch_runs.specs.Inside.{text_bounds}
use Rattle.branch_runs.specs.Anew.{HasAlone}
use Rattle.branch_runs.specs.Noted.{BeginsAlone, EndsAlone}
use Rattle.branch_runs.proofs.Cover.{AnyHas}
use Rattle.branch_runs.proofs.Taken.{cases_lt, seen_is, unseen_is}
use Rattle.branch_runs.proofs.Items.{AnyHas-items, items-AnyHas}

-- the run is the first that sees the text, or the first that doesn't see it any more
abbrev pub Turns : SeenText → ℕ → Type 0
Turns seen r = ((r ≡ seen.from) × (r < seen.till)) ⊎ ((r ≡ seen.till) × (seen.from < r))

-- the run sees the text where the run before it does, or the text turns
pub alike_or_turns : (seen : SeenText) (r : ℕ) → 0 < r → (is_seen seen r ≡ is_seen seen (r - 1)) ⊎ Turns seen r
alike_or_turns seen r some = elim (cases_lt r seen.from) [
  | inl a ↦ inl (unseen_is seen r (inl a) ∙ sym (unseen_is seen (r - 1) (inl (omega (arith, a)))))
  | inr from ↦ elim (cases_lt r seen.till) [
    | inl before ↦ elim (cases_lt (r - 1) seen.from) [
      | inl a ↦ inr (inl (omega (arith, a, from, some), before))
      | inr a ↦ inl (seen_is seen r from before ∙ sym (seen_is seen (r - 1) a (omega (arith, before))))
    ]
    | inr behind ↦ elim (cases_lt (r - 1) seen.till) [
      | inl a ↦ elim (cases_lt (r - 1) seen.from) [
        | inl b ↦ inl (unseen_is seen r (inr behind) ∙ sym (unseen_is seen (r - 1) (inl b)))
        | inr b ↦ inr (inr (omega (arith, a, behind, some), omega (arith, b, some)))
      ]
      | inr a ↦ inl (unseen_is seen r (inr behind) ∙ sym (unseen_is seen (r - 1) (inr a)))
    ]
  ]
]

abbrev pub take_by : Bool → SeenText → List (ℕ × ℕ) → List (ℕ × ℕ)
take_by c seen xs = if c then (seen.first, seen.end) ∷ xs else xs

pub has_by : (c : Bool) (seen : SeenText) (xs : List (ℕ × ℕ)) (id : ℕ) → AnyHas (take_by c seen xs) id → ((c ≡ true) × (seen.first ≤ id) × (id < seen.end)) ⊎ AnyHas xs id
has_by false seen xs id h = inr h
has_by true seen xs id (inl h) = inl (refl, h.0, h.1)
has_by true seen xs id (inr h) = inr h

pub by_has : (c : Bool) (seen : SeenText) (xs : List (ℕ × ℕ)) (id : ℕ) → AnyHas xs id → AnyHas (take_by c seen xs) id
by_has false seen xs id h = h
by_has true seen xs id h = inr h

-- no run sees an item before the first text
low_has : (texts : List SeenText) (low r id : ℕ) → AscendFrom low (map text_bounds texts) → AnyHas (taken texts r) id → low ≤ id
low_has [] low r id up h = absurd h
low_has (seen ∷ texts) low r id up h = elim (has_by (is_seen seen r) seen (taken texts r) id h) [
  | inl it ↦ omega (arith, it.1, up.0)
  | inr more ↦ omega (arith, low_has texts (seen.end + 1) r id up.2 more, up.0, up.1)
]

-- of two runs only the one sees a text with this item
abbrev pub Alone : List SeenText → ℕ → ℕ → ℕ → Type 0
Alone texts one other id = AnyHas (taken texts one) id × (AnyHas (taken texts other) id → ⊥)

here_alone : (seen : SeenText) (texts : List SeenText) (low one other id : ℕ) → AscendFrom low (map text_bounds (seen ∷ texts))
    → is_seen seen one ≡ true → is_seen seen other ≡ false → seen.first ≤ id → id < seen.end → Alone (seen ∷ texts) one other id
here_alone seen texts low one other id up sees not from below = (
  rw sees (inl (from, below)),
  λ h. elim (has_by (is_seen seen other) seen (taken texts other) id h) [
    | inl it ↦ true≢false (sym it.0 ∙ not)
    | inr more ↦ absurd (omega (arith, low_has texts (seen.end + 1) other id up.2 more, below))
  ],
)

there_alone : (seen : SeenText) (texts : List SeenText) (one other id : ℕ) → AscendFrom (seen.end + 1) (map text_bounds texts)
    → Alone texts one other id → Alone (seen ∷ texts) one other id
there_alone seen texts one other id up h = (
  by_has (is_seen seen one) seen (taken texts one) id h.0,
  λ x. elim (has_by (is_seen seen other) seen (taken texts other) id x) [
    | inl it ↦ absurd (omega (arith, low_has texts (seen.end + 1) one id up h.0, it.2))
    | inr more ↦ h.1 more
  ],
)

-- the first item of a text that the one sees
pub begins_alone : (texts : List SeenText) (low one other first : ℕ) → AscendFrom low (map text_bounds texts) → BeginsAlone texts one other first → Alone texts one other first
begins_alone [] low one other first up h = absurd h
begins_alone (seen ∷ texts) low one other first up (inl h) = here_alone seen texts low one other first up h.0 h.1 (omega (arith, h.2)) (omega (arith, h.2, up.1))
begins_alone (seen ∷ texts) low one other first up (inr h) = there_alone seen texts one other first up.2 (begins_alone texts (seen.end + 1) one other first up.2 h)

-- and the last
pub ends_alone : (texts : List SeenText) (low one other end : ℕ) → AscendFrom low (map text_bounds texts) → EndsAlone texts one other end → Alone texts one other (end - 1)
ends_alone [] low one other end up h = absurd h
ends_alone (seen ∷ texts) low one other end up (inl h) = here_alone seen texts low one other (end - 1) up h.0 h.1 (omega (arith, h.2, up.1)) (omega (arith, h.2, up.1))
ends_alone (seen ∷ texts) low one other end up (inr h) = there_alone seen texts one other (end - 1) up.2 (ends_alone texts (seen.end + 1) one other end up.2 h)

pub alone_items : (texts : List SeenText) (one other id : ℕ) → Alone texts one other id → HasAlone (ids_of (taken texts one)) (ids_of (taken texts other)) id
alone_items texts one other id h = (AnyHas-items (taken texts one) id h.0, λ x. h.1 (items-AnyHas (taken texts other) id x))
