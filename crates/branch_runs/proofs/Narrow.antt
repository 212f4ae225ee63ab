-- The changes that are kept are no wider than the texts that turn.
use Rattle.std.proofs.Common.{◌≡◌, ◌∙◌, ℕ, zero, suc, ◌+◌, ◌-◌, ◌<◌, ◌≤◌, ◌⊎◌, inl, inr, Bool, true, false, List, [], ◌∷◌, get_or, length, replicate, refl, sym, subst, arith}
use Rattle.std.specs.Prelude.{min, max, nat_lt}
use Rattle.std.proofs.lemmas.Bool.{cases_eq}
use Rattle.std.proofs.lemmas.List.{get_or-set_same, get_or-set_other, set_past}
use Rattle.branch_runs.specs.declared.change.Change.{Change}
use Rattle.branch_runs.specs.declared.seen.SeenText.{SeenText}
use Rattle.branch_runs.specs.Seen.{taken}
use Rattle.branch_runs.specs.Anew.{no_change}
use Rattle.branch_runs.specs.Noted.{widened, noted_one, noted, AreNoted, BeginsAlone, EndsAlone, AreNarrow}
use Rattle.branch_runs.specs.Visible.{text_at}
use Rattle.branch_runs.proofs.Taken.{cases_lt, seen_is, unseen_is}
use Rattle.branch_runs.proofs.Alone.{Turns, alike_or_turns}
use Rattle.branch_runs.proofs.Differ.{all_noted, turn_low}

-- One of these texts turns, and begins with this item.
abbrev OneTurns : List SeenText → ℕ → ℕ → Type 0
OneTurns texts r first = BeginsAlone texts r (r - 1) first ⊎ BeginsAlone texts (r - 1) r first

turns_here : (seen : SeenText) (texts : List SeenText) (r first : ℕ) → 0 < r → Turns seen r → seen.first ≡ first → OneTurns (seen ∷ texts) r first
turns_here seen texts r first some (inl t) is =
    inl (inl (seen_is seen r (omega (arith, t.0)) t.1, unseen_is seen (r - 1) (inl (omega (arith, t.0, some))), is))
turns_here seen texts r first some (inr t) is =
    inr (inl (seen_is seen (r - 1) (omega (arith, t.1)) (omega (arith, t.0, some)), unseen_is seen r (inr (omega (arith, t.0))), is))

turns_there : (seen : SeenText) (texts : List SeenText) (r first : ℕ) → OneTurns texts r first → OneTurns (seen ∷ texts) r first
turns_there seen texts r first (inl h) = inl (inr h)
turns_there seen texts r first (inr h) = inr (inr h)

-- What one text makes wider.

widened_first : (changes : List Change) (run first end r : ℕ)
    → ((get_or (widened changes run first end) r no_change).first ≡ (get_or changes r no_change).first) ⊎ ((r ≡ run) × ((get_or (widened changes run first end) r no_change).first ≡ first))
widened_first changes run first end r =
    let old = get_or changes run no_change in
    let new : Change = record { first = min old.first first; end = max old.end end } in
    elim (cases_eq r run) [
      | inl is ↦ rw is (elim (cases_lt run (length changes)) [
        | inl a ↦ rw (get_or-set_same changes run new no_change a) (elim (cases_lt old.first first) [
          | inl b ↦ inl (omega (arith, b))
          | inr b ↦ inr (refl, omega (arith, b))
        ])
        | inr a ↦ rw (set_past changes run new a) (inl refl)
      ])
      | inr other ↦ rw (get_or-set_other changes run r new no_change other) (inl refl)
    ]

widened_end : (changes : List Change) (run first end r : ℕ)
    → ((get_or (widened changes run first end) r no_change).end ≡ (get_or changes r no_change).end) ⊎ ((r ≡ run) × (0 < end) × ((get_or (widened changes run first end) r no_change).end ≡ end))
widened_end changes run first end r =
    let old = get_or changes run no_change in
    let new : Change = record { first = min old.first first; end = max old.end end } in
    elim (cases_eq r run) [
      | inl is ↦ rw is (elim (cases_lt run (length changes)) [
        | inl a ↦ rw (get_or-set_same changes run new no_change a) (elim (cases_lt old.end end) [
          | inl b ↦ inr (refl, omega (arith, b), omega (arith, b))
          | inr b ↦ inl (omega (arith, b))
        ])
        | inr a ↦ rw (set_past changes run new a) (inl refl)
      ])
      | inr other ↦ rw (get_or-set_other changes run r new no_change other) (inl refl)
    ]

one_first : (c : Bool) (changes : List Change) (seen : SeenText) (r : ℕ) → nat_lt seen.from seen.till ≡ c
    → ((get_or (noted_one changes seen) r no_change).first ≡ (get_or changes r no_change).first) ⊎ (Turns seen r × (seen.first ≡ (get_or (noted_one changes seen) r no_change).first))
one_first false changes seen r is = rw is (inl refl)
one_first true changes seen r is =
    let once = widened changes seen.from seen.first seen.end in
    let some : seen.from < seen.till = grind (arith, is) in
    rw is (elim (widened_first once seen.till seen.first 0 r) [
      | inr h ↦ inr (inr (h.0, omega (arith, h.0, some)), sym h.1)
      | inl same ↦ elim (widened_first changes seen.from seen.first seen.end r) [
        | inr h ↦ inr (inl (h.0, omega (arith, h.0, some)), sym (same ∙ h.1))
        | inl old ↦ inl (same ∙ old)
      ]
    ])

one_end : (c : Bool) (changes : List Change) (seen : SeenText) (r : ℕ) → nat_lt seen.from seen.till ≡ c
    → ((get_or (noted_one changes seen) r no_change).end ≡ (get_or changes r no_change).end) ⊎ ((r ≡ seen.from) × (r < seen.till) × (seen.end ≡ (get_or (noted_one changes seen) r no_change).end))
one_end false changes seen r is = rw is (inl refl)
one_end true changes seen r is =
    let once = widened changes seen.from seen.first seen.end in
    let some : seen.from < seen.till = grind (arith, is) in
    rw is (elim (widened_end once seen.till seen.first 0 r) [
      | inr h ↦ absurd (omega (arith, h.1))
      | inl same ↦ elim (widened_end changes seen.from seen.first seen.end r) [
        | inr h ↦ inr (h.0, omega (arith, h.0, some), sym (same ∙ h.2))
        | inl old ↦ inl (same ∙ old)
      ]
    ])

-- What all texts do.

noted_first : (changes : List Change) (texts : List SeenText) (r : ℕ) → 0 < r
    → ((get_or (noted changes texts) r no_change).first ≡ (get_or changes r no_change).first) ⊎ OneTurns texts r (get_or (noted changes texts) r no_change).first
noted_first changes [] r some = inl refl
noted_first changes (seen ∷ texts) r some = elim (noted_first (noted_one changes seen) texts r some) [
  | inr h ↦ inr (turns_there seen texts r _ h)
  | inl same ↦ elim (one_first (nat_lt seen.from seen.till) changes seen r refl) [
    | inl old ↦ inl (same ∙ old)
    | inr h ↦ inr (turns_here seen texts r _ some h.0 (h.1 ∙ sym same))
  ]
]

noted_end : (changes : List Change) (texts : List SeenText) (r : ℕ) → 0 < r
    → ((get_or (noted changes texts) r no_change).end ≡ (get_or changes r no_change).end) ⊎ EndsAlone texts r (r - 1) (get_or (noted changes texts) r no_change).end
noted_end changes [] r some = inl refl
noted_end changes (seen ∷ texts) r some = elim (noted_end (noted_one changes seen) texts r some) [
  | inr h ↦ inr (inr h)
  | inl same ↦ elim (one_end (nat_lt seen.from seen.till) changes seen r refl) [
    | inl old ↦ inl (same ∙ old)
    | inr h ↦ inr (inl (seen_is seen r (omega (arith, h.0)) h.1, unseen_is seen (r - 1) (inl (omega (arith, h.0, some))), h.2 ∙ sym same))
  ]
]

-- the items with which the texts begin fit their type
abbrev AreSmall : List SeenText → Type 0
AreSmall texts = (k : ℕ) → k < length texts → (text_at texts k).first < 4294967296

-- where the change of a run begins with no item that fits, no text turns, or one that begins with the last item that fits
none_turns : (changes : List Change) (texts : List SeenText) (r : ℕ) → AreNoted changes texts → AreSmall texts → 0 < r → r < length changes
    → (get_or changes r no_change).first ≡ 4294967295
    → (taken texts r ≡ taken texts (r - 1)) ⊎ OneTurns texts r 4294967295
none_turns changes [] r are small some within none = inl refl
none_turns changes (seen ∷ texts) r are small some within none =
    elim (none_turns changes texts r are.1 (λ k below. small (suc k) (omega (arith, below))) some within none) [
      | inr h ↦ inr (turns_there seen texts r 4294967295 h)
      | inl all ↦ elim (alike_or_turns seen r some) [
        | inl is ↦ inl (rw (is, all) refl)
        | inr t ↦
            let low : (get_or changes r no_change).first ≤ seen.first = turn_low changes seen r are.0 t within in
            let high : seen.first < 4294967296 = small 0 (omega arith) in
            inr (turns_here seen texts r 4294967295 some t (omega (arith, low, high, none)))
      ]
    ]

fresh : (count r : ℕ) → get_or (replicate count no_change) r no_change ≡ no_change
fresh zero r = refl
fresh (suc count) zero = refl
fresh (suc count) (suc r) = fresh count r

pub all_narrow : (count : ℕ) (texts : List SeenText) → AreSmall texts → AreNarrow (noted (replicate count no_change) texts) texts
all_narrow count texts small r some within =
    let new = replicate count no_change in
    let none = fresh count r in
    record {
      first = elim (noted_first new texts r some) [
        | inr h ↦ inr h
        | inl same ↦
            let is : (get_or (noted new texts) r no_change).first ≡ 4294967295 = same ∙ rw none refl in
            elim (none_turns (noted new texts) texts r (all_noted new texts) small some within is) [
              | inl all ↦ inl (all, is)
              | inr h ↦ inr (subst (λ n. OneTurns texts r n) (sym is) h)
            ]
      ];
      end = elim (noted_end new texts r some) [
        | inr h ↦ inr h
        | inl same ↦ inl (same ∙ rw none refl)
      ];
    }

-- one text more of which the first item fits
pub small_more : (texts : List SeenText) (at : ℕ) → ((k : ℕ) → k < at → (text_at texts k).first < 4294967296) → (text_at texts at).first < 4294967296
    → (k : ℕ) → k < at + 1 → (text_at texts k).first < 4294967296
small_more texts at before now k below = elim (cases_lt k at) [
  | inl a ↦ before k a
  | inr a ↦ let is : at ≡ k = omega (arith, a, below) in subst (λ i. (text_at texts i).first < 4294967296) is now
]
