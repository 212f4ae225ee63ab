-- How the view of a run differs from that of the run before it.
use Rattle.std.proofs.Common.{◌≡◌, ◌≢◌, ◌∙◌, ℕ, ◌+◌, ◌-◌, ◌<◌, ◌≤◌, ◌⊎◌, inl, inr, Bool, true, false, List, [], ◌∷◌, map, get_or, length, drop, refl, sym, ap, subst, arith}
use Rattle.std.specs.Prelude.{min, max, nat_lt}
use Rattle.std.specs.List.{range_with_len, Contains}
use Rattle.std.proofs.lemmas.Bool.{cases_eq, true≢false}
use Rattle.std.proofs.lemmas.List.{drop_all, get_or-set_same, get_or-set_other, length-set, set_past}
use Rattle.token_arena.specs.Segments.{AscendFrom}
use Rattle.branch_runs.specs.declared.change.Change.{Change}
use Rattle.branch_runs.specs.declared.seen.SeenText.{SeenText}
use Rattle.branch_runs.specs.Tree.{Group}
use Rattle.branch_runs.specs.Runs.{need, view_of, ids_of}
use Rattle.branch_runs.specs.Seen.{seen_texts, is_seen, taken}
use Rattle.branch_runs.specs.Inside.{text_bounds}
use Rattle.branch_runs.specs.Anew.{items_between, HasAlone, IsChange, no_change}
use Rattle.branch_runs.specs.Noted.{widened, noted_one, noted, Notes, AreNoted, IsNarrow, AreNarrow}
use Rattle.branch_runs.proofs.Alone.{Turns, alike_or_turns, take_by, has_by, by_has, begins_alone, ends_alone, alone_items}
use Rattle.branch_runs.proofs.Cover.{AnyHas}
use Rattle.branch_runs.proofs.Items.{AnyHas-items, items-AnyHas}
use Rattle.branch_runs.proofs.Taken.{cases_lt, seen_is, unseen_is, view_taken}
use Rattle.branch_runs.proofs.Between.{items_between-append, row_between}

-- the change is as wide, or wider
abbrev Wider : Change → Change → Type 0
Wider old new = (new.first ≤ old.first) × (old.end ≤ new.end)

wider-trans : (a b c : Change) → Wider a b → Wider b c → Wider a c
wider-trans a b c x y = (omega (arith, x.0, y.0), omega (arith, x.1, y.1))

widened_here : (changes : List Change) (run first end : ℕ) → run < length changes
    → (get_or (widened changes run first end) run no_change).first ≤ first × (end ≤ (get_or (widened changes run first end) run no_change).end) × Wider (get_or changes run no_change) (get_or (widened changes run first end) run no_change)
widened_here changes run first end within =
    let old = get_or changes run no_change in
    rw (get_or-set_same changes run (record { first = min old.first first; end = max old.end end }) no_change within) (omega arith, omega arith, (omega arith, omega arith))

widened_wider : (changes : List Change) (run first end r : ℕ) → Wider (get_or changes r no_change) (get_or (widened changes run first end) r no_change)
widened_wider changes run first end r = elim (cases_eq r run) [
  | inl is ↦ rw is (elim (cases_lt run (length changes)) [
    | inl a ↦ (widened_here changes run first end a).2
    | inr a ↦ rw (set_past changes run (record { first = min (get_or changes run no_change).first first; end = max (get_or changes run no_change).end end }) a) (omega arith, omega arith)
  ])
  | inr other ↦ rw (get_or-set_other changes run r (record { first = min (get_or changes run no_change).first first; end = max (get_or changes run no_change).end end }) no_change other) (omega arith, omega arith)
]

one_length : (c : Bool) (changes : List Change) (seen : SeenText) → nat_lt seen.from seen.till ≡ c → length (noted_one changes seen) ≡ length changes
one_length true changes seen is = rw is (length-set (widened changes seen.from seen.first seen.end) seen.till _ ∙ length-set changes seen.from _)
one_length false changes seen is = rw is refl

one_wider : (c : Bool) (changes : List Change) (seen : SeenText) (r : ℕ) → nat_lt seen.from seen.till ≡ c → Wider (get_or changes r no_change) (get_or (noted_one changes seen) r no_change)
one_wider true changes seen r is =
    let once = widened changes seen.from seen.first seen.end in
    rw is (wider-trans (get_or changes r no_change) (get_or once r no_change) (get_or (widened once seen.till seen.first 0) r no_change)
    (widened_wider changes seen.from seen.first seen.end r) (widened_wider once seen.till seen.first 0 r))
one_wider false changes seen r is = rw is (omega arith, omega arith)

noted_length : (changes : List Change) (texts : List SeenText) → length (noted changes texts) ≡ length changes
noted_length changes [] = refl
noted_length changes (seen ∷ texts) = noted_length (noted_one changes seen) texts ∙ one_length (nat_lt seen.from seen.till) changes seen refl

noted_wider : (changes : List Change) (texts : List SeenText) (r : ℕ) → Wider (get_or changes r no_change) (get_or (noted changes texts) r no_change)
noted_wider changes [] r = (omega arith, omega arith)
noted_wider changes (seen ∷ texts) r =
    wider-trans (get_or changes r no_change) (get_or (noted_one changes seen) r no_change) (get_or (noted (noted_one changes seen) texts) r no_change)
    (one_wider (nat_lt seen.from seen.till) changes seen r refl) (noted_wider (noted_one changes seen) texts r)

one_notes : (changes : List Change) (seen : SeenText) → Notes (noted_one changes seen) seen
one_notes changes seen =
    let once = widened changes seen.from seen.first seen.end in
    let many = length-set changes seen.from (record { first = min (get_or changes seen.from no_change).first seen.first; end = max (get_or changes seen.from no_change).end seen.end }) in
    let count = one_length (nat_lt seen.from seen.till) changes seen refl in
    let is : seen.from < seen.till → nat_lt seen.from seen.till ≡ true = λ some. grind (arith, some) in
    record {
      begins = λ some within.
          let h = widened_here changes seen.from seen.first seen.end (omega (arith, within, count)) in
          let w = widened_wider once seen.till seen.first 0 seen.from in
          rw (is some) (omega (arith, h.0, w.0));
      holds = λ some within.
          let h = widened_here changes seen.from seen.first seen.end (omega (arith, within, count)) in
          let w = widened_wider once seen.till seen.first 0 seen.from in
          rw (is some) (omega (arith, h.1, w.1));
      ends = λ some within. rw (is some) ((widened_here once seen.till seen.first 0 (omega (arith, within, count, many))).0);
    }

still : (changes : List Change) (texts : List SeenText) (seen : SeenText) → Notes changes seen → Notes (noted changes texts) seen
still changes texts seen h =
    let count = noted_length changes texts in
    record {
      begins = λ some within. omega (arith, h.begins some (omega (arith, within, count)), (noted_wider changes texts seen.from).0);
      holds = λ some within. omega (arith, h.holds some (omega (arith, within, count)), (noted_wider changes texts seen.from).1);
      ends = λ some within. omega (arith, h.ends some (omega (arith, within, count)), (noted_wider changes texts seen.till).0);
    }

pub all_noted : (changes : List Change) (texts : List SeenText) → AreNoted (noted changes texts) texts
all_noted changes [] = tt
all_noted changes (seen ∷ texts) = (still (noted_one changes seen) texts seen (one_notes changes seen), all_noted (noted_one changes seen) texts)

-- where all texts are noted, the changes are those of all
pub none_left : (changes first : List Change) (texts : List SeenText) (at : ℕ) → length texts ≤ at → noted changes (drop at texts) ≡ noted first texts
    → changes ≡ noted first texts
none_left changes first texts at after left = subst (λ xs. noted changes xs ≡ noted first texts) (drop_all at texts after) left

-- What the changes say of the views.

-- the change of a run begins no later than a text that turns
pub turn_low : (changes : List Change) (seen : SeenText) (r : ℕ) → Notes changes seen → Turns seen r → r < length changes → (get_or changes r no_change).first ≤ seen.first
turn_low changes seen r notes (inl t) within =
    subst (λ k. (get_or changes k no_change).first ≤ seen.first) (sym t.0) (notes.begins (omega (arith, t.0, t.1)) (omega (arith, t.0, within)))
turn_low changes seen r notes (inr t) within =
    subst (λ k. (get_or changes k no_change).first ≤ seen.first) (sym t.0) (notes.ends (omega (arith, t.0, t.1)) (omega (arith, t.0, within)))

same_front : (c : Bool) (seen : SeenText) (first : ℕ) (xs ys : List (ℕ × ℕ)) → items_between 0 first (ids_of xs) ≡ items_between 0 first (ids_of ys)
    → items_between 0 first (ids_of (take_by c seen xs)) ≡ items_between 0 first (ids_of (take_by c seen ys))
same_front false seen first xs ys is = is
same_front true seen first xs ys is =
    let row = range_with_len seen.first (seen.end - seen.first) in
    rw (items_between-append 0 first row (ids_of xs), items_between-append 0 first row (ids_of ys), is) refl

no_front : (c : Bool) (seen : SeenText) (first : ℕ) (xs : List (ℕ × ℕ)) → first ≤ seen.first → items_between 0 first (ids_of (take_by c seen xs)) ≡ items_between 0 first (ids_of xs)
no_front false seen first xs late = refl
no_front true seen first xs late =
    let row = range_with_len seen.first (seen.end - seen.first) in
    let none : min first (seen.first + (seen.end - seen.first)) - max 0 seen.first ≡ 0 = omega (arith, late) in
    rw (items_between-append 0 first row (ids_of xs), row_between 0 first seen.first (seen.end - seen.first), none) refl

before : (changes : List Change) (texts : List SeenText) (r : ℕ) → AreNoted changes texts → 0 < r → r < length changes
    → items_between 0 (get_or changes r no_change).first (ids_of (taken texts r)) ≡ items_between 0 (get_or changes r no_change).first (ids_of (taken texts (r - 1)))
before changes [] r are some within = refl
before changes (seen ∷ texts) r are some within =
    let first = (get_or changes r no_change).first in
    let more = before changes texts r are.1 some within in
    elim (alike_or_turns seen r some) [
      | inl is ↦ rw is (same_front (is_seen seen (r - 1)) seen first (taken texts r) (taken texts (r - 1)) more)
      | inr t ↦
          let late = turn_low changes seen r are.0 t within in
          no_front (is_seen seen r) seen first (taken texts r) late ∙ (more ∙ sym (no_front (is_seen seen (r - 1)) seen first (taken texts (r - 1)) late))
    ]

seen_range : (seen : SeenText) (r : ℕ) → is_seen seen r ≡ true → (seen.from ≤ r) × (r < seen.till)
seen_range seen r is = elim (cases_lt r seen.from) [
  | inl a ↦ absurd (true≢false (sym is ∙ unseen_is seen r (inl a)))
  | inr a ↦ elim (cases_lt r seen.till) [
    | inl b ↦ (a, b)
    | inr b ↦ absurd (true≢false (sym is ∙ unseen_is seen r (inr b)))
  ]
]

behind : (changes : List Change) (texts : List SeenText) (r id : ℕ) → AreNoted changes texts → 0 < r → r < length changes → (get_or changes r no_change).end ≤ id
    → AnyHas (taken texts r) id → AnyHas (taken texts (r - 1)) id
behind changes [] r id are some within late h = h
behind changes (seen ∷ texts) r id are some within late h =
    elim (has_by (is_seen seen r) seen (taken texts r) id h) [
      | inr more ↦ by_has (is_seen seen (r - 1)) seen (taken texts (r - 1)) id (behind changes texts r id are.1 some within late more)
      | inl it ↦
          let range = seen_range seen r it.0 in
          elim (cases_lt (r - 1) seen.from) [
            | inl a ↦
                let is : seen.from ≡ r = omega (arith, a, range.0, some) in
                let holds : seen.end ≤ (get_or changes r no_change).end = subst (λ k. seen.end ≤ (get_or changes k no_change).end) is (are.0.holds (omega (arith, range.0, range.1)) (omega (arith, is, within))) in
                absurd (omega (arith, holds, late, it.2))
            | inr a ↦ rw (seen_is seen (r - 1) a (omega (arith, range.1))) (inl (it.1, it.2))
          ]
    ]

change_is : (change : Change) → change.first ≡ 4294967295 → change.end ≡ 0 → change ≡ no_change
change_is change first end =
    let one : change ≡ record { first = 4294967295; end = change.end } = subst (λ n. change ≡ record { first = n; end = change.end }) first refl in
    subst (λ n. change ≡ record { first = 4294967295; end = n }) end one

none_alone : (view other : List ℕ) (id : ℕ) → view ≡ other → HasAlone view other id → ⊥
none_alone view other id is h = h.1 (subst (λ ids. Contains ids id) is h.0)

-- what the kept change says, by what both runs see
record Told (view other : List ℕ) (change : Change) : Type 0 where
  pub first : ((view ≡ other) × (change.first ≡ 4294967295)) ⊎ (HasAlone view other change.first ⊎ HasAlone other view change.first)
  pub end : (change.end ≡ 0) ⊎ HasAlone view other (change.end - 1)

told : (texts : List SeenText) (r : ℕ) (change : Change) → AscendFrom 0 (map text_bounds texts) → IsNarrow texts r change
    → Told (ids_of (taken texts r)) (ids_of (taken texts (r - 1))) change
told texts r change up narrow = record {
  first = elim narrow.first [
    | inl same ↦ inl (ap ids_of same.0, same.1)
    | inr turns ↦ inr (elim turns [
      | inl h ↦ inl (alone_items texts r (r - 1) change.first (begins_alone texts 0 r (r - 1) change.first up h))
      | inr h ↦ inr (alone_items texts (r - 1) r change.first (begins_alone texts 0 (r - 1) r change.first up h))
    ])
  ];
  end = elim narrow.end [
    | inl none ↦ inl none
    | inr h ↦ inr (alone_items texts r (r - 1) (change.end - 1) (ends_alone texts 0 r (r - 1) change.end up h))
  ];
}

told_same : (view other : List ℕ) (change : Change) → Told view other change → view ≡ other → change ≡ no_change
told_same view other change h is =
    change_is change
    (elim h.first [
      | inl same ↦ same.1
      | inr turns ↦ absurd (elim turns [
        | inl a ↦ none_alone view other change.first is a
        | inr a ↦ none_alone other view change.first (sym is) a
      ])
    ])
    (elim h.end [
      | inl none ↦ none
      | inr a ↦ absurd (none_alone view other (change.end - 1) is a)
    ])

told_first : (view other : List ℕ) (change : Change) → Told view other change → view ≢ other → HasAlone view other change.first ⊎ HasAlone other view change.first
told_first view other change h differ = elim h.first [
  | inl same ↦ absurd (differ same.0)
  | inr turns ↦ turns
]

told_last : (view other : List ℕ) (change : Change) → Told view other change → 0 < change.end → HasAlone view other (change.end - 1)
told_last view other change h some = elim h.end [
  | inl none ↦ absurd (omega (arith, none, some))
  | inr a ↦ a
]

pub is_change : (group : Group) (changes : List Change) (texts : List SeenText) (r : ℕ) → texts ≡ seen_texts group 0 (need group) → AscendFrom 0 (map text_bounds texts)
    → AreNoted changes texts → AreNarrow changes texts → 0 < r → r < need group → length changes ≡ need group → IsChange group r (get_or changes r no_change)
is_change group changes texts r are up noted narrow some within count =
    let change = get_or changes r no_change in
    let now : view_of group r ≡ ids_of (taken texts r) = rw are (view_taken group r within) in
    let old : view_of group (r - 1) ≡ ids_of (taken texts (r - 1)) = rw are (view_taken group (r - 1) (omega (arith, within))) in
    let below : r < length changes = omega (arith, within, count) in
    let is : Told (view_of group r) (view_of group (r - 1)) change = rw (now, old) (told texts r change up (narrow r some below)) in
    record {
      before = rw (now, old) (before changes texts r noted some below);
      first = told_first (view_of group r) (view_of group (r - 1)) change is;
      behind = λ id late h.
          subst (λ ids. Contains ids id) (sym old)
          (AnyHas-items (taken texts (r - 1)) id (behind changes texts r id noted some below late (items-AnyHas (taken texts r) id (subst (λ ids. Contains ids id) now h))));
      last = told_last (view_of group r) (view_of group (r - 1)) change is;
      same = told_same (view_of group r) (view_of group (r - 1)) change is;
    }
