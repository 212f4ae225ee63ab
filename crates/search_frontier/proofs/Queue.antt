-- An entry that stands beside the heap of the others.
use Rattle.std.proofs.Common.{◌≡◌, ℕ, ◌+◌, ◌<◌, inl, inr, Option, Some, None, IfSome, List, [], ◌∷◌, drop, length, refl, ap, arith, slice_get, subst, suc, sym, zero}
use Rattle.std.specs.BinaryHeap.{IsHeap}
use Rattle.std.specs.List.Sorted.{IsPermutation}
use Rattle.std.specs.List.{slice_index_or}
use Rattle.std.proofs.lemmas.Bool.{cases_lt}
use Rattle.std.proofs.lemmas.List.Sorted.{Contains-permutation, IsPermutation-sym, length_permutation}
use Rattle.std.proofs.lemmas.Option.{slice_get-get_or}
use Rattle.search_frontier.specs.declared.frontier.Top.{Top}
use Rattle.search_frontier.specs.declared.frontier.Top.TheVariants.{Waits, CameOff}
use Rattle.search_frontier.specs.Frontier.{Entry, order, IsUpTo, ComesFirst, IsQueue, left_of, waiting, Pushes, Pops, Exchanges}
use Rattle.search_frontier.proofs.Heaps.{Contains-cons, Contains-cons_cases, first_below, pops, pushes, topmost_first, up_to_more}

-- an entry that isn't after the first one
pub least_of : (x y : Entry) (others : List Entry) → IsUpTo x y → ComesFirst y others → ComesFirst x (y ∷ others)
least_of x y others up least = λ e c. elim (Contains-cons_cases y others e c) [
  | inl same ↦ subst (λ (z : Entry). IsUpTo x z) same up
  | inr in_others ↦ up_to_more x y e up (least e in_others)
]

some_same : {A : Type 0} (x y : A) → Some x ≡ Some y → x ≡ y
some_same x y e = cc

pub least_of_first : (first : Option (ℕ × ℕ × ℕ)) (y x : ℕ × ℕ × ℕ) (top : Top) (entries : List Entry) → first ≡ Some y → IsQueue first top entries → IsUpTo (record { 0 = x }) (record { 0 = y }) → ComesFirst (record { 0 = x }) (waiting first (left_of top entries))
least_of_first None y x top entries e queue up = absurd (none_some e)
  where
    none_some : None ≡ Some y → ⊥
    none_some h = cc
least_of_first (Some z) y x top entries e queue up = least_of (record { 0 = x }) (record { 0 = z }) (left_of top entries) (subst (λ (w : ℕ × ℕ × ℕ). IsUpTo (record { 0 = x }) (record { 0 = w })) (sym (some_same z y e)) up) queue.least

least_permuted : (x : Entry) (one other : List Entry) → IsPermutation one other → ComesFirst x one → ComesFirst x other
least_permuted x one other same least = λ e c. least e (Contains-permutation other one e (IsPermutation-sym one other same) c)

-- .. that isn't after the topmost of the heap, or, where this came off, the two next to it
near : (x : Entry) (entries : List Entry) (k : ℕ) (d : Entry) → k < length entries → ((y : Entry) → slice_get entries k ≡ Some y → IsUpTo x y) → IsUpTo x (slice_index_or entries k d)
near x entries k d l up = up (slice_index_or entries k d) (slice_get-get_or entries k d l)

pub least_below : (x : Entry) (entries : List Entry) → IsHeap order entries → ((y : Entry) → slice_get entries 1 ≡ Some y → IsUpTo x y) → ((y : Entry) → slice_get entries 2 ≡ Some y → IsUpTo x y) → ComesFirst x (drop 1 entries)
least_below x entries heap one two = first_below x entries heap (λ k d a b c. elim (cases_lt k 2) [
  | inl less ↦ (let e : k ≡ 1 = omega (arith, a, less) in subst (λ (n : ℕ). IsUpTo x (slice_index_or entries n d)) (sym e) (near x entries 1 d (omega (arith, c, e)) one))
  | inr more ↦ (let e : k ≡ 2 = omega (arith, b, more) in subst (λ (n : ℕ). IsUpTo x (slice_index_or entries n d)) (sym e) (near x entries 2 d (omega (arith, c, e)) two))
])

pub least_of_heap : (x : Entry) (entries : List Entry) → IsHeap order entries → ((y : Entry) → slice_get entries 0 ≡ Some y → IsUpTo x y) → ComesFirst x entries
least_of_heap x [] heap up = λ e c. absurd (omega (arith, c.1))
least_of_heap x (y ∷ rest) heap up = least_of x y rest (up y refl) (topmost_first y rest heap)

all_wait : Waits ≡ CameOff → ⊥
all_wait e = cc

-- an entry goes to the others
pub queue_more : (first : Option (ℕ × ℕ × ℕ)) (top : Top) (x : Entry) (old new : List Entry) → IsQueue first top old → IsPermutation (x ∷ left_of top old) new → (IsHeap order old → IsHeap order new) → IfSome first (λ y. IsUpTo (record { 0 = y }) x) → IsQueue first Waits new
queue_more None top x old new queue same keeps up = record { heap = keeps queue.heap; some = λ e. absurd (all_wait e); least = queue.least }
queue_more (Some y) top x old new queue same keeps up = record { heap = keeps queue.heap; some = λ e. absurd (all_wait e); least = least_permuted (record { 0 = y }) (x ∷ left_of top old) new same (least_of_both (record { 0 = y }) x (left_of top old) up queue.least) }
  where
    least_of_both : (y x : Entry) (others : List Entry) → IsUpTo y x → ComesFirst y others → ComesFirst y (x ∷ others)
    least_of_both y x others up least = λ e c. elim (Contains-cons_cases x others e c) [
      | inl is ↦ subst (λ (z : Entry). IsUpTo y z) is up
      | inr in_others ↦ least e in_others
    ]

pub pushed_behind : (first : Option (ℕ × ℕ × ℕ)) (x : Entry) (old new : List Entry) → IsPermutation (x ∷ old) new → Pushes (waiting first old) (waiting first new) x
pushed_behind None x old new same = pushes old new x same
pushed_behind (Some y) x old new same =
    let p : Pushes old new x = pushes old new x same in
    let head : Entry = record { 0 = y } in
    record {
      kept = λ e c. elim (Contains-cons_cases head old e c) [ inl is ↦ (zero, omega arith, is) | inr was ↦ Contains-cons head new e (p.kept e was) ];
      added = Contains-cons head new x p.added;
      only = λ e c. elim (Contains-cons_cases head new e c) [ inl is ↦ inl (zero, omega arith, is) | inr in_new ↦ elim (p.only e in_new) [ inl was ↦ inl (Contains-cons head old e was) | inr is ↦ inr is ] ];
    }

-- .. or comes first, and the one that was first goes to the others, or can't
module _ (x : ℕ × ℕ × ℕ) where
  pub queue_second : (first : Option (ℕ × ℕ × ℕ)) (top : Top) (y : ℕ × ℕ × ℕ) (old new : List Entry) → first ≡ Some y → IsQueue first top old → ComesFirst (record { 0 = x }) (waiting first (left_of top old)) → IsPermutation (record { 0 = y } ∷ left_of top old) new → (IsHeap order old → IsHeap order new) → IsQueue (Some x) Waits new
  queue_second None top y old new e queue least same keeps = absurd (none_some e)
    where
      none_some : None ≡ Some y → ⊥
      none_some h = cc
  queue_second (Some z) top y old new e queue least same keeps = record {
    heap = keeps queue.heap;
    some = λ e. absurd (all_wait e);
    least = least_permuted (record { 0 = x }) (record { 0 = y } ∷ left_of top old) new same (subst (λ (w : ℕ × ℕ × ℕ). ComesFirst (record { 0 = x }) (record { 0 = w } ∷ left_of top old)) (some_same z y e) least);
  }

  pub queue_refused : (first : Option (ℕ × ℕ × ℕ)) (top : Top) (old : List Entry) → IsQueue first top old → ComesFirst (record { 0 = x }) (waiting first (left_of top old)) → IsQueue (Some x) top old
  queue_refused None top old queue least = record { heap = queue.heap; some = queue.some; least = least }
  queue_refused (Some y) top old queue least = record { heap = queue.heap; some = queue.some; least = λ e c. least e (Contains-cons (record { 0 = y }) (left_of top old) e c) }

pub pushed_alone : (x : Entry) (first : Option (ℕ × ℕ × ℕ)) (old : List Entry) → first ≡ None → Pushes (waiting first old) (x ∷ old) x
pushed_alone x first old e = subst (λ (f : Option (ℕ × ℕ × ℕ)). Pushes (waiting f old) (x ∷ old) x) (sym e) (record {
  kept = λ e c. Contains-cons x old e c;
  added = (zero, omega arith, refl);
  only = λ e c. elim (Contains-cons_cases x old e c) [ inl same ↦ inr same | inr was ↦ inl was ];
})

pub pushed_before : (x : Entry) (first : Option (ℕ × ℕ × ℕ)) (y : ℕ × ℕ × ℕ) (old new : List Entry) → first ≡ Some y → IsPermutation (record { 0 = y } ∷ old) new → Pushes (waiting first old) (x ∷ new) x
pushed_before x first y old new is_first same = subst (λ (f : Option (ℕ × ℕ × ℕ)). Pushes (waiting f old) (x ∷ new) x) (sym is_first) (record {
  kept = λ e c. Contains-cons x new e (Contains-permutation (record { 0 = y } ∷ old) new e same c);
  added = (zero, omega arith, refl);
  only = λ e c. elim (Contains-cons_cases x new e c) [ inl is ↦ inr is | inr in_new ↦ inl (Contains-permutation new (record { 0 = y } ∷ old) e (IsPermutation-sym (record { 0 = y } ∷ old) new same) in_new) ];
})

-- the first entry comes off, or that of the heap where none is told
pub popped_first : (first after : Option (ℕ × ℕ × ℕ)) (top : Top) (x : ℕ × ℕ × ℕ) (entries : List Entry) → first ≡ Some x → after ≡ None → IsQueue first top entries → Pops (waiting first (left_of top entries)) (waiting after (left_of top entries)) (record { 0 = x })
popped_first None after top x entries e none queue = absurd (none_some e)
  where
    none_some : None ≡ Some x → ⊥
    none_some h = cc
popped_first (Some z) after top x entries e none queue =
    let others : List Entry = left_of top entries in
    let same : z ≡ x = some_same z x e in
    let least : ComesFirst (record { 0 = x }) others = subst (λ (w : ℕ × ℕ × ℕ). ComesFirst (record { 0 = w }) others) same queue.least in
    let off : Pops (record { 0 = x } ∷ others) others (record { 0 = x }) = record {
      was = (zero, omega arith, refl);
      kept = λ e c. Contains-cons_cases (record { 0 = x }) others e c;
      only = λ e c. Contains-cons (record { 0 = x }) others e c;
      first = least;
    } in
    subst (λ (w : ℕ × ℕ × ℕ). Pops (record { 0 = w } ∷ others) (waiting after others) (record { 0 = x })) (sym same) (subst (λ (f : Option (ℕ × ℕ × ℕ)). Pops (record { 0 = x } ∷ others) (waiting f others) (record { 0 = x })) (sym none) off)

topmost_off : (x : Entry) (old entries : List Entry) → slice_get entries 0 ≡ Some x → IsPermutation old entries → IsHeap order entries → Pops old (drop 1 entries) x
topmost_off x old [] e same heap = absurd (none_some e)
  where
    none_some : None ≡ Some x → ⊥
    none_some h = cc
topmost_off x old (y ∷ rest) e same heap =
    let is : y ≡ x = entry_same e in
    pops old rest x (subst (λ (z : Entry). IsPermutation old (z ∷ rest)) is same) (subst (λ (z : Entry). ComesFirst z rest) is (topmost_first y rest heap))
  where
    entry_same : Some y ≡ Some x → y ≡ x
    entry_same h = cc

pub popped_behind : (first after : Option (ℕ × ℕ × ℕ)) (x : Entry) (old entries : List Entry) → first ≡ None → after ≡ None → IsPermutation old entries → slice_get entries 0 ≡ Some x → IsHeap order entries → Pops (waiting first old) (waiting after (drop 1 entries)) x
popped_behind first after x old entries one other same at heap =
    let off : Pops old (drop 1 entries) x = topmost_off x old entries at same heap in
    subst (λ (f : Option (ℕ × ℕ × ℕ)). Pops (waiting f old) (waiting after (drop 1 entries)) x) (sym one) (subst (λ (f : Option (ℕ × ℕ × ℕ)). Pops old (waiting f (drop 1 entries)) x) (sym other) off)

-- an entry that isn't after those that are looked at, where none stands beside the heap
pub least_waits : (first : Option (ℕ × ℕ × ℕ)) (top : Top) (x : Entry) (entries : List Entry) → first ≡ None → top ≡ Waits → IsHeap order entries → ((y : Entry) → slice_get entries 0 ≡ Some y → IsUpTo x y) → ComesFirst x (waiting first (left_of top entries))
least_waits first top x entries none waits heap up = subst (λ (f : Option (ℕ × ℕ × ℕ)). ComesFirst x (waiting f (left_of top entries))) (sym none) (subst (λ (t : Top). ComesFirst x (left_of t entries)) (sym waits) (least_of_heap x entries heap up))

pub least_came_off : (first : Option (ℕ × ℕ × ℕ)) (top : Top) (x : Entry) (entries : List Entry) → first ≡ None → top ≡ CameOff → ComesFirst x (drop 1 entries) → ComesFirst x (waiting first (left_of top entries))
least_came_off first top x entries none off least = subst (λ (f : Option (ℕ × ℕ × ℕ)). ComesFirst x (waiting f (left_of top entries))) (sym none) (subst (λ (t : Top). ComesFirst x (left_of t entries)) (sym off) least)

-- how many wait
pub one_more : (first : Option (ℕ × ℕ × ℕ)) (x : Entry) (old new : List Entry) → IsPermutation (x ∷ old) new → length (waiting first new) ≡ length (waiting first old) + 1
one_more None x old new same = omega (arith, length_permutation (x ∷ old) new same)
one_more (Some y) x old new same = omega (arith, length_permutation (x ∷ old) new same)

pub second_more : (first : Option (ℕ × ℕ × ℕ)) (y : ℕ × ℕ × ℕ) (x : Entry) (old new : List Entry) → first ≡ Some y → IsPermutation (x ∷ old) new → suc (length new) ≡ length (waiting first old) + 1
second_more first y x old new e same = subst (λ (f : Option (ℕ × ℕ × ℕ)). suc (length new) ≡ length (waiting f old) + 1) (sym e) (omega (arith, length_permutation (x ∷ old) new same))

pub none_left : (first : Option (ℕ × ℕ × ℕ)) (old entries : List Entry) → first ≡ None → IsPermutation old entries → entries ≡ [] → waiting first old ≡ []
none_left first old entries none same empty = subst (λ (f : Option (ℕ × ℕ × ℕ)). waiting f old ≡ []) (sym none) (no_one old (omega (arith, length_permutation old entries same, ap length empty)))
  where
    no_one : (es : List Entry) → length es ≡ 0 → es ≡ []
    no_one [] e = refl
    no_one (z ∷ es) e = absurd (omega (arith, e))

pub one_less : (first after : Option (ℕ × ℕ × ℕ)) (x : Entry) (old entries : List Entry) → first ≡ None → after ≡ None → IsPermutation old entries → slice_get entries 0 ≡ Some x → length (waiting after (drop 1 entries)) + 1 ≡ length (waiting first old)
one_less first after x old entries one other same at = subst (λ (f : Option (ℕ × ℕ × ℕ)). length (waiting after (drop 1 entries)) + 1 ≡ length (waiting f old)) (sym one) (subst (λ (f : Option (ℕ × ℕ × ℕ)). length (waiting f (drop 1 entries)) + 1 ≡ length old) (sym other) (fewer entries at (length_permutation old entries same)))
  where
    fewer : (es : List Entry) → slice_get es 0 ≡ Some x → length es ≡ length old → length (drop 1 es) + 1 ≡ length old
    fewer [] e l = absurd (none_some e)
      where
        none_some : None ≡ Some x → ⊥
        none_some h = cc
    fewer (z ∷ es) e l = omega (arith, l)

-- an entry that comes first is what comes off after it was added
pub goes_nowhere : (x : Entry) (old : List Entry) → ComesFirst x old → Exchanges old old x x
goes_nowhere x old least = (
  x ∷ old,
  record {
    kept = λ e c. Contains-cons x old e c;
    added = (zero, omega arith, refl);
    only = λ e c. elim (Contains-cons_cases x old e c) [ inl same ↦ inr same | inr was ↦ inl was ];
  },
  record {
    was = (zero, omega arith, refl);
    kept = λ e c. Contains-cons_cases x old e c;
    only = λ e c. Contains-cons x old e c;
    first = least;
  },
)
