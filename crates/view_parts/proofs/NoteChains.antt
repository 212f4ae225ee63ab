-- What is noted for items, where the notes of a block are a chain.
use Rattle.std.proofs.Common.{◌≡◌, ◌∙◌, inl, inr, Bool, ℕ, zero, suc, ◌+◌, ◌-◌, ◌/◌, ◌<◌, ◌≤◌, Option, Some, None, List, [], ◌∷◌, ◌++◌, length, get_or, refl, sym, ap, subst, arith, get_or-set_same, get_or-set_other, length-append}
use Rattle.std.specs.Prelude.{◌==◌, if◌then◌else◌, map, nat_lt, replicate, slice_get, slice_set}
use Rattle.std.specs.List.{range_with_len}
use Rattle.std.specs.Bool.{OnFalse, OnTrue}
use Rattle.std.proofs.lemmas.Bool.{OnFalse_from, OnTrue_from, cases_eq, eq-eqb, ne_eqb}
use Rattle.std.proofs.lemmas.Bool.Decides.{nat_tests}
use Rattle.std.proofs.lemmas.List.{get_or_append_left, length-set}
use Rattle.std.proofs.lemmas.List.FromFn.{fill_by_all, get_or-map-range_with_len, length-map-range_with_len}
use Rattle.std.proofs.lemmas.Option.{get_or_from_slice_get, slice_get-get_or, slice_get_read, slice_get_within}
use Rattle.std.proofs.Math.Seq.{get_or-append_seam}
use Rattle.view_parts.specs.declared.known.KnownEnd.{KnownEnd}
use Rattle.view_parts.specs.declared.known.KnownEnd.TheVariants.{Unknown}
use Rattle.view_parts.specs.declared.notes.Note.{Note}
use Rattle.view_parts.specs.Notes.{AreChains, Fall, known_end, known_ends, note_of, note_within, own_or_before, told_at, told_of}

-- ## What a note tells

pub told_own : (id : ℕ) (note : Note) → note.id ≡ id → told_of id (Some note) ≡ note.end
told_own id note is = ap (λ (same : Bool). if same then note.end else Unknown) (eq-eqb note.id id is)

pub told_other : (id : ℕ) (note : Note) → (note.id ≡ id → ⊥) → told_of id (Some note) ≡ Unknown
told_other id note other = ap (λ (same : Bool). if same then note.end else Unknown) (ne_eqb note.id id other)

-- one more note tells nothing of other items
note_added : (notes : List Note) (note : Note) (id at : ℕ) → (note.id ≡ id → ⊥) → told_of id (slice_get (notes ++ note ∷ []) at) ≡ told_of id (slice_get notes at)
note_added [] note id zero other = told_other id note other
note_added [] note id (suc at) other = refl
note_added (one ∷ notes) note id zero other = refl
note_added (one ∷ notes) note id (suc at) other = note_added notes note id at other

note_behind : (notes : List Note) (note : Note) → slice_get (notes ++ note ∷ []) (length notes) ≡ Some note
note_behind [] note = refl
note_behind (one ∷ notes) note = note_behind notes note

note_kept : (notes : List Note) (note : Note) (at : ℕ) → at < length notes → slice_get (notes ++ note ∷ []) at ≡ slice_get notes at
note_kept [] note at below = absurd (omega (arith, below))
note_kept (one ∷ notes) note zero below = refl
note_kept (one ∷ notes) note (suc at) below = note_kept notes note at (omega (arith, below))

some_note : (one other : Note) → Some one ≡ Some other → one ≡ other
some_note one other e = cc

-- neither does another note of the same item in the place of one
note_put : (notes : List Note) (old note : Note) (at id place : ℕ) → slice_get notes at ≡ Some old → old.id ≡ note.id → (note.id ≡ id → ⊥) → told_of id (slice_get (slice_set notes at note) place) ≡ told_of id (slice_get notes place)
note_put [] old note at id place is same other = refl
note_put (one ∷ notes) old note zero id zero is same other =
    let here : one ≡ old = some_note one old is in
    told_other id note other ∙ sym (told_other id one (λ e. other (sym same ∙ (ap (λ (n : Note). n.id) (sym here) ∙ e))))
note_put (one ∷ notes) old note zero id (suc place) is same other = refl
note_put (one ∷ notes) old note (suc at) id zero is same other = refl
note_put (one ∷ notes) old note (suc at) id (suc place) is same other = note_put notes old note at id place is same other

note_there : (notes : List Note) (note : Note) (at : ℕ) → at < length notes → slice_get (slice_set notes at note) at ≡ Some note
note_there [] note at below = absurd (omega (arith, below))
note_there (one ∷ notes) note zero below = refl
note_there (one ∷ notes) note (suc at) below = note_there notes note at (omega (arith, below))

-- ## Chains

step_own : (id at : ℕ) (note : Note) (told : ℕ → Option ℕ) → note.id ≡ id → own_or_before id at (Some note) told ≡ Some at
step_own id at note told is = ap (λ (same : Bool). if same then Some at else told note.before) (eq-eqb note.id id is)

step_back : (id at : ℕ) (note : Note) (told : ℕ → Option ℕ) → (note.id ≡ id → ⊥) → own_or_before id at (Some note) told ≡ told note.before
step_back id at note told other = ap (λ (same : Bool). if same then Some at else told note.before) (ne_eqb note.id id other)

before_tells : (id at : ℕ) (found : Option Note) (told other : ℕ → Option ℕ) → ((note : Note) → found ≡ Some note → told note.before ≡ other note.before) → own_or_before id at found told ≡ own_or_before id at found other
before_tells id at None told other same = refl
before_tells id at (Some note) told other same = ap (λ (found : Option ℕ). if note.id == id then Some at else found) (same note refl)

falls : (notes : List Note) (at : ℕ) (note : Note) → Fall notes → slice_get notes at ≡ Some note → note.before ≤ at
falls notes at note fall is = subst (λ (n : Note). n.before ≤ at) (get_or_from_slice_get notes at note note is) (fall at note (slice_get_within notes at note is))

-- more steps than a chain has places tell no more
enough : (notes : List Note) (id : ℕ) → Fall notes → (more fewer place : ℕ) → place ≤ more → place ≤ fewer → note_within notes id more place ≡ note_within notes id fewer place
enough notes id fall zero zero place a b = refl
enough notes id fall zero (suc fewer) zero a b = refl
enough notes id fall zero (suc fewer) (suc at) a b = absurd (omega (arith, a))
enough notes id fall (suc more) zero zero a b = refl
enough notes id fall (suc more) zero (suc at) a b = absurd (omega (arith, b))
enough notes id fall (suc more) (suc fewer) zero a b = refl
enough notes id fall (suc more) (suc fewer) (suc at) a b =
    before_tells id at (slice_get notes at) (note_within notes id more) (note_within notes id fewer)
    (λ note is. (let back = falls notes at note fall is in enough notes id fall more fewer note.before (omega (arith, a, back)) (omega (arith, b, back))))

-- notes that lead back in the same way
same_chain : (notes later : List Note) (id most : ℕ) → Fall notes → ((at : ℕ) → (told : ℕ → Option ℕ) → at < most → own_or_before id at (slice_get later at) told ≡ own_or_before id at (slice_get notes at) told)
    → (steps place : ℕ) → place ≤ most → note_within later id steps place ≡ note_within notes id steps place
same_chain notes later id most fall same zero place low = refl
same_chain notes later id most fall same (suc steps) zero low = refl
same_chain notes later id most fall same (suc steps) (suc at) low =
    same at (note_within later id steps) (omega (arith, low))
    ∙ before_tells id at (slice_get notes at) (note_within later id steps) (note_within notes id steps)
    (λ note is. (let back = falls notes at note fall is in same_chain notes later id most fall same steps note.before (omega (arith, low, back))))

chain_added : (notes : List Note) (note : Note) (id steps place : ℕ) → Fall notes → place ≤ length notes → note_within (notes ++ note ∷ []) id steps place ≡ note_within notes id steps place
chain_added notes note id steps place fall low =
    same_chain notes (notes ++ note ∷ []) id (length notes) fall (λ at told below. ap (λ (found : Option Note). own_or_before id at found told) (note_kept notes note at below)) steps place low

step_put : (notes : List Note) (old note : Note) (at id n place : ℕ) (told : ℕ → Option ℕ) → slice_get notes at ≡ Some old → old.id ≡ note.id → old.before ≡ note.before
    → own_or_before id n (slice_get (slice_set notes at note) place) told ≡ own_or_before id n (slice_get notes place) told
step_put [] old note at id n place told is same back = refl
step_put (one ∷ notes) old note zero id n zero told is same back =
    let here : old ≡ one = sym (some_note one old is) in
    ap (λ (m : ℕ). if m == id then Some n else told note.before) (sym same)
    ∙ (ap (λ (m : ℕ). if old.id == id then Some n else told m) (sym back)
    ∙ ap (λ (m : Note). own_or_before id n (Some m) told) here)
step_put (one ∷ notes) old note zero id n (suc place) told is same back = refl
step_put (one ∷ notes) old note (suc at) id n zero told is same back = refl
step_put (one ∷ notes) old note (suc at) id n (suc place) told is same back = step_put notes old note at id n place told is same back

chain_put : (notes : List Note) (old note : Note) (at id steps place : ℕ) → Fall notes → slice_get notes at ≡ Some old → old.id ≡ note.id → old.before ≡ note.before
    → note_within (slice_set notes at note) id steps place ≡ note_within notes id steps place
chain_put notes old note at id steps place fall is same back =
    same_chain notes (slice_set notes at note) id place fall (λ n told below. step_put notes old note at id n n told is same back) steps place (omega arith)

-- ## What is known of each item

pub ends_length : (notes : List Note) (newest : List ℕ) (count : ℕ) (now : List KnownEnd) → now ≡ known_ends notes newest count → length now ≡ count
ends_length notes newest count now view = ap (λ (ends : List KnownEnd). length ends) view ∙ length-map-range_with_len (λ id. known_end notes newest id) 0 count

-- an item has a block
pub block_within : (notes : List Note) (newest : List ℕ) (count : ℕ) (now : List KnownEnd) (id : ℕ) → AreChains notes newest count → now ≡ known_ends notes newest count → id < length now → id / 16 < length newest
block_within notes newest count now id chains view below =
    let long = ends_length notes newest count now view in
    let blocks = chains.blocks in
    omega (arith, below, long, blocks)

pub end_at : (notes : List Note) (newest : List ℕ) (count : ℕ) (now : List KnownEnd) (id : ℕ) → now ≡ known_ends notes newest count → id < count → get_or now id Unknown ≡ known_end notes newest id
end_at notes newest count now id view below =
    ap (λ (ends : List KnownEnd). get_or ends id Unknown) view ∙ get_or-map-range_with_len (λ n. known_end notes newest n) 0 count id id Unknown below (omega arith)

-- what the note that is found tells is what is known
pub noted : (notes : List Note) (newest : List ℕ) (count : ℕ) (now : List KnownEnd) (id place : ℕ) (found : Option ℕ) → now ≡ known_ends notes newest count → id < length now → place ≡ get_or newest (id / 16) 0 → found ≡ note_of notes id place
    → told_at notes id found ≡ get_or now id Unknown
noted notes newest count now id place found view below at is =
    ap (λ (it : Option ℕ). told_at notes id it) (is ∙ ap (λ (n : ℕ). note_of notes id n) at)
    ∙ sym (end_at notes newest count now id view (omega (arith, below, ends_length notes newest count now view)))

pub told_here : (notes : List Note) (id at : ℕ) (note : Note) → at < length notes → note ≡ get_or notes at note → note.id ≡ id → told_at notes id (Some at) ≡ note.end
told_here notes id at note below is own = ap (λ (found : Option Note). told_of id found) (slice_get_read notes (length notes) at note refl below is) ∙ told_own id note own

-- where something else is known of one item alone
ends_set : (notes later : List Note) (newest next : List ℕ) (count : ℕ) (now : List KnownEnd) (id : ℕ) (end : KnownEnd) → now ≡ known_ends notes newest count → id < length now
    → known_end later next id ≡ end → ((other : ℕ) → (id ≡ other → ⊥) → known_end later next other ≡ known_end notes newest other)
    → known_ends later next count ≡ slice_set now id end
ends_set notes later newest next count now id end view below told same =
    sym (fill_by_all (λ n. known_end later next n) (slice_set now id end) count Unknown (length-set now id end ∙ long) each)
  where
    long : length now ≡ count
    long = ends_length notes newest count now view

    each : (k : ℕ) → k < count → get_or (slice_set now id end) k Unknown ≡ known_end later next k
    each k low = elim (cases_eq id k) [
      | inl e ↦
          ap (λ (n : ℕ). get_or (slice_set now id end) n Unknown) (sym e)
          ∙ (get_or-set_same now id end Unknown below
          ∙ (sym told ∙ ap (λ (n : ℕ). known_end later next n) e))
      | inr other ↦
          get_or-set_other now id k end Unknown (λ e. other (sym e))
          ∙ (end_at notes newest count now k view low
          ∙ sym (same k other))
    ]

-- ## One note more

added_chain : (notes : List Note) (note : Note) (newest : List ℕ) (count id other : ℕ) → AreChains notes newest count → note.id ≡ id → note.before ≡ get_or newest (id / 16) 0 → id / 16 < length newest → (id ≡ other → ⊥)
    → note_of (notes ++ note ∷ []) other (get_or (slice_set newest (id / 16) (suc (length notes))) (other / 16) 0) ≡ note_of notes other (get_or newest (other / 16) 0)
added_chain notes note newest count id other chains own back within apart =
    elim (cases_eq (id / 16) (other / 16)) [
      | inl e ↦
          ap (λ (n : ℕ). note_of later other (get_or (slice_set newest (id / 16) (suc (length notes))) n 0)) (sym e)
          ∙ (ap (λ (n : ℕ). note_of later other n) (get_or-set_same newest (id / 16) (suc (length notes)) 0 within)
          ∙ (ap (λ (found : Option Note). own_or_before other (length notes) found (note_within later other (length notes))) (note_behind notes note)
          ∙ (step_back other (length notes) note (note_within later other (length notes)) (λ f. apart (sym own ∙ f))
          ∙ (ap (λ (n : ℕ). note_within later other (length notes) n) (back ∙ ap (λ (n : ℕ). get_or newest n 0) e)
          ∙ (chain_added notes note other (length notes) place chains.fall low
          ∙ enough notes other chains.fall (length notes) place place low (omega arith))))))
      | inr there ↦
          ap (λ (n : ℕ). note_of later other n) (get_or-set_other newest (id / 16) (other / 16) (suc (length notes)) 0 (λ f. there (sym f)))
          ∙ chain_added notes note other place place chains.fall low
    ]
  where
    later : List Note
    later = notes ++ note ∷ []

    place : ℕ
    place = get_or newest (other / 16) 0

    low : place ≤ length notes
    low = chains.within (other / 16)

added_told : (notes : List Note) (note : Note) (other : ℕ) (found : Option ℕ) → (note.id ≡ other → ⊥) → told_at (notes ++ note ∷ []) other found ≡ told_at notes other found
added_told notes note other None apart = refl
added_told notes note other (Some at) apart = note_added notes note other at apart

added_own : (notes : List Note) (note : Note) (newest : List ℕ) (id : ℕ) → note.id ≡ id → id / 16 < length newest
    → known_end (notes ++ note ∷ []) (slice_set newest (id / 16) (suc (length notes))) id ≡ note.end
added_own notes note newest id own within =
    ap (λ (n : ℕ). told_at later id (note_of later id n)) (get_or-set_same newest (id / 16) (suc (length notes)) 0 within)
    ∙ (ap (λ (found : Option Note). told_at later id (own_or_before id (length notes) found (note_within later id (length notes)))) (note_behind notes note)
    ∙ (ap (λ (found : Option ℕ). told_at later id found) (step_own id (length notes) note (note_within later id (length notes)) own)
    ∙ (ap (λ (found : Option Note). told_of id found) (note_behind notes note) ∙ told_own id note own)))
  where
    later : List Note
    later = notes ++ note ∷ []

-- an item's first note
pub added_now : (notes later : List Note) (note : Note) (newest : List ℕ) (count many : ℕ) (now : List KnownEnd) (id : ℕ) → AreChains notes newest count → now ≡ known_ends notes newest count → id < length now
    → note.id ≡ id → note.before ≡ get_or newest (id / 16) 0 → later ≡ notes ++ note ∷ [] → many ≡ length notes
    → known_ends later (slice_set newest (id / 16) (many + 1)) count ≡ slice_set now id note.end
added_now notes later note newest count many now id chains view below own back is long =
    ap (λ (them : List Note). known_ends them (slice_set newest (id / 16) (many + 1)) count) is
    ∙ (ap (λ (n : ℕ). known_ends (notes ++ note ∷ []) (slice_set newest (id / 16) n) count) next
    ∙ ends_set notes (notes ++ note ∷ []) newest (slice_set newest (id / 16) (suc (length notes))) count now id note.end view below
    (added_own notes note newest id own within)
    (λ other apart. ap (λ (found : Option ℕ). told_at (notes ++ note ∷ []) other found) (added_chain notes note newest count id other chains own back within apart)
    ∙ added_told notes note other (note_of notes other (get_or newest (other / 16) 0)) (λ e. apart (sym own ∙ e))))
  where
    next : many + 1 ≡ suc (length notes)
    next = omega (arith, long)

    within : id / 16 < length newest
    within = block_within notes newest count now id chains view below

pub added_chains : (notes later : List Note) (note : Note) (newest : List ℕ) (count many block : ℕ) → AreChains notes newest count → block < length newest → note.before ≡ get_or newest block 0 → later ≡ notes ++ note ∷ [] → many ≡ length notes
    → AreChains later (slice_set newest block (many + 1)) count
added_chains notes later note newest count many block chains below back is long =
    record {
      blocks = (let same = length-set newest block (many + 1) in let blocks = chains.blocks in omega (arith, same, blocks));
      within = within;
      fall = subst Fall (sym is) fall;
    }
  where
    more : length later ≡ length notes + 1
    more = ap (λ (them : List Note). length them) is ∙ length-append notes (note ∷ [])

    within : (n : ℕ) → get_or (slice_set newest block (many + 1)) n 0 ≤ length later
    within n = elim (cases_eq n block) [
      | inl e ↦ (let here = ap (λ (k : ℕ). get_or (slice_set newest block (many + 1)) k 0) e ∙ get_or-set_same newest block (many + 1) 0 below in omega (arith, here, more, long))
      | inr other ↦ (let there = get_or-set_other newest block n (many + 1) 0 other in let low = chains.within n in omega (arith, there, low, more))
    ]

    fall : Fall (notes ++ note ∷ [])
    fall at d low = elim (cases_eq at (length notes)) [
      | inl e ↦
          (let here = ap (λ (k : ℕ). get_or (notes ++ note ∷ []) k d) e ∙ get_or-append_seam notes note [] d in
          let before = chains.within block in
          let same = ap (λ (n : Note). n.before) here in
          omega (arith, same, before, back, e))
      | inr other ↦
          (let long = length-append notes (note ∷ []) in
          let short : at < length notes = omega (arith, low, long, other) in
          let same = ap (λ (n : Note). n.before) (get_or_append_left notes (note ∷ []) d at short) in
          let before = chains.fall at d short in
          omega (arith, same, before))
    ]

-- ## Another note in the place of one

put_told : (notes : List Note) (old note : Note) (at other : ℕ) (found : Option ℕ) → slice_get notes at ≡ Some old → old.id ≡ note.id → (note.id ≡ other → ⊥) → told_at (slice_set notes at note) other found ≡ told_at notes other found
put_told notes old note at other None is same apart = refl
put_told notes old note at other (Some place) is same apart = note_put notes old note at other place is same apart

-- another note of an item that has one
pub put_now : (notes : List Note) (old note : Note) (newest : List ℕ) (count : ℕ) (now : List KnownEnd) (id place at : ℕ) → AreChains notes newest count → now ≡ known_ends notes newest count → id < length now
    → place ≡ get_or newest (id / 16) 0 → note_of notes id place ≡ Some at → at < length notes → old ≡ get_or notes at old → old.id ≡ id → note.id ≡ old.id → note.before ≡ old.before
    → known_ends (slice_set notes at note) newest count ≡ slice_set now id note.end
put_now notes old note newest count now id place at chains view below here found low is own same back =
    ends_set notes later newest newest count now id note.end view below
    (ap (λ (it : Option ℕ). told_at later id it) (chain id ∙ (ap (λ (n : ℕ). note_of notes id n) (sym here) ∙ found))
    ∙ (ap (λ (it : Option Note). told_of id it) (note_there notes note at low) ∙ told_own id note (same ∙ own)))
    (λ other apart. ap (λ (it : Option ℕ). told_at later other it) (chain other)
    ∙ put_told notes old note at other (note_of notes other (get_or newest (other / 16) 0)) there (sym same) (λ e. apart (sym own ∙ (sym same ∙ e))))
  where
    later : List Note
    later = slice_set notes at note

    there : slice_get notes at ≡ Some old
    there = slice_get_read notes (length notes) at old refl low is

    chain : (k : ℕ) → note_of later k (get_or newest (k / 16) 0) ≡ note_of notes k (get_or newest (k / 16) 0)
    chain k = chain_put notes old note at k (get_or newest (k / 16) 0) (get_or newest (k / 16) 0) chains.fall there (sym same) (sym back)

-- ## Nothing is noted yet

no_note : (id place : ℕ) → note_of [] id place ≡ None
no_note id zero = refl
no_note id (suc at) = refl

pub no_ends : (newest : List ℕ) (count : ℕ) → known_ends [] newest count ≡ replicate count Unknown
no_ends newest count = from count 0
  where
    from : (n first : ℕ) → map (λ id. known_end [] newest id) (range_with_len first n) ≡ replicate n Unknown
    from zero first = refl
    from (suc n) first =
        ap (λ (found : Option ℕ). told_at [] first found ∷ map (λ id. known_end [] newest id) (range_with_len (first + 1) n)) (no_note first (get_or newest (first / 16) 0))
        ∙ ap (λ (ends : List KnownEnd). Unknown ∷ ends) (from n (first + 1))

-- ## Whether there is a place

pub below_yes : (id count most : ℕ) → most ≡ count → OnTrue (nat_lt id count) (id < most)
below_yes id count most is = OnTrue_from (nat_lt id count) (id < most) (λ so. grind (arith, nat_tests, so, is))

pub below_no : (id count most : ℕ) → most ≡ count → OnFalse (nat_lt id count) (most ≤ id)
below_no id count most is = OnFalse_from (nat_lt id count) (most ≤ id) (λ so. grind (arith, nat_tests, so, is))

-- ## The walk along a chain

-- a step back along a chain
pub walk_back : (notes : List Note) (id place : ℕ) (d : Note) → Fall notes → 0 < place → place ≤ length notes → ((get_or notes (place - 1) d).id ≡ id → ⊥) → note_of notes id (get_or notes (place - 1) d).before ≡ note_of notes id place
walk_back notes id zero d fall some low other = absurd (omega (arith, some))
walk_back notes id (suc at) d fall some low other =
    let same : suc at - 1 ≡ at = omega arith in
    subst (λ (n : ℕ). note_of notes id (get_or notes n d).before ≡ note_of notes id (suc at)) (sym same) (back (λ e. other (ap (λ (n : ℕ). (get_or notes n d).id) same ∙ e)))
  where
    back : ((get_or notes at d).id ≡ id → ⊥) → note_of notes id (get_or notes at d).before ≡ note_of notes id (suc at)
    back other =
        let there : slice_get notes at ≡ Some (get_or notes at d) = slice_get-get_or notes at d (omega (arith, low)) in
        let before = (get_or notes at d).before in
        sym (ap (λ (found : Option Note). own_or_before id at found (note_within notes id at)) there
        ∙ (step_back id at (get_or notes at d) (note_within notes id at) other
        ∙ enough notes id fall at before before (fall at d (omega (arith, low))) (omega arith)))

pub walk_low : (notes : List Note) (place : ℕ) (d : Note) → Fall notes → 0 < place → place ≤ length notes → (get_or notes (place - 1) d).before ≤ length notes
walk_low notes place d fall some low = (let back = fall (place - 1) d (omega (arith, some, low)) in omega (arith, back, low))
