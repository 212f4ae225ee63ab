-- What entries keep of the items of their text.
use Rattle.std.proofs.Common.{◌≡◌, ◌==◌, ◌||◌, ◌∙◌, not, ℕ, zero, suc, ◌+◌, ◌-◌, ◌<◌, ◌≤◌, Bool, true, false, List, [], ◌∷◌, length, take, drop, get_or, refl, ap, arith, count_by, Some, slice_get}
use Rattle.std.proofs.lemmas.Bool.{ne_eqb}
use Rattle.std.proofs.lemmas.List.{length-drop, length-take-le}
use Rattle.std.proofs.lemmas.Option.{get_or_from_slice_get}
use Rattle.std.proofs.lemmas.List.Elements.{All-get_or}
use Rattle.token_arena.specs.Gaps.{behind, gap_start, gap_end}
use Rattle.token_arena.specs.Stored.{Stored, is_line_feed, rows_of, first_row, last_row, width_of}
use Rattle.token_arena.specs.Entries.{gap_kept, is_back, kept_by, kept_from, kept_by_all, AllWithin}
use Rattle.line_tokens.specs.declared.GapFacts.{GapFacts}
use Rattle.token_arena.specs.declared.arena.Entry.{Entry}

-- an item ends where its entry says
pub behind-kept : (text : List ℕ) (is_first : Bool) (entry : Entry) → entry.start + entry.len ≤ length text → behind (kept_by text is_first entry) ≡ entry.start + entry.len
behind-kept text is_first entry h =
    ap (λ n. entry.start + n) (length-take-le entry.len (drop entry.start text) (rw (length-drop entry.start text) (omega arith)))

gap_start-next : (text : List ℕ) (is_first : Bool) (entries : List Entry) (at p : ℕ) (d : Entry) → p < length entries
    → gap_start at (kept_from text is_first entries) (suc p) ≡ behind (kept_by text false (get_or entries p d))
gap_start-next text is_first [] at p d h = absurd (omega arith)
gap_start-next text is_first (entry ∷ entries) at zero d h = refl
gap_start-next text is_first (entry ∷ entries) at (suc p) d h = gap_start-next text false entries (behind (kept_by text is_first entry)) p d (omega arith)

-- a gap begins behind the item before it
pub gap_start-kept : (text : List ℕ) (entries : List Entry) (at q : ℕ) (d : Entry) → AllWithin text entries → 0 < q → q ≤ length entries
    → gap_start at (kept_by_all text entries) q ≡ (get_or entries (q - 1) d).start + (get_or entries (q - 1) d).len
gap_start-kept text entries at zero d within some h = absurd (omega arith)
gap_start-kept text entries at (suc p) d within some h =
    let e : suc p - 1 ≡ p = omega arith in
    let below : p < length entries = omega arith in
    rw e (gap_start-next text true entries at p d below ∙ behind-kept text false (get_or entries p d) (All-get_or (λ (entry : Entry). entry.start + entry.len ≤ length text) entries p d below within))

gap_end-from : (text : List ℕ) (is_first : Bool) (entries : List Entry) (len p : ℕ) (d : Entry) → p < length entries
    → gap_end len (kept_from text is_first entries) p ≡ (get_or entries p d).start
gap_end-from text is_first [] len p d h = absurd (omega arith)
gap_end-from text is_first (entry ∷ entries) len zero d h = refl
gap_end-from text is_first (entry ∷ entries) len (suc p) d h = gap_end-from text false entries len p d (omega arith)

-- a gap ends where the item behind it starts
pub gap_end-kept : (text : List ℕ) (entries : List Entry) (len p : ℕ) (d : Entry) → p < length entries
    → gap_end len (kept_by_all text entries) p ≡ (get_or entries p d).start
gap_end-kept text entries len p d h = gap_end-from text true entries len p d h

length-from : (text : List ℕ) (is_first : Bool) (entries : List Entry) → length (kept_from text is_first entries) ≡ length entries
length-from text is_first [] = refl
length-from text is_first (entry ∷ entries) = ap (λ n. suc n) (length-from text false entries)

-- there are as many items as entries
pub length_kept : (text : List ℕ) (entries : List Entry) → length (kept_by_all text entries) ≡ length entries
length_kept text entries = length-from text true entries

later_at : (text : List ℕ) (entries : List Entry) (place : ℕ) (d : Entry) → place < length entries
    → slice_get (kept_from text false entries) place ≡ Some (kept_by text false (get_or entries place d))
later_at text [] place d h = absurd (omega arith)
later_at text (entry ∷ entries) zero d h = refl
later_at text (entry ∷ entries) (suc place) d h = later_at text entries place d (omega arith)

-- the first item is that of the first entry
any_at : (text : List ℕ) (entries : List Entry) (place : ℕ) (d : Entry) → place < length entries
    → slice_get (kept_by_all text entries) place ≡ Some (kept_by text (place == 0) (get_or entries place d))
any_at text [] place d h = absurd (omega arith)
any_at text (entry ∷ entries) zero d h = refl
any_at text (entry ∷ entries) (suc place) d h =
    let later : (suc place == 0) ≡ false = ne_eqb (suc place) 0 (λ e. absurd (omega arith)) in
    rw later (later_at text entries place d (omega arith))

-- at a place stands what its entry, its bytes and those before it say
pub kept_at : (text : List ℕ) (entries : List Entry) (place : ℕ) (d : Entry) (raw before : List ℕ) (gap : GapFacts) (back : Bool) → place < length entries
    → raw ≡ take (get_or entries place d).len (drop (get_or entries place d).start text)
    → before ≡ take (get_or entries place d).start text
    → gap ≡ gap_kept (place == 0) (get_or entries place d)
    → back ≡ is_back (get_or entries place d).spelled
    → slice_get (kept_by_all text entries) place ≡ Some (record {
      kind = (get_or entries place d).kind;
      start = (get_or entries place d).start;
      raw = raw;
      gap = gap;
      line = 1 + count_by is_line_feed before;
      rows = rows_of raw;
      first_width = width_of (first_row raw);
      last_width = width_of (last_row raw);
      back = back;
    })
kept_at text entries place d raw before gap back within raw_is before_is gap_is back_is = rw (raw_is, before_is, gap_is, back_is) (any_at text entries place d within)

-- what an entry says of its item is kept at its place
pub kept_there : (text : List ℕ) (entries : List Entry) (place : ℕ) (d : Entry) (token : Stored) → place < length entries
    → get_or (kept_by_all text entries) place token ≡ kept_by text (place == 0) (get_or entries place d)
kept_there text entries place d token within = get_or_from_slice_get (kept_by_all text entries) place (kept_by text (place == 0) (get_or entries place d)) token (any_at text entries place d within)

-- a line begins before an item whose entry has lines before it
pub begun_there : (text : List ℕ) (entries : List Entry) (place : ℕ) (d : Entry) (token : Stored) → place < length entries → ((get_or entries place d).lines ≡ 0 → ⊥)
    → (get_or (kept_by_all text entries) place token).gap.began ≡ true
begun_there text entries place d token within some = ap (λ (t : Stored). t.gap.began) (kept_there text entries place d token within) ∙ choice (place == 0) (get_or entries place d).lines some
  where
    choice : (is_first : Bool) (lines : ℕ) → (lines ≡ 0 → ⊥) → (is_first || not (lines == 0)) ≡ true
    choice true lines some = refl
    choice false lines some = ap not (ne_eqb lines 0 some)
