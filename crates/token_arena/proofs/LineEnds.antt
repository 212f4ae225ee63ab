-- Where lines end, told by the entries.
use Rattle.std.proofs.Common.{◌≡◌, ◌∙◌, not, cond, ℕ, zero, suc, ◌+◌, ◌-◌, ◌≤◌, ◌<◌, false, List, [], ◌∷◌, length, take, drop, refl, sym, add-one, arith, ap}
use Rattle.std.specs.List.{position_or_len, slice_range}
use Rattle.std.proofs.lemmas.List.{length-drop, take_all}
use Rattle.std.proofs.lemmas.List.Sums.{prefix_len-le-length}
use Rattle.std.proofs.lemmas.List.Recursion.{is_position_or_len}
use Rattle.token_arena.specs.Entries.{is_begun, kept_by_all, kept_from}
use Rattle.token_arena.specs.declared.arena.Entry.{Entry}
use Rattle.item_kinds.specs.declared.ItemKind.{ItemKind}
use Rattle.token_arena.specs.declared.arena.Spelled.{Spelled}
use Rattle.token_arena.specs.Sections.{lines_of}
use Rattle.token_arena.proofs.EntryLemmas.{length_kept}
use Rattle.token_arena.proofs.LinesOf.{tail_len, line_there}

-- an entry of nothing
pub no_entry : Entry
no_entry = record { start = 0; len = 0; lines = 0; kind = ItemKind.Other; white = false; splice = false; spelled = Spelled.Other }

tail_from : (text : List ℕ) (entries : List Entry) → tail_len (kept_from text false entries) ≡ position_or_len is_begun entries
tail_from text entries = is_position_or_len (λ es. tail_len (kept_from text false es)) is_begun refl more entries
  where
    more : (entry : Entry) (entries : List Entry) → tail_len (kept_from text false (entry ∷ entries)) ≡ cond (is_begun entry) 0 (1 + tail_len (kept_from text false entries))
    more entry entries =
        let one : suc (tail_len (kept_from text false entries)) ≡ 1 + tail_len (kept_from text false entries) = omega arith in
        ap (λ k. cond (is_begun entry) 0 k) one

drop_from : (text : List ℕ) (n : ℕ) (entries : List Entry) → drop n (kept_from text false entries) ≡ kept_from text false (drop n entries)
drop_from text zero entries = refl
drop_from text (suc n) [] = refl
drop_from text (suc n) (entry ∷ entries) = drop_from text n entries

-- how many items follow on the line of an item
pub tail_kept : (text : List ℕ) (at : ℕ) (entries : List Entry) → tail_len (drop (suc at) (kept_by_all text entries)) ≡ position_or_len is_begun (drop (suc at) entries)
tail_kept text at [] = refl
tail_kept text at (entry ∷ entries) = ap tail_len (drop_from text at entries) ∙ tail_from text (drop at entries)

-- what stands behind an offset is all of what is left there
pub all_behind : (at : ℕ) (entries : List Entry) → take (length entries - at) (drop at entries) ≡ drop at entries
all_behind at entries = let len = length-drop at entries in take_all (length entries - at) (drop at entries) (omega (arith, len))

-- the line of an item ends within the items
pub few_behind : (at n : ℕ) (entries : List Entry) → at < length entries → n ≡ position_or_len is_begun (drop (at + 1) entries) → at + 1 + n ≤ length entries
few_behind at n entries below n_is =
    let few = prefix_len-le-length (λ e. not (is_begun e)) (drop (at + 1) entries) in
    let len = length-drop (at + 1) entries in
    omega (arith, below, n_is, few, len)

-- the line of an item, and those behind it
pub line_kept : (text : List ℕ) (entries : List Entry) (at n : ℕ) → at < length entries → n ≡ position_or_len is_begun (drop (at + 1) entries)
    → lines_of (drop at (kept_by_all text entries)) ≡ slice_range (kept_by_all text entries) at (at + 1 + n) ∷ lines_of (drop (at + 1 + n) (kept_by_all text entries))
line_kept text entries at n below n_is =
    let one = add-one at in
    let count = length_kept text entries in
    let tail : tail_len (drop (at + 1) (kept_by_all text entries)) ≡ position_or_len is_begun (drop (at + 1) entries) =
    ap (λ k. tail_len (drop k (kept_by_all text entries))) one ∙ (tail_kept text at entries ∙ ap (λ k. position_or_len is_begun (drop k entries)) (sym one)) in
    line_there (kept_by_all text entries) at (at + 1 + n) (omega (arith, below, count)) (omega (arith, n_is, tail))
