-- Physical lines, counted along.
use Rattle.std.proofs.Common.{◌≡◌, ◌∙◌, ℕ, zero, suc, ◌+◌, ◌-◌, ◌<◌, ◌≤◌, Bool, true, false, List, [], ◌∷◌, length}
use Rattle.std.proofs.Common.{get_or, take, drop, refl, sym, ap, arith, subst, count_by}
use Rattle.std.proofs.Math.Seq.{take-add}
use Rattle.std.proofs.lemmas.List.Sums.{sum_by-append, count_by-le-length}
use Rattle.std.proofs.lemmas.List.{length-take-le}
use Rattle.c_chars.specs.Characters.{mark_len}
use Rattle.c_grammar.specs.Text.{ReadItem, end_of}
use Rattle.token_arena.specs.Stored.{Stored, is_line_feed, line_at, stored_from}
use Rattle.token_arena.specs.Gaps.{Contents, StandFrom, behind}
use Rattle.token_arena.specs.Holds.{HoldsItems}
use Rattle.item_classes.specs.Items.{no_item, item_at}

-- ## The line of an item

line_from : (text : List ℕ) (is_first : Bool) (from : ℕ) (items : List ReadItem) (k : ℕ) → k < length (stored_from text is_first from items)
    → (get_or (stored_from text is_first from items) k no_item).line ≡ line_at text (get_or (stored_from text is_first from items) k no_item).start
line_from text is_first from [] k within = absurd (omega (arith, within))
line_from text is_first from (item ∷ items) zero within = refl
line_from text is_first from (item ∷ items) (suc k) within = line_from text false (end_of item) items k (omega (arith, within))

-- it is that of its first byte
pub line_is : (arena : Contents) (id : ℕ) → HoldsItems arena → id < length arena.tokens → (item_at arena id).line ≡ line_at arena.text (item_at arena id).start
line_is arena id holds within =
    let P : List Stored → Type 0 = λ ts. id < length ts → (get_or ts id no_item).line ≡ line_at arena.text (get_or ts id no_item).start in
    subst P (sym holds.tokens) (line_from arena.text true (mark_len arena.text) holds.items id) within

pub start_within : (text : List ℕ) (at : ℕ) (tokens : List Stored) (k : ℕ) → StandFrom text at tokens → k < length tokens → (get_or tokens k no_item).start ≤ length text
start_within text at [] k stand within = absurd (omega (arith, within))
start_within text at (token ∷ tokens) zero stand within =
    let ends : behind token ≤ length text = stand.0.within in
    omega (arith, ends)
start_within text at (token ∷ tokens) (suc k) stand within = start_within text (behind token) tokens k stand.1 (omega (arith, within))

-- ## New-lines

-- those up to a place, and those from there on up to a later one
pub feeds_on : (text : List ℕ) (from to : ℕ) → from ≤ to → count_by is_line_feed (take to text) ≡ count_by is_line_feed (take from text) + count_by is_line_feed (take (to - from) (drop from text))
feeds_on text from to low =
    let e : to ≡ from + (to - from) = omega (arith, low) in
    ap (λ n. count_by is_line_feed (take n text)) e
    ∙ (ap (λ (xs : List ℕ). count_by is_line_feed xs) (take-add from (to - from) text)
    ∙ sum_by-append _ (take from text) (take (to - from) (drop from text)))

-- there are no more than bytes
pub few_feeds : (text : List ℕ) (at : ℕ) → at ≤ length text → count_by is_line_feed (take at text) ≤ at
few_feeds text at within =
    let most : count_by is_line_feed (take at text) ≤ length (take at text) = count_by-le-length is_line_feed (take at text) in
    omega (arith, most, length-take-le at text within)

-- so a count goes on up to a later place
pub counted_on : (text : List ℕ) (from to feeds more : ℕ) → feeds ≡ count_by is_line_feed (take from text) → from ≤ to → more ≡ count_by is_line_feed (take (to - from) (drop from text))
    → feeds + more ≡ count_by is_line_feed (take to text)
counted_on text from to feeds more counted low is = omega (arith, counted, is, feeds_on text from to low)

-- or back to an earlier one
pub counted_back : (text : List ℕ) (from to feeds less : ℕ) → feeds ≡ count_by is_line_feed (take from text) → to ≤ from → less ≡ count_by is_line_feed (take (from - to) (drop to text))
    → feeds ≡ count_by is_line_feed (take to text) + less
counted_back text from to feeds less counted low is = omega (arith, counted, is, feeds_on text to from low)
