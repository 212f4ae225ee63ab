-- New-lines among bytes, counted sixteen at a time.
use Rattle.std.proofs.Common.{◌≡◌, ◌∙◌, ℕ, ◌+◌, ◌≤◌, List, length, take, drop, count_by, sym, ap}
use Rattle.std.proofs.lemmas.List.{take-append-drop}
use Rattle.std.proofs.lemmas.List.Sums.{sum_by-append, count_by-le-length}
use Rattle.token_arena.specs.Stored.{is_line_feed}

-- those of the first bytes, and those of the others
pub feeds_split : (n : ℕ) (s : List ℕ) → count_by is_line_feed s ≡ count_by is_line_feed (take n s) + count_by is_line_feed (drop n s)
feeds_split n s = ap (λ (xs : List ℕ). count_by is_line_feed xs) (sym (take-append-drop n s)) ∙ sum_by-append _ (take n s) (drop n s)

-- those of bytes that come in two parts
pub feeds_on : (s front behind : List ℕ) → front ≡ take 16 s → behind ≡ drop 16 s → count_by is_line_feed s ≡ count_by is_line_feed front + count_by is_line_feed behind
feeds_on s front behind front_is behind_is = rw (front_is, behind_is) (feeds_split 16 s)

-- there are no more than bytes
pub few_feeds : (s : List ℕ) → count_by is_line_feed s ≤ length s
few_feeds s = count_by-le-length is_line_feed s
