-- Items that stand in order, and the gaps between them.
use Rattle.std.proofs.Common.{◌≡◌, ◌∙◌, ℕ, zero, suc, ◌+◌, ◌-◌, ◌≤◌, List, [], ◌∷◌, ◌++◌, length, take, drop, refl, ap, arith}
use Rattle.std.proofs.lemmas.List.{take_rest, take-append-drop, drop-drop}
use Rattle.token_arena.specs.Stored.{Stored}
use Rattle.token_arena.specs.Gaps.{StandFrom, behind, gap_from, gap_start, gap_end, joined_from}

-- a gap lies in its text
pub gap_bounds : (text : List ℕ) (at : ℕ) (tokens : List Stored) (p : ℕ) → StandFrom text at tokens
    → (gap_start at tokens p ≤ gap_end (length text) tokens p) × (gap_end (length text) tokens p ≤ length text)
gap_bounds text at [] zero stand = (stand, omega arith)
gap_bounds text at [] (suc p) stand = (stand, omega arith)
gap_bounds text at (token ∷ tokens) zero stand = (stand.0.later, omega (arith, stand.0.within))
gap_bounds text at (token ∷ tokens) (suc p) stand = gap_bounds text (behind token) tokens p stand.1

-- the bytes between where a gap begins and where it ends are the gap
pub gap_is : (text : List ℕ) (at : ℕ) (tokens : List Stored) (p : ℕ)
    → take (gap_end (length text) tokens p - gap_start at tokens p) (drop (gap_start at tokens p) text) ≡ gap_from text at tokens p
gap_is text at [] zero = take_rest text at
gap_is text at [] (suc p) = take_rest text at
gap_is text at (token ∷ tokens) zero = refl
gap_is text at (token ∷ tokens) (suc p) = gap_is text (behind token) tokens p

-- the last gap ends with the text
pub gap_end-last : (tokens : List Stored) (len p : ℕ) → p ≡ length tokens → gap_end len tokens p ≡ len
gap_end-last [] len p h = refl
gap_end-last (token ∷ tokens) len zero h = absurd (omega arith)
gap_end-last (token ∷ tokens) len (suc p) h = gap_end-last tokens len p (omega arith)

-- items that stand in order are no more than the bytes behind where they begin
pub few : (text : List ℕ) (at : ℕ) (tokens : List Stored) → StandFrom text at tokens → at + length tokens ≤ length text
few text at [] stand = omega arith
few text at (token ∷ tokens) stand = omega (arith, few text (behind token) tokens stand.1, stand.0.later, stand.0.some)

-- gaps and items joined are the text from where the first gap begins
pub joined-stand : (text : List ℕ) (at : ℕ) (tokens : List Stored) → StandFrom text at tokens → joined_from text at tokens ≡ drop at text
joined-stand text at [] stand = refl
joined-stand text at (token ∷ tokens) stand =
    let rest : joined_from text (behind token) tokens ≡ drop (behind token) text = joined-stand text (behind token) tokens stand.1 in
    let raw : token.raw ++ drop (behind token) text ≡ drop token.start text =
    rw (← drop-drop (length token.raw) token.start text) (ap (λ (r : List ℕ). r ++ drop (length token.raw) (drop token.start text)) stand.0.bytes ∙ take-append-drop (length token.raw) (drop token.start text)) in
    let at_start : at + (token.start - at) ≡ token.start = omega (arith, stand.0.later) in
    let cut : drop token.start text ≡ drop (token.start - at) (drop at text) = rw (drop-drop (token.start - at) at text, at_start) refl in
    rw (rest, raw, cut) (take-append-drop (token.start - at) (drop at text))
