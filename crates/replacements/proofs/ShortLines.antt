-- Line ends and blanks in one piece.
use Rattle.std.proofs.Common.{◌≡◌, ◌∙◌, ℕ, ◌+◌, ◌≤◌, suc, Bool, false, List, ◌∷◌, ◌++◌, ap, arith, sym, take, replicate}
use Rattle.std.proofs.lemmas.List.{take-replicate}
use Rattle.replacements.specs.GapText.{blanks, line_ends}
use Rattle.replacements.proofs.Blanks.{blanks_front}

pub one_front : (n : ℕ) → n ≤ 64 → take (1 + n) (10 ∷ replicate 65 32) ≡ 10 ∷ blanks n
one_front n within =
    let long : 1 + n ≡ suc n = omega arith in
    rw long (ap (λ (z : List ℕ). 10 ∷ z) (take-replicate n 65 32 (omega (arith, within))))

pub two_front : (n : ℕ) → n ≤ 64 → take (2 + n) (10 ∷ 10 ∷ replicate 64 32) ≡ 10 ∷ 10 ∷ blanks n
two_front n within =
    let long : 2 + n ≡ suc (suc n) = omega arith in
    rw long (ap (λ (z : List ℕ). 10 ∷ 10 ∷ z) (blanks_front n within))

pub one_end : (crlf : Bool) (count : ℕ) (piece rest blank : List ℕ) → crlf ≡ false → count ≡ 1 → piece ≡ 10 ∷ blank → rest ≡ blank → piece ≡ line_ends crlf count ++ rest
unfolding line_ends
one_end crlf count piece rest blank end one is same = rw (end, one) (is ∙ ap (λ (z : List ℕ). 10 ∷ z) (sym same))

pub two_ends : (crlf : Bool) (count : ℕ) (piece rest blank : List ℕ) → crlf ≡ false → count ≡ 2 → piece ≡ 10 ∷ 10 ∷ blank → rest ≡ blank → piece ≡ line_ends crlf count ++ rest
unfolding line_ends
two_ends crlf count piece rest blank end two is same = rw (end, two) (is ∙ ap (λ (z : List ℕ). 10 ∷ 10 ∷ z) (sym same))
