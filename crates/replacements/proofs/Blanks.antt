-- Blanks and line ends, one after another.
use Rattle.std.proofs.Common.{◌≡◌, ℕ, ◌+◌, ◌≤◌, zero, suc, Bool, List, [], ◌++◌, refl, sym, arith, append-nil, ◌-◌, append_assoc, add-zero, add-one, take, replicate, subst}
use Rattle.std.proofs.lemmas.List.{replicate-append-replicate, take-replicate}
use Rattle.replacements.specs.GapText.{blanks, line_end, line_ends}

pub blanks_split : (n m k : ℕ) → n + m ≡ k → blanks k ≡ blanks n ++ blanks m
blanks_split n m k is = rw (← is) (sym (replicate-append-replicate n m 32))

pub repeated_split : (c n m k : ℕ) → n + m ≡ k → replicate k c ≡ replicate n c ++ replicate m c
repeated_split c n m k is = rw (← is) (sym (replicate-append-replicate n m c))

pub blanks_front : (n : ℕ) → n ≤ 64 → take n (replicate 64 32) ≡ blanks n
blanks_front n within = take-replicate n 64 32 within

pub line_ends-zero : (crlf : Bool) → line_ends crlf 0 ≡ []
unfolding line_ends
line_ends-zero crlf = refl

pub line_ends-next : (crlf : Bool) (n : ℕ) → line_ends crlf (n + 1) ≡ line_ends crlf n ++ line_end crlf
unfolding line_ends
line_ends-next crlf n = rw add-one refl

-- what is left of the line ends
pub line_ends-more : (crlf : Bool) (n more : ℕ) → (rest : List ℕ) × (line_ends crlf (n + more) ≡ line_ends crlf n ++ rest)
line_ends-more crlf n zero = ([], rw (add-zero, append-nil) refl)
line_ends-more crlf n (suc more) =
    let before = line_ends-more crlf n more in
    let step : n + suc more ≡ n + more + 1 = omega arith in (
      before.0 ++ line_end crlf,
      rw (step, line_ends-next crlf (n + more), before.1) (append_assoc (line_ends crlf n) before.0 (line_end crlf)),
    )

pub line_ends-front : (crlf : Bool) (n all : ℕ) → n ≤ all → (rest : List ℕ) × (line_ends crlf all ≡ line_ends crlf n ++ rest)
line_ends-front crlf n all within =
    let is : n + (all - n) ≡ all = omega arith in
    subst (λ (m : ℕ). (rest : List ℕ) × (line_ends crlf m ≡ line_ends crlf n ++ rest)) is (line_ends-more crlf n (all - n))
