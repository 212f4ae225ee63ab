-- Bytes of the input that are laid out as they are.
use Rattle.std.proofs.Common.{◌≡◌, ◌∙◌, ℕ, zero, suc, ◌+◌, ◌-◌, ◌<◌, ◌≤◌, List, [], ◌∷◌, ◌++◌, length, take, drop, refl, sym, ap, subst, arith, append_assoc, Some, slice_get}
use Rattle.std.proofs.lemmas.List.{drop-drop}
use Rattle.std.proofs.lemmas.Option.{slice_get_within}
use Rattle.std.proofs.Math.Seq.{take-add}
use Rattle.token_arena.specs.Stored.{Stored}
use Rattle.replacements.specs.Written.{bytes_between}
use Rattle.token_arena.specs.Gaps.{Stands, StandFrom, behind, gap_start}

none_at : (k : ℕ) (t : Stored) → slice_get [] k ≡ Some t → ⊥
none_at k t is = let within : k < length {A = Stored} [] = slice_get_within [] k t is in omega (arith, within)

-- an item stands behind the gap before it
pub stands_at : (text : List ℕ) (at : ℕ) (tokens : List Stored) (place : ℕ) (t : Stored) → StandFrom text at tokens → slice_get tokens place ≡ Some t → Stands text (gap_start at tokens place) t
stands_at text at [] place t stand is = absurd (none_at place t is)
stands_at text at (x ∷ xs) zero t stand is = let same : x ≡ t = cc in subst (λ (z : Stored). Stands text at z) same stand.0
stands_at text at (x ∷ xs) (suc place) t stand is = stands_at text (behind x) xs place t stand.1 is

-- bytes from one offset over a second up to a third
pub between-append : (text : List ℕ) (a b c : ℕ) → a ≤ b → b ≤ c → bytes_between text a b ++ bytes_between text b c ≡ bytes_between text a c
between-append text a b c first second =
    let whole : (b - a) + (c - b) ≡ c - a = omega (arith, first, second) in
    let on : a + (b - a) ≡ b = omega (arith, first) in
    let rest : drop (b - a) (drop a text) ≡ drop b text = drop-drop (b - a) a text ∙ ap (λ n. drop n text) on in
    ap (λ (z : List ℕ). take (b - a) (drop a text) ++ take (c - b) z) (sym rest) ∙ (sym (take-add (b - a) (c - b) (drop a text)) ∙ ap (λ n. take n (drop a text)) whole)

-- no bytes
pub between-none : (text : List ℕ) (a b : ℕ) → b ≤ a → bytes_between text a b ≡ []
between-none text a b none = let zero_is : b - a ≡ 0 = omega (arith, none) in rw zero_is refl

-- an item's bytes are those from its start to its end
pub between-raw : (text : List ℕ) (at : ℕ) (t : Stored) → Stands text at t → bytes_between text t.start (behind t) ≡ t.raw
between-raw text at t stands =
    let long : behind t - t.start ≡ length t.raw = omega arith in
    ap (λ n. take n (drop t.start text)) long ∙ sym stands.bytes

-- What is held, the gap and the item: a piece is written, and the rest is held.
pub held_next : (text : List ℕ) (at held held2 : ℕ) (t : Stored) (gap piece before rest : List ℕ) → Stands text at t → held2 ≤ t.start
    → bytes_between text held at ++ gap ≡ piece ++ bytes_between text held2 t.start
    → before ≡ (gap ++ t.raw) ++ rest
    → bytes_between text held at ++ before ≡ piece ++ (bytes_between text held2 (behind t) ++ rest)
held_next text at held held2 t gap piece before rest stands later is before_is =
    let old : List ℕ = bytes_between text held at in
    let new : List ℕ = bytes_between text held2 t.start in
    let all : bytes_between text held2 (behind t) ≡ new ++ t.raw =
    sym (between-append text held2 t.start (behind t) later (omega arith)) ∙ ap (λ (z : List ℕ). new ++ z) (between-raw text at t stands) in
    let first : old ++ before ≡ old ++ (gap ++ (t.raw ++ rest)) = ap (λ (z : List ℕ). old ++ z) (before_is ∙ append_assoc gap t.raw rest) in
    let second : old ++ (gap ++ (t.raw ++ rest)) ≡ (old ++ gap) ++ (t.raw ++ rest) = sym (append_assoc old gap (t.raw ++ rest)) in
    let third : (old ++ gap) ++ (t.raw ++ rest) ≡ (piece ++ new) ++ (t.raw ++ rest) = ap (λ (z : List ℕ). z ++ (t.raw ++ rest)) is in
    let fourth : (piece ++ new) ++ (t.raw ++ rest) ≡ piece ++ (new ++ (t.raw ++ rest)) = append_assoc piece new (t.raw ++ rest) in
    let fifth : piece ++ (new ++ (t.raw ++ rest)) ≡ piece ++ (bytes_between text held2 (behind t) ++ rest) =
    ap (λ (z : List ℕ). piece ++ z) (sym (append_assoc new t.raw rest) ∙ ap (λ (z : List ℕ). z ++ rest) (sym all)) in
    first ∙ (second ∙ (third ∙ (fourth ∙ fifth)))

-- Nothing is held where the layout begins.
pub held_begun : (text : List ℕ) (at : ℕ) (rest : List ℕ) → rest ≡ [] ++ (bytes_between text at at ++ rest)
held_begun text at rest = let none : bytes_between text at at ≡ [] = between-none text at at (omega arith) in rw none refl

-- what is held lies in its text
pub held_within : (text : List ℕ) (at : ℕ) (t : Stored) → Stands text at t → at ≤ length text
held_within text at t stands = omega (arith, stands.later, stands.within)

-- bytes that are passed are held with those before them
pub held_passed : (text : List ℕ) (a b c : ℕ) (before rest : List ℕ) → a ≤ b → b ≤ c → before ≡ bytes_between text b c ++ rest → bytes_between text a b ++ before ≡ bytes_between text a c ++ rest
held_passed text a b c before rest first second is =
    ap (λ (z : List ℕ). bytes_between text a b ++ z) is
    ∙ (sym (append_assoc (bytes_between text a b) (bytes_between text b c) rest) ∙ ap (λ (z : List ℕ). z ++ rest) (between-append text a b c first second))
