-- The value of digits, read from the front.
use Rattle.std.proofs.Common.{◌≡◌, ℕ, ◌+◌, ◌-◌, ◌*◌, ◌<◌, ◌≤◌, Bool, true, false, List, [], ◌∷◌, length, get_or, drop, Option, Some, None, refl, ap, ◌∙◌, arith, rules, tests}
use Rattle.std.proofs.lemmas.List.{at_drop_more}
use Rattle.std.specs.Prelude.{◌&&◌, nat_le, fold}
use Rattle.std.specs.Str.{all_ascii_digits}
use Rattle.std.specs.Char.{is_ascii_digit}

-- one digit more
abbrev pub more : ℕ → ℕ → ℕ
more n c = 10 * n + (c - 48)

-- the value of what is left behind digits of this value
abbrev pub value_from : ℕ → List ℕ → Option ℕ
value_from n s = elim (all_ascii_digits s && nat_le (fold more n s) 2147483647) [ true ↦ Some (fold more n s) | false ↦ None ]

pub read_digit : (n c : ℕ) (s : List ℕ) → is_ascii_digit c ≡ true → value_from n (c ∷ s) ≡ value_from (10 * n + (c - 48)) s
read_digit n c s e =
    ap (λ b. let r : Option ℕ = elim ((b && all_ascii_digits s) && nat_le (fold more (more n c) s) 2147483647) [ true ↦ Some (fold more (more n c) s) | false ↦ None ] in r) e

pub no_digit : (n c : ℕ) (s : List ℕ) → is_ascii_digit c ≡ false → value_from n (c ∷ s) ≡ None
no_digit n c s e =
    ap (λ b. let r : Option ℕ = elim ((b && all_ascii_digits s) && nat_le (fold more (more n c) s) 2147483647) [ true ↦ Some (fold more (more n c) s) | false ↦ None ] in r) e

pub grows : (n : ℕ) (s : List ℕ) → n ≤ fold more n s
grows n [] = omega arith
grows n (c ∷ s) = omega (arith, grows (more n c) s)

refused : (a : Bool) (n m : ℕ) → nat_le m 2147483647 ≡ false → (let r : Option ℕ = elim (a && nat_le m 2147483647) [ true ↦ Some n | false ↦ None ] in r) ≡ None
refused true n m e = ap (λ b. let r : Option ℕ = elim b [ true ↦ Some n | false ↦ None ] in r) e
refused false n m e = refl

pub too_great : (n : ℕ) (s : List ℕ) → 2147483647 < n → value_from n s ≡ None
too_great n s h =
    let above : 2147483647 < fold more n s = omega (arith, grows n s) in
    refused (all_ascii_digits s) (fold more n s) (fold more n s) (search (rules, tests))

pub all_read : (n : ℕ) → n ≤ 2147483647 → value_from n [] ≡ Some n
all_read n h =
    let e : nat_le n 2147483647 ≡ true = search (rules, tests) in
    ap (λ b. let r : Option ℕ = elim b [ true ↦ Some n | false ↦ None ] in r) e

pub beyond : (text : List ℕ) (i n m : ℕ) → i < length text → is_ascii_digit (get_or text i 0) ≡ true → m ≡ get_or text i 0 - 48 → 2147483647 < 10 * n + m → value_from n (drop i text) ≡ None
beyond text i n m h d e g =
    at_drop_more (value_from n) text i 0 h ∙ read_digit n (get_or text i 0) (drop (i + 1) text) d ∙ too_great (10 * n + (get_or text i 0 - 48)) (drop (i + 1) text) (omega arith)
