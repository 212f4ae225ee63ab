-- What is left of a text behind an offset.
use Rattle.std.proofs.Common.{◌≡◌, ◌∙◌, ◌==◌, ℕ, ◌+◌, ◌≤◌, Bool, cond, List, [], ◌∷◌, length, drop, get_or, inl, inr, sym, ap, arith}
use Rattle.std.specs.List.{prefix_len}
use Rattle.std.proofs.lemmas.Bool.{cases_Bool}
use Rattle.std.proofs.lemmas.List.{drop-drop, length-drop}
use Rattle.std.proofs.lemmas.List.Sums.{prefix_len-le-length}

-- what is left n bytes further on
pub left_behind : (at at2 n : ℕ) (text text2 : List ℕ) → at2 ≡ at + n → text2 ≡ text → drop at2 text2 ≡ drop n (drop at text)
left_behind at at2 n text text2 at_is text_is = ap (λ k. drop k text2) at_is ∙ (ap (λ t. drop (at + n) t) text_is ∙ sym (drop-drop n at text))

pub run_is : (p : ℕ → Bool) (n : ℕ) (rest s : List ℕ) → rest ≡ s → n ≡ prefix_len p rest → n ≡ prefix_len p s
run_is p n rest s same e = e ∙ ap (prefix_len p) same

-- as many bytes as are left, or fewer, end within the text
pub words_within : (at n : ℕ) (text rest : List ℕ) → at ≤ length text → rest ≡ drop at text → n ≤ length rest → at + n ≤ length text
words_within at n text rest within rest_is few =
    let len = length-drop at text in
    let same = ap length rest_is in
    omega (arith, within, few, len, same)

pub run_within : (p : ℕ → Bool) (at n : ℕ) (text rest : List ℕ) → at ≤ length text → rest ≡ drop at text → n ≡ prefix_len p rest → at + n ≤ length text
run_within p at n text rest within rest_is n_is =
    let few = prefix_len-le-length p rest in
    words_within at n text rest within rest_is (omega (arith, few, n_is))

few_spaces : (n : ℕ) (rest : List ℕ) → n ≡ cond (get_or rest 0 0 == 32) 1 0 → n ≤ length rest
few_spaces n [] e = omega (arith, e)
few_spaces n (b ∷ s) e = elim (cases_Bool (b == 32)) [
  | inl y ↦ let one : n ≡ 1 = e ∙ ap (λ z. cond z 1 0) y in omega (arith, one)
  | inr m ↦ let none : n ≡ 0 = e ∙ ap (λ z. cond z 1 0) m in omega (arith, none)
]

pub space_within : (at n : ℕ) (text rest : List ℕ) → at ≤ length text → rest ≡ drop at text → n ≡ cond (get_or rest 0 0 == 32) 1 0 → at + n ≤ length text
space_within at n text rest within rest_is n_is = words_within at n text rest within rest_is (few_spaces n rest n_is)
