-- Where a comment begins, a byte further on.
use Rattle.std.proofs.Common.{◌-◌, take, get_or, ◌≡◌, ◌<◌, ◌≤◌, ℕ, suc, ◌+◌, List, [], ◌∷◌, length, drop, Bool, true, false, if◌then◌else◌, refl, ap, arith, ◌∙◌}
use Rattle.std.proofs.lemmas.List.{drop-drop, length-drop}
use Rattle.std.specs.List.{suffix_len}
use Rattle.std.proofs.lemmas.List.Sums.{suffix_len-take_yes}
use Rattle.style_config.specs.Texts.{begins_comment, comment_start}

first_no : (text : List ℕ) → 0 < length text → begins_comment text ≡ false → comment_start text ≡ 1 + comment_start (drop 1 text)
unfolding comment_start
first_no [] within none_begins = omega arith
first_no (c ∷ rest) within none_begins = ap (λ b. if b then 0 else suc (comment_start rest)) none_begins ∙ omega arith

first_yes : (text : List ℕ) → 0 < length text → begins_comment text ≡ true → comment_start text ≡ 0
unfolding comment_start
first_yes [] within is = refl
first_yes (c ∷ rest) within is = ap (λ b. if b then 0 else suc (comment_start rest)) is

first_none : (text : List ℕ) → length text ≡ 0 → comment_start text ≡ 0
unfolding comment_start
first_none [] none = refl
first_none (c ∷ rest) none = omega arith

-- no comment begins at this place
pub comment_start_no : (text : List ℕ) (at : ℕ) → at < length text → begins_comment (drop at text) ≡ false
    → comment_start (drop at text) ≡ 1 + comment_start (drop (at + 1) text)
comment_start_no text at within none_begins =
    rw (← drop-drop 1 at text) (first_no (drop at text) (omega (arith, length-drop at text)) none_begins)

-- a comment begins at this place
pub comment_start_yes : (text : List ℕ) (at : ℕ) → at < length text → begins_comment (drop at text) ≡ true
    → comment_start (drop at text) ≡ 0
comment_start_yes text at within is = first_yes (drop at text) (omega (arith, length-drop at text)) is

-- at the end of the text
pub comment_start_all : (text : List ℕ) (at : ℕ) → length text ≤ at → comment_start (drop at text) ≡ 0
comment_start_all text at past = first_none (drop at text) (omega (arith, length-drop at text))

-- a blank at the end
pub suffix_len_yes : {X : Type 0} (p : X → Bool) (xs : List X) (n : ℕ) (d : X) → 0 < n → n ≤ length xs → p (get_or xs (n - 1) d) ≡ true
    → suffix_len p (take n xs) ≡ 1 + suffix_len p (take (n - 1) xs)
suffix_len_yes p xs n d above within is = suffix_len-take_yes p xs n d above within is
