-- How the work that is left falls.
use Rattle.std.proofs.Common.{◌≡◌, ℕ, zero, suc, ◌+◌, ◌*◌, ◌-◌, ◌<◌, ◌≤◌, Bool, true, false, List, [], ◌∷◌, length, map, Option, Some, sym, arith, subst}
use Rattle.std.proofs.lemmas.Nat.{mul-le}
use Rattle.c_chars.specs.declared.Dialect.{Dialect}
use Rattle.pp_model.specs.Token.{PpToken, erase, list_eq}
use Rattle.pp_model.specs.Setting.{IncludeText, find_text}
use Rattle.pp_model.specs.Stream.{source_of}
use Rattle.std.specs.List.{All}
use Rattle.std.proofs.lemmas.List.Elements.{All-head, All-tail}
use Rattle.pp_directives.specs.SettingView.{text_shown}
use Rattle.pp_directives.specs.declared.settings.IncludeText.{IncludeText as TextValue}
use Rattle.pp_text.specs.Work.{count_of, count_in, cost}

-- a section costs something
pub cost_some : (most depth : ℕ) → 0 < cost most depth
cost_some most zero = omega arith
cost_some most (suc depth) = omega arith

same_depth : (depth : ℕ) → suc depth - 1 ≡ depth
same_depth depth = omega arith

covers : (k most c : ℕ) → k ≤ most → k * c + 1 < most * c + 2
covers k most c le =
    let same : c ≤ c = omega arith in
    omega (arith, mul-le k c most c le same)

-- a section may begin a text
pub cost_covers : (most depth k : ℕ) → 0 < depth → k ≤ most → k * cost most (depth - 1) + 1 < cost most depth
cost_covers most zero k h le = absurd (omega arith)
cost_covers most (suc depth) k h le =
    subst (λ n. k * cost most n + 1 < most * cost most depth + 2) (sym (same_depth depth)) (covers k most (cost most depth) le)

by_match : (d : Dialect) (bytes found : List ℕ) (rest : Option (List ℕ)) (n : ℕ) (b : Bool) → (rest ≡ Some found → count_of (source_of d found) ≤ n) →
    (let r : Option (List ℕ) = elim b [ true ↦ Some bytes | false ↦ rest ] in r) ≡ Some found → count_of (source_of d found) ≤ count_of (source_of d bytes) + n
by_match d bytes found rest n true below e =
    let same : bytes ≡ found = cc in
    let P : List ℕ → Type 0 = λ x. count_of (source_of d x) ≤ count_of (source_of d bytes) + n in
    let here : P bytes = omega arith in
    subst P same here
by_match d bytes found rest n false below e = omega (arith, below e)

-- the text that an include finds is one of those
pub find_counted : (d : Dialect) (is : List IncludeText) (key : List PpToken) (b : List ℕ) → find_text is key ≡ Some b → count_of (source_of d b) ≤ count_in d is
find_counted d [] key b e = absurd (cc)
find_counted d (i ∷ is) key b e =
    by_match d i.bytes b (find_text is key) (count_in d is) (list_eq (map erase i.key) key) (find_counted d is key b) e

fits_by : (most : ℕ) (bytes found : List ℕ) (rest : Option (List ℕ)) (b : Bool) → length bytes ≤ most → (rest ≡ Some found → length found ≤ most) →
    (let r : Option (List ℕ) = elim b [ true ↦ Some bytes | false ↦ rest ] in r) ≡ Some found → length found ≤ most
fits_by most bytes found rest true here below e =
    let same : bytes ≡ found = cc in
    let P : List ℕ → Type 0 = λ x. length x ≤ most in
    subst P same here
fits_by most bytes found rest false here below e = below e

-- the text that an include finds isn't too large
pub found_fits : (most : ℕ) (is : List TextValue) (key : List PpToken) (b : List ℕ) → All (λ i. length i.bytes.items ≤ most) is → find_text (map text_shown is) key ≡ Some b → length b ≤ most
found_fits most [] key b all e = absurd (cc)
found_fits most (i ∷ is) key b all e =
    fits_by most i.bytes.items b (find_text (map text_shown is) key) (list_eq (map erase (text_shown i).key) key) (All-head (λ j. length j.bytes.items ≤ most) i is all)
    (found_fits most is key b (All-tail (λ j. length j.bytes.items ≤ most) i is all)) e
