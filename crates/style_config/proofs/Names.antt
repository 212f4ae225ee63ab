-- What names a style is text.
use Rattle.std.proofs.Common.{◌≡◌, ◌<◌, ℕ, zero, suc, Bool, true, false, List, [], ◌∷◌, map, codes, None, refl, ap, sym, arith, subst, ◌∙◌, lit<, if◌then◌else◌}
use Rattle.std.specs.Prelude.{slice_index}
use Rattle.std.specs.Str.{IsUtf8}
use Rattle.std.specs.Char.{to_ascii_lowercase}
use Rattle.std.specs.Option.{option_map}
use Rattle.std.proofs.lemmas.Str.{IsUtf8-from_ascii}
use Rattle.std.proofs.lemmas.Slice.Eq.{bytes_eq-Decides}
use Rattle.style_table.specs.Named.{named, is_spelled, style_of}

-- only an ASCII character has an ASCII one in lower case
low_byte : (c : ℕ) → to_ascii_lowercase c < 128 → c < 128
low_byte c low = grind arith

-- each byte is an ASCII one
abbrev pub AreLow : List ℕ → Type 0
AreLow [] = Unit {0}
AreLow (c ∷ text) = (c < 128) × AreLow text

-- so each place has an ASCII one
pub low_at : (text : List ℕ) → AreLow text → (at : ℕ) → slice_index text at < 128
low_at [] low zero = lit< tt
low_at [] low (suc at) = lit< tt
low_at (c ∷ text) low zero = low.0
low_at (c ∷ text) low (suc at) = low_at text low.1 at

low_bytes : (name : List ℕ) → AreLow (map to_ascii_lowercase name) → AreLow name
low_bytes [] low = tt
low_bytes (c ∷ name) low = (low_byte c low.0, low_bytes name low.1)

spelled : (word name : List ℕ) → AreLow (map to_ascii_lowercase word) → is_spelled word name ≡ true → IsUtf8 name
spelled word name low is =
    let same : map to_ascii_lowercase name ≡ map to_ascii_lowercase word = (bytes_eq-Decides (map to_ascii_lowercase name) (map to_ascii_lowercase word)).0 is in
    IsUtf8-from_ascii name (low_at name (low_bytes name (subst AreLow (sym same) low)))

not_true : (b : Bool) → (b ≡ true → ⊥) → b ≡ false
not_true true is_not = absurd (is_not refl)
not_true false is_not = refl

not_spelled : (word name : List ℕ) → AreLow (map to_ascii_lowercase word) → (IsUtf8 name → ⊥) → is_spelled word name ≡ false
not_spelled word name low not_text = not_true (is_spelled word name) (λ is. not_text (spelled word name low is))

first_no : {T : Type 0} (b : Bool) (x y z : T) → b ≡ false → y ≡ z → (if b then x else y) ≡ z
first_no b x y z is rest = ap (λ b. if b then x else y) is ∙ rest

-- what names a style is UTF-8
pub not_named : (name : List ℕ) → (IsUtf8 name → ⊥) → named name ≡ None
not_named name not_text =
    let llvm : is_spelled (codes "LLVM") name ≡ false = not_spelled (codes "LLVM") name (lit< tt, (lit< tt, (lit< tt, (lit< tt, tt)))) not_text in
    let google : is_spelled (codes "Google") name ≡ false = not_spelled (codes "Google") name (lit< tt, (lit< tt, (lit< tt, (lit< tt, (lit< tt, (lit< tt, tt)))))) not_text in
    let web_kit : is_spelled (codes "WebKit") name ≡ false = not_spelled (codes "WebKit") name (lit< tt, (lit< tt, (lit< tt, (lit< tt, (lit< tt, (lit< tt, tt)))))) not_text in
    let mozilla : is_spelled (codes "Mozilla") name ≡ false = not_spelled (codes "Mozilla") name (lit< tt, (lit< tt, (lit< tt, (lit< tt, (lit< tt, (lit< tt, (lit< tt, tt))))))) not_text in
    let microsoft : is_spelled (codes "Microsoft") name ≡ false = not_spelled (codes "Microsoft") name (lit< tt, (lit< tt, (lit< tt, (lit< tt, (lit< tt, (lit< tt, (lit< tt, (lit< tt, (lit< tt, tt))))))))) not_text in
    ap (option_map style_of) (first_no _ _ _ _ llvm (first_no _ _ _ _ google (first_no _ _ _ _ web_kit (first_no _ _ _ _ mozilla (first_no _ _ _ _ microsoft refl)))))
