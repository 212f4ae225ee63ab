-- Counts over a text, byte by byte.
use Rattle.std.proofs.Common.{◌≡◌, ◌==◌, ℕ, ◌<◌, Bool, true, false, Option, Some, None, List, [], ◌∷◌, length, get_or}
use Rattle.std.proofs.Common.{refl, sym, ap, ◌∙◌, arith, zero-add}
use Rattle.std.specs.Prelude.{is_some, slice_index}
use Rattle.std.specs.List.{list_any}
use Rattle.std.proofs.lemmas.List.{get_or_default}
use Rattle.std.proofs.lemmas.List.Folds.{list_any_none, list_any_at}
use Rattle.std.proofs.lemmas.Bool.{or_parts}
use Rattle.std.proofs.lemmas.Bool.Decides.{nat_tests}
use Rattle.memchr.specs.Find.{IsFirstByte}
use Rattle.format_core.specs.LineEnds.{return_lines, ends_by}
use Rattle.style_table.specs.declared.style.LineEnding.TheVariants.{DeriveLF}

-- a text without `\r` has no line that ends in one
no_returns : (text : List ℕ) → list_any (λ b. b == 13) text ≡ false → return_lines false text ≡ 0
no_returns [] h = refl
no_returns (b ∷ s) h =
    let parts = or_parts (b == 13) (list_any (λ b. b == 13) s) h in
    rw parts.0 (zero-add (return_lines false s) ∙ no_returns s parts.1)

-- so its lines end as those of a text that has more of the others
pub ends_plain : (text : List ℕ) → list_any (λ b. b == 13) text ≡ false → false ≡ ends_by DeriveLF text
ends_plain text none =
    let few : return_lines false text ≡ 0 = no_returns text none in
    rw few (grind (arith, nat_tests))

-- a search of the first byte that passes a test tells whether there is one
pub found_any : (test : ℕ → Bool) (text : List ℕ) (found : Option ℕ) → IsFirstByte test text found → is_some found ≡ list_any test text
found_any test text None nowhere = sym (list_any_none test text (λ k d below. failed (test (get_or text k d)) (λ e. nowhere k (omega arith) below (here k d below e))))
  where
    failed : (b : Bool) → (b ≡ true → ⊥) → b ≡ false
    failed true not_true = absurd (not_true refl)
    failed false not_true = refl

    here : (k d : ℕ) → k < length text → test (get_or text k d) ≡ true → test (slice_index text k) ≡ true
    here k d below e = ap test (get_or_default text k 0 d below) ∙ e
found_any test text (Some k) first = sym (list_any_at test text k 0 first.0.high first.1)
