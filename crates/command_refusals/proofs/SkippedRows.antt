-- The rows of skipped keys, one after another.
use Rattle.std.proofs.Common.{◌≡◌, ◌<◌, ◌+◌, ◌∙◌, suc, ℕ, List, ◌∷◌, ◌++◌, drop, length, get_or, ap, add-one, drop-cons}
use Rattle.style_config.specs.declared.skipped.SkippedKey.{SkippedKey}
use Rattle.command_refusals.specs.Notes.{skipped_row, skipped_rows}

-- the rest begins with the element at its place
pub rest_step : {A : Type 0} (xs : List A) (i : ℕ) (x : A) → i < length xs → get_or xs i x ≡ x → drop i xs ≡ x ∷ drop (i + 1) xs
rest_step {A} xs i x h e = rw add-one (drop-cons xs i x h ∙ ap (λ (y : A). y ∷ drop (suc i) xs) e)

-- the rows of the keys that are left
pub rows_step : (file : List ℕ) (keys : List SkippedKey) (i : ℕ) (key : SkippedKey) → i < length keys → get_or keys i key ≡ key →
    skipped_rows file (drop i keys) ≡ skipped_row file key ++ skipped_rows file (drop (i + 1) keys)
rows_step file keys i key h e = ap (skipped_rows file) (rest_step keys i key h e)
