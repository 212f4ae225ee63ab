-- The last byte of an item.
use Rattle.std.proofs.Common.{◌≡◌, ◌<◌, ℕ, suc, ◌-◌, Bool, List, [], ◌∷◌, length, refl, ap, ◌∙◌, arith, get_or}
use Rattle.c_grammar.specs.Touch.{ends}

-- the last byte tells how a text ends
pub ends_last : (p : ℕ → Bool) (s : List ℕ) → 0 < length s → p (get_or s (length s - 1) 0) ≡ ends p s
ends_last p [] h = absurd (omega (arith, h))
ends_last p (c ∷ []) h = refl
ends_last p (c ∷ e ∷ s) h =
    let back : length (c ∷ e ∷ s) - 1 ≡ suc (length (e ∷ s) - 1) = omega arith in
    ap (λ n. p (get_or (c ∷ e ∷ s) n 0)) back ∙ ends_last p (e ∷ s) (omega arith)
