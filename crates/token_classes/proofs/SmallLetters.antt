-- Whether one of eight characters passes a test, where lanes tell which do.
use Rattle.std.proofs.Common.{◌≡◌, ◌∙◌, ℕ, ◌+◌, ◌*◌, ◌%◌, ◌^◌, Bool, true, false, not, cond, eqb, ◌||◌, zero, suc, Fits, w8, List, [], ◌∷◌, map, length, refl, sym, ap, ap₂, arith}
use Rattle.std.proofs.lemmas.Bool.{agree_below, agree_below_at, ne_eqb}
use Rattle.std.proofs.lemmas.Simd.{map-map, mask_l-mod}
use Rattle.std.proofs.lemmas.List.{length-map}
use Rattle.std.specs.List.{list_any}
use lib.Lanes.{Each1, mask_l, top}

each_byte : (f : ℕ → ℕ) (p : ℕ → Bool) → agree_below (λ x. top 7 (f x)) p 256 ≡ true → (v : List ℕ) → Each1 (Fits w8) v → map (λ x. top 7 (f x)) v ≡ map p v
each_byte f p all [] small = refl
each_byte f p all (x ∷ xs) small = ap₂ (λ (a : Bool) (b : List Bool). a ∷ b) (agree_below_at (λ y. top 7 (f y)) p 256 x all small.0.fits) (each_byte f p all xs small.1)

-- a mask whose lanes are computed from v is held to p at each of the 256 bytes
masked : (f : ℕ → ℕ) (p : ℕ → Bool) (v z : List ℕ) → length v ≡ 8 → Each1 (Fits w8) v → z ≡ map f v → agree_below (λ x. top 7 (f x)) p 256 ≡ true
    → mask_l (map (top 7) z) % 2 ^ 64 ≡ mask_l (map p v)
masked f p v z long small e all =
    ap (λ l. mask_l l % 2 ^ 64) (ap (map (top 7)) e ∙ (map-map (top 7) f v ∙ each_byte f p all v small)) ∙ mask_l-mod (map p v) 64 (omega (arith, length-map v p, long))

some_bit : (p : ℕ → Bool) (v : List ℕ) → not (eqb (mask_l (map p v)) 0) ≡ list_any p v
some_bit p [] = refl
some_bit p (x ∷ v) = by_bit (p x) (mask_l (map p v)) (list_any p v) (some_bit p v)
  where
    by_bit : (b : Bool) (mask : ℕ) (any : Bool) → not (eqb mask 0) ≡ any → not (eqb (cond b 1 0 + 2 * mask) 0) ≡ (b || any)
    by_bit true mask any h = ap not (ne_eqb (1 + 2 * mask) 0 (λ (e : 1 + 2 * mask ≡ 0). omega (arith, e)))
    by_bit false zero any h = h
    by_bit false (suc n) any h = ap not (ne_eqb (0 + 2 * suc n) 0 (λ (e : 0 + 2 * suc n ≡ 0). omega (arith, e)) ∙ sym (ne_eqb (suc n) 0 (λ (e : suc n ≡ 0). omega (arith, e)))) ∙ h

-- one of eight passes the test exactly where the mask isn't empty
pub any_masked : (f : ℕ → ℕ) (p : ℕ → Bool) (v z : List ℕ) → length v ≡ 8 → Each1 (Fits w8) v → z ≡ map f v → agree_below (λ x. top 7 (f x)) p 256 ≡ true
    → not (eqb (mask_l (map (top 7) z) % 2 ^ 64) 0) ≡ list_any p v
any_masked f p v z long small e all = ap (λ m. not (eqb m 0)) (masked f p v z long small e all) ∙ some_bit p v
