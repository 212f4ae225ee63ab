-- Steps over a table of fronts.
use Rattle.std.proofs.Common.{◌≡◌, ◌+◌, ◌<◌, ◌∙◌, ap, refl, ℕ, true, false, List, [], ◌∷◌, length, map, get_or, drop, nat_eq, Bor, arith}
use Rattle.std.specs.List.{starts_with}
use Rattle.std.proofs.lemmas.List.{drop_more, get_or-map, drop_all, length-map}
use Rattle.c_lexer.specs.Run.{first_front}

abbrev nows : List (Bor (List ℕ)) → List (List ℕ)
nows table = map (λ p. p.now) table

cut_at : (table : List (Bor (List ℕ))) (i : ℕ) (d : Bor (List ℕ)) → i < length table → drop i (nows table) ≡ (get_or table i d).now ∷ drop (i + 1) (nows table)
cut_at table i d h =
    let long : i < length (nows table) = omega (arith, length-map table (λ p. p.now)) in
    let same = get_or-map (λ p. p.now) table i d [] h in
    drop_more (nows table) i [] long ∙ ap (λ x. x ∷ drop (i + 1) (nows table)) same

pub first_yes : (table : List (Bor (List ℕ))) (s : List ℕ) (i : ℕ) (d : Bor (List ℕ)) → i < length table → starts_with nat_eq s (get_or table i d).now ≡ true → first_front (drop i (nows table)) s ≡ length (get_or table i d).now
first_yes table s i d h y = ap (λ x. first_front x s) (cut_at table i d h) ∙ rw y refl

pub first_no : (table : List (Bor (List ℕ))) (s : List ℕ) (i : ℕ) (d : Bor (List ℕ)) → i < length table → starts_with nat_eq s (get_or table i d).now ≡ false → first_front (drop i (nows table)) s ≡ first_front (drop (i + 1) (nows table)) s
first_no table s i d h n = ap (λ x. first_front x s) (cut_at table i d h) ∙ rw n refl

pub first_none : (table : List (Bor (List ℕ))) (s : List ℕ) (i : ℕ) → length table < i + 1 → first_front (drop i (nows table)) s ≡ 1
first_none table s i h = ap (λ x. first_front x s) (drop_all i (nows table) (omega (arith, length-map table (λ p. p.now))))
