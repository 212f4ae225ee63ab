-- Characters beside a word, one after another.
use Rattle.std.proofs.Common.{◌≡◌, ◌==◌, ◌<◌, ◌≤◌, ◌+◌, ℕ, Bool, true, false, List, [], ◌∷◌, ◌++◌, length, drop, get_or, map, refl, ◌∙◌, ap, arith, Option, Some, None, slice_get, Bor}
use Rattle.std.specs.Option.{option_to_list}
use Rattle.std.specs.List.{list_any}
use Rattle.std.proofs.lemmas.List.{drop_more, drop_all, get_or-map, length-map}
use Rattle.std.proofs.lemmas.Bool.{and_left, ne_eqb}
use Rattle.c_chars.specs.Characters.{bytes_of}
use Rattle.c_chars.specs.declared.LogicalChar.{LogicalChar}
use Rattle.c_grammar.specs.Grammar.{is_same}
use Rattle.c_grammar.specs.Touch.{is_front, first_of}

-- another character stands there
pub front_differs : (c : ℕ) (s w : List ℕ) (i : ℕ) → i < length w → (c ≡ get_or w i 0 → ⊥) → is_front (c ∷ s) (drop i w) ≡ false
front_differs c s w i h n = ap (is_front (c ∷ s)) (drop_more w i 0 h) ∙ and_left (c == get_or w i 0) (is_front s (drop (i + 1) w)) (ne_eqb c (get_or w i 0) n)

-- the characters are at their end
pub front_last : (o : Option ℕ) (w : List ℕ) (i : ℕ) → i < length w → is_front (option_to_list o) (drop i w) ≡ is_front (option_to_list o) (get_or w i 0 ∷ [])
front_last o w i h = ap (is_front (option_to_list o)) (drop_more w i 0 h) ∙ by_option o
  where
    by_option : (o : Option ℕ) → is_front (option_to_list o) (get_or w i 0 ∷ drop (i + 1) w) ≡ is_front (option_to_list o) (get_or w i 0 ∷ [])
    by_option None = refl
    by_option (Some e) = refl

-- the word is at its end
pub front_end : (s w : List ℕ) (i : ℕ) → length w ≤ i → is_front s (drop i w) ≡ is_front s []
front_end s w i h = ap (is_front s) (drop_all i w (omega (arith, h)))

pub same_differs : (c : ℕ) (s w : List ℕ) (i : ℕ) → i < length w → (c ≡ get_or w i 0 → ⊥) → is_same (c ∷ s) (drop i w) ≡ false
same_differs c s w i h n = ap (is_same (c ∷ s)) (drop_more w i 0 h) ∙ and_left (c == get_or w i 0) (is_same s (drop (i + 1) w)) (ne_eqb c (get_or w i 0) n)

pub same_short : (w : List ℕ) (i : ℕ) → i < length w → is_same [] (drop i w) ≡ false
same_short w i h = ap (is_same []) (drop_more w i 0 h)

pub same_end : (s w : List ℕ) (i : ℕ) → length w ≤ i → is_same s (drop i w) ≡ is_same s []
same_end s w i h = ap (is_same s) (drop_all i w (omega (arith, h)))

-- Words of a table

abbrev nows : List (Bor (List ℕ)) → List (List ℕ)
nows table = map (λ p. p.now) table

word_at : (table : List (Bor (List ℕ))) (i : ℕ) (d : Bor (List ℕ)) → i < length table → drop i (nows table) ≡ (get_or table i d).now ∷ drop (i + 1) (nows table)
word_at table i d h =
    let long : i < length (nows table) = omega (arith, length-map table (λ p. p.now)) in
    let same = get_or-map (λ p. p.now) table i d [] h in
    drop_more (nows table) i [] long ∙ ap (λ x. x ∷ drop (i + 1) (nows table)) same

pub some_yes : (q : List ℕ → Bool) (table : List (Bor (List ℕ))) (i : ℕ) (d : Bor (List ℕ)) → i < length table → q (get_or table i d).now ≡ true → list_any q (drop i (nows table)) ≡ true
some_yes q table i d h y = ap (list_any q) (word_at table i d h) ∙ rw y refl

pub some_no : (q : List ℕ → Bool) (table : List (Bor (List ℕ))) (i : ℕ) (d : Bor (List ℕ)) → i < length table → q (get_or table i d).now ≡ false → list_any q (drop i (nows table)) ≡ list_any q (drop (i + 1) (nows table))
some_no q table i d h n = ap (list_any q) (word_at table i d h) ∙ rw n refl

-- the first character, by what stands first
pub first_list : (s : List ℕ) (o : Option ℕ) → o ≡ slice_get s 0 → option_to_list o ≡ first_of s
first_list [] o e = ap option_to_list e
first_list (c ∷ s) o e = ap option_to_list e

-- Where characters are left

pub left_some : (s : List LogicalChar) (c : LogicalChar) → slice_get s 0 ≡ Some c → is_same (bytes_of s) [] ≡ false
left_some [] c h = cc
left_some (x ∷ s) c h = refl

pub left_none : (s : List LogicalChar) → slice_get s 0 ≡ None → s ≡ []
left_none [] h = refl
left_none (x ∷ s) h = cc

pub left_front : (s : List LogicalChar) (c : LogicalChar) (t : List ℕ) → slice_get s 0 ≡ Some c → is_front (bytes_of s ++ t) [] ≡ false
left_front [] c t h = cc
left_front (x ∷ s) c t h = refl
