-- The header name that the code cuts off is one, and where it finds none there is none.
use Rattle.std.proofs.Common.{◌≡◌, ◌≢◌, ◌==◌, ◌&&◌, not, ℕ, suc, ◌+◌, Bool, true, false, List, [], ◌∷◌, ◌++◌, take, get_or, refl, sym, ◌∙◌, ap, subst, arith, inl, inr, ◌⊎◌, append_assoc}
use Rattle.std.specs.Prelude.{if◌then◌else◌}
use Rattle.std.specs.List.{list_all}
use Rattle.std.proofs.lemmas.Bool.{and_parts, and_from, eqb-true, eq-eqb, ne_eqb, cases_Bool, both_ways, not-true}
use Rattle.c_chars.specs.Characters.{bytes_of}
use Rattle.c_chars.specs.Coming.{Coming, behind, passed}
use Rattle.c_chars.specs.declared.LogicalChar.{LogicalChar}
use Rattle.c_grammar.specs.Grammar.{is_new_line, IsHeaderName}
use Rattle.c_grammar.specs.Items.{BeginsHeader}
use Rattle.c_lexer.specs.Header.{ends_name, name_len, begins_header, header_len}
use Rattle.c_lexer.proofs.Passing.{header_angle, header_quote}

-- the characters of a name
abbrev is_inner : ℕ → ℕ → Bool
is_inner last c = not (c == last) && not (is_new_line c)

-- a name's characters, and its last one
record IsName (last : ℕ) (some : Bool) (s : List ℕ) : Type 0 where
  body : List ℕ
  inside : list_all (is_inner last) body ≡ true
  not_empty : some ≡ false → body ≢ []
  whole : s ≡ body ++ last ∷ []

inner : (last c : ℕ) → (c == last) ≡ false → is_new_line c ≡ false → is_inner last c ≡ true
inner last c e n = rw (e, n) refl

name_ends : (last : ℕ) (some : Bool) (t : List ℕ) → ends_name last some t ≡ true → IsName last some (take (name_len last t) t)
name_ends last some [] h = cc
name_ends last some (c ∷ s) h = elim (cases_Bool (is_new_line c)) [
  | inl l ↦ let no : false ≡ true = subst (λ b. (if b then false else (if c == last then some else ends_name last true s)) ≡ true) l h in cc
  | inr l ↦
      let first : (if c == last then some else ends_name last true s) ≡ true = subst (λ b. (if b then false else (if c == last then some else ends_name last true s)) ≡ true) l h in
      elim (cases_Bool (c == last)) [
        | inl y ↦
            let e : c ≡ last = eqb-true c last y in
            let there : some ≡ true = subst (λ b. (if b then some else ends_name last true s) ≡ true) y first in
            rw y (record { body = []; inside = refl; not_empty = λ f. absurd (both_ways some f there); whole = ap (λ z. z ∷ []) e })
        | inr n ↦
            let rest = name_ends last true s (subst (λ b. (if b then some else ends_name last true s) ≡ true) n first) in
            let one : 1 + name_len last s ≡ suc (name_len last s) = omega arith in
            rw (n, one) (record { body = c ∷ rest.body; inside = and_from (is_inner last c) (list_all (is_inner last) rest.body) (inner last c n l) rest.inside; not_empty = λ f e. cc; whole = ap (λ z. c ∷ z) rest.whole })
      ]
]

name_there : (last : ℕ) (some : Bool) (body left : List ℕ) → is_new_line last ≡ false → list_all (is_inner last) body ≡ true → (some ≡ false → body ≢ []) → ends_name last some (body ++ last ∷ left) ≡ true
name_there last true [] left e a f = let y = eq-eqb last last refl in rw (e, y) refl
name_there last false [] left e a f = absurd (f refl refl)
name_there last some (c ∷ body) left e a f =
    let parts = and_parts (is_inner last c) (list_all (is_inner last) body) a in
    let both = and_parts (not (c == last)) (not (is_new_line c)) parts.0 in
    let n = not-true (c == last) both.0 in let l = not-true (is_new_line c) both.1 in
    rw (l, n) (name_there last true body left e parts.1 (λ e. cc))

bracket_in_line : (c : ℕ) → ((c ≡ 62) ⊎ (c ≡ 34)) → is_new_line c ≡ false
unfolding is_new_line
bracket_in_line c (inl e) = rw e refl
bracket_in_line c (inr e) = rw e refl

name_of : (first last : ℕ) (t : List ℕ) → ((first ≡ 60) × (last ≡ 62)) ⊎ ((first ≡ 34) × (last ≡ 34)) → IsName last false t → IsHeaderName (first ∷ t)
name_of first last t e h = record { first = first; last = last; body = h.body; ends = e; inside = h.inside; not_empty = h.not_empty refl; whole = ap (λ z. first ∷ z) h.whole }

pub header_cut : (s : List ℕ) → begins_header s ≡ true → IsHeaderName (take (header_len s) s)
header_cut [] h = cc
header_cut (c ∷ s) h = elim (cases_Bool (c == 60)) [
  | inl y ↦
      let e : c ≡ 60 = eqb-true c 60 y in
      let rest : ends_name 62 false s ≡ true = subst (λ b. (if b then ends_name 62 false s else (if c == 34 then ends_name 34 false s else false)) ≡ true) y h in
      let one : 1 + name_len 62 s ≡ suc (name_len 62 s) = omega arith in
      rw (y, one) (name_of c 62 (take (name_len 62 s) s) (inl (e, refl)) (name_ends 62 false s rest))
  | inr n ↦
      let first : (if c == 34 then ends_name 34 false s else false) ≡ true = subst (λ b. (if b then ends_name 62 false s else (if c == 34 then ends_name 34 false s else false)) ≡ true) n h in
      elim (cases_Bool (c == 34)) [
        | inl y ↦
            let e : c ≡ 34 = eqb-true c 34 y in
            let rest : ends_name 34 false s ≡ true = subst (λ b. (if b then ends_name 34 false s else false) ≡ true) y first in
            let one : 1 + name_len 34 s ≡ suc (name_len 34 s) = omega arith in
            rw (n, one) (name_of c 34 (take (name_len 34 s) s) (inr (e, refl)) (name_ends 34 false s rest))
        | inr m ↦ let no : false ≡ true = subst (λ b. (if b then ends_name 34 false s else false) ≡ true) m first in cc
      ]
]

name_found : (f l : ℕ) (body left : List ℕ) → list_all (is_inner l) body ≡ true → body ≢ [] → ((f ≡ 60) × (l ≡ 62)) ⊎ ((f ≡ 34) × (l ≡ 34)) → begins_header (f ∷ (body ++ l ∷ left)) ≡ true
name_found f l body left a n (inl e) =
    let y : (f == 60) ≡ true = eq-eqb f 60 e.0 in
    let there : ends_name 62 false (body ++ l ∷ left) ≡ true = subst (λ z. ends_name z false (body ++ l ∷ left) ≡ true) e.1 (name_there l false body left (bracket_in_line l (inl e.1)) a (λ q. n)) in
    rw y there
name_found f l body left a n (inr e) =
    let m : (f == 60) ≡ false = subst (λ z. (z == 60) ≡ false) (sym e.0) refl in
    let y : (f == 34) ≡ true = eq-eqb f 34 e.0 in
    let there : ends_name 34 false (body ++ l ∷ left) ≡ true = subst (λ z. ends_name z false (body ++ l ∷ left) ≡ true) e.1 (name_there l false body left (bracket_in_line l (inr e.1)) a (λ q. n)) in
    rw (m, y) there

pub no_header : (s : List ℕ) → begins_header s ≡ false → BeginsHeader s → ⊥
no_header s h b =
    let name = b.is_name in
    let whole : s ≡ name.first ∷ (name.body ++ name.last ∷ b.left) =
    b.whole ∙ (ap (λ z. z ++ b.left) name.whole ∙ ap (λ z. name.first ∷ z) (append_assoc name.body (name.last ∷ []) b.left)) in
    both_ways (begins_header s) h (subst (λ z. begins_header z ≡ true) (sym whole) (name_found name.first name.last name.body b.left name.inside name.not_empty name.ends))

-- a header name from its first character on

record FirstOf (x y : Coming) (b : ℕ) : Type 0 where
  c : LogicalChar
  chars_are : x.chars ≡ c ∷ y.chars
  at_is : y.at ≡ c.to
  dialect_is : y.dialect ≡ x.dialect
  byte_is : c.byte ≡ b

first_of : (x y : Coming) (b : ℕ) → get_or (bytes_of x.chars) 0 0 ≡ b → (0 ≡ b → ⊥) → y ≡ behind x 1 → FirstOf x y b
first_of x y b e some y_is = at x.chars refl
  where
    at : (s : List LogicalChar) → x.chars ≡ s → FirstOf x y b
    at [] w = absurd (some (sym (ap (λ z. get_or (bytes_of z) 0 0) w) ∙ e))
    at (c ∷ s) w =
        let left : y ≡ record { dialect = x.dialect; at = c.to; chars = s } = y_is ∙ ap (λ z. passed x.dialect x.at z 1) w in
        record {
          c = c;
          chars_are = w ∙ ap (λ z. c ∷ z) (sym (ap (λ z. z.chars) left));
          at_is = ap (λ z. z.at) left;
          dialect_is = ap (λ z. z.dialect) left;
          byte_is = sym (ap (λ z. get_or (bytes_of z) 0 0) w) ∙ e;
        }

pub angle_header : (x y : Coming) → get_or (bytes_of x.chars) 0 0 ≡ 60 → y ≡ behind x 1 →
    (begins_header (bytes_of x.chars) ≡ ends_name 62 false (bytes_of y.chars)) × (behind x (header_len (bytes_of x.chars)) ≡ behind y (name_len 62 (bytes_of y.chars)))
angle_header x y e y_is = let f = first_of x y 60 e (λ z. absurd (omega (arith, z))) y_is in header_angle x y f.c f.chars_are f.at_is f.dialect_is f.byte_is

pub quote_header : (x y : Coming) → get_or (bytes_of x.chars) 0 0 ≡ 34 → y ≡ behind x 1 →
    (begins_header (bytes_of x.chars) ≡ ends_name 34 false (bytes_of y.chars)) × (behind x (header_len (bytes_of x.chars)) ≡ behind y (name_len 34 (bytes_of y.chars)))
quote_header x y e y_is =
    let f = first_of x y 34 e (λ z. absurd (omega (arith, z))) y_is in
    header_quote x y f.c f.chars_are f.at_is f.dialect_is (ap (λ k. k == 60) f.byte_is) f.byte_is

pub no_header_mark : (s : List ℕ) (b : ℕ) → b ≡ get_or s 0 0 → (b ≡ 60 → ⊥) → (b ≡ 34 → ⊥) → begins_header s ≡ false
no_header_mark [] b e angle quote = refl
no_header_mark (c ∷ s) b e angle quote =
    let x = ne_eqb c 60 (λ z. angle (e ∙ z)) in
    let y = ne_eqb c 34 (λ z. quote (e ∙ z)) in
    rw (x, y) refl
