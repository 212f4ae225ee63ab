-- What the first bytes of a text are, after trigraphs and new-lines.
use Rattle.std.proofs.Common.{◌≡◌, ◌==◌, ◌&&◌, not, ℕ, ◌+◌, arith, length, Bool, true, false, List, [], ◌∷◌, get_or, ◌<◌, refl, sym, ◌∙◌, ap, subst, inl, inr, drop}
use Rattle.std.proofs.lemmas.Bool.{and_parts, cases_Bool, and_left, and_right, not-true, eqb-true}
use Rattle.std.proofs.lemmas.Bool.Decides.{nat_tests}
use Rattle.c_chars.specs.Characters.{trigraph, replaced, with_lines, spliced, placed, phase_1, chars, IsUnit, begins_trigraph, begins_return, has_trigraphs}
use Rattle.c_chars.specs.declared.Dialect.{Dialect}
use Rattle.c_chars.specs.declared.Dialect.TheVariants.{C11, C23}
use Rattle.c_chars.specs.declared.LogicalChar.{LogicalChar}
use Rattle.c_chars.proofs.Cuts.{starts_in}

pub trigraph_no_line : (c : ℕ) → (trigraph c == 10) ≡ false
unfolding trigraph
trigraph_no_line c = grind (arith, nat_tests)

trigraph_no_return : (c : ℕ) → (trigraph c == 13) ≡ false
unfolding trigraph
trigraph_no_return c = grind (arith, nat_tests)

abbrev pub is_line : LogicalChar → Bool
is_line c = c.byte == 10

abbrev pub begins_line : List ℕ → Bool
begins_line [] = false
begins_line (b ∷ s) = b == 10

-- trigraphs neither make nor break a new-line at the front
pub front_line : (d : Dialect) (at : ℕ) (s : List ℕ) → starts_in is_line (phase_1 d (placed at s)) ≡ begins_line s
front_line C23 at [] = refl
front_line C23 at (b ∷ s) = refl
front_line C11 at [] = refl
front_line C11 at (b ∷ []) = refl
front_line C11 at (b ∷ c ∷ []) = refl
front_line C11 at (b ∷ c ∷ e ∷ s) = elim (cases_Bool ((b == 63) && ((c == 63) && not (trigraph e == 0)))) [
  | inr n ↦ rw n refl
  | inl y ↦ let f = trigraph_no_line e in let q : (b == 10) ≡ false = query_no_line b (and_parts (b == 63) ((c == 63) && not (trigraph e == 0)) y).0 in rw (y, f, q) refl
]
  where
    query_no_line : (b : ℕ) → (b == 63) ≡ true → (b == 10) ≡ false
    query_no_line b h = grind (arith, nat_tests)

-- one character before a list that doesn't make a new-line of it
lines_cons : (a : LogicalChar) (s : List LogicalChar) → ((a.byte == 13) && starts_in is_line s) ≡ false → with_lines (a ∷ s) ≡ a ∷ with_lines s
lines_cons a [] h = refl
lines_cons a (b ∷ s) h = rw h refl

-- a plain byte
pub plain_unit : (d : Dialect) (b : ℕ) (s : List ℕ) → ((at : ℕ) → phase_1 d (placed at (b ∷ s)) ≡ record { byte = b; from = at; to = at + 1 } ∷ phase_1 d (placed (at + 1) s)) → ((b == 13) && begins_line s) ≡ false → IsUnit d (b ∷ s) b 1
plain_unit d b s p h at =
    ap with_lines (p at) ∙ lines_cons (record { byte = b; from = at; to = at + 1 }) (phase_1 d (placed (at + 1) s)) (subst (λ z. ((b == 13) && z) ≡ false) (sym (front_line d (at + 1) s)) h)

pub return_unit : (d : Dialect) (s : List ℕ) → IsUnit d (13 ∷ 10 ∷ s) 10 2
return_unit C23 s at = let e : (at + 1) + 1 ≡ at + 2 = omega arith in ap (λ n. record { byte = 10; from = at; to = n } ∷ with_lines (placed n s)) e
return_unit C11 [] at = let e : (at + 1) + 1 ≡ at + 2 = omega arith in ap (λ n. record { byte = 10; from = at; to = n } ∷ []) e
return_unit C11 (c ∷ []) at = let e : (at + 1) + 1 ≡ at + 2 = omega arith in ap (λ n. record { byte = 10; from = at; to = n } ∷ with_lines (placed n (c ∷ []))) e
return_unit C11 (c ∷ f ∷ s) at = let e : (at + 1) + 1 ≡ at + 2 = omega arith in ap (λ n. record { byte = 10; from = at; to = n } ∷ with_lines (replaced (placed n (c ∷ f ∷ s)))) e

pub trigraph_unit : (c : ℕ) (s : List ℕ) → (trigraph c == 0) ≡ false → IsUnit C11 (63 ∷ 63 ∷ c ∷ s) (trigraph c) 3
trigraph_unit c s h at =
    let e : ((at + 1) + 1) + 1 ≡ at + 3 = omega arith in
    let no_return = trigraph_no_return c in
    let first : phase_1 C11 (placed at (63 ∷ 63 ∷ c ∷ s)) ≡ record { byte = trigraph c; from = at; to = at + 3 } ∷ replaced (placed (at + 3) s) =
    rw h (ap (λ n. record { byte = trigraph c; from = at; to = n } ∷ replaced (placed n s)) e) in
    ap with_lines first ∙ lines_cons (record { byte = trigraph c; from = at; to = at + 3 }) (replaced (placed (at + 3) s)) (and_left (trigraph c == 13) (starts_in is_line (replaced (placed (at + 3) s))) no_return)

pub no_trigraph_c23 : (b : ℕ) (s : List ℕ) (at : ℕ) → phase_1 C23 (placed at (b ∷ s)) ≡ record { byte = b; from = at; to = at + 1 } ∷ phase_1 C23 (placed (at + 1) s)
no_trigraph_c23 b s at = refl

pub at_trigraph : (d : Dialect) (s : List ℕ) (t : ℕ) → (has_trigraphs d && begins_trigraph s) ≡ true → t ≡ trigraph (get_or s 2 0) → IsUnit d s t 3
at_trigraph C23 s t h e = cc
at_trigraph C11 [] t h e = cc
at_trigraph C11 (a ∷ []) t h e = cc
at_trigraph C11 (a ∷ b ∷ []) t h e = cc
at_trigraph C11 (a ∷ b ∷ c ∷ s) t h e =
    let p = and_parts (a == 63) ((b == 63) && not (trigraph c == 0)) h in
    let q = and_parts (b == 63) (not (trigraph c == 0)) p.1 in
    let a_is : a ≡ 63 = eqb-true a 63 p.0 in
    let b_is : b ≡ 63 = eqb-true b 63 q.0 in
    let unit : IsUnit C11 (63 ∷ 63 ∷ c ∷ s) t 3 = subst (λ z. IsUnit C11 (63 ∷ 63 ∷ c ∷ s) z 3) (sym e) (trigraph_unit c s (not-true (trigraph c == 0) q.1)) in
    subst (λ z. IsUnit C11 (z ∷ b ∷ c ∷ s) t 3) (sym a_is) (subst (λ z. IsUnit C11 (63 ∷ z ∷ c ∷ s) t 3) (sym b_is) unit)

pub at_return : (d : Dialect) (s : List ℕ) → begins_return s ≡ true → IsUnit d s 10 2
at_return d [] h = cc
at_return d (a ∷ []) h = cc
at_return d (a ∷ b ∷ s) h =
    let p = and_parts (a == 13) (b == 10) h in
    let a_is : a ≡ 13 = eqb-true a 13 p.0 in
    let b_is : b ≡ 10 = eqb-true b 10 p.1 in
    subst (λ z. IsUnit d (z ∷ b ∷ s) 10 2) (sym a_is) (subst (λ z. IsUnit d (13 ∷ z ∷ s) 10 2) (sym b_is) (return_unit d s))

no_pattern : (d : Dialect) (b : ℕ) (s : List ℕ) → (has_trigraphs d && begins_trigraph (b ∷ s)) ≡ false → (at : ℕ) → phase_1 d (placed at (b ∷ s)) ≡ record { byte = b; from = at; to = at + 1 } ∷ phase_1 d (placed (at + 1) s)
no_pattern C23 b s h at = refl
no_pattern C11 b [] h at = refl
no_pattern C11 b (c ∷ []) h at = refl
no_pattern C11 b (c ∷ e ∷ s) h at = rw h refl

no_return : (b : ℕ) (s : List ℕ) → begins_return (b ∷ s) ≡ false → ((b == 13) && begins_line s) ≡ false
no_return b [] h = and_right (b == 13) false refl
no_return b (c ∷ s) h = h

pub at_plain : (d : Dialect) (s : List ℕ) → 0 < length s → (has_trigraphs d && begins_trigraph s) ≡ false → begins_return s ≡ false → IsUnit d s (get_or s 0 0) 1
at_plain d [] l h g = absurd (omega arith)
at_plain d (b ∷ s) l h g = plain_unit d b s (no_pattern d b s h) (no_return b s g)

-- Steps

char_of : ℕ → ℕ → ℕ → LogicalChar
char_of b at n = record { byte = b; from = at; to = at + n }

-- the last character, or one that begins no splice
pub step_last : (d : Dialect) (s rest : List ℕ) (b n at : ℕ) → IsUnit d s b n → rest ≡ drop n s → length rest ≡ 0 → chars d at s ≡ record { byte = b; from = at; to = at + n } ∷ chars d (at + n) rest
step_last d s [] b n at u e l = ap spliced (u at) ∙ (ap (λ z. spliced (record { byte = b; from = at; to = at + n } ∷ with_lines (phase_1 d (placed (at + n) z)))) (sym e) ∙ nothing d)
  where
    nothing : (d : Dialect) → spliced (record { byte = b; from = at; to = at + n } ∷ with_lines (phase_1 d [])) ≡ record { byte = b; from = at; to = at + n } ∷ spliced (with_lines (phase_1 d []))
    nothing C11 = refl
    nothing C23 = refl
step_last d s (c ∷ rest) b n at u e l = absurd (omega arith)

pub step_plain : (d : Dialect) (s rest : List ℕ) (b n at : ℕ) → IsUnit d s b n → rest ≡ drop n s → (b == 92) ≡ false → chars d at s ≡ record { byte = b; from = at; to = at + n } ∷ chars d (at + n) rest
step_plain d s rest b n at u e p =
    ap spliced (u at) ∙ (ap (λ z. spliced (record { byte = b; from = at; to = at + n } ∷ with_lines (phase_1 d (placed (at + n) z)))) (sym e) ∙ onto (with_lines (phase_1 d (placed (at + n) rest))))
  where
    onto : (R : List LogicalChar) → spliced (record { byte = b; from = at; to = at + n } ∷ R) ≡ record { byte = b; from = at; to = at + n } ∷ spliced R
    onto [] = refl
    onto (v ∷ R) = rw p refl

pub step_kept : (d : Dialect) (s rest : List ℕ) (b n c m at : ℕ) → IsUnit d s b n → rest ≡ drop n s → IsUnit d rest c m → (c == 10) ≡ false → chars d at s ≡ record { byte = b; from = at; to = at + n } ∷ chars d (at + n) rest
step_kept d s rest b n c m at u e v p =
    ap spliced (u at) ∙ (ap (λ z. spliced (record { byte = b; from = at; to = at + n } ∷ with_lines (phase_1 d (placed (at + n) z)))) (sym e)
    ∙ (ap (λ R. spliced (record { byte = b; from = at; to = at + n } ∷ R)) (v (at + n)) ∙ (kept (with_lines (phase_1 d (placed ((at + n) + m) (drop m rest)))) ∙ ap (λ R. record { byte = b; from = at; to = at + n } ∷ spliced R) (sym (v (at + n))))))
  where
    kept : (R : List LogicalChar) → spliced (record { byte = b; from = at; to = at + n } ∷ (record { byte = c; from = at + n; to = (at + n) + m } ∷ R)) ≡ record { byte = b; from = at; to = at + n } ∷ spliced (record { byte = c; from = at + n; to = (at + n) + m } ∷ R)
    kept R = let f = and_right (b == 92) (c == 10) p in rw f refl

pub step_splice : (d : Dialect) (s rest after : List ℕ) (b n c m at : ℕ) → IsUnit d s b n → rest ≡ drop n s → IsUnit d rest c m → after ≡ drop m rest → b ≡ 92 → c ≡ 10 → chars d at s ≡ chars d (at + (n + m)) after
step_splice d s rest after b n c m at u e v a b_is c_is =
    let sum : (at + n) + m ≡ at + (n + m) = omega arith in
    ap spliced (u at) ∙ (ap (λ z. spliced (record { byte = b; from = at; to = at + n } ∷ with_lines (phase_1 d (placed (at + n) z)))) (sym e)
    ∙ (ap (λ R. spliced (record { byte = b; from = at; to = at + n } ∷ R)) (v (at + n)) ∙ (gone (with_lines (phase_1 d (placed ((at + n) + m) (drop m rest)))) ∙ ap (λ z. chars d z after) sum)))
  where
    gone : (R : List LogicalChar) → spliced (record { byte = b; from = at; to = at + n } ∷ (record { byte = c; from = at + n; to = (at + n) + m } ∷ with_lines (phase_1 d (placed ((at + n) + m) (drop m rest))))) ≡ chars d ((at + n) + m) after
    gone R = rw (b_is, c_is) (ap (λ z. chars d ((at + n) + m) z) (sym a))

pub no_chars : (d : Dialect) (at : ℕ) (s : List ℕ) → length s ≡ 0 → chars d at s ≡ []
no_chars C11 at [] l = refl
no_chars C23 at [] l = refl
no_chars d at (c ∷ s) l = absurd (omega arith)

made_of : ℕ → ℕ → ℕ → LogicalChar
made_of b f t = record { byte = b; from = f; to = t }

pub char_is : (r : LogicalChar) (b f t : ℕ) → r.byte ≡ b → r.from ≡ f → r.to ≡ t → r ≡ record { byte = b; from = f; to = t }
unfolding made_of
char_is r b f t x y z = let same : made_of r.byte r.from r.to ≡ made_of b f t = cc in same
