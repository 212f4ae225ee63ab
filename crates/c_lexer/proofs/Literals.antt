-- Words before quotes, and literals with a prefix.
use Rattle.std.proofs.Common.{◌≡◌, ◌==◌, ◌||◌, ◌&&◌, not, Bool, true, false, ◌⊎◌, ℕ, suc, ◌+◌, List, [], ◌∷◌, ◌++◌, length, drop, get_or, nat_eq, refl, sym, ◌∙◌, ap, subst, arith, inl, inr, append_assoc}
use Rattle.std.specs.Prelude.{codes, IsFalse, MatchOption, None, Option, Some}
use Rattle.std.specs.List.{list_any, list_all, starts_with}
use Rattle.std.proofs.lemmas.Bool.{and_from, and_right, not-true, or_left, or_right, or_cases, and_parts, both_ways, cases_Bool, eq-eqb, eqb-true, ne_eqb}
use Rattle.std.proofs.lemmas.List.{append-nil}
use Rattle.c_chars.specs.Characters.{bytes_of}
use Rattle.c_chars.specs.Coming.{Coming, behind}
use Rattle.c_chars.specs.declared.Dialect.{Dialect}
use Rattle.c_chars.specs.declared.Dialect.TheVariants.{C11, C23}
use Rattle.c_grammar.specs.Grammar.{AreUnits, IsHeaded, joined, Shape, Whole, Spells, is_letter_unit, is_word_unit, is_same, is_of, is_char_prefix, is_string_prefix}
use Rattle.c_grammar.specs.Items.{IsLongest}
use Rattle.c_grammar.specs.Touch.{starts}
use Rattle.item_kinds.specs.declared.ItemKind.TheVariants.{Identifier, CharConst, StringLit}
use Rattle.c_grammar.proofs.Lists.{same_is, two_cuts}
use Rattle.c_grammar.proofs.Firsts.{begins, is_quote}
use Rattle.c_grammar.proofs.Goes.{both_begin}
use Rattle.c_grammar.proofs.Stops.{units_more}
use Rattle.c_grammar.proofs.Singles.{is_word, word_single}
use Rattle.c_grammar.specs.Bytes.{is_quote_mark}
use Rattle.c_lexer.specs.Unit.{IsLongestHeld}
use Rattle.c_lexer.specs.Cut.{IsCutOff}
use Rattle.c_lexer.specs.Quote.{IsClosed, closes_quote}
use Rattle.c_lexer.specs.Literal.{is_string_at, is_constant_at, is_literal, begins_literal, prefix_len}
use Rattle.c_lexer.proofs.Prefixes.{is_constant, is_string, word_kinds, constant_there, string_there, char_goes, string_goes}
use Rattle.c_lexer.proofs.Units.{onto, nothing, letter_is_word, word_some, word_alone}
use Rattle.c_lexer.proofs.CutOffs.{char_off, string_off, two_first}
use Rattle.c_lexer.proofs.FirstBytes.{begins_at}
use Rattle.item_kinds.specs.declared.ItemKind.{ItemKind}

-- a text begins with a prefix and one more
quoted_front : (p : List ℕ) (q : ℕ) (s : List ℕ) → (starts_with nat_eq s p && starts_with nat_eq (drop (length p) s) (q ∷ [])) ≡ starts_with nat_eq s (p ++ q ∷ [])
quoted_front [] q s = refl
quoted_front (a ∷ p) q [] = refl
quoted_front (a ∷ p) q (c ∷ s) = elim (cases_of (a == c)) [ inl y ↦ rw y (quoted_front p q s) | inr n ↦ rw n refl ]
  where
    cases_of : (b : Bool) → (b ≡ true) ⊎ (b ≡ false)
    cases_of true = inl refl
    cases_of false = inr refl

starts_there : (p t : List ℕ) (q : ℕ) → starts_with nat_eq (p ++ q ∷ t) (p ++ q ∷ []) ≡ true
starts_there [] t q = let e = eq-eqb q q refl in rw e refl
starts_there (a ∷ p) t q = let e = eq-eqb a a refl in rw e (starts_there p t q)

drop_there : (p t : List ℕ) (q : ℕ) → drop (length p + 1) (p ++ q ∷ t) ≡ t
drop_there [] t q = refl
drop_there (a ∷ p) t q = let n : suc (length p) + 1 ≡ suc (length p + 1) = omega arith in rw n (drop_there p t q)

constant_at : (d : Dialect) (p t : List ℕ) → is_constant d p t ≡ true → is_literal d p (p ++ 39 ∷ t) ≡ true
constant_at d p t h =
    let parts = and_parts (is_char_prefix d p) (not (starts (λ c. c == 39) t) && closes_quote 39 false t) h in
    let prefix = parts.0 in let there = starts_there p t 39 in let rest = drop_there p t 39 in let closed = parts.1 in
    or_right (is_string_at p (p ++ 39 ∷ t)) (is_char_prefix d p && is_constant_at p (p ++ 39 ∷ t)) (rw (prefix, there, rest) closed)

string_at : (d : Dialect) (p t : List ℕ) → is_string p t ≡ true → is_literal d p (p ++ 34 ∷ t) ≡ true
string_at d p t h =
    let parts = and_parts (is_string_prefix p) (closes_quote 34 false t) h in
    let there = starts_there p t 34 in let rest = drop_there p t 34 in let closed = parts.1 in
    or_left (is_string_at p (p ++ 34 ∷ t)) (is_char_prefix d p && is_constant_at p (p ++ 34 ∷ t)) (rw (there, rest) closed)

-- one of a table passes what an entry of it passes
any_same : (f : List ℕ → Bool) (table : List (List ℕ)) (l : List ℕ) → list_any (is_same l) table ≡ true → f l ≡ true → list_any f table ≡ true
any_same f [] l h g = cc
any_same f (p ∷ ps) l h g = elim (or_cases (is_same l p) (list_any (is_same l) ps) h) [
  | inl y ↦ let e : l ≡ p = same_is l p y in or_left (f p) (list_any f ps) (subst (λ z. f z ≡ true) e g)
  | inr y ↦ or_right (f p) (list_any f ps) (any_same f ps l y g)
]

char_is_string_prefix : (d : Dialect) (p : List ℕ) → is_char_prefix d p ≡ true → is_string_prefix p ≡ true
unfolding is_char_prefix is_string_prefix
char_is_string_prefix C11 p h = more (is_same p []) (is_same p (codes "L")) (is_same p (codes "u")) (is_same p (codes "U")) (is_same p (codes "u8")) h
  where
    more : (a b c e f : Bool) → (a || (b || (c || (e || false)))) ≡ true → (a || (b || (c || (e || (f || false))))) ≡ true
    more true b c e f h = refl
    more false true c e f h = refl
    more false false true e f h = refl
    more false false false true f h = refl
    more false false false false f h = cc
char_is_string_prefix C23 p h = h

-- a literal that a word is the prefix of begins the text
word_literal : (d : Dialect) (c : ℕ) (l s : List ℕ) → is_string_prefix (c ∷ l) ≡ true → is_literal d (c ∷ l) s ≡ true → begins_literal d s ≡ true
unfolding is_string_prefix
word_literal d c l s h g = any_same (λ p. is_literal d p s) (codes "L" ∷ codes "u" ∷ codes "U" ∷ codes "u8" ∷ []) (c ∷ l) h g

headed_units : (s : List ℕ) → IsHeaded is_letter_unit is_word_unit s → AreUnits is_word_unit s
headed_units s h = subst (AreUnits is_word_unit) (sym h.whole) (onto is_word_unit h.head h.tail (letter_is_word h.head h.begins) h.goes_on)

-- what a word's run goes on with makes a longer run, or a literal that begins the text
longer_literal : (d : Dialect) (l rest : List ℕ) (k : Shape) (e : ℕ) (more left : List ℕ) → Spells d (Whole Identifier) l → IsLongestHeld (AreUnits is_word_unit) l rest → (starts is_quote_mark rest ≡ true → begins_literal d (l ++ rest) ≡ false) →
    rest ≡ (e ∷ more) ++ left → (is_word e ≡ true) ⊎ (is_quote e ≡ true) → (is_quote e ≡ true → begins_literal d (l ++ rest) ≡ true) → ⊥
unfolding is_quote
longer_literal d l rest k e more left g held none w (inl word) there = held.longest e [] (more ++ left) w (units_more is_word_unit l (e ∷ []) held.holds (word_single e word))
longer_literal d l rest k e more left g held none w (inr quote) there = both_ways (begins_literal d (l ++ rest)) (none (subst (λ z. starts is_quote_mark z ≡ true) (sym w) quote)) (there quote)

-- a literal that a word is the prefix of begins the text
literal_there : (d : Dialect) (l t : List ℕ) (q : ℕ) → Spells d (Whole Identifier) l → is_string_prefix l ≡ true → is_literal d l (l ++ q ∷ t) ≡ true → begins_literal d (l ++ q ∷ t) ≡ true
literal_there d l t q g p h = let b = begins d (Whole Identifier) l g in let w = b.whole in
    word_literal d b.c b.rest (l ++ q ∷ t) (subst (λ z. is_string_prefix z ≡ true) w p) (subst (λ z. is_literal d z (l ++ q ∷ t) ≡ true) w h)

pub word_longest_run : (d : Dialect) (l rest : List ℕ) → Spells d (Whole Identifier) l → IsLongestHeld (AreUnits is_word_unit) l rest → (starts is_quote_mark rest ≡ true → begins_literal d (l ++ rest) ≡ false) → IsLongest d (Whole Identifier) l rest
word_longest_run d l rest spelled held none = record {
  spells = spelled;
  longest = λ k e more left w g. elim (word_kinds d k l e more spelled g (both_begin d (Whole Identifier) k l e more spelled g)) [
    | inl is ↦ held.longest e more left w (headed_units (l ++ e ∷ more) (subst (λ z. Spells d z (l ++ e ∷ more)) is g))
    | inr lit ↦ elim lit [
      | inl is ↦
          let i : Spells d (Whole CharConst) (l ++ e ∷ more) = subst (λ z. Spells d z (l ++ e ∷ more)) is g in
          longer_literal d l rest k e more left spelled held none w (char_goes d l e more spelled i) (λ quote.
          let found = constant_there d l more (more ++ left) left e spelled quote refl i in
          let prefix = char_is_string_prefix d l (and_parts (is_char_prefix d l) _ found.1).0 in
          let all : l ++ rest ≡ l ++ 39 ∷ (more ++ left) = ap (λ z. l ++ z) (w ∙ ap (λ z. z ∷ (more ++ left)) found.0) in
          subst (λ z. begins_literal d z ≡ true) (sym all) (literal_there d l (more ++ left) 39 spelled prefix (constant_at d l (more ++ left) found.1)))
      | inr is ↦
          let i : Spells d (Whole StringLit) (l ++ e ∷ more) = subst (λ z. Spells d z (l ++ e ∷ more)) is g in
          longer_literal d l rest k e more left spelled held none w (string_goes d l e more spelled i) (λ quote.
          let found = string_there d l more (more ++ left) left e spelled quote refl i in
          let prefix = (and_parts (is_string_prefix l) _ found.1).0 in
          let all : l ++ rest ≡ l ++ 34 ∷ (more ++ left) = ap (λ z. l ++ z) (w ∙ ap (λ z. z ∷ (more ++ left)) found.0) in
          subst (λ z. begins_literal d z ≡ true) (sym all) (literal_there d l (more ++ left) 34 spelled prefix (string_at d l (more ++ left) found.1)))
    ]
  ];
}

-- the run of a word whose first unit starts one
pub run_headed : (u t l rest : List ℕ) → is_letter_unit u ≡ true → l ++ rest ≡ u ++ t → IsLongestHeld (AreUnits is_word_unit) l rest → IsHeaded is_letter_unit is_word_unit l
run_headed u t l rest h w held = at held.holds.units held.holds.each held.holds.whole
  where
    some : (u : List ℕ) → is_letter_unit u ≡ true → l ≡ [] → rest ≡ u ++ t → ⊥
    some [] h n e = word_some (letter_is_word [] h)
    some (c ∷ u) h n e = held.longest c u t e (subst (λ z. AreUnits is_word_unit (z ++ c ∷ u)) (sym n) (subst (AreUnits is_word_unit) (append-nil (c ∷ u)) (onto is_word_unit (c ∷ u) [] (letter_is_word (c ∷ u) h) (nothing is_word_unit))))

    at : (vs : List (List ℕ)) → list_all is_word_unit vs ≡ true → l ≡ joined vs → IsHeaded is_letter_unit is_word_unit l
    at [] a e = absurd (some u h e (subst (λ z. z ++ rest ≡ u ++ t) e w))
    at (v ∷ vs) a e =
        let parts = and_parts (is_word_unit v) (list_all is_word_unit vs) a in
        elim (two_cuts v (joined vs ++ rest) u t (sym (append_assoc v (joined vs) rest) ∙ subst (λ z. z ++ rest ≡ u ++ t) e w)) [
          | inl same ↦ record { head = v; tail = joined vs; begins = subst (λ z. is_letter_unit z ≡ true) (sym same.front_is) h; goes_on = record { units = vs; each = parts.1; whole = refl }; whole = e }
          | inr on ↦ elim on [
            | inl g ↦ absurd (word_alone v g.c g.more parts.0 (subst (λ z. is_word_unit z ≡ true) g.front_is (letter_is_word u h)))
            | inr g ↦ absurd (word_alone u g.c g.more (letter_is_word u h) (subst (λ z. is_word_unit z ≡ true) g.front_is parts.0))
          ]
        ]

quoted_no : (s p : List ℕ) (q : ℕ) → starts_with nat_eq s p ≡ false → false ≡ starts_with nat_eq s (p ++ q ∷ [])
quoted_no s p q h = subst (λ b. (b && starts_with nat_eq (drop (length p) s) (q ∷ [])) ≡ starts_with nat_eq s (p ++ q ∷ [])) h (quoted_front p q s)

-- the prefixes
u8_prefix : (d : Dialect) → is_string_prefix (codes "u8") ≡ true
unfolding is_string_prefix
u8_prefix d = refl

pub u8_in_c23 : true ≡ is_char_prefix C23 (codes "u8")
unfolding is_char_prefix
u8_in_c23 = refl

pub u8_in_c11 : false ≡ is_char_prefix C11 (codes "u8")
unfolding is_char_prefix
u8_in_c11 = refl

-- a letter that is a prefix of both
both_prefixes : (d : Dialect) (c : ℕ) → is_of (codes "LuU") c ≡ true → (is_string_prefix (c ∷ []) ≡ true) × (true ≡ is_char_prefix d (c ∷ []))
unfolding is_char_prefix is_string_prefix
both_prefixes d c h = elim (or_cases (76 == c) ((117 == c) || ((85 == c) || false)) h) [
  | inl y ↦ let e : c ≡ 76 = sym (eqb-true 76 c y) in subst (λ k. (is_string_prefix (k ∷ []) ≡ true) × (true ≡ is_char_prefix d (k ∷ []))) (sym e) (at_L d)
  | inr z ↦ elim (or_cases (117 == c) ((85 == c) || false) z) [
    | inl y ↦ let e : c ≡ 117 = sym (eqb-true 117 c y) in subst (λ k. (is_string_prefix (k ∷ []) ≡ true) × (true ≡ is_char_prefix d (k ∷ []))) (sym e) (at_u d)
    | inr w ↦ elim (or_cases (85 == c) false w) [
      | inl y ↦ let e : c ≡ 85 = sym (eqb-true 85 c y) in subst (λ k. (is_string_prefix (k ∷ []) ≡ true) × (true ≡ is_char_prefix d (k ∷ []))) (sym e) (at_U d)
      | inr y ↦ cc
    ]
  ]
]
  where
    at_L : (d : Dialect) → (is_string_prefix (codes "L") ≡ true) × (true ≡ is_char_prefix d (codes "L"))
    at_L C11 = (refl, refl)
    at_L C23 = (refl, refl)

    at_u : (d : Dialect) → (is_string_prefix (codes "u") ≡ true) × (true ≡ is_char_prefix d (codes "u"))
    at_u C11 = (refl, refl)
    at_u C23 = (refl, refl)

    at_U : (d : Dialect) → (is_string_prefix (codes "U") ≡ true) × (true ≡ is_char_prefix d (codes "U"))
    at_U C11 = (refl, refl)
    at_U C23 = (refl, refl)

-- no prefix makes a literal
no_literal : (d : Dialect) (s : List ℕ) → is_literal d (codes "L") s ≡ false → is_literal d (codes "u") s ≡ false → is_literal d (codes "U") s ≡ false → is_literal d (codes "u8") s ≡ false → begins_literal d s ≡ false
no_literal d s a b c e = four (is_literal d (codes "L") s) (is_literal d (codes "u") s) (is_literal d (codes "U") s) (is_literal d (codes "u8") s) a b c e
  where
    four : (a b c e : Bool) → a ≡ false → b ≡ false → c ≡ false → e ≡ false → (a || (b || (c || (e || false)))) ≡ false
    four a b c e h i j k = rw (h, i, j, k) refl

-- a string literal isn't a character constant
one_quote : (p s : List ℕ) → starts_with nat_eq s (p ++ 34 ∷ []) ≡ true → starts_with nat_eq s (p ++ 39 ∷ []) ≡ false
one_quote [] [] h = refl
one_quote [] (c ∷ s) h = let e : 34 ≡ c = eqb-true 34 c (and_parts (34 == c) true h).0 in subst (λ k. starts_with nat_eq (k ∷ s) (39 ∷ []) ≡ false) e refl
one_quote (a ∷ p) [] h = refl
one_quote (a ∷ p) (c ∷ s) h = let parts = and_parts (a == c) (starts_with nat_eq s (p ++ 34 ∷ [])) h in let first = parts.0 in rw first (one_quote p s parts.1)

-- the string literal with this prefix, where its quotation mark stands behind it
string_cut_off : (x : Coming) (p : List ℕ) (o : Option (ItemKind × Coming)) → is_string_prefix p ≡ true → starts_with nat_eq (bytes_of x.chars) (p ++ 34 ∷ []) ≡ true →
    MatchOption o (IsFalse (closes_quote 34 false (drop (length p + 1) (bytes_of x.chars)))) (λ r. IsClosed StringLit 34 (behind x (length p + 1)) r.1 r.0) →
    MatchOption o (IsFalse (is_literal x.dialect p (bytes_of x.chars))) (λ r. IsCutOff x r.1 r.0)
string_cut_off x p None prefix begins m =
    let apart = one_quote p (bytes_of x.chars) begins in
    let char = and_right (is_char_prefix x.dialect p) (is_constant_at p (bytes_of x.chars)) (rw apart refl) in
    rw (begins, m) char
string_cut_off x p (Some r) prefix begins m = subst (λ k. IsCutOff x r.1 k) (sym m.kind_is) (string_off x (behind x (length p + 1)) r.1 p prefix begins refl m.left_is m.closed)

-- the character constant
char_cut_off : (x : Coming) (p : List ℕ) (o : Option (ItemKind × Coming)) → is_char_prefix x.dialect p ≡ true → starts_with nat_eq (bytes_of x.chars) (p ++ 34 ∷ []) ≡ false →
    (starts_with nat_eq (bytes_of x.chars) (p ++ 39 ∷ []) && not (starts (λ c. c == 39) (drop (length p + 1) (bytes_of x.chars)))) ≡ true →
    MatchOption o (IsFalse (closes_quote 39 false (drop (length p + 1) (bytes_of x.chars)))) (λ r. IsClosed CharConst 39 (behind x (length p + 1)) r.1 r.0) →
    MatchOption o (IsFalse (is_literal x.dialect p (bytes_of x.chars))) (λ r. IsCutOff x r.1 r.0)
char_cut_off x p None prefix string begins m =
    let parts = and_parts (starts_with nat_eq (bytes_of x.chars) (p ++ 39 ∷ [])) (not (starts (λ c. c == 39) (drop (length p + 1) (bytes_of x.chars)))) begins in
    let first = parts.0 in let some = parts.1 in
    rw (string, prefix, first, some, m) refl
char_cut_off x p (Some r) prefix string begins m =
    let parts = and_parts (starts_with nat_eq (bytes_of x.chars) (p ++ 39 ∷ [])) (not (starts (λ c. c == 39) (drop (length p + 1) (bytes_of x.chars)))) begins in
    subst (λ k. IsCutOff x r.1 k) (sym m.kind_is) (char_off x (behind x (length p + 1)) r.1 p prefix parts.0 (not-true _ parts.1) refl m.left_is m.closed)

-- neither
no_literal_with : (d : Dialect) (p s : List ℕ) → starts_with nat_eq s (p ++ 34 ∷ []) ≡ false → (is_char_prefix d p && (starts_with nat_eq s (p ++ 39 ∷ []) && not (starts (λ c. c == 39) (drop (length p + 1) s)))) ≡ false → is_literal d p s ≡ false
no_literal_with d p s string char = rw string (at (is_char_prefix d p) (starts_with nat_eq s (p ++ 39 ∷ [])) (not (starts (λ c. c == 39) (drop (length p + 1) s))) (closes_quote 39 false (drop (length p + 1) s)) char)
  where
    at : (a b c e : Bool) → (a && (b && c)) ≡ false → (a && (b && (c && e))) ≡ false
    at false b c e h = refl
    at true false c e h = refl
    at true true false e h = refl
    at true true true e h = cc

-- The prefix that begins a text, and the literals that have it.
pub record HasPrefix (d : Dialect) (s : List ℕ) (n : ℕ) : Type 0 where
  pub p : List ℕ
  pub len : length p ≡ n
  pub begins : starts_with nat_eq s p ≡ true
  pub string : is_string_prefix p ≡ true
  pub char : is_char_prefix d p ≡ (n == 1 || is_char_prefix d (codes "u8"))
  pub only : begins_literal d s ≡ is_literal d p s

apart_quotes : (d : Dialect) (p s : List ℕ) → starts_with nat_eq s (p ++ 34 ∷ []) ≡ false → starts_with nat_eq s (p ++ 39 ∷ []) ≡ false → is_literal d p s ≡ false
apart_quotes d p s a b = rw (a, b) (and_right (is_char_prefix d p) false refl)

apart : (d : Dialect) (p s : List ℕ) → starts_with nat_eq s p ≡ false → is_literal d p s ≡ false
apart d p s h = apart_quotes d p s (sym (quoted_no s p 34 h)) (sym (quoted_no s p 39 h))

or_none : (x : Bool) → (x || false) ≡ x
or_none true = refl
or_none false = refl

first_only : (x a b c : Bool) → a ≡ false → b ≡ false → c ≡ false → (x || (a || (b || (c || false)))) ≡ x
first_only x a b c h i j = rw (h, i, j) (or_none x)

second_only : (x a b c : Bool) → a ≡ false → b ≡ false → c ≡ false → (a || (x || (b || (c || false)))) ≡ x
second_only x a b c h i j = rw (h, i, j) (or_none x)

third_only : (x a b c : Bool) → a ≡ false → b ≡ false → c ≡ false → (a || (b || (x || (c || false)))) ≡ x
third_only x a b c h i j = rw (h, i, j) (or_none x)

last_only : (x a b c : Bool) → a ≡ false → b ≡ false → c ≡ false → (a || (b || (c || (x || false)))) ≡ x
last_only x a b c h i j = rw (h, i, j) (or_none x)

has_L : (d : Dialect) (t : List ℕ) → HasPrefix d (76 ∷ t) 1
has_L d t = record {
  p = codes "L";
  len = refl;
  begins = refl;
  string = (both_prefixes d 76 refl).0;
  char = sym (both_prefixes d 76 refl).1;
  only = first_only (is_literal d (codes "L") (76 ∷ t)) (is_literal d (codes "u") (76 ∷ t)) (is_literal d (codes "U") (76 ∷ t)) (is_literal d (codes "u8") (76 ∷ t))
      (apart d (codes "u") (76 ∷ t) refl) (apart d (codes "U") (76 ∷ t) refl) (apart d (codes "u8") (76 ∷ t) refl);
}

has_u : (d : Dialect) (t : List ℕ) → starts_with nat_eq (117 ∷ t) (codes "u8") ≡ false → HasPrefix d (117 ∷ t) 1
has_u d t n = record {
  p = codes "u";
  len = refl;
  begins = refl;
  string = (both_prefixes d 117 refl).0;
  char = sym (both_prefixes d 117 refl).1;
  only = second_only (is_literal d (codes "u") (117 ∷ t)) (is_literal d (codes "L") (117 ∷ t)) (is_literal d (codes "U") (117 ∷ t)) (is_literal d (codes "u8") (117 ∷ t))
      (apart d (codes "L") (117 ∷ t) refl) (apart d (codes "U") (117 ∷ t) refl) (apart d (codes "u8") (117 ∷ t) n);
}

has_U : (d : Dialect) (t : List ℕ) → HasPrefix d (85 ∷ t) 1
has_U d t = record {
  p = codes "U";
  len = refl;
  begins = refl;
  string = (both_prefixes d 85 refl).0;
  char = sym (both_prefixes d 85 refl).1;
  only = third_only (is_literal d (codes "U") (85 ∷ t)) (is_literal d (codes "L") (85 ∷ t)) (is_literal d (codes "u") (85 ∷ t)) (is_literal d (codes "u8") (85 ∷ t))
      (apart d (codes "L") (85 ∷ t) refl) (apart d (codes "u") (85 ∷ t) refl) (apart d (codes "u8") (85 ∷ t) refl);
}

has_u8 : (d : Dialect) (t : List ℕ) → HasPrefix d (117 ∷ 56 ∷ t) 2
has_u8 d t = record {
  p = codes "u8";
  len = refl;
  begins = refl;
  string = u8_prefix d;
  char = refl;
  only = last_only (is_literal d (codes "u8") (117 ∷ 56 ∷ t)) (is_literal d (codes "L") (117 ∷ 56 ∷ t)) (is_literal d (codes "u") (117 ∷ 56 ∷ t)) (is_literal d (codes "U") (117 ∷ 56 ∷ t))
      (apart d (codes "L") (117 ∷ 56 ∷ t) refl) (apart_quotes d (codes "u") (117 ∷ 56 ∷ t) refl refl) (apart d (codes "U") (117 ∷ 56 ∷ t) refl);
}

has_letter : (d : Dialect) (s : List ℕ) → starts_with nat_eq s (codes "u8") ≡ false → starts (is_of (codes "LuU")) s ≡ true → HasPrefix d s 1
has_letter d [] n h = cc
has_letter d (c ∷ t) n h = elim (or_cases (76 == c) ((117 == c) || ((85 == c) || false)) h) [
  | inl y ↦ subst (λ k. HasPrefix d (k ∷ t) 1) (eqb-true 76 c y) (has_L d t)
  | inr z ↦ elim (or_cases (117 == c) ((85 == c) || false) z) [
    | inl y ↦ let e = eqb-true 117 c y in subst (λ k. HasPrefix d (k ∷ t) 1) e (has_u d t (subst (λ k. starts_with nat_eq (k ∷ t) (codes "u8") ≡ false) (sym e) n))
    | inr w ↦ elim (or_cases (85 == c) false w) [
      | inl y ↦ subst (λ k. HasPrefix d (k ∷ t) 1) (eqb-true 85 c y) (has_U d t)
      | inr y ↦ cc
    ]
  ]
]

pub prefix_there : (d : Dialect) (s : List ℕ) (n : ℕ) → n ≡ prefix_len s → (n ≡ 0 → ⊥) → HasPrefix d s n
prefix_there d s n e some = elim (cases_Bool (starts_with nat_eq s (codes "u8"))) [
  | inl y ↦
      let len : prefix_len s ≡ 2 = rw y refl in
      subst (λ k. HasPrefix d s k) (sym (e ∙ len)) (subst (λ z. HasPrefix d z 2) (sym (two_first 117 56 s y)) (has_u8 d (drop 2 s)))
  | inr n8 ↦ elim (cases_Bool (starts (is_of (codes "LuU")) s)) [
    | inl y ↦ let len : prefix_len s ≡ 1 = rw (n8, y) refl in subst (λ k. HasPrefix d s k) (sym (e ∙ len)) (has_letter d s n8 y)
    | inr none ↦ let len : prefix_len s ≡ 0 = rw (n8, none) refl in absurd (some (e ∙ len))
  ]
]

pub prefix_none : (d : Dialect) (s : List ℕ) → 0 ≡ prefix_len s → begins_literal d s ≡ false
prefix_none d s e = elim (cases_Bool (starts_with nat_eq s (codes "u8"))) [
  | inl y ↦ let len : prefix_len s ≡ 2 = rw y refl in absurd (omega (arith, e, len))
  | inr n8 ↦ elim (cases_Bool (starts (is_of (codes "LuU")) s)) [
    | inl y ↦ let len : prefix_len s ≡ 1 = rw (n8, y) refl in absurd (omega (arith, e, len))
    | inr none ↦ no_literal d s (apart d (codes "L") s (other 76 s none refl)) (apart d (codes "u") s (other 117 s none refl)) (apart d (codes "U") s (other 85 s none refl)) (apart d (codes "u8") s n8)
  ]
]
  where
    other : (a : ℕ) (s : List ℕ) → starts (is_of (codes "LuU")) s ≡ false → is_of (codes "LuU") a ≡ true → starts_with nat_eq s (a ∷ []) ≡ false
    other a [] none is = refl
    other a (c ∷ s) none is =
        let differ : (a == c) ≡ false = ne_eqb a c (λ z. both_ways (is_of (codes "LuU") c) none (subst (λ k. is_of (codes "LuU") k ≡ true) z is)) in
        rw differ refl

-- the quote behind a prefix
quote_test : (s p : List ℕ) (n q b : ℕ) → length p ≡ n → starts_with nat_eq s p ≡ true → (q == 0) ≡ false → b ≡ get_or s n 0 → starts_with nat_eq s (p ++ q ∷ []) ≡ (q == b)
quote_test s p n q b len begins some byte =
    sym (quoted_front p q s)
    ∙ (ap (λ z. z && starts_with nat_eq (drop (length p) s) (q ∷ [])) begins
    ∙ (ap (λ k. starts_with nat_eq (drop k s) (q ∷ [])) len ∙ (one (drop n s) ∙ (sym (begins_at (λ k. q == k) s n some) ∙ ap (λ k. q == k) (sym byte)))))
  where
    one : (t : List ℕ) → starts_with nat_eq t (q ∷ []) ≡ starts (λ k. q == k) t
    one [] = refl
    one (c ∷ t) = elim (cases_Bool (q == c)) [ inl y ↦ rw y refl | inr n ↦ rw n refl ]

pub prefixed_string : (x : Coming) (o : Option (ItemKind × Coming)) (n b : ℕ) → HasPrefix x.dialect (bytes_of x.chars) n → b ≡ get_or (bytes_of x.chars) n 0 → b ≡ 34 →
    MatchOption o (IsFalse (closes_quote 34 false (drop (n + 1) (bytes_of x.chars)))) (λ r. IsClosed StringLit 34 (behind x (n + 1)) r.1 r.0) →
    MatchOption o (IsFalse (begins_literal x.dialect (bytes_of x.chars))) (λ r. IsCutOff x r.1 r.0)
prefixed_string x o n b has byte is m =
    let begins = quote_test (bytes_of x.chars) has.p n 34 b has.len has.begins refl byte ∙ eq-eqb 34 b (sym is) in
    subst (λ z. MatchOption o (IsFalse z) (λ r. IsCutOff x r.1 r.0)) (sym has.only)
    (string_cut_off x has.p o has.string begins
    (subst (λ k. MatchOption o (IsFalse (closes_quote 34 false (drop (k + 1) (bytes_of x.chars)))) (λ r. IsClosed StringLit 34 (behind x (k + 1)) r.1 r.0)) (sym has.len) m))

pub prefixed_char : (x : Coming) (o : Option (ItemKind × Coming)) (n b : ℕ) → HasPrefix x.dialect (bytes_of x.chars) n → b ≡ get_or (bytes_of x.chars) n 0 → b ≡ 39 →
    ((n == 1 || is_char_prefix x.dialect (codes "u8")) && not (starts (λ c. c == 39) (drop (n + 1) (bytes_of x.chars)))) ≡ true →
    MatchOption o (IsFalse (closes_quote 39 false (drop (n + 1) (bytes_of x.chars)))) (λ r. IsClosed CharConst 39 (behind x (n + 1)) r.1 r.0) →
    MatchOption o (IsFalse (begins_literal x.dialect (bytes_of x.chars))) (λ r. IsCutOff x r.1 r.0)
prefixed_char x o n b has byte is constant m =
    let parts = and_parts (n == 1 || is_char_prefix x.dialect (codes "u8")) (not (starts (λ c. c == 39) (drop (n + 1) (bytes_of x.chars)))) constant in
    let string = quote_test (bytes_of x.chars) has.p n 34 b has.len has.begins refl byte ∙ ap (λ k. 34 == k) is in
    let first = quote_test (bytes_of x.chars) has.p n 39 b has.len has.begins refl byte ∙ eq-eqb 39 b (sym is) in
    let some = ap (λ k. not (starts (λ c. c == 39) (drop (k + 1) (bytes_of x.chars)))) has.len ∙ parts.1 in
    subst (λ z. MatchOption o (IsFalse z) (λ r. IsCutOff x r.1 r.0)) (sym has.only)
    (char_cut_off x has.p o (has.char ∙ parts.0) string (and_from (starts_with nat_eq (bytes_of x.chars) (has.p ++ 39 ∷ [])) (not (starts (λ c. c == 39) (drop (length has.p + 1) (bytes_of x.chars)))) first some)
    (subst (λ k. MatchOption o (IsFalse (closes_quote 39 false (drop (k + 1) (bytes_of x.chars)))) (λ r. IsClosed CharConst 39 (behind x (k + 1)) r.1 r.0)) (sym has.len) m))

-- no quote, or no constant
pub prefixed_none : (d : Dialect) (s : List ℕ) (n b : ℕ) → HasPrefix d s n → b ≡ get_or s n 0 → (b ≡ 34 → ⊥) →
    ((b ≡ 39 → ⊥) ⊎ (((n == 1 || is_char_prefix d (codes "u8")) && not (starts (λ c. c == 39) (drop (n + 1) s))) ≡ false)) → begins_literal d s ≡ false
prefixed_none d s n b has byte string char =
    let apart_string = quote_test s has.p n 34 b has.len has.begins refl byte ∙ ne_eqb 34 b (λ e. string (sym e)) in
    has.only ∙ no_literal_with d has.p s apart_string (elim char [
      | inl other ↦
          let first = quote_test s has.p n 39 b has.len has.begins refl byte ∙ ne_eqb 39 b (λ e. other (sym e)) in
          ap (λ z. is_char_prefix d has.p && (z && not (starts (λ c. c == 39) (drop (length has.p + 1) s)))) first ∙ and_right (is_char_prefix d has.p) false refl
      | inr none ↦
          no_both (is_char_prefix d has.p) (starts_with nat_eq s (has.p ++ 39 ∷ [])) (not (starts (λ c. c == 39) (drop (length has.p + 1) s)))
          (ap (λ z. z && not (starts (λ c. c == 39) (drop (length has.p + 1) s))) has.char
          ∙ (ap (λ k. (n == 1 || is_char_prefix d (codes "u8")) && not (starts (λ c. c == 39) (drop (k + 1) s))) has.len ∙ none))
    ])
  where
    no_both : (a b c : Bool) → (a && c) ≡ false → (a && (b && c)) ≡ false
    no_both false b c h = refl
    no_both true false c h = refl
    no_both true true c h = h
