-- What the first byte of a text tells.
use Rattle.std.proofs.Common.{◌≡◌, ◌==◌, ◌&&◌, ◌||◌, ℕ, Bool, true, false, List, [], ◌∷◌, drop, get_or, nat_eq, suc, zero, refl, sym, ◌∙◌, ap, subst, inl, inr}
use Rattle.std.specs.Prelude.{IfNone, IfSome, Option, Some, None, slice_get}
use Rattle.std.specs.List.{starts_with}
use Rattle.std.proofs.lemmas.Bool.{and_right, eq-eqb, ne_eqb, cases_Bool}
use Rattle.c_chars.specs.Characters.{bytes_of}
use Rattle.c_chars.specs.declared.LogicalChar.{LogicalChar}
use Rattle.c_grammar.specs.Touch.{starts}
use Rattle.c_grammar.specs.Bytes.{is_beyond, is_quote_mark, IsFirst}
use Rattle.c_chars.specs.Coming.{Coming}
use Rattle.c_chars.specs.declared.Dialect.{Dialect}
use Rattle.c_chars.specs.declared.Dialect.TheVariants.{C11, C23}
use Rattle.c_grammar.specs.Grammar.{is_digit, is_exponent, is_letter, is_sign}
use Rattle.c_lexer.specs.Unit.{begins_pair, is_pair, is_single}
use Rattle.c_lexer.specs.Run.{begins_long, begins_number, goes_on_long}
use Rattle.c_lexer.proofs.Numbers.{head_len}
use Rattle.c_lexer.proofs.Puncts.{may_be_long}

pub first_there : (s : List LogicalChar) (c : LogicalChar) → slice_get s 0 ≡ Some c → IsFirst c.byte (bytes_of s)
first_there [] c h = cc
first_there (e ∷ s) c h = let same : e ≡ c = cc in record { rest = bytes_of s; whole = ap (λ z. z.byte ∷ bytes_of s) same }

pub starts_so : (p : ℕ → Bool) (c : ℕ) (s : List ℕ) (b : Bool) → IsFirst c s → p c ≡ b → starts p s ≡ b
starts_so p c s b f h = ap (λ z. starts p z) f.whole ∙ h

pub second_there : (p : ℕ → Bool) (s : List LogicalChar) (c : LogicalChar) → slice_get s 1 ≡ Some c → starts p (drop 1 (bytes_of s)) ≡ p c.byte
second_there p [] c h = cc
second_there p (a ∷ []) c h = cc
second_there p (a ∷ e ∷ s) c h = let same : e ≡ c = cc in ap (λ z. p z.byte) same

pub second_missing : (p : ℕ → Bool) (s : List LogicalChar) → slice_get s 1 ≡ None → starts p (drop 1 (bytes_of s)) ≡ false
second_missing p [] h = refl
second_missing p (a ∷ []) h = refl
second_missing p (a ∷ e ∷ s) h = cc

-- the byte at an index
pub at_there : (s : List LogicalChar) (n : ℕ) (c : LogicalChar) → slice_get s n ≡ Some c → c.byte ≡ get_or (bytes_of s) n 0
at_there [] n c h = cc
at_there (e ∷ s) zero c h = let same : e ≡ c = cc in sym (ap (λ z. z.byte) same)
at_there (e ∷ s) (suc n) c h = at_there s n c h

pub at_missing : (s : List LogicalChar) (n : ℕ) → slice_get s n ≡ None → 0 ≡ get_or (bytes_of s) n 0
at_missing [] n h = refl
at_missing (e ∷ s) zero h = cc
at_missing (e ∷ s) (suc n) h = at_missing s n h

-- what holds of no 0 holds of the byte at an index where a character begins that it holds of
pub begins_at : (p : ℕ → Bool) (s : List ℕ) (n : ℕ) → p 0 ≡ false → p (get_or s n 0) ≡ starts p (drop n s)
begins_at p [] zero none = none
begins_at p [] (suc n) none = none
begins_at p (c ∷ s) zero none = refl
begins_at p (c ∷ s) (suc n) none = begins_at p s n none

pub stopped : (p : ℕ → Bool) (s : List LogicalChar) (b : ℕ) → b ≡ get_or (bytes_of s) 0 0 → p b ≡ false → starts p (bytes_of s) ≡ false
stopped p [] b e h = refl
stopped p (c ∷ s) b e h = subst (λ k. p k ≡ false) e h

-- a step over a character whose byte was seen
pub stepped : (p : ℕ → Bool) (v : Bool) (old new : Coming) (b : ℕ) (o : Option LogicalChar) → b ≡ get_or (bytes_of old.chars) 0 0 → p b ≡ v → IfSome o (λ c. (old.chars ≡ c ∷ new.chars) × (new.at ≡ c.to))
    → IfSome o (λ c. (old.chars ≡ c ∷ new.chars) × (new.at ≡ c.to) × (p c.byte ≡ v))
stepped p v old new b None e h m = m
stepped p v old new b (Some c) e h m = (m.0, m.1, subst (λ k. p k ≡ v) (e ∙ ap (λ z. get_or (bytes_of z) 0 0) m.0) h)

pub at_end : (p : ℕ → Bool) (old new : Coming) (o : Option LogicalChar) → IfNone o ((old.chars ≡ []) × (new ≡ old)) → IfNone o ((starts p (bytes_of old.chars) ≡ false) × (new ≡ old))
at_end p old new None m = (ap (λ z. starts p (bytes_of z)) m.0, m.1)
at_end p old new (Some c) m = m

-- the first two bytes
two_so : (a b c : ℕ) (s : List ℕ) → IsFirst c s → starts_with nat_eq s (a ∷ b ∷ []) ≡ ((a == c) && starts (λ e. b == e) (drop 1 s))
two_so a b c s f = subst (λ z. starts_with nat_eq z (a ∷ b ∷ []) ≡ ((a == c) && starts (λ e. b == e) (drop 1 z))) (sym f.whole) (at f.rest)
  where
    at : (t : List ℕ) → starts_with nat_eq (c ∷ t) (a ∷ b ∷ []) ≡ ((a == c) && starts (λ e. b == e) t)
    at [] = refl
    at (e ∷ t) = elim (cases_Bool (b == e)) [ inl y ↦ rw y refl | inr n ↦ rw n refl ]

pub two_apart : (a b c : ℕ) (s : List ℕ) → IsFirst c s → (c ≡ a → ⊥) → false ≡ starts_with nat_eq s (a ∷ b ∷ [])
two_apart a b c s f n = let apart : (a == c) ≡ false = ne_eqb a c (λ e. n (sym e)) in sym (two_so a b c s f ∙ rw apart refl)

pub two_there : (a b c : ℕ) (s : List LogicalChar) (e : LogicalChar) → IsFirst c (bytes_of s) → c ≡ a → slice_get s 1 ≡ Some e → (b == e.byte) ≡ starts_with nat_eq (bytes_of s) (a ∷ b ∷ [])
two_there a b c s e f h g =
    let same : (a == c) ≡ true = eq-eqb a c (sym h) in
    sym (two_so a b c (bytes_of s) f ∙ (ap (λ z. z && starts (λ k. b == k) (drop 1 (bytes_of s))) same ∙ second_there (λ k. b == k) s e g))

pub two_missing : (a b c : ℕ) (s : List LogicalChar) → IsFirst c (bytes_of s) → slice_get s 1 ≡ None → false ≡ starts_with nat_eq (bytes_of s) (a ∷ b ∷ [])
two_missing a b c s f g =
    sym (two_so a b c (bytes_of s) f ∙ (ap (λ z. (a == c) && z) (second_missing (λ k. b == k) s g) ∙ and_right (a == c) false refl))

-- one that begins no punctuator of two characters and more
pub stands_alone : (c : ℕ) (s : List ℕ) → IsFirst c s → begins_long c ≡ false → may_be_long s ≡ false
stands_alone c s f n = ap may_be_long f.whole ∙ at f.rest
  where
    at : (t : List ℕ) → may_be_long (c ∷ t) ≡ false
    at [] = refl
    at (e ∷ t) = rw n refl

-- one behind which no second character of a punctuator stands
pub no_second : (s : List ℕ) → starts goes_on_long (drop 1 s) ≡ false → may_be_long s ≡ false
no_second [] n = refl
no_second (c ∷ []) n = refl
no_second (c ∷ e ∷ s) n = and_right (begins_long c) (goes_on_long e) n

-- the head of a number
pub head_point : (c : ℕ) (s : List ℕ) → IsFirst c s → c ≡ 46 → 2 ≡ head_len s
unfolding is_digit
head_point c s f e = sym (ap head_len f.whole ∙ ap (λ k. head_len (k ∷ f.rest)) e)

pub head_digit : (c : ℕ) (s : List ℕ) → IsFirst c s → begins_number s ≡ true → (c ≡ 46 → ⊥) → 1 ≡ head_len s
head_digit c s f number n =
    let point = ne_eqb c 46 n in
    let digit : is_digit c ≡ true = digit_of (is_digit c) (starts is_digit f.rest) (subst (λ b. (is_digit c || (b && starts is_digit f.rest)) ≡ true) point (sym (ap begins_number f.whole) ∙ number)) in
    sym (ap head_len f.whole ∙ rw digit refl)
  where
    digit_of : (a b : Bool) → (a || (false && b)) ≡ true → a ≡ true
    digit_of true b h = refl
    digit_of false b h = h

-- the classes that 0 isn't of

digit_at : (s : List ℕ) (b : ℕ) → b ≡ get_or s 1 0 → is_digit b ≡ starts is_digit (drop 1 s)
unfolding is_digit
digit_at s b e = ap is_digit e ∙ begins_at is_digit s 1 refl

pub long_at : (s : List ℕ) (b : ℕ) → b ≡ get_or s 1 0 → goes_on_long b ≡ starts goes_on_long (drop 1 s)
unfolding goes_on_long
long_at s b e = ap goes_on_long e ∙ begins_at goes_on_long s 1 refl

pub quote_at : (s : List ℕ) (b : ℕ) → b ≡ get_or s 0 0 → is_quote_mark b ≡ starts is_quote_mark s
quote_at s b e = ap is_quote_mark e ∙ begins_at is_quote_mark s 0 refl

pub beyond_at : (s : List ℕ) (b : ℕ) → b ≡ get_or s 0 0 → is_beyond b ≡ starts is_beyond s
unfolding is_beyond
beyond_at s b e = ap is_beyond e ∙ begins_at is_beyond s 0 refl

pub single_at : (s : List ℕ) (b : ℕ) → b ≡ get_or s 0 0 → is_single b ≡ starts is_single s
unfolding is_letter is_digit
single_at s b e = ap is_single e ∙ begins_at is_single s 0 refl

no_first : (d : Dialect) (e : ℕ) → is_pair d 0 e ≡ false
unfolding is_exponent
no_first C11 e = refl
no_first C23 e = refl

no_next : (d : Dialect) (c : ℕ) → is_pair d c 0 ≡ false
unfolding is_sign is_letter is_digit
no_next C11 c = rw (and_right (is_exponent c) false refl) refl
no_next C23 c = rw (and_right (is_exponent c) false refl) (and_right (c == 39) false refl)

pub pair_at : (d : Dialect) (s : List ℕ) (b e : ℕ) → b ≡ get_or s 0 0 → e ≡ get_or s 1 0 → is_pair d b e ≡ begins_pair d s
pair_at d s b e first next = ap (λ k. is_pair d k e) first ∙ (ap (is_pair d (get_or s 0 0)) next ∙ at s)
  where
    at : (s : List ℕ) → is_pair d (get_or s 0 0) (get_or s 1 0) ≡ begins_pair d s
    at [] = no_first d 0
    at (c ∷ []) = no_next d c
    at (c ∷ e ∷ s) = refl

-- behind a point
pub point_number : (c : ℕ) (s : List ℕ) (b : ℕ) → IsFirst c s → is_digit c ≡ false → c ≡ 46 → b ≡ get_or s 1 0 → is_digit b ≡ begins_number s
point_number c s b f other point e =
    let same = eq-eqb c 46 point in
    digit_at s b e ∙ (ap (λ z. starts is_digit (drop 1 z)) f.whole ∙ sym (ap begins_number f.whole ∙ rw (other, same) refl))
