-- Characters past ASCII, in UTF-8.
use Rattle.std.proofs.Common.{◌≡◌, ◌&&◌, ℕ, ◌+◌, ◌/◌, ◌%◌, ◌≤◌, Bool, true, false, List, [], ◌∷◌, ◌++◌, refl, sym, ◌∙◌, ap, subst, arith, inl, inr}
use Rattle.std.specs.Prelude.{nat_le, nat_lt}
use Rattle.std.specs.List.{list_all}
use Rattle.std.specs.Str.{is_utf8, IsUtf8, chars, encode_utf8_all}
use Rattle.std.specs.Char.{encode_utf8}
use Rattle.std.proofs.lemmas.Bool.{and_parts, leb-true, cases_lt, lt-ltb, le-ltb}
use Rattle.std.proofs.lemmas.Bool.Decides.{nat_tests}
use Rattle.std.proofs.lemmas.List.{append-nil}
use Rattle.std.proofs.lemmas.Str.{IsUtf8-from_is_utf8, encodes-chars, chars-append, IsUtf8-past_char}
use Rattle.c_grammar.specs.Grammar.{is_one, is_wide}

-- past ASCII
abbrev pub is_high : ℕ → Bool
is_high c = nat_le 128 c

-- the one character of these bytes
pub record IsWide (p : ℕ → Bool) (u : List ℕ) : Type 0 where
  pub code : ℕ
  pub past : nat_le 128 code ≡ true
  pub passes : p code ≡ true
  pub utf8 : IsUtf8 u
  pub decoded : chars u ≡ code ∷ []

pub wide_parts : (p : ℕ → Bool) (u : List ℕ) → is_wide p u ≡ true → IsWide p u
unfolding is_wide
wide_parts p u h =
    let parts = and_parts (is_utf8 u) (is_one (λ c. nat_le 128 c && p c) (chars u)) h in
    one_char (chars u) refl parts.0 parts.1
  where
    one_char : (cs : List ℕ) → chars u ≡ cs → is_utf8 u ≡ true → is_one (λ c. nat_le 128 c && p c) cs ≡ true → IsWide p u
    one_char [] e t h = cc
    one_char (c ∷ []) e t h =
        let both = and_parts (nat_le 128 c) (p c) h in
        record { code = c; past = both.0; passes = both.1; utf8 = IsUtf8-from_is_utf8 u t; decoded = e }
    one_char (c ∷ f ∷ cs) e t h = cc

pub wide_bytes : (p : ℕ → Bool) (u : List ℕ) → (h : IsWide p u) → u ≡ encode_utf8 h.code
wide_bytes p u h = sym (encodes-chars u h.utf8) ∙ (ap encode_utf8_all h.decoded ∙ append-nil (encode_utf8 h.code))

-- two bytes or more, all of them past ASCII
pub record AreHigh (u : List ℕ) : Type 0 where
  pub first : ℕ
  pub second : ℕ
  pub rest : List ℕ
  pub whole : u ≡ first ∷ second ∷ rest
  pub high : list_all is_high u ≡ true

pub high_first : (u : List ℕ) → (h : AreHigh u) → is_high h.first ≡ true
high_first u h = (and_parts (is_high h.first) (list_all is_high (h.second ∷ h.rest)) (subst (λ z. list_all is_high z ≡ true) h.whole h.high)).0

high_encode : (c : ℕ) → 128 ≤ c → AreHigh (encode_utf8 c)
unfolding encode_utf8
high_encode c h =
    let one : nat_lt c 128 ≡ false = le-ltb c 128 h in
    elim (cases_lt c 2048) [
      | inl below ↦ let two = lt-ltb c 2048 below in rw (one, two) (record { first = 192 + c / 64; second = 128 + c % 64; rest = []; whole = refl; high = grind (arith, nat_tests) })
      | inr past ↦
          let two = le-ltb c 2048 past in
          elim (cases_lt c 65536) [
            | inl below ↦ let three = lt-ltb c 65536 below in rw (one, two, three) (record { first = 224 + c / 4096; second = 128 + (c / 64) % 64; rest = (128 + c % 64) ∷ []; whole = refl; high = grind (arith, nat_tests) })
            | inr over ↦ let three = le-ltb c 65536 over in rw (one, two, three) (record { first = 240 + c / 262144; second = 128 + (c / 4096) % 64; rest = (128 + (c / 64) % 64) ∷ (128 + c % 64) ∷ []; whole = refl; high = grind (arith, nat_tests) })
          ]
    ]

pub wide_high : (p : ℕ → Bool) (u : List ℕ) → is_wide p u ≡ true → AreHigh u
wide_high p u h =
    let w = wide_parts p u h in
    subst AreHigh (sym (wide_bytes p u w)) (high_encode w.code (leb-true 128 w.code w.past))

-- no character is the front of another
pub wide_alone : (p q : ℕ → Bool) (u t : List ℕ) → is_wide p u ≡ true → is_wide q (u ++ t) ≡ true → t ≡ []
wide_alone p q u t g h =
    let a = wide_parts p u g in
    let b = wide_parts q (u ++ t) h in
    let both : a.code ∷ chars t ≡ b.code ∷ [] = sym (chars-append u t a.utf8 ∙ ap (λ z. z ++ chars t) a.decoded) ∙ b.decoded in
    let none : chars t ≡ [] = cc in
    let rest : IsUtf8 t = IsUtf8-past_char (u ++ t) t a.code b.utf8 (ap (λ z. z ++ t) (wide_bytes p u a)) in
    sym (encodes-chars t rest) ∙ ap encode_utf8_all none

-- one character passes both
pub wide_both : (p q : ℕ → Bool) (u : List ℕ) → is_wide p u ≡ true → is_wide q u ≡ true → (c : ℕ) × (p c ≡ true) × (q c ≡ true)
wide_both p q u g h =
    let a = wide_parts p u g in
    let b = wide_parts q u h in
    let both : a.code ∷ [] ≡ b.code ∷ [] = sym a.decoded ∙ b.decoded in
    let same : b.code ≡ a.code = cc in
    (a.code, a.passes, subst (λ z. q z ≡ true) same b.passes)
