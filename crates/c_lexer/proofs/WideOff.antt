-- A character past ASCII, read from the characters of a text.
use Rattle.std.proofs.Common.{◌≡◌, ◌<◌, ◌≤◌, ℕ, zero, suc, ◌+◌, ◌/◌, Bool, true, false, List, [], ◌∷◌, ◌++◌, length, length-append, length-take-le, take, drop, sym, ◌∙◌, ap, subst, arith, inl, inr}
use Rattle.std.specs.Prelude.{Option, Some, None, slice_get, MatchOption, IsTrue, IsFalse, nat_lt}
use Rattle.std.specs.Char.{encode_utf8}
use Rattle.std.specs.Str.{continuation_len}
use Rattle.std.proofs.Math.Seq.{take-append_seam}
use Rattle.std.proofs.lemmas.Bool.{leb-true, cases_lt, lt-ltb, le-ltb, both_ways}
use Rattle.std.proofs.lemmas.Bool.Decides.{nat_tests}
use Rattle.std.proofs.lemmas.List.{take-append-drop, length-map}
use Rattle.c_chars.specs.Characters.{bytes_of}
use Rattle.c_chars.specs.Coming.{Coming, behind}
use Rattle.c_chars.specs.declared.LogicalChar.{LogicalChar}
use Rattle.c_grammar.specs.Grammar.{is_wide}
use Rattle.c_grammar.specs.Utf8.{any_char, only}
use Rattle.c_grammar.proofs.Wide.{wide_parts, wide_bytes, wide_high, wide_alone}
use Rattle.c_lexer.specs.Unit.{BeginsUnit, IsUnitOff}

-- how many bytes a character has whose first one is this
abbrev pub IsOfLen : List ℕ → Type 0
IsOfLen u = (f : ℕ) (v : List ℕ) → u ≡ f ∷ v → length u ≡ continuation_len f + 1

encode_len : (c : ℕ) → 128 ≤ c → IsOfLen (encode_utf8 c)
unfolding encode_utf8
encode_len c h =
    let one : nat_lt c 128 ≡ false = le-ltb c 128 h in
    elim (cases_lt c 2048) [
      | inl below ↦ let two = lt-ltb c 2048 below in rw (one, two) (λ f v e. let head : f ≡ 192 + c / 64 = cc in subst (λ z. 2 ≡ continuation_len z + 1) (sym head) (two_bytes (192 + c / 64) (omega (arith, below)) (omega arith)))
      | inr past ↦
          let two = le-ltb c 2048 past in
          elim (cases_lt c 65536) [
            | inl below ↦ let three = lt-ltb c 65536 below in rw (one, two, three) (λ f v e. let head : f ≡ 224 + c / 4096 = cc in subst (λ z. 3 ≡ continuation_len z + 1) (sym head) (three_bytes (224 + c / 4096) (omega (arith, below)) (omega arith)))
            | inr over ↦ let three = le-ltb c 65536 over in rw (one, two, three) (λ f v e. let head : f ≡ 240 + c / 262144 = cc in subst (λ z. 4 ≡ continuation_len z + 1) (sym head) (four_bytes (240 + c / 262144) (omega arith)))
          ]
    ]
  where
    two_bytes : (b : ℕ) → b < 224 → 128 ≤ b → 2 ≡ continuation_len b + 1
    two_bytes b h l = grind (arith, nat_tests)

    three_bytes : (b : ℕ) → b < 240 → 224 ≤ b → 3 ≡ continuation_len b + 1
    three_bytes b h l = grind (arith, nat_tests)

    four_bytes : (b : ℕ) → 240 ≤ b → 4 ≡ continuation_len b + 1
    four_bytes b l = grind (arith, nat_tests)

pub wide_len : (p : ℕ → Bool) (u : List ℕ) → is_wide p u ≡ true → IsOfLen u
wide_len p u h = let w = wide_parts p u h in subst IsOfLen (sym (wide_bytes p u w)) (encode_len w.code (leb-true 128 w.code w.past))

-- Bytes that are read one by one

pub take_next : (s : List LogicalChar) (i : ℕ) (c : LogicalChar) → slice_get s i ≡ Some c → (i + 1 ≤ length s) × (take (i + 1) (bytes_of s) ≡ take i (bytes_of s) ++ c.byte ∷ [])
take_next [] i c h = cc
take_next (e ∷ s) zero c h = let same : e ≡ c = cc in (omega arith, ap (λ z. z.byte ∷ []) same)
take_next (e ∷ s) (suc i) c h =
    let r = take_next s i c h in
    let within : i + 1 ≤ length s = r.0 in
    let one : suc i + 1 ≡ suc (i + 1) = omega arith in
    (omega arith, rw one (ap (λ z. e.byte ∷ z) r.1))

pub no_more : (s : List LogicalChar) (i : ℕ) → slice_get s i ≡ None → length s ≤ i
no_more [] i h = omega arith
no_more (e ∷ s) zero h = cc
no_more (e ∷ s) (suc i) h = let r = no_more s i h in omega arith

bytes_len : (s : List LogicalChar) → length (bytes_of s) ≡ length s
bytes_len s = length-map s (λ c. c.byte)

-- too few characters
pub too_few : (s : List LogicalChar) (len : ℕ) (i : ℕ) → i < len → slice_get s i ≡ None → (u rest : List ℕ) → bytes_of s ≡ u ++ rest → length u ≡ len → is_wide any_char u ≡ false
too_few s len i l h u rest w n =
    let most = no_more s i h in
    let all : length s ≡ length u + length rest = sym (bytes_len s) ∙ (ap length w ∙ length-append u rest) in
    absurd (omega (arith, most, all, l, n))

pub char_there : (s : List LogicalChar) (len : ℕ) (bs : List ℕ) (o : Option ℕ) → bs ≡ take len (bytes_of s) → len ≤ length s → MatchOption o (IsFalse (is_wide any_char bs)) (λ c. IsTrue (is_wide (only c) bs)) →
    MatchOption o ((u rest : List ℕ) → bytes_of s ≡ u ++ rest → length u ≡ len → IsFalse (is_wide any_char u)) (λ c. (len ≤ length s) × IsTrue (is_wide (only c) (take len (bytes_of s))))
char_there s len bs None e l m = λ u rest w n.
    let same : bs ≡ u = e ∙ (ap (λ k. take k (bytes_of s)) (sym n) ∙ (ap (λ z. take (length u) z) w ∙ take-append_seam u rest)) in
    subst (λ z. is_wide any_char z ≡ false) same m
char_there s len bs (Some c) e l m = (l, subst (λ z. is_wide (only c) z ≡ true) e m)

-- The next character

pub none_at_end : (x : Coming) → slice_get x.chars 0 ≡ None → BeginsUnit (is_wide any_char) (bytes_of x.chars) → ⊥
none_at_end x h b =
    let high = wide_high any_char b.unit b.passes in
    let most = no_more x.chars 0 h in
    let n : length x.chars ≡ length (high.first ∷ high.second ∷ high.rest) + length b.rest = sym (bytes_len x.chars) ∙ (ap length b.whole ∙ (length-append b.unit b.rest ∙ ap (λ z. length z + length b.rest) high.whole)) in
    omega (arith, most, n)

pub none_of_len : (x : Coming) (first : LogicalChar) (len : ℕ) → slice_get x.chars 0 ≡ Some first → len ≡ continuation_len first.byte + 1 →
    ((u rest : List ℕ) → bytes_of x.chars ≡ u ++ rest → length u ≡ len → IsFalse (is_wide any_char u)) → BeginsUnit (is_wide any_char) (bytes_of x.chars) → ⊥
none_of_len x first len h e none b =
    let high = wide_high any_char b.unit b.passes in
    let starts_so : bytes_of x.chars ≡ high.first ∷ ((high.second ∷ high.rest) ++ b.rest) = b.whole ∙ ap (λ z. z ++ b.rest) high.whole in
    let head = first_of x.chars first h high.first ((high.second ∷ high.rest) ++ b.rest) starts_so in
    let n : length b.unit ≡ len = wide_len any_char b.unit b.passes high.first (high.second ∷ high.rest) high.whole ∙ (ap (λ z. continuation_len z + 1) head ∙ sym e) in
    both_ways (is_wide any_char b.unit) (none b.unit b.rest b.whole n) b.passes
  where
    first_of : (s : List LogicalChar) (c : LogicalChar) → slice_get s 0 ≡ Some c → (f : ℕ) (v : List ℕ) → bytes_of s ≡ f ∷ v → f ≡ c.byte
    first_of [] c h f v e = cc
    first_of (g ∷ s) c h f v e = let same : g ≡ c = cc in let head : f ≡ g.byte = cc in head ∙ ap (λ z. z.byte) same

pub char_off : (x left : Coming) (c len : ℕ) → len ≤ length x.chars → is_wide (only c) (take len (bytes_of x.chars)) ≡ true → left ≡ behind x len → IsUnitOff (is_wide (only c)) x left
char_off x left c len l h e =
    let within : len ≤ length (bytes_of x.chars) = omega (arith, l, bytes_len x.chars) in
    record {
      front = take len (bytes_of x.chars);
      rest = drop len (bytes_of x.chars);
      whole = sym (take-append-drop len (bytes_of x.chars));
      held = record { holds = h; longest = λ f more end w g. let none = wide_alone (only c) (only c) (take len (bytes_of x.chars)) (f ∷ more) h g in cc };
      left_is = e ∙ ap (λ k. behind x k) (sym (length-take-le len (bytes_of x.chars) within));
    }
