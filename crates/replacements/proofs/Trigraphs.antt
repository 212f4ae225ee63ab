-- Where nothing stands between two items any more, no trigraph comes of them.
use Rattle.std.proofs.Common.{◌≡◌, ◌==◌, ◌||◌, ◌&&◌, not, ℕ, arith, true, false, List, [], ◌∷◌, ◌++◌, refl, sym, ◌∙◌, ap, inl, inr}
use Rattle.std.specs.Prelude.{codes}
use Rattle.std.proofs.lemmas.Bool.{cases_Bool, and_parts, and_right, both_ways}
use Rattle.std.proofs.lemmas.Bool.Decides.{nat_tests}
use Rattle.c_chars.specs.Characters.{trigraph, placed, phase_1, chars, bytes_of, begins_trigraph, begins_return, has_trigraphs}
use Rattle.c_chars.specs.declared.Dialect.{Dialect}
use Rattle.c_chars.specs.declared.Dialect.TheVariants.{C11, C23}
use Rattle.c_chars.specs.declared.LogicalChar.{LogicalChar}
use Rattle.c_chars.proofs.Cuts.{ends_in, starts_third, trigraph_over, phase_over}
use Rattle.c_chars.proofs.Ends.{lines_last, ends_last}
use Rattle.c_chars.proofs.FirstUnits.{at_plain, step_plain}
use Rattle.c_grammar.specs.Grammar.{is_of}
use Rattle.c_grammar.specs.Touch.{starts, ends, is_other_kind}
use Rattle.c_grammar.specs.Text.{ReadItem}
use Rattle.c_grammar.proofs.GapBytes.{third_byte, inner_byte, third_placed, inner_placed}
use Rattle.c_grammar.proofs.ItemBytes.{ReadAs}
use Rattle.c_grammar.proofs.NewText.{Follows}
use Rattle.touching.proofs.Cuts.{over_ends, over_starts, query_stays, ends_are, ends_trigraph, end_cases, end_of_table, end_no_trigraph, end_no_return}

-- Two items between which nothing stands: the left one doesn't end in a `?`, or the right one begins with nothing that could end a trigraph; and the left one is more than a stray character.
pub record StandTogether (left item : ReadItem) : Type 0 where
  pub trigraph : (ends (λ c. c == 63) (bytes_of left.chars) && starts (is_of (codes "?=(/)'<!>-")) (bytes_of item.chars)) ≡ false
  pub known : is_other_kind left.kind ≡ false

-- a `?` at the end of an item's bytes is one at the end of its characters
query_end : (d : Dialect) (cs : List LogicalChar) (raw : List ℕ) → ReadAs d cs raw → ends_in (λ c. c.byte == 63) (placed 0 raw) ≡ true → ends (λ c. c == 63) (bytes_of cs) ≡ true
query_end d cs raw reads h =
    ends_are 63 cs ∙ (ends_last 63 0 cs refl ∙ (ap (λ z. z == 63) (sym reads.last ∙ lines_last 0 (phase_1 d (placed 0 raw))) ∙ (sym (ends_last 63 0 (phase_1 d (placed 0 raw)) refl) ∙ stays d)))
  where
    stays : (d : Dialect) → ends_in (λ c. c.byte == 63) (phase_1 d (placed 0 raw)) ≡ true
    stays C11 = query_stays (placed 0 raw) h
    stays C23 = h

-- The first byte of an item, where it and what follows could end a trigraph, is its first character.

own_no_trigraph : (y : ℕ) (t rest : List ℕ) → ends_trigraph y (t ++ rest) ≡ true → begins_trigraph (y ∷ t) ≡ false
own_no_trigraph y [] rest h = refl
own_no_trigraph y (z ∷ []) rest h = refl
own_no_trigraph y (z ∷ w ∷ u) rest h = end_no_trigraph y (z ∷ w ∷ (u ++ rest)) h

own_no_return : (y : ℕ) (t rest : List ℕ) → ends_trigraph y (t ++ rest) ≡ true → begins_return (y ∷ t) ≡ false
own_no_return y [] rest h = refl
own_no_return y (z ∷ u) rest h = end_no_return y (z ∷ (u ++ rest)) h

third_no_backslash : (y : ℕ) → not (trigraph y == 0) ≡ true → (y == 92) ≡ false
unfolding trigraph
third_no_backslash y h = grind (arith, nat_tests)

own_no_backslash : (y : ℕ) (t : List ℕ) → ends_trigraph y t ≡ true → (y == 92) ≡ false
own_no_backslash y t h = elim (end_cases y t h) [ inl e ↦ third_no_backslash y e | inr is ↦ rw is refl ]

first_char : (d : Dialect) (y : ℕ) (t rest : List ℕ) → ends_trigraph y (t ++ rest) ≡ true → bytes_of (chars d 0 (y ∷ t)) ≡ y ∷ bytes_of (chars d 1 t)
first_char d y t rest h =
    let none = and_right (has_trigraphs d) (begins_trigraph (y ∷ t)) (own_no_trigraph y t rest h) in
    let unit = at_plain d (y ∷ t) (omega arith) none (own_no_return y t rest h) in
    ap bytes_of (step_plain d (y ∷ t) t y 1 0 unit refl (own_no_backslash y (t ++ rest) h))

first_in_table : (d : Dialect) (cs : List LogicalChar) (raw rest : List ℕ) → ReadAs d cs raw → (third_byte (raw ++ rest) || inner_byte (raw ++ rest)) ≡ true →
    starts (is_of (codes "?=(/)'<!>-")) (bytes_of cs) ≡ true
first_in_table d cs [] rest reads h = let no : [] ≡ reads.first ∷ reads.rest = reads.there in cc
first_in_table d cs (y ∷ t) rest reads h =
    let is : bytes_of cs ≡ y ∷ bytes_of (chars d 1 t) = sym reads.spelling ∙ first_char d y t rest h in
    ap (starts (is_of (codes "?=(/)'<!>-"))) is ∙ end_of_table y (t ++ rest) h

clash : (left item : ReadItem) → StandTogether left item → ends (λ c. c == 63) (bytes_of left.chars) ≡ true → starts (is_of (codes "?=(/)'<!>-")) (bytes_of item.chars) ≡ true → ⊥
clash left item none q t = both_ways (ends (λ c. c == 63) (bytes_of left.chars) && starts (is_of (codes "?=(/)'<!>-")) (bytes_of item.chars)) none.trigraph (rw (q, t) refl)

-- no trigraph lies over the cut between them
pub no_trigraph_over : (d : Dialect) (left item : ReadItem) (raw own rest : List ℕ) → ReadAs d left.chars raw → ReadAs d item.chars own → StandTogether left item → phase_over d (placed 0 raw) (placed 0 (own ++ rest)) ≡ false
no_trigraph_over C23 left item raw own rest reads other none = refl
no_trigraph_over C11 left item raw own rest reads other none = elim (cases_Bool (trigraph_over (placed 0 raw) (placed 0 (own ++ rest)))) [
  | inr f ↦ f
  | inl y ↦
      let q = query_end C11 left.chars raw reads (over_ends (placed 0 raw) (placed 0 (own ++ rest)) y) in
      let t = over_starts (placed 0 raw) (placed 0 (own ++ rest)) y in
      let u : (third_byte (own ++ rest) || inner_byte (own ++ rest)) ≡ true =
      ap (λ z. z || inner_byte (own ++ rest)) (sym (third_placed 0 (own ++ rest))) ∙ (ap (λ z. starts_third (placed 0 (own ++ rest)) || z) (sym (inner_placed 0 (own ++ rest))) ∙ t) in
      absurd (clash left item none q (first_in_table C11 item.chars own rest other u))
]

-- and none over the left item
pub no_trigraph_follows : (d : Dialect) (left item : ReadItem) (raw old own rest : List ℕ) → ReadAs d left.chars raw → ReadAs d item.chars own → StandTogether left item → Follows (raw ++ old) (raw ++ (own ++ rest))
no_trigraph_follows d left item [] old own rest reads other none = let no : [] ≡ reads.first ∷ reads.rest = reads.there in cc
no_trigraph_follows d left item (b ∷ c ∷ s) old own rest reads other none = record { third = λ k. k; inner = λ k. k }
no_trigraph_follows d left item (b ∷ []) old own rest reads other none = record { third = λ k. k; inner = λ k. absurd (never k) }
  where
    never : ((b == 63) && third_byte (own ++ rest)) ≡ true → ⊥
    never k =
        let parts = and_parts (b == 63) (third_byte (own ++ rest)) k in
        let u : (third_byte (own ++ rest) || inner_byte (own ++ rest)) ≡ true = let t = parts.1 in rw t refl in
        clash left item none (query_end d left.chars (b ∷ []) reads parts.0) (first_in_table d item.chars own rest other u)
