-- Where two items may touch, no byte order mark comes when what stands between them is taken away.
use Rattle.std.proofs.Common.{◌≡◌, ◌==◌, ◌&&◌, ◌||◌, ℕ, ◌<◌, ◌≤◌, ◌+◌, ◌-◌, ◌/◌, ◌%◌, arith, length, true, false, List, [], ◌∷◌, ◌++◌, take, drop, refl, sym, ◌∙◌, ap, subst, inl, inr, ◌⊎◌}
use Rattle.std.specs.Char.{encode_utf8}
use Rattle.std.specs.Prelude.{nat_lt}
use Rattle.std.proofs.lemmas.Bool.{cases_Bool, and_parts, and_right, both_ways, eqb-true, leb-true, cases_lt, lt-ltb, le-ltb}
use Rattle.c_chars.specs.Characters.{chars, bytes_of, mark_len}
use Rattle.c_chars.specs.declared.Dialect.{Dialect}
use Rattle.c_chars.specs.declared.Dialect.TheVariants.{C11, C23}
use Rattle.item_kinds.specs.declared.ItemKind.TheVariants.{HeaderName}
use Rattle.c_grammar.specs.Grammar.{Whole, Spells, IsHeaded, IsHeaderName, is_one, is_letter, is_letter_unit, is_word_unit, is_universal_name}
use Rattle.c_grammar.specs.Text.{ReadItem, start_of, end_of, raw_of}
use Rattle.c_grammar.specs.Touch.{is_other_kind}
use Rattle.c_grammar.proofs.Firsts.{letter_cases}
use Rattle.c_grammar.proofs.ItemBytes.{ReadAs}
use Rattle.c_grammar.proofs.Wide.{AreHigh, wide_high, wide_parts, wide_bytes}
use Rattle.unicode_ident.specs.Ident.{is_xid_start}
use Rattle.touching.proofs.Marks.{mark, first_of_two, rest_of_two, high_step, only_words}

-- a list begins with the bytes of a mark, or has none
pub mark_cases : (s : List ℕ) → (mark_len s ≡ 0) ⊎ ((t : List ℕ) × (s ≡ mark ++ t))
mark_cases [] = inl refl
mark_cases (a ∷ []) = let n : ((239 == a) && false) ≡ false = and_right (239 == a) false refl in inl (rw n refl)
mark_cases (a ∷ b ∷ []) = let n : ((239 == a) && ((187 == b) && false)) ≡ false = and_right (239 == a) ((187 == b) && false) (and_right (187 == b) false refl) in inl (rw n refl)
mark_cases (a ∷ b ∷ c ∷ s) = elim (cases_Bool ((239 == a) && ((187 == b) && ((191 == c) && true)))) [
  | inr n ↦ inl (rw n refl)
  | inl y ↦
      let p = and_parts (239 == a) ((187 == b) && ((191 == c) && true)) y in
      let q = and_parts (187 == b) ((191 == c) && true) p.1 in
      let a_is : 239 ≡ a = eqb-true 239 a p.0 in
      let b_is : 187 ≡ b = eqb-true 187 b q.0 in
      let c_is : 191 ≡ c = eqb-true 191 c (and_parts (191 == c) true q.1).0 in
      inr (s, rw (a_is, b_is, c_is) refl)
]

-- Words that are too short

-- no word has one byte past ASCII
one_byte : (s : List ℕ) (c : ℕ) → IsHeaded is_letter_unit is_word_unit s → s ≡ c ∷ [] → is_letter c ≡ false → ⊥
unfolding is_universal_name
one_byte s c h e n = elim (letter_cases h.head h.begins) [
  | inl o ↦ letter h.head o (sym h.whole ∙ e)
  | inr (inl u) ↦ name h.head u (sym h.whole ∙ e)
  | inr (inr w) ↦ wide h.head (wide_high is_xid_start h.head w) (sym h.whole ∙ e)
]
  where
    letter : (head : List ℕ) → is_one is_letter head ≡ true → head ++ h.tail ≡ c ∷ [] → ⊥
    letter [] o k = cc
    letter (x ∷ []) o k = both_ways (is_letter c) n (subst (λ z. is_letter z ≡ true) (first_of_two k) o)
    letter (x ∷ y ∷ t) o k = cc

    name : (head : List ℕ) → is_universal_name head ≡ true → head ++ h.tail ≡ c ∷ [] → ⊥
    name [] u k = cc
    name (x ∷ []) u k = cc
    name (x ∷ y ∷ t) u k = cc

    wide : (head : List ℕ) → AreHigh head → head ++ h.tail ≡ c ∷ [] → ⊥
    wide head a k = let f : a.first ∷ (a.second ∷ (a.rest ++ h.tail)) ≡ c ∷ [] = ap (λ z. z ++ h.tail) (sym a.whole) ∙ k in cc

-- no character has the first two bytes of a mark alone
two_of_mark : (c : ℕ) (tail : List ℕ) → 128 ≤ c → encode_utf8 c ++ tail ≡ 239 ∷ 187 ∷ [] → ⊥
unfolding encode_utf8
two_of_mark c tail high e =
    let one : nat_lt c 128 ≡ false = le-ltb c 128 high in
    elim (cases_lt c 2048) [
      | inl below ↦
          let two = lt-ltb c 2048 below in
          let f : (192 + c / 64) ∷ ((128 + c % 64) ∷ tail) ≡ 239 ∷ 187 ∷ [] = rw (one, two) at e in
          omega (arith, below, first_of_two f)
      | inr past ↦
          let two = le-ltb c 2048 past in
          elim (cases_lt c 65536) [
            | inl below ↦
                let three = lt-ltb c 65536 below in
                let f : (224 + c / 4096) ∷ (128 + (c / 64) % 64) ∷ (128 + c % 64) ∷ tail ≡ 239 ∷ 187 ∷ [] = rw (one, two, three) at e in
                none (rest_of_two (rest_of_two f))
            | inr over ↦
                let three = le-ltb c 65536 over in
                let f : (240 + c / 262144) ∷ (128 + (c / 4096) % 64) ∷ (128 + (c / 64) % 64) ∷ (128 + c % 64) ∷ tail ≡ 239 ∷ 187 ∷ [] = rw (one, two, three) at e in
                omega (arith, first_of_two f)
          ]
    ]
  where
    none : {x : ℕ} {s : List ℕ} → x ∷ s ≡ [] → ⊥
    none h = cc

two_bytes : (s : List ℕ) → IsHeaded is_letter_unit is_word_unit s → s ≡ 239 ∷ 187 ∷ [] → ⊥
unfolding is_letter is_universal_name
two_bytes s h e = elim (letter_cases h.head h.begins) [
  | inl o ↦ letter h.head o (sym h.whole ∙ e)
  | inr (inl u) ↦ name h.head u (sym h.whole ∙ e)
  | inr (inr w) ↦
      let p = wide_parts is_xid_start h.head w in
      two_of_mark p.code h.tail (leb-true 128 p.code p.past) (ap (λ z. z ++ h.tail) (sym (wide_bytes is_xid_start h.head p)) ∙ (sym h.whole ∙ e))
]
  where
    letter : (head : List ℕ) → is_one is_letter head ≡ true → head ++ h.tail ≡ 239 ∷ 187 ∷ [] → ⊥
    letter [] o k = cc
    letter (x ∷ []) o k = both_ways (is_letter 239) refl (subst (λ z. is_letter z ≡ true) (first_of_two k) o)
    letter (x ∷ y ∷ t) o k = cc

    name : (head : List ℕ) → is_universal_name head ≡ true → head ++ h.tail ≡ 239 ∷ 187 ∷ [] → ⊥
    name [] u k = cc
    name (x ∷ []) u k = cc
    name (b ∷ k ∷ digits) u q = both_ways (239 == 92) refl (subst (λ z. (z == 92) ≡ true) (first_of_two q) (and_parts (b == 92) (((k == 117) && (length digits == 4)) || ((k == 85) && (length digits == 8))) (and_parts _ _ u).0).0)

-- Bytes past ASCII read as themselves

read_one : (d : Dialect) (b : ℕ) → (b == 63) ≡ false → (b == 13) ≡ false → (b == 92) ≡ false → bytes_of (chars d 0 (b ∷ [])) ≡ b ∷ []
read_one d b q r k = high_step d 0 b [] q r k ∙ ap (λ z. b ∷ z) (nothing d)
  where
    nothing : (d : Dialect) → bytes_of (chars d 1 []) ≡ []
    nothing C11 = refl
    nothing C23 = refl

read_two : (d : Dialect) → bytes_of (chars d 0 (239 ∷ 187 ∷ [])) ≡ 239 ∷ 187 ∷ []
read_two d = high_step d 0 239 (187 ∷ []) refl refl refl ∙ ap (λ z. 239 ∷ z) (high_step d 1 187 [] refl refl refl ∙ ap (λ z. 187 ∷ z) (nothing d))
  where
    nothing : (d : Dialect) → bytes_of (chars d 2 []) ≡ []
    nothing C11 = refl
    nothing C23 = refl

letter_239 : is_letter 239 ≡ false
unfolding is_letter
letter_239 = refl

letter_187 : is_letter 187 ≡ false
unfolding is_letter
letter_187 = refl

-- an item that is no Other has not just the bytes with which a mark begins
pub item_not : (d : Dialect) (item : ReadItem) (raw : List ℕ) → ReadAs d item.chars raw → ((item.kind ≡ HeaderName) × IsHeaderName (bytes_of item.chars)) ⊎ Spells d (Whole item.kind) (bytes_of item.chars) → is_other_kind item.kind ≡ false →
    ((raw ≡ 239 ∷ []) ⊎ ((raw ≡ 187 ∷ []) ⊎ (raw ≡ 239 ∷ 187 ∷ []))) → ⊥
item_not d item raw reads spells other (inl e) =
    let s : bytes_of item.chars ≡ 239 ∷ [] = sym reads.spelling ∙ (ap (λ z. bytes_of (chars d 0 z)) e ∙ read_one d 239 refl refl refl) in
    one_byte (bytes_of item.chars) 239 (only_words d item.kind (bytes_of item.chars) 239 [] spells s (inl refl) other) s letter_239
item_not d item raw reads spells other (inr (inl e)) =
    let s : bytes_of item.chars ≡ 187 ∷ [] = sym reads.spelling ∙ (ap (λ z. bytes_of (chars d 0 z)) e ∙ read_one d 187 refl refl refl) in
    one_byte (bytes_of item.chars) 187 (only_words d item.kind (bytes_of item.chars) 187 [] spells s (inr refl) other) s letter_187
item_not d item raw reads spells other (inr (inr e)) =
    let s : bytes_of item.chars ≡ 239 ∷ 187 ∷ [] = sym reads.spelling ∙ (ap (λ z. bytes_of (chars d 0 z)) e ∙ read_two d) in
    two_bytes (bytes_of item.chars) (only_words d item.kind (bytes_of item.chars) 239 (187 ∷ []) spells s (inl refl) other) s

-- the bytes through the left item, and then other bytes
pub no_mark_comes : (d : Dialect) (text f g b : List ℕ) (l : ReadItem) → text ≡ f ++ (g ++ b) → end_of l ≡ length f → end_of l ≡ start_of l + length (raw_of text l) → ReadAs d l.chars (raw_of text l) →
    ((l.kind ≡ HeaderName) × IsHeaderName (bytes_of l.chars)) ⊎ Spells d (Whole l.kind) (bytes_of l.chars) → is_other_kind l.kind ≡ false → mark_len text ≡ 0 → mark_len (f ++ b) ≡ 0
no_mark_comes d text f g b l whole end long reads spells other none = elim (mark_cases (f ++ b)) [
  | inl n ↦ n
  | inr m ↦ absurd (by_front f m.0 whole end m.1)
]
  where
    some : 0 < length (raw_of text l)
    some = let n : length (raw_of text l) ≡ length (reads.first ∷ reads.rest) = ap length reads.there in omega (arith, n)

    raw_is : (k n : ℕ) → start_of l ≡ k → end_of l - start_of l ≡ n → raw_of text l ≡ take n (drop k text)
    raw_is k n e m = ap (λ z. take z (drop (start_of l) text)) m ∙ ap (λ z. take n (drop z text)) e

    by_front : (f t : List ℕ) → text ≡ f ++ (g ++ b) → end_of l ≡ length f → f ++ b ≡ mark ++ t → ⊥
    by_front [] t w e m = omega (arith, e, long, some)
    by_front (x ∷ []) t w e m =
        let start : start_of l ≡ 0 = omega (arith, e, long, some) in
        let raw : raw_of text l ≡ 239 ∷ [] = raw_is 0 1 start (omega (arith, e, start)) ∙ (ap (λ z. take 1 (drop 0 z)) w ∙ ap (λ z. z ∷ []) (first_of_two m)) in
        item_not d l (raw_of text l) reads spells other (inl raw)
    by_front (x ∷ y ∷ []) t w e m = elim (cases_lt (start_of l) 1) [
      | inl low ↦
          let start : start_of l ≡ 0 = omega (arith, low) in
          let raw : raw_of text l ≡ x ∷ y ∷ [] = raw_is 0 2 start (omega (arith, e, start)) ∙ ap (λ z. take 2 (drop 0 z)) w in
          let both : x ∷ y ∷ [] ≡ 239 ∷ 187 ∷ [] = ap (λ z. z ∷ y ∷ []) (first_of_two m) ∙ ap (λ z. 239 ∷ z ∷ []) (first_of_two (rest_of_two m)) in
          item_not d l (raw_of text l) reads spells other (inr (inr (raw ∙ both)))
      | inr high ↦
          let start : start_of l ≡ 1 = omega (arith, high, e, long, some) in
          let raw : raw_of text l ≡ y ∷ [] = raw_is 1 1 start (omega (arith, e, start)) ∙ ap (λ z. take 1 (drop 1 z)) w in
          item_not d l (raw_of text l) reads spells other (inr (inl (raw ∙ ap (λ z. z ∷ []) (first_of_two (rest_of_two m)))))
    ]
    by_front (x ∷ y ∷ z ∷ f) t w e m =
        let a = first_of_two m in
        let rest = rest_of_two m in
        let bb = first_of_two rest in
        let c = first_of_two (rest_of_two rest) in
        let is : text ≡ mark ++ (f ++ (g ++ b)) = w ∙ (ap (λ n. n ∷ y ∷ z ∷ (f ++ (g ++ b))) a ∙ (ap (λ n. 239 ∷ n ∷ z ∷ (f ++ (g ++ b))) bb ∙ ap (λ n. 239 ∷ 187 ∷ n ∷ (f ++ (g ++ b))) c)) in
        let three : mark_len text ≡ 3 = ap mark_len is in
        omega (arith, none, three)
