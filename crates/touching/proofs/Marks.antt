-- No item but an Other begins with the bytes of a byte order mark, so items are spelled as they read by themselves.
use Rattle.std.proofs.Common.{◌≡◌, ◌==◌, ◌&&◌, ◌||◌, ℕ, ◌≤◌, ◌+◌, ◌/◌, ◌%◌, arith, length, Bool, true, false, List, [], ◌∷◌, ◌++◌, refl, sym, ◌∙◌, ap, subst, inl, inr, ◌⊎◌}
use Rattle.std.proofs.lemmas.Bool.{cases_Bool, and_parts, and_right, both_ways, eqb-true, eq-eqb, leb-true, cases_lt, lt-ltb, le-ltb}
use Rattle.c_chars.specs.Characters.{chars, bytes_of, mark_len, has_trigraphs, begins_trigraph, begins_return}
use Rattle.c_chars.specs.declared.Dialect.{Dialect}
use Rattle.c_chars.proofs.FirstUnits.{at_plain, step_plain}
use Rattle.item_kinds.specs.declared.ItemKind.{ItemKind}
use Rattle.item_kinds.specs.declared.ItemKind.TheVariants.{Identifier, Number, CharConst, StringLit, Punct, HeaderName, StrayQuote, Other, BlockComment, LineComment}
use Rattle.c_grammar.specs.Grammar.{Whole, Spells, IsHeaded, IsHeaderName, is_wide, is_one, is_letter, is_digit, is_letter_unit, is_word_unit, is_universal_name}
use Rattle.c_grammar.specs.Touch.{is_other_kind}
use Rattle.c_grammar.proofs.Firsts.{Begins, begins, letter_cases, is_quote, is_number_start, is_mark}
use Rattle.c_grammar.proofs.ItemBytes.{ReadAs}
use Rattle.c_grammar.proofs.Wide.{wide_parts, wide_bytes}
use Rattle.std.specs.Char.{encode_utf8}
use Rattle.std.specs.Prelude.{nat_lt}
use Rattle.unicode_ident.proofs.Computing.{unicode_ident}
use Rattle.c_grammar.specs.Text.{ReadItem}
use Rattle.unicode_ident.specs.Ident.{is_xid_start}
use Rattle.touching.specs.Spelling.{spelling}

abbrev pub mark : List ℕ
mark = 239 ∷ 187 ∷ 191 ∷ []

mark_no_start : is_xid_start 65279 ≡ false
unfolding unicode_ident
mark_no_start = refl

pub first_of_two : {a b : ℕ} {s t : List ℕ} → a ∷ s ≡ b ∷ t → a ≡ b
first_of_two e = cc

pub rest_of_two : {a b : ℕ} {s t : List ℕ} → a ∷ s ≡ b ∷ t → s ≡ t
rest_of_two e = cc

-- the character that these bytes begin with
mark_code : (c : ℕ) (tail t : List ℕ) → 128 ≤ c → encode_utf8 c ++ tail ≡ mark ++ t → c ≡ 65279
unfolding encode_utf8
mark_code c tail t high e =
    let one : nat_lt c 128 ≡ false = le-ltb c 128 high in
    elim (cases_lt c 2048) [
      | inl below ↦
          let two = lt-ltb c 2048 below in
          let f : (192 + c / 64) ∷ ((128 + c % 64) ∷ tail) ≡ mark ++ t = rw (one, two) at e in
          omega (arith, below, first_of_two f)
      | inr past ↦
          let two = le-ltb c 2048 past in
          elim (cases_lt c 65536) [
            | inl below ↦
                let three = lt-ltb c 65536 below in
                let f : (224 + c / 4096) ∷ (128 + (c / 64) % 64) ∷ (128 + c % 64) ∷ tail ≡ mark ++ t = rw (one, two, three) at e in
                let g = rest_of_two f in
                omega (arith, first_of_two f, first_of_two g, first_of_two (rest_of_two g))
            | inr over ↦
                let three = le-ltb c 65536 over in
                let f : (240 + c / 262144) ∷ (128 + (c / 4096) % 64) ∷ (128 + (c / 64) % 64) ∷ (128 + c % 64) ∷ tail ≡ mark ++ t = rw (one, two, three) at e in
                omega (arith, first_of_two f)
          ]
    ]

wide_no_mark : (head tail t : List ℕ) → is_wide is_xid_start head ≡ true → head ++ tail ≡ mark ++ t → ⊥
wide_no_mark head tail t h e =
    let w = wide_parts is_xid_start head h in
    let code : w.code ≡ 65279 = mark_code w.code tail t (leb-true 128 w.code w.past) (ap (λ z. z ++ tail) (sym (wide_bytes is_xid_start head w)) ∙ e) in
    both_ways (is_xid_start 65279) mark_no_start (subst (λ z. is_xid_start z ≡ true) code w.passes)

one_no_mark : (head tail t : List ℕ) → is_one is_letter head ≡ true → head ++ tail ≡ mark ++ t → ⊥
unfolding is_letter
one_no_mark [] tail t h e = cc
one_no_mark (c ∷ []) tail t h e = let is : c ≡ 239 = first_of_two e in both_ways (is_letter 239) refl (subst (λ z. is_letter z ≡ true) is h)
one_no_mark (c ∷ f ∷ s) tail t h e = cc

name_no_mark : (head tail t : List ℕ) → is_universal_name head ≡ true → head ++ tail ≡ mark ++ t → ⊥
unfolding is_universal_name
name_no_mark [] tail t h e = cc
name_no_mark (c ∷ []) tail t h e = cc
name_no_mark (b ∷ k ∷ digits) tail t h e =
    let is : b ≡ 239 = first_of_two e in
    let back : (b == 92) ≡ true = (and_parts (b == 92) (((k == 117) && (length digits == 4)) || ((k == 85) && (length digits == 8))) (and_parts _ _ h).0).0 in
    both_ways (239 == 92) refl (subst (λ z. (z == 92) ≡ true) is back)

identifier_no_mark : (s t : List ℕ) → IsHeaded is_letter_unit is_word_unit s → s ≡ mark ++ t → ⊥
identifier_no_mark s t h e = elim (letter_cases h.head h.begins) [
  | inl o ↦ one_no_mark h.head h.tail t o (sym h.whole ∙ e)
  | inr (inl n) ↦ name_no_mark h.head h.tail t n (sym h.whole ∙ e)
  | inr (inr w) ↦ wide_no_mark h.head h.tail t w (sym h.whole ∙ e)
]

-- one of the first two bytes of a mark
abbrev pub IsMarkByte : ℕ → Type 0
IsMarkByte c = (c ≡ 239) ⊎ (c ≡ 187)

neither : (p : ℕ → Bool) (c : ℕ) → IsMarkByte c → p 239 ≡ false → p 187 ≡ false → p c ≡ false
neither p c (inl e) x y = ap p e ∙ x
neither p c (inr e) x y = ap p e ∙ y

number_not : (c : ℕ) → IsMarkByte c → is_number_start c ≡ false
unfolding is_number_start is_digit
number_not c k = neither is_number_start c k refl refl

letter_not : (c : ℕ) → IsMarkByte c → is_letter c ≡ false
unfolding is_letter
letter_not c k = neither is_letter c k refl refl

mark_not : (c : ℕ) → IsMarkByte c → is_mark c ≡ false
unfolding is_mark
mark_not c k = neither is_mark c k refl refl

quote_not : (c : ℕ) → IsMarkByte c → is_quote c ≡ false
unfolding is_quote
quote_not c k = neither is_quote c k refl refl

letter_or_not : (q c : ℕ) → IsMarkByte c → (239 == q) ≡ false → (187 == q) ≡ false → (is_letter c || c == q) ≡ false
letter_or_not q c k x y = let n = letter_not c k in let m = neither (λ z. z == q) c k x y in rw (n, m) refl

header_not : (s : List ℕ) (c : ℕ) (t : List ℕ) → IsHeaderName s → s ≡ c ∷ t → IsMarkByte c → ⊥
header_not s c t h e k = elim h.ends [
  | inl f ↦ both_ways (60 == c) (neither (λ z. 60 == z) c k refl refl) (subst (λ z. (z == c) ≡ true) f.0 first)
  | inr f ↦ both_ways (34 == c) (neither (λ z. 34 == z) c k refl refl) (subst (λ z. (z == c) ≡ true) f.0 first)
]
  where
    first : (h.first == c) ≡ true
    first = eq-eqb h.first c (first_of_two (sym h.whole ∙ e))

begins_not : (p : ℕ → Bool) (s : List ℕ) (c : ℕ) (t : List ℕ) → Begins p s → s ≡ c ∷ t → p c ≡ false → ⊥
begins_not p s c t b e n = both_ways (p c) n (subst (λ z. p z ≡ true) (first_of_two (sym b.whole ∙ e)) b.passes)

-- such a byte begins words alone, and what is an Other
pub only_words : (d : Dialect) (kind : ItemKind) (s : List ℕ) (c : ℕ) (t : List ℕ) → ((kind ≡ HeaderName) × IsHeaderName s) ⊎ Spells d (Whole kind) s → s ≡ c ∷ t → IsMarkByte c → is_other_kind kind ≡ false → IsHeaded is_letter_unit is_word_unit s
only_words d kind s c t (inl h) e k o = absurd (header_not s c t h.1 e k)
only_words d Identifier s c t (inr h) e k o = h
only_words d Number s c t (inr h) e k o = absurd (begins_not is_number_start s c t (begins d (Whole Number) s h) e (number_not c k))
only_words d CharConst s c t (inr h) e k o = absurd (begins_not (λ z. is_letter z || z == 39) s c t (begins d (Whole CharConst) s h) e (letter_or_not 39 c k refl refl))
only_words d StringLit s c t (inr h) e k o = absurd (begins_not (λ z. is_letter z || z == 34) s c t (begins d (Whole StringLit) s h) e (letter_or_not 34 c k refl refl))
only_words d Punct s c t (inr h) e k o = absurd (begins_not is_mark s c t (begins d (Whole Punct) s h) e (mark_not c k))
only_words d HeaderName s c t (inr h) e k o = absurd h
only_words d StrayQuote s c t (inr h) e k o = absurd (begins_not is_quote s c t (begins d (Whole StrayQuote) s h) e (quote_not c k))
only_words d Other s c t (inr h) e k o = cc
only_words d BlockComment s c t (inr h) e k o = absurd (begins_not (λ z. z == 47) s c t (begins d (Whole BlockComment) s h) e (neither (λ z. z == 47) c k refl refl))
only_words d LineComment s c t (inr h) e k o = absurd (begins_not (λ z. z == 47) s c t (begins d (Whole LineComment) s h) e (neither (λ z. z == 47) c k refl refl))

mark_is_other : (d : Dialect) (kind : ItemKind) (s t : List ℕ) → ((kind ≡ HeaderName) × IsHeaderName s) ⊎ Spells d (Whole kind) s → s ≡ mark ++ t → is_other_kind kind ≡ false → ⊥
mark_is_other d kind s t spells e o = identifier_no_mark s t (only_words d kind s 239 (187 ∷ 191 ∷ t) spells e (inl refl) o) e

-- the bytes of a mark are characters by themselves
pub high_step : (d : Dialect) (at b : ℕ) (s : List ℕ) → (b == 63) ≡ false → (b == 13) ≡ false → (b == 92) ≡ false → bytes_of (chars d at (b ∷ s)) ≡ b ∷ bytes_of (chars d (at + 1) s)
high_step d at b s q r k = ap bytes_of (step_plain d (b ∷ s) s b 1 at (at_plain d (b ∷ s) (omega arith) (no_trigraph d s) (no_return s)) refl k)
  where
    use_none : Unit {0}
    use_none = tt

    no_trigraph : (d : Dialect) (s : List ℕ) → (has_trigraphs d && begins_trigraph (b ∷ s)) ≡ false
    no_trigraph d [] = and_right (has_trigraphs d) false refl
    no_trigraph d (x ∷ []) = and_right (has_trigraphs d) false refl
    no_trigraph d (x ∷ y ∷ s) = and_right (has_trigraphs d) (begins_trigraph (b ∷ x ∷ y ∷ s)) (rw q refl)

    no_return : (s : List ℕ) → begins_return (b ∷ s) ≡ false
    no_return [] = refl
    no_return (x ∷ s) = rw r refl

mark_chars : (d : Dialect) (s : List ℕ) → bytes_of (chars d 0 (mark ++ s)) ≡ mark ++ bytes_of (chars d 3 s)
mark_chars d s =
    high_step d 0 239 (187 ∷ 191 ∷ s) refl refl refl
    ∙ (ap (λ z. 239 ∷ z) (high_step d 1 187 (191 ∷ s) refl refl refl) ∙ ap (λ z. 239 ∷ 187 ∷ z) (high_step d 2 191 s refl refl refl))

-- An item that is no Other is spelled as its bytes read by themselves.
pub same_spelling : (d : Dialect) (item : ReadItem) (raw : List ℕ) → ReadAs d item.chars raw → ((item.kind ≡ HeaderName) × IsHeaderName (bytes_of item.chars)) ⊎ Spells d (Whole item.kind) (bytes_of item.chars) → is_other_kind item.kind ≡ false →
    spelling d raw ≡ bytes_of item.chars
same_spelling d item raw reads spells other = by_mark raw reads refl
  where
    no_mark : (raw : List ℕ) → mark_len raw ≡ 0 → spelling d raw ≡ bytes_of (chars d 0 raw)
    no_mark raw e = rw e refl

    by_mark : (raw : List ℕ) → ReadAs d item.chars raw → Unit {0} ≡ Unit {0} → spelling d raw ≡ bytes_of item.chars
    by_mark [] r u = no_mark [] refl ∙ r.spelling
    by_mark (a ∷ []) r u = let n : ((239 == a) && false) ≡ false = and_right (239 == a) false refl in no_mark (a ∷ []) (rw n refl) ∙ r.spelling
    by_mark (a ∷ b ∷ []) r u = let n : ((239 == a) && ((187 == b) && false)) ≡ false = and_right (239 == a) ((187 == b) && false) (and_right (187 == b) false refl) in no_mark (a ∷ b ∷ []) (rw n refl) ∙ r.spelling
    by_mark (a ∷ b ∷ c ∷ s) r u = elim (cases_Bool ((239 == a) && ((187 == b) && ((191 == c) && true)))) [
      | inr n ↦ no_mark (a ∷ b ∷ c ∷ s) (rw n refl) ∙ r.spelling
      | inl y ↦
          let p = and_parts (239 == a) ((187 == b) && ((191 == c) && true)) y in
          let q = and_parts (187 == b) ((191 == c) && true) p.1 in
          let a_is : 239 ≡ a = eqb-true 239 a p.0 in
          let b_is : 187 ≡ b = eqb-true 187 b q.0 in
          let c_is : 191 ≡ c = eqb-true 191 c (and_parts (191 == c) true q.1).0 in
          let whole : mark ++ s ≡ a ∷ b ∷ c ∷ s = rw (a_is, b_is, c_is) refl in
          absurd (mark_is_other d item.kind (bytes_of item.chars) (bytes_of (chars d 3 s)) spells (sym r.spelling ∙ (ap (λ z. bytes_of (chars d 0 z)) (sym whole) ∙ mark_chars d s)) other)
    ]
