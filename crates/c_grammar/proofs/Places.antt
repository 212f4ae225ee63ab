-- How far a word reaches, and the place behind an item.
use Rattle.std.proofs.Common.{◌≡◌, ◌==◌, not, Bool, true, false, ℕ, suc, zero, ◌≤◌, ◌<◌, ◌-◌, List, [], ◌∷◌, length, take, drop, nat_eq, refl, sym, ◌∙◌, ap, subst, arith}
use Rattle.std.specs.Prelude.{IfSome, None, Option, Some, slice_get}
use Rattle.std.specs.List.{starts_with}
use Rattle.std.proofs.lemmas.Bool.{and_parts, eqb-true, eq-eqb, false_from_ne_true}
use Rattle.std.proofs.lemmas.List.{drop_all}
use Rattle.c_chars.specs.Characters.{bytes_of}
use Rattle.c_chars.specs.Coming.{Coming, AreBetween, passed, behind}
use Rattle.c_chars.specs.declared.Dialect.{Dialect}
use Rattle.c_chars.specs.declared.LogicalChar.{LogicalChar}
use Rattle.c_grammar.specs.Grammar.{is_same}
use Rattle.c_grammar.specs.Items.{Place, LineStart, AfterHash, AfterInclude, AfterDefine, AfterMacroName, InDirective, InText, is_hash, past_comment, past_item}
use Rattle.c_grammar.specs.Touch.{starts}
use Rattle.item_kinds.specs.declared.ItemKind.{ItemKind}
use Rattle.item_kinds.specs.declared.ItemKind.TheVariants.{Identifier, Number, CharConst, StringLit, Punct, HeaderName, StrayQuote, Other, BlockComment, LineComment}
use Rattle.c_grammar.proofs.Lists.{same_refl}
use Rattle.c_grammar.specs.Bytes.{IsFirst}
use Rattle.c_grammar.specs.Place.{IsSpanned, place_of, past_plain, past_mark, past_word}
use Rattle.c_grammar.specs.declared.place.Standing.{Standing}
use Rattle.c_chars.proofs.Steps.{onwards}

-- behind fewer characters it stands elsewhere
at_inject : (d : Dialect) (at n m high : ℕ) (s : List LogicalChar) → AreBetween at s high → n ≤ length s → m ≤ length s → (passed d at s n).at ≡ (passed d at s m).at → n ≡ m
at_inject d at zero zero high s b i j e = refl
at_inject d at zero (suc m) high [] b i j e = absurd (omega arith)
at_inject d at zero (suc m) high (c ∷ s) b i j e = let first : at ≤ c.from = b.0 in let some : c.from < c.to = b.1 in let more = onwards d c.to m high s b.2 in absurd (omega arith)
at_inject d at (suc n) zero high [] b i j e = absurd (omega arith)
at_inject d at (suc n) zero high (c ∷ s) b i j e = let first : at ≤ c.from = b.0 in let some : c.from < c.to = b.1 in let more = onwards d c.to n high s b.2 in absurd (omega arith)
at_inject d at (suc n) (suc m) high [] b i j e = absurd (omega arith)
at_inject d at (suc n) (suc m) high (c ∷ s) b i j e = ap suc (at_inject d c.to n m high s b.2 (omega arith) (omega arith) e)

-- a front of a text is its first characters
front_take : (s w : List ℕ) → starts_with nat_eq s w ≡ true → take (length w) s ≡ w
front_take s [] h = refl
front_take [] (b ∷ w) h = cc
front_take (c ∷ s) (b ∷ w) h =
    let parts = and_parts (b == c) (starts_with nat_eq s w) h in
    let e : b ≡ c = eqb-true b c parts.0 in
    let rest = front_take s w parts.1 in
    ap (λ z. z ∷ take (length w) s) (sym e) ∙ ap (λ z. b ∷ z) rest

front_len : (s : List LogicalChar) (w : List ℕ) → starts_with nat_eq (bytes_of s) w ≡ true → length w ≤ length s
front_len s [] h = omega arith
front_len [] (b ∷ w) h = cc
front_len (c ∷ s) (b ∷ w) h = let rest = front_len s w (and_parts (b == c.byte) (starts_with nat_eq (bytes_of s) w) h).1 in omega arith

take_front : (n : ℕ) (s : List LogicalChar) (w : List ℕ) → n ≤ length s → is_same (take n (bytes_of s)) w ≡ true → (starts_with nat_eq (bytes_of s) w ≡ true) × (n ≡ length w)
take_front zero s [] i h = (refl, refl)
take_front zero s (b ∷ w) i h = cc
take_front (suc n) [] w i h = absurd (omega arith)
take_front (suc n) (c ∷ s) [] i h = cc
take_front (suc n) (c ∷ s) (b ∷ w) i h =
    let parts = and_parts (c.byte == b) (is_same (take n (bytes_of s)) w) h in
    let e : (b == c.byte) ≡ true = eq-eqb b c.byte (sym (eqb-true c.byte b parts.0)) in
    let rest = take_front n s w (omega arith) parts.1 in
    let there = rest.0 in
    (rw (e, there) refl, ap suc rest.1)

-- behind a word whose spelling tells nothing
pub other_word : (d : Dialect) (place : Place) (s : List ℕ) → (place ≡ AfterHash → ⊥) → (place ≡ AfterDefine → ⊥) → past_word d place s ≡ past_plain place
other_word d LineStart s hash define = refl
other_word d AfterHash s hash define = absurd (hash refl)
other_word d AfterInclude s hash define = refl
other_word d AfterDefine s hash define = absurd (define refl)
other_word d AfterMacroName s hash define = refl
other_word d InDirective s hash define = refl
other_word d InText s hash define = refl

-- the text begins with the word, and they reach as far
pub spelled_yes : (x y left : Coming) (w : List ℕ) (n : ℕ) → IsSpanned x → starts_with nat_eq (bytes_of x.chars) w ≡ true → y ≡ behind x (length w) → y.at ≡ left.at → n ≤ length x.chars → left ≡ behind x n
    → true ≡ is_same (take n (bytes_of x.chars)) w
spelled_yes x y left w n sp t e at i l =
    let same : n ≡ length w = at_inject x.dialect x.at n (length w) sp.high x.chars sp.spans i (front_len x.chars w t) (sym (ap (λ z. z.at) l) ∙ (sym at ∙ ap (λ z. z.at) e)) in
    let is : take n (bytes_of x.chars) ≡ w = ap (λ k. take k (bytes_of x.chars)) same ∙ front_take (bytes_of x.chars) w t in
    sym (subst (λ z. is_same z w ≡ true) (sym is) (same_refl w))

-- the text begins otherwise
pub spelled_other : (x : Coming) (w : List ℕ) (n : ℕ) → starts_with nat_eq (bytes_of x.chars) w ≡ false → n ≤ length x.chars → false ≡ is_same (take n (bytes_of x.chars)) w
spelled_other x w n t i = sym (false_from_ne_true (is_same (take n (bytes_of x.chars)) w) (λ z. let y = (take_front n x.chars w i z).0 in cc))

-- they reach elsewhere
pub spelled_no : (x y left : Coming) (w : List ℕ) (n : ℕ) → y ≡ behind x (length w) → (y.at ≡ left.at → ⊥) → n ≤ length x.chars → left ≡ behind x n → false ≡ is_same (take n (bytes_of x.chars)) w
spelled_no x y left w n e at i l = sym (false_from_ne_true (is_same (take n (bytes_of x.chars)) w) (λ z.
    let same : n ≡ length w = (take_front n x.chars w i z).1 in
    at (ap (λ k. k.at) (e ∙ (ap (λ k. behind x k) (sym same) ∙ sym l)))))

-- The whole word was read: the text begins with it, and this is what stands behind it.
pub word_read : (x y : Coming) (w : List ℕ) (i : ℕ) → length w ≤ i → starts_with nat_eq (bytes_of y.chars) (drop i w) ≡ starts_with nat_eq (bytes_of x.chars) w
    → behind y (length w - i) ≡ behind x (length w) → (starts_with nat_eq (bytes_of x.chars) w ≡ true) × (y ≡ behind x (length w))
word_read x y w i all begins reaches =
    let none : length w - i ≡ 0 = omega (arith, all) in
    let read : drop i w ≡ [] = drop_all i w all in
    (sym begins ∙ ap (λ z. starts_with nat_eq (bytes_of y.chars) z) read, sym (ap (behind y) none) ∙ reaches)

pub mark_place : (d : Dialect) (p : Place) (s : List ℕ) → past_mark p s ≡ past_item d p Punct s
mark_place d LineStart s = refl
mark_place d AfterHash s = refl
mark_place d AfterInclude s = refl
mark_place d AfterDefine s = refl
mark_place d AfterMacroName s = refl
mark_place d InDirective s = refl
mark_place d InText s = refl

pub word_place : (d : Dialect) (p : Place) (s : List ℕ) → past_word d p s ≡ past_item d p Identifier s
word_place d LineStart s = refl
word_place d AfterHash s = refl
word_place d AfterInclude s = refl
word_place d AfterDefine s = refl
word_place d AfterMacroName s = refl
word_place d InDirective s = refl
word_place d InText s = refl

-- Behind an item of this kind that begins so, the place is this one, if any is told.
abbrev pub IsToldPlace : Dialect → Place → ItemKind → ℕ → Option Standing → Type 0
IsToldPlace d p kind f o = IfSome o (λ past. (s : List ℕ) → starts (λ c. not (c == f)) s ≡ false → place_of past ≡ past_item d p kind s)

pub told_word : (d : Dialect) (p : Place) (f : ℕ) (o : Option Standing) → IfSome o (λ past. (e : Dialect) (s : List ℕ) → place_of past ≡ past_word e p s) → IsToldPlace d p Identifier f o
told_word d p f None h = h
told_word d p f (Some past) h = λ s first. h d s ∙ word_place d p s

pub told_mark : (d : Dialect) (p : Place) (f : ℕ) (o : Option Standing) → IfSome o (λ past. (s : List ℕ) → starts (λ c. not (c == f)) s ≡ false → place_of past ≡ past_mark p s) → IsToldPlace d p Punct f o
told_mark d p f None h = h
told_mark d p f (Some past) h = λ s first. h s first ∙ mark_place d p s

-- the first characters of a text begin as it does
pub first_only : (f n : ℕ) (s : List ℕ) → IsFirst f s → starts (λ c. not (c == f)) (take n s) ≡ false
first_only f n s first = ap (λ z. starts (λ c. not (c == f)) (take n z)) first.whole ∙ at n
  where
    at : (n : ℕ) → starts (λ c. not (c == f)) (take n (f ∷ first.rest)) ≡ false
    at zero = refl
    at (suc n) = let same : (f == f) ≡ true = eq-eqb f f refl in rw same refl

-- a kind whose spelling tells nothing of the place
abbrev pub is_plain : ItemKind → Bool
is_plain Identifier = false
is_plain Punct = false
is_plain BlockComment = false
is_plain LineComment = false
is_plain kind = true

pub plain_place : (d : Dialect) (p : Place) (k : ItemKind) (s : List ℕ) → is_plain k ≡ true → past_plain p ≡ past_item d p k s
plain_place d p Identifier s h = cc
plain_place d p Punct s h = cc
plain_place d p BlockComment s h = cc
plain_place d p LineComment s h = cc
plain_place d LineStart Number s h = refl
plain_place d AfterHash Number s h = refl
plain_place d AfterInclude Number s h = refl
plain_place d AfterDefine Number s h = refl
plain_place d AfterMacroName Number s h = refl
plain_place d InDirective Number s h = refl
plain_place d InText Number s h = refl
plain_place d LineStart CharConst s h = refl
plain_place d AfterHash CharConst s h = refl
plain_place d AfterInclude CharConst s h = refl
plain_place d AfterDefine CharConst s h = refl
plain_place d AfterMacroName CharConst s h = refl
plain_place d InDirective CharConst s h = refl
plain_place d InText CharConst s h = refl
plain_place d LineStart StringLit s h = refl
plain_place d AfterHash StringLit s h = refl
plain_place d AfterInclude StringLit s h = refl
plain_place d AfterDefine StringLit s h = refl
plain_place d AfterMacroName StringLit s h = refl
plain_place d InDirective StringLit s h = refl
plain_place d InText StringLit s h = refl
plain_place d LineStart HeaderName s h = refl
plain_place d AfterHash HeaderName s h = refl
plain_place d AfterInclude HeaderName s h = refl
plain_place d AfterDefine HeaderName s h = refl
plain_place d AfterMacroName HeaderName s h = refl
plain_place d InDirective HeaderName s h = refl
plain_place d InText HeaderName s h = refl
plain_place d LineStart StrayQuote s h = refl
plain_place d AfterHash StrayQuote s h = refl
plain_place d AfterInclude StrayQuote s h = refl
plain_place d AfterDefine StrayQuote s h = refl
plain_place d AfterMacroName StrayQuote s h = refl
plain_place d InDirective StrayQuote s h = refl
plain_place d InText StrayQuote s h = refl
plain_place d LineStart Other s h = refl
plain_place d AfterHash Other s h = refl
plain_place d AfterInclude Other s h = refl
plain_place d AfterDefine Other s h = refl
plain_place d AfterMacroName Other s h = refl
plain_place d InDirective Other s h = refl
plain_place d InText Other s h = refl

pub told_other : (d : Dialect) (p : Place) (k : ItemKind) (f : ℕ) (past : Standing) → is_plain k ≡ true → place_of past ≡ past_plain p → IsToldPlace d p k f (Some past)
told_other d p k f past plain h = λ s first. h ∙ plain_place d p k s plain

pub told_comment : (d : Dialect) (p : Place) (f : ℕ) (past : Standing) → place_of past ≡ past_comment p → IsToldPlace d p BlockComment f (Some past)
told_comment d p f past h = λ s first. h

pub told_line : (d : Dialect) (p : Place) (f : ℕ) (past : Standing) → place_of past ≡ past_comment p → IsToldPlace d p LineComment f (Some past)
told_line d p f past h = λ s first. h

-- a character that reaches up to what is left of the text, and is a hash
hash_there : (d : Dialect) (at high n : ℕ) (s : List LogicalChar) (c : LogicalChar) → AreBetween at s high → slice_get s 0 ≡ Some c → c.byte ≡ 35 → n ≤ length s → c.to ≡ (passed d at s n).at
    → is_hash (take n (bytes_of s)) ≡ true
hash_there d at high n [] c between first hash within there = cc
hash_there d at high zero (e ∷ s) c between first hash within there =
    let same : e ≡ c = cc in
    let to : e.to ≡ c.to = ap (λ (z : LogicalChar). z.to) same in
    let low : at ≤ e.from = between.0 in
    let some : e.from < e.to = between.1 in
    absurd (omega (arith, to, low, some, there))
hash_there d at high (suc zero) (e ∷ s) c between first hash within there =
    let same : e ≡ c = cc in
    let byte : e.byte ≡ 35 = ap (λ (z : LogicalChar). z.byte) same ∙ hash in
    ap (λ b. is_hash (b ∷ [])) byte
hash_there d at high (suc (suc n)) (e ∷ []) c between first hash within there = absurd (omega (arith, within))
hash_there d at high (suc (suc n)) (e ∷ f ∷ s) c between first hash within there =
    let same : e ≡ c = cc in
    let to : e.to ≡ c.to = ap (λ (z : LogicalChar). z.to) same in
    let low : e.to ≤ f.from = between.2.0 in
    let some : f.from < f.to = between.2.1 in
    let on = onwards d f.to n high s between.2.2 in
    absurd (omega (arith, to, low, some, on, there))

pub hash_place : (d : Dialect) (x left : Coming) (c : LogicalChar) (place : Place) (kind : ItemKind) (n : ℕ) → IsSpanned x → slice_get x.chars 0 ≡ Some c → c.byte ≡ 35 → c.to ≡ left.at → place ≡ LineStart → kind ≡ Punct
    → n ≤ length x.chars → left ≡ behind x n → AfterHash ≡ past_item d place kind (take n (bytes_of x.chars))
hash_place d x left c place kind n spanned first hash at start mark within left_is =
    let is = hash_there x.dialect x.at spanned.high n x.chars c spanned.spans first hash within (at ∙ ap (λ z. z.at) left_is) in
    sym (rw (start, mark, is) refl)
