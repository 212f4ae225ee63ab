-- What an item leaves behind it: its guard, and its place.
use Rattle.std.proofs.Common.{◌≡◌, ◌==◌, ◌∙◌, ◌||◌, ◌&&◌, not, ℕ, ◌+◌, Bool, true, false, List, [], ◌∷◌, ◌++◌, refl, sym, ap, subst, arith, zero-add, inl, inr}
use Rattle.std.specs.Prelude.{if◌then◌else◌}
use Rattle.std.specs.List.{list_any}
use Rattle.std.proofs.lemmas.Bool.{eqb-true, or_parts}
use Rattle.std.proofs.lemmas.Bool.Decides.{nat_tests}
use Rattle.std.proofs.lemmas.List.Sums.{sum_by-cons}
use Rattle.c_chars.specs.Characters.{bytes_of, placed, phase_1, replaced, is_trigraph, trigraph}
use Rattle.c_chars.specs.declared.Dialect.{Dialect}
use Rattle.c_chars.specs.declared.Dialect.TheVariants.{C11, C23}
use Rattle.c_chars.specs.declared.LogicalChar.{LogicalChar}
use Rattle.c_chars.proofs.Cuts.{ends_in}
use Rattle.c_chars.proofs.Ends.{last_byte, ends_last}
use Rattle.item_kinds.specs.declared.ItemKind.{ItemKind}
use Rattle.item_kinds.specs.declared.ItemKind.TheVariants.{Identifier, Number, CharConst, StringLit, Punct, HeaderName, StrayQuote, Other, BlockComment, LineComment}
use Rattle.c_grammar.specs.Grammar.{is_new_line, is_white, Whole}
use Rattle.c_grammar.specs.Items.{Place, LineStart, AfterHash, InText, past_item, is_hash, IsNext, IsLongest}
use Rattle.c_grammar.specs.Touch.{ends, takes_line, is_punct}
use Rattle.c_grammar.specs.Text.{ReadItem, raw_of}
use Rattle.c_grammar.specs.Fitting.{in_directive, is_comment}
use Rattle.c_grammar.proofs.ItemBytes.{ReadAs, next_black}
use Rattle.c_grammar.proofs.NewText.{ends_return}
use Rattle.c_grammar.proofs.Stops.{stray_stops, line_stops}
use Rattle.c_grammar.proofs.Unique.{is_blank}
use Rattle.token_arena.specs.Stored.{Stored, stored_of, ends_in_backslash, new_lines}
use Rattle.token_arena.specs.Directives.{spelling}
use Rattle.replacements.specs.Guards.{guard_of}
use Rattle.replacements.specs.Stances.{hash_comes}
use Rattle.replacements.specs.declared.guard.Guard.TheVariants as guard
use Rattle.replacements.proofs.Broken.{Leaves}
use Rattle.replacements.proofs.TextLines.{leads_hash}

-- Its guard.

back_is : (cs : List LogicalChar) → ends_in_backslash cs ≡ ends (λ c. c == 92) (bytes_of cs)
back_is [] = refl
back_is (c ∷ []) = refl
back_is (c ∷ e ∷ s) = back_is (e ∷ s)

trigraph_no_return : (c : ℕ) → (trigraph c == 13) ≡ false
unfolding trigraph
trigraph_no_return c = by (c == 61) (c == 40) (c == 47) (c == 41) (c == 39) (c == 60) (c == 33) (c == 62) (c == 45)
  where
    by : (p q r s t u v w x : Bool) → ((if p then 35 else (if q then 91 else (if r then 92 else (if s then 93 else (if t then 94 else (if u then 123 else (if v then 124 else (if w then 125 else (if x then 126 else 0))))))))) == 13) ≡ false
    by true q r s t u v w x = refl
    by false true r s t u v w x = refl
    by false false true s t u v w x = refl
    by false false false true t u v w x = refl
    by false false false false true u v w x = refl
    by false false false false false true v w x = refl
    by false false false false false false true w x = refl
    by false false false false false false false true x = refl
    by false false false false false false false false true = refl
    by false false false false false false false false false = refl

-- a last `\r` is none of a trigraph
replaced_return : (z : ℕ) (s : List LogicalChar) → (last_byte z (replaced s) == 13) ≡ true → (last_byte z s == 13) ≡ true
replaced_return z [] h = h
replaced_return z (a ∷ []) h = h
replaced_return z (a ∷ b ∷ []) h = h
replaced_return z (a ∷ b ∷ c ∷ s) h = by (is_trigraph a b c) refl (replaced_return (trigraph c.byte) s) (replaced_return a.byte (b ∷ c ∷ s))
  where
    other : (n : ℕ) (s : List LogicalChar) → (n == 13) ≡ false → (last_byte n s == 13) ≡ true → (last_byte c.byte s == 13) ≡ true
    other n [] apart h = absurd (both n apart h)
      where
        both : (n : ℕ) → (n == 13) ≡ false → (n == 13) ≡ true → ⊥
        both n p q = cc
    other n (e ∷ s) apart h = h

    by : (t : Bool) → is_trigraph a b c ≡ t → ((last_byte (trigraph c.byte) (replaced s) == 13) ≡ true → (last_byte (trigraph c.byte) s == 13) ≡ true) →
        ((last_byte a.byte (replaced (b ∷ c ∷ s)) == 13) ≡ true → (last_byte a.byte (b ∷ c ∷ s) == 13) ≡ true) → (last_byte c.byte s == 13) ≡ true
    by true e first second = other (trigraph c.byte) s (trigraph_no_return c.byte) (first (ap (λ t. last_byte z (if t then record { byte = trigraph c.byte; from = a.from; to = c.to } ∷ replaced s else a ∷ replaced (b ∷ c ∷ s)) == 13) (sym e) ∙ h))
    by false e first second = second (ap (λ t. last_byte z (if t then record { byte = trigraph c.byte; from = a.from; to = c.to } ∷ replaced s else a ∷ replaced (b ∷ c ∷ s)) == 13) (sym e) ∙ h)

phase_return : (d : Dialect) (s : List LogicalChar) → (last_byte 0 (phase_1 d s) == 13) ≡ true → (last_byte 0 s == 13) ≡ true
phase_return C11 s h = replaced_return 0 s h
phase_return C23 s h = h

placed_ends : (n : ℕ) (raw : List ℕ) → (last_byte 0 (placed n raw) == 13) ≡ true → ends (λ b. b == 13) raw ≡ true
placed_ends n [] h = h
placed_ends n (b ∷ []) h = h
placed_ends n (b ∷ c ∷ s) h = more b c n s (placed_ends (n + 1) (c ∷ s)) h
  where
    more : (b c n : ℕ) (s : List ℕ) → ((last_byte 0 (placed (n + 1) (c ∷ s)) == 13) ≡ true → ends (λ b. b == 13) (c ∷ s) ≡ true) → (last_byte 0 (placed n (b ∷ c ∷ s)) == 13) ≡ true → ends (λ b. b == 13) (c ∷ s) ≡ true
    more b c n s rest h = rest h

-- the last character is a `\r`: so is the last byte
last_return : (d : Dialect) (cs : List LogicalChar) (raw : List ℕ) → ReadAs d cs raw → ends (λ c. c == 13) (bytes_of cs) ≡ true → ends (λ b. b == 13) raw ≡ true
last_return d cs raw reads h =
    let there : ends_in (λ c. c.byte == 13) (phase_1 d (placed 0 raw)) ≡ true = ends_return d 0 cs raw reads ∙ h in
    placed_ends 0 raw (phase_return d (placed 0 raw) (sym (ends_last 13 0 (phase_1 d (placed 0 raw)) refl) ∙ there))

-- one character is last
no_both : (s : List ℕ) → ends (λ c. c == 92) s ≡ true → ends (λ c. c == 13) s ≡ true → ⊥
no_both [] p q = cc
no_both (c ∷ []) p q = let e = eqb-true c 92 p in let f = eqb-true c 13 q in omega (arith, e, f)
no_both (c ∷ e ∷ s) p q = no_both (e ∷ s) p q

pub leaves_guard : (d : Dialect) (text : List ℕ) (first : Bool) (from : ℕ) (item : ReadItem) → ReadAs d item.chars (raw_of text item) → Leaves item (guard_of (stored_of text first from item))
leaves_guard d text first from item reads =
    by (ends_in_backslash item.chars) (takes_line item.kind) (ends (λ b. b == 13) (raw_of text item)) (back_is item.chars) refl
    (λ b h. no_both (bytes_of item.chars) b h)
    (λ h. last_return d item.chars (raw_of text item) reads h)
  where
    by : (b t r : Bool) → b ≡ ends (λ c. c == 92) (bytes_of item.chars) → takes_line item.kind ≡ t → (ends (λ c. c == 92) (bytes_of item.chars) ≡ true → ends (λ c. c == 13) (bytes_of item.chars) ≡ true → ⊥) →
        (ends (λ c. c == 13) (bytes_of item.chars) ≡ true → r ≡ true) →
        Leaves item (if b then (if t then guard.Splice else guard.Blank) else (if r then guard.Return else guard.Free))
    by true true r back line both last = record { line = λ h. refl; back = back; return = λ h. absurd (both (sym back) h) }
    by true false r back line both last = record { line = λ h. sym h ∙ line; back = back; return = λ h. absurd (both (sym back) h) }
    by false t true back line both last = record { line = λ h. refl; back = back; return = λ h. refl }
    by false t false back line both last = record { line = λ h. refl; back = back; return = last }

-- Its line.

-- behind an item that takes its line, and before another one, there is a new-line
pub keeps_line : (d : Dialect) (place there : Place) (kind next : ItemKind) (s t gap rest more : List ℕ) → rest ≡ gap ++ (t ++ more) → IsNext d place kind s rest → IsNext d there next t more → list_any is_new_line gap ≡ false → takes_line kind ≡ false
keeps_line d place there kind next s t gap rest more is (inl h) after none = ap takes_line h.1
keeps_line d place there kind next s t gap rest more is (inr h) after none = by kind (subst (λ z. IsLongest d (Whole kind) s z) whole h.1)
  where
    black : (f : ℕ) × (u : List ℕ) × (t ≡ f ∷ u) × (is_blank f ≡ false)
    black = next_black d there next t more after

    whole : rest ≡ gap ++ black.0 ∷ (black.1 ++ more)
    whole = is ∙ ap (λ z. gap ++ (z ++ more)) black.2

    clash : (f : ℕ) → is_blank f ≡ false → is_new_line f ≡ true → ⊥
    clash f p q = let n = or_parts (is_white f) (is_new_line f) p in let o = n.1 in cc

    any : (c : ℕ) (g : List ℕ) → list_any is_new_line (c ∷ g) ≡ false → is_new_line c ≡ true → ⊥
    any c g p q = let n = or_parts (is_new_line c) (list_any is_new_line g) p in let o = n.0 in cc

    stray : (g : List ℕ) → list_any is_new_line g ≡ false → IsLongest d (Whole StrayQuote) s (g ++ black.0 ∷ (black.1 ++ more)) → ⊥
    stray [] p long = clash black.0 black.3 (stray_stops d s black.0 (black.1 ++ more) long)
    stray (c ∷ g) p long = any c g p (stray_stops d s c (g ++ black.0 ∷ (black.1 ++ more)) long)

    by : (k : ItemKind) → IsLongest d (Whole k) s (gap ++ black.0 ∷ (black.1 ++ more)) → takes_line k ≡ false
    by Identifier long = refl
    by Number long = refl
    by CharConst long = refl
    by StringLit long = refl
    by Punct long = refl
    by HeaderName long = refl
    by StrayQuote long = absurd (stray gap none long)
    by Other long = refl
    by BlockComment long = refl
    by LineComment long = absurd (line_stops d s gap black.0 (black.1 ++ more) none black.3 long)

-- Its place.

-- The place is in no directive: in a text, or at the start of a line in which no `#` comes.
pub data OutPlace (d : Dialect) (place : Place) (tokens : List Stored) : Type 0 where
  in_text : place ≡ InText → OutPlace d place tokens
  at_start : place ≡ LineStart → hash_comes d tokens ≡ false → OutPlace d place tokens

pub out_place : (d : Dialect) (place : Place) (tokens : List Stored) → OutPlace d place tokens → in_directive place ≡ false
out_place d place tokens (in_text e) = ap in_directive e
out_place d place tokens (at_start e h) = ap in_directive e

text_on : (d : Dialect) (kind : ItemKind) (s : List ℕ) → past_item d InText kind s ≡ InText
text_on d Identifier s = refl
text_on d Number s = refl
text_on d CharConst s = refl
text_on d StringLit s = refl
text_on d Punct s = refl
text_on d HeaderName s = refl
text_on d StrayQuote s = refl
text_on d Other s = refl
text_on d BlockComment s = refl
text_on d LineComment s = refl

-- an item that begins a line, comments aside, and is no `#`
pub from_start : (d : Dialect) (t : Stored) (ts : List Stored) → leads_hash d t ts ≡ false → OutPlace d (past_item d LineStart t.kind (spelling d t)) ts
from_start d t ts h = by t.kind (is_hash (spelling d t)) refl h
  where
    by : (k : ItemKind) (b : Bool) → is_hash (spelling d t) ≡ b → (if is_comment k then hash_comes d ts else is_punct k && is_hash (spelling d t)) ≡ false → OutPlace d (past_item d LineStart k (spelling d t)) ts
    by Identifier b e h = in_text refl
    by Number b e h = in_text refl
    by CharConst b e h = in_text refl
    by StringLit b e h = in_text refl
    by Punct true e h = absurd (no (is_hash (spelling d t)) e h)
      where
        no : (x : Bool) → x ≡ true → x ≡ false → ⊥
        no x p q = cc
    by Punct false e h = in_text (ap (λ b. if b then AfterHash else InText) e)
    by HeaderName b e h = in_text refl
    by StrayQuote b e h = in_text refl
    by Other b e h = in_text refl
    by BlockComment b e h = at_start refl h
    by LineComment b e h = at_start refl h

-- the next item of the line
pub from_line : (d : Dialect) (place : Place) (t : Stored) (ts : List Stored) → t.gap.began ≡ false → OutPlace d place (t ∷ ts) → OutPlace d (past_item d place t.kind (spelling d t)) ts
from_line d place t ts e (in_text p) = in_text (ap (λ z. past_item d z t.kind (spelling d t)) p ∙ text_on d t.kind (spelling d t))
from_line d place t ts e (at_start p h) =
    let no : leads_hash d t ts ≡ false = ap (λ b. not b && leads_hash d t ts) (sym e) ∙ h in
    subst (λ z. OutPlace d (past_item d z t.kind (spelling d t)) ts) (sym p) (from_start d t ts no)

-- there are new-lines in a gap exactly where their number isn't 0
pub new_lines-any : (s : List LogicalChar) → not (new_lines s == 0) ≡ list_any is_new_line (bytes_of s)
new_lines-any [] = refl
new_lines-any (c ∷ s) =
    let rest : not (new_lines s == 0) ≡ list_any is_new_line (bytes_of s) = new_lines-any s in
    rw (sum_by-cons (λ (c : LogicalChar). if is_new_line c.byte then 1 else 0) c s)
    (elim (is_new_line c.byte) as (λ b. not ((if b then 1 else 0) + new_lines s == 0) ≡ (b || list_any is_new_line (bytes_of s))) [
      | true ↦ grind (arith, nat_tests)
      | false ↦ rw zero-add rest
    ])
