-- From the characters that stand next to the text's next item.
use Rattle.std.proofs.Common.{◌≡◌, ◌||◌, Bool, true, false, ℕ, suc, ◌-◌, ◌≤◌, ◌<◌, List, [], ◌∷◌, length, take, drop, refl, sym, ◌∙◌, ap, subst, arith, inl, inr}
use Rattle.std.specs.Prelude.{Some, None, slice_get, if◌then◌else◌}
use Rattle.std.specs.List.{list_any, list_all, prefix_len}
use Rattle.std.proofs.lemmas.Bool.{cases_Bool}
use Rattle.std.proofs.lemmas.List.{length-drop, length-take-le}
use Rattle.c_chars.specs.Characters.{bytes_of}
use Rattle.c_chars.specs.Coming.{Coming, AreBetween, passed, behind}
use Rattle.c_chars.specs.declared.Dialect.{Dialect}
use Rattle.c_chars.specs.declared.LogicalChar.{LogicalChar}
use Rattle.c_grammar.specs.Grammar.{Unended, is_white, is_new_line}
use Rattle.c_grammar.specs.Items.{Place, LineStart, IsNext, IsLongest, is_gap, past_gap, past_item}
use Rattle.c_grammar.specs.Text.{begin_of}
use Rattle.c_grammar.specs.Touch.{starts}
use Rattle.item_kinds.specs.declared.ItemKind.{ItemKind}
use Rattle.c_lexer.specs.Cut.{IsStop}
use Rattle.c_lexer.specs.Fault.{IsAt, IsFault, past_blank, fault_of}
use Rattle.c_lexer.specs.Next.{IsCutNext}
use Rattle.c_grammar.specs.Place.{IsSpanned, SpelledBy}
use Rattle.c_lexer.specs.Reading.{Reading, IsNextItem}
use Rattle.c_lexer.specs.declared.cut.Stop.{Stop}
use Rattle.c_lexer.specs.declared.cut.Stop.TheVariants.{Unterminated}
use Rattle.c_lexer.proofs.Runs.{stops}
use Rattle.c_lexer.proofs.Stepping.{behind_chars, behind_dialect, between_behind, at_within, starts_before, step_of, bytes_drop}

abbrev is_blank : ℕ → Bool
is_blank c = is_white c || is_new_line c

-- the gap that the characters begin with has so many
abbrev pub gap_of : Coming → ℕ
gap_of x = prefix_len (λ c. is_white c || is_new_line c) (bytes_of x.chars)

first_of_some : (s : List LogicalChar) (c : LogicalChar) → slice_get s 0 ≡ Some c → s ≡ c ∷ drop 1 s
first_of_some [] c h = cc
first_of_some (e ∷ s) c h = let same : e ≡ c = cc in ap (λ z. z ∷ s) same

first_of_none : (s : List LogicalChar) → slice_get s 0 ≡ None → s ≡ []
first_of_none [] h = refl
first_of_none (e ∷ s) h = cc

all_pass : (p : ℕ → Bool) (s : List ℕ) → drop (prefix_len p s) s ≡ [] → list_all p s ≡ true
all_pass p [] h = refl
all_pass p (c ∷ s) h = elim (cases_Bool (p c)) [
  | inl y ↦
      let len : prefix_len p (c ∷ s) ≡ suc (prefix_len p s) = rw y (omega arith) in
      let rest : drop (prefix_len p s) s ≡ [] = sym (ap (λ k. drop k (c ∷ s)) len) ∙ h in
      rw y (all_pass p s rest)
  | inr y ↦
      let len : prefix_len p (c ∷ s) ≡ 0 = rw y refl in
      let rest : c ∷ s ≡ [] = sym (ap (λ k. drop k (c ∷ s)) len) ∙ h in
      cc
]

rest_chars : (x y : Coming) (n : ℕ) → y ≡ behind x n → y.chars ≡ drop n x.chars
rest_chars x y n e = ap (λ z. z.chars) e ∙ behind_chars x.dialect x.at n x.chars

rest_bytes : (x y : Coming) (n : ℕ) → y ≡ behind x n → bytes_of y.chars ≡ drop n (bytes_of x.chars)
rest_bytes x y n e = ap bytes_of (rest_chars x y n e) ∙ bytes_drop n x.chars

-- behind some characters it still stands in its text
pub at_rest : (text : List ℕ) (d : Dialect) (x y : Coming) (n : ℕ) → IsAt text d x → y ≡ behind x n → IsAt text d y
at_rest text d x y n a e = subst (IsAt text d) (sym e) (record {
  dialect_is = behind_dialect x.dialect x.at n x.chars ∙ a.dialect_is;
  spans = between_behind x.dialect x.at n (length text) x.chars a.spans;
})

pub spanned : (text : List ℕ) (d : Dialect) (x : Coming) → IsAt text d x → IsSpanned x
spanned text d x a = record { high = length text; spans = a.spans }

-- a character stands behind the gap
pub some_left : (y : Coming) (first : LogicalChar) → slice_get y.chars 0 ≡ Some first → 0 < length y.chars
some_left y first h = let e = first_of_some y.chars first h in subst (λ z. 0 < length z) (sym e) (omega arith)

pub begins_item : (x y : Coming) → y ≡ behind x (gap_of x) → starts (λ c. is_white c || is_new_line c) (bytes_of y.chars) ≡ false
begins_item x y e = subst (λ z. starts is_blank z ≡ false) (sym (rest_bytes x y (gap_of x) e)) (stops is_blank (bytes_of x.chars))

-- none is left
pub only_gap : (x y : Coming) → y ≡ behind x (gap_of x) → slice_get y.chars 0 ≡ None → is_gap (bytes_of x.chars) ≡ true
only_gap x y e h = all_pass is_blank (bytes_of x.chars) (sym (rest_bytes x y (gap_of x) e) ∙ ap bytes_of (first_of_none y.chars h))

pub bounds : (text : List ℕ) (d : Dialect) (place : Place) (y left : Coming) (kind : ItemKind) (first : LogicalChar) → IsAt text d y → slice_get y.chars 0 ≡ Some first → IsCutNext place y left kind → (first.from ≤ left.at) × (left.at ≤ length text)
bounds text d place y left kind first a h c =
    let e : y.chars ≡ first ∷ drop 1 y.chars = first_of_some y.chars first h in
    let there : left.at ≡ (passed y.dialect y.at (first ∷ drop 1 y.chars) c.n).at = ap (λ z. z.at) c.left_is ∙ ap (λ z. (passed y.dialect y.at z c.n).at) e in
    let spans : AreBetween y.at (first ∷ drop 1 y.chars) (length text) = subst (λ z. AreBetween y.at z (length text)) e a.spans in (
      subst (λ k. first.from ≤ k) (sym there) (starts_before y.dialect y.at c.n (length text) first (drop 1 y.chars) spans c.some),
      at_within left.at (length text) left.chars (at_rest text d y left c.n a c.left_is).spans,
    )

-- how many bytes stand between two offsets
pub length-between : (from to : ℕ) (text : List ℕ) → from ≤ to → to ≤ length text → length (take (to - from) (drop from text)) ≡ to - from
length-between from to text order within =
    let behind = length-drop from text in
    length-take-le (to - from) (drop from text) (omega (arith, behind, order, within))

pub fault_there : (text : List ℕ) (d : Dialect) (place : Place) (x y : Coming) (first : LogicalChar) (stop : Stop) → IsAt text d x → y ≡ behind x (gap_of x) → slice_get y.chars 0 ≡ Some first → IsStop y stop →
    IsFault (record { text = text; dialect = d; left = record { place = place; chars = x.chars }; at = x.at }) (fault_of stop first.from)
fault_there text d place x y first Unterminated a e h s =
    let rest : y.chars ≡ past_blank x.chars = rest_chars x y (gap_of x) e in
    let same : y.dialect ≡ d = (at_rest text d x y (gap_of x) a e).dialect_is in (
      ap begin_of (sym (first_of_some y.chars first h) ∙ rest),
      subst (λ z. IsLongest d Unended (bytes_of z) []) rest (subst (λ z. IsLongest z Unended (bytes_of y.chars) []) same s),
    )

pub next_there : (text : List ℕ) (d : Dialect) (place here past : Place) (x y left : Coming) (b : Bool) (first : LogicalChar) (kind : ItemKind) (raw : List ℕ) → IsAt text d x →
    b ≡ list_any is_new_line (take (gap_of x) (bytes_of x.chars)) → y ≡ behind x (gap_of x) → slice_get y.chars 0 ≡ Some first → here ≡ (if b then LineStart else place) → IsCutNext here y left kind →
    SpelledBy y left (λ s. past ≡ past_item d here kind s) → raw ≡ take (left.at - first.from) (drop first.from text) →
    IsNextItem (record { text = text; dialect = d; left = record { place = place; chars = x.chars }; at = x.at }) (record { text = text; dialect = d; left = record { place = past; chars = left.chars }; at = left.at }) kind first.from raw
next_there text d place here past x y left b first kind raw a line e h p c spelled r =
    let old : Reading = record { text = text; dialect = d; left = record { place = place; chars = x.chars }; at = x.at } in
    let some : y.chars ≡ first ∷ drop 1 y.chars = first_of_some y.chars first h in
    let same : y.dialect ≡ d = (at_rest text d x y (gap_of x) a e).dialect_is in
    let gap_place : here ≡ past_gap place (take (gap_of x) (bytes_of x.chars)) = p ∙ ap (λ z. if z then LineStart else place) line in
    let next : IsNext d (past_gap place (take (gap_of x) (bytes_of x.chars))) kind (take c.n (bytes_of (first ∷ drop 1 y.chars))) (drop c.n (bytes_of (first ∷ drop 1 y.chars))) =
    subst (λ z. IsNext d (past_gap place (take (gap_of x) (bytes_of x.chars))) kind (take c.n (bytes_of z)) (drop c.n (bytes_of z))) some
    (subst (λ z. IsNext d z kind (take c.n (bytes_of y.chars)) (drop c.n (bytes_of y.chars))) gap_place
    (subst (λ z. IsNext z here kind (take c.n (bytes_of y.chars)) (drop c.n (bytes_of y.chars))) same c.next)) in
    let step = step_of d text place x.at left.at y.at (gap_of x) c.n (length text) x.chars first (drop 1 y.chars) kind refl (sym (rest_chars x y (gap_of x) e) ∙ some) c.some
    (subst (λ z. c.n ≤ length z) some c.within) next in
    let left_chars : drop c.n (first ∷ drop 1 y.chars) ≡ left.chars = sym (rest_chars y left c.n c.left_is ∙ ap (λ z. drop c.n z) some) in
    let left_at : (passed d y.at (first ∷ drop 1 y.chars) c.n).at ≡ left.at =
    sym (ap (λ z. z.at) c.left_is ∙ (ap (λ z. (passed z y.at y.chars c.n).at) same ∙ ap (λ z. (passed d y.at z c.n).at) some)) in
    let place_is : past_item d (past_gap place (take (gap_of x) (bytes_of x.chars))) kind (take c.n (bytes_of (first ∷ drop 1 y.chars))) ≡ past =
    sym (spelled c.n c.within c.left_is ∙ (ap (λ z. past_item d z kind (take c.n (bytes_of y.chars))) gap_place ∙ ap (λ z. past_item d (past_gap place (take (gap_of x) (bytes_of x.chars))) kind (take c.n (bytes_of z))) some)) in
    let raw_is : take ((passed d y.at (first ∷ drop 1 y.chars) c.n).at - first.from) (drop first.from text) ≡ raw = ap (λ k. take (k - first.from) (drop first.from text)) left_at ∙ sym r in
    subst (λ z. IsNextItem old (record { text = text; dialect = d; left = record { place = past; chars = left.chars }; at = left.at }) kind first.from z) raw_is
    (subst (λ z. IsNextItem old (record { text = text; dialect = d; left = record { place = z; chars = left.chars }; at = left.at }) kind first.from (take ((passed d y.at (first ∷ drop 1 y.chars) c.n).at - first.from) (drop first.from text))) place_is
    (subst (λ z. IsNextItem old (record { text = text; dialect = d; left = record { place = past_item d (past_gap place (take (gap_of x) (bytes_of x.chars))) kind (take c.n (bytes_of (first ∷ drop 1 y.chars))); chars = z }; at = left.at }) kind first.from
    (take ((passed d y.at (first ∷ drop 1 y.chars) c.n).at - first.from) (drop first.from text))) left_chars step))
