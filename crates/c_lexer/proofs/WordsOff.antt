-- Words, numbers and single characters, cut off a text of characters.
use Rattle.std.proofs.Common.{◌≡◌, ◌||◌, ◌<◌, true, false, ℕ, List, [], ◌∷◌, ◌++◌, length, length-append, take, drop, refl, sym, ◌∙◌, ap, subst, arith, inl, inr, not, append_assoc}
use Rattle.std.specs.Prelude.{codes}
use Rattle.std.proofs.Math.Seq.{take-append_seam, drop-append_seam}
use Rattle.std.proofs.lemmas.Bool.{or_left, or_right, or_parts, both_ways, false_from_ne_true}
use Rattle.unicode_ident.specs.Ident.{is_xid_start}
use Rattle.c_chars.specs.Characters.{bytes_of}
use Rattle.c_chars.specs.Coming.{Coming, behind}
use Rattle.c_chars.specs.declared.Dialect.{Dialect}
use Rattle.c_chars.specs.declared.LogicalChar.{LogicalChar}
use Rattle.c_grammar.specs.Grammar.{Whole, is_one, is_wide, is_letter, is_digit, is_letter_unit, is_word_unit, is_number_unit, is_white, is_new_line, is_other, is_other_unit, is_punctuator, is_of}
use Rattle.c_grammar.specs.Items.{IsLongest}
use Rattle.c_grammar.specs.Touch.{starts}
use Rattle.item_kinds.specs.declared.ItemKind.{ItemKind}
use Rattle.item_kinds.specs.declared.ItemKind.TheVariants.{Identifier, Number, Other}
use Rattle.c_grammar.proofs.Firsts.{is_mark, begins, not_start, punct_begins}
use Rattle.c_grammar.proofs.Singles.{letter_single}
use Rattle.c_grammar.proofs.Wide.{wide_alone}
use Rattle.c_grammar.specs.Bytes.{is_quote_mark, begins_punctuator}
use Rattle.c_lexer.specs.Cut.{IsCutOff}
use Rattle.c_lexer.specs.Literal.{begins_literal}
use Rattle.c_lexer.specs.Run.{begins_number}
use Rattle.c_grammar.specs.Utf8.{any_char, only}
use Rattle.c_lexer.specs.Unit.{BeginsUnit, IsUnitOff, IsRunOff, is_rare_unit}
use Rattle.c_lexer.proofs.CutOffs.{left_bytes, behind_again}
use Rattle.c_lexer.proofs.Literals.{word_longest_run, run_headed}
use Rattle.c_lexer.proofs.MarksOff.{no_digit}
use Rattle.c_lexer.proofs.Numbers.{head_len, number_longest_run, number_head}
use Rattle.c_lexer.proofs.Others.{other_longest}
use Rattle.c_grammar.proofs.OneChar.{wide_any, wide_only}
use Rattle.c_lexer.proofs.Units.{letter_is, rare_is_letter}

-- an item that a text begins with
cut_off : (x left : Coming) (kind : ItemKind) (a b : List ℕ) → bytes_of x.chars ≡ a ++ b → left ≡ behind x (length a) → IsLongest x.dialect (Whole kind) a b → IsCutOff x left kind
cut_off x left kind a b w e l = record {
  n = length a;
  some = let s = begins x.dialect (Whole kind) a l.spells in let n : length a ≡ length (s.c ∷ s.rest) = ap length s.whole in omega (arith, n);
  left_is = e;
  cut = subst (λ s. IsLongest x.dialect (Whole kind) (take (length a) s) (drop (length a) s)) (sym w)
      (subst (λ z. IsLongest x.dialect (Whole kind) z (drop (length a) (a ++ b))) (sym (take-append_seam a b)) (subst (λ z. IsLongest x.dialect (Whole kind) a z) (sym (drop-append_seam a b)) l));
}

-- what is left behind a front
rest_is : (x y : Coming) (a b : List ℕ) → bytes_of x.chars ≡ a ++ b → y ≡ behind x (length a) → bytes_of y.chars ≡ b
rest_is x y a b w e = left_bytes x y (length a) e ∙ (ap (λ z. drop (length a) z) w ∙ drop-append_seam a b)

-- a letter is a unit that starts a word
pub letter_first : (s : List ℕ) → starts is_letter s ≡ true → BeginsUnit is_letter_unit s
letter_first [] h = cc
letter_first (c ∷ s) h = record { unit = c ∷ []; rest = s; passes = letter_single c h; whole = refl }

pub rare_word : (s : List ℕ) → BeginsUnit (is_rare_unit is_xid_start) s → BeginsUnit is_letter_unit s
rare_word s b = record { unit = b.unit; rest = b.rest; passes = rare_is_letter b.unit b.passes; whole = b.whole }

pub word_off : (x left : Coming) → BeginsUnit is_letter_unit (bytes_of x.chars) → IsRunOff is_word_unit x left → (starts is_quote_mark (bytes_of left.chars) ≡ true → begins_literal x.dialect (bytes_of x.chars) ≡ false) → IsCutOff x left Identifier
word_off x left u r none =
    let spelled = run_headed u.unit u.rest r.front r.rest u.passes (sym r.whole ∙ u.whole) r.held in
    cut_off x left Identifier r.front r.rest r.whole r.left_is
    (word_longest_run x.dialect r.front r.rest spelled r.held (λ q. subst (λ z. begins_literal x.dialect z ≡ false) r.whole (none (subst (λ z. starts is_quote_mark z ≡ true) (sym (rest_is x left r.front r.rest r.whole r.left_is)) q))))

pub number_off : (x y left : Coming) (d : Dialect) → d ≡ x.dialect → begins_number (bytes_of x.chars) ≡ true → y ≡ behind x (head_len (bytes_of x.chars)) → IsRunOff (is_number_unit d) y left → IsCutOff x left Number
number_off x y left d same h e r =
    let n = number_head (bytes_of x.chars) h in
    let y_is : y ≡ behind x (length n.head) = e ∙ ap (λ k. behind x k) n.len in
    let tail : n.tail ≡ r.front ++ r.rest = sym (rest_is x y n.head n.tail n.whole y_is) ∙ r.whole in
    let whole : bytes_of x.chars ≡ (n.head ++ r.front) ++ r.rest = n.whole ∙ (ap (λ z. n.head ++ z) tail ∙ sym (append_assoc n.head r.front r.rest)) in
    let left_is : left ≡ behind x (length (n.head ++ r.front)) =
    r.left_is ∙ (ap (λ z. behind z (length r.front)) y_is ∙ (behind_again x (length n.head) (length r.front) ∙ ap (λ k. behind x k) (sym (length-append n.head r.front)))) in
    cut_off x left Number (n.head ++ r.front) r.rest whole left_is (subst (λ z. IsLongest z (Whole Number) (n.head ++ r.front) r.rest) same (number_longest_run d n.head r.front r.rest n.is_head r.held))

-- what begins none of the others is an Other
no_mark : (d : Dialect) (c : ℕ) → begins_punctuator c ≡ false → is_punctuator d (c ∷ []) ≡ false
unfolding begins_punctuator is_mark
no_mark d c m = false_from_ne_true (is_punctuator d (c ∷ [])) (λ p.
    let b = punct_begins d (c ∷ []) p in
    let w = b.whole in
    let heads : b.c ≡ c = cc in
    both_ways (begins_punctuator c) m (subst (λ z. begins_punctuator z ≡ true) heads b.passes))

others : (d : Dialect) (c : ℕ) → (is_white c || is_new_line c) ≡ false → is_letter c ≡ false → is_digit c ≡ false → begins_punctuator c ≡ false → is_quote_mark c ≡ false → is_other d c ≡ true
unfolding is_other
others d c b l g m q =
    let ws = or_parts (is_white c) (is_new_line c) b in
    let white = ws.0 in let line = ws.1 in
    let quote : is_of (codes "'\"") c ≡ false = q in
    let punct = no_mark d c m in
    rw (white, line, l, g, quote, punct) refl

no_word : (s : List ℕ) → starts is_letter s ≡ false → (BeginsUnit (is_rare_unit is_xid_start) s → ⊥) → BeginsUnit is_letter_unit s → ⊥
no_word s l rare b = elim (letter_is b.unit b.passes) [
  | inl e ↦ one b.unit e (subst (λ z. starts is_letter z ≡ false) b.whole l)
  | inr e ↦ rare (record { unit = b.unit; rest = b.rest; passes = e; whole = b.whole })
]
  where
    one : (u : List ℕ) → is_one is_letter u ≡ true → starts is_letter (u ++ b.rest) ≡ false → ⊥
    one [] e n = cc
    one (c ∷ []) e n = both_ways (is_letter c) n e
    one (c ∷ f ∷ u) e n = cc

-- a character past ASCII that starts no word
pub wide_off : (x left : Coming) (c : ℕ) → starts is_letter (bytes_of x.chars) ≡ false → (BeginsUnit (is_rare_unit is_xid_start) (bytes_of x.chars) → ⊥) → IsUnitOff (is_wide (only c)) x left → IsCutOff x left Other
unfolding is_rare_unit is_other_unit
wide_off x left c l rare r =
    let word = no_word (bytes_of x.chars) l rare in
    let start : is_xid_start c ≡ false = false_from_ne_true (is_xid_start c) (λ s. rare (record { unit = r.front; rest = r.rest; passes = or_right _ (is_wide is_xid_start r.front) (wide_only is_xid_start c r.front s r.held.holds); whole = r.whole })) in
    let wide : is_wide not_start r.front ≡ true = wide_only not_start c r.front (ap not start) r.held.holds in
    cut_off x left Other r.front r.rest r.whole r.left_is
    (other_longest x.dialect r.front r.rest (or_right (is_one (is_other x.dialect) r.front) (is_wide not_start r.front) wide) (λ b. word (subst (BeginsUnit is_letter_unit) (sym r.whole) b))
    (λ e more end w g. let none = wide_alone (only c) not_start r.front (e ∷ more) r.held.holds g in cc))

-- any other character by itself
pub other_off : (x left : Coming) → 0 < length x.chars → starts (λ c. is_white c || is_new_line c) (bytes_of x.chars) ≡ false → starts is_letter (bytes_of x.chars) ≡ false → (BeginsUnit (is_rare_unit is_xid_start) (bytes_of x.chars) → ⊥) →
    begins_number (bytes_of x.chars) ≡ false → starts begins_punctuator (bytes_of x.chars) ≡ false → starts is_quote_mark (bytes_of x.chars) ≡ false → (BeginsUnit (is_wide any_char) (bytes_of x.chars) → ⊥) → left ≡ behind x 1 → IsCutOff x left Other
unfolding is_other_unit
other_off x left some b l rare n m q none e = at (bytes_of x.chars) refl (bytes_some x.chars some) b l (no_digit (bytes_of x.chars) n) m q
  where
    bytes_some : (s : List LogicalChar) → 0 < length s → 0 < length (bytes_of s)
    bytes_some [] h = absurd (omega arith)
    bytes_some (c ∷ s) h = omega arith

    at : (s : List ℕ) → bytes_of x.chars ≡ s → 0 < length s → starts (λ c. is_white c || is_new_line c) s ≡ false → starts is_letter s ≡ false → starts is_digit s ≡ false → starts begins_punctuator s ≡ false → starts is_quote_mark s ≡ false → IsCutOff x left Other
    at [] w h b l g m q = absurd (omega arith)
    at (c ∷ s) w h b l g m q =
        cut_off x left Other (c ∷ []) s w e
        (other_longest x.dialect (c ∷ []) s (or_left (is_other x.dialect c) (is_wide not_start (c ∷ [])) (others x.dialect c b l g m q))
        (λ u. no_word (c ∷ s) l (λ v. rare (subst (BeginsUnit (is_rare_unit is_xid_start)) (sym w) v)) u)
        (λ f more end r i. none (record { unit = c ∷ f ∷ more; rest = end; passes = wide_any not_start (c ∷ f ∷ more) i; whole = w ∙ ap (λ z. c ∷ z) r })))
