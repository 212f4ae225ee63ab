-- Words are looked for among all of them, and punctuators among those with their first character alone.
use Rattle.std.proofs.Common.{◌≡◌, ◌≢◌, ◌∙◌, ◌==◌, ◌||◌, ℕ, zero, suc, ◌<◌, Bool, true, false, cond, List, [], ◌∷◌, ◌++◌, length, get_or, filter, refl, sym, ap, arith, eq-eqb, bytes_eq}
use Rattle.std.specs.List.{list_all, list_any}
use Rattle.std.proofs.lemmas.Bool.{and_parts, eqb-true, ne_eqb, false_from_ne_true, false≢true}
use Rattle.std.proofs.lemmas.Slice.Eq.{bytes_eq-Decides}
use Rattle.token_classes.specs.declared.class.TokenClass.{TokenClass}
use Rattle.token_classes.specs.Words.{class_in, statement_words, call_words, type_words, words, begins, named_class, word_class, punctuators}

-- a character is none of these
abbrev pub Outside : ℕ → List ℕ → Type 0
Outside b [] = Unit {0}
Outside b (l ∷ ls) = (b ≢ l) × Outside b ls

not_among : (b x : ℕ) (ls : List ℕ) → Outside b ls → list_any (λ l. l == x) ls ≡ true → b ≢ x
not_among b x [] o h = absurd (false≢true h)
not_among b x (l ∷ ls) o h = by_test (l == x) refl h (not_among b x ls o.1)
  where
    by_test : (t : Bool) → (l == x) ≡ t → (t || list_any (λ k. k == x) ls) ≡ true → (list_any (λ k. k == x) ls ≡ true → b ≢ x) → b ≢ x
    by_test true e h later = λ same. o.0 (same ∙ sym (eqb-true l x e))
    by_test false e h later = later h

none_begins : (b : ℕ) (ls : List ℕ) (rows : List (List ℕ × TokenClass)) → Outside b ls
    → list_all (λ row. list_any (λ l. l == get_or row.0 0 0) ls) rows ≡ true → filter (begins b) rows ≡ []
none_begins b ls [] o h = refl
none_begins b ls (row ∷ rows) o h =
    let parts = and_parts (list_any (λ l. l == get_or row.0 0 0) ls) (list_all (λ r. list_any (λ l. l == get_or r.0 0 0) ls) rows) h in
    rw (ne_eqb b (get_or row.0 0 0) (not_among b (get_or row.0 0 0) ls o parts.0)) (none_begins b ls rows o parts.1)

class_in-append : (rows more : List (List ℕ × TokenClass)) (s : List ℕ) (named : TokenClass) → class_in (rows ++ more) s named ≡ class_in rows s (class_in more s named)
class_in-append [] more s named = refl
class_in-append (row ∷ rows) more s named = ap (λ (class : TokenClass). cond (bytes_eq s row.0) row.1 class) (class_in-append rows more s named)

class_in-begins : (b : ℕ) (s : List ℕ) (rows : List (List ℕ × TokenClass)) (named : TokenClass) → class_in (filter (begins b) rows) (b ∷ s) named ≡ class_in rows (b ∷ s) named
class_in-begins b s [] named = refl
class_in-begins b s (row ∷ rows) named = by_test (begins b row) refl (class_in-begins b s rows named)
  where
    by_test : (t : Bool) → begins b row ≡ t → class_in (filter (begins b) rows) (b ∷ s) named ≡ class_in rows (b ∷ s) named
        → class_in (filter (begins b) (row ∷ rows)) (b ∷ s) named ≡ class_in (row ∷ rows) (b ∷ s) named
    by_test true is rest = rw is (ap (λ (class : TokenClass). cond (bytes_eq (b ∷ s) row.0) row.1 class) rest)
    by_test false is rest =
        let differs : bytes_eq (b ∷ s) row.0 ≡ false =
        false_from_ne_true _ (λ e. false≢true (sym is ∙ eq-eqb b (get_or row.0 0 0) (ap (λ (w : List ℕ). get_or w 0 0) ((bytes_eq-Decides (b ∷ s) row.0).0 e)))) in
        rw (is, differs) rest

-- a word's class is that among all words of the language
pub word_class_words : (s : List ℕ) → class_in words s (named_class s) ≡ word_class s
word_class_words s =
    class_in-append statement_words (call_words ++ type_words) s (named_class s)
    ∙ ap (λ (class : TokenClass). class_in statement_words s class) (class_in-append call_words type_words s (named_class s))

-- the characters that punctuators with a class of their own begin with
abbrev pub first_marks : List ℕ
first_marks = 33 ∷ 35 ∷ 37 ∷ 38 ∷ 40 ∷ 41 ∷ 42 ∷ 43 ∷ 44 ∷ 45 ∷ 46 ∷ 47 ∷ 58 ∷ 59 ∷ 60 ∷ 61 ∷ 62 ∷ 63 ∷ 91 ∷ 93 ∷ 94 ∷ 123 ∷ 124 ∷ 125 ∷ 126 ∷ []

-- no punctuator with a class of its own begins with another character
pub no_other_mark : (b : ℕ) → Outside b first_marks → filter (begins b) punctuators ≡ []
no_other_mark b o = none_begins b first_marks punctuators o refl

-- a punctuator's class is told by the punctuators with its first character
pub mark_class_begins : (b : ℕ) (s : List ℕ) (named : TokenClass) → 0 < length s → b ≡ get_or s 0 0 → class_in (filter (begins b) punctuators) s named ≡ class_in punctuators s named
mark_class_begins b [] named some first = absurd (omega arith)
mark_class_begins b (x ∷ s) named some first = ap (λ (y : ℕ). class_in (filter (begins y) punctuators) (x ∷ s) named) first ∙ class_in-begins x s punctuators named

-- a text that isn't empty has a first character
pub some_first : (n : ℕ) (none : Bool) → none ≡ (n == 0) → none ≡ false → 0 < n
some_first zero none e f = absurd (false≢true (sym f ∙ e))
some_first (suc n) none e f = omega arith
