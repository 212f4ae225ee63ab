-- Words at the front of what is spelled.
use Rattle.std.proofs.Common.{◌≡◌, ◌==◌, ◌&&◌, not, ℕ, suc, ◌-◌, ◌<◌, ◌≤◌, arith, true, false, List, [], ◌∷◌, ◌++◌, length, take, drop, get_or, slice_index_or, refl, sym, ◌∙◌, ap}
use Rattle.std.proofs.Math.Seq.{take-length}
use Rattle.std.proofs.lemmas.Bool.{and_parts, not-true, both_ways, eq-eqb}
use Rattle.c_chars.specs.Characters.{bytes_of, is_plain}
use Rattle.c_chars.specs.declared.Dialect.{Dialect}
use Rattle.c_chars.proofs.FirstUnits.{step_plain}
use Rattle.c_chars.proofs.Moved.{bytes_at}
use Rattle.c_grammar.proofs.White.{unit_plain}
use Rattle.c_grammar.specs.Grammar.{is_same}
use Rattle.c_grammar.specs.Rewritten.{read_alone}
use Rattle.c_grammar.specs.Touch.{is_front}

-- one more character of the word
pub front_more : (b : ℕ) (word s more left : List ℕ) → word ≡ b ∷ more → s ≡ b ∷ left → is_front word s ≡ is_front more left
front_more b word s more left w e = rw (w, e) (same b)
  where
    same : (b : ℕ) → ((b == b) && is_front more left) ≡ is_front more left
    same b = grind arith

pub front_other : (b c : ℕ) (word s more left : List ℕ) → word ≡ b ∷ more → s ≡ c ∷ left → (c ≡ b → ⊥) → is_front word s ≡ false
front_other b c word s more left w e ne = rw (w, e) (other b c ne)
  where
    other : (b c : ℕ) → (c ≡ b → ⊥) → ((b == c) && is_front more left) ≡ false
    other b c ne = grind arith

pub front_none : (b : ℕ) (word s more : List ℕ) → word ≡ b ∷ more → s ≡ [] → is_front word s ≡ false
front_none b word s more w e = rw (w, e) refl

pub front_of : (word left : List ℕ) → is_front word (word ++ left) ≡ true
front_of [] left = refl
front_of (b ∷ word) left = front_more b (b ∷ word) ((b ∷ word) ++ left) word (word ++ left) refl refl ∙ front_of word left

-- behind the word nothing is left, or something is
pub same_word : (word : List ℕ) → is_same (word ++ []) word ≡ true
same_word [] = refl
same_word (b ∷ word) = grind (arith, same_word word)

pub longer_word : (word : List ℕ) (c : ℕ) (left : List ℕ) → is_same (word ++ c ∷ left) word ≡ false
longer_word [] c left = refl
longer_word (b ∷ word) c left = grind (arith, longer_word word c left)

pub same_front : (word s : List ℕ) → is_front word s ≡ false → is_same s word ≡ false
same_front [] s h = grind arith
same_front (b ∷ word) [] h = refl
same_front (b ∷ word) (c ∷ s) h = grind (arith, same_front word s)

-- where all that is read is a word and then nothing, or something
pub word_alone : (word s left : List ℕ) → s ≡ word ++ left → left ≡ [] → true ≡ is_same s word
word_alone word s left e n = rw (e, n) (sym (same_word word))

pub word_and_more : (word s left more : List ℕ) (c : ℕ) → s ≡ word ++ left → left ≡ c ∷ more → false ≡ is_same s word
word_and_more word s left more c e n = rw (e, n) (sym (longer_word word c more))

pub begins : (word s left : List ℕ) → s ≡ word ++ left → true ≡ is_front word s
begins word s left e = rw e (sym (front_of word left))

-- a plain byte is a character
pub plain_alone : (d : Dialect) (b : ℕ) (bytes : List ℕ) → is_plain b ≡ true → read_alone d (b ∷ bytes) ≡ b ∷ read_alone d bytes
plain_alone d b bytes plain =
    let first = and_parts (not (b == 63)) (not (b == 13) && not (b == 92)) plain in
    let second = and_parts (not (b == 13)) (not (b == 92)) first.1 in
    let unit = unit_plain d b bytes (not-true (b == 63) first.0) (not-true (b == 13) second.0) in
    ap bytes_of (step_plain d (b ∷ bytes) bytes b 1 0 unit refl (not-true (b == 92) second.1)) ∙ ap (λ z. b ∷ z) (bytes_at d 1 bytes)

pub plain_first : (d : Dialect) (bytes : List ℕ) → 1 ≤ length bytes → is_plain (slice_index_or bytes 0 0) ≡ true → read_alone d bytes ≡ slice_index_or bytes 0 0 ∷ read_alone d (take (length bytes - 1) (drop 1 bytes))
plain_first d [] some plain = absurd (omega (arith, some))
plain_first d (b ∷ bytes) some plain =
    let fewer : suc (length bytes) - 1 ≡ length bytes = omega arith in
    plain_alone d b bytes plain ∙ ap (λ z. b ∷ read_alone d z) (sym (ap (λ n. take n bytes) fewer ∙ take-length bytes))

-- another plain byte first
pub apart : (d : Dialect) (raw word : List ℕ) → 0 < length raw → 0 < length word → is_plain (get_or raw 0 0) ≡ true → (get_or raw 0 0 == get_or word 0 0) ≡ false
    → is_front word (read_alone d raw) ≡ false
apart d [] word some more plain ne = absurd (omega (arith, some))
apart d (b ∷ raw) [] some more plain ne = absurd (omega (arith, more))
apart d (b ∷ raw) (c ∷ word) some more plain ne = front_other c b (c ∷ word) (read_alone d (b ∷ raw)) word (read_alone d raw) refl (plain_alone d b raw plain) (λ e. both_ways (b == c) ne (eq-eqb b c e))
