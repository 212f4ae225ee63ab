-- Runs of bytes that are characters by themselves.
use Rattle.std.proofs.Common.{◌≡◌, ◌==◌, ◌&&◌, not, cond, nat_le, ℕ, suc, ◌+◌, ◌-◌, ◌≤◌, ◌<◌, add-one, arith, drop-cons, length, get_or, Bool, true, false, List, [], ◌∷◌, ◌++◌, take, drop, refl, sym, ◌∙◌, ap, subst, inl, inr}
use Rattle.std.specs.List.{list_all, prefix_len}
use Rattle.std.proofs.lemmas.List.{length-drop, take_all}
use Rattle.std.proofs.lemmas.List.Folds.{length-prefix_len}
use Rattle.std.proofs.lemmas.Bool.{and_parts, and_from, and_right, cases_Bool, not-true}
use Rattle.std.proofs.lemmas.Bool.Decides.{nat_tests}
use Rattle.c_chars.specs.Characters.{bytes_of, chars, placed, IsUnit, begins_trigraph, begins_return, has_trigraphs, is_comment_byte, is_comment_ink, is_ink_byte, is_plain, is_quiet_byte, is_space_byte, is_text_byte, is_word_byte}
use Rattle.c_chars.specs.Coming.{Coming, AreBytesPassed, ArePassed, AreSpacesPassed}
use Rattle.c_chars.specs.declared.Dialect.{Dialect}
use Rattle.c_chars.specs.declared.LogicalChar.{LogicalChar}
use Rattle.c_chars.proofs.FirstUnits.{at_plain, char_is, no_chars, step_plain}
use Rattle.c_chars.proofs.Moved.{bytes_at}

no_trigraph : (d : Dialect) (b : ℕ) (s : List ℕ) → (b == 63) ≡ false → (has_trigraphs d && begins_trigraph (b ∷ s)) ≡ false
no_trigraph d b [] q = and_right (has_trigraphs d) false refl
no_trigraph d b (c ∷ []) q = and_right (has_trigraphs d) false refl
no_trigraph d b (c ∷ e ∷ s) q = rw q (and_right (has_trigraphs d) false refl)

no_return : (b : ℕ) (s : List ℕ) → (b == 13) ≡ false → begins_return (b ∷ s) ≡ false
no_return b [] r = refl
no_return b (c ∷ s) r = rw r refl

pub plain_first : (d : Dialect) (at b : ℕ) (s : List ℕ) → is_plain b ≡ true → chars d at (b ∷ s) ≡ record { byte = b; from = at; to = at + 1 } ∷ chars d (at + 1) s
plain_first d at b s h =
    let p = and_parts (not (b == 63)) (not (b == 13) && not (b == 92)) h in
    let q = and_parts (not (b == 13)) (not (b == 92)) p.1 in
    let unit : IsUnit d (b ∷ s) b 1 = at_plain d (b ∷ s) (omega arith) (no_trigraph d b s (not-true (b == 63) p.0)) (no_return b s (not-true (b == 13) q.0)) in
    step_plain d (b ∷ s) s b 1 at unit refl (not-true (b == 92) q.1)

pub word_plain : (b : ℕ) → is_word_byte b ≡ true → is_plain b ≡ true
unfolding is_word_byte
word_plain b h = grind (arith, nat_tests)

none_passed : (p : ℕ → Bool) (d : Dialect) (at : ℕ) (s : List LogicalChar) (new : Coming) → new ≡ record { dialect = d; at = at; chars = s } → ArePassed p (record { dialect = d; at = at; chars = s }) new
none_passed p d at s new e = record { n = 0; within = omega arith; all = refl; new_is = e }

one_passed : (p : ℕ → Bool) (d : Dialect) (at : ℕ) (c : LogicalChar) (s : List LogicalChar) (new : Coming) → p c.byte ≡ true → ArePassed p (record { dialect = d; at = c.to; chars = s }) new →
    ArePassed p (record { dialect = d; at = at; chars = c ∷ s }) new
one_passed p d at c s new h r = record { n = suc r.n; within = omega (arith, r.within); all = and_from (p c.byte) _ h r.all; new_is = r.new_is }

-- the reader behind the bytes of the run
behind_run : (ℕ → Bool) → Dialect → ℕ → List ℕ → Coming
behind_run p d at s = record { dialect = d; at = at + prefix_len p s; chars = chars d (at + prefix_len p s) (drop (prefix_len p s) s) }

run : (p : ℕ → Bool) (d : Dialect) (at : ℕ) (s : List ℕ) → ((b : ℕ) → p b ≡ true → is_plain b ≡ true) → ArePassed p (record { dialect = d; at = at; chars = chars d at s }) (behind_run p d at s)
unfolding behind_run
run p d at [] plain = let z : at + 0 ≡ at = omega arith in none_passed p d at (chars d at []) (behind_run p d at []) (ap (λ k. record { dialect = d; at = k; chars = chars d k [] }) z)
run p d at (b ∷ s) plain = elim (cases_Bool (p b)) [
  | inl y ↦
      let r = run p d (at + 1) s plain in
      let len : prefix_len p (b ∷ s) ≡ suc (prefix_len p s) = rw y (omega arith) in
      let far : at + suc (prefix_len p s) ≡ (at + 1) + prefix_len p s = omega arith in
      let new : behind_run p d at (b ∷ s) ≡ behind_run p d (at + 1) s =
      ap (λ k. record { dialect = d; at = at + k; chars = chars d (at + k) (drop k (b ∷ s)) }) len ∙ ap (λ k. record { dialect = d; at = k; chars = chars d k (drop (prefix_len p s) s) }) far in
      subst (λ z. ArePassed p (record { dialect = d; at = at; chars = z }) (behind_run p d at (b ∷ s))) (sym (plain_first d at b s (plain b y)))
      (subst (λ z. ArePassed p (record { dialect = d; at = at; chars = record { byte = b; from = at; to = at + 1 } ∷ chars d (at + 1) s }) z) (sym new)
      (one_passed p d at (record { byte = b; from = at; to = at + 1 }) (chars d (at + 1) s) (behind_run p d (at + 1) s) y r))
  | inr n ↦
      let len : prefix_len p (b ∷ s) ≡ 0 = rw n refl in
      let z : at + 0 ≡ at = omega arith in
      none_passed p d at (chars d at (b ∷ s)) (behind_run p d at (b ∷ s))
      (ap (λ k. record { dialect = d; at = at + k; chars = chars d (at + k) (drop k (b ∷ s)) }) len ∙ ap (λ k. record { dialect = d; at = k; chars = chars d k (b ∷ s) }) z)
]

-- a reader that passed bytes of a run
pub run_passed : (p : ℕ → Bool) (d d2 : Dialect) (at at2 n : ℕ) (s rest : List ℕ) → ((b : ℕ) → p b ≡ true → is_plain b ≡ true) → n ≡ prefix_len p s → d2 ≡ d → at2 ≡ at + n → rest ≡ drop n s →
    ArePassed p (record { dialect = d; at = at; chars = chars d at s }) (record { dialect = d2; at = at2; chars = chars d2 at2 rest })
unfolding behind_run
run_passed p d d2 at at2 n s rest plain e dd aa rr =
    let far : at2 ≡ at + prefix_len p s = aa ∙ ap (λ k. at + k) e in
    let left : rest ≡ drop (prefix_len p s) s = rr ∙ ap (λ k. drop k s) e in
    rw (dd, far, left) (run p d at s plain)

-- the bytes of comments and strings are characters by themselves
pub text_plain : (b : ℕ) → is_text_byte b ≡ true → is_plain b ≡ true
unfolding is_text_byte is_ink_byte is_space_byte
text_plain b h = grind (arith, nat_tests)

pub quiet_plain : (b : ℕ) → is_quiet_byte b ≡ true → is_plain b ≡ true
unfolding is_quiet_byte
quiet_plain b h = text_plain b (and_parts (is_text_byte b) (nat_le 32 b && nat_le b 126) h).0

pub comment_plain : (b : ℕ) → is_comment_byte b ≡ true → is_plain b ≡ true
unfolding is_comment_byte is_comment_ink is_space_byte
comment_plain b h = grind (arith, nat_tests)

-- The characters of a run are its bytes, one by one.

run_passes : (p : ℕ → Bool) (s : List ℕ) → list_all p (take (prefix_len p s) s) ≡ true
run_passes p [] = refl
run_passes p (c ∷ s) = elim (cases_Bool (p c)) [
  | inl e ↦ let one : 1 + prefix_len p s ≡ suc (prefix_len p s) = omega arith in rw (e, one) (and_from (p c) (list_all p (take (prefix_len p s) s)) e (run_passes p s))
  | inr e ↦ rw e refl
]

run_chars : (p : ℕ → Bool) (d : Dialect) (at : ℕ) (s : List ℕ) → ((b : ℕ) → p b ≡ true → is_plain b ≡ true) →
    chars d at s ≡ placed at (take (prefix_len p s) s) ++ chars d (at + prefix_len p s) (drop (prefix_len p s) s)
run_chars p d at [] plain = let z : at + 0 ≡ at = omega arith in sym (ap (λ k. chars d k []) z)
run_chars p d at (b ∷ s) plain = elim (cases_Bool (p b)) [
  | inl y ↦
      let len : prefix_len p (b ∷ s) ≡ suc (prefix_len p s) = rw y (omega arith) in
      let far : (at + 1) + prefix_len p s ≡ at + suc (prefix_len p s) = omega arith in
      plain_first d at b s (plain b y)
      ∙ (ap (λ z. record { byte = b; from = at; to = at + 1 } ∷ z) (run_chars p d (at + 1) s plain ∙ ap (λ k. placed (at + 1) (take (prefix_len p s) s) ++ chars d k (drop (prefix_len p s) s)) far)
      ∙ ap (λ k. placed at (take k (b ∷ s)) ++ chars d (at + k) (drop k (b ∷ s))) (sym len))
  | inr n ↦
      let len : prefix_len p (b ∷ s) ≡ 0 = rw n refl in
      let z : at + 0 ≡ at = omega arith in
      sym (ap (λ k. placed at (take k (b ∷ s)) ++ chars d (at + k) (drop k (b ∷ s))) len ∙ ap (λ k. chars d k (b ∷ s)) z)
]

-- a reader that passed bytes of a run, each by itself
pub bytes_passed : (p : ℕ → Bool) (d d2 : Dialect) (at at2 n : ℕ) (s rest : List ℕ) → ((b : ℕ) → p b ≡ true → is_plain b ≡ true) → n ≡ prefix_len p s → d2 ≡ d → at2 ≡ at + n → rest ≡ drop n s →
    AreBytesPassed p (record { dialect = d; at = at; chars = chars d at s }) (record { dialect = d2; at = at2; chars = chars d2 at2 rest })
bytes_passed p d d2 at at2 n s rest plain e dd aa rr =
    let far : at2 ≡ at + prefix_len p s = aa ∙ ap (λ k. at + k) e in
    let left : rest ≡ drop (prefix_len p s) s = rr ∙ ap (λ k. drop k s) e in
    let same : chars d2 at2 rest ≡ chars d (at + prefix_len p s) (drop (prefix_len p s) s) = rw (dd, far, left) refl in
    record {
      bytes = take (prefix_len p s) s;
      all = run_passes p s;
      chars_are = run_chars p d at s plain ∙ ap (λ z. placed at (take (prefix_len p s) s) ++ z) (sym same);
      at_is = far ∙ ap (λ k. at + k) (sym (length-prefix_len p s));
    }

space_plain : (b : ℕ) → is_space_byte b ≡ true → is_plain b ≡ true
unfolding is_space_byte
space_plain b h = grind (arith, nat_tests)

-- a reader that passed spaces and tabs
pub spaces_passed : (d d2 : Dialect) (at at2 n : ℕ) (s rest : List ℕ) → n ≡ prefix_len is_space_byte s → d2 ≡ d → at2 ≡ at + n → rest ≡ drop n s →
    AreSpacesPassed (record { dialect = d; at = at; chars = chars d at s }) (record { dialect = d2; at = at2; chars = chars d2 at2 rest }) n
spaces_passed d d2 at at2 n s rest e dd aa rr =
    let far : at2 ≡ at + prefix_len is_space_byte s = aa ∙ ap (λ k. at + k) e in
    let left : rest ≡ drop (prefix_len is_space_byte s) s = rr ∙ ap (λ k. drop k s) e in
    let same : chars d2 at2 rest ≡ chars d (at + prefix_len is_space_byte s) (drop (prefix_len is_space_byte s) s) = rw (dd, far, left) refl in
    record {
      bytes = take (prefix_len is_space_byte s) s;
      count = e ∙ sym (length-prefix_len is_space_byte s);
      all = run_passes is_space_byte s;
      chars_are = run_chars is_space_byte d at s space_plain ∙ ap (λ z. placed at (take (prefix_len is_space_byte s) s) ++ z) (sym same);
      at_is = aa;
      dialect_is = dd;
    }

-- The first byte of a text is its first character where it is one by itself, wherever the text stands.
pub plain_byte : (d : Dialect) (s : List ℕ) → 1 ≤ length s → is_plain (get_or s 0 0) ≡ true → bytes_of (chars d 0 s) ≡ get_or s 0 0 ∷ bytes_of (chars d 0 (take (length s - 1) (drop 1 s)))
plain_byte d [] some h = absurd (omega (arith, some))
plain_byte d (b ∷ s) some h =
    let few : length s ≤ length (b ∷ s) - 1 = omega arith in
    ap bytes_of (plain_first d 0 b s h) ∙ (ap (λ z. b ∷ z) (bytes_at d (0 + 1) s) ∙ sym (ap (λ z. b ∷ bytes_of (chars d 0 z)) (take_all (length (b ∷ s) - 1) s few)))

-- A reader that took such a byte stands behind the first character.
pub plain_taken : (d d2 : Dialect) (at at2 : ℕ) (text text2 : List ℕ) (r : LogicalChar) → at < length text → is_plain (get_or text at 0) ≡ true → r.byte ≡ get_or text at 0 → r.from ≡ at → r.to ≡ at + 1 → d2 ≡ d → at2 ≡ at + 1 → text2 ≡ text →
    chars d at (drop at text) ≡ r ∷ chars d2 at2 (drop at2 text2)
plain_taken d d2 at at2 text text2 r room h byte from to dd aa tt =
    let one = add-one at in
    let front : drop at text ≡ get_or text at 0 ∷ drop (at + 1) text = drop-cons text at 0 room ∙ ap (λ k. get_or text at 0 ∷ drop k text) (sym one) in
    let made = char_is r (get_or text at 0) at (at + 1) byte from to in
    ap (λ s. chars d at s) front ∙ (plain_first d at (get_or text at 0) (drop (at + 1) text) h ∙ rw (made, dd, aa, tt) refl)

-- a reader at the end of its text
pub at_end : (d : Dialect) (at : ℕ) (text : List ℕ) → at ≡ length text → chars d at (drop at text) ≡ []
at_end d at text e = let len = length-drop at text in no_chars d at (drop at text) (omega (arith, e, len))

-- A reader that passed the space that comes next, where one does.

none_spaces : (d d2 : Dialect) (at at2 n : ℕ) (s rest : List ℕ) → n ≡ 0 → d2 ≡ d → at2 ≡ at + n → rest ≡ drop n s →
    AreSpacesPassed (record { dialect = d; at = at; chars = chars d at s }) (record { dialect = d2; at = at2; chars = chars d2 at2 rest }) n
none_spaces d d2 at at2 n s rest e dd aa rr =
    let far : at2 ≡ at = omega (arith, aa, e) in
    let left : rest ≡ s = rr ∙ ap (λ k. drop k s) e in
    let same : chars d at s ≡ chars d2 at2 rest = rw (dd, far, left) refl in
    record { bytes = []; count = e; all = refl; chars_are = same; at_is = aa; dialect_is = dd }

one_space : (d d2 : Dialect) (at at2 n b : ℕ) (s rest : List ℕ) → (b == 32) ≡ true → n ≡ 1 → d2 ≡ d → at2 ≡ at + n → rest ≡ drop n (b ∷ s) →
    AreSpacesPassed (record { dialect = d; at = at; chars = chars d at (b ∷ s) }) (record { dialect = d2; at = at2; chars = chars d2 at2 rest }) n
unfolding is_space_byte
one_space d d2 at at2 n b s rest y e dd aa rr =
    let far : at2 ≡ at + 1 = omega (arith, aa, e) in
    let left : rest ≡ s = rr ∙ ap (λ k. drop k (b ∷ s)) e in
    let same : chars d (at + 1) s ≡ chars d2 at2 rest = rw (dd, far, left) refl in
    let space : is_space_byte b ≡ true = rw y refl in
    record {
      bytes = b ∷ [];
      count = e;
      all = and_from (is_space_byte b) true space refl;
      chars_are = plain_first d at b s (space_plain b space) ∙ ap (λ z. record { byte = b; from = at; to = at + 1 } ∷ z) same;
      at_is = aa;
      dialect_is = dd;
    }

pub first_space_passed : (d d2 : Dialect) (at at2 n : ℕ) (s rest : List ℕ) → n ≡ cond (get_or s 0 0 == 32) 1 0 → d2 ≡ d → at2 ≡ at + n → rest ≡ drop n s →
    AreSpacesPassed (record { dialect = d; at = at; chars = chars d at s }) (record { dialect = d2; at = at2; chars = chars d2 at2 rest }) n
first_space_passed d d2 at at2 n [] rest e dd aa rr = none_spaces d d2 at at2 n [] rest (e ∙ refl) dd aa rr
first_space_passed d d2 at at2 n (b ∷ s) rest e dd aa rr = elim (cases_Bool (b == 32)) [
  | inl y ↦ one_space d d2 at at2 n b s rest y (e ∙ ap (λ z. cond z 1 0) y) dd aa rr
  | inr m ↦ none_spaces d d2 at at2 n (b ∷ s) rest (e ∙ ap (λ z. cond z 1 0) m) dd aa rr
]
