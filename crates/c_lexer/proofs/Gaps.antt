-- The characters of a gap, one after another.
use Rattle.std.proofs.Common.{◌≡◌, ◌==◌, ◌∙◌, ◌||◌, not, Bool, true, false, ℕ, suc, ◌+◌, ◌-◌, ◌<◌, ◌≤◌, List, [], ◌∷◌, ◌++◌, length, take, refl, sym, ap, subst, arith, if◌then◌else◌}
use Rattle.std.specs.List.{list_all, list_any, prefix_len}
use Rattle.std.proofs.lemmas.Bool.{and_parts, ne_eqb}
use Rattle.std.proofs.lemmas.Bool.Decides.{nat_tests}
use Rattle.std.proofs.lemmas.List.Sums.{sum_by-cons}
use Rattle.c_chars.specs.Characters.{bytes_of, placed, is_space_byte}
use Rattle.c_chars.specs.Coming.{Coming, AreBetween, AreSpacesPassed, behind}
use Rattle.c_chars.specs.declared.Dialect.{Dialect}
use Rattle.c_chars.specs.declared.LogicalChar.{LogicalChar}
use Rattle.c_grammar.specs.Grammar.{is_white, is_new_line}
use Rattle.c_grammar.specs.Touch.{starts}
use Rattle.c_grammar.specs.Place.{IsSpanned}
use Rattle.c_lexer.specs.Reading.{IsGap, new_lines, bytes_in, first_gap}
use Rattle.c_lexer.proofs.Passing.{prefix_done, prefix_next}
use Rattle.c_lexer.proofs.Stepping.{bytes_take}

gap_step : (x y : Coming) (c : LogicalChar) → x.chars ≡ c ∷ y.chars → (is_white c.byte || is_new_line c.byte) ≡ true → first_gap x.chars ≡ c ∷ first_gap y.chars
gap_step x y c e h =
    let one : 1 + prefix_len (λ b. is_white b || is_new_line b) (bytes_of y.chars) ≡ suc (prefix_len (λ b. is_white b || is_new_line b) (bytes_of y.chars)) = omega arith in
    ap first_gap e ∙ rw (h, one) refl

-- one more character of the gap
pub lines_step : (x y : Coming) (c : LogicalChar) → x.chars ≡ c ∷ y.chars → (is_white c.byte || is_new_line c.byte) ≡ true →
    new_lines (first_gap x.chars) ≡ (if is_new_line c.byte then 1 else 0) + new_lines (first_gap y.chars)
lines_step x y c e h = ap new_lines (gap_step x y c e h) ∙ sum_by-cons (λ (z : LogicalChar). if is_new_line z.byte then 1 else 0) c (first_gap y.chars)

pub bytes_step : (x y : Coming) (c : LogicalChar) → x.chars ≡ c ∷ y.chars → (is_white c.byte || is_new_line c.byte) ≡ true →
    bytes_in (first_gap x.chars) ≡ (c.to - c.from) + bytes_in (first_gap y.chars)
bytes_step x y c e h = ap bytes_in (gap_step x y c e h) ∙ sum_by-cons (λ (z : LogicalChar). z.to - z.from) c (first_gap y.chars)

-- no more of it
pub gap_done : (s : List LogicalChar) → starts (λ b. is_white b || is_new_line b) (bytes_of s) ≡ false → first_gap s ≡ []
gap_done s h = ap (λ n. take n s) (prefix_done (λ b. is_white b || is_new_line b) (bytes_of s) h)

-- so many new-lines and bytes, and no more of it
pub gap_ended : (x y : Coming) (lines bytes : ℕ) → starts (λ b. is_white b || is_new_line b) (bytes_of y.chars) ≡ false → lines + new_lines (first_gap y.chars) ≡ new_lines (first_gap x.chars)
    → bytes + bytes_in (first_gap y.chars) ≡ bytes_in (first_gap x.chars)
    → behind y (prefix_len (λ b. is_white b || is_new_line b) (bytes_of y.chars)) ≡ behind x (prefix_len (λ b. is_white b || is_new_line b) (bytes_of x.chars)) → IsGap x lines bytes y
gap_ended x y lines bytes stops line byte rest =
    let none = gap_done y.chars stops in
    let no_line : new_lines (first_gap y.chars) ≡ 0 = ap new_lines none in
    let no_byte : bytes_in (first_gap y.chars) ≡ 0 = ap bytes_in none in
    record { lines_are = omega (arith, line, no_line); bytes_are = omega (arith, byte, no_byte); rest_is = sym (ap (λ n. behind y n) (prefix_done (λ b. is_white b || is_new_line b) (bytes_of y.chars) stops)) ∙ rest }

-- Where the next character stands.
pub record IsOneOn (x y : Coming) (c : LogicalChar) : Type 0 where
  pub later : x.at ≤ c.from
  pub some : c.from < c.to
  pub spans : IsSpanned y

pub one_on : (x y : Coming) (c : LogicalChar) → x.chars ≡ c ∷ y.chars → y.at ≡ c.to → IsSpanned x → IsOneOn x y c
one_on x y c e at_is s =
    let spans : AreBetween x.at (c ∷ y.chars) s.high = subst (λ z. AreBetween x.at z s.high) e s.spans in
    record { later = spans.0; some = spans.1; spans = record { high = s.high; spans = subst (λ k. AreBetween k y.chars s.high) (sym at_is) spans.2 } }

-- characters have bytes
pub some_bytes : (at high : ℕ) (s : List LogicalChar) → AreBetween at s high → (bytes_in s == 0) ≡ (length s == 0)
some_bytes at high [] b = refl
some_bytes at high (c ∷ s) b =
    let sum : bytes_in (c ∷ s) ≡ (c.to - c.from) + bytes_in s = sum_by-cons (λ (z : LogicalChar). z.to - z.from) c s in
    let some : c.from < c.to = b.1 in
    ne_eqb (bytes_in (c ∷ s)) 0 (λ e. absurd (omega (arith, e, sum, some))) ∙ sym (ne_eqb (length (c ∷ s)) 0 (λ e. absurd (omega (arith, e))))

pub at_most_one : (b : Bool) → (if b then 1 else 0) ≤ 1
at_most_one true = omega arith
at_most_one false = omega arith

-- a new-line is counted where there is one
pub some_lines : (s : List LogicalChar) → not (new_lines s == 0) ≡ list_any is_new_line (bytes_of s)
some_lines [] = refl
some_lines (c ∷ s) =
    let sum : new_lines (c ∷ s) ≡ (if is_new_line c.byte then 1 else 0) + new_lines s = sum_by-cons (λ (z : LogicalChar). if is_new_line z.byte then 1 else 0) c s in
    ap (λ k. not (k == 0)) sum ∙ by_line (is_new_line c.byte) (some_lines s)
  where
    by_line : (b : Bool) → not (new_lines s == 0) ≡ list_any is_new_line (bytes_of s) → not ((if b then 1 else 0) + new_lines s == 0) ≡ (b || list_any is_new_line (bytes_of s))
    by_line true more = ap not (ne_eqb (1 + new_lines s) 0 (λ e. absurd (omega (arith, e))))
    by_line false more = let none : 0 + new_lines s ≡ new_lines s = omega arith in ap (λ k. not (k == 0)) none ∙ more

pub gap_lines : (s : List LogicalChar) → not (new_lines (first_gap s) == 0) ≡ list_any is_new_line (take (prefix_len (λ c. is_white c || is_new_line c) (bytes_of s)) (bytes_of s))
gap_lines s = some_lines (first_gap s) ∙ ap (list_any is_new_line) (bytes_take (prefix_len (λ c. is_white c || is_new_line c) (bytes_of s)) s)

-- Spaces and tabs in front of the gap's rest.

space_blank : (b : ℕ) → is_space_byte b ≡ true → (is_white b || is_new_line b) ≡ true
unfolding is_space_byte is_white is_new_line
space_blank b h = grind (arith, nat_tests)

space_no_line : (b : ℕ) → is_space_byte b ≡ true → is_new_line b ≡ false
unfolding is_space_byte is_new_line
space_no_line b h = grind (arith, nat_tests)

-- What n spaces and tabs between the two tell.
pub record AreSpacesOn (x y : Coming) (n : ℕ) : Type 0 where
  pub spans : IsSpanned y
  pub lines : new_lines (first_gap x.chars) ≡ new_lines (first_gap y.chars)
  pub bytes : bytes_in (first_gap x.chars) ≡ n + bytes_in (first_gap y.chars)
  pub rest : behind x (prefix_len (λ b. is_white b || is_new_line b) (bytes_of x.chars)) ≡ behind y (prefix_len (λ b. is_white b || is_new_line b) (bytes_of y.chars))

coming : Dialect → ℕ → List LogicalChar → Coming
coming d at s = record { dialect = d; at = at; chars = s }

coming_is : (x y : Coming) → x.dialect ≡ y.dialect → x.at ≡ y.at → x.chars ≡ y.chars → x ≡ y
unfolding coming
coming_is x y d a s = let same : coming x.dialect x.at x.chars ≡ coming y.dialect y.at y.chars = cc in same

none_on : (x y : Coming) → x ≡ y → IsSpanned x → AreSpacesOn x y 0
none_on x y e s = record { spans = subst IsSpanned e s; lines = ap (λ z. new_lines (first_gap z.chars)) e; bytes = let same = ap (λ z. bytes_in (first_gap z.chars)) e in omega (arith, same); rest = ap (λ z. behind z (prefix_len (λ b. is_white b || is_new_line b) (bytes_of z.chars))) e }

no_line_here : (b : ℕ) → is_space_byte b ≡ true → ◌≡◌ {A = ℕ} (if is_new_line b then 1 else 0) 0
no_line_here b h = let no = space_no_line b h in rw no refl

run_on : (y : Coming) (bs : List ℕ) (x : Coming) → list_all is_space_byte bs ≡ true → x.chars ≡ placed x.at bs ++ y.chars → y.at ≡ x.at + length bs → y.dialect ≡ x.dialect → IsSpanned x → AreSpacesOn x y (length bs)
run_on y [] x all chars at dialect s = none_on x y (coming_is x y (sym dialect) (omega (arith, at)) chars) s
run_on y (b ∷ bs) x all chars at dialect s =
    let parts = and_parts (is_space_byte b) (list_all is_space_byte bs) all in
    let c : LogicalChar = record { byte = b; from = x.at; to = x.at + 1 } in
    let z : Coming = record { dialect = x.dialect; at = x.at + 1; chars = placed (x.at + 1) bs ++ y.chars } in
    let blank = space_blank b parts.0 in
    let on = one_on x z c chars refl s in
    let r = run_on y bs z parts.1 refl (omega (arith, at)) dialect on.spans in
    let none = no_line_here b parts.0 in
    let line = lines_step x z c chars blank in
    let byte = bytes_step x z c chars blank in
    record {
      spans = r.spans;
      lines = omega (arith, line, none, r.lines);
      bytes = omega (arith, byte, r.bytes);
      rest = prefix_next (λ v. is_white v || is_new_line v) x z c chars refl refl blank ∙ r.rest;
    }

pub spaces_on : (x y : Coming) (n : ℕ) → AreSpacesPassed x y n → IsSpanned x → AreSpacesOn x y n
spaces_on x y n p s = subst (λ k. AreSpacesOn x y k) (sym p.count) (run_on y p.bytes x p.all p.chars_are (p.at_is ∙ ap (λ k. x.at + k) p.count) p.dialect_is s)
