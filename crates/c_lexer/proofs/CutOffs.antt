-- From the cut of a text's bytes to what is left of its characters.
use Rattle.std.proofs.Common.{◌≡◌, ◌==◌, ◌&&◌, true, false, ℕ, suc, zero, ◌+◌, List, [], ◌∷◌, ◌++◌, length, drop, nat_eq, refl, sym, ◌∙◌, ap, subst, arith}
use Rattle.std.specs.Prelude.{Option, Some, None, MatchOption, IsTrue, IsFalse, codes, not}
use Rattle.std.specs.List.{starts_with, prefix_len}
use Rattle.std.proofs.lemmas.Bool.{and_parts, eqb-true}
use Rattle.c_chars.specs.Characters.{bytes_of}
use Rattle.c_chars.specs.Coming.{Coming, passed, behind}
use Rattle.c_chars.specs.declared.Dialect.{Dialect}
use Rattle.c_chars.specs.declared.LogicalChar.{LogicalChar}
use Rattle.c_grammar.specs.Grammar.{Whole, Unended, is_of, is_new_line, is_char_prefix, is_string_prefix}
use Rattle.c_grammar.specs.Touch.{starts}
use Rattle.c_lexer.specs.Quote.{closes_quote, quote_len}
use Rattle.c_lexer.proofs.Quotes.{char_cut, string_cut, stray_cut, empty_cut}
use Rattle.c_grammar.specs.Items.{IsLongest}
use Rattle.item_kinds.specs.declared.ItemKind.TheVariants.{CharConst, StringLit, StrayQuote, LineComment, BlockComment}
use Rattle.c_lexer.specs.Run.{IsCut}
use Rattle.c_lexer.specs.Cut.{IsCutOff}
use Rattle.c_lexer.specs.Comment.{closes_block, block_len, line_len}
use Rattle.c_lexer.proofs.Comments.{block_cut, block_open}
use Rattle.c_lexer.proofs.LineComments.{line_cut}
use Rattle.c_lexer.proofs.Stepping.{behind_chars, bytes_drop}

passed_again : (d : Dialect) (at n m : ℕ) (s : List LogicalChar) → behind (passed d at s n) m ≡ passed d at s (n + m)
passed_again d at zero m s = let e : 0 + m ≡ m = omega arith in ap (λ k. passed d at s k) (sym e)
passed_again d at (suc n) m [] = none m ∙ (let e : suc n + m ≡ suc (n + m) = omega arith in rw e refl)
  where
    none : (m : ℕ) → passed d at [] m ≡ record { dialect = d; at = at; chars = [] }
    none zero = refl
    none (suc m) = refl
passed_again d at (suc n) m (c ∷ s) = let e : suc n + m ≡ suc (n + m) = omega arith in passed_again d c.to n m s ∙ (rw e refl)

-- n characters, and then m
pub behind_again : (x : Coming) (n m : ℕ) → behind (behind x n) m ≡ behind x (n + m)
behind_again x n m = passed_again x.dialect x.at n m x.chars

-- the bytes that are left
pub behind_bytes : (x : Coming) (n : ℕ) → bytes_of (behind x n).chars ≡ drop n (bytes_of x.chars)
behind_bytes x n = ap bytes_of (behind_chars x.dialect x.at n x.chars) ∙ bytes_drop n x.chars

-- a text that begins with two characters
pub two_first : (a b : ℕ) (s : List ℕ) → starts_with nat_eq s (a ∷ b ∷ []) ≡ true → s ≡ a ∷ b ∷ drop 2 s
two_first a b [] h = cc
two_first a b (c ∷ []) h = let p = and_parts (a == c) false h in cc
two_first a b (c ∷ e ∷ s) h =
    let p = and_parts (a == c) ((b == e) && true) h in
    let q = and_parts (b == e) true p.1 in
    let x : a ≡ c = eqb-true a c p.0 in let y : b ≡ e = eqb-true b e q.0 in
    sym (ap (λ z. z ∷ b ∷ s) x ∙ ap (λ z. c ∷ z ∷ s) y)

pub block_off : (x y : Coming) (o : Option Coming) → starts_with nat_eq (bytes_of x.chars) (47 ∷ 42 ∷ []) ≡ true → y ≡ behind x 2 →
    MatchOption o (IsFalse (closes_block false (bytes_of y.chars))) (λ rest. IsTrue (closes_block false (bytes_of y.chars)) × (rest ≡ behind y (block_len false (bytes_of y.chars)))) →
    MatchOption o (IsLongest x.dialect Unended (bytes_of x.chars) []) (λ left. IsCutOff x left BlockComment)
block_off x y None h e m =
    let t : bytes_of y.chars ≡ drop 2 (bytes_of x.chars) = ap (λ z. bytes_of z.chars) e ∙ behind_bytes x 2 in
    block_open x.dialect (bytes_of x.chars) (drop 2 (bytes_of x.chars)) (two_first 47 42 (bytes_of x.chars) h) (subst (λ z. closes_block false z ≡ false) t m)
block_off x y (Some rest) h e m =
    let t : bytes_of y.chars ≡ drop 2 (bytes_of x.chars) = ap (λ z. bytes_of z.chars) e ∙ behind_bytes x 2 in
    record {
      n = 2 + block_len false (drop 2 (bytes_of x.chars));
      some = omega arith;
      left_is = m.1 ∙ (ap (λ z. behind y (block_len false z)) t ∙ (ap (λ z. behind z (block_len false (drop 2 (bytes_of x.chars)))) e ∙ behind_again x 2 (block_len false (drop 2 (bytes_of x.chars)))));
      cut = block_cut x.dialect (bytes_of x.chars) (drop 2 (bytes_of x.chars)) (two_first 47 42 (bytes_of x.chars) h) (subst (λ z. closes_block false z ≡ true) t m.0);
    }

pub line_off : (x y rest : Coming) → starts_with nat_eq (bytes_of x.chars) (47 ∷ 47 ∷ []) ≡ true → y ≡ behind x 2 → rest ≡ behind y (line_len 47 (bytes_of y.chars)) → IsCutOff x rest LineComment
line_off x y rest h e r =
    let t : bytes_of y.chars ≡ drop 2 (bytes_of x.chars) = ap (λ z. bytes_of z.chars) e ∙ behind_bytes x 2 in
    record {
      n = 2 + line_len 47 (drop 2 (bytes_of x.chars));
      some = omega arith;
      left_is = r ∙ (ap (λ z. behind y (line_len 47 z)) t ∙ (ap (λ z. behind z (line_len 47 (drop 2 (bytes_of x.chars)))) e ∙ behind_again x 2 (line_len 47 (drop 2 (bytes_of x.chars)))));
      cut = line_cut x.dialect (bytes_of x.chars) (drop 2 (bytes_of x.chars)) (two_first 47 47 (bytes_of x.chars) h);
    }

-- a text that begins with these and then one more
front_first : (p : List ℕ) (q : ℕ) (s : List ℕ) → starts_with nat_eq s (p ++ q ∷ []) ≡ true → s ≡ p ++ q ∷ drop (length p + 1) s
front_first [] q [] h = cc
front_first [] q (c ∷ s) h = let e : q ≡ c = eqb-true q c (and_parts (q == c) true h).0 in let one : 0 + 1 ≡ 1 = refl in sym (ap (λ z. z ∷ s) e)
front_first (a ∷ p) q [] h = cc
front_first (a ∷ p) q (c ∷ s) h =
    let parts = and_parts (a == c) (starts_with nat_eq s (p ++ q ∷ [])) h in
    let e : a ≡ c = eqb-true a c parts.0 in
    let n : suc (length p) + 1 ≡ suc (length p + 1) = omega arith in
    rw n (ap (λ z. z ∷ s) (sym e) ∙ ap (λ z. a ∷ z) (front_first p q s parts.1))

pub left_bytes : (x y : Coming) (n : ℕ) → y ≡ behind x n → bytes_of y.chars ≡ drop n (bytes_of x.chars)
left_bytes x y n e = ap (λ z. bytes_of z.chars) e ∙ behind_bytes x n

-- what is left behind n characters and then as many as the rest has
left_behind : (x y rest : Coming) (n : ℕ) (len : List ℕ → ℕ) → y ≡ behind x n → rest ≡ behind y (len (bytes_of y.chars)) → rest ≡ behind x (n + len (drop n (bytes_of x.chars)))
left_behind x y rest n len e r =
    r ∙ (ap (λ z. behind y (len z)) (left_bytes x y n e) ∙ (ap (λ z. behind z (len (drop n (bytes_of x.chars)))) e ∙ behind_again x n (len (drop n (bytes_of x.chars)))))

pub string_off : (x y rest : Coming) (p : List ℕ) → is_string_prefix p ≡ true → starts_with nat_eq (bytes_of x.chars) (p ++ 34 ∷ []) ≡ true → y ≡ behind x (length p + 1) → rest ≡ behind y (quote_len 34 false (bytes_of y.chars)) →
    closes_quote 34 false (bytes_of y.chars) ≡ true → IsCutOff x rest StringLit
string_off x y rest p k h e r c =
    let t = drop (length p + 1) (bytes_of x.chars) in
    let closed : closes_quote 34 false (drop (length p + 1) (bytes_of x.chars)) ≡ true = subst (λ z. closes_quote 34 false z ≡ true) (left_bytes x y (length p + 1) e) c in
    let n : (length p + 1) + quote_len 34 false (drop (length p + 1) (bytes_of x.chars)) ≡ length p + (1 + quote_len 34 false (drop (length p + 1) (bytes_of x.chars))) = omega arith in
    record {
      n = length p + (1 + quote_len 34 false (drop (length p + 1) (bytes_of x.chars)));
      some = omega arith;
      left_is = left_behind x y rest (length p + 1) (quote_len 34 false) e r ∙ ap (λ k. behind x k) n;
      cut = string_cut x.dialect (bytes_of x.chars) p (drop (length p + 1) (bytes_of x.chars)) (front_first p 34 (bytes_of x.chars) h) k closed;
    }

pub char_off : (x y rest : Coming) (p : List ℕ) → is_char_prefix x.dialect p ≡ true → starts_with nat_eq (bytes_of x.chars) (p ++ 39 ∷ []) ≡ true → starts (λ c. c == 39) (drop (length p + 1) (bytes_of x.chars)) ≡ false →
    y ≡ behind x (length p + 1) → rest ≡ behind y (quote_len 39 false (bytes_of y.chars)) → closes_quote 39 false (bytes_of y.chars) ≡ true → IsCutOff x rest CharConst
char_off x y rest p k h some e r c =
    let closed : closes_quote 39 false (drop (length p + 1) (bytes_of x.chars)) ≡ true = subst (λ z. closes_quote 39 false z ≡ true) (left_bytes x y (length p + 1) e) c in
    let n : (length p + 1) + quote_len 39 false (drop (length p + 1) (bytes_of x.chars)) ≡ length p + (1 + quote_len 39 false (drop (length p + 1) (bytes_of x.chars))) = omega arith in
    record {
      n = length p + (1 + quote_len 39 false (drop (length p + 1) (bytes_of x.chars)));
      some = omega arith;
      left_is = left_behind x y rest (length p + 1) (quote_len 39 false) e r ∙ ap (λ k. behind x k) n;
      cut = char_cut x.dialect (bytes_of x.chars) p (drop (length p + 1) (bytes_of x.chars)) (front_first p 39 (bytes_of x.chars) h) k some closed;
    }

-- a literal that isn't closed
pub unclosed_off : (x y : Coming) (q n : ℕ) → y ≡ behind x n → closes_quote q false (bytes_of y.chars) ≡ false → closes_quote q false (drop n (bytes_of x.chars)) ≡ false
unclosed_off x y q n e c = subst (λ z. closes_quote q false z ≡ false) (left_bytes x y n e) c

pub stray_off : (x y rest : Coming) (q : ℕ) → is_of (codes "'\"") q ≡ true → starts_with nat_eq (bytes_of x.chars) (q ∷ []) ≡ true → closes_quote q false (drop 1 (bytes_of x.chars)) ≡ false → y ≡ behind x 1 → rest ≡ behind y (quote_len q false (bytes_of y.chars)) →
    IsCutOff x rest StrayQuote
stray_off x y rest q k h c e r = record {
  n = 1 + quote_len q false (drop 1 (bytes_of x.chars));
  some = omega arith;
  left_is = left_behind x y rest 1 (quote_len q false) e r;
  cut = subst (λ s. IsCut x.dialect (Whole StrayQuote) s (1 + quote_len q false (drop 1 (bytes_of x.chars)))) (sym (front_first [] q (bytes_of x.chars) h)) (stray_cut x.dialect q (drop 1 (bytes_of x.chars)) k c);
}

pub empty_off : (x y rest : Coming) → starts_with nat_eq (bytes_of x.chars) (39 ∷ 39 ∷ []) ≡ true → y ≡ behind x 2 → rest ≡ behind y (prefix_len (λ c. not (is_new_line c)) (bytes_of y.chars)) → IsCutOff x rest StrayQuote
empty_off x y rest h e r = record {
  n = 2 + prefix_len (λ c. not (is_new_line c)) (drop 2 (bytes_of x.chars));
  some = omega arith;
  left_is = left_behind x y rest 2 (prefix_len (λ c. not (is_new_line c))) e r;
  cut = subst (λ s. IsCut x.dialect (Whole StrayQuote) s (2 + prefix_len (λ c. not (is_new_line c)) (drop 2 (bytes_of x.chars)))) (sym (two_first 39 39 (bytes_of x.chars) h)) (empty_cut x.dialect (drop 2 (bytes_of x.chars)));
}
