-- From the item that stands next to what it and its gap tell.
use Rattle.std.proofs.Common.{◌≡◌, ◌==◌, ◌∙◌, ◌||◌, not, Bool, true, false, ℕ, zero, suc, ◌+◌, ◌-◌, ◌<◌, ◌≤◌, List, [], ◌∷◌, ◌++◌, length, take, drop, refl, sym, ap, subst, arith, length-append}
use Rattle.std.specs.List.{list_all, prefix_len}
use Rattle.std.proofs.lemmas.Bool.{and_parts}
use Rattle.std.proofs.lemmas.List.{length-drop, map-append}
use Rattle.c_chars.specs.Characters.{bytes_of}
use Rattle.c_chars.specs.Coming.{Coming, AreBetween, passed, behind}
use Rattle.c_chars.specs.declared.Dialect.{Dialect}
use Rattle.c_chars.specs.declared.LogicalChar.{LogicalChar}
use Rattle.c_grammar.specs.Grammar.{is_white, is_new_line}
use Rattle.c_grammar.specs.Items.{Place, past_gap}
use Rattle.item_kinds.specs.declared.ItemKind.{ItemKind}
use Rattle.c_grammar.specs.Text.{ReadItem, IsStep}
use Rattle.c_grammar.specs.Touch.{starts}
use Rattle.c_grammar.proofs.Unique.{next_begins}
use Rattle.c_lexer.specs.Fault.{IsAt}
use Rattle.c_lexer.specs.Next.{IsCutNext}
use Rattle.c_lexer.specs.Reading.{Reading, IsNextItem, IsNextLexeme, BeforeLeft, new_lines, bytes_in, first_gap, ends_in_backslash}
use Rattle.c_lexer.specs.declared.item.Lexeme.{Lexeme}
use Rattle.c_lexer.proofs.Gaps.{some_bytes}
use Rattle.c_lexer.proofs.NextItems.{gap_of}
use Rattle.c_lexer.proofs.Passing.{prefix_done}
use Rattle.c_chars.proofs.Steps.{onwards}
use Rattle.c_lexer.proofs.Stepping.{behind_chars, at_within}

abbrev is_blank : ℕ → Bool
is_blank c = is_white c || is_new_line c

-- white space and then a character that is none: all of it is the gap
gap_all : (g r : List LogicalChar) → list_all is_blank (bytes_of g) ≡ true → starts is_blank (bytes_of r) ≡ false → prefix_len is_blank (bytes_of (g ++ r)) ≡ length g
gap_all [] r white begins = prefix_done is_blank (bytes_of r) begins
gap_all (c ∷ g) r white begins =
    let parts = and_parts (is_blank c.byte) (list_all is_blank (bytes_of g)) white in
    let one : 1 + length g ≡ length (c ∷ g) = omega arith in
    rw (parts.0, gap_all g r parts.1 begins) one

take_front : (u v : List LogicalChar) → take (length u) (u ++ v) ≡ u
take_front [] v = refl
take_front (c ∷ u) v = ap (λ s. c ∷ s) (take_front u v)

drop_front : (u v : List LogicalChar) → drop (length u) (u ++ v) ≡ v
drop_front [] v = refl
drop_front (c ∷ u) v = drop_front u v

-- The item and its gap, as characters of what was left.
pub record IsCutOut (old : List LogicalChar) (n : ℕ) (read : ReadItem) : Type 0 where
  pub gap : read.gap ≡ first_gap old
  pub chars : read.chars ≡ take n (drop (prefix_len (λ c. is_white c || is_new_line c) (bytes_of old)) old)

pub cut_out : (old new : Reading) (read : ReadItem) (n : ℕ) → IsStep old.dialect old.left new.left read
    → n ≤ length (drop (prefix_len (λ c. is_white c || is_new_line c) (bytes_of old.left.chars)) old.left.chars)
    → new.left.chars ≡ drop n (drop (prefix_len (λ c. is_white c || is_new_line c) (bytes_of old.left.chars)) old.left.chars) → IsCutOut old.left.chars n read
cut_out old new read n step within left =
    let begins : starts is_blank (bytes_of read.chars ++ bytes_of new.left.chars) ≡ false =
    next_begins old.dialect (past_gap old.left.place (bytes_of read.gap)) read.kind (bytes_of read.chars) (bytes_of new.left.chars) step.next in
    let joined : bytes_of (read.chars ++ new.left.chars) ≡ bytes_of read.chars ++ bytes_of new.left.chars = map-append (λ (c : LogicalChar). c.byte) read.chars new.left.chars in
    let stops : starts is_blank (bytes_of (read.chars ++ new.left.chars)) ≡ false = ap (starts is_blank) joined ∙ begins in
    let wide : prefix_len is_blank (bytes_of old.left.chars) ≡ length read.gap =
    ap (λ z. prefix_len is_blank (bytes_of z)) step.whole ∙ gap_all read.gap (read.chars ++ new.left.chars) step.white stops in
    let rest : drop (prefix_len is_blank (bytes_of old.left.chars)) old.left.chars ≡ read.chars ++ new.left.chars =
    ap (λ k. drop k old.left.chars) wide ∙ (ap (drop (length read.gap)) step.whole ∙ drop_front read.gap (read.chars ++ new.left.chars)) in
    let all : length (drop (prefix_len is_blank (bytes_of old.left.chars)) old.left.chars) ≡ length read.chars + length new.left.chars = ap length rest ∙ length-append read.chars new.left.chars in
    let less : length new.left.chars ≡ length (drop (prefix_len is_blank (bytes_of old.left.chars)) old.left.chars) - n =
    ap length left ∙ length-drop n (drop (prefix_len is_blank (bytes_of old.left.chars)) old.left.chars) in
    let n_is : n ≡ length read.chars = omega (arith, all, less, within) in
    record {
      gap = sym (ap (λ k. take k old.left.chars) wide ∙ (ap (take (length read.gap)) step.whole ∙ take_front read.gap (read.chars ++ new.left.chars)));
      chars = sym (ap (take n) rest ∙ (ap (λ k. take k (read.chars ++ new.left.chars)) n_is ∙ take_front read.chars new.left.chars));
    }

take_between : (at n high : ℕ) (s : List LogicalChar) → AreBetween at s high → AreBetween at (take n s) high
take_between at zero high s b = at_within at high s b
take_between at (suc n) high [] b = b
take_between at (suc n) high (c ∷ s) b = (b.0, b.1, take_between c.to n high s b.2)

-- What the walk over the gap and the item tells is what their characters tell.
pub lexeme_there : (old new : Reading) (x y left : Coming) (here : Place) (kind : ItemKind) (lexeme : Lexeme) → IsAt old.text old.dialect x → old.left.chars ≡ x.chars → y ≡ behind x (gap_of x)
    → IsCutNext here y left kind → new.left.chars ≡ left.chars → lexeme.lines ≡ new_lines (first_gap x.chars) → lexeme.bytes ≡ bytes_in (first_gap x.chars)
    → lexeme.white ≡ not (lexeme.bytes == 0) → BeforeLeft y left (λ s. lexeme.back ≡ ends_in_backslash s)
    → IsNextItem old new lexeme.item.kind lexeme.item.start lexeme.item.raw.now → IsNextLexeme old new lexeme
lexeme_there old new x y left here kind lexeme a old_is y_is cut left_is lines bytes white back next =
    let rest : y.chars ≡ drop (gap_of x) x.chars = ap (λ z. z.chars) y_is ∙ behind_chars x.dialect x.at (gap_of x) x.chars in
    let from_old : drop (prefix_len is_blank (bytes_of old.left.chars)) old.left.chars ≡ y.chars = ap (λ z. drop (prefix_len is_blank (bytes_of z)) z) old_is ∙ sym rest in
    let behind_item : new.left.chars ≡ drop cut.n y.chars = left_is ∙ (ap (λ z. z.chars) cut.left_is ∙ behind_chars y.dialect y.at cut.n y.chars) in
    let out : IsCutOut old.left.chars cut.n next.read =
    cut_out old new next.read cut.n next.step (subst (λ z. cut.n ≤ length z) (sym from_old) cut.within) (behind_item ∙ ap (drop cut.n) (sym from_old)) in
    let gap : next.read.gap ≡ first_gap x.chars = out.gap ∙ ap first_gap old_is in
    let chars : next.read.chars ≡ take cut.n y.chars = out.chars ∙ ap (take cut.n) from_old in
    let some : (bytes_in (first_gap x.chars) == 0) ≡ (length (first_gap x.chars) == 0) =
    some_bytes x.at (length old.text) (first_gap x.chars) (take_between x.at (prefix_len is_blank (bytes_of x.chars)) (length old.text) x.chars a.spans) in
    record {
      next = next;
      lines_are = lines ∙ ap new_lines (sym gap);
      bytes_are = bytes ∙ ap bytes_in (sym gap);
      white_is = white ∙ (ap (λ k. not (k == 0)) bytes ∙ (ap not some ∙ ap (λ z. not (length z == 0)) (sym gap)));
      back_is = back cut.n cut.within cut.left_is ∙ ap ends_in_backslash (sym chars);
    }

-- an item ends behind a byte
pub some_before : (text : List ℕ) (d : Dialect) (place : Place) (y left : Coming) (kind : ItemKind) → IsAt text d y → IsCutNext place y left kind → 0 < left.at
some_before text d place y left kind a cut = subst (λ k. 0 < k) (sym (ap (λ z. z.at) cut.left_is)) (some cut.n y.at y.chars cut.some cut.within a.spans)
  where
    some : (n at : ℕ) (s : List LogicalChar) → 0 < n → n ≤ length s → AreBetween at s (length text) → 0 < (passed y.dialect at s n).at
    some zero at s h within b = absurd (omega arith)
    some (suc n) at [] h within b = absurd (omega arith)
    some (suc n) at (c ∷ s) h within b = let first : c.from < c.to = b.1 in let on = onwards y.dialect c.to n (length text) s b.2 in omega (arith, first, on)
