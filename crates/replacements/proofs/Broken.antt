-- White space that may stand for a gap.
use Rattle.std.proofs.Common.{◌≡◌, ◌==◌, ◌∙◌, ◌||◌, ◌&&◌, not, ℕ, zero, suc, ◌-◌, ◌/◌, ◌%◌, Bool, true, false, List, [], ◌∷◌, ◌++◌, refl, sym, ap, subst, replicate, append_assoc, append-nil}
use Rattle.std.specs.List.{list_any}
use Rattle.std.proofs.lemmas.Bool.{or_right}
use Rattle.c_chars.specs.Characters.{bytes_of, begins_line_end}
use Rattle.c_chars.specs.declared.Dialect.{Dialect}
use Rattle.c_grammar.specs.Grammar.{is_new_line, is_same, is_white}
use Rattle.c_grammar.specs.Items.{Place, is_gap}
use Rattle.c_grammar.specs.Touch.{starts, ends, takes_line}
use Rattle.c_grammar.specs.Text.{ReadItem, start_of, end_of}
use Rattle.c_grammar.specs.Fitting.{in_directive, IsFitGap}
use Rattle.c_grammar.specs.Rewritten.{read_alone, IsGuarded, AreFitBytes, White, Blank, Tab, LineEnd, Splice, white_bytes, white_chars}
use Rattle.c_grammar.proofs.White.{white_reads_so}
use Rattle.style_table.specs.declared.style.Style.{Style}
use Rattle.style_table.specs.declared.style.UseTab.{UseTab}
use Rattle.style_table.specs.declared.style.UseTab.TheVariants.{Never, ForIndentation, ForContinuationAndIndentation, AlignWithSpaces, Always}
use Rattle.replacements.specs.GapText.{blanks, tabs_to, indentation_by, indentation, level_columns, line_end, line_ends}
use Rattle.replacements.specs.Guards.{guard_text, guarded_ends, guarded_lines, is_behind_backslash}
use Rattle.replacements.specs.declared.guard.Guard.{Guard}
use Rattle.replacements.specs.declared.guard.Guard.TheVariants as guard

-- Bytes that are white space.

-- these bytes are blanks, tabs, line ends and splices
pub record IsWhite (bytes : List ℕ) : Type 0 where
  pub whites : List White
  pub bytes_are : bytes ≡ white_bytes whites

pub white_append : (a b : List White) → white_bytes (a ++ b) ≡ white_bytes a ++ white_bytes b
white_append [] b = refl
white_append (Blank ∷ a) b = ap (λ z. 32 ∷ z) (white_append a b)
white_append (Tab ∷ a) b = ap (λ z. 9 ∷ z) (white_append a b)
white_append (LineEnd true ∷ a) b = ap (λ z. 13 ∷ 10 ∷ z) (white_append a b)
white_append (LineEnd false ∷ a) b = ap (λ z. 10 ∷ z) (white_append a b)
white_append (Splice true ∷ a) b = ap (λ z. 92 ∷ 13 ∷ 10 ∷ z) (white_append a b)
white_append (Splice false ∷ a) b = ap (λ z. 92 ∷ 10 ∷ z) (white_append a b)

white_more : (a b : List ℕ) → IsWhite a → IsWhite b → IsWhite (a ++ b)
white_more a b p q = record {
  whites = p.whites ++ q.whites;
  bytes_are = ap (λ z. z ++ b) p.bytes_are ∙ (ap (λ z. white_bytes p.whites ++ z) q.bytes_are ∙ sym (white_append p.whites q.whites));
}

white_blanks : (n : ℕ) → IsWhite (blanks n)
white_blanks n = record { whites = replicate n Blank; bytes_are = all n }
  where
    all : (n : ℕ) → blanks n ≡ white_bytes (replicate n Blank)
    all zero = refl
    all (suc n) = ap (λ z. 32 ∷ z) (all n)

white_tabs : (n : ℕ) → IsWhite (replicate n 9)
white_tabs n = record { whites = replicate n Tab; bytes_are = all n }
  where
    all : (n : ℕ) → replicate n 9 ≡ white_bytes (replicate n Tab)
    all zero = refl
    all (suc n) = ap (λ z. 9 ∷ z) (all n)

white_line : (crlf : Bool) → IsWhite (line_end crlf)
white_line true = record { whites = LineEnd true ∷ []; bytes_are = refl }
white_line false = record { whites = LineEnd false ∷ []; bytes_are = refl }

white_lines : (crlf : Bool) (n : ℕ) → IsWhite (line_ends crlf n)
unfolding line_ends
white_lines crlf zero = record { whites = []; bytes_are = refl }
white_lines crlf (suc n) = white_more (line_ends crlf n) (line_end crlf) (white_lines crlf n) (white_line crlf)

white_indentation : (style : Style) (own column : ℕ) → IsWhite (indentation style own column)
white_indentation style own column = by style.use_tab
  where
    tabs : (own : ℕ) → IsWhite (tabs_to style.tab_width own)
    tabs own = white_more (replicate (own / style.tab_width) 9) (blanks (own % style.tab_width)) (white_tabs (own / style.tab_width)) (white_blanks (own % style.tab_width))

    by : (u : UseTab) → IsWhite (indentation_by u style.tab_width own column)
    by Never = white_blanks column
    by ForIndentation = white_more (tabs_to style.tab_width own) (blanks (column - own)) (tabs own) (white_blanks (column - own))
    by ForContinuationAndIndentation = tabs column
    by AlignWithSpaces = white_more (tabs_to style.tab_width own) (blanks (column - own)) (tabs own) (white_blanks (column - own))
    by Always = tabs column

-- some line ends begin with one
line_first : (crlf : Bool) (n : ℕ) → line_ends crlf (suc n) ≡ line_end crlf ++ line_ends crlf n
unfolding line_ends
line_first crlf zero = sym (append-nil (line_end crlf))
line_first crlf (suc n) = ap (λ z. z ++ line_end crlf) (line_first crlf n) ∙ append_assoc (line_end crlf) (line_ends crlf n) (line_end crlf)

-- Line ends behind an item: its guard, a line end, and other white space.
pub record IsBroken (crlf : Bool) (g : Guard) (bytes : List ℕ) : Type 0 where
  pub more : List White
  pub bytes_are : bytes ≡ guard_text crlf g ++ (line_end (guarded_ends crlf g) ++ white_bytes more)

pub lines_broken : (style : Style) (crlf : Bool) (g : Guard) (n column level : ℕ) → IsBroken crlf g (guarded_lines style crlf g (suc n) column level)
lines_broken style crlf g n column level =
    let e = guarded_ends crlf g in
    let own = level_columns style level column in
    let rest : IsWhite (line_ends e n ++ indentation style own column) = white_more (line_ends e n) (indentation style own column) (white_lines e n) (white_indentation style own column) in
    record {
      more = rest.whites;
      bytes_are = ap (λ z. guard_text crlf g ++ (z ++ indentation style own column)) (line_first e n)
          ∙ (ap (λ z. guard_text crlf g ++ z) (append_assoc (line_end e) (line_ends e n) (indentation style own column))
          ∙ ap (λ z. guard_text crlf g ++ (line_end e ++ z)) rest.bytes_are);
    }

pub line_broken : (crlf : Bool) (g : Guard) → IsBroken crlf g (guard_text crlf g ++ line_end (guarded_ends crlf g))
line_broken crlf g = record { more = []; bytes_are = ap (λ z. guard_text crlf g ++ z) (sym (append-nil (line_end (guarded_ends crlf g)))) }

-- its characters
abbrev pub broken_chars : Guard → List White → List ℕ
broken_chars guard.Free more = 10 ∷ white_chars more
broken_chars guard.Blank more = 32 ∷ 10 ∷ white_chars more
broken_chars guard.Splice more = 10 ∷ white_chars more
broken_chars guard.Return more = 10 ∷ white_chars more

pub broken_reads : (d : Dialect) (crlf : Bool) (g : Guard) (bytes : List ℕ) → (b : IsBroken crlf g bytes) → read_alone d bytes ≡ broken_chars g b.more
broken_reads d crlf g bytes b = ap (λ z. read_alone d z) b.bytes_are ∙ reads crlf g b.more
  where
    reads : (crlf : Bool) (g : Guard) (more : List White) → read_alone d (guard_text crlf g ++ (line_end (guarded_ends crlf g) ++ white_bytes more)) ≡ broken_chars g more
    reads true guard.Free more = white_reads_so d (LineEnd true ∷ more)
    reads false guard.Free more = white_reads_so d (LineEnd false ∷ more)
    reads true guard.Blank more = white_reads_so d (Blank ∷ LineEnd true ∷ more)
    reads false guard.Blank more = white_reads_so d (Blank ∷ LineEnd false ∷ more)
    reads true guard.Splice more = white_reads_so d (Splice true ∷ LineEnd true ∷ more)
    reads false guard.Splice more = white_reads_so d (Splice false ∷ LineEnd false ∷ more)
    reads true guard.Return more = white_reads_so d (LineEnd true ∷ more)
    reads false guard.Return more = white_reads_so d (LineEnd true ∷ more)

-- What stands before.

abbrev pub is_blank_guard : Guard → Bool
is_blank_guard guard.Free = false
is_blank_guard guard.Blank = true
is_blank_guard guard.Splice = false
is_blank_guard guard.Return = false

abbrev pub is_return_guard : Guard → Bool
is_return_guard guard.Free = false
is_return_guard guard.Blank = false
is_return_guard guard.Splice = false
is_return_guard guard.Return = true

-- this is the guard that an item leaves
pub record Leaves (left : ReadItem) (g : Guard) : Type 0 where
  pub line : takes_line left.kind ≡ true → is_blank_guard g ≡ false
  pub back : is_behind_backslash g ≡ ends (λ c. c == 92) (bytes_of left.chars)
  pub return : ends (λ c. c == 13) (bytes_of left.chars) ≡ true → is_return_guard g ≡ true

-- Line ends fit.

pub white_is_gap : (ws : List White) → is_gap (white_chars ws) ≡ true
unfolding is_white is_new_line
white_is_gap [] = refl
white_is_gap (Blank ∷ ws) = white_is_gap ws
white_is_gap (Tab ∷ ws) = white_is_gap ws
white_is_gap (LineEnd crlf ∷ ws) = white_is_gap ws
white_is_gap (Splice crlf ∷ ws) = white_is_gap ws

pub broken_gap : (g : Guard) (more : List White) → is_gap (broken_chars g more) ≡ true
unfolding is_white is_new_line
broken_gap guard.Free more = white_is_gap more
broken_gap guard.Blank more = white_is_gap more
broken_gap guard.Splice more = white_is_gap more
broken_gap guard.Return more = white_is_gap more

pub broken_starts : (g : Guard) (more : List White) → is_blank_guard g ≡ false → starts is_new_line (broken_chars g more) ≡ true
unfolding is_new_line
broken_starts guard.Free more h = refl
broken_starts guard.Blank more h = cc
broken_starts guard.Splice more h = refl
broken_starts guard.Return more h = refl

broken_lines : (g : Guard) (more : List White) → list_any is_new_line (broken_chars g more) ≡ true
unfolding is_new_line
broken_lines guard.Free more = refl
broken_lines guard.Blank more = refl
broken_lines guard.Splice more = refl
broken_lines guard.Return more = refl

broken_some : (g : Guard) (more : List White) (a : Bool) → (a || not (is_same (broken_chars g more) [])) ≡ true
broken_some guard.Free more a = or_right a true refl
broken_some guard.Blank more a = or_right a true refl
broken_some guard.Splice more a = or_right a true refl
broken_some guard.Return more a = or_right a true refl

-- behind an item that takes its line the line end comes first
pub broken_line : (left : ReadItem) (g : Guard) (more : List White) (b c : Bool) → Leaves left g → (not (takes_line left.kind) || (b || (starts is_new_line (broken_chars g more) || c))) ≡ true
broken_line left g more b c leaves = by (takes_line left.kind) leaves.line
  where
    by : (t : Bool) → (t ≡ true → is_blank_guard g ≡ false) → (not t || (b || (starts is_new_line (broken_chars g more) || c))) ≡ true
    by false line = refl
    by true line = or_right b (starts is_new_line (broken_chars g more) || c) (ap (λ z. z || c) (broken_starts g more (line refl)))

some_lines : (old : List ℕ) (a : Bool) → list_any is_new_line old ≡ true → (not (is_same old []) || a) ≡ true
some_lines [] a h = cc
some_lines (c ∷ old) a h = refl

pub broken_fits : (place : Place) (left : ReadItem) (g : Guard) (old : List ℕ) (more : List White) → Leaves left g → list_any is_new_line old ≡ true → IsFitGap place left.kind old (broken_chars g more)
broken_fits place left g old more leaves lines = record {
  white = broken_gap g more;
  lines = broken_lines g more ∙ sym lines;
  stays = broken_some g more (is_same old []);
  comes = some_lines old (is_same (broken_chars g more) [] || not (in_directive place)) lines;
  line = broken_line left g more false (is_same (broken_chars g more) old) leaves;
}

no_and : (a : Bool) → (a && false) ≡ false
no_and true = refl
no_and false = refl

not_true : (a : Bool) → (a ≡ true → false ≡ true) → a ≡ false
not_true false h = refl
not_true true h = sym (h refl)

-- no splice and no `\r\n` comes of them
pub broken_guarded : (left : ReadItem) (crlf : Bool) (g : Guard) (bytes : List ℕ) → IsBroken crlf g bytes → Leaves left g → IsGuarded left bytes
broken_guarded left crlf g bytes b leaves = subst (λ z. IsGuarded left z) (sym b.bytes_are) (by crlf g (white_bytes b.more) leaves.back leaves.return)
  where
    l : List ℕ
    l = bytes_of left.chars

    by : (crlf : Bool) (g : Guard) (rest : List ℕ) → is_behind_backslash g ≡ ends (λ c. c == 92) l → (ends (λ c. c == 13) l ≡ true → is_return_guard g ≡ true) →
        IsGuarded left (guard_text crlf g ++ (line_end (guarded_ends crlf g) ++ rest))
    by crlf guard.Free rest back return = record {
      backslash = ap (λ z. z && begins_line_end (line_end crlf ++ rest)) (sym back);
      return = ap (λ z. z && starts (λ c. c == 10) (line_end crlf ++ rest)) (not_true (ends (λ c. c == 13) l) return);
    }
    by true guard.Blank rest back return = record { backslash = no_and (ends (λ c. c == 92) l); return = no_and (ends (λ c. c == 13) l) }
    by false guard.Blank rest back return = record { backslash = no_and (ends (λ c. c == 92) l); return = no_and (ends (λ c. c == 13) l) }
    by true guard.Splice rest back return = record { backslash = no_and (ends (λ c. c == 92) l); return = no_and (ends (λ c. c == 13) l) }
    by false guard.Splice rest back return = record { backslash = no_and (ends (λ c. c == 92) l); return = no_and (ends (λ c. c == 13) l) }
    by crlf guard.Return rest back return = record {
      backslash = ap (λ z. z && true) (sym back);
      return = no_and (ends (λ c. c == 13) l);
    }

broken_bytes : (crlf : Bool) (g : Guard) (bytes : List ℕ) (a : Bool) → IsBroken crlf g bytes → (not (is_same bytes []) || a) ≡ true
broken_bytes crlf g bytes a b = ap (λ z. not (is_same z []) || a) b.bytes_are ∙ by crlf g (white_bytes b.more)
  where
    by : (crlf : Bool) (g : Guard) (rest : List ℕ) → (not (is_same (guard_text crlf g ++ (line_end (guarded_ends crlf g) ++ rest)) []) || a) ≡ true
    by true guard.Free rest = refl
    by false guard.Free rest = refl
    by crlf guard.Blank rest = refl
    by crlf guard.Splice rest = refl
    by crlf guard.Return rest = refl

pub broken_fit_bytes : (d : Dialect) (place : Place) (left item : ReadItem) (crlf : Bool) (g : Guard) (bytes : List ℕ) → IsBroken crlf g bytes → Leaves left g → list_any is_new_line (bytes_of item.gap) ≡ true →
    AreFitBytes d place left item bytes
broken_fit_bytes d place left item crlf g bytes b leaves lines = record {
  fits = subst (λ z. IsFitGap place left.kind (bytes_of item.gap) z) (sym (broken_reads d crlf g bytes b)) (broken_fits place left g (bytes_of item.gap) b.more leaves lines);
  guarded = broken_guarded left crlf g bytes b leaves;
  some = broken_bytes crlf g bytes (end_of left == start_of item) b;
}

-- One blank fits in a text, behind an item that doesn't take its line.
pub blank_fit_bytes : (d : Dialect) (place : Place) (left item : ReadItem) → list_any is_new_line (bytes_of item.gap) ≡ false → takes_line left.kind ≡ false → in_directive place ≡ false →
    AreFitBytes d place left item (32 ∷ [])
unfolding is_white is_new_line
blank_fit_bytes d place left item lines line text = record {
  fits = subst (λ z. IsFitGap place left.kind (bytes_of item.gap) z) (sym (white_reads_so d (Blank ∷ []))) (record {
    white = refl;
    lines = sym lines;
    stays = or_right (is_same (bytes_of item.gap) []) true refl;
    comes = or_right (not (is_same (bytes_of item.gap) [])) (not (in_directive place)) (ap not text);
    line = ap (λ z. not z || (false || is_same (32 ∷ []) (bytes_of item.gap))) line;
  });
  guarded = record { backslash = no_and (ends (λ c. c == 92) (bytes_of left.chars)); return = no_and (ends (λ c. c == 13) (bytes_of left.chars)) };
  some = refl;
}
