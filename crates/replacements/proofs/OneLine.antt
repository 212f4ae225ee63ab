-- White space without line ends but in splices: blanks, and a splice between white space.
use Rattle.std.proofs.Common.{◌≡◌, ◌==◌, ◌∙◌, ℕ, zero, suc, ◌-◌, ◌/◌, ◌%◌, Bool, true, false, List, [], ◌∷◌, ◌++◌, refl, sym, ap, subst, replicate}
use Rattle.std.specs.List.{list_any, list_all}
use Rattle.std.proofs.lemmas.Bool.{and_parts}
use Rattle.c_chars.specs.Characters.{bytes_of}
use Rattle.c_chars.specs.declared.Dialect.{Dialect}
use Rattle.c_grammar.specs.Grammar.{is_new_line, is_same}
use Rattle.c_grammar.specs.Items.{is_gap}
use Rattle.c_grammar.specs.Touch.{ends}
use Rattle.c_grammar.specs.Text.{ReadItem}
use Rattle.c_grammar.specs.Rewritten.{read_alone, IsGuarded, White, Blank, Tab, LineEnd, Splice, white_bytes, white_chars}
use Rattle.c_grammar.proofs.White.{white_reads_so}
use Rattle.style_table.specs.declared.style.Style.{Style}
use Rattle.style_table.specs.declared.style.UseTab.{UseTab}
use Rattle.style_table.specs.declared.style.UseTab.TheVariants.{Never, ForIndentation, ForContinuationAndIndentation, AlignWithSpaces, Always}
use Rattle.replacements.specs.GapText.{blanks, tabs_to, indentation_by, indentation, line_end}
use Rattle.replacements.proofs.Broken.{white_append, white_is_gap}
use Rattle.replacements.proofs.Following.{no_and}

-- it ends no line
abbrev pub goes_on : White → Bool
goes_on Blank = true
goes_on Tab = true
goes_on (LineEnd crlf) = false
goes_on (Splice crlf) = true

-- These bytes are blanks, tabs and splices.
pub record IsLineWhite (bytes : List ℕ) : Type 0 where
  pub whites : List White
  pub bytes_are : bytes ≡ white_bytes whites
  pub each : list_all goes_on whites ≡ true

all_append : (a b : List White) → list_all goes_on a ≡ true → list_all goes_on b ≡ true → list_all goes_on (a ++ b) ≡ true
all_append [] b p q = q
all_append (w ∷ a) b p q = let parts = and_parts (goes_on w) (list_all goes_on a) p in let here = parts.0 in rw here (all_append a b parts.1 q)

pub line_more : (a b : List ℕ) → IsLineWhite a → IsLineWhite b → IsLineWhite (a ++ b)
line_more a b p q = record {
  whites = p.whites ++ q.whites;
  bytes_are = ap (λ z. z ++ b) p.bytes_are ∙ (ap (λ z. white_bytes p.whites ++ z) q.bytes_are ∙ sym (white_append p.whites q.whites));
  each = all_append p.whites q.whites p.each q.each;
}

pub line_blanks : (n : ℕ) → IsLineWhite (blanks n)
line_blanks zero = record { whites = []; bytes_are = refl; each = refl }
line_blanks (suc n) = let rest = line_blanks n in record { whites = Blank ∷ rest.whites; bytes_are = ap (λ z. 32 ∷ z) rest.bytes_are; each = rest.each }

line_tabs : (n : ℕ) → IsLineWhite (replicate n 9)
line_tabs zero = record { whites = []; bytes_are = refl; each = refl }
line_tabs (suc n) = let rest = line_tabs n in record { whites = Tab ∷ rest.whites; bytes_are = ap (λ z. 9 ∷ z) rest.bytes_are; each = rest.each }

line_splice : (crlf : Bool) → IsLineWhite (92 ∷ line_end crlf)
line_splice true = record { whites = Splice true ∷ []; bytes_are = refl; each = refl }
line_splice false = record { whites = Splice false ∷ []; bytes_are = refl; each = refl }

line_indentation : (style : Style) (own column : ℕ) → IsLineWhite (indentation style own column)
line_indentation style own column = by style.use_tab
  where
    tabs : (own : ℕ) → IsLineWhite (tabs_to style.tab_width own)
    tabs own = line_more (replicate (own / style.tab_width) 9) (blanks (own % style.tab_width)) (line_tabs (own / style.tab_width)) (line_blanks (own % style.tab_width))

    by : (u : UseTab) → IsLineWhite (indentation_by u style.tab_width own column)
    by Never = line_blanks column
    by ForIndentation = line_more (tabs_to style.tab_width own) (blanks (column - own)) (tabs own) (line_blanks (column - own))
    by ForContinuationAndIndentation = tabs column
    by AlignWithSpaces = line_more (tabs_to style.tab_width own) (blanks (column - own)) (tabs own) (line_blanks (column - own))
    by Always = tabs column

-- a splice behind blanks, and indentation
pub spliced : (style : Style) (crlf : Bool) (pad column : ℕ) → IsLineWhite (blanks pad ++ (92 ∷ line_end crlf ++ indentation style column column))
spliced style crlf pad column =
    line_more (blanks pad) (92 ∷ line_end crlf ++ indentation style column column) (line_blanks pad)
    (line_more (92 ∷ line_end crlf) (indentation style column column) (line_splice crlf) (line_indentation style column column))

-- Its characters.

no_lines : (ws : List White) → list_all goes_on ws ≡ true → list_any is_new_line (white_chars ws) ≡ false
unfolding is_new_line
no_lines [] h = refl
no_lines (Blank ∷ ws) h = no_lines ws h
no_lines (Tab ∷ ws) h = no_lines ws h
no_lines (LineEnd crlf ∷ ws) h = cc
no_lines (Splice crlf ∷ ws) h = no_lines ws h

pub line_reads : (d : Dialect) (bytes : List ℕ) → (w : IsLineWhite bytes) → read_alone d bytes ≡ white_chars w.whites
line_reads d bytes w = ap (λ z. read_alone d z) w.bytes_are ∙ white_reads_so d w.whites

pub line_white : (d : Dialect) (bytes : List ℕ) → IsLineWhite bytes → is_gap (read_alone d bytes) ≡ true
line_white d bytes w = ap is_gap (line_reads d bytes w) ∙ white_is_gap w.whites

pub line_goes_on : (d : Dialect) (bytes : List ℕ) → IsLineWhite bytes → list_any is_new_line (read_alone d bytes) ≡ false
line_goes_on d bytes w = ap (list_any is_new_line) (line_reads d bytes w) ∙ no_lines w.whites w.each

-- It begins with a blank.
pub record BeginsBlank (bytes : List ℕ) : Type 0 where
  pub more : List ℕ
  pub is : bytes ≡ 32 ∷ more
  pub line : IsLineWhite more

pub blank_reads : (d : Dialect) (bytes : List ℕ) → BeginsBlank bytes → is_same (read_alone d bytes) [] ≡ false
blank_reads d bytes b =
    let w : IsLineWhite (32 ∷ b.more) = record { whites = Blank ∷ b.line.whites; bytes_are = ap (λ z. 32 ∷ z) b.line.bytes_are; each = b.line.each } in
    ap (λ z. is_same (read_alone d z) []) b.is ∙ ap (λ z. is_same z []) (line_reads d (32 ∷ b.more) w)

pub blank_white : (bytes : List ℕ) → BeginsBlank bytes → IsLineWhite bytes
blank_white bytes b = subst IsLineWhite (sym b.is) (record { whites = Blank ∷ b.line.whites; bytes_are = ap (λ z. 32 ∷ z) b.line.bytes_are; each = b.line.each })

-- behind any item it is guarded
pub blank_guarded : (left : ReadItem) (bytes : List ℕ) → BeginsBlank bytes → IsGuarded left bytes
blank_guarded left bytes b = subst (λ z. IsGuarded left z) (sym b.is) (by b.more)
  where
    by : (more : List ℕ) → IsGuarded left (32 ∷ more)
    by [] = record { backslash = no_and (ends (λ c. c == 92) (bytes_of left.chars)); return = no_and (ends (λ c. c == 13) (bytes_of left.chars)) }
    by (c ∷ more) = record { backslash = no_and (ends (λ c. c == 92) (bytes_of left.chars)); return = no_and (ends (λ c. c == 13) (bytes_of left.chars)) }

pub blanks_begin : (n : ℕ) → BeginsBlank (blanks (suc n))
blanks_begin n = record { more = blanks n; is = refl; line = line_blanks n }

pub spliced_begins : (style : Style) (crlf : Bool) (pad column : ℕ) → BeginsBlank (blanks (suc pad) ++ (92 ∷ line_end crlf ++ indentation style column column))
spliced_begins style crlf pad column = record { more = blanks pad ++ (92 ∷ line_end crlf ++ indentation style column column); is = refl; line = spliced style crlf pad column }
