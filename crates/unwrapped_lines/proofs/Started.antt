-- The lines of any view cut it.
use Rattle.std.proofs.Common.{◌≡◌, ℕ, zero, suc, ◌+◌, ◌<◌, ◌≤◌, nat_lt, Bool, true, false, List, [], ◌∷◌, ◌++◌, length}
use Rattle.std.proofs.Common.{Option, refl, arith, inl, inr, ◌⊎◌}
use Rattle.style_table.specs.declared.style.Style.{Style}
use Rattle.token_arena.specs.Gaps.{Contents}
use Rattle.item_classes.specs.Viewed.{classes_of}
use Rattle.statement_lines.specs.declared.token.CodeToken.{CodeToken}
use Rattle.statement_lines.specs.declared.line.Line.{Line}
use Rattle.statement_lines.specs.declared.braces.Braces.{Braces}
use Rattle.statement_lines.specs.declared.open.Open.{Open}
use Rattle.statement_lines.specs.declared.open.Start.{Start}
use Rattle.statement_lines.specs.declared.open.Start.TheVariants.{Fresh, Closing}
use Rattle.statement_lines.specs.declared.form.Form.{Form}
use Rattle.statement_lines.specs.declared.form.Next.{Next}
use Rattle.statement_lines.specs.declared.form.Next.TheVariants.{Ends, Goes, Waits, Opens}
use Rattle.statement_lines.specs.Forms.{form_of}
use Rattle.statement_lines.specs.Tree.{lines_from, lines_of, head_lines, whole_file}
use Rattle.unwrapped_lines.specs.Viewed.{code_tokens}
use Rattle.statement_lines.specs.Wrapping.{braces_of}
use Rattle.line_tokens.specs.Lines.{CutPlaces}
use Rattle.unwrapped_lines.specs.Lines.{unwrapped_lines_of}
use Rattle.statement_lines.proofs.Known.{lt_true}
use Rattle.statement_lines.proofs.StackLemmas.{from_end, from_ends, from_goes, from_waits, from_opens}
use Rattle.unwrapped_lines.proofs.CutLemmas.{Starts, cut_started}

head_starts : (total : ℕ) (o : Open) (start : Start) (f : Form) (wrapped : Bool) (ls ms : List Line) → Starts total (head_lines o start 0 f wrapped ++ ls ++ ms)
head_starts total o start f true ls ms = refl
head_starts total o start f false ls ms = refl

-- whatever the first line leaves open, it begins at the first token
form_starts : (n : ℕ) (braces : Braces) (tokens : List CodeToken) (os : List Open) (o : Open) (start : Start) (total : ℕ) (f : Form) → nat_lt 0 o.end ≡ true → form_of braces tokens o start 0 ≡ f
    → (next : Next) → f.next ≡ next → Starts total (lines_from (suc n) braces tokens (o ∷ os) start 0)
form_starts n braces tokens os o start total f some is Ends e = rw (from_ends n braces tokens os o start 0 f some is e) refl
form_starts n braces tokens os o start total f some is (Goes s) e = rw (from_goes n braces tokens os o start 0 f s some is e) refl
form_starts n braces tokens os o start total f some is (Waits h) e = rw (from_waits n braces tokens os o start 0 f h some is e) refl
form_starts n braces tokens os o start total f some is (Opens wrapped b) e =
    rw (from_opens n braces tokens os o start 0 f wrapped b some is e)
    (head_starts total o start f wrapped (lines_from n braces tokens (b ∷ []) Fresh (f.end + 1)) (lines_from n braces tokens (o ∷ os) (Closing b) b.end))

none_or_some : (n : ℕ) → (n ≡ 0) ⊎ (0 < n)
none_or_some n = grind arith

list_starts : (n : ℕ) (braces : Braces) (tokens : List CodeToken) (o : Open) (os : List Open) (start : Start) → o.end ≤ n → Starts o.end (lines_from n braces tokens (o ∷ os) start 0)
list_starts zero braces tokens o os start enough = omega (arith, enough)
list_starts (suc n) braces tokens o os start enough = elim (none_or_some o.end) [
  | inl none ↦ rw (from_end (suc n) braces tokens os o start 0 (omega (arith, none))) (omega (arith, none))
  | inr some ↦
      let f = form_of braces tokens o start 0 in
      form_starts n braces tokens os o start o.end f (lt_true 0 o.end some) refl f.next refl
]

-- the lines of tokens start them
lines_start : (braces : Braces) (tokens : List CodeToken) → Starts (length tokens) (lines_of braces tokens)
lines_start braces tokens = list_starts (length tokens) braces tokens (whole_file tokens) [] Fresh (omega arith)

-- the lines of a view cut it whole and in order
pub lines_cut_views : (style : Style) (arena : Contents) (ids : List ℕ) (partners : List (Option ℕ)) → CutPlaces 0 (length ids) (unwrapped_lines_of style arena ids partners)
lines_cut_views style arena ids partners =
    cut_started style arena ids partners (lines_start (braces_of style) (code_tokens arena ids (classes_of arena ids) partners))
