-- Lemmas on forms.
use Rattle.std.proofs.Common.{◌≡◌, ◌∙◌, ℕ, ◌<◌, ◌≤◌, ◌+◌, nat_lt, Bool, true, false, List, arith, ap, subst, sym}
use Rattle.std.specs.Bool.{OnTrue, OnFalse}
use Rattle.statement_lines.specs.declared.token.CodeToken.{CodeToken}
use Rattle.statement_lines.specs.declared.braces.Braces.{Braces}
use Rattle.statement_lines.specs.declared.open.Open.{Open}
use Rattle.statement_lines.specs.declared.open.Start.{Start}
use Rattle.statement_lines.specs.declared.open.Start.TheVariants.{Tail}
use Rattle.statement_lines.specs.declared.form.Form.{Form}
use Rattle.statement_lines.specs.declared.form.Next.TheVariants.{Ends}
use Rattle.line_tokens.specs.declared.line.LineKind.{LineKind}
use Rattle.line_tokens.specs.declared.line.LineKind.TheVariants.{Control}
use Rattle.token_classes.specs.Classes.{is_open_brace}
use Rattle.statement_lines.proofs.Known.{lt_false, lt_true}
use Rattle.statement_lines.specs.Forms.{class_at, form_of, statement, tail_end, StaysIn}

-- a head whose brace stands behind the line's first token
pub moved : (closes : Bool) (tokens : List CodeToken) (at from stop : ℕ) → OnTrue closes (from ≡ at + 1) → OnFalse closes (from ≡ at) → from ≤ stop
    → OnFalse closes (is_open_brace (class_at tokens at) ≡ false) → is_open_brace (class_at tokens stop) ≡ true → at < stop
moved true tokens at from stop behind here h first brace = omega arith
moved false tokens at from stop behind here h first brace =
    let other : at ≡ stop → ⊥ = λ e. (let q : class_at tokens at ≡ class_at tokens stop = ap (λ x. class_at tokens x) e in cc) in
    omega arith

-- ## A line alone

pub alone_stays : (kind : LineKind) (level end at : ℕ) (o : Open) (f : Form) → f ≡ record { kind = kind; level = level; end = end; next = Ends } → at < end → end ≤ o.end
    → StaysIn at o f f.next
alone_stays kind level end at o f e up within = let P : Form → Type 0 = λ x. StaysIn at o x x.next in subst P (sym e) (up, within)

-- ## The cases of a start

pub tail_form : (braces : Braces) (tokens : List CodeToken) (o : Open) (start : Start) (at t : ℕ) (f : Form) → start ≡ Tail → t ≡ tail_end tokens o.end at → at < t
    → f ≡ record { kind = Control; level = o.level; end = t; next = Ends } → f ≡ form_of braces tokens o start at
tail_form braces tokens o start at t f is et up e =
    let P : ℕ → Type 0 = λ x. nat_lt at x ≡ true in
    let more = subst P et (lt_true at t up) in
    rw (is, more, form_of) (e ∙ ap (λ (x : ℕ). record { kind = Control; level = o.level; end = x; next = Ends }) et)

pub no_tail_form : (braces : Braces) (tokens : List CodeToken) (o : Open) (start : Start) (at t : ℕ) (f : Form) → start ≡ Tail → t ≡ tail_end tokens o.end at → t ≤ at
    → f ≡ statement braces tokens o at → f ≡ form_of braces tokens o start at
no_tail_form braces tokens o start at t f is et low e =
    let P : ℕ → Type 0 = λ x. nat_lt at x ≡ false in
    let none = subst P et (lt_false at t low) in
    rw (is, none, form_of) e
