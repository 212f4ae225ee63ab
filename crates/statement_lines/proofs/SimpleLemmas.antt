-- Statements whose first tokens tell that no case fits them but the last.
use Rattle.std.proofs.Common.{◌≡◌, ◌∙◌, ℕ, ◌+◌, ◌<◌, ◌≤◌, ◌&&◌, ◌||◌, nat_lt, nat_le, true, false, List, length, None}
use Rattle.std.proofs.Common.{refl, ap, arith}
use Rattle.std.proofs.lemmas.Bool.{and_right, or_from}
use Rattle.token_classes.specs.declared.class.TokenClass.{TokenClass}
use Rattle.token_classes.specs.declared.class.TokenClass.TheVariants.{Semicolon, Nothing}
use Rattle.token_classes.specs.Classes.{is_word, is_plain, is_control, is_capital, is_case, is_default, is_extern}
use Rattle.token_classes.specs.Classes.{is_open_round, is_open_brace, is_close_brace, is_colon, is_semicolon}
use Rattle.statement_lines.specs.declared.token.CodeToken.{CodeToken}
use Rattle.statement_lines.specs.declared.braces.Braces.{Braces}
use Rattle.statement_lines.specs.declared.open.Open.{Open}
use Rattle.statement_lines.specs.declared.form.Form.{Form}
use Rattle.statement_lines.specs.Forms.{class_at, seen, after_group, began_at, ends_macro, is_code, is_enumerators}
use Rattle.statement_lines.specs.Forms.{label, macro_end, other_form, statement, unlabelled}

lt_self : (k : ℕ) → nat_lt k k ≡ false
lt_self k = grind arith

-- ## A `;`

semicolon_brace : (c : TokenClass) → is_semicolon c ≡ true → is_open_brace c ≡ false
semicolon_brace Semicolon h = refl
semicolon_brace _ h = cc

semicolon_word : (c : TokenClass) → is_semicolon c ≡ true → is_word c ≡ false
semicolon_word Semicolon h = refl
semicolon_word _ h = cc

semicolon_close : (c : TokenClass) → is_semicolon c ≡ true → is_close_brace c ≡ false
semicolon_close Semicolon h = refl
semicolon_close _ h = cc

seen_here : (tokens : List CodeToken) (end i : ℕ) → is_semicolon (seen tokens end i) ≡ true → (i < end) × (is_semicolon (class_at tokens i) ≡ true)
seen_here tokens end i h =
    elim (nat_lt i end) as (λ x. nat_lt i end ≡ x → is_semicolon (elim x [ true ↦ class_at tokens i | false ↦ Nothing ]) ≡ true → (i < end) × (is_semicolon (class_at tokens i) ≡ true)) [
      | true ↦ λ e s. ((grind (arith, e)), s)
      | false ↦ λ e s. cc
    ] refl h

no_macro : (tokens : List CodeToken) (end i : ℕ) → end ≤ length tokens → is_semicolon (seen tokens end i) ≡ true → ends_macro tokens i ≡ false
no_macro tokens end i list h =
    let here = seen_here tokens end i h in
    let low : i < end = here.0 in
    let past : nat_le (length tokens) i ≡ false = grind (arith, low, list) in
    let class = class_at tokens i in
    or_from (nat_le (length tokens) i) (began_at tokens i && (is_word class || is_close_brace class)) past
    (and_right (began_at tokens i) (is_word class || is_close_brace class) (or_from (is_word class) (is_close_brace class) (semicolon_word class here.1) (semicolon_close class here.1)))

-- ## Labels

label_without : (braces : Braces) (tokens : List CodeToken) (o : Open) (at : ℕ) → is_case (class_at tokens at) ≡ false → is_colon (seen tokens o.end (at + 1)) ≡ false
    → label braces tokens o at ≡ None
label_without braces tokens o at case colon = rw (case, colon, label) refl

label_other : (braces : Braces) (tokens : List CodeToken) (o : Open) (at : ℕ) → is_case (class_at tokens at) ≡ false → is_default (class_at tokens at) ≡ false
    → is_plain (class_at tokens at) ≡ false → label braces tokens o at ≡ None
label_other braces tokens o at case default plain =
    elim (is_colon (seen tokens o.end (at + 1))) as (λ x. is_colon (seen tokens o.end (at + 1)) ≡ x → label braces tokens o at ≡ None) [
      | true ↦ λ colon. rw (case, colon, default, plain, label) refl
      | false ↦ λ colon. label_without braces tokens o at case colon
    ] refl

-- ## What is left

rest : (braces : Braces) (tokens : List CodeToken) (o : Open) (at : ℕ) (f : Form) → is_enumerators o.context ≡ false → is_close_brace (class_at tokens at) ≡ false
    → label braces tokens o at ≡ None → is_control (class_at tokens at) ≡ false → unlabelled braces tokens o at ≡ f → statement braces tokens o at ≡ f
rest braces tokens o at f statements close none control e = rw (statements, close, none, control, statement) e

unlabelled_rest : (braces : Braces) (tokens : List CodeToken) (o : Open) (at : ℕ)
    → (is_plain (class_at tokens at) && (nat_lt (at + 1) (after_group tokens o.end (at + 1)) && is_open_brace (seen tokens o.end (after_group tokens o.end (at + 1))))) ≡ false
    → is_open_brace (class_at tokens at) ≡ false → is_extern (class_at tokens at) ≡ false → macro_end tokens o.end at ≡ at
    → unlabelled braces tokens o at ≡ other_form braces tokens o false o.level at false
unlabelled_rest braces tokens o at block brace extern macro =
    rw (and_right (is_code o.context) (is_plain (class_at tokens at) && (nat_lt (at + 1) (after_group tokens o.end (at + 1)) && is_open_brace (seen tokens o.end (after_group tokens o.end (at + 1))))) block, brace, extern, macro, lt_self at, unlabelled) refl

no_macro_end : (tokens : List CodeToken) (end at : ℕ)
    → (is_plain (class_at tokens at) && ((nat_lt (at + 1) (after_group tokens end (at + 1)) || is_capital (class_at tokens at)) && ends_macro tokens (after_group tokens end (at + 1)))) ≡ false
    → macro_end tokens end at ≡ at
no_macro_end tokens end at h = rw (h, macro_end) refl

-- no word that may be a name
pub other_rest : (braces : Braces) (tokens : List CodeToken) (o : Open) (at : ℕ) → is_enumerators o.context ≡ false → is_control (class_at tokens at) ≡ false
    → is_case (class_at tokens at) ≡ false → is_default (class_at tokens at) ≡ false → is_extern (class_at tokens at) ≡ false → is_open_brace (class_at tokens at) ≡ false
    → is_close_brace (class_at tokens at) ≡ false → is_plain (class_at tokens at) ≡ false
    → statement braces tokens o at ≡ other_form braces tokens o false o.level at false
other_rest braces tokens o at statements control case default extern brace close plain =
    let g = after_group tokens o.end (at + 1) in
    let block = ap (λ x. x && (nat_lt (at + 1) g && is_open_brace (seen tokens o.end g))) plain in
    let macro = no_macro_end tokens o.end at (ap (λ x. x && ((nat_lt (at + 1) g || is_capital (class_at tokens at)) && ends_macro tokens g)) plain) in
    rest braces tokens o at (other_form braces tokens o false o.level at false) statements close (label_other braces tokens o at case default plain) control
    (unlabelled_rest braces tokens o at block brace extern macro)

-- a name with neither `:` nor `(` behind it
pub name_rest : (braces : Braces) (tokens : List CodeToken) (o : Open) (at : ℕ) → is_enumerators o.context ≡ false → is_control (class_at tokens at) ≡ false
    → is_case (class_at tokens at) ≡ false → is_extern (class_at tokens at) ≡ false → is_open_brace (class_at tokens at) ≡ false
    → is_close_brace (class_at tokens at) ≡ false → is_colon (seen tokens o.end (at + 1)) ≡ false → is_open_round (seen tokens o.end (at + 1)) ≡ false
    → is_capital (class_at tokens at) ≡ false
    → statement braces tokens o at ≡ other_form braces tokens o false o.level at false
name_rest braces tokens o at statements control case extern brace close colon round capital =
    let g = after_group tokens o.end (at + 1) in
    let here : g ≡ at + 1 = rw (round, after_group) refl in
    let none : nat_lt (at + 1) g ≡ false = ap (nat_lt (at + 1)) here ∙ lt_self (at + 1) in
    let plain = is_plain (class_at tokens at) in
    let block = and_right plain (nat_lt (at + 1) g && is_open_brace (seen tokens o.end g)) (ap (λ x. x && is_open_brace (seen tokens o.end g)) none) in
    let word = or_from (nat_lt (at + 1) g) (is_capital (class_at tokens at)) none capital in
    let macro = no_macro_end tokens o.end at (and_right plain ((nat_lt (at + 1) g || is_capital (class_at tokens at)) && ends_macro tokens g) (ap (λ x. x && ends_macro tokens g) word)) in
    rest braces tokens o at (other_form braces tokens o false o.level at false) statements close (label_without braces tokens o at case colon) control
    (unlabelled_rest braces tokens o at block brace extern macro)

-- a call with a `;` behind it
pub call_rest : (braces : Braces) (tokens : List CodeToken) (o : Open) (at : ℕ) → is_enumerators o.context ≡ false → is_control (class_at tokens at) ≡ false
    → is_case (class_at tokens at) ≡ false → is_extern (class_at tokens at) ≡ false → is_open_brace (class_at tokens at) ≡ false
    → is_close_brace (class_at tokens at) ≡ false → is_colon (seen tokens o.end (at + 1)) ≡ false → o.end ≤ length tokens
    → is_semicolon (seen tokens o.end (after_group tokens o.end (at + 1))) ≡ true
    → statement braces tokens o at ≡ other_form braces tokens o false o.level at false
call_rest braces tokens o at statements control case extern brace close colon list semicolon =
    let g = after_group tokens o.end (at + 1) in
    let plain = is_plain (class_at tokens at) in
    let none = no_macro tokens o.end g list semicolon in
    let block = and_right plain (nat_lt (at + 1) g && is_open_brace (seen tokens o.end g)) (and_right (nat_lt (at + 1) g) (is_open_brace (seen tokens o.end g)) (semicolon_brace (seen tokens o.end g) semicolon)) in
    let call = nat_lt (at + 1) g || is_capital (class_at tokens at) in
    let macro = no_macro_end tokens o.end at (and_right plain (call && ends_macro tokens g) (and_right call (ends_macro tokens g) none)) in
    rest braces tokens o at (other_form braces tokens o false o.level at false) statements close (label_without braces tokens o at case colon) control
    (unlabelled_rest braces tokens o at block brace extern macro)
