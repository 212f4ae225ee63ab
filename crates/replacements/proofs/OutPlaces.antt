-- Where items stand outside of directives.
use Rattle.std.proofs.Common.{◌≡◌, ◌==◌, ◌∙◌, ◌||◌, not, ℕ, ◌+◌, Bool, true, false, List, [], ◌∷◌, refl, sym, ap, subst, arith, length, take, drop, nat_lt}
use Rattle.std.specs.Prelude.{if◌then◌else◌}
use Rattle.std.specs.List.{list_any}
use Rattle.std.proofs.lemmas.Bool.Decides.{nat_tests}
use Rattle.c_chars.specs.Characters.{bytes_of, chars, mark_len}
use Rattle.c_chars.specs.declared.Dialect.{Dialect}
use Rattle.c_chars.specs.declared.LogicalChar.{LogicalChar}
use Rattle.c_grammar.specs.Grammar.{is_new_line}
use Rattle.c_grammar.specs.Items.{Place, LineStart, past_gap, past_item, is_gap}
use Rattle.c_grammar.specs.Text.{ReadItem, end_of, characters_of, LexesText}
use Rattle.c_grammar.specs.Fitting.{in_directive}
use Rattle.c_grammar.specs.Rewritten.{read_alone}
use Rattle.c_grammar.proofs.ItemBytes.{AreParted, parted}
use Rattle.c_grammar.proofs.Rewritten.{HasMark, mark_of}
use Rattle.c_grammar.proofs.White.{white_reads_so}
use Rattle.c_grammar.specs.Rewritten.{Blank}
use Rattle.c_grammar.specs.Grammar.{is_white}
use Rattle.token_arena.specs.Stored.{Stored, stored_of, new_lines}
use Rattle.token_arena.specs.Directives.{spelling}
use Rattle.replacements.specs.Written.{first_gap, mark_bytes}
use Rattle.replacements.proofs.Spelled.{has_mark, no_mark, marked}
use Rattle.replacements.proofs.Leaving.{OutPlace, out_place, from_start, from_line, new_lines-any}
use Rattle.replacements.proofs.TextLines.{inside_at, leads_hash}

-- The place behind an item of a line that is no directive.
pub next_out : (d : Dialect) (text : List ℕ) (place : Place) (inside : Bool) (left i : ReadItem) (ts : List Stored) → spelling d (stored_of text false (end_of left) i) ≡ bytes_of i.chars →
    (inside ≡ false → OutPlace d place (stored_of text false (end_of left) i ∷ ts)) → inside_at d inside (stored_of text false (end_of left) i) ts ≡ false →
    OutPlace d (past_item d (past_gap place (bytes_of i.gap)) i.kind (bytes_of i.chars)) ts
next_out d text place inside left i ts spelled out now = by (list_any is_new_line (bytes_of i.gap)) (new_lines-any i.gap) refl
  where
    t : Stored
    t = stored_of text false (end_of left) i

    by : (b : Bool) → not (new_lines i.gap == 0) ≡ b → list_any is_new_line (bytes_of i.gap) ≡ b → OutPlace d (past_item d (past_gap place (bytes_of i.gap)) i.kind (bytes_of i.chars)) ts
    by true began lines =
        let no : leads_hash d t ts ≡ false = ap (λ b. if b then leads_hash d t ts else inside) (sym began) ∙ now in
        subst (λ b. OutPlace d (past_item d (if b then LineStart else place) i.kind (bytes_of i.chars)) ts) (sym lines)
        (subst (λ z. OutPlace d (past_item d LineStart i.kind z) ts) spelled (from_start d t ts no))
    by false began lines =
        let same : inside ≡ false = ap (λ b. if b then leads_hash d t ts else inside) (sym began) ∙ now in
        subst (λ b. OutPlace d (past_item d (if b then LineStart else place) i.kind (bytes_of i.chars)) ts) (sym lines)
        (subst (λ z. OutPlace d (past_item d place i.kind z) ts) spelled (from_line d place t ts began (out same)))

-- in a line that is no directive a gap without a new-line stands at no place of a directive
pub gap_out : (d : Dialect) (text : List ℕ) (place : Place) (inside : Bool) (left i : ReadItem) (ts : List Stored) → (inside ≡ false → OutPlace d place (stored_of text false (end_of left) i ∷ ts)) →
    inside_at d inside (stored_of text false (end_of left) i) ts ≡ false → list_any is_new_line (bytes_of i.gap) ≡ false → in_directive place ≡ false
gap_out d text place inside left i ts out now lines =
    let t = stored_of text false (end_of left) i in
    let began : t.gap.began ≡ false = new_lines-any i.gap ∙ lines in
    let same : inside ≡ false = ap (λ b. if b then leads_hash d t ts else inside) (sym began) ∙ now in
    out_place d place (t ∷ ts) (out same)

pub not_first : (n : ℕ) → (n + 1 == 0) ≡ false
not_first n = grind (arith, nat_tests)

-- the items of a text in its bytes
pub text_parts : (d : Dialect) (text : List ℕ) (items : List ReadItem) (last : List LogicalChar) → LexesText d text items last → AreParted d text (mark_len text) (drop (mark_len text) text) items
text_parts d text items last lexes =
    let mark : HasMark text = mark_of text in
    let front = take (mark_len text) text in
    let old = drop (mark_len text) text in
    let at_front : chars d (length front) old ≡ characters_of items last = ap (λ z. chars d z old) mark.long ∙ lexes.whole in
    subst (λ z. AreParted d text z old items) mark.long (parted d text front old LineStart items last mark.whole at_front lexes.reads)

-- the first gap is none, or a blank
pub first_white : (d : Dialect) (text : List ℕ) (t : Stored) → is_gap (read_alone d (first_gap text t)) ≡ true
unfolding is_white is_new_line
first_white d text t = by (nat_lt 0 (mark_len text) || not (nat_lt 0 (mark_len t.raw)))
  where
    by : (b : Bool) → is_gap (read_alone d (if b then [] else 32 ∷ [])) ≡ true
    by true = ap is_gap (white_reads_so d [])
    by false = ap is_gap (white_reads_so d (Blank ∷ []))

-- no byte order mark comes
pub no_blank : ◌≡◌ {A = List ℕ} [] (32 ∷ []) → ⊥
no_blank e = cc

pub first_marked : (text : List ℕ) (t : Stored) → mark_len text ≡ 0 → first_gap text t ≡ [] → mark_len t.raw ≡ 0
first_marked text t none e = elim (marked t.raw) [
  | no_mark is ↦ is
  | has_mark rest is ↦
      let blank : first_gap text t ≡ 32 ∷ [] = ap (λ n. if nat_lt 0 n || not (nat_lt 0 (mark_len t.raw)) then [] else 32 ∷ []) none ∙ ap (λ z. if false || not (nat_lt 0 (mark_len z)) then [] else 32 ∷ []) is in
      absurd (no_blank (sym e ∙ blank))
]

pub marks : (text : List ℕ) → mark_bytes (mark_len text) ≡ take (mark_len text) text
marks text = elim (marked text) [
  | has_mark rest is ↦ rw is refl
  | no_mark none ↦ rw none refl
]
