-- Gaps that the input has as they are decided.
use Rattle.std.proofs.Common.{◌≡◌, ◌&&◌, ◌∙◌, ◌≤◌, ℕ, Bool, true, false, List, ◌∷◌, [], ◌++◌, ◌+◌, Some, Option, slice_get, drop, refl, sym, ap, arith}
use Rattle.std.specs.Prelude.{◌==◌, not, if◌then◌else◌}
use Rattle.std.proofs.lemmas.Bool.{ne_eqb, and_right}
use Rattle.c_grammar.specs.Fitting.{is_comment}
use Rattle.token_arena.specs.Directives.{is_hash_token}
use Rattle.token_arena.specs.Stored.{Stored}
use Rattle.token_arena.specs.Gaps.{Contents, Stands, behind}
use Rattle.token_arena.specs.declared.directives.Section.{Section}
use Rattle.replacements.specs.declared.slot.Slot.{Slot}
use Rattle.style_table.specs.declared.style.Style.{Style}
use Rattle.replacements.specs.GapText.{blanks, indentation, level_columns, line_ends}
use Rattle.replacements.specs.declared.gap_text.Decision.{Decision}
use Rattle.replacements.specs.declared.gap_text.Decision.TheVariants.{Lines, Spaces}
use Rattle.replacements.specs.Guards.{guard_before, guard_of}
use Rattle.replacements.specs.Same.{ComesNoHash, IsSame, IsWritten}
use Rattle.replacements.specs.Stances.{hash_comes, stance_in}
use Rattle.replacements.specs.Written.{bytes_between, decision_at, is_of_text, planned_gap, written_from}
use Rattle.replacements.specs.declared.guard.Guard.TheVariants.{Free}
use Rattle.replacements.specs.declared.stance.Stance.{Stance}
use Rattle.replacements.proofs.Held.{between-append, held_next}
use Rattle.replacements.proofs.Items.{guard_next}
use Rattle.replacements.proofs.Writing.{written_next}

-- a choice between two lists that are one
one_of : (b : Bool) (xs ys : List ℕ) → xs ≡ ys → (if b then xs else ys) ≡ ys
one_of true xs ys same = same
one_of false xs ys same = refl

-- one blank, with a `#` or without
pub same_blank : (style : Style) (crlf : Bool) (arena : Contents) (at place : ℕ) (d : Decision) (t : Stored) → (place ≡ 0 → ⊥) → d ≡ Spaces 1 → bytes_between arena.text at t.start ≡ blanks 1 → IsSame style crlf arena at place d t
same_blank style crlf arena at place d t later is gap = λ stance tokens.
    let first : (place == 0) ≡ false = ne_eqb place 0 later in
    rw (is, first, gap) (one_of (is_of_text stance && hash_comes arena.dialect (t ∷ tokens)) (32 ∷ []) (32 ∷ []) refl)

-- blanks where no `#` comes
pub same_blanks : (style : Style) (crlf : Bool) (arena : Contents) (at place count : ℕ) (d : Decision) (t : Stored) → (place ≡ 0 → ⊥) → d ≡ Spaces count → ComesNoHash t → bytes_between arena.text at t.start ≡ blanks count → IsSame style crlf arena at place d t
same_blanks style crlf arena at place count d t later is none gap = λ stance tokens.
    let first : (place == 0) ≡ false = ne_eqb place 0 later in
    let no_hash : (is_of_text stance && hash_comes arena.dialect (t ∷ tokens)) ≡ false = ap (λ b. is_of_text stance && b) (none arena.dialect tokens) ∙ and_right (is_of_text stance) false refl in
    rw (is, first, no_hash, gap) refl

-- lines before an item that begins its line, behind one that needs no guard
pub lines_written : (style : Style) (crlf : Bool) (arena : Contents) (place count column level : ℕ) (t : Stored) (piece : List ℕ) → (place ≡ 0 → ⊥) → t.gap.began ≡ true → guard_before arena.tokens place ≡ Free
    → piece ≡ line_ends crlf count ++ indentation style (level_columns style level column) column → IsWritten style crlf arena place (Lines count column level) t piece
lines_written style crlf arena place count column level t piece later began guard is = λ at stance tokens.
    let first : (place == 0) ≡ false = ne_eqb place 0 later in
    let none : hash_comes arena.dialect (t ∷ tokens) ≡ false = ap (λ b. not b && (if is_comment t.kind then hash_comes arena.dialect tokens else is_hash_token arena.dialect t)) began in
    let no_hash : (is_of_text stance && hash_comes arena.dialect (t ∷ tokens)) ≡ false = ap (λ b. is_of_text stance && b) none ∙ and_right (is_of_text stance) false refl in
    rw (first, no_hash, guard, is) refl

-- a gap that is as it is decided is held with what is held before it
pub held_same : (style : Style) (crlf : Bool) (arena : Contents) (at place held : ℕ) (stance : Stance) (d : Decision) (t : Stored) (ts : List Stored) → IsSame style crlf arena at place d t → held ≤ at → at ≤ t.start →
    bytes_between arena.text held at ++ planned_gap style crlf arena (guard_before arena.tokens place) at place stance d t ts ≡ [] ++ bytes_between arena.text held t.start
held_same style crlf arena at place held stance d t ts same first second =
    ap (λ (z : List ℕ). bytes_between arena.text held at ++ z) (same stance ts) ∙ between-append arena.text held at t.start first second

-- one more item is passed whose gap is as it is to be written
pub passed_more : (style : Style) (crlf : Bool) (arena : Contents) (sections : List Section) (plan : List (Option Slot)) (at place held : ℕ) (t : Stored) (all : List ℕ) → Stands arena.text at t → held ≤ at → slice_get arena.tokens place ≡ Some t
    → IsSame style crlf arena at place (decision_at plan place) t
    → all ≡ bytes_between arena.text held at ++ written_from style crlf arena sections plan (guard_before arena.tokens place) at place (drop place arena.tokens)
    → all ≡ bytes_between arena.text held (behind t) ++ written_from style crlf arena sections plan (guard_before arena.tokens (place + 1)) (behind t) (place + 1) (drop (place + 1) arena.tokens)
passed_more style crlf arena sections plan at place held t all stands first is same before =
    let g = guard_before arena.tokens place in
    let gap : List ℕ = planned_gap style crlf arena g at place (stance_in sections place) (decision_at plan place) t (drop (place + 1) arena.tokens) in
    let rest : List ℕ = written_from style crlf arena sections plan (guard_of t) (behind t) (place + 1) (drop (place + 1) arena.tokens) in
    let next : bytes_between arena.text held at ++ written_from style crlf arena sections plan g at place (drop place arena.tokens) ≡ [] ++ (bytes_between arena.text held (behind t) ++ rest) =
    held_next arena.text at held held t gap [] _ rest stands (omega (arith, first, stands.later))
    (held_same style crlf arena at place held (stance_in sections place) (decision_at plan place) t (drop (place + 1) arena.tokens) same first stands.later)
    (written_next style crlf arena sections plan g at place t is) in
    before ∙ (next ∙ ap (λ h. bytes_between arena.text held (behind t) ++ written_from style crlf arena sections plan h (behind t) (place + 1) (drop (place + 1) arena.tokens)) (sym (guard_next arena.tokens place t is)))
