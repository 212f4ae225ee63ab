-- The text of a plan, an item after the other.
use Rattle.std.proofs.Common.{◌≡◌, ◌&&◌, ◌∙◌, ◌≤◌, ℕ, zero, suc, ◌+◌, Bool, true, false, List, [], ◌∷◌, ◌++◌, length, drop, sym, ap, arith, Some, Option, slice_get, append_assoc, append-nil}
use Rattle.std.specs.Prelude.{if◌then◌else◌}
use Rattle.c_chars.specs.Characters.{mark_len}
use Rattle.token_arena.specs.Stored.{Stored}
use Rattle.token_arena.specs.Gaps.{Contents, StandFrom, behind, gap_of, gap_start}
use Rattle.token_arena.specs.declared.directives.Section.{Section}
use Rattle.style_table.specs.declared.style.Style.{Style}
use Rattle.replacements.specs.declared.gap_text.Decision.{Decision}
use Rattle.replacements.specs.Guards.{guard_of, guarded_text}
use Rattle.replacements.specs.Stances.{stance_in, hash_comes}
use Rattle.replacements.specs.Written.{bytes_between, decision_at, first_gap, is_of_text, is_old, laid_gap, planned_gap, written_from}
use Rattle.replacements.specs.declared.guard.Guard.{Guard}
use Rattle.replacements.specs.declared.slot.Slot.{Slot}
use Rattle.replacements.specs.declared.stance.Stance.{Stance}
use Rattle.std.proofs.lemmas.Bool.{ne_eqb}
use Rattle.replacements.proofs.Held.{between-append, between-none}
use Rattle.replacements.proofs.Items.{drop_next, drop_all_at, gap_last}

-- an item and the gap before it, and what comes then
pub written_next : (style : Style) (crlf : Bool) (arena : Contents) (sections : List Section) (plan : List (Option Slot)) (g : Guard) (at place : ℕ) (t : Stored) → slice_get arena.tokens place ≡ Some t →
    written_from style crlf arena sections plan g at place (drop place arena.tokens)
    ≡ (planned_gap style crlf arena g at place (stance_in sections place) (decision_at plan place) t (drop (place + 1) arena.tokens) ++ t.raw)
    ++ written_from style crlf arena sections plan (guard_of t) (behind t) (place + 1) (drop (place + 1) arena.tokens)
written_next style crlf arena sections plan g at place t is =
    let gap = planned_gap style crlf arena g at place (stance_in sections place) (decision_at plan place) t (drop (place + 1) arena.tokens) in
    let rest : List ℕ = written_from style crlf arena sections plan (guard_of t) (behind t) (place + 1) (drop (place + 1) arena.tokens) in
    ap (λ z. written_from style crlf arena sections plan g at place z) (drop_next arena.tokens place t is) ∙ sym (append_assoc gap t.raw rest)

-- behind the last item the last gap is left
pub written_end : (style : Style) (crlf : Bool) (arena : Contents) (sections : List Section) (plan : List (Option Slot)) (g : Guard) (at place count : ℕ) (gap : List ℕ) → place ≡ length arena.tokens → count ≡ place →
    at ≡ gap_start (mark_len arena.text) arena.tokens place → gap ≡ gap_of arena count →
    written_from style crlf arena sections plan g at place (drop place arena.tokens) ≡ guarded_text style crlf g (decision_at plan count) gap
written_end style crlf arena sections plan g at place count gap is same at_is gap_is =
    let start = gap_start (mark_len arena.text) arena.tokens place in
    let past : length arena.tokens ≤ place = omega (arith, is) in
    let old : drop at arena.text ≡ gap = ap (λ n. drop n arena.text) at_is ∙ sym (gap_is ∙ (ap (λ n. gap_of arena n) same ∙ gap_last arena.text (mark_len arena.text) arena.tokens place is)) in
    ap (λ z. written_from style crlf arena sections plan g at place z) (drop_all_at arena.tokens place past)
    ∙ (ap (λ z. guarded_text style crlf g (decision_at plan place) z) old ∙ ap (λ n. guarded_text style crlf g (decision_at plan n) gap) (sym same))

-- one blank before a `#`
laid_not_first : (style : Style) (crlf : Bool) (arena : Contents) (g : Guard) (place : ℕ) (stance : Stance) (decision : Decision) (t : Stored) (ts : List Stored) → (place ≡ 0 → ⊥) →
    laid_gap style crlf arena g place stance decision t ts ≡ (if is_of_text stance && hash_comes arena.dialect (t ∷ ts) then 32 ∷ [] else guarded_text style crlf g decision [])
laid_not_first style crlf arena g place stance decision t ts later =
    ap (λ b. if b then first_gap arena.text t else (if is_of_text stance && hash_comes arena.dialect (t ∷ ts) then 32 ∷ [] else guarded_text style crlf g decision [])) (ne_eqb place 0 later)

pub laid_so : (style : Style) (crlf : Bool) (arena : Contents) (g : Guard) (place : ℕ) (stance : Stance) (decision : Decision) (t : Stored) → (place ≡ 0 → ⊥) → slice_get arena.tokens place ≡ Some t → (b : Bool) →
    (is_of_text stance && hash_comes arena.dialect (drop place arena.tokens)) ≡ b → laid_gap style crlf arena g place stance decision t (drop (place + 1) arena.tokens) ≡ (if b then 32 ∷ [] else guarded_text style crlf g decision [])
laid_so style crlf arena g place stance decision t later is b hash =
    let next : (is_of_text stance && hash_comes arena.dialect (t ∷ drop (place + 1) arena.tokens)) ≡ b = ap (λ z. is_of_text stance && hash_comes arena.dialect z) (sym (drop_next arena.tokens place t is)) ∙ hash in
    laid_not_first style crlf arena g place stance decision t (drop (place + 1) arena.tokens) later ∙ ap (λ b. if b then 32 ∷ [] else guarded_text style crlf g decision []) next

-- a gap that is written anew
pub planned_anew : (style : Style) (crlf : Bool) (arena : Contents) (g : Guard) (at place : ℕ) (stance : Stance) (decision : Decision) (t : Stored) (ts : List Stored) → is_old decision ≡ false →
    laid_gap style crlf arena g place stance decision t ts ≡ planned_gap style crlf arena g at place stance decision t ts
planned_anew style crlf arena g at place stance decision t ts is =
    ap (λ b. if b then bytes_between arena.text at t.start else laid_gap style crlf arena g place stance decision t ts) (sym is)

-- a gap that stays is held with what is held before it
pub held_on : (style : Style) (crlf : Bool) (arena : Contents) (g : Guard) (at place held : ℕ) (stance : Stance) (decision : Decision) (t : Stored) (ts : List Stored) → is_old decision ≡ true → held ≤ at → at ≤ t.start →
    bytes_between arena.text held at ++ planned_gap style crlf arena g at place stance decision t ts ≡ [] ++ bytes_between arena.text held t.start
held_on style crlf arena g at place held stance decision t ts is first second =
    ap (λ b. bytes_between arena.text held at ++ (if b then bytes_between arena.text at t.start else laid_gap style crlf arena g place stance decision t ts)) is
    ∙ between-append arena.text held at t.start first second

-- nothing is held where a gap was written
pub held_none : (text bytes : List ℕ) (at : ℕ) → bytes ≡ bytes ++ bytes_between text at at
held_none text bytes at = sym (append-nil bytes) ∙ ap (λ (z : List ℕ). bytes ++ z) (sym (between-none text at at (omega arith)))

-- what is held, the gap and what comes then
pub held_front : (held gap raw rest all : List ℕ) → all ≡ (gap ++ raw) ++ rest → held ++ all ≡ (held ++ gap) ++ (raw ++ rest)
held_front held gap raw rest all is =
    ap (λ (z : List ℕ). held ++ z) (is ∙ append_assoc gap raw rest) ∙ sym (append_assoc held gap (raw ++ rest))

-- where a gap begins is within the text
pub starts_within : (text : List ℕ) (at : ℕ) (tokens : List Stored) (place : ℕ) → StandFrom text at tokens → place ≤ length tokens → gap_start at tokens place ≤ length text
starts_within text at [] zero stand h = stand
starts_within text at [] (suc place) stand h = absurd (omega (arith, h))
starts_within text at (t ∷ ts) zero stand h = omega (arith, stand.0.later, stand.0.within)
starts_within text at (t ∷ ts) (suc place) stand h = starts_within text (behind t) ts place stand.1 (omega (arith, h))
