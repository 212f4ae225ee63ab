-- The text of a plan: docs/PROFILE.md, "The text of a plan".
use Rattle.std.specs.Prelude.{◌==◌, ◌&&◌, ◌||◌, not, ℕ, ◌+◌, ◌-◌, Bool, true, false, Option, Some, None, List, [], ◌∷◌}
use Rattle.std.specs.Prelude.{◌++◌, take, drop, nat_lt, if◌then◌else◌}
use Rattle.c_chars.specs.Characters.{mark_len}
use Rattle.token_arena.specs.Stored.{Stored}
use Rattle.token_arena.specs.Gaps.{Contents, behind}
use Rattle.token_arena.specs.declared.directives.Section.{Section}
use Rattle.style_table.specs.declared.style.Style.{Style}
use Rattle.replacements.specs.declared.gap_text.Decision.{Decision}
use Rattle.replacements.specs.declared.gap_text.Decision.TheVariants.{Old, Spaces, Lines, Splice}
use Rattle.replacements.specs.Decisions.{slot_of}
use Rattle.replacements.specs.Guards.{guard_of, guarded_text}
use Rattle.replacements.specs.Stances.{stance_in, hash_comes}
use Rattle.replacements.specs.declared.guard.Guard.{Guard}
use Rattle.replacements.specs.declared.guard.Guard.TheVariants.{Free}
use Rattle.replacements.specs.declared.slot.Slot.{Slot}
use Rattle.replacements.specs.declared.stance.Stance.{Stance}
use Rattle.replacements.specs.declared.stance.Stance.TheVariants.{OfText, Leads, Within}

-- the bytes of a text from one offset up to another
abbrev pub bytes_between : List ℕ → ℕ → ℕ → List ℕ
bytes_between text from to = take (to - from) (drop from text)

-- a byte order mark of this length
abbrev pub mark_bytes : ℕ → List ℕ
mark_bytes len = if nat_lt 0 len then 239 ∷ 187 ∷ 191 ∷ [] else []

-- Before the first item stands nothing; a blank where it would read as a byte order mark otherwise.
abbrev pub first_gap : List ℕ → Stored → List ℕ
first_gap text token = if nat_lt 0 (mark_len text) || not (nat_lt 0 (mark_len token.raw)) then [] else 32 ∷ []

-- what a plan decides for the gap at a place: that it stays, where nothing else is decided
abbrev pub decision_of : Option Slot → Decision
decision_of None = Old
decision_of (Some slot) = slot.decision

-- the same, by the plan
abbrev pub decision_at : List (Option Slot) → ℕ → Decision
decision_at plan place = decision_of (slot_of plan place)

-- the decision is that the input's bytes stay
abbrev pub is_old : Decision → Bool
is_old Old = true
is_old (Spaces count) = false
is_old (Lines count column level) = false
is_old (Splice pad column) = false

-- an item stands in a text
abbrev pub is_of_text : Stance → Bool
is_of_text OfText = true
is_of_text Leads = false
is_of_text Within = false

-- What is written anew before an item that stands so, in front of these: before the first item no decision counts; in a
-- text stands one blank where a `#` comes that begins no directive.
abbrev pub laid_gap : Style → Bool → Contents → Guard → ℕ → Stance → Decision → Stored → List Stored → List ℕ
laid_gap style crlf arena guard place stance decision token tokens =
    if place == 0 then first_gap arena.text token
    else (if is_of_text stance && hash_comes arena.dialect (token ∷ tokens) then 32 ∷ []
    else guarded_text style crlf guard decision [])

-- Before an item behind this offset: the input's bytes where they stay.
abbrev pub planned_gap : Style → Bool → Contents → Guard → ℕ → ℕ → Stance → Decision → Stored → List Stored → List ℕ
planned_gap style crlf arena guard at place stance decision token tokens =
    if is_old decision then bytes_between arena.text at token.start
    else laid_gap style crlf arena guard place stance decision token tokens

-- The text of these items, the first of which has this number in these sections, and of the last gap. What stands
-- before them ends at this offset, and leaves this guard.
abbrev pub written_from : Style → Bool → Contents → List Section → List (Option Slot) → Guard → ℕ → ℕ → List Stored →
    List ℕ
written_from style crlf arena sections plan guard at place [] =
    guarded_text style crlf guard (decision_at plan place) (drop at arena.text)
written_from style crlf arena sections plan guard at place (token ∷ tokens) =
    planned_gap style crlf arena guard at place (stance_in sections place) (decision_at plan place) token tokens
    ++ (token.raw ++ written_from style crlf arena sections plan (guard_of token) (behind token) (place + 1) tokens)

-- the text of a plan: the byte order mark, then each item behind the text of its gap, and the last gap's text
unfoldable pub written : Style → Bool → Contents → List Section → List (Option Slot) → List ℕ
written style crlf arena sections plan =
    mark_bytes (mark_len arena.text)
    ++ written_from style crlf arena sections plan Free (mark_len arena.text) 0 arena.tokens
