-- What a run sees are items of texts.
use Rattle.std.proofs.Common.{◌≡◌, ◌≢◌, ◌==◌, ℕ, ◌<◌, ◌≤◌, ◌⊎◌, inl, inr, Bool, true, false, List, [], ◌∷◌, length, map}
use Rattle.std.proofs.Common.{refl, arith}
use Rattle.std.specs.Prelude.{All, nat_lt, if◌then◌else◌}
use Rattle.token_arena.specs.Gaps.{Contents}
use Rattle.token_arena.specs.declared.directives.Section.{Section}
use Rattle.token_arena.specs.declared.directives.Section.TheVariants.{Text, Dir}
use Rattle.token_arena.specs.Nesting.{nesting_of}
use Rattle.token_arena.specs.Sections.{sections_of, IsCut}
use Rattle.branch_runs.specs.declared.mark.MarkKind.TheVariants as kind
use Rattle.branch_runs.specs.Marks.{mark_of, marks_of}
use Rattle.branch_runs.specs.Reading.{tree_of}
use Rattle.branch_runs.specs.Runs.{view_of}
use Rattle.branch_runs.specs.Zero.{is_if_zero}
use Rattle.branch_runs.specs.Laws.{kind_at}
use Rattle.branch_runs.proofs.Bridge.{marks_cut, no_text}
use Rattle.branch_runs.proofs.OfTexts.{of_texts}
use Rattle.branch_runs.proofs.Places.{has_item-true, has_item-above, kind-here, kind-there}
use Rattle.replacements.specs.Stances.{stance_in}
use Rattle.replacements.specs.declared.stance.Stance.TheVariants.{OfText, Leads, Within}

before_or_past : (id end : ℕ) → ((id < end) × (nat_lt id end ≡ true)) ⊎ ((end ≤ id) × (nat_lt id end ≡ false))
before_or_past id end = grind arith

-- what the marks call a text, the sections call one
pub text_stance : (arena : Contents) (at len : ℕ) (cut : List Section) (id : ℕ) → IsCut at len cut → at ≤ id
    → kind_at (map (mark_of arena) cut) id ≡ kind.Text → stance_in cut id ≡ OfText
text_stance arena at len [] id h low is = refl
text_stance arena at len (Text first end ∷ cut) id h low is =
    let m = mark_of arena (Text first end) in
    let marks = map (mark_of arena) cut in
    elim (before_or_past id end) [
      | inl before ↦ rw before.1 refl
      | inr past ↦ rw past.1 (text_stance arena end len cut id h.3 past.0 (kind-there m marks id kind.Text (has_item-above m id past.0) is))
    ]
text_stance arena at len (Dir dir ∷ cut) id h low is =
    let m = mark_of arena (Dir dir) in
    let marks = map (mark_of arena) cut in
    elim (before_or_past id dir.end) [
      | inl before ↦
          let from : dir.first ≤ id = omega (arith, h.0, low) in
          absurd (no_text (is_if_zero arena dir) (nesting_of dir.kind) (kind-here m marks id kind.Text (has_item-true m id from before.0) is))
      | inr past ↦ rw past.1 (text_stance arena dir.end len cut id h.3 past.0 (kind-there m marks id kind.Text (has_item-above m id past.0) is))
    ]

no_directive : (x : Bool) → (if x then Leads else Within) ≢ OfText
no_directive true e = cc
no_directive false e = cc

-- what the sections call a text, the marks call one
pub text_mark : (arena : Contents) (at len : ℕ) (cut : List Section) (id : ℕ) → IsCut at len cut → at ≤ id → id < len
    → stance_in cut id ≡ OfText → kind_at (map (mark_of arena) cut) id ≡ kind.Text
text_mark arena at len [] id h low high is = absurd (omega (arith, h, low, high))
text_mark arena at len (Text first end ∷ cut) id h low high is =
    let m = mark_of arena (Text first end) in
    elim (before_or_past id end) [
      | inl before ↦ rw (has_item-true m id (omega (arith, h.0, low)) before.0) refl
      | inr past ↦ rw (has_item-above m id past.0) (text_mark arena end len cut id h.3 past.0 high (rw past.1 at is))
    ]
text_mark arena at len (Dir dir ∷ cut) id h low high is =
    let m = mark_of arena (Dir dir) in
    elim (before_or_past id dir.end) [
      | inl before ↦ absurd (no_directive (id == dir.first) (rw before.1 at is))
      | inr past ↦ rw (has_item-above m id past.0) (text_mark arena dir.end len cut id h.3 past.0 high (rw past.1 at is))
    ]

-- each item that a run sees stands in a text
pub views_are_of_texts : (arena : Contents) → IsCut 0 (length arena.tokens) (sections_of arena) → (r : ℕ)
    → All (λ id. stance_in (sections_of arena) id ≡ OfText) (view_of (tree_of (marks_of arena)) r)
views_are_of_texts arena cut r = λ k d below.
    let marked = marks_cut arena 0 (length arena.tokens) (sections_of arena) cut in
    text_stance arena 0 (length arena.tokens) (sections_of arena) _ cut (omega arith) (of_texts (marks_of arena) marked r k d below)
