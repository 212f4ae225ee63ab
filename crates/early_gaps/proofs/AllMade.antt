-- The gap before each item of a directive is decided.
use Rattle.std.proofs.Common.{◌≡◌, ◌≢◌, ◌==◌, ◌⊎◌, inl, inr, ℕ, zero, suc, ◌+◌, ◌-◌, ◌<◌, ◌≤◌, nat_lt, Bool, true}
use Rattle.std.proofs.Common.{false, Some, None, List, [], ◌∷◌, ◌++◌, drop, length, refl, sym, subst, arith}
use Rattle.std.proofs.Common.{length-drop}
use Rattle.std.specs.Prelude.{IsSome, if◌then◌else◌}
use Rattle.std.proofs.lemmas.Bool.Decides.{nat_tests}
use Rattle.line_tokens.specs.declared.LineTok.{LineTok}
use Rattle.c_chars.specs.declared.Dialect.{Dialect}
use Rattle.style_table.specs.declared.style.Style.{Style}
use Rattle.token_arena.specs.Stored.{Stored}
use Rattle.token_arena.specs.Gaps.{Contents}
use Rattle.token_arena.specs.Nesting.{nesting_of}
use Rattle.token_arena.specs.Sections.{sections_of, IsCut}
use Rattle.token_arena.specs.declared.directives.Directive.{Directive}
use Rattle.token_arena.specs.declared.directives.Section.{Section}
use Rattle.token_arena.specs.declared.directives.Section.TheVariants.{Text, Dir}
use Rattle.token_arena.proofs.Whole.{sections_are_cut}
use Rattle.replacements.specs.declared.slot.Slot.{Slot}
use Rattle.replacements.specs.declared.stance.Stance.TheVariants.{OfText, Leads, Within}
use Rattle.replacements.specs.Stances.{stance_in}
use Rattle.replacements.specs.Decisions.{slot_of, first_for}
use Rattle.replacements.proofs.Firsts.{stay, first}
use Rattle.directive_layout.specs.Heads.{first_decision}
use Rattle.directive_layout.specs.Operands.{inner_decision}
use Rattle.directive_layout.specs.Laid.{slot_for, first_start, first_walk, next_walk, longest_from, inner_from}
use Rattle.directive_layout.specs.Laid.{laid_from, laid}
use Rattle.directive_layout.specs.Staying.{staying_in}
use Rattle.directive_layout.specs.declared.staying.Staying.{Staying}
use Rattle.directive_layout.specs.declared.walk.Walk.{Walk}
use Rattle.line_gaps.proofs.MadeFor.{open_or_decided}
use Rattle.early_gaps.specs.Depths.{depth_in, open_behind}
use Rattle.early_gaps.specs.Roles.{operand_roles}
use Rattle.early_gaps.specs.AllLaid.{laid_in, all_laid}
use Rattle.early_gaps.specs.AllStay.{AllDirectivesAreDecided}

-- one of these decisions is for this place
abbrev IsMade : ℕ → List (ℕ × Slot) → Type 0
IsMade place made = IsSome (first_for place made)

here_or_later : (at place : ℕ) → at ≤ place → ((at == place) ≡ true) ⊎ (((at == place) ≡ false) × (at + 1 ≤ place))
here_or_later at place low = grind (arith, nat_tests)

-- the first, or one behind it
made_here : (at place : ℕ) (slot : Slot) (later : List (ℕ × Slot)) → (at == place) ≡ true → IsMade place ((at, slot) ∷ later)
made_here at place slot later e = rw e refl

made_later : (at place : ℕ) (slot : Slot) (later : List (ℕ × Slot)) → IsMade place later → IsMade place ((at, slot) ∷ later)
made_later at place slot later h = by (at == place)
  where
    by : (b : Bool) → IsSome (if b then Some slot else first_for place later)
    by true = refl
    by false = h

made-left : (place : ℕ) (made later : List (ℕ × Slot)) → IsMade place made → IsMade place (made ++ later)
made-left place [] later h = absurd (none h)
  where
    none : IsSome {T = Slot} None → ⊥
    none h = cc
made-left place (m ∷ made) later h = by (m.0 == place) h (made-left place made later)
  where
    by : (b : Bool) → IsSome (if b then Some m.1 else first_for place made) → (IsMade place made → IsMade place (made ++ later)) → IsSome (if b then Some m.1 else first_for place (made ++ later))
    by true h more = h
    by false h more = more h

made-right : (place : ℕ) (made later : List (ℕ × Slot)) → IsMade place later → IsMade place (made ++ later)
made-right place [] later h = h
made-right place (m ∷ made) later h = made_later m.0 place m.1 (made ++ later) (made-right place made later h)

-- those of so many items inside a directive
inner_made : (style : Style) (d : Dialect) (depth : ℕ) (staying : Staying) (toks : List LineTok) (longest at : ℕ) (walk : Walk) (left : Stored) (tokens : List Stored) (count place : ℕ) →
    count ≤ length tokens → at ≤ place → place < at + count → IsMade place (inner_from style d depth staying toks longest at walk left tokens count)
inner_made style d depth staying toks longest at walk left tokens zero place room low high = absurd (omega (arith, low, high))
inner_made style d depth staying toks longest at walk left [] (suc count) place room low high = absurd (omega (arith, room))
inner_made style d depth staying toks longest at walk left (token ∷ tokens) (suc count) place room low high =
    let decision = inner_decision style d depth staying toks longest walk left token in
    let next = next_walk d walk left token decision in
    let later = inner_from style d depth staying toks longest (at + 1) next token tokens count in
    elim (here_or_later at place low) [
      | inl here ↦ made_here at place (slot_for decision) later here
      | inr more ↦
          made_later at place (slot_for decision) later
          (inner_made style d depth staying toks longest (at + 1) next token tokens count place (omega (arith, room)) more.1 (omega (arith, high)))
    ]

-- those of a directive's items
all_made : (style : Style) (d : Dialect) (depth : ℕ) (staying : Staying) (toks : List LineTok) (first end place : ℕ) (tokens : List Stored) →
    end ≤ first + length tokens → first ≤ place → place < end → IsMade place (laid_from style d depth staying toks first end tokens)
all_made style d depth staying toks first end place [] room low high = absurd (omega (arith, room, low, high))
all_made style d depth staying toks first end place (token ∷ tokens) room low high =
    let walk = first_walk (first_start style depth first token.gap) token in
    let longest = longest_from style d depth staying toks walk token tokens (end - (first + 1)) in
    let slot = slot_for (first_decision style depth first token.gap) in
    let later = inner_from style d depth staying toks longest (first + 1) walk token tokens (end - (first + 1)) in
    elim (here_or_later first place low) [
      | inl here ↦ made_here first place slot later here
      | inr more ↦
          made_later first place slot later
          (inner_made style d depth staying toks longest (first + 1) walk token tokens (end - (first + 1)) place (omega (arith, room)) more.1 (omega (arith, high, more.1)))
    ]

laid_made : (style : Style) (arena : Contents) (depth : ℕ) (toks : List LineTok) (dir : Directive) (place : ℕ) → dir.end ≤ length arena.tokens → dir.first ≤ place → place < dir.end → IsMade place (laid style arena depth toks dir)
laid_made style arena depth toks dir place within low high =
    let rest = length-drop dir.first arena.tokens in
    all_made style arena.dialect depth (staying_in style arena dir) toks dir.first dir.end place (drop dir.first arena.tokens) (omega (arith, rest, within, low, high)) low high

-- sections that cut the items from a place on end no earlier
pub cut_order : (at len : ℕ) (sections : List Section) → IsCut at len sections → at + length sections ≤ len
cut_order at len [] cut = omega (arith, cut)
cut_order at len (Text first end ∷ sections) cut = let more = cut_order end len sections cut.3 in omega (arith, more, cut.0, cut.1)
cut_order at len (Dir dir ∷ sections) cut = let more = cut_order dir.end len sections cut.3 in omega (arith, more, cut.0, cut.1, cut.2)

-- in the sections from a place on
sections_made : (style : Style) (arena : Contents) (conditionals : List Bool) (sections : List Section) (at place : ℕ) → IsCut at (length arena.tokens) sections → at ≤ place → stance_in sections place ≢ OfText → IsMade place (laid_in style arena conditionals sections)
sections_made style arena conditionals [] at place cut low inside = absurd (inside refl)
sections_made style arena conditionals (Text begin end ∷ sections) at place cut low inside = by (nat_lt place end) refl inside (λ past h. sections_made style arena conditionals sections end place cut.3 past h)
  where
    by : (b : Bool) → nat_lt place end ≡ b → (if b then OfText else stance_in sections place) ≢ OfText → (end ≤ place → stance_in sections place ≢ OfText → IsMade place (laid_in style arena conditionals sections)) →
        IsMade place (laid_in style arena conditionals sections)
    by true e h later = absurd (h refl)
    by false e h later = later (grind (arith, nat_tests)) h
sections_made style arena conditionals (Dir dir ∷ sections) at place cut low inside =
    by (nat_lt place dir.end) refl inside (λ past h. sections_made style arena (open_behind (nesting_of dir.kind) conditionals) sections dir.end place cut.3 past h)
  where
    by : (b : Bool) → nat_lt place dir.end ≡ b → (if b then (if place == dir.first then Leads else Within) else stance_in sections place) ≢ OfText →
        (dir.end ≤ place → stance_in sections place ≢ OfText → IsMade place (laid_in style arena (open_behind (nesting_of dir.kind) conditionals) sections)) →
        IsMade place (laid style arena (depth_in (nesting_of dir.kind) conditionals) (operand_roles style arena dir) dir ++ laid_in style arena (open_behind (nesting_of dir.kind) conditionals) sections)
    by true e h later =
        let count = cut_order dir.end (length arena.tokens) sections cut.3 in
        made-left place (laid style arena (depth_in (nesting_of dir.kind) conditionals) (operand_roles style arena dir) dir) (laid_in style arena (open_behind (nesting_of dir.kind) conditionals) sections)
        (laid_made style arena (depth_in (nesting_of dir.kind) conditionals) (operand_roles style arena dir) dir place (omega (arith, count)) (omega (arith, cut.0, low)) (grind (arith, nat_tests)))
    by false e h later =
        made-right place (laid style arena (depth_in (nesting_of dir.kind) conditionals) (operand_roles style arena dir) dir) (laid_in style arena (open_behind (nesting_of dir.kind) conditionals) sections)
        (later (grind (arith, nat_tests)) h)

-- The law.
pub are_decided : AllDirectivesAreDecided
are_decided style arena plan place whole within inside =
    let made = all_laid style arena in
    elim (open_or_decided (slot_of plan place)) [
      | inl open_gap ↦
          subst (λ o. IsSome o) (sym (first plan made place (omega (arith, whole, within)) open_gap))
          (sections_made style arena [] (sections_of arena) 0 place (sections_are_cut arena) (omega arith) inside)
      | inr some ↦ subst (λ o. IsSome o) (sym (stay plan made place some.0 some.1)) refl
    ]
