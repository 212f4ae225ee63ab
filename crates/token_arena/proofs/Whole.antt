-- The sections cut all items.
use Rattle.std.proofs.Common.{◌≡◌, ℕ, zero, suc, ◌+◌, ◌-◌, ◌<◌, ◌≤◌, Bool, true, false, Option, Some, None, List, [], ◌∷◌, length, refl, sym, ap, subst, arith}
use Rattle.std.specs.Prelude.{if◌then◌else◌}
use Rattle.std.specs.List.{slice_index_or}
use Rattle.c_chars.specs.declared.Dialect.{Dialect}
use Rattle.token_arena.specs.Stored.{Stored}
use Rattle.token_arena.specs.Gaps.{Contents}
use Rattle.token_arena.specs.declared.directives.Directive.{Directive}
use Rattle.token_arena.specs.declared.directives.Section.{Section}
use Rattle.token_arena.specs.declared.directives.Section.TheVariants.{Text, Dir}
use Rattle.token_arena.specs.Directives.{is_hash_token, past_comments}
use Rattle.token_arena.specs.Sections.{before_lines, lines_of, behind_first, behind_hash, text_before, line_before, sections_from, sections_of, IsCut}
use Rattle.token_arena.proofs.Codes.{codes_within}

-- no line is empty, and together they have so many items
abbrev pub AreLines : ℕ → List (List Stored) → Type 0
AreLines n [] = n ≡ 0
AreLines n (line ∷ lines) = (0 < length line) × (length line ≤ n) × AreLines (n - length line) lines

lines_choice : (b : Bool) (x : Stored) (line : List Stored) (lines : List (List Stored)) (n : ℕ) → AreLines n (line ∷ lines)
    → AreLines (suc n) (if b then (x ∷ []) ∷ line ∷ lines else (x ∷ line) ∷ lines)
lines_choice true x line lines n h =
    let e : suc n - 1 ≡ n = omega arith in
    let one : 1 ≤ suc n = omega arith in
    (omega arith, one, subst (λ k. AreLines k (line ∷ lines)) (sym e) h)
lines_choice false x line lines n h =
    let e : suc n - suc (length line) ≡ n - length line = omega arith in
    (omega arith, omega (arith, h.1), subst (λ k. AreLines k lines) (sym e) h.2)

are_lines_with : (x : Stored) (xs : List Stored) (lines : List (List Stored)) → AreLines (length xs) lines → AreLines (suc (length xs)) (before_lines x xs lines)
are_lines_with x [] lines h = (omega arith, omega arith, omega arith)
are_lines_with x (y ∷ xs) [] h = absurd (omega (arith, h))
are_lines_with x (y ∷ xs) (line ∷ lines) h = lines_choice y.gap.began x line lines (length (y ∷ xs)) h

pub are_lines : (xs : List Stored) → AreLines (length xs) (lines_of xs)
are_lines [] = refl
are_lines (x ∷ xs) = are_lines_with x xs (lines_of xs) (are_lines xs)

text_cut : (at end len : ℕ) (rest : List Section) → at < end → IsCut end len rest → IsCut at len (text_before at end rest)
text_cut at end len [] h cut = (refl, h, tt, cut)
text_cut at end len (Text f e ∷ rest) h cut = (refl, omega (arith, cut.0, cut.1), cut.2, cut.3)
text_cut at end len (Dir dir ∷ rest) h cut = (refl, h, tt, cut)

first_shorter : (d : Dialect) (line behind : List Stored) → behind_first d line ≡ Some behind → suc (length behind) ≡ length line
first_shorter d [] behind e = cc
first_shorter d (x ∷ line) behind e = choice (is_hash_token d x) e
  where
    choice : (b : Bool) → (if b then Some line else None) ≡ Some behind → suc (length behind) ≡ suc (length line)
    choice true e = let same : line ≡ behind = cc in ap (λ z. suc (length z)) (sym same)
    choice false e = cc

-- what is behind a `#` is shorter than its line
pub behind_shorter : (d : Dialect) (line behind : List Stored) → behind_hash d line ≡ Some behind → length behind < length line
behind_shorter d line behind e =
    let one : suc (length behind) ≡ length (past_comments line) = first_shorter d (past_comments line) behind e in
    let within = codes_within line in
    omega (arith, one, within)

line_cut : (d : Dialect) (at end len : ℕ) (hash : Option (List Stored)) (rest : List Section) → at < end → ((behind : List Stored) → hash ≡ Some behind → at + length behind < end) → IsCut end len rest
    → IsCut at len (line_before d at end hash rest)
line_cut d at end len None rest h within cut = text_cut at end len rest h cut
line_cut d at end len (Some behind) rest h within cut =
    let w : at + length behind < end = within behind refl in
    (refl, omega arith, omega arith, cut)

pub sections_cut : (d : Dialect) (lines : List (List Stored)) (at n : ℕ) → AreLines n lines → IsCut at (at + n) (sections_from d at lines)
sections_cut d [] at n h = omega (arith, h)
sections_cut d (line ∷ lines) at n h =
    let e : at + length line + (n - length line) ≡ at + n = omega (arith, h.1) in
    let rest : IsCut (at + length line) (at + n) (sections_from d (at + length line) lines) =
    subst (λ k. IsCut (at + length line) k (sections_from d (at + length line) lines)) e (sections_cut d lines (at + length line) (n - length line) h.2) in
    line_cut d at (at + length line) (at + n) (behind_hash d line) (sections_from d (at + length line) lines) (omega (arith, h.0)) (λ behind is. let s : length behind < length line = behind_shorter d line behind is in omega (arith, s)) rest

pub sections_are_cut : (arena : Contents) → IsCut 0 (length arena.tokens) (sections_of arena)
sections_are_cut arena =
    let e : 0 + length arena.tokens ≡ length arena.tokens = omega arith in
    subst (λ k. IsCut 0 k (sections_of arena)) e (sections_cut arena.dialect (lines_of arena.tokens) 0 (length arena.tokens) (are_lines arena.tokens))

-- the place that sections begin at is at most the one that they end at
cut_order : (sections : List Section) (at len : ℕ) → IsCut at len sections → at ≤ len
cut_order [] at len cut = omega (arith, cut)
cut_order (Text first end ∷ sections) at len cut = let rest = cut_order sections end len cut.3 in omega (arith, cut.0, cut.1, rest)
cut_order (Dir dir ∷ sections) at len cut = let rest = cut_order sections dir.end len cut.3 in omega (arith, cut.0, cut.1, cut.2, rest)

-- a directive of sections that cut the items ends with the last of them at the latest
pub directive_within : (sections : List Section) (at len k : ℕ) (dir : Directive) → IsCut at len sections → k < length sections → slice_index_or sections k (Dir dir) ≡ Dir dir
    → (at ≤ dir.first) × (dir.first ≤ dir.hash.0) × (dir.hash.0 < dir.end) × (dir.end ≤ len)
directive_within [] at len k dir cut less is = absurd (omega arith)
directive_within (Text first end ∷ sections) at len zero dir cut less is = cc
directive_within (Text first end ∷ sections) at len (suc k) dir cut less is =
    let rest = directive_within sections end len k dir cut.3 (omega arith) is in
    (omega (arith, cut.0, cut.1, rest.0), rest.1, rest.2, rest.3)
directive_within (Dir found ∷ sections) at len zero dir cut less is =
    let same : found ≡ dir = cc in
    subst (λ z. (at ≤ z.first) × (z.first ≤ z.hash.0) × (z.hash.0 < z.end) × (z.end ≤ len)) same (omega (arith, cut.0), cut.1, cut.2, cut_order sections found.end len cut.3)
directive_within (Dir found ∷ sections) at len (suc k) dir cut less is =
    let rest = directive_within sections found.end len k dir cut.3 (omega arith) is in
    (omega (arith, cut.0, cut.1, cut.2, rest.0), rest.1, rest.2, rest.3)

-- the sections of items from a place on cut them
pub cut_from : (d : Dialect) (items : List Stored) (at : ℕ) → IsCut at (at + length items) (sections_from d at (lines_of items))
cut_from d items at = sections_cut d (lines_of items) at (length items) (are_lines items)
