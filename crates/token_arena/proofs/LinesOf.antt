-- The lines of the items, one by one.
use Rattle.std.proofs.Common.{◌≡◌, ◌∙◌, ℕ, suc, ◌+◌, ◌-◌, ◌<◌, ◌≤◌, ◌⊎◌, inl, inr, Bool, true, false, Option, Some, None, List, [], ◌∷◌, ◌++◌, length, take, drop, refl, sym, ap, arith, append_assoc, slice_get}
use Rattle.std.specs.Prelude.{nat_lt, if◌then◌else◌}
use Rattle.std.specs.List.{slice_range}
use Rattle.std.specs.Option.{option_map}
use Rattle.std.proofs.lemmas.List.{drop_more, drop-drop, length-drop, length-take-le}
use Rattle.std.proofs.lemmas.Option.{slice_get_within, slice_get_cases, get_or_from_slice_get}
use Rattle.c_chars.specs.declared.Dialect.{Dialect}
use Rattle.token_arena.specs.Stored.{Stored}
use Rattle.token_arena.specs.declared.directives.Directive.{Directive}
use Rattle.token_arena.specs.declared.directives.Section.{Section}
use Rattle.token_arena.specs.declared.directives.Section.TheVariants.{Text, Dir}
use Rattle.token_arena.specs.Sections.{before_lines, lines_of, behind_hash, directive, text_before, line_before, sections_from}

-- how many items follow on the line
abbrev pub tail_len : List Stored → ℕ
tail_len [] = 0
tail_len (x ∷ xs) = if x.gap.began then 0 else suc (tail_len xs)

-- a text that has begun, if it has an item, before these sections
abbrev pub with_text : ℕ → ℕ → List Section → List Section
with_text first end sections = if nat_lt first end then text_before first end sections else sections

here : (xs : List Stored) (at : ℕ) (t : Stored) → slice_get xs at ≡ Some t → drop at xs ≡ t ∷ drop (at + 1) xs
here xs at t is = let within : at < length xs = slice_get_within xs at t is in drop_more xs at t within ∙ ap (λ y. y ∷ drop (at + 1) xs) (get_or_from_slice_get xs at t t is)

first_line : (b : Bool) (x y : Stored) (ys : List Stored) → lines_of (y ∷ ys) ≡ (y ∷ take (tail_len ys) ys) ∷ lines_of (drop (tail_len ys) ys)
    → (if b then (x ∷ []) ∷ (y ∷ take (tail_len ys) ys) ∷ lines_of (drop (tail_len ys) ys) else (x ∷ (y ∷ take (tail_len ys) ys)) ∷ lines_of (drop (tail_len ys) ys))
    ≡ (x ∷ take (if b then 0 else suc (tail_len ys)) (y ∷ ys)) ∷ lines_of (drop (if b then 0 else suc (tail_len ys)) (y ∷ ys))
first_line true x y ys more = ap (λ (ls : List (List Stored)). (x ∷ []) ∷ ls) (sym more)
first_line false x y ys more = refl

pub lines_line : (x : Stored) (xs : List Stored) → lines_of (x ∷ xs) ≡ (x ∷ take (tail_len xs) xs) ∷ lines_of (drop (tail_len xs) xs)
lines_line x [] = refl
lines_line x (y ∷ ys) = ap (before_lines x (y ∷ ys)) (lines_line y ys) ∙ first_line y.gap.began x y ys (lines_line y ys)

taken : (x : Stored) (xs : List Stored) (k n : ℕ) (all : List Stored) → all ≡ x ∷ xs → k ≡ suc n → take k all ≡ x ∷ take n xs
taken x xs k n all is e = rw (is, e) refl

-- the line that begins at a place, and what follows
pub line_there : (items : List Stored) (at end : ℕ) → at < length items → end ≡ at + 1 + tail_len (drop (at + 1) items)
    → lines_of (drop at items) ≡ slice_range items at end ∷ lines_of (drop end items)
line_there items at end within is =
    elim (slice_get_cases items at).1 [
      | inl x ↦ from x.0 x.2
      | inr past ↦ absurd (omega (arith, past.0))
    ]
  where
    from : (x : Stored) → slice_get items at ≡ Some x → lines_of (drop at items) ≡ slice_range items at end ∷ lines_of (drop end items)
    from x at_x =
        let xs = drop (at + 1) items in
        let n = tail_len xs in
        let begins : drop at items ≡ x ∷ xs = here items at x at_x in
        let lines : lines_of (drop at items) ≡ (x ∷ take n xs) ∷ lines_of (drop n xs) = rw begins (lines_line x xs) in
        let rest : drop n xs ≡ drop end items = drop-drop n (at + 1) items ∙ ap (λ k. drop k items) (sym is) in
        let slice : slice_range items at end ≡ x ∷ take n xs = taken x xs (end - at) n (drop at items) begins (omega (arith, is)) in
        lines ∙ rw (rest, slice) refl

pub range_long : (items : List Stored) (at end : ℕ) → at ≤ end → end ≤ length items → at + length (slice_range items at end) ≡ end
range_long items at end order within =
    let long : length (drop at items) ≡ length items - at = length-drop at items in
    let room : end - at ≤ length (drop at items) = omega (arith, long) in
    let taken_len : length (slice_range items at end) ≡ end - at = length-take-le (end - at) (drop at items) room in
    omega (arith, taken_len)

joins : (from at end : ℕ) (rest : List Section) → text_before from at (text_before at end rest) ≡ text_before from end rest
joins from at end [] = refl
joins from at end (Text f e ∷ rest) = refl
joins from at end (Dir dir ∷ rest) = refl

pub cases_le : (a b : ℕ) → a ≤ b → (a ≡ b) ⊎ (a < b)
cases_le a b h = grind arith

pub with_some : (a b : ℕ) (rest : List Section) → a < b → with_text a b rest ≡ text_before a b rest
with_some a b rest h = grind arith

with_none : (a : ℕ) (rest : List Section) → with_text a a rest ≡ rest
with_none a rest = grind arith

pub more_text : (from at end : ℕ) (rest : List Section) → at < end → (from ≡ at) ⊎ (from < at) → with_text from at (text_before at end rest) ≡ with_text from end rest
more_text from at end rest h (inl e) =
    rw (e, with_none at (text_before at end rest), with_some at end rest h) refl
more_text from at end rest h (inr less) =
    rw (with_some from at (text_before at end rest) less, with_some from end rest (omega arith)) (joins from at end rest)

cut_line : (d : Dialect) (items line : List Stored) (at end : ℕ) → lines_of (drop at items) ≡ line ∷ lines_of (drop end items) → at + length line ≡ end
    → sections_from d at (lines_of (drop at items)) ≡ line_before d at end (behind_hash d line) (sections_from d end (lines_of (drop end items)))
cut_line d items line at end lines long = ap (sections_from d at) lines ∙ rw long refl

map_none : {A B : Type 0} (f : A → B) (o : Option A) → option_map f o ≡ None → o ≡ None
map_none f None e = refl
map_none f (Some x) e = cc

-- a line of text
pub text_line : (d : Dialect) (items line : List Stored) (from at end : ℕ) → lines_of (drop at items) ≡ line ∷ lines_of (drop end items) → at + length line ≡ end → at < end
    → from ≤ at → None ≡ option_map (directive d at end) (behind_hash d line)
    → with_text from at (sections_from d at (lines_of (drop at items))) ≡ with_text from end (sections_from d end (lines_of (drop end items)))
text_line d items line from at end lines long less order none =
    ap (with_text from at) (cut_line d items line at end lines long)
    ∙ (ap (λ h. with_text from at (line_before d at end h (sections_from d end (lines_of (drop end items))))) (map_none (directive d at end) (behind_hash d line) (sym none))
    ∙ more_text from at end (sections_from d end (lines_of (drop end items))) less (cases_le from at order))

as_directive : (d : Dialect) (at end : ℕ) (dir : Directive) (o : Option (List Stored)) (rest : List Section) → Some dir ≡ option_map (directive d at end) o → line_before d at end o rest ≡ Dir dir ∷ rest
as_directive d at end dir None rest e = cc
as_directive d at end dir (Some behind) rest e = let same : dir ≡ directive d at end behind = cc in ap (λ z. Dir z ∷ rest) (sym same)

-- a directive
pub directive_line : (d : Dialect) (items line : List Stored) (from at end : ℕ) (dir : Directive) → lines_of (drop at items) ≡ line ∷ lines_of (drop end items) → at + length line ≡ end
    → Some dir ≡ option_map (directive d at end) (behind_hash d line)
    → with_text from at (sections_from d at (lines_of (drop at items))) ≡ with_text from at (Dir dir ∷ sections_from d end (lines_of (drop end items)))
directive_line d items line from at end dir lines long some =
    ap (with_text from at) (cut_line d items line at end lines long ∙ as_directive d at end dir (behind_hash d line) (sections_from d end (lines_of (drop end items))) some)

pub after_directive : (done new : List Section) (dir : Directive) (rest : List Section) (end : ℕ) → new ≡ done ++ Dir dir ∷ []
    → new ++ with_text end end rest ≡ done ++ (Dir dir ∷ rest)
after_directive done new dir rest end is = rw (is, with_none end rest) (append_assoc done (Dir dir ∷ []) rest)

pub pushed_text : (from at : ℕ) (done new : List Section) (dir : Directive) (rest : List Section) → from < at → new ≡ done ++ Text from at ∷ []
    → new ++ (Dir dir ∷ rest) ≡ done ++ with_text from at (Dir dir ∷ rest)
pushed_text from at done new dir rest less is =
    rw (is, with_some from at (Dir dir ∷ rest) less) (append_assoc done (Text from at ∷ []) (Dir dir ∷ rest))

pub pushed_none : (from at : ℕ) (done : List Section) (rest : List Section) → from ≤ at → at ≤ from → done ++ rest ≡ done ++ with_text from at rest
pushed_none from at done rest a b = let e : from ≡ at = omega arith in rw (e, with_none at rest) refl
