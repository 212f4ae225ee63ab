-- Items line by line, and how they stand.
use Rattle.std.proofs.Common.{◌≡◌, ◌==◌, ◌&&◌, not, ◌<◌, ◌≤◌, ℕ, suc, ◌+◌, Bool, true, false, List, [], ◌∷◌, length, refl, sym, ap, ◌∙◌, subst, arith, add-zero, nat_lt, Some, None, Option}
use Rattle.std.specs.Prelude.{if◌then◌else◌}
use Rattle.std.proofs.lemmas.Bool.Decides.{nat_tests}
use Rattle.c_chars.specs.declared.Dialect.{Dialect}
use Rattle.c_grammar.specs.Fitting.{is_comment}
use Rattle.token_arena.specs.Stored.{Stored}
use Rattle.token_arena.specs.Directives.{is_hash_token}
use Rattle.token_arena.specs.Sections.{before_lines, lines_of, behind_hash, text_before, line_before, sections_from}
use Rattle.token_arena.specs.declared.directives.Section.{Section}
use Rattle.token_arena.specs.declared.directives.Section.TheVariants.{Text, Dir}
use Rattle.replacements.specs.Stances.{stance_in, hash_comes}
use Rattle.replacements.specs.declared.stance.Stance.{Stance}
use Rattle.replacements.specs.declared.stance.Stance.TheVariants.{OfText, Leads, Within}

-- the items up to the next that begins a line, and those from it on
abbrev pub line_rest : List Stored → List Stored
line_rest [] = []
line_rest (t ∷ ts) = if t.gap.began then [] else t ∷ line_rest ts

abbrev pub behind_line : List Stored → List Stored
behind_line [] = []
behind_line (t ∷ ts) = if t.gap.began then t ∷ ts else behind_line ts

pub lines_first : (x : Stored) (xs : List Stored) → lines_of (x ∷ xs) ≡ (x ∷ line_rest xs) ∷ lines_of (behind_line xs)
lines_first x [] = refl
lines_first x (y ∷ ys) = ap (λ z. before_lines x (y ∷ ys) z) (lines_first y ys) ∙ by y.gap.began refl (lines_first y ys)
  where
    by : (b : Bool) → y.gap.began ≡ b → lines_of (y ∷ ys) ≡ (y ∷ line_rest ys) ∷ lines_of (behind_line ys) →
        before_lines x (y ∷ ys) ((y ∷ line_rest ys) ∷ lines_of (behind_line ys)) ≡ (x ∷ line_rest (y ∷ ys)) ∷ lines_of (behind_line (y ∷ ys))
    by true e next =
        ap (λ b. if b then (x ∷ []) ∷ (y ∷ line_rest ys) ∷ lines_of (behind_line ys) else (x ∷ y ∷ line_rest ys) ∷ lines_of (behind_line ys)) e
        ∙ (ap (λ z. (x ∷ []) ∷ z) (sym next)
        ∙ ap (λ b. (x ∷ (if b then [] else y ∷ line_rest ys)) ∷ lines_of (if b then y ∷ ys else behind_line ys)) (sym e))
    by false e next =
        ap (λ b. if b then (x ∷ []) ∷ (y ∷ line_rest ys) ∷ lines_of (behind_line ys) else (x ∷ y ∷ line_rest ys) ∷ lines_of (behind_line ys)) e
        ∙ ap (λ b. (x ∷ (if b then [] else y ∷ line_rest ys)) ∷ lines_of (if b then y ∷ ys else behind_line ys)) (sym e)

-- a `#` is first in the line that this item begins, comments aside
abbrev pub leads_hash : Dialect → Stored → List Stored → Bool
leads_hash d token tokens = if is_comment token.kind then hash_comes d tokens else is_hash_token d token

abbrev pub is_some : Option (List Stored) → Bool
is_some None = false
is_some (Some x) = true

-- a comment is passed over, and another item is a `#` or none
past_comment : (d : Dialect) (x : Stored) (line : List Stored) → is_comment x.kind ≡ true → behind_hash d (x ∷ line) ≡ behind_hash d line
past_comment d x line e = rw e refl

at_item : (d : Dialect) (x : Stored) (line : List Stored) → is_comment x.kind ≡ false → is_some (behind_hash d (x ∷ line)) ≡ is_hash_token d x
at_item d x line e = rw e (by (is_hash_token d x))
  where
    by : (h : Bool) → is_some (if h then Some line else None) ≡ h
    by true = refl
    by false = refl

leads_past : (d : Dialect) (x : Stored) (xs : List Stored) (c : Bool) → is_comment x.kind ≡ c → is_some (behind_hash d (line_rest xs)) ≡ hash_comes d xs → is_some (behind_hash d (x ∷ line_rest xs)) ≡ leads_hash d x xs
leads_past d x xs true e rest =
    ap is_some (past_comment d x (line_rest xs) e) ∙ (rest ∙ ap (λ b. if b then hash_comes d xs else is_hash_token d x) (sym e))
leads_past d x xs false e rest =
    at_item d x (line_rest xs) e ∙ ap (λ b. if b then hash_comes d xs else is_hash_token d x) (sym e)

pub hash_leads : (d : Dialect) (x : Stored) (xs : List Stored) → is_some (behind_hash d (x ∷ line_rest xs)) ≡ leads_hash d x xs
hash_leads d x [] = leads_past d x [] (is_comment x.kind) refl refl
hash_leads d x (y ∷ ys) = leads_past d x (y ∷ ys) (is_comment x.kind) refl (tail y.gap.began refl (hash_leads d y ys))
  where
    tail : (b : Bool) → y.gap.began ≡ b → is_some (behind_hash d (y ∷ line_rest ys)) ≡ leads_hash d y ys → is_some (behind_hash d (line_rest (y ∷ ys))) ≡ hash_comes d (y ∷ ys)
    tail true e next = ap (λ b. is_some (behind_hash d (if b then [] else y ∷ line_rest ys))) e ∙ ap (λ b. not b && leads_hash d y ys) (sym e)
    tail false e next = ap (λ b. is_some (behind_hash d (if b then [] else y ∷ line_rest ys))) e ∙ (next ∙ ap (λ b. not b && leads_hash d y ys) (sym e))

-- how an item stands in a line that is a directive or isn't, at this place
abbrev pub in_line : Bool → ℕ → ℕ → Stance
in_line inside first place = if inside then (if place == first then Leads else Within) else OfText

-- What the sections from a line on say: of the items of the line, and of those behind it.
record SaysOf (d : Dialect) (at end : ℕ) (inside : Bool) (sections rest : List Section) : Type 0 where
  here : (p : ℕ) → at ≤ p → p < end → stance_in sections p ≡ in_line inside at p
  later : (p : ℕ) → end ≤ p → stance_in sections p ≡ stance_in rest p

-- the first section, if it is a text, doesn't end before this place
abbrev Reaches : ℕ → List Section → Type 0
Reaches at [] = Unit {0}
Reaches at (Text first end ∷ sections) = at ≤ end
Reaches at (Dir dir ∷ sections) = Unit {0}

below : (p end : ℕ) → p < end → nat_lt p end ≡ true
below p end h = grind (arith, nat_tests)

not_below : (p end : ℕ) → end ≤ p → nat_lt p end ≡ false
not_below p end h = grind (arith, nat_tests)

text_says : (d : Dialect) (at end : ℕ) (sections : List Section) → Reaches end sections → SaysOf d at end false (text_before at end sections) sections
text_says d at end [] reach = record { here = λ p a b. rw (below p end b) refl; later = λ p a. rw (not_below p end a) refl }
text_says d at end (Text first end' ∷ sections) reach = record {
  here = λ p a b. rw (below p end' (omega arith)) refl;
  later = λ p a. refl;
}
text_says d at end (Dir dir ∷ sections) reach = record { here = λ p a b. rw (below p end b) refl; later = λ p a. rw (not_below p end a) refl }

line_says : (d : Dialect) (at end : ℕ) (behind : Option (List Stored)) (sections : List Section) → Reaches end sections → SaysOf d at end (is_some behind) (line_before d at end behind sections) sections
line_says d at end None sections reach = text_says d at end sections reach
line_says d at end (Some behind) sections reach = record { here = λ p a b. rw (below p end b) refl; later = λ p a. rw (not_below p end a) refl }

line_reaches : (d : Dialect) (at end : ℕ) (behind : Option (List Stored)) (sections : List Section) → at ≤ end → Reaches end sections → Reaches at (line_before d at end behind sections)
line_reaches d at end None [] le reach = le
line_reaches d at end None (Text first end' ∷ sections) le reach = omega arith
line_reaches d at end None (Dir dir ∷ sections) le reach = le
line_reaches d at end (Some behind) sections le reach = tt

reaches : (d : Dialect) (at : ℕ) (lines : List (List Stored)) → Reaches at (sections_from d at lines)
reaches d at [] = tt
reaches d at (line ∷ lines) = line_reaches d at (at + length line) (behind_hash d line) (sections_from d (at + length line) lines) (omega arith) (reaches d (at + length line) lines)

-- whether an item stands in a directive, where the one before it does or doesn't
abbrev pub inside_at : Dialect → Bool → Stored → List Stored → Bool
inside_at d inside token tokens = if token.gap.began then leads_hash d token tokens else inside

-- how it then stands
abbrev pub stance_as : Bool → Stored → Stance
stance_as inside token = if inside then (if token.gap.began then Leads else Within) else OfText

-- these items, the first of which has this number, stand so
abbrev pub StandSo : Dialect → (ℕ → Stance) → ℕ → Bool → List Stored → Type 0
StandSo d stand place inside [] = Unit {0}
StandSo d stand place inside (t ∷ ts) = (stand place ≡ stance_as (inside_at d inside t ts) t) × StandSo d stand (place + 1) (inside_at d inside t ts) ts

-- what is known in the midst of a line
record Midst (d : Dialect) (stand : ℕ → Stance) (place : ℕ) (inside : Bool) (tokens : List Stored) : Type 0 where
  here : (p : ℕ) → place ≤ p → p < place + length (line_rest tokens) → stand p ≡ (if inside then Within else OfText)
  later : (p : ℕ) → place + length (line_rest tokens) ≤ p → stand p ≡ stance_in (sections_from d (place + length (line_rest tokens)) (lines_of (behind_line tokens))) p

-- a line begins
begins : (d : Dialect) (stand : ℕ → Stance) (place : ℕ) (x : Stored) (xs : List Stored) → ((p : ℕ) → place ≤ p → stand p ≡ stance_in (sections_from d place (lines_of (x ∷ xs))) p) →
    (stand place ≡ (if leads_hash d x xs then Leads else OfText)) × Midst d stand (place + 1) (leads_hash d x xs) xs
begins d stand place x xs all =
    let end : ℕ = place + length (x ∷ line_rest xs) in
    let rest = sections_from d end (lines_of (behind_line xs)) in
    let says : SaysOf d place end (is_some (behind_hash d (x ∷ line_rest xs))) (line_before d place end (behind_hash d (x ∷ line_rest xs)) rest) rest =
    line_says d place end (behind_hash d (x ∷ line_rest xs)) rest (reaches d end (lines_of (behind_line xs))) in
    let so : SaysOf d place end (leads_hash d x xs) (line_before d place end (behind_hash d (x ∷ line_rest xs)) rest) rest =
    subst (λ b. SaysOf d place end b (line_before d place end (behind_hash d (x ∷ line_rest xs)) rest) rest) (hash_leads d x xs) says in
    let shape : (p : ℕ) → place ≤ p → stand p ≡ stance_in (line_before d place end (behind_hash d (x ∷ line_rest xs)) rest) p =
    λ p a. all p a ∙ ap (λ z. stance_in (sections_from d place z) p) (lines_first x xs) in
    let end_is : end ≡ place + 1 + length (line_rest xs) = omega arith in (
      shape place (omega arith) ∙ (so.here place (omega arith) (omega arith) ∙ first (leads_hash d x xs)),
      record {
        here = λ p a b. shape p (omega arith) ∙ (so.here p (omega arith) (omega arith) ∙ others (leads_hash d x xs) p (omega arith));
        later = λ p a. shape p (omega arith) ∙ (so.later p (omega arith) ∙ ap (λ n. stance_in (sections_from d n (lines_of (behind_line xs))) p) end_is);
      },
    )
  where
    same : (n : ℕ) → (n == n) ≡ true
    same n = grind (arith, nat_tests)

    apart : (p : ℕ) → place < p → (p == place) ≡ false
    apart p h = grind (arith, nat_tests)

    first : (b : Bool) → in_line b place place ≡ (if b then Leads else OfText)
    first true = rw (same place) refl
    first false = refl

    others : (b : Bool) (p : ℕ) → place < p → in_line b place p ≡ (if b then Within else OfText)
    others true p h = rw (apart p h) refl
    others false p h = refl

stand_cons : (d : Dialect) (stand : ℕ → Stance) (place : ℕ) (inside now : Bool) (t : Stored) (ts : List Stored) → inside_at d inside t ts ≡ now → stand place ≡ stance_as now t →
    StandSo d stand (place + 1) now ts → StandSo d stand place inside (t ∷ ts)
stand_cons d stand place inside now t ts is first rest = (first ∙ ap (λ b. stance_as b t) (sym is), subst (λ b. StandSo d stand (place + 1) b ts) (sym is) rest)

-- an item that begins its line
stand_first : (d : Dialect) (stand : ℕ → Stance) (place : ℕ) (inside : Bool) (t : Stored) (ts : List Stored) → t.gap.began ≡ true → stand place ≡ (if leads_hash d t ts then Leads else OfText) →
    StandSo d stand (place + 1) (leads_hash d t ts) ts → StandSo d stand place inside (t ∷ ts)
stand_first d stand place inside t ts e first rest =
    stand_cons d stand place inside (leads_hash d t ts) t ts (ap (λ b. if b then leads_hash d t ts else inside) e)
    (first ∙ ap (λ b. if leads_hash d t ts then (if b then Leads else Within) else OfText) (sym e))
    rest

-- an item that doesn't
stand_next : (d : Dialect) (stand : ℕ → Stance) (place : ℕ) (inside : Bool) (t : Stored) (ts : List Stored) → t.gap.began ≡ false → stand place ≡ (if inside then Within else OfText) →
    StandSo d stand (place + 1) inside ts → StandSo d stand place inside (t ∷ ts)
stand_next d stand place inside t ts e first rest =
    stand_cons d stand place inside inside t ts (ap (λ b. if b then leads_hash d t ts else inside) e)
    (first ∙ ap (λ b. if inside then (if b then Leads else Within) else OfText) (sym e))
    rest

midst_line : (d : Dialect) (stand : ℕ → Stance) (place : ℕ) (inside : Bool) (t : Stored) (ts : List Stored) → t.gap.began ≡ true → Midst d stand place inside (t ∷ ts) →
    (stand place ≡ (if leads_hash d t ts then Leads else OfText)) × Midst d stand (place + 1) (leads_hash d t ts) ts
midst_line d stand place inside t ts e m =
    let rest : line_rest (t ∷ ts) ≡ [] = ap (λ b. if b then [] else t ∷ line_rest ts) e in
    let behind : behind_line (t ∷ ts) ≡ t ∷ ts = ap (λ b. if b then t ∷ ts else behind_line ts) e in
    let long : place + length (line_rest (t ∷ ts)) ≡ place = ap (λ z. place + length z) rest ∙ add-zero place in
    begins d stand place t ts
    (λ p a. m.later p (omega (arith, long)) ∙ (ap (λ n. stance_in (sections_from d n (lines_of (behind_line (t ∷ ts)))) p) long ∙ ap (λ z. stance_in (sections_from d place (lines_of z)) p) behind))

midst_next : (d : Dialect) (stand : ℕ → Stance) (place : ℕ) (inside : Bool) (t : Stored) (ts : List Stored) → t.gap.began ≡ false → Midst d stand place inside (t ∷ ts) →
    (stand place ≡ (if inside then Within else OfText)) × Midst d stand (place + 1) inside ts
midst_next d stand place inside t ts e m =
    let rest : line_rest (t ∷ ts) ≡ t ∷ line_rest ts = ap (λ b. if b then [] else t ∷ line_rest ts) e in
    let behind : behind_line (t ∷ ts) ≡ behind_line ts = ap (λ b. if b then t ∷ ts else behind_line ts) e in
    let one : length (line_rest (t ∷ ts)) ≡ length (line_rest ts) + 1 = ap length rest ∙ add-one-back (length (line_rest ts)) in
    let long : place + length (line_rest (t ∷ ts)) ≡ place + 1 + length (line_rest ts) = omega (arith, one) in (
      m.here place (omega arith) (omega (arith, one)),
      record {
        here = λ p a b. m.here p (omega arith) (omega (arith, long));
        later = λ p a. m.later p (omega (arith, long)) ∙ (ap (λ n. stance_in (sections_from d n (lines_of (behind_line (t ∷ ts)))) p) long ∙ ap (λ z. stance_in (sections_from d (place + 1 + length (line_rest ts)) (lines_of z)) p) behind);
      },
    )
  where
    add-one-back : (n : ℕ) → suc n ≡ n + 1
    add-one-back n = omega arith

stand_midst : (d : Dialect) (stand : ℕ → Stance) (place : ℕ) (inside : Bool) (tokens : List Stored) → Midst d stand place inside tokens → StandSo d stand place inside tokens
stand_midst d stand place inside [] m = tt
stand_midst d stand place inside (t ∷ ts) m = by t.gap.began refl (λ i n. stand_midst d stand (place + 1) i ts n)
  where
    by : (b : Bool) → t.gap.began ≡ b → ((i : Bool) → Midst d stand (place + 1) i ts → StandSo d stand (place + 1) i ts) → StandSo d stand place inside (t ∷ ts)
    by true e more = let line = midst_line d stand place inside t ts e m in stand_first d stand place inside t ts e line.0 (more (leads_hash d t ts) line.1)
    by false e more = let line = midst_next d stand place inside t ts e m in stand_next d stand place inside t ts e line.0 (more inside line.1)

-- the items of a text stand as their lines say
pub items_stand : (d : Dialect) (t : Stored) (ts : List Stored) → t.gap.began ≡ true → StandSo d (stance_in (sections_from d 0 (lines_of (t ∷ ts)))) 0 false (t ∷ ts)
items_stand d t ts e =
    let stand = stance_in (sections_from d 0 (lines_of (t ∷ ts))) in
    let line = begins d stand 0 t ts (λ p a. refl) in
    stand_first d stand 0 false t ts e line.0 (stand_midst d stand 1 (leads_hash d t ts) ts line.1)
