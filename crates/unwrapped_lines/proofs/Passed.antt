-- Tokens inside a line begin none.
use Rattle.std.proofs.Common.{◌≡◌, ◌≢◌, ◌∙◌, ℕ, zero, suc, ◌+◌, ◌-◌, ◌<◌, ◌≤◌, Bool, true, false, not, ◌&&◌, nat_eq}
use Rattle.std.proofs.Common.{nat_lt, Option, None, Some, List, [], ◌∷◌, ◌++◌, slice_get, length, drop, arith, ap, sym}
use Rattle.std.proofs.Common.{refl, subst}
use Rattle.unwrapped_lines.specs.Comments.{Tree, is_between, between_at, is_apart, is_begun, begin_of, begins_line}
use Rattle.unwrapped_lines.specs.Comments.{new_begin, next_marks, list_of, begins_from, run_of, token_follows}
use Rattle.item_classes.specs.declared.part.Part.{Part}
use Rattle.unwrapped_lines.specs.declared.part.ViewComment.{ViewComment}
use Rattle.item_classes.specs.declared.part.Part.TheVariants.{Token, Own, Trailing, Inner}
use Rattle.unwrapped_lines.specs.declared.part.Run.{Run}
use Rattle.unwrapped_lines.specs.declared.part.Run.TheVariants.{Apart}
use Rattle.unwrapped_lines.specs.declared.part.Marks.{Marks}
use Rattle.unwrapped_lines.specs.declared.part.Begin.{Begin}
use Rattle.statement_lines.specs.declared.line.Line.{Line}
use Rattle.line_tokens.specs.declared.line.ULine.{ULine}
use Rattle.unwrapped_lines.specs.Lines.{lines_between}
use Rattle.unwrapped_lines.specs.Inside.{parts_with, FollowFrom, begin_with, marks_with}
use Rattle.std.proofs.lemmas.List.{append_assoc}

no_begin : (t : Tree) (k : ℕ) (ps : List Part) (m : Marks) → is_between t m ≡ false → new_begin t k Token ps m ≡ None
no_begin t k ps m inside =
    ap (λ (b : Bool). elim b [
      | false ↦ None
      | true ↦ elim (begins_line Token ps m) [ true ↦ begin_of k (slice_get t.lines m.begun) | false ↦ None ]
    ]) inside

on_inside : (t : Tree) (ps : List Part) (m : Marks) → is_between t m ≡ false → next_marks t Token ps m ≡ record { seen = m.seen + 1; begun = m.begun; run = Apart }
on_inside t ps m inside =
    let behind : Bool → Marks = λ b. record { seen = m.seen + 1; begun = elim b [ true ↦ m.begun + 1 | false ↦ m.begun ]; run = Apart } in
    ap behind inside

pub drop_none : {A : Type 0} (xs : List A) (i : ℕ) → length xs ≤ i → drop i xs ≡ []
drop_none [] zero h = refl
drop_none [] (suc i) h = refl
drop_none (x ∷ xs) zero h = absurd (omega (arith, h))
drop_none (x ∷ xs) (suc i) h = drop_none xs i (omega (arith, h))

pub follow_less : (k more : ℕ) (comments : List ViewComment) → k ≤ more → FollowFrom more comments → FollowFrom k comments
follow_less k more [] le h = tt
follow_less k more (c ∷ comments) le h = omega (arith, le, h)

elsewhere : (a b : ℕ) → a < b → nat_eq b a ≡ false
elsewhere a b h = grind arith

pub token_first : (n k : ℕ) (comments : List ViewComment) → FollowFrom (k + 1) comments → parts_with (suc n) k comments ≡ Token ∷ parts_with n (k + 1) comments
token_first n k [] h = refl
token_first n k (c ∷ comments) h = rw (elsewhere k c.place (omega (arith, h)), parts_with) refl

abbrev marks : ℕ → ℕ → Marks
marks seen begun = record { seen = seen; begun = begun; run = Apart }

-- what is told of the places from one on that is a token inside a line is what is told behind it
inside_step : (t : Tree) (n k : ℕ) (comments : List ViewComment) (m : Marks) → FollowFrom (k + 1) comments → is_between t m ≡ false
    → begins_from t (parts_with (suc n) k comments) k m ≡ begins_from t (parts_with n (k + 1) comments) (k + 1) (marks (m.seen + 1) m.begun)
inside_step t n k comments m follow inside =
    let behind : List Part = parts_with n (k + 1) comments in
    ap (λ (ps : List Part). begins_from t ps k m) (token_first n k comments follow)
    ∙ (ap (λ (o : Option Begin). list_of o ++ begins_from t behind (k + 1) (next_marks t Token behind m)) (no_begin t k behind m inside)
    ∙ ap (λ (x : Marks). begins_from t behind (k + 1) x) (on_inside t behind m inside))

-- up to so many tokens passed, no line begins
abbrev pub AreInside : Tree → ℕ → ℕ → Type 0
AreInside t next begun = (passed : ℕ) → passed < next → between_at t.total passed (slice_get t.lines begun) ≡ false

inside_steps : (d n left k : ℕ) (t : Tree) (comments : List ViewComment) (seen begun next : ℕ) → left ≡ d + n → FollowFrom (k + d) comments → seen + d ≤ next → AreInside t next begun
    → begins_from t (parts_with left k comments) k (marks seen begun) ≡ begins_from t (parts_with n (k + d) comments) (k + d) (marks (seen + d) begun)
inside_steps zero n left k t comments seen begun next all follow most inside =
    let same : left ≡ n = omega (arith, all) in
    let place : k ≡ k + 0 = omega arith in
    let passed : seen ≡ seen + 0 = omega arith in
    ap (λ x. begins_from t (parts_with x k comments) k (marks seen begun)) same
    ∙ (ap (λ x. begins_from t (parts_with n x comments) x (marks seen begun)) place ∙ ap (λ x. begins_from t (parts_with n (k + 0) comments) (k + 0) (marks x begun)) passed)
inside_steps (suc d) n left k t comments seen begun next all follow most inside =
    let one : left ≡ suc (d + n) = omega (arith, all) in
    let place : k + 1 + d ≡ k + suc d = omega arith in
    let passed : seen + 1 + d ≡ seen + suc d = omega arith in
    let later : FollowFrom (k + 1 + d) comments = follow_less (k + 1 + d) (k + suc d) comments (omega arith) follow in
    ap (λ x. begins_from t (parts_with x k comments) k (marks seen begun)) one
    ∙ (inside_step t (d + n) k comments (marks seen begun) (follow_less (k + 1) (k + suc d) comments (omega arith) follow) (inside seen (omega (arith, most)))
    ∙ (inside_steps d n (d + n) (k + 1) t comments (seen + 1) begun next refl later (omega (arith, most)) inside
    ∙ (ap (λ x. begins_from t (parts_with n x comments) x (marks (seen + 1 + d) begun)) place ∙ ap (λ x. begins_from t (parts_with n (k + suc d) comments) (k + suc d) (marks x begun)) passed)))

-- what is told from a place on, behind which so many tokens stand inside a line, is what is told behind them
pub inside_row : (d : ℕ) (t : Tree) (count k : ℕ) (comments : List ViewComment) (m : Marks) (next : ℕ) → 0 < d → k + d ≤ count → FollowFrom (k + d) comments → m.seen + d ≤ next → AreInside t next m.begun
    → begins_from t (parts_with (count - (k + d)) (k + d) comments) (k + d) (marks (m.seen + d) m.begun) ≡ begins_from t (parts_with (count - k) k comments) k m
inside_row zero t count k comments m next some few follow most inside = absurd (omega (arith, some))
inside_row (suc d) t count k comments m next some few follow most inside =
    let n = count - (k + suc d) in
    let left : count - k ≡ suc (d + n) = omega (arith, few) in
    let place : k + 1 + d ≡ k + suc d = omega arith in
    let passed : m.seen + 1 + d ≡ m.seen + suc d = omega arith in
    let later : FollowFrom (k + 1 + d) comments = follow_less (k + 1 + d) (k + suc d) comments (omega arith) follow in
    sym (ap (λ x. begins_from t (parts_with x k comments) k m) left
    ∙ (inside_step t (d + n) k comments m (follow_less (k + 1) (k + suc d) comments (omega arith) follow) (inside m.seen (omega (arith, most)))
    ∙ (inside_steps d n (d + n) (k + 1) t comments (m.seen + 1) m.begun next refl later (omega (arith, most)) inside
    ∙ (ap (λ x. begins_from t (parts_with n x comments) x (marks (m.seen + 1 + d) m.begun)) place ∙ ap (λ x. begins_from t (parts_with n (k + suc d) comments) (k + suc d) (marks x m.begun)) passed))))

-- ## The part at a place

one_left : (count k : ℕ) → k < count → count - k ≡ suc (count - (k + 1))
one_left count k h = omega (arith, h)

pub part_none : (count k : ℕ) → k < count → parts_with (count - k) k [] ≡ Token ∷ parts_with (count - (k + 1)) (k + 1) []
part_none count k h = ap (λ n. parts_with n k []) (one_left count k h)

pub part_first : (count k : ℕ) (c : ViewComment) (comments : List ViewComment) → k < count → c.place ≡ k → parts_with (count - k) k (c ∷ comments) ≡ c.part ∷ parts_with (count - (k + 1)) (k + 1) comments
part_first count k c comments h here =
    let same : nat_eq c.place k ≡ true = grind (arith, here) in
    ap (λ n. parts_with n k (c ∷ comments)) (one_left count k h) ∙ rw (same, parts_with) refl

pub part_other : (count k : ℕ) (c : ViewComment) (comments : List ViewComment) → k < count → c.place ≢ k → parts_with (count - k) k (c ∷ comments) ≡ Token ∷ parts_with (count - (k + 1)) (k + 1) (c ∷ comments)
part_other count k c comments h other =
    let apart : nat_eq c.place k ≡ false = grind (arith, other) in
    ap (λ n. parts_with n k (c ∷ comments)) (one_left count k h) ∙ rw (apart, parts_with) refl

-- ## A token behind inner comments

pub follows_none : (count k : ℕ) → token_follows (parts_with (count - k) k []) ≡ nat_lt k count
follows_none count k = elim (nat_lt k count) as (λ x. nat_lt k count ≡ x → token_follows (parts_with (count - k) k []) ≡ x) [
  | true ↦ λ e. ap token_follows (part_none count k (grind (arith, e)))
  | false ↦ λ e. let none : count - k ≡ 0 = grind (arith, e) in ap (λ n. token_follows (parts_with n k [])) none
] refl

pub follows_behind : (count k : ℕ) (c : ViewComment) (comments : List ViewComment) → k < count → c.place ≡ k → c.part ≡ Inner
    → token_follows (parts_with (count - (k + 1)) (k + 1) comments) ≡ token_follows (parts_with (count - k) k (c ∷ comments))
follows_behind count k c comments h here inner =
    sym (ap token_follows (part_first count k c comments h here) ∙ ap (λ (p : Part). token_follows (p ∷ parts_with (count - (k + 1)) (k + 1) comments)) inner)

at_first : (t : Tree) (m : Marks) (l : Line) → slice_get t.lines m.begun ≡ Some l → nat_eq l.first m.seen ≡ true → is_between t m ≡ true
at_first t m l found first = ap (between_at t.total m.seen) found ∙ first

-- the line whose first token stands at a place begins there
line_begins : (t : Tree) (p : Part) (m : Marks) (l : Line) → p ≡ Token → is_begun m.run ≡ false → slice_get t.lines m.begun ≡ Some l → nat_eq l.first m.seen ≡ true
    → (k : ℕ) → (ps : List Part) → new_begin t k p ps m ≡ Some (record { first = k; level = l.level; kind = l.kind })
line_begins t p m l token run found first k ps =
    let made : Bool → Bool → Option Line → Option Begin = λ b r o. elim b [ false ↦ None | true ↦ elim (not r) [ true ↦ begin_of k o | false ↦ None ] ] in
    ap (λ (q : Part). new_begin t k q ps m) token
    ∙ (ap (λ (b : Bool). made b (is_begun m.run) (slice_get t.lines m.begun)) (at_first t m l found first)
    ∙ (ap (λ (r : Bool). made true r (slice_get t.lines m.begun)) run ∙ ap (made true false) found))

-- and is behind it
line_begun : (t : Tree) (p : Part) (m : Marks) (l : Line) → p ≡ Token → slice_get t.lines m.begun ≡ Some l → nat_eq l.first m.seen ≡ true
    → (ps : List Part) → next_marks t p ps m ≡ record { seen = m.seen + 1; begun = m.begun + 1; run = Apart }
line_begun t p m l token found first ps =
    let behind : Bool → Marks = λ b. record { seen = m.seen + 1; begun = elim b [ true ↦ m.begun + 1 | false ↦ m.begun ]; run = Apart } in
    ap (λ (q : Part). next_marks t q ps m) token ∙ ap behind (at_first t m l found first)

token_at : (count k : ℕ) (comments : List ViewComment) → k < count → FollowFrom (k + 1) comments → parts_with (count - k) k comments ≡ Token ∷ parts_with (count - (k + 1)) (k + 1) comments
token_at count k comments h follow = ap (λ n. parts_with n k comments) (one_left count k h) ∙ token_first (count - (k + 1)) k comments follow

line_here : (t : Tree) (count k : ℕ) (comments : List ViewComment) (m : Marks) (l : Line) → slice_get t.lines m.begun ≡ Some l → l.first ≡ m.seen → is_begun m.run ≡ false → k < count → FollowFrom (k + 1) comments
    → begins_from t (parts_with (count - k) k comments) k m
    ≡ record { first = k; level = l.level; kind = l.kind } ∷ begins_from t (parts_with (count - (k + 1)) (k + 1) comments) (k + 1) (marks (m.seen + 1) (m.begun + 1))
line_here t count k comments m l found same run few follow =
    let behind : List Part = parts_with (count - (k + 1)) (k + 1) comments in
    let first : nat_eq l.first m.seen ≡ true = grind (arith, same) in
    ap (λ (ps : List Part). begins_from t ps k m) (token_at count k comments few follow)
    ∙ (ap (λ (o : Option Begin). list_of o ++ begins_from t behind (k + 1) (next_marks t Token behind m)) (line_begins t Token m l refl run found first k behind)
    ∙ ap (λ (x : Marks). record { first = k; level = l.level; kind = l.kind } ∷ begins_from t behind (k + 1) x) (line_begun t Token m l refl found first behind))

inside_before : (t : Tree) (begun : ℕ) (l : Line) → slice_get t.lines begun ≡ Some l → AreInside t l.first begun
inside_before t begun l found passed h = ap (between_at t.total passed) found ∙ elsewhere passed l.first h

-- what is told from a place on, behind which so many tokens stand inside a line and then another line begins
pub line_row : (d : ℕ) (t : Tree) (count k : ℕ) (comments : List ViewComment) (m : Marks) (l : Line) → slice_get t.lines m.begun ≡ Some l → l.first ≡ m.seen + d → is_begun m.run ≡ false → k + d < count → FollowFrom (k + d + 1) comments
    → begins_from t (parts_with (count - k) k comments) k m
    ≡ record { first = k + d; level = l.level; kind = l.kind } ∷ begins_from t (parts_with (count - (k + d + 1)) (k + d + 1) comments) (k + d + 1) (marks (l.first + 1) (m.begun + 1))
line_row zero t count k comments m l found same run few follow =
    let place : k ≡ k + 0 = omega arith in
    let seen : m.seen + 1 ≡ l.first + 1 = omega (arith, same) in
    let P : ℕ → Type 0 = λ x. begins_from t (parts_with (count - k) k comments) k m
    ≡ record { first = x; level = l.level; kind = l.kind } ∷ begins_from t (parts_with (count - (x + 1)) (x + 1) comments) (x + 1) (marks (l.first + 1) (m.begun + 1)) in
    subst P place
    (line_here t count k comments m l found (omega (arith, same)) run (omega (arith, few)) (follow_less (k + 1) (k + 0 + 1) comments (omega arith) follow)
    ∙ ap (λ x. record { first = k; level = l.level; kind = l.kind } ∷ begins_from t (parts_with (count - (k + 1)) (k + 1) comments) (k + 1) (marks x (m.begun + 1))) seen)
line_row (suc d) t count k comments m l found same run few follow =
    let passed : Marks = marks (m.seen + suc d) m.begun in
    let seen : m.seen + suc d + 1 ≡ l.first + 1 = omega (arith, same) in
    sym (inside_row (suc d) t count k comments m l.first (omega arith) (omega (arith, few)) (follow_less (k + suc d) (k + suc d + 1) comments (omega arith) follow) (omega (arith, same)) (inside_before t m.begun l found))
    ∙ (line_here t count (k + suc d) comments passed l found same refl few follow
    ∙ ap (λ x. record { first = k + suc d; level = l.level; kind = l.kind } ∷ begins_from t (parts_with (count - (k + suc d + 1)) (k + suc d + 1) comments) (k + suc d + 1) (marks x (m.begun + 1))) seen)

-- ## Lines that end

ended : (count : ℕ) (current : Option Begin) (begin : Begin) (behind : List Begin)
    → lines_between begin.first (list_of current) ++ lines_between count (begin ∷ behind) ≡ lines_between count (list_of current ++ begin ∷ behind)
ended count None begin behind = refl
ended count (Some b) begin behind = refl

-- where a line begins, the one before it ends
pub lines_on : (count : ℕ) (old new : List ULine) (current : Option Begin) (begin : Begin) (behind : List Begin) → new ≡ old ++ lines_between begin.first (list_of current)
    → new ++ lines_between count (begin ∷ behind) ≡ old ++ lines_between count (list_of current ++ begin ∷ behind)
lines_on count old new current begin behind e =
    ap (λ (x : List ULine). x ++ lines_between count (begin ∷ behind)) e
    ∙ (append_assoc old (lines_between begin.first (list_of current)) (lines_between count (begin ∷ behind)) ∙ ap (λ (x : List ULine). old ++ x) (ended count current begin behind))

-- and at the end the last
lines_end : (count : ℕ) (old new : List ULine) (current : Option Begin) → new ≡ old ++ lines_between count (list_of current) → new ≡ old ++ lines_between count (list_of current ++ [])
lines_end count old new None e = e
lines_end count old new (Some b) e = e

-- behind the last place nothing is told
none_left : (t : Tree) (count k : ℕ) (comments : List ViewComment) (m : Marks) → count ≤ k → begins_from t (parts_with (count - k) k comments) k m ≡ []
none_left t count k comments m h =
    let none : count - k ≡ 0 = omega (arith, h) in
    ap (λ n. begins_from t (parts_with n k comments) k m) none

pub last_line : (t : Tree) (count k : ℕ) (comments : List ViewComment) (m : Marks) (old new : List ULine) (current : Option Begin) → count ≤ k → new ≡ old ++ lines_between count (list_of current)
    → new ≡ old ++ lines_between count (list_of current ++ begins_from t (parts_with (count - k) k comments) k m)
last_line t count k comments m old new current h e =
    lines_end count old new current e ∙ ap (λ (x : List Begin). old ++ lines_between count (list_of current ++ x)) (sym (none_left t count k comments m h))

-- ## One place

begin_same : (end_level : ℕ) (next : Option Line) (between begins : Bool) (k : ℕ) (p : Part) → begin_with end_level next between (between && begins) k p ≡ begin_with end_level next between begins k p
begin_same end_level next true begins k p = refl
begin_same end_level next false begins k p = refl

run_same : (between apart follows : Bool) (run : Run)
    → elim (between && apart) as (λ _. Run) [ true ↦ run_of (between && (apart && follows)) | false ↦ run ] ≡ elim (between && apart) as (λ _. Run) [ true ↦ run_of follows | false ↦ run ]
run_same true true follows run = refl
run_same true false follows run = refl
run_same false apart follows run = refl

marks_same : (t : Tree) (p : Part) (ps : List Part) (m : Marks) → marks_with (is_between t m) (is_between t m && begins_line p ps m) p m ≡ next_marks t p ps m
marks_same t Token ps m = refl
marks_same t Own ps m = refl
marks_same t Trailing ps m = refl
marks_same t Inner ps m = ap (λ (r : Run). record { seen = m.seen; begun = m.begun; run = r }) (run_same (is_between t m) (is_apart m.run) (token_follows ps) m.run)

-- what is told of a place and of those behind it, by the line that begins there and how the lines stand behind it
pub place_told : (t : Tree) (k : ℕ) (p : Part) (ps : List Part) (m behind : Marks) (next : Option Line) (between begins : Bool) (begin : Option Begin) → next ≡ slice_get t.lines m.begun
    → between ≡ between_at t.total m.seen next → begins ≡ (between && begins_line p ps m) → begin ≡ begin_with t.end_level next between begins k p → behind ≡ marks_with between begins p m
    → list_of begin ++ begins_from t ps (k + 1) behind ≡ begins_from t (p ∷ ps) k m
place_told t k p ps m behind next between begins begin found may does here marked =
    let is : between ≡ is_between t m = may ∙ ap (between_at t.total m.seen) found in
    let new : begin ≡ new_begin t k p ps m =
    here
    ∙ (ap (λ (x : Bool). begin_with t.end_level next between x k p) does
    ∙ (begin_same t.end_level next between (begins_line p ps m) k p
    ∙ (ap (λ (o : Option Line). begin_with t.end_level o between (begins_line p ps m) k p) found ∙ ap (λ (x : Bool). begin_with t.end_level (slice_get t.lines m.begun) x (begins_line p ps m) k p) is))) in
    let on : behind ≡ next_marks t p ps m =
    marked ∙ (ap (λ (x : Bool). marks_with between x p m) does ∙ (ap (λ (x : Bool). marks_with x (x && begins_line p ps m) p m) is ∙ marks_same t p ps m)) in
    ap (λ (o : Option Begin). list_of o ++ begins_from t ps (k + 1) behind) new ∙ ap (λ (x : Marks). list_of (new_begin t k p ps m) ++ begins_from t ps (k + 1) x) on

-- what is told behind a place is what was told before it
pub went_on : (count : ℕ) (old new all : List ULine) (before current now begin : Option Begin) (told there behind : List Begin)
    → new ++ lines_between count (list_of now ++ behind) ≡ old ++ lines_between count (list_of current ++ (list_of begin ++ behind)) → list_of begin ++ behind ≡ there → there ≡ told → current ≡ before
    → old ++ lines_between count (list_of before ++ told) ≡ all → new ++ lines_between count (list_of now ++ behind) ≡ all
went_on count old new all before current now begin told there behind e here same goes h =
    e ∙ (ap (λ (x : List Begin). old ++ lines_between count (list_of current ++ x)) (here ∙ same) ∙ (ap (λ (o : Option Begin). old ++ lines_between count (list_of o ++ told)) goes ∙ h))

-- and at the end all is told
pub all_told : (count : ℕ) (old new all : List ULine) (before current : Option Begin) (told none : List Begin) → new ≡ old ++ lines_between count (list_of current ++ none) → none ≡ told → current ≡ before
    → old ++ lines_between count (list_of before ++ told) ≡ all → new ≡ all
all_told count old new all before current told none e same goes h =
    e ∙ (ap (λ (x : List Begin). old ++ lines_between count (list_of current ++ x)) same ∙ (ap (λ (o : Option Begin). old ++ lines_between count (list_of o ++ told)) goes ∙ h))
