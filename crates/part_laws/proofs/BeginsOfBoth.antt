-- Where the lines of a view begin that is cut behind a first part, and how far they go: as those of the part do, and then those of what follows.
use Rattle.std.proofs.Common.{◌≡◌, ◌∙◌, ◌⊎◌, inl, inr, ℕ, ◌+◌, ◌<◌, ◌≤◌, nat_le, nat_eq, Bool, true, false, ◌&&◌}
use Rattle.std.proofs.Common.{Option, Some, None, List, [], ◌∷◌, ◌++◌, length, map, append_assoc, length-append, refl}
use Rattle.std.proofs.Common.{sym, ap, arith, ◌-◌}
use Rattle.std.specs.Prelude.{⊤, slice_get}
use Rattle.std.proofs.lemmas.List.{append-nil}
use Rattle.statement_lines.specs.declared.line.Line.{Line}
use Rattle.line_tokens.specs.declared.line.LineKind.TheVariants.{Comment}
use Rattle.unwrapped_lines.specs.declared.part.Begin.{Begin}
use Rattle.unwrapped_lines.specs.declared.part.Marks.{Marks}
use Rattle.item_classes.specs.declared.part.Part.{Part}
use Rattle.item_classes.specs.declared.part.Part.TheVariants.{Token, Own, Trailing, Inner}
use Rattle.unwrapped_lines.specs.declared.part.Run.{Run}
use Rattle.unwrapped_lines.specs.declared.part.Run.TheVariants.{Apart}
use Rattle.unwrapped_lines.specs.Comments.{Tree, token_follows, is_apart, between_at, is_between, own_level, begin_of}
use Rattle.unwrapped_lines.specs.Comments.{begins_line, is_own, new_begin, inner_run, next_marks, list_of, begins_from}
use Rattle.unwrapped_lines.specs.Comments.{no_marks, run_of}
use Rattle.statement_lines.specs.Stack.{IsCut}
use Rattle.part_laws.proofs.CodeCut.{code_line_behind}
use Rattle.part_laws.proofs.PartsOfBoth.{is_token, tokens_in, ends_token}
use Rattle.part_laws.proofs.Places.{slice_behind, slice_at_seam}
use Rattle.std.proofs.lemmas.Option.{slice_get-map}
use Rattle.std.specs.Option.{option_map}
use Rattle.line_tokens.specs.declared.line.ULine.{ULine}
use Rattle.line_tokens.specs.Lines.{CutPlaces}
use Rattle.unwrapped_lines.specs.Lines.{line_up_to, lines_between}
use Rattle.part_laws.specs.LinesCut.{line_behind}
use Rattle.std.proofs.lemmas.Bool.{eqb-true, lt-leb}

abbrev pub begin_behind : ℕ → Begin → Begin
begin_behind count begin = record { first = count + begin.first; level = begin.level; kind = begin.kind }

-- the lines before one that begins go up to it
up_to : (count : ℕ) (begins : List Begin) (next : Begin) (later : List Begin)
    → lines_between count (begins ++ next ∷ later) ≡ lines_between next.first begins ++ lines_between count (next ∷ later)
up_to count [] next later = refl
up_to count (begin ∷ []) next later = refl
up_to count (begin ∷ second ∷ begins) next later = ap (λ (ls : List ULine). line_up_to second.first begin ∷ ls) (up_to count (second ∷ begins) next later)

first_at : (at count : ℕ) (begin : Begin) (later : List Begin) → CutPlaces at count (lines_between count (begin ∷ later)) → begin.first ≡ at
first_at at count begin [] cut = cut.0
first_at at count begin (next ∷ later) cut = cut.0

between_behind : (n at count : ℕ) (begin : Begin) (later : List Begin) → CutPlaces at count (lines_between count (begin ∷ later))
    → lines_between (n + count) (map (begin_behind n) (begin ∷ later)) ≡ map (line_behind n) (lines_between count (begin ∷ later))
between_behind n at count begin [] cut =
    let end : count - 1 + 1 ≡ count = cut.1.1 in
    let last : n + count - 1 ≡ n + (count - 1) = omega (arith, end) in
    ap (λ (k : ℕ). record { first = n + begin.first; last = k; level = begin.level; kind = begin.kind } ∷ []) last
between_behind n at count begin (next ∷ later) cut =
    let end : next.first ≡ next.first - 1 + 1 = first_at (next.first - 1 + 1) count next later cut.1.1 in
    let last : n + next.first - 1 ≡ n + (next.first - 1) = omega (arith, end) in
    ap (λ (k : ℕ). record { first = n + begin.first; last = k; level = begin.level; kind = begin.kind } ∷ lines_between (n + count)
    (map (begin_behind n) (next ∷ later))) last
    ∙ ap (λ (ls : List ULine). line_behind n (line_up_to next.first begin) ∷ ls) (between_behind n (next.first - 1 + 1) count next later cut.1.1)

-- those of two runs of items, where there are some of the second
pub lines_of_both : (n count : ℕ) (earlier later : List Begin) → 0 < count → CutPlaces 0 count (lines_between count later)
    → lines_between (n + count) (earlier ++ map (begin_behind n) later) ≡ lines_between n earlier ++ map (line_behind n) (lines_between count later)
lines_of_both n count earlier [] some cut = absurd (let none : 0 ≡ count = cut in omega (arith, none, some))
lines_of_both n count earlier (begin ∷ later) some cut =
    let at : n + begin.first ≡ n = omega (arith, first_at 0 count begin later cut) in
    up_to (n + count) earlier (begin_behind n begin) (map (begin_behind n) later)
    ∙ (ap (λ (k : ℕ). lines_between k earlier ++ lines_between (n + count) (map (begin_behind n) (begin ∷ later))) at
    ∙ ap (λ (ls : List ULine). lines_between n earlier ++ ls) (between_behind n 0 count begin later cut))

-- ## How far they go

-- ## What begins at an item

-- what begins there, where it is told whether no line goes on, whether the item is a comment of its own, and whether a line begins
abbrev made : Bool → Bool → Bool → ℕ → ℕ → Option Line → Option Begin
made between own begins k level found =
    elim between as (λ _. Option Begin) [
      | false ↦ None
      | true ↦
          elim own as (λ _. Option Begin) [
            | true ↦ Some (record { first = k; level = level; kind = Comment })
            | false ↦
                elim begins as (λ _. Option Begin) [ true ↦ begin_of k found | false ↦ None ]
          ]
    ]

made_same : (x y own b c : Bool) (k end end_level : ℕ) (found line : Option Line) → x ≡ y → b ≡ c
    → (y ≡ true → (l : Line) × ((found ≡ Some l) × (line ≡ Some l)))
    → made x own b k (own_level end found) found ≡ made y own c k (own_level end_level line) line
made_same x false own b c k end end_level found line between begins here = ap (λ (z : Bool). made z own b k (own_level end found) found) between
made_same x true own b c k end end_level found line between begins here =
    let l = here refl in
    ap (λ (z : Bool). made z own b k (own_level end found) found) between
    ∙ (ap (λ (z : Bool). made true own z k (own_level end found) found) begins
    ∙ (ap (λ (f : Option Line). made true own c k (own_level end f) f) l.1.0
    ∙ ap (λ (f : Option Line). made true own c k (own_level end_level f) f) (sym l.1.1)))

-- ## The first part

token_follows_on : (parts later : List Part) → ends_token false parts ≡ true → token_follows (parts ++ later) ≡ token_follows parts
token_follows_on [] later ends = absurd (let q : false ≡ true = ends in cc)
token_follows_on (Token ∷ parts) later ends = refl
token_follows_on (Own ∷ parts) later ends = refl
token_follows_on (Trailing ∷ parts) later ends = refl
token_follows_on (Inner ∷ parts) later ends = token_follows_on parts later ends

begins_on : (part : Part) (parts later : List Part) (m : Marks) → ends_token (is_token part) parts ≡ true
    → begins_line part (parts ++ later) m ≡ begins_line part parts m
begins_on Token parts later m ends = refl
begins_on Own parts later m ends = refl
begins_on Trailing parts later m ends = refl
begins_on Inner parts later m ends = ap (λ (b : Bool). is_apart m.run && b) (token_follows_on parts later ends)

token_left : (parts : List Part) → ends_token false parts ≡ true → 0 < tokens_in parts
token_left [] ends = absurd (let q : false ≡ true = ends in cc)
token_left (Token ∷ parts) ends = omega arith
token_left (Own ∷ parts) ends = token_left parts ends
token_left (Trailing ∷ parts) ends = token_left parts ends
token_left (Inner ∷ parts) ends = token_left parts ends

some_left : (part : Part) (parts : List Part) → ends_token (is_token part) parts ≡ true → 0 < tokens_in (part ∷ parts)
some_left Token parts ends = omega arith
some_left Own parts ends = token_left parts ends
some_left Trailing parts ends = token_left parts ends
some_left Inner parts ends = token_left parts ends

-- the first of these lines begins at this place
abbrev pub FirstAt : ℕ → List Line → Type 0
FirstAt at [] = ⊤
FirstAt at (line ∷ lines) = line.first ≡ at

-- this tree goes on behind that one
pub record GoesOn (whole tree : Tree) (later : List Line) : Type 0 where
  pub lines : whole.lines ≡ tree.lines ++ later
  pub total : tree.total ≤ whole.total
  pub first : FirstAt tree.total later

eq_false : (a b : ℕ) → a < b → nat_eq b a ≡ false
eq_false a b h = grind arith

unequal : (a b : ℕ) → nat_eq a b ≡ false → (a < b) ⊎ (b < a)
unequal a b h = grind arith

pub cut_end : (at total : ℕ) (lines : List Line) → IsCut at total lines → at ≤ total
cut_end at total [] cut = omega (arith, cut)
cut_end at total (line ∷ lines) cut = let rest : line.end ≤ total = cut_end line.end total lines cut.1.1 in let up : at < line.end = cut.1.0 in omega arith

-- so many lines have begun, and these are left, from this place on
record Left (tree : Tree) (m : Marks) (done lines : List Line) (at : ℕ) : Type 0 where
  pub split : tree.lines ≡ done ++ lines
  pub begun : m.begun ≡ length done
  pub cut : IsCut at tree.total lines
  pub low : m.seen ≤ at

-- both trees have the same line there, or both have a line that goes on
record Same (whole tree : Tree) (m : Marks) : Type 0 where
  pub between : is_between whole m ≡ is_between tree m
  pub here : is_between tree m ≡ true → (l : Line) × ((slice_get whole.lines m.begun ≡ Some l) × (slice_get tree.lines m.begun ≡ Some l))

found_left : (tree : Tree) (m : Marks) (done lines : List Line) (at : ℕ) → Left tree m done lines at → slice_get tree.lines m.begun ≡ slice_get lines 0
found_left tree m done lines at left =
    ap (slice_get tree.lines) left.begun ∙ (ap (λ (ls : List Line). slice_get ls (length done)) left.split ∙ slice_at_seam done lines)

found_whole : (whole tree : Tree) (later : List Line) (m : Marks) (done lines : List Line) (at : ℕ) → GoesOn whole tree later → Left tree m done lines at
    → slice_get whole.lines m.begun ≡ slice_get (lines ++ later) 0
found_whole whole tree later m done lines at goes left =
    ap (slice_get whole.lines) left.begun
    ∙ (ap (λ (ls : List Line). slice_get ls (length done)) (goes.lines ∙ (ap (λ (ls : List Line). ls ++ later) left.split ∙ append_assoc done lines later))
    ∙ slice_at_seam done (lines ++ later))

never : {X : Type 0} (b : Bool) → b ≡ false → b ≡ true → X
never b fails holds = absurd (let q : true ≡ false = sym holds ∙ fails in cc)

same_here : (whole tree : Tree) (later : List Line) (m : Marks) (done lines : List Line) (at : ℕ) → GoesOn whole tree later → Left tree m done lines at
    → m.seen < tree.total → Same whole tree m
same_here whole tree later m done (l ∷ lines) at goes left more =
    let one = found_left tree m done (l ∷ lines) at left in
    let both = found_whole whole tree later m done (l ∷ lines) at goes left in
    record { between = ap (between_at whole.total m.seen) both ∙ sym (ap (between_at tree.total m.seen) one); here = λ _. (l, (both, one)) }
same_here whole tree [] m done [] at goes left more =
    let one = found_left tree m done [] at left in
    let both = found_whole whole tree [] m done [] at goes left in
    let inside : is_between tree m ≡ false = ap (between_at tree.total m.seen) one ∙ lt-leb tree.total m.seen more in
    record {
      between = ap (between_at whole.total m.seen) both ∙ (lt-leb whole.total m.seen (omega (arith, more, goes.total)) ∙ sym inside);
      here = λ holds. never (is_between tree m) inside holds;
    }
same_here whole tree (l ∷ later) m done [] at goes left more =
    let one = found_left tree m done [] at left in
    let both = found_whole whole tree (l ∷ later) m done [] at goes left in
    let inside : is_between tree m ≡ false = ap (between_at tree.total m.seen) one ∙ lt-leb tree.total m.seen more in
    record {
      between = ap (between_at whole.total m.seen) both ∙ (eq_false m.seen l.first (omega (arith, more, goes.first)) ∙ sym inside);
      here = λ holds. never (is_between tree m) inside holds;
    }

new_same : (whole tree : Tree) (k : ℕ) (part : Part) (parts later : List Part) (m : Marks) → Same whole tree m → ends_token (is_token part) parts ≡ true
    → new_begin whole k part (parts ++ later) m ≡ new_begin tree k part parts m
new_same whole tree k part parts later m same ends =
    made_same (is_between whole m) (is_between tree m) (is_own part) (begins_line part (parts ++ later) m)
    (begins_line part parts m) k whole.end_level tree.end_level (slice_get whole.lines m.begun) (slice_get tree.lines m.begun)
    same.between (begins_on part parts later m ends) same.here

-- the marks behind a token
abbrev past_marks : ℕ → ℕ → Bool → Marks
past_marks seen begun between = record { seen = seen + 1; begun = elim between as (λ _. ℕ) [ true ↦ begun + 1 | false ↦ begun ]; run = Apart }

next_same : (whole tree : Tree) (part : Part) (parts later : List Part) (m : Marks) → is_between whole m ≡ is_between tree m
    → ends_token (is_token part) parts ≡ true → next_marks whole part (parts ++ later) m ≡ next_marks tree part parts m
next_same whole tree Token parts later m between ends =
    ap (past_marks m.seen m.begun) between
next_same whole tree Own parts later m between ends = refl
next_same whole tree Trailing parts later m between ends = refl
next_same whole tree Inner parts later m between ends =
    ap (λ (b : Bool). record { seen = m.seen; begun = m.begun; run = inner_run b (parts ++ later) m.run }) between
    ∙ ap (λ (f : Bool). record m { run = elim (is_between tree m && is_apart m.run) as (λ _. Run) [ true ↦ run_of f | false ↦ m.run ] })
    (token_follows_on parts later ends)

-- what is left behind an item
record LeftOn (tree : Tree) (m : Marks) : Type 0 where
  pub done : List Line
  pub lines : List Line
  pub at : ℕ
  pub left : Left tree m done lines at

past_token : (tree : Tree) (m : Marks) (done lines : List Line) (at : ℕ) (between : Bool) → Left tree m done lines at → m.seen < tree.total
    → is_between tree m ≡ between → LeftOn tree (past_marks m.seen m.begun between)
past_token tree m done [] at true left more is =
    never (is_between tree m) (ap (between_at tree.total m.seen) (found_left tree m done [] at left) ∙ lt-leb tree.total m.seen more) is
past_token tree m done (l ∷ lines) at true left more is =
    let first : l.first ≡ m.seen = eqb-true l.first m.seen (sym (ap (between_at tree.total m.seen) (found_left tree m done (l ∷ lines) at left)) ∙ is) in
    let place : l.first ≡ at = left.cut.0 in
    let up : at < l.end = left.cut.1.0 in
    record {
      done = done ++ l ∷ [];
      lines = lines;
      at = l.end;
      left = record {
        split = left.split ∙ sym (append_assoc done (l ∷ []) lines);
        begun = omega (arith, left.begun, length-append done (l ∷ []));
        cut = left.cut.1.1;
        low = omega (arith, first, place, up);
      };
    }
past_token tree m done [] at false left more is =
    let end : at ≡ tree.total = left.cut in
    record { done = done; lines = []; at = at; left = record { split = left.split; begun = left.begun; cut = left.cut; low = omega (arith, end, more) } }
past_token tree m done (l ∷ lines) at false left more is =
    let other = unequal l.first m.seen (sym (ap (between_at tree.total m.seen) (found_left tree m done (l ∷ lines) at left)) ∙ is) in
    let place : l.first ≡ at = left.cut.0 in
    let low : m.seen ≤ at = left.low in
    let up : m.seen + 1 ≤ at = elim other [ inl less ↦ omega (arith, less, place, low) | inr less ↦ omega (arith, less, place) ] in
    record { done = done; lines = l ∷ lines; at = at; left = record { split = left.split; begun = left.begun; cut = left.cut; low = up } }

kept : (tree : Tree) (m : Marks) (run : Run) (done lines : List Line) (at : ℕ) → Left tree m done lines at
    → LeftOn tree (record { seen = m.seen; begun = m.begun; run = run })
kept tree m run done lines at left =
    record { done = done; lines = lines; at = at; left = record { split = left.split; begun = left.begun; cut = left.cut; low = left.low } }

past_part : (tree : Tree) (part : Part) (parts : List Part) (m : Marks) (done lines : List Line) (at : ℕ) → Left tree m done lines at → m.seen < tree.total
    → LeftOn tree (next_marks tree part parts m)
past_part tree Token parts m done lines at left more = past_token tree m done lines at (is_between tree m) left more refl
past_part tree Own parts m done lines at left more = kept tree m Apart done lines at left
past_part tree Trailing parts m done lines at left more = kept tree m Apart done lines at left
past_part tree Inner parts m done lines at left more = kept tree m (inner_run (is_between tree m) parts m.run) done lines at left

seen_on : (tree : Tree) (part : Part) (parts : List Part) (m : Marks)
    → (next_marks tree part parts m).seen + tokens_in parts ≡ m.seen + tokens_in (part ∷ parts)
seen_on tree Token parts m = omega arith
seen_on tree Own parts m = refl
seen_on tree Trailing parts m = refl
seen_on tree Inner parts m = refl

apart_behind : (tree : Tree) (part : Part) (parts : List Part) (m : Marks) → is_token part ≡ true → (next_marks tree part parts m).run ≡ Apart
apart_behind tree Token parts m is = refl
apart_behind tree Own parts m is = refl
apart_behind tree Trailing parts m is = refl
apart_behind tree Inner parts m is = absurd (let q : false ≡ true = is in cc)

-- the marks behind all lines of a tree
abbrev pub behind_all : Tree → Marks
behind_all tree = record { seen = tree.total; begun = length tree.lines; run = Apart }

at_end : (tree : Tree) (m : Marks) (done lines : List Line) (at : ℕ) → Left tree m done lines at → m.seen ≡ tree.total → m.run ≡ Apart → m ≡ behind_all tree
at_end tree m done (l ∷ lines) at left seen run =
    let rest : l.end ≤ tree.total = cut_end l.end tree.total lines left.cut.1.1 in
    let up : at < l.end = left.cut.1.0 in
    absurd (omega (arith, rest, up, left.low, seen))
at_end tree m done [] at left seen run =
    let begun : m.begun ≡ length tree.lines = left.begun ∙ ap length (sym (append-nil done) ∙ sym left.split) in
    ap (λ (n : ℕ). record { seen = n; begun = m.begun; run = m.run }) seen
    ∙ (ap (λ (n : ℕ). record { seen = tree.total; begun = n; run = m.run }) begun
    ∙ ap (λ (r : Run). record { seen = tree.total; begun = length tree.lines; run = r }) run)

begins_before : (whole tree : Tree) (later : List Line) (parts more : List Part) (k : ℕ) (m : Marks) (done lines : List Line) (at : ℕ) (last : Bool)
    → GoesOn whole tree later → Left tree m done lines at → m.seen + tokens_in parts ≡ tree.total → ends_token last parts ≡ true → (last ≡ true → m.run ≡ Apart)
    → begins_from whole (parts ++ more) k m ≡ begins_from tree parts k m ++ begins_from whole more (k + length parts) (behind_all tree)
begins_before whole tree later [] more k m done lines at last goes left seen ends apart =
    let place : k ≡ k + 0 = omega arith in
    ap (λ (i : ℕ). begins_from whole more i m) place ∙ ap (begins_from whole more (k + 0)) (at_end tree m done lines at left (omega (arith, seen)) (apart ends))
begins_before whole tree later (part ∷ parts) more k m done lines at last goes left seen ends apart =
    let inside : m.seen < tree.total = omega (arith, seen, some_left part parts ends) in
    let same = same_here whole tree later m done lines at goes left inside in
    let next : Marks = next_marks tree part parts m in
    let on = past_part tree part parts m done lines at left inside in
    let place : k + 1 + length parts ≡ k + length (part ∷ parts) = omega arith in
    let rest = begins_before whole tree later parts more (k + 1) next on.done on.lines on.at (is_token part) goes on.left
    (omega (arith, seen, seen_on tree part parts m)) ends (apart_behind tree part parts m) in
    ap (λ (b : Option Begin). list_of b ++ begins_from whole (parts ++ more) (k + 1) (next_marks whole part (parts ++ more) m))
    (new_same whole tree k part parts more m same ends)
    ∙ (ap (λ (x : Marks). list_of (new_begin tree k part parts m) ++ begins_from whole (parts ++ more) (k + 1) x)
    (next_same whole tree part parts more m same.between ends)
    ∙ (ap (λ (bs : List Begin). list_of (new_begin tree k part parts m) ++ bs)
    (rest ∙ ap (λ (i : ℕ). begins_from tree parts (k + 1) next ++ begins_from whole more i (behind_all tree)) place)
    ∙ sym (append_assoc (list_of (new_begin tree k part parts m)) (begins_from tree parts (k + 1) next)
    (begins_from whole more (k + length (part ∷ parts)) (behind_all tree)))))

-- ## What follows

-- behind so many tokens and lines this tree is that one
pub record Follows (count : ℕ) (early : List Line) (whole tree : Tree) : Type 0 where
  pub lines : whole.lines ≡ early ++ map (code_line_behind count) tree.lines
  pub total : whole.total ≡ count + tree.total
  pub level : whole.end_level ≡ tree.end_level

abbrev marks_there : ℕ → ℕ → Marks → Marks
marks_there count lines m = record { seen = count + m.seen; begun = lines + m.begun; run = m.run }

found_there : (count : ℕ) (early : List Line) (whole tree : Tree) (i : ℕ) → Follows count early whole tree
    → slice_get whole.lines (length early + i) ≡ option_map (code_line_behind count) (slice_get tree.lines i)
found_there count early whole tree i follows =
    ap (λ (ls : List Line). slice_get ls (length early + i)) follows.lines
    ∙ (slice_behind early (map (code_line_behind count) tree.lines) i ∙ slice_get-map (code_line_behind count) tree.lines i)

le_there : (n a b : ℕ) → nat_le (n + a) (n + b) ≡ nat_le a b
le_there n a b = by (nat_le a b) refl
  where
    by : (x : Bool) → nat_le a b ≡ x → nat_le (n + a) (n + b) ≡ x
    by true e = (let low : a ≤ b = grind arith in grind arith)
    by false e = (let up : b < a = grind arith in lt-leb (n + a) (n + b) (omega (arith, up)))

eq_there : (n a b : ℕ) → nat_eq (n + a) (n + b) ≡ nat_eq a b
eq_there n a b = by (nat_eq a b) refl
  where
    other : (x y : ℕ) → (x < y) ⊎ (y < x) → nat_eq x y ≡ false
    other x y apart = grind arith

    by : (x : Bool) → nat_eq a b ≡ x → nat_eq (n + a) (n + b) ≡ x
    by true e = (let same : a ≡ b = eqb-true a b e in grind arith)
    by false e = other (n + a) (n + b) (elim (unequal a b e) [ inl less ↦ inl (omega (arith, less)) | inr less ↦ inr (omega (arith, less)) ])

between_there : (count total seen : ℕ) (found : Option Line)
    → between_at (count + total) (count + seen) (option_map (code_line_behind count) found) ≡ between_at total seen found
between_there count total seen None = le_there count total seen
between_there count total seen (Some line) = eq_there count line.first seen

is_between_there : (count : ℕ) (early : List Line) (whole tree : Tree) (m : Marks) → Follows count early whole tree
    → is_between whole (marks_there count (length early) m) ≡ is_between tree m
is_between_there count early whole tree m follows =
    ap (between_at whole.total (count + m.seen)) (found_there count early whole tree m.begun follows)
    ∙ (ap (λ (n : ℕ). between_at n (count + m.seen) (option_map (code_line_behind count) (slice_get tree.lines m.begun))) follows.total
    ∙ between_there count tree.total m.seen (slice_get tree.lines m.begun))

level_there : (count level : ℕ) (found : Option Line) → own_level level (option_map (code_line_behind count) found) ≡ own_level level found
level_there count level None = refl
level_there count level (Some line) = refl

begin_of_there : (count n k : ℕ) (found : Option Line)
    → begin_of (n + k) (option_map (code_line_behind count) found) ≡ option_map (begin_behind n) (begin_of k found)
begin_of_there count n k None = refl
begin_of_there count n k (Some line) = refl

made_there : (between own begins : Bool) (count n k level : ℕ) (found : Option Line)
    → made between own begins (n + k) level (option_map (code_line_behind count) found) ≡ option_map (begin_behind n) (made between own begins k level found)
made_there false own begins count n k level found = refl
made_there true true begins count n k level found = refl
made_there true false true count n k level found = begin_of_there count n k found
made_there true false false count n k level found = refl

begins_there : (part : Part) (parts : List Part) (count lines : ℕ) (m : Marks) → begins_line part parts (marks_there count lines m) ≡ begins_line part parts m
begins_there Token parts count lines m = refl
begins_there Own parts count lines m = refl
begins_there Trailing parts count lines m = refl
begins_there Inner parts count lines m = refl

new_there : (n count : ℕ) (early : List Line) (whole tree : Tree) (k : ℕ) (part : Part) (parts : List Part) (m : Marks) → Follows count early whole tree
    → new_begin whole (n + k) part parts (marks_there count (length early) m) ≡ option_map (begin_behind n) (new_begin tree k part parts m)
new_there n count early whole tree k part parts m follows =
    let there : Marks = marks_there count (length early) m in
    let found : Option Line = slice_get tree.lines m.begun in
    ap (λ (b : Bool). made b (is_own part) (begins_line part parts there) (n + k) (own_level whole.end_level (slice_get whole.lines there.begun))
    (slice_get whole.lines there.begun)) (is_between_there count early whole tree m follows)
    ∙ (ap (λ (b : Bool). made (is_between tree m) (is_own part) b (n + k) (own_level whole.end_level (slice_get whole.lines there.begun))
    (slice_get whole.lines there.begun)) (begins_there part parts count (length early) m)
    ∙ (ap (λ (f : Option Line). made (is_between tree m) (is_own part) (begins_line part parts m) (n + k) (own_level whole.end_level f) f)
    (found_there count early whole tree m.begun follows)
    ∙ (ap (λ (l : ℕ). made (is_between tree m) (is_own part) (begins_line part parts m) (n + k) l (option_map (code_line_behind count) found))
    (level_there count whole.end_level found ∙ ap (λ (l : ℕ). own_level l found) follows.level)
    ∙ made_there (is_between tree m) (is_own part) (begins_line part parts m) count n k (own_level tree.end_level found) found)))

marks_on : (count lines : ℕ) (between : Bool) (m : Marks)
    → past_marks (count + m.seen) (lines + m.begun) between ≡ marks_there count lines (past_marks m.seen m.begun between)
marks_on count lines true m =
    let seen : count + m.seen + 1 ≡ count + (m.seen + 1) = omega arith in
    let begun : lines + m.begun + 1 ≡ lines + (m.begun + 1) = omega arith in
    ap (λ (a : ℕ). record { seen = a; begun = lines + m.begun + 1; run = Apart }) seen
    ∙ ap (λ (b : ℕ). record { seen = count + (m.seen + 1); begun = b; run = Apart }) begun
marks_on count lines false m =
    let seen : count + m.seen + 1 ≡ count + (m.seen + 1) = omega arith in
    ap (λ (a : ℕ). record { seen = a; begun = lines + m.begun; run = Apart }) seen

next_there : (count : ℕ) (early : List Line) (whole tree : Tree) (part : Part) (parts : List Part) (m : Marks) → Follows count early whole tree
    → next_marks whole part parts (marks_there count (length early) m) ≡ marks_there count (length early) (next_marks tree part parts m)
next_there count early whole tree Token parts m follows =
    ap (past_marks (count + m.seen) (length early + m.begun)) (is_between_there count early whole tree m follows)
    ∙ marks_on count (length early) (is_between tree m) m
next_there count early whole tree Own parts m follows = refl
next_there count early whole tree Trailing parts m follows = refl
next_there count early whole tree Inner parts m follows =
    ap (λ (b : Bool). record { seen = count + m.seen; begun = length early + m.begun; run = inner_run b parts m.run })
    (is_between_there count early whole tree m follows)

list_there : (n : ℕ) (begin : Option Begin) (begins : List Begin)
    → list_of (option_map (begin_behind n) begin) ++ map (begin_behind n) begins ≡ map (begin_behind n) (list_of begin ++ begins)
list_there n None begins = refl
list_there n (Some begin) begins = refl

begins_behind : (n count : ℕ) (early : List Line) (whole tree : Tree) (parts : List Part) (k : ℕ) (m : Marks) → Follows count early whole tree
    → begins_from whole parts (n + k) (marks_there count (length early) m) ≡ map (begin_behind n) (begins_from tree parts k m)
begins_behind n count early whole tree [] k m follows = refl
begins_behind n count early whole tree (part ∷ parts) k m follows =
    let there : Marks = marks_there count (length early) m in
    let on : n + k + 1 ≡ n + (k + 1) = omega arith in
    let next : Marks = next_marks tree part parts m in
    ap (λ (b : Option Begin). list_of b ++ begins_from whole parts (n + k + 1) (next_marks whole part parts there))
    (new_there n count early whole tree k part parts m follows)
    ∙ (ap (λ (x : Marks). list_of (option_map (begin_behind n) (new_begin tree k part parts m)) ++ begins_from whole parts (n + k + 1) x)
    (next_there count early whole tree part parts m follows)
    ∙ (ap (λ (i : ℕ). list_of (option_map (begin_behind n) (new_begin tree k part parts m)) ++ begins_from whole parts i
    (marks_there count (length early) next)) on
    ∙ (ap (λ (bs : List Begin). list_of (option_map (begin_behind n) (new_begin tree k part parts m)) ++ bs)
    (begins_behind n count early whole tree parts (k + 1) next follows)
    ∙ list_there n (new_begin tree k part parts m) (begins_from tree parts (k + 1) next))))

-- ## Both

-- the tree of a view of two parts, and those of each by itself
pub record AreBoth (whole first second : Tree) : Type 0 where
  pub follows : Follows first.total first.lines whole second
  pub cut : IsCut 0 first.total first.lines
  pub begins : FirstAt 0 second.lines

goes_on : (whole first second : Tree) → AreBoth whole first second → GoesOn whole first (map (code_line_behind first.total) second.lines)
goes_on whole first second both = record {
  lines = both.follows.lines;
  total = omega (arith, both.follows.total);
  first = at second.lines both.begins;
}
  where
    at : (lines : List Line) → FirstAt 0 lines → FirstAt first.total (map (code_line_behind first.total) lines)
    at [] starts = tt
    at (line ∷ lines) starts = (let none : line.first ≡ 0 = starts in omega (arith, none))

pub begins_of_both : (whole first second : Tree) (parts more : List Part) → AreBoth whole first second → tokens_in parts ≡ first.total
    → ends_token false parts ≡ true → begins_from whole (parts ++ more) 0 no_marks ≡ begins_from first parts 0 no_marks ++ map (begin_behind (length parts))
    (begins_from second more 0 no_marks)
begins_of_both whole first second parts more both many ends =
    let start : Left first no_marks [] first.lines 0 = record { split = refl; begun = refl; cut = both.cut; low = omega arith } in
    let n : ℕ = length parts in
    let place : 0 + length parts ≡ length parts + 0 = omega arith in
    let seen : first.total ≡ first.total + 0 = omega arith in
    let begun : length first.lines ≡ length first.lines + 0 = omega arith in
    let marks : behind_all first ≡ marks_there first.total (length first.lines) no_marks =
    ap (λ (a : ℕ). record { seen = a; begun = length first.lines; run = Apart }) seen
    ∙ ap (λ (b : ℕ). record { seen = first.total + 0; begun = b; run = Apart }) begun in
    begins_before whole first (map (code_line_behind first.total) second.lines) parts more 0 no_marks [] first.lines 0 false
    (goes_on whole first second both) start (omega (arith, many)) ends (λ e. absurd (let q : false ≡ true = e in cc))
    ∙ ap (λ (bs : List Begin). begins_from first parts 0 no_marks ++ bs) (ap (λ (i : ℕ). begins_from whole more i (behind_all first)) place
    ∙ (ap (begins_from whole more (length parts + 0)) marks
    ∙ begins_behind (length parts) first.total first.lines whole second more 0 no_marks both.follows))
