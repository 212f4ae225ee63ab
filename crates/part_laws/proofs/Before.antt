-- The marks of the first part, in the view of both: those of the part by itself.
use Rattle.std.proofs.Common.{◌≡◌, ◌∙◌, ℕ, ◌+◌, ◌-◌, ◌≤◌, Bool, true, false, Option, List, [], ◌∷◌, ◌++◌, length, map}
use Rattle.std.proofs.Common.{get_or, take, drop, append_assoc, length-append, length-drop, refl, sym, ap, subst, arith}
use Rattle.std.proofs.Common.{inl, inr, ◌⊎◌}
use Rattle.std.specs.Prelude.{slice_get, slice_range, if◌then◌else◌}
use Rattle.std.proofs.lemmas.Bool.{cases_Bool}
use Rattle.std.proofs.lemmas.List.{length-take-le, take-append-le, drop-append-le, take-append-drop, length-map}
use Rattle.std.proofs.lemmas.List.{map-append}
use Rattle.std.proofs.Math.ListN.{get_or-append}
use Rattle.line_tokens.specs.declared.line.ULine.{ULine}
use Rattle.line_tokens.specs.Lines.{CutPlaces}
use Rattle.token_arena.specs.Gaps.{Contents}
use Rattle.token_classes.specs.declared.class.TokenClass.{TokenClass}
use Rattle.token_classes.specs.Classes.{is_comment}
use Rattle.item_classes.specs.Viewed.{item_class, classes_of}
use Rattle.annotator.specs.Line.{Sight, Walk, seen_here, walk_from}
use Rattle.token_roles.specs.declared.left.Left.{Left}
use Rattle.token_roles.specs.declared.left.Seen.{Seen}
use Rattle.token_roles.specs.declared.mark.Mark.{Mark}
use Rattle.token_roles.specs.Classes.{is_nothing}
use Rattle.token_roles.specs.Left.{at_start}
use Rattle.token_roles.specs.RoleTable.{class_behind}
use Rattle.token_roles.specs.Marks.{left_next, mark_of}
use Rattle.annotator.specs.View.{Sights, sight_of, row_of, marks_onto}
use Rattle.annotator.proofs.Cuts.{cut_before}
use Rattle.part_laws.specs.RolesCut.{last_code}
use Rattle.part_laws.proofs.RolePlaces.{slice_before, row_here, range_map}
use Rattle.part_laws.proofs.Named.{AreNamed}
use Rattle.part_laws.proofs.Alike.{past_a_comment, past_a_token, behind_token, behind_comment}

-- ## One line

-- the items, the partners and so what is told agree below the cut
abbrev pub longer : Sight → List ℕ → List (Option ℕ) → Sight
longer s ids partners = record { arena = s.arena; ids = s.ids ++ ids; partners = s.partners ++ partners; kind = s.kind; first = s.first; before = s.before }

pub walk_before : (s : Sight) (ids : List ℕ) (partners : List (Option ℕ)) (marks : List Mark) (left : Left) (classes : List TokenClass) → length s.partners ≡ length s.ids → length marks + length classes ≤ length s.ids
    → walk_from (longer s ids partners) marks left classes ≡ walk_from s marks left classes
walk_before s ids partners marks left [] count within = refl
walk_before s ids partners marks left (class ∷ after) count within =
    let k : ℕ = length marks in
    let item : get_or (s.ids ++ ids) k 0 ≡ get_or s.ids k 0 = get_or-append s.ids ids 0 k (omega (arith, within)) in
    let partner : slice_get (s.partners ++ partners) k ≡ slice_get s.partners k = slice_before s.partners partners k (omega (arith, count, within)) in
    let seen : seen_here (longer s ids partners) marks left class after ≡ seen_here s marks left class after = rw (item, partner) refl in
    let next : (x : Seen) → left_next (s.partners ++ partners) s.first marks left x after ≡ left_next s.partners s.first marks left x after = λ x. rw partner refl in
    let x : Seen = seen_here s marks left class after in
    let more : List Mark = marks ++ mark_of left x ∷ [] in
    let room : length more + length after ≤ length s.ids = omega (arith, length-append marks (mark_of left x ∷ []), within) in
    ap (λ (y : Seen). walk_from (longer s ids partners) (marks ++ mark_of left y ∷ []) (left_next (s.partners ++ partners) s.first marks left y after) after) seen
    ∙ (ap (λ (l : Left). walk_from (longer s ids partners) more l after) (next x)
    ∙ walk_before s ids partners more (left_next s.partners s.first marks left x after) after count room)

pub walk_count : (s : Sight) (marks : List Mark) (left : Left) (classes : List TokenClass) → length (walk_from s marks left classes).marks ≡ length marks + length classes
walk_count s marks left [] = omega arith
walk_count s marks left (class ∷ after) =
    let seen = seen_here s marks left class after in
    let mark : Mark = mark_of left seen in
    walk_count s (marks ++ mark ∷ []) (left_next s.partners s.first marks left seen after) after ∙ omega (arith, length-append marks (mark ∷ []))

-- the last token that is no comment
last_step : (s : Sight) (marks : List Mark) (left : Left) (class : TokenClass) (after : List TokenClass) → is_nothing class ≡ false
    → class_behind s.before (left_next s.partners s.first marks left (seen_here s marks left class after) after) ≡ (if is_comment class then class_behind s.before left else class)
last_step s marks left class after named = by (cases_Bool (is_comment class))
  where
    seen : Seen
    seen = seen_here s marks left class after

    next : Left
    next = left_next s.partners s.first marks left seen after

    by : (is_comment class ≡ true) ⊎ (is_comment class ≡ false) → class_behind s.before next ≡ (if is_comment class then class_behind s.before left else class)
    by (inl comment) =
        behind_comment s.before left next (past_a_comment s.partners s.first marks left seen after comment) ∙ ap (λ (b : Bool). if b then class_behind s.before left else class) (sym comment)
    by (inr code) =
        behind_token s.before next seen (past_a_token s.partners s.first marks left seen after code) named ∙ ap (λ (b : Bool). if b then class_behind s.before left else class) (sym code)

pub walk_last : (s : Sight) (marks : List Mark) (left : Left) (ids more : List ℕ) → AreNamed s.arena (ids ++ more)
    → (class_behind s.before (walk_from s marks left (classes_of s.arena ids)).left ≡ last_code (class_behind s.before left) (classes_of s.arena ids)) × AreNamed s.arena more
walk_last s marks left [] more named = (refl, named)
walk_last s marks left (id ∷ ids) more named =
    let seen : Seen = seen_here s marks left (item_class s.arena id) (classes_of s.arena ids) in
    let rest = walk_last s (marks ++ mark_of left seen ∷ []) (left_next s.partners s.first marks left seen (classes_of s.arena ids)) ids more named.1 in
    (rest.0 ∙ ap (λ (c : TokenClass). last_code c (classes_of s.arena ids)) (last_step s marks left (item_class s.arena id) (classes_of s.arena ids) named.0), rest.1)

-- ## All lines

-- the last token that is no comment up to the end of these lines
abbrev pub before_after : Sights → List Mark → TokenClass → List ULine → TokenClass
before_after sights marks before [] = before
before_after sights marks before (line ∷ lines) =
    let sight = sight_of sights line before in
    let walk = walk_from sight marks at_start (row_of sights.classes line) in
    before_after sights walk.marks (class_behind before walk.left) lines

abbrev pub wider : Sights → List ℕ → List (Option ℕ) → List TokenClass → Sights
wider s ids partners classes = record { arena = s.arena; ids = s.ids ++ ids; partners = s.partners ++ partners; classes = s.classes ++ classes }

row_before : (classes more : List TokenClass) (first end : ℕ) → end ≤ length classes → first ≤ end → slice_range (classes ++ more) first end ≡ slice_range classes first end
row_before classes more first end within order =
    ap (take (end - first)) (drop-append-le first classes more (omega (arith, within, order)))
    ∙ take-append-le (end - first) (drop first classes) more (omega (arith, length-drop first classes, within, order))

pub marks_before : (s : Sights) (ids : List ℕ) (partners : List (Option ℕ)) (classes : List TokenClass) (marks : List Mark) (before : TokenClass) (lines more : List ULine) → length s.partners ≡ length s.ids → length s.classes ≡ length s.ids
    → CutPlaces (length marks) (length s.ids) lines
    → (marks_onto (wider s ids partners classes) marks before (lines ++ more) ≡ marks_onto (wider s ids partners classes) (marks_onto s marks before lines) (before_after s marks before lines) more)
    × (length (marks_onto s marks before lines) ≡ length s.ids)
marks_before s ids partners classes marks before [] more count named cut = (refl, cut)
marks_before s ids partners classes marks before (line ∷ lines) more count named cut =
    let all : Sights = wider s ids partners classes in
    let sight : Sight = sight_of s line before in
    let within : line.last + 1 ≤ length s.ids = cut_before (line.last + 1) (length s.ids) lines cut.1.1 in
    let row : List TokenClass = row_of s.classes line in
    let same_row : row_of (s.classes ++ classes) line ≡ row = row_before s.classes classes line.first (line.last + 1) (omega (arith, within, named)) (omega (arith, cut.1.0)) in
    let many : length row ≡ line.last + 1 - line.first = length-take-le (line.last + 1 - line.first) (drop line.first s.classes) (omega (arith, length-drop line.first s.classes, within, named, cut.1.0)) in
    let walk : Walk = walk_from sight marks at_start row in
    let same : walk_from (sight_of all line before) marks at_start row ≡ walk = walk_before sight ids partners marks at_start row count (omega (arith, many, within, cut.0, cut.1.0)) in
    let on : line.last + 1 ≡ length walk.marks = omega (arith, walk_count sight marks at_start row, many, cut.0, cut.1.0) in
    let rest = marks_before s ids partners classes walk.marks (class_behind before walk.left) lines more count named (subst (λ (at : ℕ). CutPlaces at (length s.ids) lines) on cut.1.1) in (
      ap (λ (r : List TokenClass). marks_onto all (walk_from (sight_of all line before) marks at_start r).marks (class_behind before (walk_from (sight_of all line before) marks at_start r).left) (lines ++ more)) same_row
          ∙ (ap (λ (w : Walk). marks_onto all w.marks (class_behind before w.left) (lines ++ more)) same ∙ rest.0),
      rest.1,
    )

last_on : (before : TokenClass) (xs ys : List TokenClass) → last_code before (xs ++ ys) ≡ last_code (last_code before xs) ys
last_on before [] ys = refl
last_on before (x ∷ xs) ys = last_on (if is_comment x then before else x) xs ys

range_of : (arena : Contents) (all past rest : List ℕ) (line : ULine) → all ≡ past ++ rest → line.first ≡ length past → row_of (classes_of arena all) line ≡ classes_of arena (take (line.last + 1 - line.first) rest)
range_of arena all past rest line are from =
    range_map (item_class arena) all line.first (line.last + 1) ∙ ap (map (item_class arena)) (row_here all past rest line.first (line.last + 1) are from)

-- it is that of the items
pub last_before : (arena : Contents) (ids : List ℕ) (partners : List (Option ℕ)) (marks : List Mark) (before : TokenClass) (lines : List ULine) (past rest : List ℕ) → ids ≡ past ++ rest → length marks ≡ length past
    → CutPlaces (length past) (length ids) lines → AreNamed arena rest
    → before_after (record { arena = arena; ids = ids; partners = partners; classes = classes_of arena ids }) marks before lines ≡ last_code before (classes_of arena rest)
last_before arena ids partners marks before [] past [] are count cut named = refl
last_before arena ids partners marks before [] past (id ∷ rest) are count cut named = absurd (omega (arith, ap length are, length-append past (id ∷ rest), cut))
last_before arena ids partners marks before (line ∷ lines) past rest are count cut named =
    let s : Sights = record { arena = arena; ids = ids; partners = partners; classes = classes_of arena ids } in
    let sight : Sight = sight_of s line before in
    let many : ℕ = line.last + 1 - line.first in
    let row : List ℕ = take many rest in
    let more : List ℕ = drop many rest in
    let split : row ++ more ≡ rest = take-append-drop many rest in
    let same_row : row_of (classes_of arena ids) line ≡ classes_of arena row = range_of arena ids past rest line are cut.0 in
    let walk : Walk = walk_from sight marks at_start (classes_of arena row) in
    let told = walk_last sight marks at_start row more (subst (AreNamed arena) (sym split) named) in
    let all : ids ≡ (past ++ row) ++ more = are ∙ (ap (λ (xs : List ℕ). past ++ xs) (sym split) ∙ sym (append_assoc past row more)) in
    let within : line.last + 1 ≤ length ids = cut_before (line.last + 1) (length ids) lines cut.1.1 in
    let taken : length row ≡ many = length-take-le many rest (omega (arith, ap length are, length-append past rest, within, cut.0, cut.1.0)) in
    let on : line.last + 1 ≡ length (past ++ row) = omega (arith, length-append past row, taken, cut.0, cut.1.0) in
    let told_many : length walk.marks ≡ length (past ++ row) = omega (arith, walk_count sight marks at_start (classes_of arena row), length-map row (item_class arena), length-append past row, count) in
    let rest_is = last_before arena ids partners walk.marks (class_behind before walk.left) lines (past ++ row) more all told_many (subst (λ (at : ℕ). CutPlaces at (length ids) lines) on cut.1.1) told.1 in
    ap (λ (r : List TokenClass). before_after s (walk_from sight marks at_start r).marks (class_behind before (walk_from sight marks at_start r).left) lines) same_row
    ∙ (rest_is
    ∙ (ap (λ (c : TokenClass). last_code c (classes_of arena more)) told.0
    ∙ (sym (last_on before (classes_of arena row) (classes_of arena more))
    ∙ (ap (last_code before) (sym (map-append (item_class arena) row more)) ∙ ap (λ (xs : List ℕ). last_code before (classes_of arena xs)) split))))
