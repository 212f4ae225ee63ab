-- The marks of the second part, in the view of both: those of the part by itself.
use Rattle.std.proofs.Common.{◌≡◌, ◌∙◌, ℕ, ◌+◌, ◌-◌, ◌≤◌, Bool, true, false, not, ◌&&◌, Option, List, [], ◌∷◌, ◌++◌}
use Rattle.std.proofs.Common.{length, map, get_or, take, drop, append_assoc, length-append, refl, sym, ap, subst, arith}
use Rattle.std.proofs.Common.{inl, inr, ◌⊎◌}
use Rattle.std.specs.Prelude.{slice_range, if◌then◌else◌}
use Rattle.std.proofs.lemmas.Bool.{cases_Bool}
use Rattle.std.proofs.lemmas.List.{take-append-drop, get_or-append-add, append-nil, length-take-le}
use Rattle.std.proofs.Math.Seq.{get_or-append_seam}
use Rattle.line_tokens.specs.declared.line.ULine.{ULine}
use Rattle.line_tokens.specs.declared.line.LineKind.{LineKind}
use Rattle.line_tokens.specs.declared.role.Role.{Role}
use Rattle.line_tokens.specs.Roles.{is_list_open}
use Rattle.line_tokens.specs.Lines.{CutPlaces}
use Rattle.token_arena.specs.Gaps.{Contents}
use Rattle.token_classes.specs.declared.class.TokenClass.{TokenClass}
use Rattle.token_classes.specs.Classes.{is_comment, is_opener}
use Rattle.item_classes.specs.Viewed.{item_class, classes_of}
use Rattle.annotator.specs.Line.{Sight, Walk, comment_role, code_role, seen_here, walk_from}
use Rattle.token_roles.specs.declared.left.Around.{Around}
use Rattle.token_roles.specs.declared.left.Left.{Left}
use Rattle.token_roles.specs.declared.left.Seen.{Seen}
use Rattle.token_roles.specs.declared.mark.Mark.{Mark}
use Rattle.token_roles.specs.Classes.{is_nothing, is_closer}
use Rattle.token_roles.specs.Left.{at_start, inside, counted, splits_behind, passed}
use Rattle.token_roles.specs.RoleTable.{class_behind, role_of}
use Rattle.token_roles.specs.Marks.{closed_role, partner_at, mark_at, ends_in_comma, taken_back, past_comment}
use Rattle.token_roles.specs.Marks.{left_next, mark_of}
use Rattle.annotator.specs.View.{Sights, row_of, marks_onto}
use Rattle.part_laws.specs.LinesCut.{partner_behind, line_behind}
use Rattle.annotator.proofs.Cuts.{cut_before}
use Rattle.part_laws.proofs.RolePlaces.{partner_there, mark_there, comma_there, around_there, row_there, row_here}
use Rattle.part_laws.proofs.RolePlaces.{range_map}
use Rattle.part_laws.proofs.Named.{AreNamed}
use Rattle.part_laws.proofs.Alike.{AreAlike, lists_alike, comments_alike, roles_alike, next_alike}

-- a line of the second part, as the view and the part tell it
pub record Sides : Type 0 where
  pub arena : Contents
  -- the items of both parts, with their partners
  pub earlier : List ℕ
  pub later : List ℕ
  pub early_partners : List (Option ℕ)
  pub late_partners : List (Option ℕ)
  pub kind : LineKind
  pub first : ℕ
  -- the last token before the line that is no comment, in the view and in the part
  pub joint : TokenClass
  pub part : TokenClass

abbrev pub there : Sides → Sight
there s = record {
  arena = s.arena;
  ids = s.earlier ++ s.later;
  partners = s.early_partners ++ map (partner_behind (length s.earlier)) s.late_partners;
  kind = s.kind;
  first = length s.earlier + s.first;
  before = s.joint;
}

abbrev pub here : Sides → Sight
here s = record { arena = s.arena; ids = s.later; partners = s.late_partners; kind = s.kind; first = s.first; before = s.part }

-- marks are told of so many places, and the items of the second part from there on are these
pub record StandAt (s : Sides) (early marks : List Mark) (past ids : List ℕ) : Type 0 where
  pub partners : length s.early_partners ≡ length s.earlier
  pub start : length early ≡ length s.earlier
  pub count : length marks ≡ length past
  pub are : s.later ≡ past ++ ids

-- ## One token

seen_comment : (sight : Sight) (marks : List Mark) (left : Left) (class : TokenClass) (after : List TokenClass) → is_comment class ≡ true
    → seen_here sight marks left class after ≡ record { class = class; role = comment_role sight.arena (get_or sight.ids (length marks) 0) (not (is_nothing (class_behind sight.before left))) class }
seen_comment sight marks left class after comment = ap (λ (b : Bool). record { class = class; role = if b then comment_role sight.arena (get_or sight.ids (length marks) 0) (not (is_nothing (class_behind sight.before left))) class else code_role sight marks left class after }) comment

seen_code : (sight : Sight) (marks : List Mark) (left : Left) (class : TokenClass) (after : List TokenClass) → is_comment class ≡ false
    → seen_here sight marks left class after ≡ record { class = class; role = code_role sight marks left class after }
seen_code sight marks left class after code = ap (λ (b : Bool). record { class = class; role = if b then comment_role sight.arena (get_or sight.ids (length marks) 0) (not (is_nothing (class_behind sight.before left))) class else code_role sight marks left class after }) code

many_there : (s : Sides) (early marks : List Mark) (past ids : List ℕ) → StandAt s early marks past ids → length (early ++ marks) ≡ length s.earlier + length marks
many_there s early marks past ids at = length-append early marks ∙ ap (λ n. n + length marks) at.start

item_here : (s : Sides) (early marks : List Mark) (past : List ℕ) (id : ℕ) (ids : List ℕ) → StandAt s early marks past (id ∷ ids) → get_or s.later (length marks) 0 ≡ id
item_here s early marks past id ids at =
    ap (λ k. get_or s.later k 0) at.count ∙ (ap (λ (xs : List ℕ). get_or xs (length past) 0) at.are ∙ get_or-append_seam past id ids 0)

item_there : (s : Sides) (early marks : List Mark) (past : List ℕ) (id : ℕ) (ids : List ℕ) → StandAt s early marks past (id ∷ ids) → get_or (s.earlier ++ s.later) (length (early ++ marks)) 0 ≡ id
item_there s early marks past id ids at =
    ap (λ k. get_or (s.earlier ++ s.later) k 0) (many_there s early marks past (id ∷ ids) at)
    ∙ (get_or-append-add s.earlier s.later (length marks) 0 ∙ item_here s early marks past id ids at)

partner_same : (s : Sides) (early marks : List Mark) (past ids : List ℕ) → StandAt s early marks past ids
    → partner_at (there s).partners (length (early ++ marks)) ≡ partner_behind (length s.earlier) (partner_at s.late_partners (length marks))
partner_same s early marks past ids at =
    ap (partner_at (there s).partners) (many_there s early marks past ids at) ∙ partner_there s.early_partners s.late_partners (length s.earlier) (length marks) at.partners

-- the role of a token that is no comment, at this place, with this partner of which this is told
abbrev pub role_with : TokenClass → LineKind → TokenClass → Left → List TokenClass → ℕ → Option ℕ → Option Mark → Role
role_with class kind before left after place partner mark = if is_closer class then closed_role class mark else role_of class kind before left place partner after

code_same : (s : Sides) (early marks : List Mark) (left : Left) (past : List ℕ) (id : ℕ) (ids : List ℕ) (class : TokenClass) (after : List TokenClass) → StandAt s early marks past (id ∷ ids)
    → AreAlike s.arena (class_behind s.joint left) (class_behind s.part left) (id ∷ ids)
    → code_role (there s) (early ++ marks) left class after ≡ code_role (here s) marks left class after
code_same s early marks left past id ids class after at alike =
    let n : ℕ = length s.earlier in
    let k : ℕ = length marks in
    let old : Option ℕ = partner_at s.late_partners k in
    let partner : partner_at (there s).partners (length (early ++ marks)) ≡ partner_behind n old = partner_same s early marks past (id ∷ ids) at in
    let mark : mark_at (early ++ marks) (partner_behind n old) ≡ mark_at marks old = mark_there early marks n old at.start in
    ap (λ (p : Option ℕ). role_with class s.kind s.joint left after (length (early ++ marks)) p (mark_at (early ++ marks) p)) partner
    ∙ (ap (λ (j : ℕ). role_with class s.kind s.joint left after j (partner_behind n old) (mark_at (early ++ marks) (partner_behind n old))) (many_there s early marks past (id ∷ ids) at)
    ∙ (ap (λ (m : Option Mark). role_with class s.kind s.joint left after (n + k) (partner_behind n old) m) mark
    ∙ ap (λ (r : Role). if is_closer class then closed_role class (mark_at marks old) else r)
    (roles_alike class s.kind s.joint s.part left n k old after (lists_alike s.arena (class_behind s.joint left) (class_behind s.part left) (id ∷ ids) left.around alike))))

seen_same : (s : Sides) (early marks : List Mark) (left : Left) (past : List ℕ) (id : ℕ) (ids : List ℕ) (after : List TokenClass) → StandAt s early marks past (id ∷ ids)
    → AreAlike s.arena (class_behind s.joint left) (class_behind s.part left) (id ∷ ids)
    → seen_here (there s) (early ++ marks) left (item_class s.arena id) after ≡ seen_here (here s) marks left (item_class s.arena id) after
seen_same s early marks left past id ids after at alike = by (cases_Bool (is_comment (item_class s.arena id)))
  where
    telling : Role → Seen
    telling r = record { class = item_class s.arena id; role = r }

    by : (is_comment (item_class s.arena id) ≡ true) ⊎ (is_comment (item_class s.arena id) ≡ false)
        → seen_here (there s) (early ++ marks) left (item_class s.arena id) after ≡ seen_here (here s) marks left (item_class s.arena id) after
    by (inl comment) =
        let started : Bool = not (is_nothing (class_behind s.joint left)) in
        let begun : Bool = not (is_nothing (class_behind s.part left)) in
        let role : comment_role s.arena (get_or (s.earlier ++ s.later) (length (early ++ marks)) 0) started (item_class s.arena id) ≡ comment_role s.arena (get_or s.later (length marks) 0) begun (item_class s.arena id) =
        ap (λ (i : ℕ). comment_role s.arena i started (item_class s.arena id)) (item_there s early marks past id ids at)
        ∙ (comments_alike s.arena (class_behind s.joint left) (class_behind s.part left) id ids comment alike
        ∙ ap (λ (i : ℕ). comment_role s.arena i begun (item_class s.arena id)) (sym (item_here s early marks past id ids at))) in
        seen_comment (there s) (early ++ marks) left (item_class s.arena id) after comment
        ∙ (ap telling role ∙ sym (seen_comment (here s) marks left (item_class s.arena id) after comment))
    by (inr code) =
        seen_code (there s) (early ++ marks) left (item_class s.arena id) after code
        ∙ (ap telling (code_same s early marks left past id ids (item_class s.arena id) after at alike) ∙ sym (seen_code (here s) marks left (item_class s.arena id) after code))

-- to the left of the next token, where the group that this one opens ends in a comma or doesn't, and this stands behind the one that it closes
abbrev pub next_with : Left → Seen → Bool → Around → Left
next_with left seen comma around =
    if is_comment seen.class then past_comment left seen.role
    else (if is_opener seen.class then (let last_comma = is_list_open seen.role && comma in passed left seen (inside left seen last_comma) last_comma)
    else (if is_closer seen.class then passed left seen around false
    else passed left seen (counted left.around seen.class) (splits_behind left seen)))

next_same : (s : Sides) (early marks : List Mark) (left : Left) (seen : Seen) (past ids : List ℕ) (after : List TokenClass) → StandAt s early marks past ids
    → left_next (there s).partners (there s).first (early ++ marks) left seen after ≡ left_next s.late_partners s.first marks left seen after
next_same s early marks left seen past ids after at =
    let n : ℕ = length s.earlier in
    let k : ℕ = length marks in
    let old : Option ℕ = partner_at s.late_partners k in
    let comma : (ends_in_comma (length (early ++ marks)) (partner_at (there s).partners (length (early ++ marks))) after) ≡ ends_in_comma k old after =
    ap (λ (p : Option ℕ). ends_in_comma (length (early ++ marks)) p after) (partner_same s early marks past ids at)
    ∙ (ap (λ (j : ℕ). ends_in_comma j (partner_behind n old) after) (many_there s early marks past ids at) ∙ comma_there n k old after) in
    let around : taken_back (n + s.first) (partner_at (there s).partners (length (early ++ marks))) (mark_at (early ++ marks) (partner_at (there s).partners (length (early ++ marks)))) left.around
    ≡ taken_back s.first old (mark_at marks old) left.around =
    ap (λ (p : Option ℕ). taken_back (n + s.first) p (mark_at (early ++ marks) p) left.around) (partner_same s early marks past ids at)
    ∙ (ap (λ (m : Option Mark). taken_back (n + s.first) (partner_behind n old) m left.around) (mark_there early marks n old at.start) ∙ around_there n s.first old (mark_at marks old) left.around) in
    ap (λ (b : Bool). next_with left seen b (taken_back (n + s.first) (partner_at (there s).partners (length (early ++ marks))) (mark_at (early ++ marks) (partner_at (there s).partners (length (early ++ marks)))) left.around)) comma
    ∙ ap (λ (a : Around). next_with left seen (ends_in_comma k old after) a) around

-- ## One line

-- both walks tell the same of a line
pub record GoAlike (s : Sides) (early : List Mark) (joint part : Walk) (past more : List ℕ) : Type 0 where
  pub marks : joint.marks ≡ early ++ part.marks
  pub left : joint.left ≡ part.left
  pub alike : AreAlike s.arena (class_behind s.joint part.left) (class_behind s.part part.left) more
  pub count : length part.marks ≡ length past
  pub named : AreNamed s.arena more

stand_on : (s : Sides) (early marks : List Mark) (past : List ℕ) (id : ℕ) (ids : List ℕ) (mark : Mark) → StandAt s early marks past (id ∷ ids) → StandAt s early (marks ++ mark ∷ []) (past ++ id ∷ []) ids
stand_on s early marks past id ids mark at = record {
  partners = at.partners;
  start = at.start;
  count = length-append marks (mark ∷ []) ∙ (ap (λ n. n + 1) at.count ∙ sym (length-append past (id ∷ [])));
  are = at.are ∙ sym (append_assoc past (id ∷ []) ids);
}

pub walks_alike : (s : Sides) (early marks : List Mark) (left : Left) (past ids more : List ℕ) → StandAt s early marks past (ids ++ more) → AreNamed s.arena (ids ++ more)
    → AreAlike s.arena (class_behind s.joint left) (class_behind s.part left) (ids ++ more)
    → GoAlike s early (walk_from (there s) (early ++ marks) left (classes_of s.arena ids)) (walk_from (here s) marks left (classes_of s.arena ids)) (past ++ ids) more
walks_alike s early marks left past [] more at named alike =
    record { marks = refl; left = refl; alike = alike; count = at.count ∙ ap length (sym (append-nil past)); named = named }
walks_alike s early marks left past (id ∷ ids) more at named alike =
    let seen : Seen = seen_here (here s) marks left (item_class s.arena id) (classes_of s.arena ids) in
    let mark : Mark = mark_of left seen in
    let next : Left = left_next s.late_partners s.first marks left seen (classes_of s.arena ids) in
    let go : (walk_from (there s) (early ++ marks) left (item_class s.arena id ∷ classes_of s.arena ids)) ≡ walk_from (there s) (early ++ (marks ++ mark ∷ [])) next (classes_of s.arena ids) =
    ap (λ (x : Seen). walk_from (there s) ((early ++ marks) ++ mark_of left x ∷ []) (left_next (there s).partners (there s).first (early ++ marks) left x (classes_of s.arena ids)) (classes_of s.arena ids))
    (seen_same s early marks left past id (ids ++ more) (classes_of s.arena ids) at alike)
    ∙ (ap (λ (l : Left). walk_from (there s) ((early ++ marks) ++ mark ∷ []) l (classes_of s.arena ids)) (next_same s early marks left seen past (id ∷ (ids ++ more)) (classes_of s.arena ids) at)
    ∙ ap (λ (ms : List Mark). walk_from (there s) ms next (classes_of s.arena ids)) (append_assoc early marks (mark ∷ []))) in
    let rest = walks_alike s early (marks ++ mark ∷ []) next (past ++ id ∷ []) ids more (stand_on s early marks past id (ids ++ more) mark at) named.1
    (next_alike s.arena s.joint s.part s.late_partners s.first marks left seen (classes_of s.arena ids) id (ids ++ more) refl named.0 alike) in
    record {
      marks = ap (λ (w : Walk). w.marks) go ∙ rest.marks;
      left = ap (λ (w : Walk). w.left) go ∙ rest.left;
      alike = rest.alike;
      count = rest.count ∙ ap length (append_assoc past (id ∷ []) ids);
      named = rest.named;
    }

-- ## All lines

pub marks_alike : (arena : Contents) (earlier later : List ℕ) (early_partners late_partners : List (Option ℕ)) (early marks : List Mark) (joint part : TokenClass) (lines : List ULine) (past rest : List ℕ)
    → length early_partners ≡ length earlier → length early ≡ length earlier → length marks ≡ length past → later ≡ past ++ rest
    → CutPlaces (length past) (length later) lines → AreNamed arena rest → AreAlike arena joint part rest
    → marks_onto (record { arena = arena; ids = earlier ++ later; partners = early_partners ++ map (partner_behind (length earlier)) late_partners; classes = classes_of arena (earlier ++ later) }) (early ++ marks) joint (map (line_behind (length earlier)) lines)
    ≡ early ++ marks_onto (record { arena = arena; ids = later; partners = late_partners; classes = classes_of arena later }) marks part lines
marks_alike arena earlier later early_partners late_partners early marks joint part [] past rest partners start count are cut named alike = refl
marks_alike arena earlier later early_partners late_partners early marks joint part (line ∷ lines) past rest partners start count are cut named alike =
    let n : ℕ = length earlier in
    let s : Sides = record { arena = arena; earlier = earlier; later = later; early_partners = early_partners; late_partners = late_partners; kind = line.kind; first = line.first; joint = joint; part = part } in
    let both : Sights = record { arena = arena; ids = earlier ++ later; partners = early_partners ++ map (partner_behind n) late_partners; classes = classes_of arena (earlier ++ later) } in
    let one : Sights = record { arena = arena; ids = later; partners = late_partners; classes = classes_of arena later } in
    let many : ℕ = line.last + 1 - line.first in
    let row : List ℕ = take many rest in
    let more : List ℕ = drop many rest in
    let split : row ++ more ≡ rest = take-append-drop many rest in
    let last : n + line.last + 1 ≡ n + (line.last + 1) = omega arith in
    let row_whole : row_of (classes_of arena (earlier ++ later)) (line_behind n line) ≡ classes_of arena row =
    range_map (item_class arena) (earlier ++ later) (n + line.first) (n + line.last + 1)
    ∙ ap (map (item_class arena)) (ap (slice_range (earlier ++ later) (n + line.first)) last ∙ row_there earlier later past rest line.first (line.last + 1) are cut.0) in
    let row_part : row_of (classes_of arena later) line ≡ classes_of arena row =
    range_map (item_class arena) later line.first (line.last + 1) ∙ ap (map (item_class arena)) (row_here later past rest line.first (line.last + 1) are cut.0) in
    let at : StandAt s early marks past (row ++ more) = record { partners = partners; start = start; count = count; are = are ∙ ap (λ (xs : List ℕ). past ++ xs) (sym split) } in
    let go = walks_alike s early marks at_start past row more at (subst (AreNamed arena) (sym split) named) (subst (AreAlike arena joint part) (sym split) alike) in
    let walk : Walk = walk_from (here s) marks at_start (classes_of arena row) in
    let all : later ≡ (past ++ row) ++ more = at.are ∙ sym (append_assoc past row more) in
    let there_at : line.last + 1 ≡ length (past ++ row) = row_end line.first line.last past rest later are cut.0 cut.1.0 (cut_before (line.last + 1) (length later) lines cut.1.1) in
    let rest_same = marks_alike arena earlier later early_partners late_partners early walk.marks (class_behind joint walk.left) (class_behind part walk.left) lines (past ++ row) more partners start go.count all
    (subst (λ (at : ℕ). CutPlaces at (length later) lines) there_at cut.1.1) go.named go.alike in
    ap (λ (xs : List TokenClass). marks_onto both (walk_from (there s) (early ++ marks) at_start xs).marks (class_behind joint (walk_from (there s) (early ++ marks) at_start xs).left) (map (line_behind n) lines)) row_whole
    ∙ (ap (λ (ms : List Mark). marks_onto both ms (class_behind joint (walk_from (there s) (early ++ marks) at_start (classes_of arena row)).left) (map (line_behind n) lines)) go.marks
    ∙ (ap (λ (l : Left). marks_onto both (early ++ walk.marks) (class_behind joint l) (map (line_behind n) lines)) go.left
    ∙ (rest_same
    ∙ ap (λ (xs : List TokenClass). early ++ marks_onto one (walk_from (here s) marks at_start xs).marks (class_behind part (walk_from (here s) marks at_start xs).left) lines) (sym row_part))))
  where
    row_end : (first last : ℕ) (past rest later : List ℕ) → later ≡ past ++ rest → first ≡ length past → first ≤ last → last + 1 ≤ length later → last + 1 ≡ length (past ++ take (last + 1 - first) rest)
    row_end first last past rest later are from some within =
        let joint : length later ≡ length past + length rest = ap length are ∙ length-append past rest in
        let taken : length (take (last + 1 - first) rest) ≡ last + 1 - first = length-take-le (last + 1 - first) rest (omega (arith, joint, from, some, within)) in
        omega (arith, length-append past (take (last + 1 - first) rest), taken, from, some)
