-- The last token of a first part: it tells nothing of what follows, and it is no inner comment.
use Rattle.std.proofs.Common.{◌≡◌, ◌∙◌, ℕ, zero, suc, ◌+◌, ◌-◌, ◌<◌, ◌≤◌, Bool, true, false, Option, Some, None, List, [], ◌∷◌, ◌++◌, length, drop, refl, ap, arith}
use Rattle.std.specs.Prelude.{if◌then◌else◌}
use Rattle.std.proofs.lemmas.List.{take_all, length-drop}
use Rattle.line_tokens.specs.declared.line.ULine.{ULine}
use Rattle.line_tokens.specs.declared.role.Role.{Role}
use Rattle.line_tokens.specs.declared.role.Role.TheVariants.{CtrlOpen, CallOpen, CastOpen, DeclOpen, GroupOpen, IndexOpen, DesigOpen, ListOpen}
use Rattle.line_tokens.specs.Lines.{CutPlaces}
use Rattle.token_classes.specs.declared.class.TokenClass.{TokenClass}
use Rattle.token_classes.specs.declared.class.TokenClass.TheVariants.{Nothing, CloseBrace, Semicolon}
use Rattle.token_classes.specs.Classes.{is_comment, is_before_list, is_close_round}
use Rattle.token_roles.specs.declared.left.Left.{Left}
use Rattle.token_roles.specs.declared.left.Seen.{Seen}
use Rattle.token_roles.specs.declared.mark.Mark.{Mark}
use Rattle.token_roles.specs.Held.{is_inner}
use Rattle.token_roles.specs.Left.{at_start}
use Rattle.token_roles.specs.Marks.{close_of, closed_role, partner_at, mark_at, left_next, mark_of}
use Rattle.annotator.specs.Line.{Sight, Walk, seen_here, walk_from, before_next}
use Rattle.annotator.specs.View.{Sights, sight_of, row_of, marks_onto}
use Rattle.annotator.proofs.Cuts.{cut_before}
use Rattle.part_laws.proofs.FirstPart.{closes_part, last_of}
use Rattle.part_laws.specs.RolesCut.{last_code}
use Rattle.part_laws.proofs.Toks.{last_inner}

-- ## The last token that is no comment

code_closes : (class code : TokenClass) → closes_part class ≡ true → closes_part (if is_comment class then code else class) ≡ true
code_closes Semicolon code closes = refl
code_closes CloseBrace code closes = refl
code_closes _ code closes = cc

last_closes : (last code : TokenClass) (classes : List TokenClass) → (closes_part last ≡ true → closes_part code ≡ true) → closes_part (last_of last classes) ≡ true → closes_part (last_code code classes) ≡ true
last_closes last code [] same closes = same closes
last_closes last code (class ∷ classes) same closes = last_closes class (if is_comment class then code else class) classes (code_closes class code) closes

-- it is the last one of the items
pub code_is_last : (classes : List TokenClass) → closes_part (last_of Nothing classes) ≡ true → closes_part (last_code Nothing classes) ≡ true
code_is_last classes closes = last_closes Nothing Nothing classes (λ e. e) closes

-- it tells nothing of a `{` behind it
pub opens_no_list : (class : TokenClass) → closes_part class ≡ true → is_before_list class ≡ false
opens_no_list Semicolon closes = refl
opens_no_list CloseBrace closes = refl
opens_no_list _ closes = cc

pub is_no_round : (class : TokenClass) → closes_part class ≡ true → is_close_round class ≡ false
is_no_round Semicolon closes = refl
is_no_round CloseBrace closes = refl
is_no_round _ closes = cc

-- ## Its role

close_is_no_comment : (role : Role) → is_inner (close_of role) ≡ false
close_is_no_comment CtrlOpen = refl
close_is_no_comment CallOpen = refl
close_is_no_comment CastOpen = refl
close_is_no_comment DeclOpen = refl
close_is_no_comment GroupOpen = refl
close_is_no_comment IndexOpen = refl
close_is_no_comment DesigOpen = refl
close_is_no_comment ListOpen = refl
close_is_no_comment _ = refl

closed_is_no_comment : (mark : Option Mark) → is_inner (closed_role CloseBrace mark) ≡ false
closed_is_no_comment None = refl
closed_is_no_comment (Some mark) = close_is_no_comment mark.seen.role

role_is_no_comment : (sight : Sight) (marks : List Mark) (left : Left) (class : TokenClass) (after : List TokenClass) → closes_part class ≡ true → is_inner (seen_here sight marks left class after).role ≡ false
role_is_no_comment sight marks left Semicolon after closes = refl
role_is_no_comment sight marks left CloseBrace after closes = closed_is_no_comment (mark_at marks (partner_at sight.partners (length marks)))
role_is_no_comment sight marks left _ after closes = cc

last_of_more : (before : Bool) (marks : List Mark) (mark : Mark) → last_inner before (marks ++ mark ∷ []) ≡ is_inner mark.seen.role
last_of_more before [] mark = refl
last_of_more before (first ∷ marks) mark = last_of_more (is_inner first.seen.role) marks mark

-- ## The last mark

walk_ends : (before : Bool) (sight : Sight) (marks : List Mark) (left : Left) (class : TokenClass) (classes : List TokenClass) → closes_part (last_of class classes) ≡ true → last_inner before (walk_from sight marks left (class ∷ classes)).marks ≡ false
walk_ends before sight marks left class [] closes =
    let seen : Seen = seen_here sight marks left class [] in
    last_of_more before marks (mark_of left seen) ∙ role_is_no_comment sight marks left class [] closes
walk_ends before sight marks left class (next ∷ classes) closes =
    let seen : Seen = seen_here sight marks left class (next ∷ classes) in
    walk_ends before sight (marks ++ mark_of left seen ∷ []) (left_next sight.partners sight.first marks left seen (next ∷ classes)) next classes closes

row_ends : (before : Bool) (sight : Sight) (marks : List Mark) (classes : List TokenClass) → closes_part (last_of Nothing classes) ≡ true → last_inner before (walk_from sight marks at_start classes).marks ≡ false
row_ends before sight marks [] closes = cc
row_ends before sight marks (class ∷ classes) closes = walk_ends before sight marks at_start class classes closes

last_of_rest : (before : TokenClass) (classes : List TokenClass) (count : ℕ) → count < length classes → last_of before (drop count classes) ≡ last_of before classes
last_of_rest before [] count within = absurd (omega (arith, within))
last_of_rest before (class ∷ classes) zero within = refl
last_of_rest before (class ∷ []) (suc count) within = absurd (omega (arith, within))
last_of_rest before (class ∷ next ∷ classes) (suc count) within = last_of_rest before (next ∷ classes) count (omega (arith, within))

-- it is that of the last item
pub marks_end : (before : Bool) (sights : Sights) (marks : List Mark) (last : TokenClass) (lines : List ULine) (at : ℕ) → CutPlaces at (length sights.classes) lines → at < length sights.classes
    → closes_part (last_of Nothing sights.classes) ≡ true → last_inner before (marks_onto sights marks last lines) ≡ false
marks_end before sights marks last [] at cut some closes = absurd (omega (arith, cut, some))
marks_end before sights marks last (line ∷ []) at cut some closes =
    let rest : List TokenClass = drop line.first sights.classes in
    let many : length rest ≤ line.last + 1 - line.first = omega (arith, length-drop line.first sights.classes, cut.1.1) in
    let row : row_of sights.classes line ≡ rest = take_all (line.last + 1 - line.first) rest many in
    let within : line.first < length sights.classes = omega (arith, cut.0, some) in
    row_ends before (sight_of sights line last) marks (row_of sights.classes line)
    (ap (λ (cs : List TokenClass). closes_part (last_of Nothing cs)) row ∙ (ap closes_part (last_of_rest Nothing sights.classes line.first within) ∙ closes))
marks_end before sights marks last (line ∷ next ∷ lines) at cut some closes =
    let sight : Sight = sight_of sights line last in
    let walk : Walk = walk_from sight marks at_start (row_of sights.classes line) in
    let below : next.last + 1 ≤ length sights.classes = cut_before (next.last + 1) (length sights.classes) lines cut.1.1.1.1 in
    let later : line.last + 1 < length sights.classes = omega (arith, below, cut.1.1.0, cut.1.1.1.0) in
    marks_end before sights walk.marks (before_next sight walk) (next ∷ lines) (line.last + 1) cut.1.1 later closes
