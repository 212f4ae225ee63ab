-- What a token before the cut tells of the tokens behind it: no more than none would.
use Rattle.std.proofs.Common.{◌≡◌, ◌∙◌, ℕ, ◌+◌, ◌-◌, Bool, true, false, not, ◌&&◌, ◌||◌, Option, Some, None, List, []}
use Rattle.std.proofs.Common.{◌∷◌, length, refl, sym, ap, subst, arith, inl, inr, ◌⊎◌}
use Rattle.std.specs.Prelude.{if◌then◌else◌}
use Rattle.std.proofs.lemmas.Bool.{and_parts, cases_Bool}
use Rattle.line_tokens.specs.declared.line.LineKind.{LineKind}
use Rattle.line_tokens.specs.declared.role.Role.{Role}
use Rattle.line_tokens.specs.declared.role.Role.TheVariants.{CtrlOpen, CallOpen, CastOpen, DeclOpen, GroupOpen}
use Rattle.line_tokens.specs.declared.role.Role.TheVariants.{ListOpen, BlockOpen}
use Rattle.line_tokens.specs.Roles.{is_trailing, is_decl_name, is_ctrl_close}
use Rattle.line_tokens.specs.Table.{first_row}
use Rattle.token_arena.specs.Gaps.{Contents, item_began}
use Rattle.token_classes.specs.declared.class.TokenClass.{TokenClass}
use Rattle.token_classes.specs.declared.class.TokenClass.TheVariants.{Nothing, OpenRound, OpenBrace}
use Rattle.token_classes.specs.Classes.{is_comment, is_close_round, is_before_list, is_opener, is_call_word, is_plain}
use Rattle.token_classes.specs.Classes.{is_text}
use Rattle.token_roles.specs.declared.left.Around.{Around}
use Rattle.token_roles.specs.declared.left.Left.{Left}
use Rattle.token_roles.specs.declared.left.Seen.{Seen}
use Rattle.token_roles.specs.declared.mark.Mark.{Mark}
use Rattle.token_roles.specs.Classes.{is_nothing, is_closer, is_header_word, is_close_square}
use Rattle.token_roles.specs.Left.{passed, counted, splits_behind}
use Rattle.token_roles.specs.RoleTable.{class_behind, opens_list, role_of, is_value_close, is_cast_group}
use Rattle.token_roles.specs.Marks.{left_next, past_opener, partner_at, mark_at, taken_back}
use Rattle.item_classes.specs.Viewed.{item_class}
use Rattle.item_classes.specs.declared.part.Part.TheVariants.{Own}
use Rattle.item_classes.specs.Part.{part_of}
use Rattle.annotator.specs.Line.{comment_role, role_of_part}
use Rattle.part_laws.specs.LinesCut.{partner_behind}
use Rattle.part_laws.specs.RolesCut.{comments_begin}

-- no token stands before in the part, and the one before in the view tells nothing of these items
pub record IsQuiet (arena : Contents) (shared part : TokenClass) (ids : List ℕ) : Type 0 where
  pub none : part ≡ Nothing
  pub list : is_before_list shared ≡ false
  pub closes : is_close_round shared ≡ false
  pub comments : comments_begin arena ids ≡ true

-- the tokens before tell the same of these items
abbrev pub AreAlike : Contents → TokenClass → TokenClass → List ℕ → Type 0
AreAlike arena shared part ids = (shared ≡ part) ⊎ IsQuiet arena shared part ids

-- ## Roles

pub lists_alike : (arena : Contents) (shared part : TokenClass) (ids : List ℕ) (around : Around) → AreAlike arena shared part ids → opens_list shared around ≡ opens_list part around
lists_alike arena shared part ids around (inl same) = ap (λ (c : TokenClass). opens_list c around) same
lists_alike arena shared part ids around (inr quiet) = rw (quiet.none, quiet.list, quiet.closes) refl

own_part : (arena : Contents) (id : ℕ) (started : Bool) (class : TokenClass) → is_comment class ≡ true → item_began arena id ≡ true → part_of arena id started class ≡ Own
own_part arena id true class comment began = rw (comment, began) refl
own_part arena id false class comment began = rw comment refl

first_began : (arena : Contents) (id : ℕ) (ids : List ℕ) → is_comment (item_class arena id) ≡ true → comments_begin arena (id ∷ ids) ≡ true → (item_began arena id ≡ true) × (comments_begin arena ids ≡ true)
first_began arena id ids comment begin =
    and_parts (item_began arena id) (comments_begin arena ids) (subst (λ (b : Bool). (not b || (item_began arena id && comments_begin arena ids)) ≡ true) comment begin)

pub comments_alike : (arena : Contents) (shared part : TokenClass) (id : ℕ) (ids : List ℕ) → is_comment (item_class arena id) ≡ true → AreAlike arena shared part (id ∷ ids)
    → comment_role arena id (not (is_nothing shared)) (item_class arena id) ≡ comment_role arena id (not (is_nothing part)) (item_class arena id)
comments_alike arena shared part id ids comment (inl same) = ap (λ (c : TokenClass). comment_role arena id (not (is_nothing c)) (item_class arena id)) same
comments_alike arena shared part id ids comment (inr quiet) =
    let began = (first_began arena id ids comment quiet.comments).0 in
    ap role_of_part (own_part arena id (not (is_nothing shared)) (item_class arena id) comment began ∙ sym (own_part arena id (not (is_nothing part)) (item_class arena id) comment began))

-- the table of `(`, where it opens the group of a cast or doesn't
abbrev pub round_with : Left → Bool → Role
round_with left cast =
    first_row (
    (is_header_word left.previous.class, CtrlOpen)
    ∷ (is_call_word left.previous.class || left.asm, CallOpen)
    ∷ (cast, CastOpen)
    ∷ (is_decl_name left.previous.role, DeclOpen)
    ∷ (is_plain left.previous.class || (is_text left.previous.class || is_close_square left.previous.class), CallOpen)
    ∷ (is_value_close left.previous && not (is_ctrl_close left.previous.role), CallOpen)
    ∷ []) GroupOpen

pub roles_alike : (class : TokenClass) (kind : LineKind) (shared part : TokenClass) (left : Left) (n place : ℕ) (partner : Option ℕ) (after : List TokenClass)
    → opens_list (class_behind shared left) left.around ≡ opens_list (class_behind part left) left.around
    → role_of class kind shared left (n + place) (partner_behind n partner) after ≡ role_of class kind part left place partner after
roles_alike OpenRound kind shared part left n place None after same = refl
roles_alike OpenRound kind shared part left n place (Some partner) after same =
    let many : n + partner - (n + place + 1) ≡ partner - (place + 1) = omega arith in
    ap (round_with left) (ap (is_cast_group left after) many)
roles_alike OpenBrace kind shared part left n place partner after same = ap (λ (b : Bool). if b then ListOpen else BlockOpen) same
roles_alike _ kind shared part left n place partner after same = refl

-- ## Behind one more token

past_either : (trailing : Bool) (left : Left) → (if trailing then left else record left { splits = false }).previous ≡ left.previous
past_either true left = refl
past_either false left = refl

one_of : (opener closer : Bool) (x y z : Left) (seen : Seen) → x.previous ≡ seen → y.previous ≡ seen → z.previous ≡ seen → (if opener then x else (if closer then y else z)).previous ≡ seen
one_of true closer x y z seen a b c = a
one_of false true x y z seen a b c = b
one_of false false x y z seen a b c = c

-- a comment is passed over
pub past_a_comment : (partners : List (Option ℕ)) (first : ℕ) (marks : List Mark) (left : Left) (seen : Seen) (after : List TokenClass) → is_comment seen.class ≡ true
    → (left_next partners first marks left seen after).previous ≡ left.previous
past_a_comment partners first marks left seen after comment = rw comment (past_either (is_trailing seen.role) left)

-- any other token is the previous one
pub past_a_token : (partners : List (Option ℕ)) (first : ℕ) (marks : List Mark) (left : Left) (seen : Seen) (after : List TokenClass) → is_comment seen.class ≡ false
    → (left_next partners first marks left seen after).previous ≡ seen
past_a_token partners first marks left seen after code =
    rw code (one_of (is_opener seen.class) (is_closer seen.class)
    (past_opener partners (length marks) left seen after)
    (passed left seen (taken_back first (partner_at partners (length marks)) (mark_at marks (partner_at partners (length marks))) left.around) false)
    (passed left seen (counted left.around seen.class) (splits_behind left seen)) seen refl refl refl)

pub behind_token : (before : TokenClass) (left : Left) (seen : Seen) → left.previous ≡ seen → is_nothing seen.class ≡ false → class_behind before left ≡ seen.class
behind_token before left seen is named =
    ap (λ (s : Seen). if is_nothing s.class then before else s.class) is ∙ ap (λ (b : Bool). if b then before else seen.class) named

pub behind_comment : (before : TokenClass) (left next : Left) → next.previous ≡ left.previous → class_behind before next ≡ class_behind before left
behind_comment before left next is = ap (λ (s : Seen). if is_nothing s.class then before else s.class) is

later_alike : (arena : Contents) (shared part : TokenClass) (id : ℕ) (ids : List ℕ) → is_comment (item_class arena id) ≡ true → AreAlike arena shared part (id ∷ ids) → AreAlike arena shared part ids
later_alike arena shared part id ids comment (inl same) = inl same
later_alike arena shared part id ids comment (inr quiet) =
    inr (record { none = quiet.none; list = quiet.list; closes = quiet.closes; comments = (first_began arena id ids comment quiet.comments).1 })

pub next_alike : (arena : Contents) (shared part : TokenClass) (partners : List (Option ℕ)) (first : ℕ) (marks : List Mark) (left : Left) (seen : Seen) (after : List TokenClass) (id : ℕ) (ids : List ℕ)
    → seen.class ≡ item_class arena id → is_nothing (item_class arena id) ≡ false → AreAlike arena (class_behind shared left) (class_behind part left) (id ∷ ids)
    → AreAlike arena (class_behind shared (left_next partners first marks left seen after)) (class_behind part (left_next partners first marks left seen after)) ids
next_alike arena shared part partners first marks left seen after id ids is named alike = by (cases_Bool (is_comment (item_class arena id)))
  where
    next : Left
    next = left_next partners first marks left seen after

    by : (is_comment (item_class arena id) ≡ true) ⊎ (is_comment (item_class arena id) ≡ false) → AreAlike arena (class_behind shared next) (class_behind part next) ids
    by (inl comment) =
        let previous : next.previous ≡ left.previous = past_a_comment partners first marks left seen after (ap is_comment is ∙ comment) in
        subst (λ (c : TokenClass). AreAlike arena c (class_behind part next) ids) (sym (behind_comment shared left next previous))
        (subst (λ (c : TokenClass). AreAlike arena (class_behind shared left) c ids) (sym (behind_comment part left next previous)) (later_alike arena (class_behind shared left) (class_behind part left) id ids comment alike))
    by (inr code) =
        let previous : next.previous ≡ seen = past_a_token partners first marks left seen after (ap is_comment is ∙ code) in
        let some : is_nothing seen.class ≡ false = ap is_nothing is ∙ named in
        inl (behind_token shared next seen previous some ∙ sym (behind_token part next seen previous some))
