-- The trailing comments of a view, one after another.
use Rattle.std.proofs.Common.{◌≡◌, ◌∙◌, ℕ, suc, ◌+◌, ◌<◌, Bool, true, false, Option, Some, None, List, [], ◌∷◌, ◌++◌, length, map, drop, refl, sym, ap, arith, append_assoc}
use Rattle.std.specs.Prelude.{All, IsSome, is_some, if◌then◌else◌, slice_get}
use Rattle.std.proofs.Math.Seq.{drop-cons}
use Rattle.std.proofs.lemmas.List.Elements.{All-append, All-cons, All-nil}
use Rattle.std.proofs.lemmas.Option.{get_or_from_slice_get, slice_get_within}
use Rattle.style_table.specs.declared.style.Style.{Style}
use Rattle.style_table.specs.declared.style.AlignTrailingCommentsKind.{AlignTrailingCommentsKind}
use Rattle.style_table.specs.declared.style.AlignTrailingCommentsKind.TheVariants.{Always, Never}
use Rattle.line_tokens.specs.Roles.{is_trailing}
use Rattle.line_tokens.specs.declared.LineTok.{LineTok}
use Rattle.line_tokens.specs.Columns.{end_of}
use Rattle.replacements.specs.declared.slot.Slot.{Slot}
use Rattle.replacements.specs.Decisions.{slot_of}
use Rattle.comment_rows.specs.declared.place.TrailRow.{TrailRow}
use Rattle.comment_rows.specs.Columns.{aligned, lined_up, shared_column}
use Rattle.comment_rows.specs.declared.comments.Comment.{Comment}
use Rattle.comment_rows.specs.Comments.{comment_at, comment_of, comments_behind, comments_in, comments_made, first_start, placed, placed_slot, row_of, start_by}

-- ## Rows

length-lined_up : (before : Option ℕ) (rows : List TrailRow) → length (lined_up before rows) ≡ length rows
length-lined_up before [] = refl
length-lined_up before (row ∷ rows) = ap suc (length-lined_up (if row.next then Some (shared_column before (row ∷ rows)) else None) rows)

-- there are as many rows once they are aligned
pub length-aligned : (kind : AlignTrailingCommentsKind) (rows : List TrailRow) → length (aligned kind rows) ≡ length rows
length-aligned Always rows = length-lined_up None rows
length-aligned Never rows = refl

-- ## No gap is open

-- the gap before each of these comments is decided
abbrev AllFixed : List Comment → Type 0
AllFixed [] = Unit {0}
AllFixed (comment ∷ comments) = (comment.row.fixed ≡ true) × AllFixed comments

none_placed : (comments : List Comment) (rows : List TrailRow) → AllFixed comments → placed comments rows ≡ []
none_placed [] rows fixed = refl
none_placed (comment ∷ comments) [] fixed = refl
none_placed (comment ∷ comments) (row ∷ rows) fixed =
    ap (λ (f : Bool). if f then placed comments rows else (comment.id, placed_slot comment row) ∷ placed comments rows) fixed.0 ∙ none_placed comments rows fixed.1

-- each of these tokens that is a trailing comment is decided
abbrev pub AreDecided : List (Option Slot) → List LineTok → Type 0
AreDecided plan tokens = All (λ token. is_trailing token.role ≡ true → IsSome (slot_of plan token.id.0)) tokens

later_decided : (plan : List (Option Slot)) (token : LineTok) (tokens : List LineTok) → AreDecided plan (token ∷ tokens) → AreDecided plan tokens
later_decided plan token tokens all = λ i d within. all (suc i) d (omega arith)

is_some-of : {A : Type 0} (o : Option A) → IsSome o → is_some o ≡ true
is_some-of {A} None some = cc
is_some-of {A} (Some x) some = refl

fixed_at : (style : Style) (plan : List (Option Slot)) (left : LineTok) (column : ℕ) (token : LineTok) (tokens : List LineTok) (later : List Comment) → (is_trailing token.role ≡ true → IsSome (slot_of plan token.id.0)) → AllFixed later
    → AllFixed (comment_at style plan left column token tokens ++ later)
fixed_at style plan left column token tokens later some rest = by_role (is_trailing token.role) refl
  where
    by_role : (t : Bool) → is_trailing token.role ≡ t → AllFixed ((if t then comment_of style plan left column token tokens ∷ [] else []) ++ later)
    by_role true is = (is_some-of (slot_of plan token.id.0) (some is), rest)
    by_role false is = rest

all_fixed : (style : Style) (plan : List (Option Slot)) (left : LineTok) (column : ℕ) (tokens : List LineTok) → AreDecided plan tokens → AllFixed (comments_behind style plan left column tokens)
all_fixed style plan left column [] all = tt
all_fixed style plan left column (token ∷ tokens) all =
    let behind : ℕ = end_of token (start_by style left column token (slot_of plan token.id.0)) in
    fixed_at style plan left column token tokens (comments_behind style plan token behind tokens) (all 0 token (omega arith))
    (all_fixed style plan token behind tokens (later_decided plan token tokens all))

-- where each gap before a trailing comment is decided nothing is left to decide
pub none_made : (style : Style) (plan : List (Option Slot)) (tokens : List LineTok) → AreDecided plan tokens → comments_made style tokens plan ≡ []
none_made style plan [] all = refl
none_made style plan (first ∷ tokens) all =
    let comments : List Comment = comments_in style plan (first ∷ tokens) in
    none_placed comments (aligned style.align_trailing_comments_kind (map row_of comments))
    (all_fixed style plan first (end_of first (first_start (slot_of plan first.id.0))) tokens (later_decided plan first tokens all))

-- ## Their items

all_behind : {A : Type 0} (P : A → Type 0) (x : A) (xs : List A) → All P (x ∷ xs) → All P xs
all_behind {A} P x xs all = λ i d within. all (suc i) d (omega arith)

ids_at : (style : Style) (plan : List (Option Slot)) (left : LineTok) (column : ℕ) (token : LineTok) (tokens : List LineTok) (count : ℕ) → token.id.0 < count → All (λ (comment : Comment). comment.id < count) (comment_at style plan left column token tokens)
ids_at style plan left column token tokens count small = by_role (is_trailing token.role)
  where
    P : Comment → Type 0
    P comment = comment.id < count

    by_role : (t : Bool) → All (λ (comment : Comment). comment.id < count) (if t then comment_of style plan left column token tokens ∷ [] else [])
    by_role true = All-cons P (comment_of style plan left column token tokens) [] small (All-nil P)
    by_role false = All-nil P

ids_behind : (style : Style) (plan : List (Option Slot)) (left : LineTok) (column : ℕ) (tokens : List LineTok) (count : ℕ) → All (λ (token : LineTok). token.id.0 < count) tokens
    → All (λ (comment : Comment). comment.id < count) (comments_behind style plan left column tokens)
ids_behind style plan left column [] count small = All-nil (λ (comment : Comment). comment.id < count)
ids_behind style plan left column (token ∷ tokens) count small =
    let behind : ℕ = end_of token (start_by style left column token (slot_of plan token.id.0)) in
    All-append (λ (comment : Comment). comment.id < count) (comment_at style plan left column token tokens) (comments_behind style plan token behind tokens)
    (ids_at style plan left column token tokens count (small 0 token (omega arith)))
    (ids_behind style plan token behind tokens count (all_behind (λ (t : LineTok). t.id.0 < count) token tokens small))

-- the comments of a view are items of the text that its tokens are of
pub comments_within : (style : Style) (plan : List (Option Slot)) (tokens : List LineTok) (count : ℕ) → All (λ (token : LineTok). token.id.0 < count) tokens → All (λ (comment : Comment). comment.id < count) (comments_in style plan tokens)
comments_within style plan [] count small = All-nil (λ (comment : Comment). comment.id < count)
comments_within style plan (first ∷ tokens) count small =
    ids_behind style plan first (end_of first (first_start (slot_of plan first.id.0))) tokens count (all_behind (λ (t : LineTok). t.id.0 < count) first tokens small)

-- ## One more comment

-- the list from a place on begins with what stands there
pub drop_here : {A : Type 0} (xs : List A) (i : ℕ) (x : A) → slice_get xs i ≡ Some x → drop i xs ≡ x ∷ drop (i + 1) xs
drop_here {A} xs i x e =
    let one : suc i ≡ i + 1 = omega arith in
    drop-cons xs i x (slice_get_within xs i x e) ∙ (ap (λ (y : A). y ∷ drop (suc i) xs) (get_or_from_slice_get xs i x x e) ∙ ap (λ j. x ∷ drop j xs) one)

-- behind the token at a place come those behind it
pub comments_more : (style : Style) (plan : List (Option Slot)) (tokens : List LineTok) (at : ℕ) (left token : LineTok) (column start behind : ℕ) (before now : List Comment) (later : List LineTok)
    → later ≡ drop (at + 1) tokens → drop at tokens ≡ token ∷ drop (at + 1) tokens → start ≡ start_by style left column token (slot_of plan token.id.0) → behind ≡ end_of token start
    → now ≡ before ++ comment_at style plan left column token later
    → now ++ comments_behind style plan token behind (drop (at + 1) tokens) ≡ before ++ comments_behind style plan left column (drop at tokens)
comments_more style plan tokens at left token column start behind before now later rest here starts ends kept =
    let column_is : behind ≡ end_of token (start_by style left column token (slot_of plan token.id.0)) = ends ∙ ap (λ x. end_of token x) starts in
    let mine : List Comment = comment_at style plan left column token (drop (at + 1) tokens) in
    ap (λ (xs : List Comment). xs ++ comments_behind style plan token behind (drop (at + 1) tokens)) (kept ∙ ap (λ (xs : List LineTok). before ++ comment_at style plan left column token xs) rest)
    ∙ (append_assoc before mine (comments_behind style plan token behind (drop (at + 1) tokens))
    ∙ (ap (λ x. before ++ (mine ++ comments_behind style plan token x (drop (at + 1) tokens))) column_is
    ∙ ap (λ (xs : List LineTok). before ++ comments_behind style plan left column xs) (sym here)))
