-- The decisions for the trailing comments of a view: each may stand, and none that waits is left out.
use Rattle.std.proofs.Common.{◌≡◌, ◌∙◌, ◌⊎◌, inl, inr, ℕ, zero, suc, ◌+◌, ◌-◌, ◌<◌, ◌≤◌, Bool, true, false, Option}
use Rattle.std.proofs.Common.{Some, None, List, [], ◌∷◌, ◌++◌, length, map, get_or, refl, sym, ap, arith, subst}
use Rattle.std.specs.Prelude.{All, IsSome, is_some, if◌then◌else◌}
use Rattle.std.proofs.lemmas.Bool.{or_parts}
use Rattle.std.proofs.lemmas.List.{get_or_default, length-map, set_past}
use Rattle.c_grammar.specs.Touch.{takes_line}
use Rattle.item_kinds.specs.declared.ItemKind.{ItemKind}
use Rattle.style_table.specs.declared.style.Style.{Style}
use Rattle.line_tokens.specs.Roles.{is_trailing}
use Rattle.line_tokens.specs.declared.LineTok.{LineTok}
use Rattle.layout_tables.specs.Spaces.{spaces_before}
use Rattle.layout_tables.specs.Breaks.{ends_its_row}
use Rattle.line_state.specs.declared.gap.Gap.{Gap}
use Rattle.line_tokens.specs.Columns.{columns, end_of}
use Rattle.token_arena.specs.Gaps.{Contents}
use Rattle.item_classes.specs.Viewed.{AreWithin}
use Rattle.replacements.specs.declared.gap_text.Decision.TheVariants.{Spaces}
use Rattle.replacements.specs.declared.slot.Slot.{Slot}
use Rattle.replacements.specs.Decisions.{slot_of, decided, decided_all}
use Rattle.replacements.proofs.Firsts.{kept, new, length_one}
use Rattle.replacements.specs.Sound.{MayJoin, MayStand, IsSound}
use Rattle.comment_rows.specs.Columns.{aligned}
use Rattle.comment_rows.specs.declared.place.TrailRow.{TrailRow}
use Rattle.comment_rows.specs.declared.comments.Comment.{Comment}
use Rattle.comment_rows.specs.Comments.{comment_at, comment_of, comments_behind, comments_in, comments_made}
use Rattle.comment_rows.specs.Comments.{first_start, placed, placed_slot, row_of, start_by}
use Rattle.comment_rows.proofs.CommentLists.{length-aligned, none_made}
use Rattle.item_classes.specs.Items.{item_at}
use Rattle.line_tokens.specs.Tokens.{no_token}
use Rattle.run_layout.specs.Tells.{StandForItems}
use Rattle.run_layout.specs.Laws.{AreOfTexts, IsWaiting}
use Rattle.line_gaps.proofs.Stands.{stance, all_sound}
use Rattle.run_layout.proofs.BrokenLines.{TellsGap, joins, joined_stands, ends_takes}
use Rattle.line_gaps.proofs.MadeFor.{IsMadeFor, IsDecided, open_or_decided, made_decided, stays_decided}

-- behind the lines of a run the gap of each item of the view is decided, or waits before a trailing comment
abbrev pub AreLaidOut : List ℕ → List LineTok → List (Option Slot) → Type 0
AreLaidOut ids toks plan = (k : ℕ) → k < length ids → get_or ids k 0 < length plan → IsSome (slot_of plan (get_or ids k 0)) ⊎ ((0 < k) × IsWaiting (get_or toks (k - 1) no_token) (get_or toks k no_token))

-- ## Each decision may stand

-- of these decisions each that is for a gap of the plan may stand
abbrev StandWithin : Contents → ℕ → List (ℕ × Slot) → Type 0
StandWithin arena count [] = Unit {0}
StandWithin arena count (m ∷ made) = (m.0 < count → MayStand arena m.0 m.1.decision) × StandWithin arena count made

-- a decision past the plan changes nothing
decided_past : (plan : List (Option Slot)) (place : ℕ) (slot : Slot) → length plan ≤ place → decided plan place slot ≡ plan
decided_past plan place slot past = elim (open_or_decided (slot_of plan place)) [
  | inl open_gap ↦ new plan place slot open_gap ∙ set_past plan place (Some slot) past
  | inr (first, is) ↦ kept plan place slot first is
]

within_or_past : (place count : ℕ) → (place < count) ⊎ (count ≤ place)
within_or_past place count = grind arith

within_sound : (arena : Contents) (plan : List (Option Slot)) (made : List (ℕ × Slot)) → IsSound arena plan → StandWithin arena (length plan) made → IsSound arena (decided_all plan made)
within_sound arena plan [] sound stand = sound
within_sound arena plan (m ∷ made) sound stand =
    let later : StandWithin arena (length (decided plan m.0 m.1)) made = subst (λ n. StandWithin arena n made) (sym (length_one plan m.0 m.1)) stand.1 in
    let here : IsSound arena (decided plan m.0 m.1) = elim (within_or_past m.0 (length plan)) [
      | inl below ↦ all_sound arena plan (m ∷ []) sound (stand.0 below, tt)
      | inr past ↦ subst (λ (p : List (Option Slot)). IsSound arena p) (sym (decided_past plan m.0 m.1 past)) sound
    ] in
    within_sound arena (decided plan m.0 m.1) made here later

-- where the gap is open, blanks may stand between two tokens, some where the table has some
abbrev MayMove : Style → Contents → List (Option Slot) → LineTok → LineTok → Type 0
MayMove style arena plan left token = token.id.0 < length plan → slot_of plan token.id.0 ≡ None → (count : ℕ) → (0 < spaces_before style left token → 0 < count) → MayStand arena token.id.0 (Spaces count)

one_less : (k : ℕ) → suc k - 1 ≡ k
one_less k = omega arith

none_some : (o : Option Slot) → o ≡ None → IsSome o → ⊥
none_some None is some = cc
none_some (Some slot) is some = cc

joins_with : (style : Style) (arena : Contents) (before id count : ℕ) (gap : Gap) → TellsGap arena before id gap → id ≡ before + 1 → takes_line (item_at arena before).kind ≡ false → (0 < spaces_before style gap.left gap.right → 0 < count)
    → MayJoin arena.dialect (stance arena before) (item_at arena before) (stance arena id) (item_at arena id) count
joins_with style arena before id count gap tells next takes some =
    let j = joins style arena before id gap tells next takes in
    record { here = j.here; there = j.there; goes_on = j.goes_on; apart = elim j.apart [ inl blanks ↦ inl (some blanks) | inr free ↦ inr free ] }

-- a gap of a view that waits may be such blanks
may_move : (style : Style) (arena : Contents) (ids : List ℕ) (toks : List LineTok) (plan : List (Option Slot)) → AreWithin arena ids → AreOfTexts arena ids → StandForItems arena ids toks → AreLaidOut ids toks plan
    → (k : ℕ) → suc k < length toks → MayMove style arena plan (get_or toks k no_token) (get_or toks (suc k) no_token)
may_move style arena ids toks plan items texts tell laid k below small open_gap count some =
    let left : LineTok = get_or toks k no_token in
    let token : LineTok = get_or toks (suc k) no_token in
    let before : ℕ = get_or ids k 0 in
    let id : ℕ = get_or ids (suc k) 0 in
    let within : suc k < length ids = omega (arith, below, tell.as_many) in
    let here = tell.items (suc k) within in
    let there = tell.items k (omega (arith, within)) in
    elim (laid (suc k) within (omega (arith, small, here.number))) [
      | inl decided ↦ absurd (none_some (slot_of plan id) (sym (ap (λ x. slot_of plan x) here.number) ∙ open_gap) decided)
      | inr waits ↦
          let waiting : IsWaiting left token = subst (λ x. IsWaiting (get_or toks x no_token) token) (one_less k) waits.1 in
          let parts = or_parts token.directive (ends_its_row left.kind) waiting.joins in
          let next : id ≡ before + 1 = tell.next k within parts.0 in
          let gap : Gap = record { left = left; right = token; fixed = None; first = false } in
          let tells : TellsGap arena before id gap = record {
            within = items (suc k) 0 within;
            left_of = texts k 0 (omega (arith, within));
            right_of = texts (suc k) 0 within;
            left = there.kind;
            right = here;
            next = λ none. next;
          } in
          let takes : takes_line (item_at arena before).kind ≡ false = ap (λ (x : ItemKind). takes_line x) (sym there.kind) ∙ (sym (ends_takes left.kind) ∙ parts.1) in
          subst (λ x. MayStand arena x (Spaces count)) (sym here.number)
          (joined_stands arena before id count (items (suc k) 0 within) next (joins_with style arena before id count gap tells next takes some))
    ]

-- as many blanks as the table has and more
some_blanks : (spaces more : ℕ) → 0 < spaces → 0 < columns spaces more
some_blanks spaces more some = omega arith

stands_at : (style : Style) (arena : Contents) (plan : List (Option Slot)) (left : LineTok) (column : ℕ) (token : LineTok) (tokens : List LineTok) (later : List Comment) (rows : List TrailRow) → MayMove style arena plan left token
    → ((rest : List TrailRow) → StandWithin arena (length plan) (placed later rest)) → StandWithin arena (length plan) (placed (comment_at style plan left column token tokens ++ later) rows)
stands_at style arena plan left column token tokens later rows may stand = by_role (is_trailing token.role) rows
  where
    by_open : (row : TrailRow) (rest : List TrailRow) (o : Option Slot) → slot_of plan token.id.0 ≡ o
        → StandWithin arena (length plan) (if is_some o then placed later rest else (token.id.0, placed_slot (comment_of style plan left column token tokens) row) ∷ placed later rest)
    by_open row rest (Some slot) is = stand rest
    by_open row rest None is = (
      λ small. may small is (columns (spaces_before style left token) (row.column - start_by style left column token (slot_of plan token.id.0))) (λ some. some_blanks (spaces_before style left token) (row.column - start_by style left column token (slot_of plan token.id.0)) some),
      stand rest,
    )

    by_role : (t : Bool) (given : List TrailRow) → StandWithin arena (length plan) (placed ((if t then comment_of style plan left column token tokens ∷ [] else []) ++ later) given)
    by_role false given = stand given
    by_role true [] = tt
    by_role true (row ∷ rest) = by_open row rest (slot_of plan token.id.0) refl

stand_behind : (style : Style) (arena : Contents) (plan : List (Option Slot)) (left : LineTok) (column : ℕ) (tokens : List LineTok) (rows : List TrailRow)
    → ((k : ℕ) → suc k < length (left ∷ tokens) → MayMove style arena plan (get_or (left ∷ tokens) k no_token) (get_or (left ∷ tokens) (suc k) no_token))
    → StandWithin arena (length plan) (placed (comments_behind style plan left column tokens) rows)
stand_behind style arena plan left column [] rows may = tt
stand_behind style arena plan left column (token ∷ tokens) rows may =
    let behind : ℕ = end_of token (start_by style left column token (slot_of plan token.id.0)) in
    stands_at style arena plan left column token tokens (comments_behind style plan token behind tokens) rows (may 0 (omega arith))
    (λ rest. stand_behind style arena plan token behind tokens rest (λ k below. may (suc k) (omega (arith, below))))

comments_stand : (style : Style) (arena : Contents) (plan : List (Option Slot)) (toks : List LineTok) → ((k : ℕ) → suc k < length toks → MayMove style arena plan (get_or toks k no_token) (get_or toks (suc k) no_token))
    → StandWithin arena (length plan) (comments_made style toks plan)
comments_stand style arena plan [] may = tt
comments_stand style arena plan (first ∷ tokens) may =
    let comments : List Comment = comments_in style plan (first ∷ tokens) in
    stand_behind style arena plan first (end_of first (first_start (slot_of plan first.id.0))) tokens (aligned style.align_trailing_comments_kind (map row_of comments)) may

-- a sound plan of a view that is laid out stays sound behind the decisions for its comments
pub comments_stay_sound : (style : Style) (arena : Contents) (ids : List ℕ) (toks : List LineTok) (plan : List (Option Slot)) → AreWithin arena ids → AreOfTexts arena ids → StandForItems arena ids toks → AreLaidOut ids toks plan → IsSound arena plan
    → IsSound arena (decided_all plan (comments_made style toks plan))
comments_stay_sound style arena ids toks plan items texts tell laid sound =
    within_sound arena plan (comments_made style toks plan) sound (comments_stand style arena plan toks (may_move style arena ids toks plan items texts tell laid))

-- ## Each comment that waits is decided

made_here : (style : Style) (plan : List (Option Slot)) (left : LineTok) (column : ℕ) (token : LineTok) (tokens : List LineTok) (later : List Comment) (rows : List TrailRow) → is_trailing token.role ≡ true → slot_of plan token.id.0 ≡ None
    → length rows ≡ length (comment_at style plan left column token tokens ++ later) → IsMadeFor token.id.0 (placed (comment_at style plan left column token tokens ++ later) rows)
made_here style plan left column token tokens later rows trails open_gap same = by_role (is_trailing token.role) trails rows same
  where
    by_open : (row : TrailRow) (rest : List TrailRow) (o : Option Slot) → o ≡ None
        → IsMadeFor token.id.0 (if is_some o then placed later rest else (token.id.0, placed_slot (comment_of style plan left column token tokens) row) ∷ placed later rest)
    by_open row rest (Some slot) is = cc
    by_open row rest None is = inl refl

    by_role : (t : Bool) → t ≡ true → (given : List TrailRow) → length given ≡ length ((if t then comment_of style plan left column token tokens ∷ [] else []) ++ later)
        → IsMadeFor token.id.0 (placed ((if t then comment_of style plan left column token tokens ∷ [] else []) ++ later) given)
    by_role false t given many = cc
    by_role true t [] many = absurd (omega (arith, many))
    by_role true t (row ∷ rest) many = by_open row rest (slot_of plan token.id.0) open_gap

made_later : (style : Style) (plan : List (Option Slot)) (left : LineTok) (column : ℕ) (token : LineTok) (tokens : List LineTok) (later : List Comment) (rows : List TrailRow) (id : ℕ)
    → length rows ≡ length (comment_at style plan left column token tokens ++ later) → ((rest : List TrailRow) → length rest ≡ length later → IsMadeFor id (placed later rest))
    → IsMadeFor id (placed (comment_at style plan left column token tokens ++ later) rows)
made_later style plan left column token tokens later rows id same made = by_role (is_trailing token.role) rows same
  where
    by_flag : (f : Bool) (row : TrailRow) (rest : List TrailRow) → IsMadeFor id (placed later rest) → IsMadeFor id (if f then placed later rest else (token.id.0, placed_slot (comment_of style plan left column token tokens) row) ∷ placed later rest)
    by_flag true row rest h = h
    by_flag false row rest h = inr h

    by_role : (t : Bool) (given : List TrailRow) → length given ≡ length ((if t then comment_of style plan left column token tokens ∷ [] else []) ++ later)
        → IsMadeFor id (placed ((if t then comment_of style plan left column token tokens ∷ [] else []) ++ later) given)
    by_role false given many = made given many
    by_role true [] many = absurd (omega (arith, many))
    by_role true (row ∷ rest) many = by_flag (is_some (slot_of plan token.id.0)) row rest (made rest (omega (arith, many)))

made_behind : (style : Style) (plan : List (Option Slot)) (left : LineTok) (column : ℕ) (tokens : List LineTok) (rows : List TrailRow) (k : ℕ) → k < length tokens
    → is_trailing (get_or tokens k no_token).role ≡ true → slot_of plan (get_or tokens k no_token).id.0 ≡ None → length rows ≡ length (comments_behind style plan left column tokens)
    → IsMadeFor (get_or tokens k no_token).id.0 (placed (comments_behind style plan left column tokens) rows)
made_behind style plan left column [] rows k below trails open_gap same = absurd (omega (arith, below))
made_behind style plan left column (token ∷ tokens) rows zero below trails open_gap same =
    let behind : ℕ = end_of token (start_by style left column token (slot_of plan token.id.0)) in
    made_here style plan left column token tokens (comments_behind style plan token behind tokens) rows trails open_gap same
made_behind style plan left column (token ∷ tokens) rows (suc k) below trails open_gap same =
    let behind : ℕ = end_of token (start_by style left column token (slot_of plan token.id.0)) in
    made_later style plan left column token tokens (comments_behind style plan token behind tokens) rows (get_or tokens k no_token).id.0 same
    (λ rest many. made_behind style plan token behind tokens rest k (omega (arith, below)) trails open_gap many)

-- a decision is made for each open trailing comment behind the first token of a view
made_for : (style : Style) (plan : List (Option Slot)) (toks : List LineTok) (k : ℕ) → suc k < length toks → is_trailing (get_or toks (suc k) no_token).role ≡ true → slot_of plan (get_or toks (suc k) no_token).id.0 ≡ None
    → IsMadeFor (get_or toks (suc k) no_token).id.0 (comments_made style toks plan)
made_for style plan [] k below trails open_gap = absurd (omega (arith, below))
made_for style plan (first ∷ tokens) k below trails open_gap =
    let comments : List Comment = comments_in style plan (first ∷ tokens) in
    made_behind style plan first (end_of first (first_start (slot_of plan first.id.0))) tokens (aligned style.align_trailing_comments_kind (map row_of comments)) k (omega (arith, below)) trails open_gap
    (length-aligned style.align_trailing_comments_kind (map row_of comments) ∙ length-map comments row_of)

some_is : (plan : List (Option Slot)) (id : ℕ) → IsSome (slot_of plan id) → IsDecided plan id
some_is plan id some = elim (open_or_decided (slot_of plan id)) [
  | inl open_gap ↦ absurd (none_some (slot_of plan id) open_gap some)
  | inr is ↦ is
]

-- behind the decisions for its comments each gap of a view that is laid out is decided
pub comments_decide : (style : Style) (arena : Contents) (ids : List ℕ) (toks : List LineTok) (plan : List (Option Slot)) → length toks ≡ length ids → ((k : ℕ) → k < length ids → (get_or toks k no_token).id.0 ≡ get_or ids k 0) → All (λ id. id < length plan) ids
    → AreLaidOut ids toks plan → (k : ℕ) → k < length ids → IsDecided (decided_all plan (comments_made style toks plan)) (get_or ids k 0)
comments_decide style arena ids toks plan many numbers small laid zero below = elim (laid zero below (small zero 0 below)) [
  | inl some ↦ stays_decided plan (comments_made style toks plan) (get_or ids zero 0) (some_is plan (get_or ids zero 0) some)
  | inr waits ↦ absurd (omega (arith, waits.0))
]
comments_decide style arena ids toks plan many numbers small laid (suc k) below = elim (open_or_decided (slot_of plan (get_or ids (suc k) 0))) [
  | inr is ↦ stays_decided plan (comments_made style toks plan) (get_or ids (suc k) 0) is
  | inl open_gap ↦ elim (laid (suc k) below (small (suc k) 0 below)) [
    | inl some ↦ absurd (none_some (slot_of plan (get_or ids (suc k) 0)) open_gap some)
    | inr waits ↦
        let number : (get_or toks (suc k) no_token).id.0 ≡ get_or ids (suc k) 0 = numbers (suc k) below in
        made_decided plan (comments_made style toks plan) (get_or ids (suc k) 0) (small (suc k) 0 below)
        (subst (λ x. IsMadeFor x (comments_made style toks plan)) number
        (made_for style plan toks k (omega (arith, below, many)) waits.1.trails (ap (λ x. slot_of plan x) number ∙ open_gap)))
  ]
]

-- where each gap before a token is decided nothing is left to decide
pub nothing_waits : (style : Style) (arena : Contents) (ids : List ℕ) (toks : List LineTok) (plan : List (Option Slot)) → StandForItems arena ids toks → ((k : ℕ) → k < length ids → IsSome (slot_of plan (get_or ids k 0)))
    → plan ≡ decided_all plan (comments_made style toks plan)
nothing_waits style arena ids toks plan tell some = sym (ap (λ (made : List (ℕ × Slot)). decided_all plan made) (none_made style plan toks (λ k d below trails.
    let within : k < length ids = omega (arith, below, tell.as_many) in
    let same : (get_or toks k d).id.0 ≡ get_or ids k 0 = ap (λ (t : LineTok). t.id.0) (get_or_default toks k d no_token below) ∙ (tell.items k within).number in
    subst (λ x. IsSome (slot_of plan x)) (sym same) (some k within))))
