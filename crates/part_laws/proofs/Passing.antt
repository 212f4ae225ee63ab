-- The tokens of a first part that are no comments go on, group by group, to their end behind a declaration.
use Rattle.std.proofs.Common.{◌≡◌, ◌∙◌, inl, inr, ℕ, zero, suc, ◌+◌, ◌<◌, ◌≤◌, Bool, true, false, Option, Some, None}
use Rattle.std.proofs.Common.{List, [], ◌∷◌, ◌++◌, length, replicate, append_assoc, append-nil, refl, sym, ap, subst}
use Rattle.std.proofs.Common.{arith}
use Rattle.std.specs.Prelude.{slice_get}
use Rattle.std.proofs.lemmas.List.{length-append, length-map, length-replicate}
use Rattle.std.proofs.lemmas.Bool.{cases_Bool}
use Rattle.token_arena.specs.Gaps.{Contents}
use Rattle.token_classes.specs.declared.class.TokenClass.{TokenClass}
use Rattle.token_classes.specs.Classes.{is_comment, is_opener}
use Rattle.item_classes.specs.Viewed.{item_class, classes_of}
use Rattle.token_classes.specs.declared.pairing.Opener.{Opener}
use Rattle.token_classes.specs.Partners.{Matching, paired, matching_from}
use Rattle.statement_lines.specs.declared.token.CodeToken.{CodeToken}
use Rattle.statement_lines.specs.Forms.{class_at, partner_in}
use Rattle.part_laws.specs.Declarations.{Before, Between, Walk, start, is_end, is_lost, behind, outside, waiting_behind}
use Rattle.part_laws.specs.Declarations.{next_end}
use Rattle.part_laws.specs.LinesCut.{IsFirstPart, partners_in}
use Rattle.part_laws.proofs.CodeCut.{behind_code, assigned_behind, code_of, Way}
use Rattle.part_laws.proofs.Groups.{IsGroup, grouped, paired_length, pair_found, partner_kept}
use Rattle.part_laws.proofs.Counted.{count_of, counts_on, counts_one, counts_none, counts_all, code_class, code_within}
use Rattle.part_laws.proofs.Counted.{code_partner}
use Rattle.part_laws.proofs.WalkAgrees.{Agrees, ends_agree, behind_agrees, comment_agrees, assigned_agrees}
use Rattle.part_laws.proofs.WalkAgrees.{comment_assigns_nothing, opener_waits, nothing_waits, opener_is_no_comment}
use Rattle.part_laws.proofs.WalkAgrees.{matching, comment_is_no_opener}
use Rattle.part_laws.proofs.FirstPart.{IsUnasked, IsSound, outside_sound, ended, GoesOutside, goes_outside}

-- ## Tokens that pass

passes_end : (n : ℕ) (tokens : List CodeToken) (at : ℕ) (before : Before) (assigned : Bool) → at ≡ length tokens → is_end before ≡ true
    → Way n tokens (length tokens) at before assigned
passes_end zero tokens at before assigned all end = (all, end)
passes_end (suc n) tokens at before assigned all end = inl (all, end)

passes_token : (n : ℕ) (tokens : List CodeToken) (at : ℕ) (before : Before) (assigned : Bool) (class : TokenClass) → class_at tokens at ≡ class
    → at < length tokens → is_lost class ≡ false → is_opener class ≡ false
    → Way n tokens (length tokens) (at + 1) (behind_code assigned before class) (assigned_behind assigned class)
    → Way (suc n) tokens (length tokens) at before assigned
passes_token n tokens at before assigned class is within lost opens on =
    let next : TokenClass → Type 0 = λ c. Way n tokens (length tokens) (at + 1) (behind_code assigned before c) (assigned_behind assigned c) in
    inr (within, (ap is_lost is ∙ lost, inr (ap is_opener is ∙ opens, subst next (sym is) on)))

passes_group : (n : ℕ) (tokens : List CodeToken) (at partner : ℕ) (before : Before) (assigned : Bool) (class : TokenClass) → class_at tokens at ≡ class
    → at < length tokens → is_lost class ≡ false → is_opener class ≡ true → partner_in tokens (length tokens) at ≡ Some partner
    → Way n tokens (length tokens) (partner + 1) (behind_code assigned before class) (assigned_behind assigned class)
    → Way (suc n) tokens (length tokens) at before assigned
passes_group n tokens at partner before assigned class is within lost opens found on =
    let next : TokenClass → Type 0 = λ c. Way n tokens (length tokens) (partner + 1) (behind_code assigned before c) (assigned_behind assigned c) in
    inr (within, (ap is_lost is ∙ lost, inl (ap is_opener is ∙ opens, (partner, (found, subst next (sym is) on)))))

-- ## The way along the items

-- the way stands outside brackets, behind some items of the first part and before the others
record Stands (arena : Contents) (earlier later past rest : List ℕ) (walk : Walk) (before : Before) (assigned : Bool) : Type 0 where
  pub split : earlier ≡ past ++ rest
  pub place : walk.place ≡ length past
  pub agrees : Agrees before walk.before
  pub same_assigned : walk.assigned ≡ assigned
  pub unasked : IsUnasked (length earlier) walk
  pub ends : next_end arena walk [] (rest ++ later) ≡ Some (length earlier)
  pub partners : List (Option ℕ)
  pub many : length partners ≡ length earlier
  pub found : (matching_from walk.place (matching [] partners) (classes_of arena rest)).partners ≡ partners_in arena earlier

-- what is to be told from there
abbrev Told : Contents → List ℕ → ℕ → ℕ → Before → Bool → Type 0
Told arena earlier n at before assigned = Way n (code_of arena earlier) (length (code_of arena earlier)) at before assigned

told_end : (n : ℕ) (arena : Contents) (earlier later past : List ℕ) (walk : Walk) (before : Before) (assigned : Bool)
    → Stands arena earlier later past [] walk before assigned → Told arena earlier n (count_of arena past) before assigned
told_end n arena earlier later past walk before assigned stands =
    let whole : past ≡ earlier = sym (stands.split ∙ append-nil past) in
    let here : walk.place ≡ length earlier = stands.place ∙ ap length whole in
    let sound : IsSound walk [] = record { asked = λ e. cc; body = λ e. refl } in
    let end = ended arena later walk [] (length earlier) here stands.unasked sound stands.ends in
    let all : count_of arena past ≡ length (code_of arena earlier) = ap (count_of arena) whole ∙ sym (counts_all arena earlier) in
    passes_end n (code_of arena earlier) (count_of arena past) before assigned all (ends_agree before walk.before stands.agrees end.ends)

not_yet : (arena : Contents) (earlier later past : List ℕ) (id : ℕ) (rest : List ℕ) (walk : Walk) (before : Before) (assigned : Bool)
    → Stands arena earlier later past (id ∷ rest) walk before assigned → walk.place + 1 + length rest ≡ length earlier
not_yet arena earlier later past id rest walk before assigned stands =
    let all : length earlier ≡ length (past ++ id ∷ rest) = ap length stands.split in
    omega (arith, all, length-append past (id ∷ rest), stands.place)

-- behind a token that opens no group
next_stands : (arena : Contents) (earlier later past : List ℕ) (id : ℕ) (rest : List ℕ) (walk : Walk) (before next : Before) (assigned after : Bool)
    (stands : Stands arena earlier later past (id ∷ rest) walk before assigned)
    (on : GoesOutside arena walk id (rest ++ later) (length earlier)) → is_opener (item_class arena id) ≡ false
    → Agrees next (behind walk (item_class arena id)) → (outside walk (item_class arena id) on.asked).assigned ≡ after
    → Stands arena earlier later (past ++ id ∷ []) rest (outside walk (item_class arena id) on.asked) next after
next_stands arena earlier later past id rest walk before next assigned after stands on opens agrees same =
    let class : TokenClass = item_class arena id in
    let none : waiting_behind (item_class arena id) walk.place [] ≡ [] =
    ap (λ (m : Matching). m.open_brackets) (nothing_waits (item_class arena id) walk.place [] opens) in
    record {
      split = stands.split ∙ sym (append_assoc past (id ∷ []) rest);
      place = omega (arith, stands.place, length-append past (id ∷ []));
      agrees = agrees;
      same_assigned = same;
      unasked = on.unasked;
      ends = subst (λ (w : List Opener). next_end arena (outside walk (item_class arena id) on.asked) w (rest ++ later) ≡ Some (length earlier)) none on.ends;
      partners = stands.partners;
      many = stands.many;
      found = ap (λ (m : Matching). (matching_from (walk.place + 1) m (classes_of arena rest)).partners)
          (sym (nothing_waits (item_class arena id) walk.place stands.partners opens)) ∙ stands.found;
    }

-- a group that is opened there
group_there : (arena : Contents) (earlier later past : List ℕ) (id : ℕ) (rest : List ℕ) (walk : Walk) (before : Before) (assigned : Bool)
    (stands : Stands arena earlier later past (id ∷ rest) walk before assigned)
    (on : GoesOutside arena walk id (rest ++ later) (length earlier)) → is_opener (item_class arena id) ≡ true
    → IsGroup arena later (length earlier) (outside walk (item_class arena id) on.asked) [] (record { place = walk.place; kind = item_class arena id }) rest
group_there arena earlier later past id rest walk before assigned stands on opens =
    let opener : Opener = record { place = walk.place; kind = item_class arena id } in
    let next : Walk = outside walk (item_class arena id) on.asked in
    let waiting : waiting_behind (item_class arena id) walk.place [] ≡ opener ∷ [] =
    ap (λ (m : Matching). m.open_brackets) (opener_waits (item_class arena id) walk.place [] opens) in
    grouped arena later (length earlier) rest next [] opener (not_yet arena earlier later past id rest walk before assigned stands) on.unasked
    (subst (IsSound next) waiting (outside_sound walk (item_class arena id) on.asked))
    (subst (λ (w : List Opener). next_end arena next w (rest ++ later) ≡ Some (length earlier)) waiting on.ends)

-- where the group ends, and what is told of its opener
record GroupEnds (arena : Contents) (earlier later past : List ℕ) (id : ℕ) (rest : List ℕ) (before : Before) (assigned : Bool) : Type 0 where
  pub inner : List ℕ
  pub closer : ℕ
  pub behind : List ℕ
  pub next : Walk
  pub split : rest ≡ inner ++ closer ∷ behind
  pub code : is_comment (item_class arena closer) ≡ false
  pub partner : partner_in (code_of arena earlier) (length (code_of arena earlier)) (count_of arena past) ≡ Some (count_of arena (past ++ id ∷ inner))
  pub stands : Stands arena earlier later ((past ++ id ∷ inner) ++ closer ∷ []) behind next (behind_code assigned before (item_class arena id))
      (assigned_behind assigned (item_class arena id))

group_ends_so : (arena : Contents) (earlier later past : List ℕ) (id : ℕ) (rest : List ℕ) (walk : Walk) (before : Before) (assigned : Bool)
    (stands : Stands arena earlier later past (id ∷ rest) walk before assigned)
    (on : GoesOutside arena walk id (rest ++ later) (length earlier)) → is_opener (item_class arena id) ≡ true
    → IsGroup arena later (length earlier) (outside walk (item_class arena id) on.asked) [] (record { place = walk.place; kind = item_class arena id }) rest
    → GroupEnds arena earlier later past id rest before assigned
group_ends_so arena earlier later past id rest walk before assigned stands on opens group =
    let class : TokenClass = item_class arena id in
    let code : is_comment (item_class arena id) ≡ false = opener_is_no_comment (item_class arena id) opens in
    let front : List ℕ = past ++ id ∷ group.inner in
    let cut : earlier ≡ (past ++ id ∷ group.inner) ++ group.closer ∷ group.behind =
    stands.split ∙ (ap (λ (xs : List ℕ). past ++ id ∷ xs) group.split ∙ sym (append_assoc past (id ∷ group.inner) (group.closer ∷ group.behind))) in
    let front_long : length (past ++ id ∷ group.inner) ≡ length past + length (id ∷ group.inner) = length-append past (id ∷ group.inner) in
    let place : group.place ≡ length (past ++ id ∷ group.inner) = omega (arith, group.stands, stands.place, front_long) in
    let pairs = group.pairs stands.partners in
    let pair : List (Option ℕ) = paired pairs.0 (Some walk.place) group.place in
    let all : partners_in arena earlier ≡ (matching_from (group.place + 1) (matching [] pair) (classes_of arena group.behind)).partners =
    sym stands.found
    ∙ (ap (λ (m : Matching). (matching_from (walk.place + 1) m (classes_of arena rest)).partners)
    (opener_waits (item_class arena id) walk.place stands.partners opens) ∙ pairs.1.1) in
    let long : length pairs.0 ≡ length earlier = pairs.1.0 ∙ stands.many in
    let whole : length earlier ≡ length past + length (id ∷ rest) = ap length stands.split ∙ length-append past (id ∷ rest) in
    let low : length past < group.place = omega (arith, place, front_long) in
    let found : slice_get (partners_in arena earlier) (length past) ≡ Some (Some group.place) =
    ap (λ (ps : List (Option ℕ)). slice_get ps (length past)) all
    ∙ (partner_kept (length past) (group.place + 1) [] pair (classes_of arena group.behind) (omega (arith, low)) tt
    ∙ (ap (λ k. slice_get (paired pairs.0 (Some k) group.place) (length past)) stands.place
    ∙ pair_found pairs.0 (length past) group.place low (omega (arith, long, whole)))) in
    record {
      inner = group.inner;
      closer = group.closer;
      behind = group.behind;
      next = group.next;
      split = group.split;
      code = group.code;
      partner = code_partner arena earlier past group.inner id group.closer group.behind group.place cut place code group.code found;
      stands = record {
        split = cut ∙ sym (append_assoc (past ++ id ∷ group.inner) (group.closer ∷ []) group.behind);
        place = omega (arith, group.next_place, place, length-append (past ++ id ∷ group.inner) (group.closer ∷ []));
        agrees = subst (λ (b : Before). Agrees (behind_code assigned before (item_class arena id)) b) (sym group.before)
            (subst (λ (b : Bool). Agrees (behind_code b before (item_class arena id)) (behind walk (item_class arena id))) stands.same_assigned
            (behind_agrees walk before (item_class arena id) code stands.agrees));
        same_assigned = group.assigned
            ∙ (assigned_agrees walk.assigned (item_class arena id) ∙ ap (λ (b : Bool). assigned_behind b (item_class arena id)) stands.same_assigned);
        unasked = group.unasked;
        ends = group.ends;
        partners = pair;
        many = paired_length pairs.0 (Some walk.place) group.place ∙ long;
        found = ap (λ k. (matching_from k (matching [] pair) (classes_of arena group.behind)).partners) group.next_place ∙ sym all;
      };
    }

-- ## All items

one_more : (arena : Contents) (past : List ℕ) (id : ℕ) → is_comment (item_class arena id) ≡ false → count_of arena (past ++ id ∷ []) ≡ count_of arena past + 1
one_more arena past id code = omega (arith, counts_on arena past (id ∷ []), counts_one arena id [] code)

no_more : (arena : Contents) (past : List ℕ) (id : ℕ) → is_comment (item_class arena id) ≡ true → count_of arena (past ++ id ∷ []) ≡ count_of arena past
no_more arena past id comment = omega (arith, counts_on arena past (id ∷ []), counts_none arena id [] comment)

-- from each place on, where so many items follow
abbrev AllTold : ℕ → Contents → List ℕ → List ℕ → Type 0
AllTold m arena earlier later =
    (n : ℕ) (past rest : List ℕ) (walk : Walk) (before : Before) (assigned : Bool) → length rest ≤ m → length (code_of arena earlier) ≤ n + count_of arena past
    → Stands arena earlier later past rest walk before assigned
    → Told arena earlier n (count_of arena past) before assigned

told_step : (m : ℕ) (arena : Contents) (earlier later : List ℕ) → AllTold m arena earlier later
    → (n : ℕ) (past : List ℕ) (id : ℕ) (rest : List ℕ) (walk : Walk) (before : Before) (assigned : Bool) → length rest ≤ m
    → length (code_of arena earlier) ≤ n + count_of arena past → Stands arena earlier later past (id ∷ rest) walk before assigned
    → Told arena earlier n (count_of arena past) before assigned
told_step m arena earlier later told n past id rest walk before assigned few enough stands = elim (cases_Bool (is_comment (item_class arena id))) [
  | inl comment ↦ by_comment comment
  | inr code ↦ by_code code n enough
]
  where
    class : TokenClass
    class = item_class arena id

    tokens : List CodeToken
    tokens = code_of arena earlier

    Behind : ℕ → ℕ → Type 0
    Behind n at = Told arena earlier n at (behind_code assigned before class) (assigned_behind assigned class)

    on : GoesOutside arena walk id (rest ++ later) (length earlier)
    on =
        let more = not_yet arena earlier later past id rest walk before assigned stands in
        goes_outside arena walk id (rest ++ later) (length earlier) (λ e. omega (arith, e, more)) stands.unasked stands.ends

    by_comment : is_comment class ≡ true → Told arena earlier n (count_of arena past) before assigned
    by_comment comment =
        let same = no_more arena past id comment in
        let next = next_stands arena earlier later past id rest walk before before assigned assigned stands on (comment_is_no_opener class comment)
        (comment_agrees walk before class comment) (comment_assigns_nothing walk.assigned class comment ∙ stands.same_assigned) in
        subst (λ (at : ℕ). Told arena earlier n at before assigned) same
        (told n (past ++ id ∷ []) rest (outside walk class on.asked) before assigned few (omega (arith, enough, same)) next)

    by_token : (n : ℕ) → length tokens ≤ suc n + count_of arena past → is_comment class ≡ false → is_opener class ≡ false
        → Told arena earlier (suc n) (count_of arena past) before assigned
    by_token n enough code opens =
        let one = one_more arena past id code in
        let agrees : Agrees (behind_code assigned before class) (behind walk class) =
        subst (λ (b : Bool). Agrees (behind_code b before class) (behind walk class)) stands.same_assigned
        (behind_agrees walk before class code stands.agrees) in
        let next = next_stands arena earlier later past id rest walk before (behind_code assigned before class) assigned (assigned_behind assigned class)
        stands on opens agrees (assigned_agrees walk.assigned class ∙ ap (λ (b : Bool). assigned_behind b class) stands.same_assigned) in
        let rest_told = told n (past ++ id ∷ []) rest (outside walk class on.asked) (behind_code assigned before class) (assigned_behind assigned class)
        few (omega (arith, enough, one)) next in
        passes_token n tokens (count_of arena past) before assigned class (code_class arena earlier past id rest stands.split code)
        (code_within arena earlier past id rest stands.split code) on.lost opens (subst (Behind n) one rest_told)

    by_group : (n : ℕ) → length tokens ≤ suc n + count_of arena past → is_opener class ≡ true → Told arena earlier (suc n) (count_of arena past) before assigned
    by_group n enough opens =
        let code = opener_is_no_comment class opens in
        let there = group_there arena earlier later past id rest walk before assigned stands on opens in
        let group = group_ends_so arena earlier later past id rest walk before assigned stands on opens there in
        let one = one_more arena (past ++ id ∷ group.inner) group.closer group.code in
        let fewer : length group.behind ≤ m = omega (arith, few, ap length group.split, length-append group.inner (group.closer ∷ group.behind)) in
        let more = counts_on arena past (id ∷ group.inner) in
        let here = counts_one arena id group.inner code in
        let rest_told = told n ((past ++ id ∷ group.inner) ++ group.closer ∷ []) group.behind group.next (behind_code assigned before class)
        (assigned_behind assigned class) fewer (omega (arith, enough, one, more, here)) group.stands in
        passes_group n tokens (count_of arena past) (count_of arena (past ++ id ∷ group.inner)) before assigned class
        (code_class arena earlier past id rest stands.split code) (code_within arena earlier past id rest stands.split code)
        on.lost opens group.partner (subst (Behind n) one rest_told)

    by_code : is_comment class ≡ false → (n : ℕ) → length tokens ≤ n + count_of arena past → Told arena earlier n (count_of arena past) before assigned
    by_code code zero enough = absurd (omega (arith, enough, code_within arena earlier past id rest stands.split code))
    by_code code (suc n) enough = elim (cases_Bool (is_opener class)) [
      | inl opens ↦ by_group n enough opens
      | inr closed ↦ by_token n enough code closed
    ]

all_told : (m : ℕ) (arena : Contents) (earlier later : List ℕ) → AllTold m arena earlier later
all_told m arena earlier later n past [] walk before assigned few enough stands = told_end n arena earlier later past walk before assigned stands
all_told zero arena earlier later n past (id ∷ rest) walk before assigned few enough stands = absurd (omega (arith, few))
all_told (suc m) arena earlier later n past (id ∷ rest) walk before assigned few enough stands =
    told_step m arena earlier later (all_told m arena earlier later) n past id rest walk before assigned (omega (arith, few)) enough stands

-- the whole of a first part
pub told_all : (arena : Contents) (earlier later : List ℕ) → IsFirstPart arena earlier later
    → Told arena earlier (length (code_of arena earlier)) 0 Between false
told_all arena earlier later cut =
    let partners : List (Option ℕ) = replicate (length (classes_of arena earlier)) None in
    let many : length (replicate (length (classes_of arena earlier)) None) ≡ length earlier = length-replicate (length (classes_of arena earlier)) None
    ∙ length-map earlier (item_class arena) in
    let stands : Stands arena earlier later [] earlier start Between false = record {
      split = refl;
      place = refl;
      agrees = inl refl;
      same_assigned = refl;
      unasked = λ e. cc;
      ends = cut.ends;
      partners = partners;
      many = many;
      found = refl;
    } in
    all_told (length earlier) arena earlier later (length (code_of arena earlier)) [] earlier start Between false (omega arith) (omega arith) stands
