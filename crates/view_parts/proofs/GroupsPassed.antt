-- Groups in which only quiet tokens and groups stand, passed whole.
use Rattle.std.proofs.Common.{◌≡◌, ◌∙◌, ℕ, zero, suc, ◌+◌, ◌<◌, ◌≤◌, ◌==◌, Bool, true, false, Option, None, List}
use Rattle.std.proofs.Common.{[], ◌∷◌, ◌++◌, ◌||◌, ◌⊎◌, inl, inr, map, length, take, drop, get_or, add-one, refl, sym, ap, subst, arith}
use Rattle.std.specs.Prelude.{if◌then◌else◌}
use Rattle.std.proofs.lemmas.Bool.{eqb-true}
use Rattle.std.proofs.lemmas.Bool.Decides.{nat_tests}
use Rattle.std.proofs.lemmas.List.{get_or-drop, get_or-take, length-drop, length-take-le}
use Rattle.token_arena.specs.Gaps.{Contents}
use Rattle.token_arena.specs.Ids.{Increase}
use Rattle.token_classes.specs.declared.class.TokenClass.{TokenClass}
use Rattle.token_classes.specs.declared.class.TokenClass.TheVariants.{If, OpenRound, CloseRound, OpenSquare, CloseSquare}
use Rattle.token_classes.specs.declared.class.TokenClass.TheVariants.{OpenBrace, CloseBrace}
use Rattle.token_classes.specs.Classes.{is_bracket, is_close_round, is_open_brace}
use Rattle.item_classes.specs.Viewed.{item_class, item_classes}
use Rattle.token_classes.specs.declared.pairing.Opener.{Opener}
use Rattle.part_walk.specs.declared.walk.Around.{Around}
use Rattle.part_walk.specs.declared.walk.Around.TheVariants as around
use Rattle.part_walk.specs.declared.bodies.Head.{Head}
use Rattle.part_walk.specs.declared.walk.Walk.{Walk}
use Rattle.part_walk.specs.Places.{Place}
use Rattle.part_walk.specs.Reading.{Reading, GoesOn}
use Rattle.view_parts.specs.Quiet.{ClosesGroup, closes_group, is_quiet, kinds_behind}
use Rattle.part_walk.specs.Steps.{group_passed, may_end, opens_group}
use Rattle.part_walk.specs.Walk.{opened_head, past_bracket, past_other, reading}
use Rattle.part_walk.specs.Brackets.{around_of, bodies_behind, is_left, left_innermost, waiting_behind, walk_behind}
use Rattle.part_walk.specs.Brackets.{without_innermost}
use Rattle.view_parts.proofs.PartEnds.{IsRead, read_quiet}
use Rattle.view_parts.proofs.Quiet.{quiet_row}
use Rattle.view_parts.proofs.Waits.{none_left}
use Rattle.view_parts.proofs.Walked.{IsNext, Passes, class_told, goes_on, next_place}

-- ## The brackets of a group

record IsGroup (opener closer : TokenClass) : Type 0 where
  flat : is_open_brace opener ≡ false
  bracket : is_bracket closer ≡ true
  closes : is_open_brace closer ≡ false
  grows : (place : ℕ) (waiting : List Opener) → waiting_behind opener place waiting ≡ record { place = place + 1; kind = opener } ∷ waiting
  taken : (place far : ℕ) (waiting : List Opener) → waiting_behind closer far (record { place = place; kind = opener } ∷ waiting) ≡ waiting

group_of : (opener closer : TokenClass) → closes_group opener closer ≡ true → IsGroup opener closer
group_of OpenRound closer is = by_round closer is
  where
    by_round : (closer : TokenClass) → is_close_round closer ≡ true → IsGroup OpenRound closer
    by_round CloseRound is = record { flat = refl; bracket = refl; closes = refl; grows = λ place waiting. refl; taken = λ place far waiting. refl }
    by_round _ is = cc
group_of OpenSquare CloseSquare is = record { flat = refl; bracket = refl; closes = refl; grows = λ place waiting. refl; taken = λ place far waiting. refl }
group_of OpenSquare _ is = cc
group_of _ closer is = cc

-- what stands behind its opener stands in a group
in_it : (bodies : List Head) (opener : Opener) (waiting : List Opener) → is_left bodies waiting ≡ false → around_of bodies (opener ∷ waiting) ≡ around.Group
in_it bodies opener waiting stays = by_test (length (opener ∷ waiting) == length bodies) refl
  where
    by_test : (same : Bool) → (length (opener ∷ waiting) == length bodies) ≡ same → (if same then around.Body else around.Group) ≡ around.Group
    by_test true told = (let many = eqb-true (length (opener ∷ waiting)) (length bodies) told in absurd (grind (arith, nat_tests, stays, many)))
    by_test false told = refl

still_left : (bodies : List Head) (opener : Opener) (waiting : List Opener) → is_left bodies waiting ≡ false → is_left bodies (opener ∷ waiting) ≡ false
still_left bodies opener waiting stays = grind (arith, nat_tests, stays)

-- ## Behind them

-- behind a token that opens no body, where no body is left
step : (arena : Contents) (begins : Option Place) (ids : List ℕ) (walk next : Walk) (bodies : List Head) (waiting after : List Opener) (id : ℕ) (class : TokenClass) → walk.place < length ids → next.place ≡ walk.place + 1
    → get_or ids walk.place 0 ≡ id → class ≡ item_class arena id → GoesOn next ≡ reading arena walk (around_of bodies waiting) id class → is_open_brace class ≡ false → after ≡ waiting_behind class walk.place waiting → is_left bodies after ≡ false
    → Passes arena begins ids walk bodies waiting → Passes arena begins ids next bodies after
step arena begins ids walk next bodies waiting after id class below one at class_is is other waits stays on =
    let stands = around_of bodies waiting in
    let number = get_or ids walk.place 0 in
    let same : class ≡ item_class arena number = class_is ∙ ap (λ n. item_class arena n) (sym at) in
    let reads_so : GoesOn next ≡ reading arena walk stands number (item_class arena number) = is ∙ (ap (λ n. reading arena walk stands n class) (sym at) ∙ ap (λ (c : TokenClass). reading arena walk stands number c) same) in
    let behind : after ≡ waiting_behind (item_class arena number) walk.place waiting = waits ∙ ap (λ (c : TokenClass). waiting_behind c walk.place waiting) same in
    let past = goes_on arena begins ids walk next bodies waiting after (GoesOn next) below one refl reads_so behind on in
    let opens : opened_head walk stands bodies number (item_class arena number) ≡ None =
    ap (λ (c : TokenClass). opened_head walk stands bodies number c) (sym same) ∙ ap (λ b. if b then opened_head walk stands bodies number OpenBrace else None) other in
    let unopened : Passes arena begins ids (walk_behind next bodies after None number) (bodies_behind bodies after None) after =
    subst (λ (o : Option Head). Passes arena begins ids (walk_behind next bodies after o number) (bodies_behind bodies after o) after) opens past in
    subst (λ b. Passes arena begins ids (if b then left_innermost next bodies number else next) (if b then without_innermost bodies else bodies) after) stays unopened

-- behind the quiet tokens of a group, so many
quiet_group : (arena : Contents) (begins : Option Place) (ids : List ℕ) (walk : Walk) (bodies : List Head) (waiting : List Opener) (id n : ℕ) → around_of bodies waiting ≡ around.Group → is_left bodies waiting ≡ false → walk.place + n ≤ length ids
    → ((k : ℕ) → k < n → get_or ids (walk.place + k) 0 ≡ id + k) → ((k : ℕ) → k < n → is_quiet around.Group false (item_class arena (id + k)) ≡ true)
    → Passes arena begins ids walk bodies waiting → Passes arena begins ids (record walk { place = walk.place + n }) bodies waiting
quiet_group arena begins ids walk bodies waiting id zero here stays within row quiet on =
    let e : walk.place ≡ walk.place + 0 = omega arith in
    subst (λ k. Passes arena begins ids (record walk { place = k }) bodies waiting) e on
quiet_group arena begins ids walk bodies waiting id (suc n) here stays within row quiet on =
    let e : walk.place + n + 1 ≡ walk.place + suc n = omega arith in
    let never = ap (λ (a : Around). may_end walk a id) here in
    subst (λ k. Passes arena begins ids (record walk { place = k }) bodies waiting) e
    (quiet_row arena begins ids walk (record walk { place = walk.place + n + 1 }) bodies waiting around.Group id n (item_class arena (id + n)) (sym here) stays never (λ body. cc)
    (λ k below. (omega (arith, below, within), ap (λ j. is_quiet around.Group false (item_class arena j)) (row k (omega (arith, below))) ∙ quiet k (omega (arith, below))))
    (λ k low. row k (omega (arith, low))) refl refl on)

-- ## A group with groups in it

-- what the tokens of a group change
abbrev IsLike : Walk → Walk → Type 0
IsLike next walk =
    walk ≡ record next { place = walk.place; asked = walk.asked; behind = walk.behind; last = record next.last { class = walk.last.class; id = walk.last.id; apart = walk.last.apart } }

abbrev kinds_of : List Opener → List TokenClass
kinds_of openers = map (λ (o : Opener). o.kind) openers

left_more : (bodies : List Head) (waiting openers : List Opener) → is_left bodies waiting ≡ false → is_left bodies (openers ++ waiting) ≡ false
left_more bodies waiting [] stays = stays
left_more bodies waiting (opener ∷ openers) stays = still_left bodies opener (openers ++ waiting) (left_more bodies waiting openers stays)

record Opens (class : TokenClass) : Type 0 where
  bracket : is_bracket class ≡ true
  flat : is_open_brace class ≡ false
  grows : (place : ℕ) (waiting : List Opener) → waiting_behind class place waiting ≡ record { place = place + 1; kind = class } ∷ waiting

opens_so : (class : TokenClass) → opens_group class ≡ true → Opens class
opens_so OpenRound is = record { bracket = refl; flat = refl; grows = λ place waiting. refl }
opens_so OpenSquare is = record { bracket = refl; flat = refl; grows = λ place waiting. refl }
opens_so _ is = cc

-- the kinds that wait behind a closing bracket, and behind a quiet token
pub closer_kinds : (kind class : TokenClass) (kinds : List TokenClass) → closes_group kind class ≡ true → kinds_behind (kind ∷ kinds) class ≡ kinds
closer_kinds OpenRound closer kinds is = by_round closer is
  where
    by_round : (closer : TokenClass) → is_close_round closer ≡ true → kinds_behind (OpenRound ∷ kinds) closer ≡ kinds
    by_round CloseRound is = refl
    by_round _ is = cc
closer_kinds OpenSquare CloseSquare kinds is = refl
closer_kinds OpenSquare _ kinds is = cc
closer_kinds _ closer kinds is = cc

pub quiet_kinds : (kinds : List TokenClass) (class : TokenClass) → is_quiet around.Group false class ≡ true → kinds_behind kinds class ≡ kinds
quiet_kinds kinds OpenRound is = cc
quiet_kinds kinds CloseRound is = cc
quiet_kinds kinds OpenSquare is = cc
quiet_kinds kinds CloseSquare is = cc
quiet_kinds kinds OpenBrace is = cc
quiet_kinds kinds CloseBrace is = cc
quiet_kinds kinds _ is = refl

three : (a b c : Bool) → a || b || c ≡ true → (a ≡ true) ⊎ ((b ≡ true) ⊎ (c ≡ true))
three true b c is = inl refl
three false true c is = inr (inl refl)
three false false true is = inr (inr refl)
three false false false is = cc

-- a bracket of a group
bracket_reading : (arena : Contents) (next walk : Walk) (stands : Around) (id : ℕ) (class : TokenClass) → IsLike next walk → stands ≡ around.Group → is_bracket class ≡ true → GoesOn (group_passed next (walk.place + 1) id class) ≡ reading arena walk stands id class
bracket_reading arena next walk stands id class like here bracket =
    ap (λ (w : Walk). GoesOn (past_bracket (record w { place = walk.place }) id class)) (sym like)
    ∙ (ap (λ b. GoesOn (if b then past_bracket walk id class else past_other walk class)) (sym bracket) ∙ ap (λ (a : Around). reading arena walk a id class) (sym here))

module _ (arena : Contents) (begins : Option Place) (ids : List ℕ) (next : Walk) (bodies : List Head) (waiting : List Opener) (stays : is_left bodies waiting ≡ false) (end last : ℕ) (closer : TokenClass) where
  -- behind the whole group
  abbrev Behind : Type 0
  Behind = Passes arena begins ids (group_passed next end last closer) bodies waiting

  -- the tokens that are left of it
  record IsRest (walk : Walk) (id : ℕ) (tokens : List TokenClass) : Type 0 where
    ends : walk.place + length tokens ≡ end
    lasts : id + length tokens ≡ last + 1
    row : (k : ℕ) → k < length tokens → get_or ids (walk.place + k) 0 ≡ id + k
    classes : (k : ℕ) → k < length tokens → get_or tokens k If ≡ item_class arena (id + k)
    like : IsLike next walk

  later : (walk after : Walk) (id : ℕ) (class : TokenClass) (tokens : List TokenClass) → IsRest walk id (class ∷ tokens) → after.place ≡ walk.place + 1 → IsLike next after → IsRest after (id + 1) tokens
  later walk after id class tokens rest one like = record {
    ends = (let e = rest.ends in omega (arith, e, one));
    lasts = (let e = rest.lasts in omega (arith, e));
    row = λ k below. ap (λ j. get_or ids j 0) (omega (arith, one)) ∙ (rest.row (k + 1) (omega (arith, below)) ∙ omega arith);
    classes = λ k below. sym (get_or_more class tokens k) ∙ (rest.classes (k + 1) (omega (arith, below)) ∙ ap (λ j. item_class arena j) (omega arith));
    like = like;
  }
    where
      get_or_more : (class : TokenClass) (tokens : List TokenClass) (k : ℕ) → get_or (class ∷ tokens) (k + 1) If ≡ get_or tokens k If
      get_or_more class tokens k = rw add-one refl

  finish : (walk : Walk) (id : ℕ) (class : TokenClass) (tokens : List TokenClass) → closer ≡ item_class arena last → IsRest walk id (class ∷ tokens) → tokens ≡ [] → Passes arena begins ids (group_passed next (walk.place + 1) id class) bodies waiting → Behind
  finish walk id class tokens told rest none on =
      let few : length tokens ≡ 0 = ap (λ (ts : List TokenClass). length ts) none in
      let ends = rest.ends in
      let lasts = rest.lasts in
      let place : walk.place + 1 ≡ end = omega (arith, ends, few) in
      let at : id ≡ last = omega (arith, lasts, few) in
      let is : class ≡ closer = rest.classes 0 (omega arith) ∙ (ap (λ j. item_class arena j) (omega (arith, at)) ∙ sym told) in
      subst (λ (c : TokenClass). Passes arena begins ids (group_passed next end last c) bodies waiting) is
      (subst (λ j. Passes arena begins ids (group_passed next end j class) bodies waiting) at (subst (λ k. Passes arena begins ids (group_passed next k id class) bodies waiting) place on))

  behind_closer : (walk : Walk) (id : ℕ) (class : TokenClass) (tokens : List TokenClass) → closer ≡ item_class arena last → IsRest walk id (class ∷ tokens)
      → ((o : Opener) (openers : List Opener) → ClosesGroup (o.kind ∷ kinds_of openers) tokens → Passes arena begins ids (group_passed next (walk.place + 1) id class) bodies (o ∷ (openers ++ waiting)) → Behind) → (openers : List Opener) → ClosesGroup (kinds_of openers) tokens
      → Passes arena begins ids (group_passed next (walk.place + 1) id class) bodies (openers ++ waiting) → Behind
  behind_closer walk id class tokens told rest goes [] closes on = finish walk id class tokens told rest (none_left_of tokens closes) on
    where
      none_left_of : (tokens : List TokenClass) → ClosesGroup [] tokens → tokens ≡ []
      none_left_of [] closes = refl
      none_left_of (token ∷ tokens) closes = (let no = closes.0 in cc)
  behind_closer walk id class tokens told rest goes (o ∷ openers) closes on = goes o openers closes on

  group_on : (tokens : List TokenClass) (walk : Walk) (id : ℕ) (o : Opener) (openers : List Opener) → end ≤ length ids → closer ≡ item_class arena last → IsRest walk id tokens → ClosesGroup (o.kind ∷ kinds_of openers) tokens
      → Passes arena begins ids walk bodies (o ∷ (openers ++ waiting)) → Behind
  group_on [] walk id o openers within told rest closes on = cc
  group_on (class ∷ tokens) walk id o openers within told rest closes on =
      let inner = left_more bodies waiting openers stays in
      let here = in_it bodies o (openers ++ waiting) inner in
      let still = still_left bodies o (openers ++ waiting) inner in
      let ends = rest.ends in
      let below : walk.place < length ids = omega (arith, ends, within) in
      let at : get_or ids walk.place 0 ≡ id = ap (λ k. get_or ids k 0) (omega arith) ∙ (rest.row 0 (omega arith) ∙ omega arith) in
      let is : class ≡ item_class arena id = rest.classes 0 (omega arith) ∙ ap (λ j. item_class arena j) (omega arith) in
      let after = group_passed next (walk.place + 1) id class in
      elim (three (opens_group class) (closes_group o.kind class) (is_quiet around.Group false class) closes.0) [
        | inl opens ↦
            let so = opens_so class opens in
            let deeper : Opener = record { place = walk.place + 1; kind = class } in
            let on_it = step arena begins ids walk after bodies (o ∷ (openers ++ waiting)) (deeper ∷ (o ∷ (openers ++ waiting))) id class below refl at is (bracket_reading arena next walk _ id class rest.like here so.bracket) so.flat
            (sym (so.grows walk.place (o ∷ (openers ++ waiting)))) (still_left bodies deeper (o ∷ (openers ++ waiting)) still) on in
            group_on tokens after (id + 1) deeper (o ∷ openers) within told (later walk after id class tokens rest refl refl)
            (subst (λ (kinds : List TokenClass). ClosesGroup kinds tokens) (ap (λ b. if b then class ∷ (o.kind ∷ kinds_of openers) else (if is_bracket class then kinds_of openers else o.kind ∷ kinds_of openers)) opens) closes.1) on_it
        | inr (inl shuts) ↦
            let so = group_of o.kind class shuts in
            let on_it = step arena begins ids walk after bodies (o ∷ (openers ++ waiting)) (openers ++ waiting) id class below refl at is (bracket_reading arena next walk _ id class rest.like here so.bracket) so.closes
            (sym (so.taken o.place walk.place (openers ++ waiting))) inner on in
            behind_closer walk id class tokens told rest (λ p ps shut past. group_on tokens after (id + 1) p ps within told (later walk after id class tokens rest refl refl) shut past) openers
            (subst (λ (kinds : List TokenClass). ClosesGroup kinds tokens) (closer_kinds o.kind class (kinds_of openers) shuts) closes.1) on_it
        | inr (inr quiet) ↦
            let past : Walk = record walk { place = walk.place + 1 } in
            let on_it = quiet_group arena begins ids walk bodies (o ∷ (openers ++ waiting)) id 1 here still (omega (arith, below))
            (λ k low. rest.row k (omega (arith, low))) (λ k low. ap (λ (c : TokenClass). is_quiet around.Group false c) (ap (λ j. item_class arena j) (omega (arith, low)) ∙ sym is) ∙ quiet) on in
            group_on tokens past (id + 1) o openers within told (later walk past id class tokens rest refl (ap (λ (w : Walk). record w { place = walk.place + 1 }) rest.like))
            (subst (λ (kinds : List TokenClass). ClosesGroup kinds tokens) (quiet_kinds (o.kind ∷ kinds_of openers) class quiet) closes.1) on_it
      ]

group_row : (arena : Contents) (begins : Option Place) (ids : List ℕ) (walk next : Walk) (bodies : List Head) (waiting : List Opener) (id len : ℕ) (opener closer : TokenClass) (tokens : List TokenClass) → walk.place + len < length ids
    → ((k : ℕ) → k ≤ len → get_or ids (walk.place + k) 0 ≡ id + k) → length tokens ≡ len → ((k : ℕ) → k < len → get_or tokens k If ≡ item_class arena (id + 1 + k)) → opens_group opener ≡ true → ClosesGroup (opener ∷ []) tokens
    → opener ≡ item_class arena id → closer ≡ item_class arena (id + len) → next.place ≡ walk.place + 1 → GoesOn next ≡ reading arena walk (around_of bodies waiting) id opener → is_left bodies waiting ≡ false
    → Passes arena begins ids walk bodies waiting → Passes arena begins ids (group_passed next (walk.place + 1 + len) (id + len) closer) bodies waiting
group_row arena begins ids walk next bodies waiting id len opener closer tokens within row many classes opens closes opener_is closer_is one reads_so stays on =
    let inner : Opener = record { place = walk.place + 1; kind = opener } in
    let so = opens_so opener opens in
    let still = still_left bodies inner waiting stays in
    let at : get_or ids walk.place 0 ≡ id = ap (λ k. get_or ids k 0) (omega arith) ∙ (row 0 (omega arith) ∙ omega arith) in
    let opened = step arena begins ids walk next bodies waiting (inner ∷ waiting) id opener (omega (arith, within)) one at opener_is reads_so so.flat (sym (so.grows walk.place waiting)) still on in
    group_on arena begins ids next bodies waiting stays (walk.place + 1 + len) (id + len) closer tokens next (id + 1) inner [] (omega (arith, within)) closer_is
    (record {
      ends = omega (arith, one, many);
      lasts = omega (arith, many);
      row = λ k below. ap (λ j. get_or ids j 0) (omega (arith, one)) ∙ (row (k + 1) (omega (arith, below, many)) ∙ omega arith);
      classes = λ k below. classes k (omega (arith, below, many));
      like = refl;
    }) closes opened

pub read_group : (arena : Contents) (begins : Option Place) (view : List ℕ) (first : ℕ) (walk next after : Walk) (bodies : List Head) (waiting : List Opener) (braces : ℕ) (read : Reading) (all : List TokenClass) (id len : ℕ) (opener closer d : TokenClass)
    → Increase view → first + walk.place + len < length view → ((k : ℕ) → k ≤ len → get_or (drop first view) (walk.place + k) 0 ≡ id + k) → id + len < length arena.tokens → length all ≡ length arena.tokens → all ≡ item_classes arena
    → IsNext arena (drop first view) walk bodies waiting read id opener → read ≡ GoesOn next → opens_group opener ≡ true → closer ≡ get_or all (id + len) d → ClosesGroup (opener ∷ []) (take len (drop (id + 1) all))
    → after ≡ group_passed next (walk.place + 1 + len) (id + len) closer → IsRead arena begins view first walk bodies waiting braces → IsRead arena begins view first after bodies waiting braces
read_group arena begins view first walk next after bodies waiting braces read all id len opener closer d increase within row stored whole all_is item goes opens closer_is closes is was =
    let ids = drop first view in
    let number = get_or ids walk.place 0 in
    let tokens = take len (drop (id + 1) all) in
    let one = next_place arena ids walk next bodies waiting read id opener item goes in
    let opener_is : opener ≡ item_class arena id = item.class_is ∙ ap (λ n. item_class arena n) (sym item.id_is) in
    let reads_so : GoesOn next ≡ reading arena walk (around_of bodies waiting) id opener =
    sym goes ∙ (item.read_is ∙ (ap (λ n. reading arena walk (around_of bodies waiting) n (item_class arena number)) (sym item.id_is) ∙ ap (λ (c : TokenClass). reading arena walk (around_of bodies waiting) id c) (sym item.class_is))) in
    let told : closer ≡ item_class arena (id + len) = closer_is ∙ class_told arena all (id + len) d all_is stored in
    let many : length tokens ≡ len = length-take-le len (drop (id + 1) all) (omega (arith, length-drop (id + 1) all, whole, stored)) in
    let classes : (k : ℕ) → k < len → get_or tokens k If ≡ item_class arena (id + 1 + k) =
    λ k below. get_or-take len (drop (id + 1) all) k If below ∙ (get_or-drop (id + 1) all k If ∙ class_told arena all (id + 1 + k) If all_is (omega (arith, below, stored))) in
    let on = group_row arena begins ids walk next bodies waiting id len opener closer tokens (omega (arith, within, length-drop first view)) row many classes opens closes opener_is told one reads_so (none_left bodies waiting was.holds) was.on in
    read_quiet arena begins view first len walk after bodies waiting braces increase (ap (λ (w : Walk). w.place) is ∙ omega arith)
    (subst (λ (w : Walk). Passes arena begins ids w bodies waiting) (sym is) on) was
