-- Tokens in a row that tell nothing.
use Rattle.std.proofs.Common.{◌≡◌, ◌∙◌, ℕ, zero, suc, ◌+◌, ◌<◌, ◌≤◌, Bool, true, false, ◌==◌, nat_le, not, ◌&&◌}
use Rattle.std.proofs.Common.{◌||◌, Option, None, List, [], length, get_or, refl, sym, ap, subst, arith}
use Rattle.std.specs.Prelude.{if◌then◌else◌}
use Rattle.std.proofs.lemmas.Bool.Decides.{nat_tests}
use Rattle.token_arena.specs.Gaps.{Contents}
use Rattle.token_classes.specs.declared.class.TokenClass.{TokenClass}
use Rattle.token_classes.specs.declared.class.TokenClass.TheVariants.{OpenRound, CloseRound, OpenSquare, CloseSquare}
use Rattle.token_classes.specs.declared.class.TokenClass.TheVariants.{OpenBrace, CloseBrace}
use Rattle.token_classes.specs.Classes.{is_bracket, is_comment, is_control, is_open_brace}
use Rattle.token_classes.specs.Classes.{is_open_round, is_opener, is_semicolon}
use Rattle.item_classes.specs.Viewed.{item_class}
use Rattle.token_classes.specs.declared.pairing.Opener.{Opener}
use Rattle.token_classes.specs.Partners.{Matching}
use Rattle.token_classes.proofs.BracketLemmas.{other_step}
use Rattle.part_walk.specs.declared.walk.Around.{Around}
use Rattle.part_walk.specs.declared.walk.Around.TheVariants as around
use Rattle.part_walk.specs.declared.bodies.Head.{Head}
use Rattle.part_walk.specs.declared.walk.Headed.{Headed}
use Rattle.part_walk.specs.declared.walk.Walk.{Walk}
use Rattle.part_walk.specs.Places.{Place}
use Rattle.part_walk.specs.Reading.{Reading, GoesOn}
use Rattle.view_parts.specs.Quiet.{is_group, is_held, is_quiet, is_telling}
use Rattle.part_walk.specs.Steps.{may_end, passed, plain_passed}
use Rattle.part_walk.proofs.PlainTokens.{IsPlain, held_of, plain_reading}
use Rattle.part_walk.specs.Walk.{begun_before, body_kind}
use Rattle.part_walk.specs.Walk.{head_of_kind, headed_by, heads_len}
use Rattle.part_walk.specs.Walk.{in_group, is_body, is_label, is_record}
use Rattle.part_walk.specs.Walk.{opened_head, past_bracket}
use Rattle.part_walk.specs.Walk.{reading}
use Rattle.part_walk.specs.Brackets.{around_of, bodies_behind, is_left, left_innermost, waiting_behind, walk_behind}
use Rattle.part_walk.specs.Brackets.{without_innermost}
use Rattle.view_parts.proofs.Walked.{Passes, goes_on}

differ : true ≡ false → ⊥
differ e = cc

or_none : (b x : Bool) → b ≡ b || (false && x)
or_none true x = refl
or_none false x = refl

or_false : (b : Bool) → b ≡ b || false
or_false true = refl
or_false false = refl

no_opener : (class : TokenClass) → is_bracket class ≡ false → is_opener class ≡ false
no_opener OpenRound is = cc
no_opener OpenSquare is = cc
no_opener OpenBrace is = cc
no_opener _ is = refl

pub quiet_waits : (class : TokenClass) (place : ℕ) (waiting : List Opener) → is_bracket class ≡ false → waiting ≡ waiting_behind class place waiting
quiet_waits class place waiting is =
    ap (λ (m : Matching). m.open_brackets)
    (other_step class (place + 1) (record { open_brackets = waiting; partners = [] }) (no_opener class is) (λ e. none CloseRound e refl) (λ e. none CloseSquare e refl) (λ e. none CloseBrace e refl))
  where
    none : (kind : TokenClass) → class ≡ kind → is_bracket kind ≡ true → ⊥
    none kind e bracket = differ (sym bracket ∙ (ap (λ (c : TokenClass). is_bracket c) (sym e) ∙ is))

-- ## In a body

no_round : (class : TokenClass) → is_bracket class ≡ false → is_open_round class ≡ false
no_round OpenRound never = cc
no_round _ never = refl

no_brace : (class : TokenClass) → is_bracket class ≡ false → is_open_brace class ≡ false
no_brace OpenBrace never = cc
no_brace _ never = refl

plain_of : (held : Bool) (class : TokenClass) → is_bracket class ≡ false → not (is_telling held class) ≡ true → IsPlain held class
plain_of held class flat quiet =
    let none = none_told (is_label class) (is_control class) (is_record class) (held && is_semicolon class) quiet in
    record { label = none.0; control = none.1; record_word = none.2; brace = no_brace class flat; ends = none.3 }
  where
    none_told : (label control word ends : Bool) → not (label || control || word || ends) ≡ true → (label ≡ false) × (control ≡ false) × (word ≡ false) × (ends ≡ false)
    none_told false false false false e = (refl, refl, refl, refl)
    none_told true control word ends e = cc
    none_told false true word ends e = cc
    none_told false false true ends e = cc
    none_told false false false true e = cc

quiet_body : (walk : Walk) (id : ℕ) (class : TokenClass) → is_bracket class ≡ false → passed walk around.Body (walk.place + 1) id class ≡ plain_passed walk id class
quiet_body walk id class flat = by_round (is_open_round class) (no_round class flat)
  where
    made : Headed → Walk
    made headed = record walk { place = walk.place + 1; asked = None; behind = id + 1; last = record walk.last { class = class; id = id; headed = headed } }

    by_round : (round : Bool) → round ≡ false → made walk.last.headed ≡ made (if round then headed_by walk.last.class else walk.last.headed)
    by_round true e = absurd (differ e)
    by_round false e = refl

-- ## In a group

none_false : (a b c d : Bool) → a ≡ false → b ≡ false → c ≡ false → d ≡ false → a || b || c || d ≡ false
none_false a b c d e f g h = cc

quiet_group : (walk : Walk) (id : ℕ) (class : TokenClass) → is_bracket class ≡ false → is_comment class ≡ false → passed walk around.Group (walk.place + 1) id class ≡ in_group walk id class
quiet_group walk id class flat silent = by_kind (is_bracket class) (is_comment class) flat silent
  where
    made : Bool → Bool → Walk
    made outer inner = record walk { place = walk.place + 1; declaration = record walk.declaration { commented = outer }; last = record walk.last { commented = inner } }

    by_kind : (bracket comment : Bool) → bracket ≡ false → comment ≡ false
        → made walk.declaration.commented walk.last.commented
        ≡ (if bracket then past_bracket walk id class else made (walk.declaration.commented || (comment && not (is_body walk.declaration.before))) (walk.last.commented || comment))
    by_kind true comment e f = absurd (differ e)
    by_kind false true e f = absurd (differ f)
    by_kind false false e f =
        ap (λ b. made b walk.last.commented) (or_none walk.declaration.commented (not (is_body walk.declaration.before)))
        ∙ ap (λ b. made (walk.declaration.commented || (false && not (is_body walk.declaration.before))) b) (or_false walk.last.commented)

-- ## Behind them

none_of : (a b c : Bool) → not a && not b && c ≡ true → (a ≡ false) × (b ≡ false) × (c ≡ true)
none_of true true c e = cc
none_of true false c e = cc
none_of false true c e = cc
none_of false false c e = (refl, refl, e)

quiet_reading : (arena : Contents) (walk : Walk) (stands : Around) (id : ℕ) (class : TokenClass) → may_end walk stands id ≡ false → is_bracket class ≡ false → is_comment class ≡ false → is_group stands || not (is_telling (is_held walk) class) ≡ true
    → GoesOn (passed walk stands (walk.place + 1) id class) ≡ reading arena walk stands id class
quiet_reading arena walk around.Outside id class never flat silent word = absurd (differ never)
quiet_reading arena walk around.Group id class never flat silent word = ap (λ (w : Walk). GoesOn w) (quiet_group walk id class flat silent)
quiet_reading arena walk around.Body id class never flat silent word =
    ap (λ (w : Walk). GoesOn w) (quiet_body walk id class flat)
    ∙ plain_reading arena walk id class never silent (plain_of (is_held walk) class flat word)

opens_none : (walk : Walk) (stands : Around) (bodies : List Head) (id : ℕ) (class : TokenClass) → is_bracket class ≡ false → opened_head walk stands bodies id class ≡ None
opens_none walk stands bodies id class flat = by_brace (is_open_brace class) (no_brace class flat)
  where
    by_brace : (brace : Bool) → brace ≡ false → (if brace then head_of_kind (body_kind walk stands) (begun_before walk stands id) walk.place id (heads_len bodies) else None) ≡ None
    by_brace true e = absurd (differ e)
    by_brace false e = refl

-- behind a token that is no bracket
pub flat_passes : (arena : Contents) (begins : Option Place) (ids : List ℕ) (walk next : Walk) (bodies : List Head) (waiting : List Opener) (read : Reading) → walk.place < length ids → next.place ≡ walk.place + 1 → read ≡ GoesOn next
    → read ≡ reading arena walk (around_of bodies waiting) (get_or ids walk.place 0) (item_class arena (get_or ids walk.place 0)) → is_bracket (item_class arena (get_or ids walk.place 0)) ≡ false → is_left bodies waiting ≡ false
    → Passes arena begins ids walk bodies waiting → Passes arena begins ids next bodies waiting
flat_passes arena begins ids walk next bodies waiting read below one made is flat stays on =
    let stands = around_of bodies waiting in
    let number = get_or ids walk.place 0 in
    let head = opened_head walk stands bodies number (item_class arena number) in
    let past = goes_on arena begins ids walk next bodies waiting waiting read below one made is (quiet_waits (item_class arena number) walk.place waiting flat) on in
    let opens : head ≡ None = opens_none walk stands bodies number (item_class arena number) flat in
    let unopened : Passes arena begins ids (walk_behind next bodies waiting None number) (bodies_behind bodies waiting None) waiting =
    subst (λ (o : Option Head). Passes arena begins ids (walk_behind next bodies waiting o number) (bodies_behind bodies waiting o) waiting) opens past in
    subst (λ b. Passes arena begins ids (if b then left_innermost next bodies number else next) (if b then without_innermost bodies else bodies) waiting) stays unopened

-- behind one of them
quiet_passes : (arena : Contents) (begins : Option Place) (ids : List ℕ) (walk : Walk) (bodies : List Head) (waiting : List Opener) (id : ℕ) (class : TokenClass) → walk.place < length ids → get_or ids walk.place 0 ≡ id → class ≡ item_class arena id
    → is_left bodies waiting ≡ false → may_end walk (around_of bodies waiting) id ≡ false → is_quiet (around_of bodies waiting) (is_held walk) class ≡ true → Passes arena begins ids walk bodies waiting
    → Passes arena begins ids (passed walk (around_of bodies waiting) (walk.place + 1) id class) bodies waiting
quiet_passes arena begins ids walk bodies waiting id class below at told stays never quiet on =
    let stands = around_of bodies waiting in
    let number = get_or ids walk.place 0 in
    let none = none_of (is_bracket class) (is_comment class) (is_group stands || not (is_telling (is_held walk) class)) quiet in
    let next = passed walk stands (walk.place + 1) id class in
    let same : item_class arena number ≡ class = ap (λ n. item_class arena n) at ∙ sym told in
    let reads_so : GoesOn next ≡ reading arena walk stands number (item_class arena number) =
    quiet_reading arena walk stands id class never none.0 none.1 none.2
    ∙ (ap (λ n. reading arena walk stands n class) (sym at) ∙ ap (λ (c : TokenClass). reading arena walk stands number c) (sym same)) in
    let flat : is_bracket (item_class arena number) ≡ false = ap (λ (c : TokenClass). is_bracket c) same ∙ none.0 in
    flat_passes arena begins ids walk next bodies waiting (GoesOn next) below (one stands) refl reads_so flat stays on
  where
    one : (stands : Around) → (passed walk stands (walk.place + 1) id class).place ≡ walk.place + 1
    one around.Outside = refl
    one around.Body = refl
    one around.Group = refl

-- Tokens from the next one on, so many of them, tell nothing.
abbrev pub AreQuiet : Contents → Around → Bool → List ℕ → ℕ → ℕ → Type 0
AreQuiet arena stands held ids place n = (k : ℕ) → k < n → (place + k < length ids) × (is_quiet stands held (item_class arena (get_or ids (place + k) 0)) ≡ true)

next_may : (walk : Walk) (stands : Around) (id first place last : ℕ) (class : TokenClass) → (stands ≡ around.Body → place < 512) → may_end walk stands first ≡ false → id ≡ last + 1 → may_end (passed walk stands place last class) stands id ≡ false
next_may walk around.Outside id first place last class low never e = never
next_may walk around.Group id first place last class low never e = refl
next_may walk around.Body id first place last class low never e =
    let is = held_of walk first never in
    let few = low refl in
    none_false (not (id == last + 1)) walk.last.apart (nat_le 512 place) walk.last.structure (no_gap) is.apart (near few) is.structure
  where
    no_gap : not (id == last + 1) ≡ false
    no_gap = grind (arith, nat_tests, e)

    near : place < 512 → nat_le 512 place ≡ false
    near few = grind (arith, nat_tests, few)

passed_twice : (walk : Walk) (stands : Around) (place last later behind : ℕ) (old class : TokenClass) → passed (passed walk stands place last old) stands later behind class ≡ passed walk stands later behind class
passed_twice walk around.Outside place last later behind old class = refl
passed_twice walk around.Group place last later behind old class = refl
passed_twice walk around.Body place last later behind old class = refl

held_same : (walk : Walk) (stands : Around) (place last : ℕ) (class : TokenClass) → is_held (passed walk stands place last class) ≡ is_held walk
held_same walk around.Outside place last class = refl
held_same walk around.Body place last class = refl
held_same walk around.Group place last class = refl

-- behind all of them
pub quiet_row : (arena : Contents) (begins : Option Place) (ids : List ℕ) (walk next : Walk) (bodies : List Head) (waiting : List Opener) (stands : Around) (id n : ℕ) (class : TokenClass) → stands ≡ around_of bodies waiting
    → is_left bodies waiting ≡ false → may_end walk (around_of bodies waiting) id ≡ false → (stands ≡ around.Body → walk.place + n < 512)
    → AreQuiet arena stands (is_held walk) ids walk.place (1 + n) → ((k : ℕ) → k ≤ n → get_or ids (walk.place + k) 0 ≡ id + k) → class ≡ item_class arena (id + n) → next ≡ passed walk stands (walk.place + n + 1) (id + n) class
    → Passes arena begins ids walk bodies waiting → Passes arena begins ids next bodies waiting
quiet_row arena begins ids walk next bodies waiting stands id n class here stays never low quiet row told is on =
    subst (λ (w : Walk). Passes arena begins ids w bodies waiting) (sym (is ∙ ap (λ (a : Around). passed walk a (walk.place + n + 1) (id + n) class) here))
    (by_count n class (λ e. low (here ∙ e)) (subst (λ (a : Around). AreQuiet arena a (is_held walk) ids walk.place (1 + n)) here quiet) row told)
  where
    around_it : Around
    around_it = around_of bodies waiting

    by_count : (n : ℕ) (class : TokenClass) → (around_it ≡ around.Body → walk.place + n < 512) → AreQuiet arena around_it (is_held walk) ids walk.place (1 + n) → ((k : ℕ) → k ≤ n → get_or ids (walk.place + k) 0 ≡ id + k) → class ≡ item_class arena (id + n)
        → Passes arena begins ids (passed walk around_it (walk.place + n + 1) (id + n) class) bodies waiting
    by_count zero class low quiet row told =
        let here = quiet 0 (omega arith) in
        let p : walk.place + 0 ≡ walk.place = omega arith in
        let q : id + 0 ≡ id = omega arith in
        let at : get_or ids walk.place 0 ≡ id = ap (λ k. get_or ids k 0) (sym p) ∙ (row 0 (omega arith) ∙ q) in
        let class_is : class ≡ item_class arena id = told ∙ ap (λ k. item_class arena k) q in
        let same : item_class arena (get_or ids (walk.place + 0) 0) ≡ class = ap (λ k. item_class arena k) (row 0 (omega arith)) ∙ sym told in
        let silent = ap (λ (c : TokenClass). is_quiet around_it (is_held walk) c) (sym same) ∙ here.1 in
        let one = quiet_passes arena begins ids walk bodies waiting id class (omega (arith, here.0)) at class_is stays never silent on in
        subst (λ k. Passes arena begins ids (passed walk around_it (k + 1) (id + 0) class) bodies waiting) (sym p) (subst (λ k. Passes arena begins ids (passed walk around_it (walk.place + 1) k class) bodies waiting) (sym q) one)
    by_count (suc n) class low quiet row told =
        let old = item_class arena (id + n) in
        let less : around_it ≡ around.Body → walk.place + n < 512 = λ e. (let few = low e in omega (arith, few)) in
        let near : around_it ≡ around.Body → walk.place + n + 1 < 512 = λ e. (let few = low e in omega (arith, few)) in
        let earlier = by_count n old less (λ k below. quiet k (omega (arith, below))) (λ k low. row k (omega (arith, low))) refl in
        let before = passed walk around_it (walk.place + n + 1) (id + n) old in
        let here = quiet (suc n) (omega arith) in
        let p : walk.place + suc n ≡ walk.place + n + 1 = omega arith in
        let q : id + suc n ≡ id + n + 1 = omega arith in
        let at : get_or ids (walk.place + n + 1) 0 ≡ id + suc n = ap (λ k. get_or ids k 0) (sym p) ∙ row (suc n) (omega arith) in
        let same : item_class arena (get_or ids (walk.place + suc n) 0) ≡ class = ap (λ k. item_class arena k) (row (suc n) (omega arith)) ∙ sym told in
        let held = held_same walk around_it (walk.place + n + 1) (id + n) old in
        let silent = ap (λ b. is_quiet around_it b class) held ∙ (ap (λ (c : TokenClass). is_quiet around_it (is_held walk) c) (sym same) ∙ here.1) in
        let may = next_may walk around_it (id + suc n) id (walk.place + n + 1) (id + n) old near never q in
        let stood : before.place ≡ walk.place + n + 1 = placed around_it (walk.place + n + 1) (id + n) old in
        let inside : before.place < length ids = omega (arith, here.0, stood) in
        let found : get_or ids before.place 0 ≡ id + suc n = ap (λ k. get_or ids k 0) stood ∙ at in
        let one = quiet_passes arena begins ids before bodies waiting (id + suc n) class inside found told stays may silent earlier in
        let two : Passes arena begins ids (passed walk around_it (before.place + 1) (id + suc n) class) bodies waiting =
        subst (λ (w : Walk). Passes arena begins ids w bodies waiting) (passed_twice walk around_it (walk.place + n + 1) (id + n) (before.place + 1) (id + suc n) old class) one in
        let three : Passes arena begins ids (passed walk around_it (walk.place + n + 1 + 1) (id + suc n) class) bodies waiting =
        subst (λ k. Passes arena begins ids (passed walk around_it (k + 1) (id + suc n) class) bodies waiting) stood two in
        subst (λ k. Passes arena begins ids (passed walk around_it (k + 1) (id + suc n) class) bodies waiting) (sym p) three
      where
        placed : (stands : Around) (place last : ℕ) (old : TokenClass) → (passed walk stands place last old).place ≡ place
        placed around.Outside place last old = refl
        placed around.Body place last old = refl
        placed around.Group place last old = refl
