-- What comes of a token of a body that is no comment, closes nothing and begins no statement, where no part can end.
use Rattle.std.proofs.Common.{◌≡◌, ◌∙◌, ℕ, ◌+◌, ◌-◌, Bool, true, false, ◌==◌, nat_le, nat_lt, not, ◌&&◌, ◌||◌, Option, Some, None, refl, sym, ap, arith}
use Rattle.std.specs.Prelude.{if◌then◌else◌}
use Rattle.std.proofs.lemmas.Bool.Decides.{nat_tests}
use Rattle.std.proofs.Math.Bool.{and-true}
use Rattle.token_arena.specs.Gaps.{Contents}
use Rattle.token_classes.specs.declared.class.TokenClass.{TokenClass}
use Rattle.token_classes.specs.declared.class.TokenClass.TheVariants.{OpenRound, OpenSquare, Else}
use Rattle.token_classes.specs.Classes.{is_call_word, is_comment, is_control, is_else, is_open_brace, is_open_round}
use Rattle.token_classes.specs.Classes.{is_semicolon, is_word}
use Rattle.part_walk.specs.declared.walk.Around.TheVariants as around
use Rattle.part_walk.specs.declared.walk.Begun.{Begun}
use Rattle.part_walk.specs.declared.walk.Begun.TheVariants.{Unknown, With, Behind}
use Rattle.part_walk.specs.declared.bodies.Head.{Head}
use Rattle.part_walk.specs.declared.walk.LastToken.{LastToken}
use Rattle.part_walk.specs.declared.walk.Walk.{Walk}
use Rattle.part_walk.specs.Reading.{GoesOn}
use Rattle.part_walk.specs.Steps.{opens_group, plain_passed, tells_end}
use Rattle.part_walk.specs.Walk.{begins_behind, begins_block, end_in_body, ends_apart, ends_in_row, ends_inside_or}
use Rattle.part_walk.specs.Walk.{goes_on_with, headed_by, heads_structure, in_body, is_apart, is_label, is_leading}
use Rattle.part_walk.specs.Walk.{is_record, kept_begun, next_begun, next_last, parts_statements, past_comment, reading}

differ : true ≡ false → ⊥
differ e = cc

-- where a label holds the part's end or none does, a token that begins no statement, ends none and opens no body
pub record IsPlain (held : Bool) (class : TokenClass) : Type 0 where
  pub label : is_label class ≡ false
  pub control : is_control class ≡ false
  pub record_word : is_record class ≡ false
  pub brace : is_open_brace class ≡ false
  pub ends : held && is_semicolon class ≡ false

-- what is known where no token may tell the end by its class
pub record IsHeld (walk : Walk) (id : ℕ) : Type 0 where
  pub row : not (id == walk.behind) ≡ false
  pub apart : walk.last.apart ≡ false
  pub low : nat_le 512 walk.place ≡ false
  pub structure : walk.last.structure ≡ false

pub held_of : (walk : Walk) (id : ℕ) → tells_end walk id ≡ false → IsHeld walk id
held_of walk id never =
    let all = all_false (not (id == walk.behind)) walk.last.apart (nat_le 512 walk.place) walk.last.structure never in
    record { row = all.0; apart = all.1; low = all.2; structure = all.3 }
  where
    all_false : (a b c d : Bool) → a || b || c || d ≡ false → (a ≡ false) × (b ≡ false) × (c ≡ false) × (d ≡ false)
    all_false false false false false is = (refl, refl, refl, refl)
    all_false true b c d is = cc
    all_false false true c d is = cc
    all_false false false true d is = cc
    all_false false false false true is = cc

-- `else` is the word of a control statement
no_else : (class : TokenClass) → is_control class ≡ false → is_else class ≡ false
no_else Else e = cc
no_else _ e = refl

plain_begun : (walk : Walk) (id : ℕ) (class : TokenClass) → IsPlain (nat_lt 0 walk.last.held) class → walk.begun ≡ next_begun walk id class
plain_begun walk id class plain = by_begins (begins_behind walk.last) (is_leading class) leads_none
  where
    by_word : (control other word brace : Bool) → control ≡ false → word ≡ false → brace ≡ false → ((control && not other) || (word || brace)) ≡ false
    by_word false other false false e f g = refl
    by_word true other word brace e f g = absurd (differ e)
    by_word false other true brace e f g = absurd (differ f)
    by_word false other false true e f g = absurd (differ g)

    leads_none : is_leading class ≡ false
    leads_none = by_word (is_control class) (is_else class) (is_record class) (is_open_brace class) plain.control plain.record_word plain.brace

    by_kind : (leads other goes : Bool) (head : Head) → leads ≡ false → other ≡ false → Behind head ≡ (if (leads || other) && not goes then Unknown else Behind head)
    by_kind true other goes head e f = absurd (differ e)
    by_kind false true goes head e f = absurd (differ f)
    by_kind false false goes head e f = refl

    kept : (begun : Begun) → begun ≡ kept_begun walk.last class begun
    kept Unknown = refl
    kept (With token) = refl
    kept (Behind head) = by_kind (is_leading class) (is_else class) (goes_on_with walk.last class) head leads_none (no_else class plain.control)

    by_begins : (begins leads : Bool) → leads ≡ false → walk.begun ≡ (if begins && leads then With (record { id = id; place = walk.place }) else kept_begun walk.last class walk.begun)
    by_begins true true e = absurd (differ e)
    by_begins true false e = kept walk.begun
    by_begins false leads e = kept walk.begun

-- the last token, but that a `(` changes what stands before the group
abbrev with_last : LastToken → ℕ → TokenClass → LastToken
with_last last id class = record last { class = class; id = id; headed = if is_open_round class then headed_by last.class else last.headed }

plain_last : (walk : Walk) (id : ℕ) (class : TokenClass) → IsPlain (nat_lt 0 walk.last.held) class → IsHeld walk id → with_last walk.last id class ≡ next_last walk.place walk.last id class
plain_last walk id class plain is =
    let last = walk.last in
    ap (λ b. made b last.commented last.block last.structure last.held) is.apart
    ∙ (ap (λ b. made false b last.block last.structure last.held) (commented (nat_le 512 walk.place) is.low)
    ∙ (ap (λ (o : Option ℕ). made false (last.commented && not (nat_le 512 walk.place && begins_behind last)) o last.structure last.held) (block (is_open_brace class) plain.brace)
    ∙ (ap (λ (o : Bool). made false (last.commented && not (nat_le 512 walk.place && begins_behind last)) (if is_open_brace class then (if begins_block last then Some id else None) else last.block) o last.held) (structure (is_record class) (is_word class || (is_open_round class && is_call_word last.class)) last.structure is.structure plain.record_word)
    ∙ ap (λ n. made false (last.commented && not (nat_le 512 walk.place && begins_behind last)) (if is_open_brace class then (if begins_block last then Some id else None) else last.block) (heads_structure last class) n) (held (is_semicolon class) (is_label class) plain.ends plain.label))))
  where
    made : Bool → Bool → Option ℕ → Bool → ℕ → LastToken
    made apart commented block structure held =
        record { class = class; id = id; apart = apart; commented = commented; headed = if is_open_round class then headed_by walk.last.class else walk.last.headed; block = block; structure = structure; held = held }

    commented : (far : Bool) → far ≡ false → walk.last.commented ≡ walk.last.commented && not (far && begins_behind walk.last)
    commented true e = absurd (differ e)
    commented false e = by_test walk.last.commented
      where
        by_test : (b : Bool) → b ≡ b && true
        by_test true = refl
        by_test false = refl

    block : (brace : Bool) → brace ≡ false → walk.last.block ≡ (if brace then (if begins_block walk.last then Some id else None) else walk.last.block)
    block true e = absurd (differ e)
    block false e = refl

    structure : (begins in_head was : Bool) → was ≡ false → begins ≡ false → was ≡ begins || (was && in_head)
    structure begins in_head was none e = cc

    none_holds : nat_lt 0 walk.last.held && true ≡ false → walk.last.held ≡ 0
    none_holds e = (let free = sym (and-true (nat_lt 0 walk.last.held)) ∙ e in grind (arith, nat_tests, free))

    held : (semicolon label : Bool) → nat_lt 0 walk.last.held && semicolon ≡ false → label ≡ false → walk.last.held ≡ (if semicolon then walk.last.held - 1 else (if label then 3 else walk.last.held))
    held true label ends e = (let none = none_holds ends in omega (arith, none))
    held false true ends e = absurd (differ e)
    held false false ends e = refl

plain_body : (walk : Walk) (id : ℕ) (class : TokenClass) → IsPlain (nat_lt 0 walk.last.held) class → IsHeld walk id → plain_passed walk id class ≡ in_body walk id class
plain_body walk id class plain is =
    ap (λ (b : Begun). made b (with_last walk.last id class)) (plain_begun walk id class plain) ∙ ap (λ (l : LastToken). made (next_begun walk id class) l) (plain_last walk id class plain is)
  where
    made : Begun → LastToken → Walk
    made begun last = record walk { place = walk.place + 1; asked = None; begun = begun; behind = id + 1; last = last }

plain_end : (walk : Walk) (id : ℕ) (class : TokenClass) → IsHeld walk id → end_in_body walk id class ≡ None
plain_end walk id class is = by_parts (parts_statements walk class) (is_apart walk id) (by_apart walk.last.apart (not (id == walk.behind)) is.apart is.row)
  where
    by_apart : (apart gap : Bool) → apart ≡ false → gap ≡ false → apart || gap ≡ false
    by_apart false false e f = refl
    by_apart true gap e f = absurd (differ e)
    by_apart false true e f = absurd (differ f)

    by_far : (far next silent : Bool) → far ≡ false → (if far && next && silent then Some walk.place else None) ≡ None
    by_far true next silent e = absurd (differ e)
    by_far false next silent e = refl

    by_parts : (parts apart : Bool) → apart ≡ false → (if parts then (if apart then ends_apart walk else ends_in_row walk id) else None) ≡ None
    by_parts false apart e = refl
    by_parts true true e = absurd (differ e)
    by_parts true false e = by_far (nat_le 512 walk.place) (id == walk.last.id + 1) (not walk.last.commented) is.low

pub plain_reading : (arena : Contents) (walk : Walk) (id : ℕ) (class : TokenClass) → tells_end walk id ≡ false → is_comment class ≡ false → IsPlain (nat_lt 0 walk.last.held) class → GoesOn (plain_passed walk id class) ≡ reading arena walk around.Body id class
plain_reading arena walk id class never silent plain =
    let is = held_of walk id never in
    ap (λ (w : Walk). GoesOn w) (plain_body walk id class plain is)
    ∙ (ap (λ (ends : Option ℕ). ends_inside_or ends (in_body walk id class)) (sym (plain_end walk id class is))
    ∙ ap (λ b. if b then GoesOn (past_comment arena walk id) else ends_inside_or (end_in_body walk id class) (in_body walk id class)) (sym silent))

no_ends : (held : Bool) → held && false ≡ false
no_ends true = refl
no_ends false = refl

opener_plain : (held : Bool) (class : TokenClass) → opens_group class ≡ true → IsPlain held class
opener_plain held OpenRound opens = record { label = refl; control = refl; record_word = refl; brace = refl; ends = no_ends held }
opener_plain held OpenSquare opens = record { label = refl; control = refl; record_word = refl; brace = refl; ends = no_ends held }
opener_plain held _ opens = cc

opener_silent : (class : TokenClass) → opens_group class ≡ true → is_comment class ≡ false
opener_silent OpenRound opens = refl
opener_silent OpenSquare opens = refl
opener_silent _ opens = cc

-- behind a `(` or `[`
pub opener_reading : (arena : Contents) (walk : Walk) (id : ℕ) (class : TokenClass) → tells_end walk id ≡ false → opens_group class ≡ true → GoesOn (plain_passed walk id class) ≡ reading arena walk around.Body id class
opener_reading arena walk id class never opens = plain_reading arena walk id class never (opener_silent class opens) (opener_plain (nat_lt 0 walk.last.held) class opens)
