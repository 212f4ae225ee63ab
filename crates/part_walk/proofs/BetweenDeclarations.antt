-- What comes of a comment between declarations.
use Rattle.std.proofs.Common.{◌≡◌, ◌∙◌, ℕ, ◌+◌, Bool, true, false, not, ◌&&◌, ◌||◌, Option, None, Some, refl, sym, ap}
use Rattle.std.specs.Prelude.{if◌then◌else◌}
use Rattle.token_arena.specs.Gaps.{Contents, item_began}
use Rattle.token_classes.specs.declared.class.TokenClass.{TokenClass}
use Rattle.token_classes.specs.declared.class.TokenClass.TheVariants.{LineComment, BlockComment}
use Rattle.token_classes.specs.Classes.{is_comment}
use Rattle.part_walk.specs.declared.walk.Around.TheVariants as around
use Rattle.part_walk.specs.declared.walk.Before.{Before}
use Rattle.part_walk.specs.declared.walk.Before.TheVariants.{Between}
use Rattle.part_walk.specs.declared.walk.Begun.TheVariants.{With}
use Rattle.part_walk.specs.declared.walk.Walk.{Walk}
use Rattle.part_walk.specs.Reading.{GoesOn, Reading}
use Rattle.part_walk.specs.Steps.{comment_passed, follows_between, still_asked}
use Rattle.part_walk.specs.Walk.{asked_at, asked_behind, begins_outside, behind_other, ends_or, is_between, is_between_comments, is_end, outside, reading}

both_told : (a b : Bool) → a && b ≡ true → (a ≡ true) × (b ≡ true)
both_told true true told = (refl, refl)
both_told true false told = cc
both_told false b told = cc

is_between_them : (before : Before) → is_between_comments before ≡ true → before ≡ Between
is_between_them Between told = refl
is_between_them _ told = cc

-- it asks no more than was asked
asks_so : (arena : Contents) (walk : Walk) (id : ℕ) (class : TokenClass) → walk.declaration.before ≡ Between → asked_at arena walk id class ≡ still_asked arena walk id
asks_so arena walk id class between = ap (λ (asked : Option ℕ). if item_began arena id then asked else None) (by_asked walk.asked)
  where
    none : (ends told : Bool) → ends ≡ false → (if ends && told then Some walk.place else None) ≡ None
    none true told e = cc
    none false told e = refl

    by_asked : (asked : Option ℕ) → asked_behind asked walk class ≡ asked
    by_asked (Some place) = refl
    by_asked None = none (is_end walk.declaration.before) (is_comment class || not walk.declaration.commented) (ap (λ (b : Before). is_end b) between)

same : (b : Bool) → b ≡ b || false
same true = refl
same false = refl

none_of : (b : Bool) → false ≡ b && false
none_of true = refl
none_of false = refl

-- behind a comment, by what is told of the declaration and of a structure's head
abbrev made : Walk → ℕ → TokenClass → Option ℕ → Before → Bool → Bool → Bool → Walk
made walk id class asked before assigned commented structure =
    record walk {
      place = walk.place + 1;
      declaration = record { before = before; assigned = assigned; commented = commented };
      asked = asked;
      begun = if begins_outside walk id then With (record { id = id; place = walk.place }) else walk.begun;
      behind = id + 1;
      last = record walk.last { class = class; id = id; structure = structure };
    }

-- what stands behind it
abbrev next_before : Before → TokenClass → Before
next_before before class = if is_between before then Between else behind_other before class

stays_made : (walk : Walk) (id : ℕ) (class : TokenClass) (asked : Option ℕ) → walk.declaration.before ≡ Between → made walk id class asked walk.declaration.before walk.declaration.assigned false false
    ≡ made walk id class asked (next_before walk.declaration.before class) (walk.declaration.assigned || false)
    (not (is_between_comments (next_before walk.declaration.before class)) && ((not (is_between walk.declaration.before) && walk.declaration.commented) || true)) (walk.last.structure && false)
stays_made walk id class asked between =
    let d = walk.declaration in
    let other : Bool = (not (is_between d.before) && d.commented) || true in
    let stands : next_before d.before class ≡ Between = ap (λ (b : Before). next_before b class) between in
    ap (λ (b : Before). made walk id class asked b d.assigned false false) (between ∙ sym stands)
    ∙ (ap (λ b. made walk id class asked (next_before d.before class) b false false) (same d.assigned)
    ∙ (ap (λ b. made walk id class asked (next_before d.before class) (d.assigned || false) b false) (sym (ap (λ (b : Before). not (is_between_comments b) && other) stands))
    ∙ ap (λ b. made walk id class asked (next_before d.before class) (d.assigned || false) (not (is_between_comments (next_before d.before class)) && other) b) (none_of walk.last.structure)))

pub comment_reading : (arena : Contents) (walk : Walk) (id : ℕ) (class : TokenClass) → follows_between walk class ≡ true → GoesOn (comment_passed walk id class (still_asked arena walk id)) ≡ reading arena walk around.Outside id class
comment_reading arena walk id class follows =
    let told = both_told (is_comment class) (is_between_comments walk.declaration.before) follows in
    let between = is_between_them walk.declaration.before told.1 in
    by_class class told.0 between
  where
    no_end : (asked : Option ℕ) (later : Reading) → later ≡ ends_or asked false later
    no_end None later = refl
    no_end (Some count) later = refl

    by_class : (class : TokenClass) → is_comment class ≡ true → walk.declaration.before ≡ Between → GoesOn (comment_passed walk id class (still_asked arena walk id)) ≡ reading arena walk around.Outside id class
    by_class LineComment is between =
        ap (λ (w : Walk). GoesOn w) (stays_made walk id LineComment (still_asked arena walk id) between)
        ∙ (ap (λ (asked : Option ℕ). GoesOn (outside walk id LineComment asked)) (sym (asks_so arena walk id LineComment between)) ∙ no_end (asked_at arena walk id LineComment) (GoesOn (outside walk id LineComment (asked_at arena walk id LineComment))))
    by_class BlockComment is between =
        ap (λ (w : Walk). GoesOn w) (stays_made walk id BlockComment (still_asked arena walk id) between)
        ∙ (ap (λ (asked : Option ℕ). GoesOn (outside walk id BlockComment asked)) (sym (asks_so arena walk id BlockComment between)) ∙ no_end (asked_at arena walk id BlockComment) (GoesOn (outside walk id BlockComment (asked_at arena walk id BlockComment))))
    by_class _ is between = absurd (differ is)
      where
        differ : false ≡ true → ⊥
        differ e = cc
