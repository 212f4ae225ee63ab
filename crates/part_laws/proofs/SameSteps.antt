-- The way along the items of a part, and that along the items of declarations, go on alike.
use Rattle.std.proofs.Common.{◌≡◌, ◌∙◌, ℕ, ◌+◌, Bool, true, false, not, ◌&&◌, ◌||◌, Option, Some, None, [], refl, sym, ap, arith}
use Rattle.std.specs.Prelude.{if◌then◌else◌}
use Rattle.token_arena.specs.Gaps.{Contents, item_began}
use Rattle.token_classes.specs.declared.class.TokenClass.{TokenClass}
use Rattle.token_classes.specs.declared.class.TokenClass.TheVariants.{LineComment, BlockComment}
use Rattle.token_classes.specs.Classes.{is_bracket, is_opener, is_open_round, is_open_brace, is_semicolon, is_plain, is_extern, is_text, is_comment}
use Rattle.part_walk.specs.declared.walk.Before.{Before as PartBefore}
use Rattle.part_walk.specs.declared.walk.Before.TheVariants as part
use Rattle.part_walk.specs.declared.walk.Declaration.{Declaration}
use Rattle.part_walk.specs.declared.walk.Walk.{Walk as PartWalk}
use Rattle.part_walk.specs.Walk.{behind_group as part_behind_group, behind as part_behind, behind_other as part_behind_other, is_extern_word as part_is_extern_word, is_end as part_is_end, is_between as part_is_between, is_between_comments as part_is_between_comments, is_body as part_is_body, is_commented as part_is_commented, asked_behind as part_asked_behind, asked_at as part_asked_at, next_declaration, inside_declaration}
use Rattle.part_walk.specs.Brackets.{waiting_behind as part_waiting_behind}
use Rattle.part_laws.specs.Declarations.{Before, Name, Parameters, Semicolon, Body, Between, Other, Walk, behind_group, behind, is_end, is_between, is_body, is_between_comments, asked_behind, asked_at, is_commented, inside, outside, is_open}

-- ## What the way along a part tells of declarations

abbrev pub told : PartBefore → Before
told part.Name = Name
told part.Parameters = Parameters
told part.Semicolon = Semicolon
told part.Body = Body
told part.Between = Between
told part.Extern = Other
told part.Linkage = Other
told part.Other = Other

-- behind so many items
abbrev pub later : ℕ → Option ℕ → Option ℕ
later k None = None
later k (Some count) = Some (k + count)

abbrev walk_of : ℕ → Before → Bool → Bool → Option ℕ → Walk
walk_of place before assigned commented asked = record { place = place; before = before; assigned = assigned; commented = commented; asked = asked }

-- where a group is open, no end of declarations is asked
abbrev pub asked_along : ℕ → Bool → Option ℕ → Option ℕ
asked_along k opened asked = if opened then None else later k asked

-- the part begins behind so many items, and so many of its own were read
abbrev pub along : ℕ → Bool → ℕ → Declaration → Option ℕ → Walk
along k opened place declaration asked =
    walk_of (k + place) (told declaration.before) declaration.assigned declaration.commented (asked_along k opened asked)

-- a part that begins there in a body
abbrev pub at_place : ℕ → Declaration → Walk
at_place place declaration = walk_of place (told declaration.before) declaration.assigned declaration.commented None

same_walk : (p q : ℕ) (b c : Before) (assigned : Bool) (m n : Bool) (x y : Option ℕ) → p ≡ q → b ≡ c → m ≡ n → x ≡ y
    → walk_of p b assigned m x ≡ walk_of q c assigned n y
same_walk p q b c assigned m n x y place before commented asked =
    ap (λ (k : ℕ). walk_of k b assigned m x) place
    ∙ (ap (λ (it : Before). walk_of q it assigned m x) before
    ∙ (ap (λ (it : Bool). walk_of q c assigned it x) commented ∙ ap (λ (it : Option ℕ). walk_of q c assigned n it) asked))

told_end : (before : PartBefore) → is_end (told before) ≡ part_is_end before
told_end part.Name = refl
told_end part.Parameters = refl
told_end part.Semicolon = refl
told_end part.Body = refl
told_end part.Between = refl
told_end part.Extern = refl
told_end part.Linkage = refl
told_end part.Other = refl

told_between : (before : PartBefore) → is_between (told before) ≡ part_is_between before
told_between part.Name = refl
told_between part.Parameters = refl
told_between part.Semicolon = refl
told_between part.Body = refl
told_between part.Between = refl
told_between part.Extern = refl
told_between part.Linkage = refl
told_between part.Other = refl

told_body : (before : PartBefore) → is_body (told before) ≡ part_is_body before
told_body part.Name = refl
told_body part.Parameters = refl
told_body part.Semicolon = refl
told_body part.Body = refl
told_body part.Between = refl
told_body part.Extern = refl
told_body part.Linkage = refl
told_body part.Other = refl

told_between_comments : (before : PartBefore) → is_between_comments (told before) ≡ part_is_between_comments before
told_between_comments part.Name = refl
told_between_comments part.Parameters = refl
told_between_comments part.Semicolon = refl
told_between_comments part.Body = refl
told_between_comments part.Between = refl
told_between_comments part.Extern = refl
told_between_comments part.Linkage = refl
told_between_comments part.Other = refl

told_if : (b : Bool) (x y : PartBefore) → (if b then told x else told y) ≡ told (if b then x else y)
told_if true x y = refl
told_if false x y = refl

-- ## Behind a token

group_told : (walk : Walk) (declaration : Declaration) (before : PartBefore) (opener : TokenClass) → walk.assigned ≡ declaration.assigned
    → walk.commented ≡ declaration.commented
    → behind_group (record walk { before = told before }) opener ≡ told (part_behind_group (record declaration { before = before }) opener)
group_told walk declaration part.Name opener assigned commented = told_if (is_open_round opener) part.Parameters part.Other
group_told walk declaration part.Parameters opener assigned commented =
    ap (λ (b : Bool). if is_open_brace opener && not (b || walk.commented) then Body else Other) assigned
    ∙ (ap (λ (b : Bool). if is_open_brace opener && not (declaration.assigned || b) then Body else Other) commented
    ∙ told_if (is_open_brace opener && not (declaration.assigned || declaration.commented)) part.Body part.Other)
group_told walk declaration part.Semicolon opener assigned commented = refl
group_told walk declaration part.Body opener assigned commented = refl
group_told walk declaration part.Between opener assigned commented = refl
group_told walk declaration part.Extern opener assigned commented = refl
group_told walk declaration part.Linkage opener assigned commented = refl
group_told walk declaration part.Other opener assigned commented = refl

-- `extern` and the string of a linkage specification are other tokens to declarations
other_told : (before : PartBefore) (class : TokenClass) → told (part_behind_other before class) ≡ Other
other_told before class = by_bits (is_extern class) (is_text class && part_is_extern_word before)
  where
    by_bits : (extern linkage : Bool) → told (if extern then part.Extern else (if linkage then part.Linkage else part.Other)) ≡ Other
    by_bits true linkage = refl
    by_bits false true = refl
    by_bits false false = refl

behind_told : (k : ℕ) (place : ℕ) (declaration : Declaration) (asked : Option ℕ) (class : TokenClass)
    → behind (along k false place declaration asked) class ≡ told (part_behind declaration class)
behind_told k place declaration asked class =
    by_bits (is_opener class) (is_semicolon class) (is_comment class) (is_between (told declaration.before)) (part_is_between declaration.before) (is_plain class)
    (told_between declaration.before) (group_told walk declaration declaration.before class refl refl)
  where
    walk : Walk
    walk = along k false place declaration asked

    by_plain : (plain : Bool) → (if plain then Name else Other) ≡ told (if plain then part.Name else part_behind_other declaration.before class)
    by_plain true = refl
    by_plain false = sym (other_told declaration.before class)

    by_bits : (opener semicolon comment between same plain : Bool) → between ≡ same → behind_group walk class ≡ told (part_behind_group declaration class)
        → (if opener then behind_group walk class
        else (if semicolon then Semicolon else (if comment && between then Between else (if plain then Name else Other))))
        ≡ told (if opener then part_behind_group declaration class
        else (if semicolon then part.Semicolon else (if comment && same then part.Between else (if plain then part.Name else part_behind_other declaration.before class))))
    by_bits true semicolon comment between same plain e group = group
    by_bits false true comment between same plain e group = refl
    by_bits false false true true true plain e group = refl
    by_bits false false true true false plain e group = cc
    by_bits false false true false true plain e group = cc
    by_bits false false true false false plain e group = by_plain plain
    by_bits false false false between same plain e group = by_plain plain

commented_told : (k : ℕ) (place : ℕ) (declaration : Declaration) (asked : Option ℕ) (class : TokenClass)
    → is_commented (along k false place declaration asked) (behind (along k false place declaration asked) class) class
    ≡ part_is_commented declaration (part_behind declaration class) class
commented_told k place declaration asked class =
    ap (λ (b : Before). is_commented (along k false place declaration asked) b class) (behind_told k place declaration asked class)
    ∙ (ap (λ (b : Bool). not b && ((not (is_between (told declaration.before)) && declaration.commented) || is_comment class))
    (told_between_comments (part_behind declaration class))
    ∙ ap (λ (b : Bool). not (part_is_between_comments (part_behind declaration class)) && ((not b && declaration.commented) || is_comment class))
    (told_between declaration.before))

-- ## One item

pub asked_told : (k : ℕ) (arena : Contents) (walk : PartWalk) (id : ℕ) (class : TokenClass)
    → asked_at arena (along k false walk.place walk.declaration walk.asked) id class ≡ later k (part_asked_at arena walk id class)
asked_told k arena walk id class = by_began (item_began arena id) walk.asked
  where
    here : Walk
    here = along k false walk.place walk.declaration walk.asked

    by_end : (b : Bool) → (if b then Some (k + walk.place) else None) ≡ later k (if b then Some walk.place else None)
    by_end true = refl
    by_end false = refl

    by_began : (began : Bool) (asked : Option ℕ)
        → (if began then asked_behind (later k asked) here class else None) ≡ later k (if began then part_asked_behind asked walk class else None)
    by_began false asked = refl
    by_began true (Some place) = refl
    by_began true None =
        ap (λ (b : Bool). if b && (is_comment class || not walk.declaration.commented) then Some (k + walk.place) else None) (told_end walk.declaration.before)
        ∙ by_end (part_is_end walk.declaration.before && (is_comment class || not walk.declaration.commented))

-- behind a token outside brackets
pub outside_told : (k : ℕ) (place : ℕ) (declaration : Declaration) (was asked : Option ℕ) (class : TokenClass)
    → outside (along k false place declaration was) class (later k asked)
    ≡ along k (is_open (part_waiting_behind class place [])) (place + 1) (next_declaration declaration class) (if is_comment class then asked else None)
outside_told k place declaration was asked class =
    same_walk (k + place + 1) (k + (place + 1)) (behind (along k false place declaration was) class) (told (part_behind declaration class)) _ _ _ _ _
    (omega arith) (behind_told k place declaration was class) (commented_told k place declaration was class) (by_class class)
  where
    by_class : (c : TokenClass) → (if is_comment c then later k asked else None)
        ≡ asked_along k (is_open (part_waiting_behind c place [])) (if is_comment c then asked else None)
    by_class LineComment = refl
    by_class _ = refl

-- behind an item of a group or a body, where nothing is asked if none is open behind it
pub inside_told : (k : ℕ) (place : ℕ) (declaration : Declaration) (was asked : Option ℕ) (opened : Bool) (class : TokenClass) → (opened ≡ false → asked ≡ None)
    → inside (along k true place declaration was) class ≡ along k opened (place + 1) (inside_declaration declaration class) asked
inside_told k place declaration was asked opened class none =
    same_walk (k + place + 1) (k + (place + 1)) (told declaration.before) (told declaration.before) _ _ _ _ _ (omega arith) refl
    (ap (λ (b : Bool). declaration.commented || (is_comment class && not b)) (told_body declaration.before)) (by_opened opened none)
  where
    by_opened : (opened : Bool) → (opened ≡ false → asked ≡ None) → None ≡ asked_along k opened asked
    by_opened true none = refl
    by_opened false none = sym (ap (later k) (none refl))

-- ## Comments

or_none : (b none : Bool) → none ≡ false → b || none ≡ b
or_none true none e = refl
or_none false none e = e

-- a token that is none changes nothing
pub code_keeps : (declaration : Declaration) (class : TokenClass) → is_comment class ≡ false → inside_declaration declaration class ≡ declaration
code_keeps declaration class code =
    ap (λ (b : Bool). record declaration { commented = b })
    (or_none declaration.commented (is_comment class && not (part_is_body declaration.before)) (ap (λ (b : Bool). b && not (part_is_body declaration.before)) code))

pub bracket_is_code : (class : TokenClass) → is_bracket class ≡ true → is_comment class ≡ false
bracket_is_code LineComment bracket = cc
bracket_is_code BlockComment bracket = cc
bracket_is_code _ bracket = refl

-- behind a comment a further one changes nothing
abbrev pub IsCommented : Declaration → Type 0
IsCommented declaration = declaration.commented || not (part_is_body declaration.before) ≡ declaration.commented

pub commented_stays : (declaration : Declaration) (class : TokenClass) → IsCommented declaration → inside_declaration declaration class ≡ declaration
commented_stays declaration class is = ap (λ (b : Bool). record declaration { commented = b }) (by_comment (is_comment class) declaration.commented is)
  where
    by_comment : (comment commented : Bool) → commented || not (part_is_body declaration.before) ≡ commented
        → commented || (comment && not (part_is_body declaration.before)) ≡ commented
    by_comment true commented e = e
    by_comment false true e = refl
    by_comment false false e = refl

pub comment_told : (declaration : Declaration) (class : TokenClass) → is_comment class ≡ true → IsCommented (inside_declaration declaration class)
comment_told declaration class comment = by_bits declaration.commented (is_comment class) (part_is_body declaration.before) comment
  where
    by_bits : (commented comment body : Bool) → comment ≡ true → (commented || (comment && not body)) || not body ≡ commented || (comment && not body)
    by_bits true comment body e = refl
    by_bits false true true e = refl
    by_bits false true false e = refl
    by_bits false false body e = cc
