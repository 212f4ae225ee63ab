-- What the way along the items tells of a place outside brackets agrees with what their tokens tell where no comment is met.
use Rattle.std.proofs.Common.{◌≡◌, ◌∙◌, ◌⊎◌, inl, inr, ℕ, Bool, true, false, not, ◌&&◌, ◌||◌, Option, List, [], ◌∷◌, refl, sym, ap, subst}
use Rattle.std.specs.Prelude.{if◌then◌else◌}
use Rattle.token_classes.specs.declared.class.TokenClass.{TokenClass}
use Rattle.token_classes.specs.declared.class.TokenClass.TheVariants.{OpenRound, OpenSquare, OpenBrace, LineComment, BlockComment}
use Rattle.token_classes.specs.Classes.{is_opener, is_open_brace, is_semicolon, is_plain, is_assigning, is_comment}
use Rattle.token_classes.specs.declared.pairing.Opener.{Opener}
use Rattle.token_classes.specs.Partners.{Matching, TakesStep, bracket_step}
use Rattle.part_laws.specs.Declarations.{Before, Name, Parameters, Semicolon, Body, Between, Other, Walk, behind_group, behind, is_end, is_between, waiting_behind}
use Rattle.part_laws.proofs.CodeCut.{behind_opener, behind_code, assigned_behind}
use Rattle.part_laws.proofs.Choices.{never}

-- the way tells the same, or that nothing ends there
abbrev pub Agrees : Before → Before → Type 0
Agrees before there = (there ≡ before) ⊎ ((there ≡ Other) ⊎ (there ≡ Between))

pub ends_agree : (before there : Before) → Agrees before there → is_end there ≡ true → is_end before ≡ true
ends_agree before there (inl same) end = ap is_end (sym same) ∙ end
ends_agree before there (inr (inl other)) end = absurd (never (ap is_end (sym other) ∙ end))
ends_agree before there (inr (inr between)) end = absurd (never (ap is_end (sym between) ∙ end))

-- ## Behind a group

abbrev walk_at : ℕ → Before → Bool → Bool → Option ℕ → Walk
walk_at place there assigned commented asked = record { place = place; before = there; assigned = assigned; commented = commented; asked = asked }

group_agrees : (place : ℕ) (there : Before) (assigned commented : Bool) (asked : Option ℕ) (opener : TokenClass)
    → Agrees (behind_opener assigned there opener) (behind_group (walk_at place there assigned commented asked) opener)
group_agrees place Name assigned commented asked opener = inl refl
group_agrees place Parameters assigned commented asked opener = by_body (is_open_brace opener) assigned commented
  where
    by_body : (brace assigned commented : Bool)
        → Agrees (if brace && not assigned then Body else Other) (if brace && not (assigned || commented) then Body else Other)
    by_body true true commented = inl refl
    by_body true false true = inr (inl refl)
    by_body true false false = inl refl
    by_body false assigned commented = inl refl
group_agrees place _ assigned commented asked opener = inl refl

groups_agree : (place : ℕ) (before there : Before) (assigned commented : Bool) (asked : Option ℕ) (opener : TokenClass) → Agrees before there
    → Agrees (behind_opener assigned before opener) (behind_group (walk_at place there assigned commented asked) opener)
groups_agree place before there assigned commented asked opener (inl same) =
    subst (λ (b : Before). Agrees (behind_opener assigned b opener) (behind_group (walk_at place there assigned commented asked) opener)) same
    (group_agrees place there assigned commented asked opener)
groups_agree place before there assigned commented asked opener (inr (inl other)) =
    subst (λ (b : Before). Agrees (behind_opener assigned before opener) (behind_group (walk_at place b assigned commented asked) opener)) (sym other)
    (inr (inl refl))
groups_agree place before there assigned commented asked opener (inr (inr between)) =
    subst (λ (b : Before). Agrees (behind_opener assigned before opener) (behind_group (walk_at place b assigned commented asked) opener)) (sym between)
    (inr (inl refl))

-- ## Behind a token

pub behind_agrees : (walk : Walk) (before : Before) (class : TokenClass) → is_comment class ≡ false → Agrees before walk.before
    → Agrees (behind_code walk.assigned before class) (behind walk class)
behind_agrees walk before class code agrees =
    by_bits (is_opener class) (is_semicolon class) (is_comment class) (is_plain class) code
    (groups_agree walk.place before walk.before walk.assigned walk.commented walk.asked class agrees)
  where
    by_bits : (opener semicolon comment plain : Bool) → comment ≡ false → Agrees (behind_opener walk.assigned before class) (behind_group walk class)
        → Agrees (if opener then behind_opener walk.assigned before class else (if semicolon then Semicolon else (if plain then Name else Other)))
        (if opener then behind_group walk class
        else (if semicolon then Semicolon else (if comment && is_between walk.before then Between else (if plain then Name else Other))))
    by_bits true semicolon comment plain code group = group
    by_bits false true comment plain code group = inl refl
    by_bits false false true plain code group = absurd (never (sym code))
    by_bits false false false plain code group = inl refl

between_or_other : (before : Before) (between : Bool) → Agrees before (if between then Between else Other)
between_or_other before true = inr (inr refl)
between_or_other before false = inr (inl refl)

pub comment_agrees : (walk : Walk) (before : Before) (class : TokenClass) → is_comment class ≡ true → Agrees before (behind walk class)
comment_agrees walk before LineComment comment = between_or_other before (is_between walk.before)
comment_agrees walk before BlockComment comment = between_or_other before (is_between walk.before)
comment_agrees walk before _ comment = absurd (never comment)

-- ## What was assigned

pub assigned_agrees : (assigned : Bool) (class : TokenClass) → not (is_semicolon class) && (assigned || is_assigning class) ≡ assigned_behind assigned class
assigned_agrees assigned class = by_bits (is_semicolon class) assigned (is_assigning class)
  where
    by_bits : (semicolon assigned assigning : Bool)
        → not semicolon && (assigned || assigning) ≡ (if semicolon then false else (if assigning then true else assigned))
    by_bits true assigned assigning = refl
    by_bits false true true = refl
    by_bits false true false = refl
    by_bits false false true = refl
    by_bits false false false = refl

or_nothing : (b : Bool) → b || false ≡ b
or_nothing true = refl
or_nothing false = refl

pub comment_assigns_nothing : (assigned : Bool) (class : TokenClass) → is_comment class ≡ true
    → not (is_semicolon class) && (assigned || is_assigning class) ≡ assigned
comment_assigns_nothing assigned LineComment comment = or_nothing assigned
comment_assigns_nothing assigned BlockComment comment = or_nothing assigned
comment_assigns_nothing assigned _ comment = absurd (never comment)

-- ## Which openers wait, where none did before

-- these openers wait, and these partners were found
abbrev pub matching : List Opener → List (Option ℕ) → Matching
matching waiting partners = record { open_brackets = waiting; partners = partners }

pub waits : (class : TokenClass) (place : ℕ) (old new : List Opener) (taken : Option ℕ) → TakesStep class place old taken new
    → new ≡ waiting_behind class place old
waits class place old new taken step = ap (λ (m : Matching). m.open_brackets) (step [])

pub opener_waits : (class : TokenClass) (place : ℕ) (partners : List (Option ℕ)) → is_opener class ≡ true
    → bracket_step class place (matching [] partners) ≡ matching (record { place = place; kind = class } ∷ []) partners
opener_waits OpenRound place partners opens = refl
opener_waits OpenSquare place partners opens = refl
opener_waits OpenBrace place partners opens = refl
opener_waits _ place partners opens = absurd (never opens)

pub nothing_waits : (class : TokenClass) (place : ℕ) (partners : List (Option ℕ)) → is_opener class ≡ false
    → bracket_step class place (matching [] partners) ≡ matching [] partners
nothing_waits OpenRound place partners opens = absurd (never (sym opens))
nothing_waits OpenSquare place partners opens = absurd (never (sym opens))
nothing_waits OpenBrace place partners opens = absurd (never (sym opens))
nothing_waits _ place partners opens = refl

pub opener_is_no_comment : (class : TokenClass) → is_opener class ≡ true → is_comment class ≡ false
opener_is_no_comment LineComment opens = absurd (never opens)
opener_is_no_comment BlockComment opens = absurd (never opens)
opener_is_no_comment _ opens = refl

pub comment_is_no_opener : (class : TokenClass) → is_comment class ≡ true → is_opener class ≡ false
comment_is_no_opener LineComment comment = refl
comment_is_no_opener BlockComment comment = refl
comment_is_no_opener _ comment = absurd (never comment)
