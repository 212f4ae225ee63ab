-- Where declarations of the file end in a view, and the next begins on a line of its own: docs/PROFILE.md, "Parts".
-- Between two such places stand whole declarations; where a view is cut inside functions' bodies plays no part here.
use Rattle.std.specs.Prelude.{ℕ, zero, suc, ◌+◌, nat_lt, Bool, true, false, ◌&&◌, ◌||◌, not, if◌then◌else◌, Option}
use Rattle.std.specs.Prelude.{Some, None, List, [], ◌∷◌, length, drop}
use Rattle.token_arena.specs.Gaps.{Contents, item_began}
use Rattle.token_classes.specs.declared.class.TokenClass.{TokenClass}
use Rattle.token_classes.specs.Classes.{is_opener, is_open_round, is_open_brace, is_semicolon, is_plain, is_assigning}
use Rattle.token_classes.specs.Classes.{is_control, is_case, is_default, is_comment, is_word}
use Rattle.item_classes.specs.Viewed.{item_class}
use Rattle.token_classes.specs.declared.pairing.Opener.{Opener}
use Rattle.token_classes.specs.Partners.{bracket_step}

-- ## What is known on the way

-- What stands directly before a place, outside brackets: a word that may be a function's name; the group directly
-- behind such a word; the `;` that ends a declaration; a function's body; comments behind the end of a declaration, or
-- nothing; anything else. In a group it is what will stand before the place behind it.
pub data Before : Type 0 where
  Name : Before
  Parameters : Before
  Semicolon : Before
  Body : Before
  Between : Before
  Other : Before

-- how far declarations have been read
pub record Walk : Type 0 where
  -- how many items were read
  pub place : ℕ
  -- what stands before the next one
  pub before : Before
  -- an `=` or `return` stands before it, behind the last `;`
  pub assigned : Bool
  -- a comment stands behind the first token of the declaration before it
  pub commented : Bool
  -- behind so many items declarations end, if one begins with the next item that is no comment
  pub asked : Option ℕ

-- what comes of an item: declarations end behind so many; they never do behind it; they go on behind it
pub data Reading : Type 0 where
  Ends : ℕ → Reading
  Never : Reading
  GoesOn : Walk → Reading

-- before the first item
abbrev pub start : Walk
start = record { place = 0; before = Between; assigned = false; commented = false; asked = None }

-- ## One item

-- behind a group with this opener: directly behind a name a `(` opens what may be the parameters of a function, and
-- directly behind those a `{` its body; where an `=` or `return` stands before, it opens a list
abbrev pub behind_group : Walk → TokenClass → Before
behind_group walk opener =
    elim walk.before [
      | Name ↦ if is_open_round opener then Parameters else Other
      | Parameters ↦ if is_open_brace opener && not (walk.assigned || walk.commented) then Body else Other
      | _ ↦ Other
    ]

-- a declaration ends there
abbrev pub is_end : Before → Bool
is_end Semicolon = true
is_end Body = true
is_end _ = false

-- no declaration goes on there
abbrev pub is_between : Before → Bool
is_between Semicolon = true
is_between Body = true
is_between Between = true
is_between _ = false

-- what stands behind a token, or behind the group that it opens
abbrev pub behind : Walk → TokenClass → Before
behind walk class =
    if is_opener class then behind_group walk class
    else (if is_semicolon class then Semicolon
    else (if is_comment class && is_between walk.before then Between
    else (if is_plain class then Name else Other)))

-- No declaration ends so behind a word of a control statement or of a label that stands outside brackets.
abbrev pub is_lost : TokenClass → Bool
is_lost class = is_control class || (is_case class || is_default class)

abbrev pub is_body : Before → Bool
is_body Body = true
is_body _ = false

abbrev pub is_between_comments : Before → Bool
is_between_comments Between = true
is_between_comments _ = false

-- Behind how many items declarations end, where one begins with the next. Comments of rows that follow one another are
-- lined up. None on the last row before a place and on the row of the declaration there are, where no comment stands in
-- the declaration before, or one on lines of its own begins this one.
abbrev pub asked_behind : Option ℕ → Walk → TokenClass → Option ℕ
asked_behind (Some place) walk class = Some place
asked_behind None walk class =
    if is_end walk.before && (is_comment class || not walk.commented) then Some walk.place else None

-- The same, of an item that begins the declaration, or the comments before it: it began its line.
abbrev pub asked_at : Contents → Walk → ℕ → TokenClass → Option ℕ
asked_at arena walk id class = if item_began arena id then asked_behind walk.asked walk class else None

-- a comment stands behind the first token of the declaration that goes on or ends behind this token, which stands
-- outside brackets
abbrev pub is_commented : Walk → Before → TokenClass → Bool
is_commented walk before class =
    not (is_between_comments before) && ((not (is_between walk.before) && walk.commented) || is_comment class)

-- behind the next token, which stands in a group: comments in a function's body don't count, since they stand on
-- earlier rows than its `}`
abbrev pub inside : Walk → TokenClass → Walk
inside walk class = record {
  place = walk.place + 1;
  before = walk.before;
  assigned = walk.assigned;
  commented = walk.commented || (is_comment class && not (is_body walk.before));
  asked = walk.asked;
}

-- behind the next token, which stands outside brackets
abbrev pub outside : Walk → TokenClass → Option ℕ → Walk
outside walk class asked = record {
  place = walk.place + 1;
  before = behind walk class;
  assigned = not (is_semicolon class) && (walk.assigned || is_assigning class);
  commented = is_commented walk (behind walk class) class;
  asked = if is_comment class then asked else None;
}

-- A declaration begins with a word.
abbrev pub ends_or : Option ℕ → TokenClass → Reading → Reading
ends_or None class later = later
ends_or (Some count) class later = if is_word class then Ends count else later

-- what comes of the next item, where it stands in a group or not
abbrev pub reading : Contents → Walk → Bool → ℕ → TokenClass → Reading
reading arena walk true id class = GoesOn (inside walk class)
reading arena walk false id class =
    let asked = asked_at arena walk id class in
    ends_or asked class (if is_lost class then Never else GoesOn (outside walk class asked))

-- ## Ends

-- the openers that wait behind a token ("Partners")
abbrev pub waiting_behind : TokenClass → ℕ → List Opener → List Opener
waiting_behind class place waiting =
    (bracket_step class place (record { open_brackets = waiting; partners = [] })).open_brackets

-- a group is open
abbrev pub is_open : List Opener → Bool
is_open [] = false
is_open (opener ∷ below) = true

-- behind how many items declarations end, read so far, where these openers wait and these items follow; none where they
-- go on up to the end of the items
abbrev pub next_end : Contents → Walk → List Opener → List ℕ → Option ℕ
next_end arena walk waiting [] = None
next_end arena walk waiting (id ∷ ids) =
    elim (reading arena walk (is_open waiting) id (item_class arena id)) [
      | Ends count ↦ Some count
      | Never ↦ None
      | GoesOn next ↦ next_end arena next (waiting_behind (item_class arena id) walk.place waiting) ids
    ]

abbrev pub or_all : Option ℕ → ℕ → ℕ
or_all None all = all
or_all (Some count) all = count

-- how many of these items stand before the first such end: that depends on them alone, whatever stands before them
abbrev pub first_len : Contents → List ℕ → ℕ
first_len arena ids = or_all (next_end arena start [] ids) (length ids)

-- the places of such ends from this place on, and of the end of the items; each is behind the one before, so the number
-- of places suffices for `n`
abbrev pub ends_from : ℕ → Contents → List ℕ → ℕ → List ℕ
ends_from zero arena ids first = []
ends_from (suc n) arena ids first =
    if nat_lt first (length ids)
    then (let end = first + first_len arena (drop first ids) in end ∷ ends_from n arena ids end)
    else []

-- the places of all such ends in a view, and of its own
abbrev pub declaration_ends : Contents → List ℕ → List ℕ
declaration_ends arena ids = ends_from (length ids) arena ids 0
