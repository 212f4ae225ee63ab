-- The way along the items of a part: outside brackets, through bodies whose heads are known, and through the groups
-- between them.
use Rattle.std.specs.Prelude.{ℕ, ◌+◌, ◌-◌, ◌==◌, nat_le, Bool, true, false, ◌&&◌, ◌||◌, not, if◌then◌else◌, Option}
use Rattle.std.specs.Prelude.{Some, None, List, [], ◌∷◌}
use Rattle.token_arena.specs.Gaps.{Contents, item_began}
use Rattle.token_classes.specs.declared.class.TokenClass.{TokenClass}
use Rattle.token_classes.specs.declared.class.TokenClass.TheVariants.{Nothing, OpenBrace, CloseBrace}
use Rattle.token_classes.specs.Classes.{is_opener, is_open_round, is_close_round, is_open_brace, is_close_brace}
use Rattle.token_classes.specs.Classes.{is_semicolon, is_plain, is_extern, is_text, is_assigning, is_control, is_case}
use Rattle.token_classes.specs.Classes.{is_default, is_bracket, is_comment, is_word, is_if, is_else, is_do, is_while}
use Rattle.token_classes.specs.Classes.{is_struct, is_union, is_call_word}
use Rattle.part_walk.specs.declared.walk.Around.{Around}
use Rattle.part_walk.specs.declared.walk.Around.TheVariants as around
use Rattle.part_walk.specs.declared.walk.Before.{Before}
use Rattle.part_walk.specs.declared.walk.Before.TheVariants.{Name, Parameters, Semicolon, Body, Between, Extern}
use Rattle.part_walk.specs.declared.walk.Before.TheVariants.{Linkage, Other}
use Rattle.part_walk.specs.declared.walk.Begun.{Begun}
use Rattle.part_walk.specs.declared.walk.Begun.TheVariants.{Unknown, With, Behind}
use Rattle.part_walk.specs.declared.bodies.BodyKind.{BodyKind}
use Rattle.part_walk.specs.declared.bodies.BodyKind.TheVariants as kind
use Rattle.part_walk.specs.Places.{Place}
use Rattle.part_walk.specs.declared.walk.Declaration.{Declaration}
use Rattle.part_walk.specs.declared.bodies.Head.{Head}
use Rattle.part_walk.specs.declared.walk.Headed.{Headed}
use Rattle.part_walk.specs.declared.walk.Headed.TheVariants as headed
use Rattle.part_walk.specs.declared.walk.LastToken.{LastToken}
use Rattle.part_walk.specs.declared.walk.Walk.{Walk}
use Rattle.part_walk.specs.Reading.{Reading, EndsOutside, EndsInBody, Never, GoesOn}

-- ## Declarations

-- behind a group with this opener: directly behind a name a `(` opens what may be the parameters of a function, and
-- directly behind those a `{` its body; where an `=` or `return` stands before, it opens a list
abbrev pub behind_group : Declaration → TokenClass → Before
behind_group declaration opener =
    elim declaration.before [
      | Name ↦ if is_open_round opener then Parameters else Other
      | Parameters ↦ if is_open_brace opener && not (declaration.assigned || declaration.commented) then Body else Other
      | _ ↦ Other
    ]

-- a declaration ends there
abbrev pub is_end : Before → Bool
is_end Semicolon = true
is_end Body = true
is_end _ = false

-- no declaration goes on there
abbrev pub is_between : Before → Bool
is_between Semicolon = true
is_between Body = true
is_between Between = true
is_between _ = false

abbrev pub is_extern_word : Before → Bool
is_extern_word Extern = true
is_extern_word _ = false

-- A linkage specification of C++ is `extern`, a string and a `{` directly behind one another: a header may have one
-- around all its declarations.
abbrev pub is_linkage : Before → Bool
is_linkage Linkage = true
is_linkage _ = false

-- behind another token: `extern`, or the string of a linkage specification, or neither
abbrev pub behind_other : Before → TokenClass → Before
behind_other before class =
    if is_extern class then Extern else (if is_text class && is_extern_word before then Linkage else Other)

-- what stands behind a token, or behind the group that it opens
abbrev pub behind : Declaration → TokenClass → Before
behind declaration class =
    if is_opener class then behind_group declaration class
    else (if is_semicolon class then Semicolon
    else (if is_comment class && is_between declaration.before then Between
    else (if is_plain class then Name else behind_other declaration.before class)))

-- No part ends behind a word of a control statement or of a label that stands outside brackets.
abbrev pub is_lost : TokenClass → Bool
is_lost class = is_control class || (is_case class || is_default class)

abbrev pub is_body : Before → Bool
is_body Body = true
is_body _ = false

abbrev pub is_between_comments : Before → Bool
is_between_comments Between = true
is_between_comments _ = false

-- Behind how many items a part ends, where a declaration begins with the next one: it ends where a declaration does.
-- Comments of rows that follow one another are lined up. None on the last row before a place and on the row of the
-- declaration there are, where no comment stands in the declaration before, or one on lines of its own begins this one.
abbrev pub asked_behind : Option ℕ → Walk → TokenClass → Option ℕ
asked_behind (Some place) walk class = Some place
asked_behind None walk class =
    if is_end walk.declaration.before && (is_comment class || not walk.declaration.commented) then Some walk.place
    else None

-- The same, of an item that begins the declaration, or the comments before it: it began its line.
abbrev pub asked_at : Contents → Walk → ℕ → TokenClass → Option ℕ
asked_at arena walk id class = if item_began arena id then asked_behind walk.asked walk class else None

-- a comment stands behind the first token of the declaration that goes on or ends behind this token, which stands
-- outside brackets
abbrev pub is_commented : Declaration → Before → TokenClass → Bool
is_commented declaration before class =
    not (is_between_comments before)
    && ((not (is_between declaration.before) && declaration.commented) || is_comment class)

-- behind the next token, which stands outside brackets
abbrev pub next_declaration : Declaration → TokenClass → Declaration
next_declaration declaration class = record {
  before = behind declaration class;
  assigned = not (is_semicolon class) && (declaration.assigned || is_assigning class);
  commented = is_commented declaration (behind declaration class) class;
}

-- behind an item of a body or a group: comments in a function's body stand on earlier rows than its `}`
abbrev pub inside_declaration : Declaration → TokenClass → Declaration
inside_declaration declaration class =
    record declaration { commented = declaration.commented || (is_comment class && not (is_body declaration.before)) }

-- ## Statements

-- a structure or union begins there
abbrev pub is_record : TokenClass → Bool
is_record class = is_struct class || is_union class

-- the word of a label of a switch
abbrev pub is_label : TokenClass → Bool
is_label class = is_case class || is_default class

-- A statement that begins with such a token may have a body.
abbrev pub is_leading : TokenClass → Bool
is_leading class = (is_control class && not (is_else class)) || (is_record class || is_open_brace class)

abbrev pub is_some : Option ℕ → Bool
is_some None = false
is_some (Some id) = true

-- a statement of a body ends with this token: a `;`, or the `}` of a block
abbrev pub ends_statement : LastToken → Bool
ends_statement last = is_semicolon last.class || (is_close_brace last.class && is_some last.block)

-- a statement begins behind it: behind the end of one, or the `{` of the body
abbrev pub begins_behind : LastToken → Bool
begins_behind last = ends_statement last || is_open_brace last.class

abbrev pub is_headed : Headed → Bool
is_headed headed.Other = false
is_headed _ = true

abbrev pub is_headed_if : Headed → Bool
is_headed_if headed.If = true
is_headed_if _ = false

-- it ends the condition of an `if`
abbrev pub is_behind_if : LastToken → Bool
is_behind_if last = is_close_round last.class && is_headed_if last.headed

-- A statement may begin with this token. An `else`, a `while`, or a `;` behind a `}`, may go on with the one before,
-- and with a closing bracket none begins.
abbrev pub begins_statement : LastToken → TokenClass → Bool
begins_statement last class =
    not (is_else class || is_while class || (is_semicolon class && is_close_brace last.class))
    && (is_opener class || not (is_bracket class))

-- In a body a `{` begins a block behind a token that ends a statement or begins the body, and behind the head of a
-- control statement.
abbrev pub begins_block : LastToken → Bool
begins_block last =
    is_semicolon last.class || is_open_brace last.class || is_close_brace last.class || is_else last.class
    || is_do last.class || (is_close_round last.class && is_headed last.headed)

-- With this token the head of a structure or union begins, or goes on: words stand in it, and groups directly behind
-- words with a group.
abbrev pub heads_structure : LastToken → TokenClass → Bool
heads_structure last class =
    is_record class || (last.structure && (is_word class || (is_open_round class && is_call_word last.class)))

-- A `{` behind such a head begins the members. Directly behind a group it may open a list of values, where an `=` or
-- `return` stands before it in the statement: in a body one may.
abbrev pub begins_members_in_body : LastToken → Bool
begins_members_in_body last = last.structure && not (is_close_round last.class)

-- Outside brackets it is known whether one does.
abbrev pub begins_members_outside : LastToken → Declaration → Bool
begins_members_outside last declaration = last.structure && not (is_close_round last.class && declaration.assigned)

-- what a `(` stands directly behind
abbrev pub headed_by : TokenClass → Headed
headed_by class = if is_if class then headed.If else (if is_control class then headed.Control else headed.Other)

-- a statement that began behind the block of an `if` goes on so with its `else`, and with the `if` directly behind that
abbrev pub goes_on_with : LastToken → TokenClass → Bool
goes_on_with last class =
    (is_else class && is_close_brace last.class && is_some last.block) || (is_if class && is_else last.class)

abbrev pub kept_begun : LastToken → TokenClass → Begun → Begun
kept_begun last class (Behind head) =
    if (is_leading class || is_else class) && not (goes_on_with last class) then Unknown else Behind head
kept_begun last class begun = begun

-- how the statement began that is read, behind the next token of its body
abbrev pub next_begun : Walk → ℕ → TokenClass → Begun
next_begun walk id class =
    if begins_behind walk.last && is_leading class then With (record { id = id; place = walk.place })
    else kept_begun walk.last class walk.begun

-- behind how many statements more a part may end: a short label may take statements onto its row
abbrev pub next_held : ℕ → TokenClass → ℕ
next_held held class = if is_semicolon class then held - 1 else (if is_label class then 3 else held)

-- behind the next token of a body, which is no comment; so many items of the part were read before it
abbrev pub next_last : ℕ → LastToken → ℕ → TokenClass → LastToken
next_last place last id class = record {
  class = class;
  id = id;
  apart = false;
  commented = last.commented && not (nat_le 512 place && begins_behind last);
  headed = if is_open_round class then headed_by last.class else last.headed;
  block = if is_open_brace class then (if begins_block last then Some id else None) else last.block;
  structure = heads_structure last class;
  held = next_held last.held class;
}

-- ## The first item

-- this token, where nothing is known of a statement
abbrev pub opening : ℕ → TokenClass → LastToken
opening id class =
    record {
      class = class;
      id = id;
      apart = false;
      commented = false;
      headed = headed.Other;
      block = None;
      structure = false;
      held = 0;
    }

abbrev pub is_outside : Option Place → Bool
is_outside None = true
is_outside (Some place) = false

-- before the first item of a part that begins outside brackets, or at this place of a body: there like behind the
-- body's `{`
abbrev pub start : Option Place → Walk
start None = record {
  place = 0;
  declaration = record { before = Between; assigned = false; commented = false };
  asked = None;
  begun = Unknown;
  behind = 0;
  last = opening 0 Nothing;
}
start (Some begins) = record {
  place = 0;
  declaration = begins.declaration;
  asked = None;
  begun = Unknown;
  behind = 0;
  last = opening 0 OpenBrace;
}

-- ## Where a part ends in a body

-- a directive, or a branch that isn't seen, stands between the last token of the body and this item
abbrev pub is_apart : Walk → ℕ → Bool
is_apart walk id = walk.last.apart || not (id == walk.behind)

abbrev pub or_place : Option ℕ → ℕ → ℕ
or_place None place = place
or_place (Some count) place = count

-- Behind a directive a part has 64 items at least. It ends before the comments that stand on lines of their own before
-- this token.
abbrev pub ends_apart : Walk → Option ℕ
ends_apart walk = if nat_le 64 walk.place then Some (or_place walk.asked walk.place) else None

-- Elsewhere it has 512 at least, this token stands directly behind the last one, and no comment in the statement
-- before: comments of rows that follow one another are lined up.
abbrev pub ends_in_row : Walk → ℕ → Option ℕ
ends_in_row walk id =
    if nat_le 512 walk.place && id == walk.last.id + 1 && not walk.last.commented then Some walk.place else None

-- Behind a label a part ends behind three statements, or before the next label, where no comment stands on lines of its
-- own before that.
abbrev pub may_part : Walk → TokenClass → Bool
may_part walk class = walk.last.held == 0 || (is_label class && not (is_some walk.asked))

-- a statement ends before this token of a body and one begins with it
abbrev pub parts_statements : Walk → TokenClass → Bool
parts_statements walk class = ends_statement walk.last && begins_statement walk.last class && may_part walk class

-- behind how many items the part ends, where this token of a body tells so
abbrev pub end_in_body : Walk → ℕ → TokenClass → Option ℕ
end_in_body walk id class =
    if parts_statements walk class then (if is_apart walk id then ends_apart walk else ends_in_row walk id) else None

-- ## Reading

-- behind how many items the part may end, where this comment of a body is the first on a line of its own behind the end
-- of a statement
abbrev pub asked_in_body : Contents → Walk → ℕ → Option ℕ
asked_in_body arena walk id =
    elim walk.asked [
      | Some place ↦ Some place
      | None ↦ if ends_statement walk.last && item_began arena id then Some walk.place else None
    ]

-- behind the next comment of a body
abbrev pub past_comment : Contents → Walk → ℕ → Walk
past_comment arena walk id = record walk {
  place = walk.place + 1;
  declaration =
      record walk.declaration { commented = walk.declaration.commented || not (is_body walk.declaration.before) };
  asked = asked_in_body arena walk id;
  behind = id + 1;
  last = record walk.last { apart = is_apart walk id; commented = true };
}

-- behind the next token of a body
abbrev pub in_body : Walk → ℕ → TokenClass → Walk
in_body walk id class = record walk {
  place = walk.place + 1;
  asked = None;
  begun = next_begun walk id class;
  behind = id + 1;
  last = next_last walk.place walk.last id class;
}

-- behind the next bracket of a group
abbrev pub past_bracket : Walk → ℕ → TokenClass → Walk
past_bracket walk id class =
    record walk {
      place = walk.place + 1;
      asked = None;
      behind = id + 1;
      last = record walk.last { class = class; id = id; apart = false };
    }

-- behind the next token of a group that is no bracket
abbrev pub past_other : Walk → TokenClass → Walk
past_other walk class = record walk {
  place = walk.place + 1;
  declaration = inside_declaration walk.declaration class;
  last = record walk.last { commented = walk.last.commented || is_comment class };
}

-- behind the next item of a group
abbrev pub in_group : Walk → ℕ → TokenClass → Walk
in_group walk id class = if is_bracket class then past_bracket walk id class else past_other walk class

-- The part begins with its first item, and the head of a body in it with what stands behind the last directive, or
-- branch that isn't seen, between two declarations: the comment at the top of a file stands in no row with a linkage or
-- a function behind its `#include`s.
abbrev pub begins_outside : Walk → ℕ → Bool
begins_outside walk id = walk.place == 0 || (not (id == walk.behind) && is_between walk.declaration.before)

-- behind the next token, which stands outside brackets
abbrev pub outside : Walk → ℕ → TokenClass → Option ℕ → Walk
outside walk id class asked = record {
  place = walk.place + 1;
  declaration = next_declaration walk.declaration class;
  asked = if is_comment class then asked else None;
  begun = if begins_outside walk id then With (record { id = id; place = walk.place }) else walk.begun;
  behind = id + 1;
  last = record walk.last { class = class; id = id; structure = heads_structure walk.last class };
}

-- what comes of a token outside brackets, where the part is asked to end so; a declaration begins with a word
abbrev pub ends_or : Option ℕ → Bool → Reading → Reading
ends_or None begins later = later
ends_or (Some count) begins later = if begins then EndsOutside count else later

-- what comes of the next token of a body, where it tells this of the part's end
abbrev pub ends_inside_or : Option ℕ → Walk → Reading
ends_inside_or None next = GoesOn next
ends_inside_or (Some count) next = EndsInBody count

-- what comes of the next item, by what it stands in
abbrev pub reading : Contents → Walk → Around → ℕ → TokenClass → Reading
reading arena walk around.Outside id class =
    let asked = asked_at arena walk id class in
    ends_or asked (is_word class) (if is_lost class then Never else GoesOn (outside walk id class asked))
reading arena walk around.Body id class =
    if is_comment class then GoesOn (past_comment arena walk id)
    else ends_inside_or (end_in_body walk id class) (in_body walk id class)
reading arena walk around.Group id class = GoesOn (in_group walk id class)

-- ## Bodies

-- What the body belongs to that a `{` opens there, if it opens one whose items are told from those of a group.
abbrev pub body_kind : Walk → Around → Option BodyKind
body_kind walk around.Outside =
    if is_body (behind walk.declaration OpenBrace) then Some kind.Function
    else (if is_linkage walk.declaration.before then Some kind.Linkage
    else (if begins_members_outside walk.last walk.declaration then Some kind.Members else None))
body_kind walk around.Body =
    if is_behind_if walk.last then Some kind.If
    else (if begins_block walk.last && (begins_behind walk.last || not (is_close_brace walk.last.class))
    then Some kind.Block
    else (if begins_members_in_body walk.last then Some kind.Members else None))
body_kind walk around.Group = None

-- how the statement or declaration began in which this `{` stands
abbrev pub begun_before : Walk → Around → ℕ → Begun
begun_before walk around.Body id =
    if begins_behind walk.last then With (record { id = id; place = walk.place }) else walk.begun
begun_before walk stands id = walk.begun

-- the items of heads
abbrev pub heads_len : List Head → ℕ
heads_len [] = 0
heads_len (head ∷ heads) = head.end - head.first + heads_len heads

-- The head of a body: the items from the first of its statement or declaration to its `{`, where they stand in a row
-- and, with the heads of the bodies around, are no more than 64. The body of an `else` has the head of its `if`.
abbrev pub head_from : Begun → ℕ → ℕ → BodyKind → ℕ → Option Head
head_from Unknown place id kind count = None
head_from (Behind head) place id kind count = if nat_le (count + (head.end - head.first)) 64 then Some head else None
head_from (With token) place id kind count =
    if nat_le token.id id && token.id + place == id + token.place && nat_le (count + (id + 1 - token.id)) 64
    then Some (record { first = token.id; end = id + 1; kind = kind })
    else None

abbrev pub head_of_kind : Option BodyKind → Begun → ℕ → ℕ → ℕ → Option Head
head_of_kind None begun place id count = None
head_of_kind (Some kind) begun place id count = head_from begun place id kind count

-- the head of the body that this token opens, if it opens one, in these bodies
abbrev pub opened_head : Walk → Around → List Head → ℕ → TokenClass → Option Head
opened_head walk stands bodies id class =
    if is_open_brace class
    then head_of_kind (body_kind walk stands) (begun_before walk stands id) walk.place id (heads_len bodies) else None

-- behind the `{` of a body
abbrev pub entered : Walk → ℕ → Walk
entered walk id = record walk { begun = Unknown; last = opening id OpenBrace }

abbrev pub begun_behind : Head → Begun
begun_behind head = elim head.kind [ kind.If ↦ Behind head | _ ↦ Unknown ]

-- the `{` of a body with whose `}` a statement ends
abbrev pub block_behind : Head → Option ℕ
block_behind head = elim head.kind [ kind.Members ↦ None | _ ↦ Some (head.end - 1) ]

-- behind the `}` of the body with this head
abbrev pub left : Walk → Head → ℕ → Walk
left walk head id =
    record walk { begun = begun_behind head; last = record (opening id CloseBrace) { block = block_behind head } }
