-- What the code keeps on the way along the items of a part.
use Rattle.std.specs.Prelude.{◌≡◌, ⊤, ℕ, ◌+◌, ◌==◌, nat_le, Bool, true, false, ◌||◌, ◌&&◌, not, None, Option}
use Rattle.std.specs.Prelude.{if◌then◌else◌}
use Rattle.token_classes.specs.declared.class.TokenClass.{TokenClass}
use Rattle.token_classes.specs.declared.class.TokenClass.TheVariants.{OpenRound, OpenSquare, OpenBrace}
use Rattle.token_arena.specs.Gaps.{Contents, item_began}
use Rattle.token_classes.specs.Classes.{is_comment, is_open_round}
use Rattle.part_walk.specs.declared.walk.Around.{Around}
use Rattle.part_walk.specs.declared.walk.Around.TheVariants as around
use Rattle.part_walk.specs.declared.walk.Begun.TheVariants.{With}
use Rattle.part_walk.specs.declared.walk.Outcome.{Outcome}
use Rattle.part_walk.specs.declared.walk.Outcome.TheVariants as outcome
use Rattle.part_walk.specs.declared.walk.Walk.{Walk}
use Rattle.part_walk.specs.Reading.{Reading, EndsOutside, EndsInBody, Never, GoesOn}
use Rattle.part_walk.specs.declared.bodies.Head.{Head}
use Rattle.part_walk.specs.Walk.{begins_outside, end_in_body, headed_by, is_between_comments, is_some, left}

-- a token of a body may tell where the part ends, or changes what is known in another way than by its class
abbrev pub tells_end : Walk → ℕ → Bool
tells_end walk id = not (id == walk.behind) || walk.last.apart || nat_le 512 walk.place || walk.last.structure

-- The same, by what an item stands in.
abbrev pub may_end : Walk → Around → ℕ → Bool
may_end walk around.Outside id = true
may_end walk around.Body id = tells_end walk id
may_end walk around.Group id = false

-- at this place, behind tokens in a row that tell nothing, by what they stand in: the last one has this number and
-- class
abbrev pub passed : Walk → Around → ℕ → ℕ → TokenClass → Walk
passed walk around.Group place last class = record walk { place = place }
passed walk stands place last class =
    record walk
    { place = place; asked = None; behind = last + 1; last = record walk.last { class = class; id = last } }

-- at this place, behind the bracket that closes a group, which has this number and class
abbrev pub group_passed : Walk → ℕ → ℕ → TokenClass → Walk
group_passed walk place id class =
    record walk {
      place = place;
      asked = None;
      behind = id + 1;
      last = record walk.last { class = class; id = id; apart = false };
    }

-- this opens a group
abbrev pub opens_group : TokenClass → Bool
opens_group OpenRound = true
opens_group OpenSquare = true
opens_group _ = false

-- behind a token of a body that begins no statement, ends none and opens no body, where no part can end
abbrev pub plain_passed : Walk → ℕ → TokenClass → Walk
plain_passed walk id class =
    record walk {
      place = walk.place + 1;
      asked = None;
      behind = id + 1;
      last = record walk.last {
        class = class;
        id = id;
        headed = if is_open_round class then headed_by walk.last.class else walk.last.headed;
      };
    }

-- the part ends before a `{`, by what that stands in
abbrev pub ends_before_brace : Walk → Around → ℕ → Bool
ends_before_brace walk around.Body id = is_some (end_in_body walk id OpenBrace)
ends_before_brace walk stands id = false

-- behind a body in a row whose `}` this is, at this place
abbrev pub body_passed : Walk → Head → ℕ → ℕ → Walk
body_passed walk head place id = left (record walk { place = place; behind = id + 1 }) head id

-- what comes of an item that tells this, and behind which the way goes on so
abbrev pub read_so : Outcome → Walk → Reading
read_so (outcome.EndsOutside count) next = EndsOutside count
read_so (outcome.EndsInBody count) next = EndsInBody count
read_so outcome.Never next = Never
read_so outcome.GoesOn next = GoesOn next

-- the way stays before an item that ends a part in a body
abbrev pub StaysWhereItEnds : Outcome → Walk → Walk → Type 0
StaysWhereItEnds (outcome.EndsInBody count) old new = new ≡ old
StaysWhereItEnds _ old new = ⊤

-- a comment stands behind the end of a declaration and comments, or behind these alone
abbrev pub follows_between : Walk → TokenClass → Bool
follows_between walk class = is_comment class && is_between_comments walk.declaration.before

-- behind such a comment, where the part is asked to end so
abbrev pub comment_passed : Walk → ℕ → TokenClass → Option ℕ → Walk
comment_passed walk id class asked =
    record walk {
      place = walk.place + 1;
      declaration = record walk.declaration { commented = false };
      asked = asked;
      begun = if begins_outside walk id then With (record { id = id; place = walk.place }) else walk.begun;
      behind = id + 1;
      last = record walk.last { class = class; id = id; structure = false };
    }

-- behind how many items a part is asked to end there, which was asked before or not
abbrev pub still_asked : Contents → Walk → ℕ → Option ℕ
still_asked arena walk id = if item_began arena id then walk.asked else None
