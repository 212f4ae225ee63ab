-- The openers that wait and the bodies that are open on the way along the items of a part.
use Rattle.std.specs.Prelude.{ℕ, ◌+◌, ◌==◌, nat_lt, Bool, if◌then◌else◌, Option, Some, None, List, [], ◌∷◌, length}
use Rattle.std.specs.Prelude.{reverse}
use Rattle.token_classes.specs.declared.class.TokenClass.{TokenClass}
use Rattle.token_classes.specs.declared.class.TokenClass.TheVariants.{OpenBrace}
use Rattle.token_classes.specs.Classes.{is_close_brace}
use Rattle.token_classes.specs.declared.pairing.Opener.{Opener}
use Rattle.token_classes.specs.Partners.{bracket_step}
use Rattle.part_walk.specs.declared.walk.Around.{Around}
use Rattle.part_walk.specs.declared.walk.Around.TheVariants as around
use Rattle.part_walk.specs.Places.{Place}
use Rattle.part_walk.specs.declared.bodies.Head.{Head}
use Rattle.part_walk.specs.declared.walk.Walk.{Walk}
use Rattle.part_walk.specs.Walk.{entered, left}

-- the openers that wait behind a token ("Partners"): the `{` of the bodies where a part begins have the place 0, its
-- own items those behind that
abbrev pub waiting_behind : TokenClass → ℕ → List Opener → List Opener
waiting_behind class place waiting =
    (bracket_step class (place + 1) (record { open_brackets = waiting; partners = [] })).open_brackets

-- the `{` of bodies, which wait
abbrev pub braces_of : List Head → List Opener
braces_of [] = []
braces_of (head ∷ heads) = record { place = 0; kind = OpenBrace } ∷ braces_of heads

abbrev pub heads_at : Option Place → List Head
heads_at None = []
heads_at (Some place) = place.heads

-- before the first item of a part: where it begins in bodies their `{` wait
abbrev pub waiting_at : Option Place → List Opener
waiting_at begins = braces_of (heads_at begins)

-- the bodies that are open there, the innermost first
abbrev pub bodies_at : Option Place → List Head
bodies_at begins = reverse (heads_at begins)

-- what the next item stands in, where these bodies are open: no opener waits; or those of the bodies alone; or others
abbrev pub around_of : List Head → List Opener → Around
around_of bodies [] = around.Outside
around_of bodies waiting = if length waiting == length bodies then around.Body else around.Group

-- a body is open whose `{` doesn't wait any more
abbrev pub is_left : List Head → List Opener → Bool
is_left bodies waiting = nat_lt (length waiting) (length bodies)

abbrev pub without_innermost : List Head → List Head
without_innermost [] = []
without_innermost (head ∷ bodies) = bodies

-- the bodies that are open behind a token that opens one with this head, or none, where these openers wait behind it
abbrev pub bodies_behind : List Head → List Opener → Option Head → List Head
bodies_behind bodies waiting (Some head) = head ∷ bodies
bodies_behind bodies waiting None = if is_left bodies waiting then without_innermost bodies else bodies

abbrev pub left_innermost : Walk → List Head → ℕ → Walk
left_innermost walk [] id = walk
left_innermost walk (head ∷ bodies) id = left walk head id

-- what is known behind it
abbrev pub walk_behind : Walk → List Head → List Opener → Option Head → ℕ → Walk
walk_behind walk bodies waiting (Some head) id = entered walk id
walk_behind walk bodies waiting None id = if is_left bodies waiting then left_innermost walk bodies id else walk

-- the place of a body behind the last token that is no comment
abbrev pub place_behind : Walk → List Head → Place
place_behind walk bodies = record {
  heads = reverse bodies;
  opened = if is_close_brace walk.last.class then walk.last.block else None;
  ended = walk.last.id;
  declaration = walk.declaration;
}
