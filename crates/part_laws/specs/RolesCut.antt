-- A view of two parts, and what is asked of the cut between them.
use Rattle.std.specs.Prelude.{◌≡◌, ℕ, Bool, true, false, ◌&&◌, ◌||◌, not, if◌then◌else◌, IsTrue, IsFalse, Option, List}
use Rattle.std.specs.Prelude.{[], ◌∷◌, ◌++◌, length, map}
use Rattle.line_tokens.specs.declared.LineTok.{LineTok}
use Rattle.line_tokens.specs.declared.line.ULine.{ULine}
use Rattle.line_tokens.specs.Lines.{CutPlaces}
use Rattle.token_arena.specs.Gaps.{Contents, item_began}
use Rattle.token_classes.specs.declared.class.TokenClass.{TokenClass}
use Rattle.token_classes.specs.declared.class.TokenClass.TheVariants.{Nothing}
use Rattle.token_classes.specs.Classes.{is_comment, is_close_round, is_before_list}
use Rattle.item_classes.specs.Viewed.{AreWithin, item_class, classes_of}
use Rattle.token_roles.specs.Held.{is_inner}
use Rattle.annotator.specs.Tokens.{roles_of}
use Rattle.item_classes.specs.Items.{stands_apart}
use Rattle.part_laws.specs.LinesCut.{partner_behind, line_behind}

-- ## Parts

-- items with the partners of their brackets and their lines, by their places among these items
pub record ItemRun : Type 0 where
  pub ids : List ℕ
  pub partners : List (Option ℕ)
  pub lines : List ULine

-- the items of two parts, the second behind the first: no bracket of one has its partner in the other, and no line goes
-- over the cut
abbrev pub joined : ItemRun → ItemRun → ItemRun
joined earlier later = record {
  ids = earlier.ids ++ later.ids;
  partners = earlier.partners ++ map (partner_behind (length earlier.ids)) later.partners;
  lines = earlier.lines ++ map (line_behind (length earlier.ids)) later.lines;
}

-- ## Cuts

-- the tokens of these items by themselves
abbrev pub toks_of : Contents → ItemRun → List LineTok
toks_of arena run = roles_of arena run.ids run.partners run.lines

-- the last of these classes that is no comment, where this one stands before them
abbrev pub last_code : TokenClass → List TokenClass → TokenClass
last_code before [] = before
last_code before (class ∷ classes) = last_code (if is_comment class then before else class) classes

-- the last of these tokens is an inner comment, or it is known where there are none
abbrev pub ends_inner : Bool → List LineTok → Bool
ends_inner last [] = last
ends_inner last (tok ∷ toks) = ends_inner (is_inner tok.role) toks

-- the comments before the first token that is none began their lines
abbrev pub comments_begin : Contents → List ℕ → Bool
comments_begin arena [] = true
comments_begin arena (id ∷ ids) =
    not (is_comment (item_class arena id)) || (item_began arena id && comments_begin arena ids)

-- A view may be cut between two parts of which each has whole lines: the last token before the cut that is no comment
-- tells nothing of a `{` behind it, the last token before it is no inner comment, and the comments directly behind it
-- began their lines.
pub record IsCut (arena : Contents) (earlier later : ItemRun) : Type 0 where
  pub earlier_items : AreWithin arena earlier.ids
  pub later_items : AreWithin arena later.ids
  pub partners : length earlier.partners ≡ length earlier.ids
  pub earlier_lines : CutPlaces 0 (length earlier.ids) earlier.lines
  pub later_lines : CutPlaces 0 (length later.ids) later.lines
  pub opens_list : IsFalse (is_before_list (last_code Nothing (classes_of arena earlier.ids)))
  pub closes : IsFalse (is_close_round (last_code Nothing (classes_of arena earlier.ids)))
  pub inner : IsFalse (ends_inner false (toks_of arena earlier))
  pub comments : IsTrue (comments_begin arena later.ids)

-- ## Roles

-- the same tokens, where a directive stands before the first or doesn't
abbrev pub with_first_apart : Bool → List LineTok → List LineTok
with_first_apart apart [] = []
with_first_apart apart (tok ∷ toks) = record tok { directive = apart } ∷ toks

-- the tokens of both parts are those of each by itself, but that the first behind the cut tells of the item before it
abbrev pub TellsParts : Type 0
TellsParts = (arena : Contents) (earlier later : ItemRun) → IsCut arena earlier later
    → toks_of arena (joined earlier later)
    ≡ toks_of arena earlier
    ++ with_first_apart (stands_apart (earlier.ids ++ later.ids) (length earlier.ids)) (toks_of arena later)
