-- What is told of a token, and what stands to the left of the next one.
use Rattle.std.specs.Prelude.{ℕ, ◌+◌, ◌-◌, Bool, false, ◌&&◌, ◌||◌, not, take, nat_le, if◌then◌else◌, Option, Some}
use Rattle.std.specs.Prelude.{None, List, length, slice_get, reverse}
use Rattle.line_tokens.specs.declared.role.Role.{Role}
use Rattle.line_tokens.specs.declared.role.Role.TheVariants.{CtrlOpen, CallOpen, CastOpen, DeclOpen, GroupOpen}
use Rattle.line_tokens.specs.declared.role.Role.TheVariants.{IndexOpen, DesigOpen, ListOpen, CtrlClose, CallClose}
use Rattle.line_tokens.specs.declared.role.Role.TheVariants.{CastClose, DeclClose, GroupClose, IndexClose, DesigClose}
use Rattle.line_tokens.specs.declared.role.Role.TheVariants.{ListClose, BlockClose}
use Rattle.line_tokens.specs.Roles.{is_trailing, is_list_open, is_list_close}
use Rattle.token_classes.specs.declared.class.TokenClass.{TokenClass}
use Rattle.token_classes.specs.declared.class.TokenClass.TheVariants.{CloseRound, CloseSquare}
use Rattle.token_classes.specs.Classes.{is_comment, is_comma, is_opener}
use Rattle.token_roles.specs.declared.left.Around.{Around}
use Rattle.token_roles.specs.declared.left.Seen.{Seen}
use Rattle.token_roles.specs.declared.left.Left.{Left}
use Rattle.token_roles.specs.declared.mark.Mark.{Mark}
use Rattle.token_roles.specs.Classes.{is_closer}
use Rattle.token_roles.specs.Left.{outside, inside, counted, splits_behind, passed}
use Rattle.token_roles.specs.Power.{power}
use Rattle.token_roles.specs.RoleTable.{next}

-- ## Closing brackets

-- the close of an opener
abbrev pub close_of : Role → Role
close_of CtrlOpen = CtrlClose
close_of CallOpen = CallClose
close_of CastOpen = CastClose
close_of DeclOpen = DeclClose
close_of GroupOpen = GroupClose
close_of IndexOpen = IndexClose
close_of DesigOpen = DesigClose
close_of ListOpen = ListClose
close_of _ = BlockClose

-- a closing bracket without partner
abbrev pub lone_close : TokenClass → Role
lone_close CloseRound = GroupClose
lone_close CloseSquare = IndexClose
lone_close _ = BlockClose

abbrev pub partner_of : Option (Option ℕ) → Option ℕ
partner_of None = None
partner_of (Some partner) = partner

-- the partner of the token at a place
abbrev pub partner_at : List (Option ℕ) → ℕ → Option ℕ
partner_at partners place = partner_of (slice_get partners place)

-- what is told of a place, where it has been passed
abbrev pub mark_at : List Mark → Option ℕ → Option Mark
mark_at marks None = None
mark_at marks (Some place) = slice_get marks place

-- a closing bracket has the role that closes that of its partner
abbrev pub closed_role : TokenClass → Option Mark → Role
closed_role class None = lone_close class
closed_role class (Some mark) = close_of mark.seen.role

-- What stood around the partner of a closing bracket stands around what follows it. A bracket without partner changes
-- nothing. Where the partner stands before the line, which begins at the place `first`, nothing of the line is around,
-- and the statement goes on.
abbrev pub taken_back : ℕ → Option ℕ → Option Mark → Around → Around
taken_back first None mark around = around
taken_back first (Some place) None around = outside
taken_back first (Some place) (Some mark) around =
    if nat_le first place then mark.around else record outside { assigned = mark.around.assigned }

-- ## Lists with a last comma

-- a group's last token, comments aside, is a comma
abbrev pub last_is_comma : List TokenClass → Bool
last_is_comma group = is_comma (next (reverse group))

-- the opener at this place, with this partner, has a group that ends in a comma
abbrev pub ends_in_comma : ℕ → Option ℕ → List TokenClass → Bool
ends_in_comma place None after = false
ends_in_comma place (Some partner) after = last_is_comma (take (partner - (place + 1)) after)

-- The gap before a token is one of a list whose last token is a comma: directly behind its `{` or a comma directly in
-- it, or before its `}`. The gap before a trailing comment is none: the one behind it is.
abbrev pub is_split : Left → Role → Bool
is_split left role = not (is_trailing role) && (left.splits || (is_list_close role && is_comma left.previous.class))

-- ## Behind a token

-- to the left of the token behind a comment
abbrev pub past_comment : Left → Role → Left
past_comment left role = if is_trailing role then left else record left { splits = false }

-- to the left of the token behind an opener
abbrev pub past_opener : List (Option ℕ) → ℕ → Left → Seen → List TokenClass → Left
past_opener partners place left seen after =
    let last_comma = is_list_open seen.role && ends_in_comma place (partner_at partners place) after in
    passed left seen (inside left seen last_comma) last_comma

-- to the left of the token behind one that is no comment
abbrev pub past_code : List (Option ℕ) → ℕ → List Mark → Left → Seen → List TokenClass → Left
past_code partners first marks left seen after =
    let partner = partner_at partners (length marks) in
    if is_opener seen.class then past_opener partners (length marks) left seen after
    else (if is_closer seen.class
    then passed left seen (taken_back first partner (mark_at marks partner) left.around) false
    else passed left seen (counted left.around seen.class) (splits_behind left seen))

abbrev pub left_next : List (Option ℕ) → ℕ → List Mark → Left → Seen → List TokenClass → Left
left_next partners first marks left seen after =
    if is_comment seen.class then past_comment left seen.role else past_code partners first marks left seen after

abbrev pub mark_of : Left → Seen → Mark
mark_of left seen =
    record { seen = seen; trailing_list = is_split left seen.role; power = power seen; around = left.around }
