-- What the functions of this crate tell one another.
use Rattle.std.specs.Prelude.{not, get_or, List, length}
use Rattle.token_arena.specs.Gaps.{Contents}
use Rattle.token_classes.specs.declared.class.TokenClass.{TokenClass}
use Rattle.token_roles.specs.declared.left.Seen.{Seen}
use Rattle.token_roles.specs.declared.left.Left.{Left}
use Rattle.token_roles.specs.declared.mark.Mark.{Mark}
use Rattle.token_roles.specs.Classes.{is_nothing}
use Rattle.token_roles.specs.RoleTable.{class_behind}
use Rattle.annotator.specs.declared.line.LineSight.{LineSight}
use Rattle.annotator.specs.Line.{Sight, comment_role}

-- what a line's tokens are told by
abbrev pub line_sight : LineSight → Sight
line_sight sight = record {
  arena = sight.arena.now;
  ids = sight.view.now;
  partners = sight.partners.now;
  kind = sight.kind;
  first = sight.first;
  before = sight.before;
}

-- the comment in front of these, where these places were passed
abbrev pub comment_here : Sight → List Mark → Left → TokenClass → Seen
comment_here sight marks left class = record {
  class = class;
  role = comment_role sight.arena (get_or sight.ids (length marks) 0)
      (not (is_nothing (class_behind sight.before left))) class;
}
