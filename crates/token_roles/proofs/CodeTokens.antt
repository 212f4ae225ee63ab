-- A token that is no comment and no bracket.
use Rattle.std.proofs.Common.{◌≡◌, ℕ, Option, true, false, not, List, [], ◌∷◌, ◌++◌, refl}
use Rattle.std.specs.Prelude.{if◌then◌else◌}
use Rattle.token_classes.specs.declared.class.TokenClass.{TokenClass}
use Rattle.token_classes.specs.declared.class.TokenClass.TheVariants.{OpenRound, CloseRound, OpenSquare, CloseSquare}
use Rattle.token_classes.specs.declared.class.TokenClass.TheVariants.{OpenBrace, CloseBrace, LineComment, BlockComment}
use Rattle.line_tokens.specs.declared.role.Role.{Role}
use Rattle.token_classes.specs.Classes.{is_comment, is_opener}
use Rattle.token_roles.specs.Classes.{is_closer}
use Rattle.token_roles.specs.declared.left.Left.{Left}
use Rattle.token_roles.specs.declared.mark.Mark.{Mark}
use Rattle.token_roles.specs.Left.{passed, counted, splits_behind}
use Rattle.token_roles.specs.Marks.{mark_of, past_code}

pub record IsCode (class : TokenClass) : Type 0 where
  pub comment : is_comment class ≡ false
  pub opener : is_opener class ≡ false
  pub closer : is_closer class ≡ false

pub code_class : (class : TokenClass) → (class ≡ OpenRound → ⊥) → (class ≡ CloseRound → ⊥) → (class ≡ OpenSquare → ⊥) → (class ≡ CloseSquare → ⊥) → (class ≡ OpenBrace → ⊥) → (class ≡ CloseBrace → ⊥) → (class ≡ LineComment → ⊥) → (class ≡ BlockComment → ⊥) → IsCode class
code_class OpenRound a b c d e f g h = absurd (a refl)
code_class CloseRound a b c d e f g h = absurd (b refl)
code_class OpenSquare a b c d e f g h = absurd (c refl)
code_class CloseSquare a b c d e f g h = absurd (d refl)
code_class OpenBrace a b c d e f g h = absurd (e refl)
code_class CloseBrace a b c d e f g h = absurd (f refl)
code_class LineComment a b c d e f g h = absurd (g refl)
code_class BlockComment a b c d e f g h = absurd (h refl)
code_class _ a b c d e f g h = record { comment = refl; opener = refl; closer = refl }

pub is_code : (class : TokenClass) → IsCode class → true ≡ not (is_comment class)
is_code class code = rw code.comment refl

pub code_marked : {after : List Mark} (marks : List Mark) (left : Left) (class : TokenClass) (closed told : Role) → IsCode class
    → after ≡ marks ++ mark_of left (record { class = class; role = told }) ∷ []
    → after ≡ (if is_comment class then marks else marks ++ mark_of left (record { class = class; role = if is_closer class then closed else told }) ∷ [])
code_marked marks left class closed told code is = rw (code.comment, code.closer) is

pub code_passed : {behind : Left} (partners : List (Option ℕ)) (first : ℕ) (marks : List Mark) (left : Left) (class : TokenClass) (closed told : Role) (after : List TokenClass) → IsCode class
    → behind ≡ passed left (record { class = class; role = told }) (counted left.around class) (splits_behind left (record { class = class; role = told }))
    → behind ≡ (if is_comment class then left else past_code partners first marks left (record { class = class; role = if is_closer class then closed else told }) after)
code_passed partners first marks left class closed told after code is = rw (code.comment, code.opener, code.closer) is
