-- What is told of a gap by the roles and kinds of the tokens beside it.
use Rattle.std.proofs.Common.{◌≡◌, ◌∙◌, ◌<◌, ◌==◌, ◌||◌, ◌&&◌, not, Bool, true, false, refl, arith}
use Rattle.std.proofs.lemmas.Bool.{ne_eqb}
use Rattle.line_tokens.specs.declared.LineTok.{LineTok}
use Rattle.line_tokens.specs.Roles.{is_own, is_trailing}
use Rattle.line_tokens.specs.declared.role.Role.{Role}
use Rattle.line_tokens.specs.declared.role.Role.TheVariants.{Trailing}
use Rattle.style_table.specs.declared.style.Style.{Style}
use Rattle.layout_tables.specs.Breaks.{ends_its_row, gap_rule}
use Rattle.layout_tables.proofs.Needs.{must_of_gap}

-- no directive, no end of a list, nothing that takes its line and no comment on lines of its own makes a row end
pub no_break : (style : Style) (left right : LineTok) → right.directive ≡ false → (right.trailing_list || ends_its_row left.kind) ≡ false → is_own right.role ≡ false → 0 < style.column_limit
    → (gap_rule style left right).must ≡ false
no_break style left right together ends own limit =
    must_of_gap style left right
    ∙ none right.directive right.trailing_list (ends_its_row left.kind) (is_own right.role) (style.column_limit == 0) (not (right.gap.lines == 0)) together ends own (ne_eqb style.column_limit 0 (λ e. absurd (omega (arith, e, limit))))
  where
    none : (directive lists ends own unlimited apart : Bool) → directive ≡ false → (lists || ends) ≡ false → own ≡ false → unlimited ≡ false → ((((directive || lists) || ends) || own) || (unlimited && apart)) ≡ false
    none true lists ends own unlimited apart d e o u = cc
    none false true ends own unlimited apart d e o u = cc
    none false false true own unlimited apart d e o u = cc
    none false false false true unlimited apart d e o u = cc
    none false false false false true apart d e o u = cc
    none false false false false false apart d e o u = refl

-- a comment behind code isn't one on lines of its own
pub trails : (role : Role) → is_trailing role ≡ true → is_own role ≡ false
trails Trailing e = refl
trails _ e = cc
