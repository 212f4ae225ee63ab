-- Where the operand of a directive begins: docs/PROFILE.md, "Layout of directives".
use Rattle.std.specs.Prelude.{ℕ, zero, suc, ◌+◌, ◌-◌, List, [], ◌∷◌, drop, if◌then◌else◌}
use Rattle.c_chars.specs.declared.Dialect.{Dialect}
use Rattle.token_arena.specs.Stored.{Stored}
use Rattle.token_arena.specs.Gaps.{Contents}
use Rattle.token_arena.specs.declared.directives.Directive.{Directive}
use Rattle.directive_layout.specs.Parts.{first_part, next_part}
use Rattle.directive_layout.specs.Laid.{is_operand}
use Rattle.directive_layout.specs.declared.part.HeadPart.{HeadPart}

-- the number of the first item of an operand, among so many of these that stand behind one that is this part, the first
-- of them having this number; the number behind them where they are all of the head
abbrev pub operand_from : Dialect → HeadPart → Stored → ℕ → List Stored → ℕ → ℕ
operand_from d part left place tokens zero = place
operand_from d part left place [] (suc count) = place
operand_from d part left place (token ∷ tokens) (suc count) =
    if is_operand (next_part d part left token) then place
    else operand_from d (next_part d part left token) token (place + 1) tokens count

-- the same among these items up to an end, of which the first has this number and begins a directive
abbrev pub operand_among : Dialect → ℕ → ℕ → List Stored → ℕ
operand_among d first end [] = end
operand_among d first end (token ∷ tokens) =
    operand_from d (first_part token) token (first + 1) tokens (end - (first + 1))

-- the first item of a directive's operand, or the first behind the directive where it has none
abbrev pub operand_first : Contents → Directive → ℕ
operand_first arena dir = operand_among arena.dialect dir.first dir.end (drop dir.first arena.tokens)
