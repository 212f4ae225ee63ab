use Rattle.std.proofs.Common.{◌≡◌, Bool, false, ◌&&◌, ap, sym, ◌∙◌}
use Rattle.line_tokens.specs.Roles.{is_comma}
use Rattle.line_tokens.specs.declared.role.Role.{Role}
use Rattle.std.proofs.lemmas.Bool.{OnTrue_from}
use Rattle.line_state.specs.Brackets.{binds_commas}
use Rattle.line_state.proofs.Staying.{binds_none}
use Rattle.line_state.proofs.stepping.binds_no_gaps.Goals as goal

pub returns-then-not-is_comma : goal.returns-then-not-is_comma
returns-then-not-is_comma c =
    let free : (opener : Role) → (is_comma c.args.role && binds_commas c.args.style.now opener) ≡ false = λ opener. ap (λ (b : Bool). b && binds_commas c.args.style.now opener) (sym c.is_comma.ensures ∙ c.if-not-is_comma.true) in
    OnTrue_from _ _ (λ yes. free)

pub returns-then-style : goal.returns-then-style
returns-then-style c = binds_none c.args.style.now _ c.if-style.true
