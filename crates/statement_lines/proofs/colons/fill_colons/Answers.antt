use Rattle.std.proofs.Common.{◌-◌, ℕ, length, arith}
use Rattle.statement_lines.specs.Forms.{case_colon}
use Rattle.statement_lines.proofs.ColonLemmas.{Found, found}
use Rattle.statement_lines.proofs.colons.fill_colons.Goals as goal

pub overflow_cast-colons : goal.overflow_cast-colons
overflow_cast-colons c =
    let tokens = c.args.tokens.now in
    let place : ℕ = c.loop-place.place - 1 in
    let within : Found place (length tokens) (case_colon (length tokens - place) tokens (length tokens) place 0) =
    found (length tokens - place) tokens (length tokens) place 0 (omega (arith, c.loop-place.invariant.most)) in
    omega (arith, within.most, c.colon_from-colon.ensures, c.requires.few)
