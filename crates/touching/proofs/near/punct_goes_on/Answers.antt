use Rattle.std.proofs.Common.{◌∙◌, sym}
use Rattle.touching.proofs.PlainBytes.{two_stay}
use Rattle.touching.proofs.near.punct_goes_on.Goals as goal

pub returns-then-not-is_third : goal.returns-then-not-is_third
returns-then-not-is_third c =
    two_stay c.args.dialect c.args.left c.args.raw.now c.args.right c.if-raw-eq2.true
    (sym c.is_plain-then-raw-eq2.ensures ∙ c.if-is_plain-2.true) (sym c.is_plain-then-is_plain-2.ensures ∙ c.if-is_plain-3.true)
    (sym c.is_third.ensures ∙ c.if-not-is_third.true)
