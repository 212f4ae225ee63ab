use Rattle.std.proofs.Common.{◌∙◌, not, sym, ap, arith}
use Rattle.replacements.proofs.Hashes.{first_no_hash}
use Rattle.replacements.proofs.hash.begins_no_hash.Goals as goal

pub returns-in-len1-up : goal.returns-in-len1-up
returns-in-len1-up c = λ h.
    first_no_hash c.args.raw.now (omega (arith, c.in-len1-up.len_at_least)) (sym (ap not c.may_begin_hash.ensures) ∙ h)
