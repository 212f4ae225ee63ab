use Rattle.std.proofs.Common.{◌∙◌, sym}
use Rattle.token_arena.specs.Entries.{told_by}
use Rattle.off_regions.proofs.Spoken.{switches_nothing}
use Rattle.off_regions.proofs.switch.off_behind.Goals as goal

pub returns-then-not-may_switch : goal.returns-then-not-may_switch
returns-then-not-may_switch c =
    sym (switches_nothing c.args.dialect c.args.off (told_by c.args.token.now) (sym c.may_switch.ensures ∙ c.if-not-may_switch.true))
