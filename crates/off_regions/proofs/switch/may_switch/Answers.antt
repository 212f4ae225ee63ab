use Rattle.std.proofs.Common.{◌∙◌, drop, ap}
use Rattle.std.specs.Prelude.{codes}
use Rattle.c_grammar.specs.Rewritten.{read_alone}
use Rattle.c_grammar.specs.Touch.{is_front}
use Rattle.off_regions.specs.Switches.{behind_space}
use Rattle.off_regions.proofs.Spoken.{drop_twice}
use Rattle.off_regions.proofs.switch.may_switch.Goals as goal

pub returns : goal.returns
returns c =
    let d = c.args.dialect in
    let s = read_alone d c.args.raw.now in
    c.begins_with.ensures
    ∙ ap (is_front (codes "clang-format o")) (c.behind_space-text.ensures ∙ ap behind_space (c.behind_one-2.ensures ∙ ap (drop 1) c.behind_one.ensures ∙ drop_twice s))
