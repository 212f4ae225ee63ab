use Rattle.std.proofs.Common.{◌∙◌, sym, ap, arith}
use Rattle.std.proofs.lemmas.List.{get_or-take, length-take-le}
use Rattle.token_classes.specs.declared.class.TokenClass.{TokenClass}
use Rattle.view_parts.specs.Quiet.{is_quiet}
use Rattle.token_classes.proofs.FirstTold.{first_pass}
use Rattle.view_parts.proofs.ends.quiet_count.Goals as goal

pub returns-in-Some-clause-quiet : goal.returns-in-Some-clause-quiet
returns-in-Some-clause-quiet c = λ k d below.
    let cases = c.in-Some.ensures.cases in
    first_pass (is_quiet c.args.around c.args.held) c.args.classes.now _ c.quiet_of_sixteen.result cases.0 (omega (arith, cases.2)) c.quiet_of_sixteen.ensures k d (omega (arith, below, c.min.ensures))

pub returns-in-None-clause-quiet : goal.returns-in-None-clause-quiet
returns-in-None-clause-quiet c = λ k d below.
    let classes = c.args.classes.now in
    let most = c.args.most in
    let told = c.few_quiet.ensures in
    ap (λ (class : TokenClass). is_quiet c.args.around c.args.held class) (sym (get_or-take most classes k d (omega (arith, below, told.within, length-take-le most classes c.requires)))) ∙ told.quiet k d below
