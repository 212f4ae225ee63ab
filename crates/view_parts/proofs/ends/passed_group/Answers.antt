use Rattle.std.proofs.Common.{◌≡◌, ◌∙◌, ◌+◌, ◌-◌, [], ◌∷◌, List, length, length-drop, take, drop, get_or, sym, ap, subst, arith}
use Rattle.std.proofs.lemmas.List.{get_or_default, take_all}
use Rattle.token_classes.specs.declared.class.TokenClass.{TokenClass}
use Rattle.view_parts.specs.Quiet.{ClosesGroup}
use Rattle.view_parts.proofs.ends.passed_group.Goals as goal

pub returns : goal.returns
returns c =
    let all = c.args.all.now in
    let shift = c.args.row.now.shift in
    let next = c.args.first + c.args.place + 1 + shift in
    let len = c.in_ok-len.len in
    let told = c.in_ok-len.ensures in
    let behind : take (length all - next) (drop next all) ≡ drop next all = take_all (length all - next) (drop next all) (omega (arith, length-drop next all)) in
    record {
      within = omega (arith, told.within, c.requires.here);
      opens = sym c.opens_group.ensures ∙ c.if-not-opens_group.false;
      closer = λ d. get_or_default all (next + len - 1) _ d (omega (arith, told.within, c.requires.here, c.requires.within)) ∙ ap (λ k. get_or all k d) (omega arith);
      closes = subst (λ (cs : List TokenClass). ClosesGroup (c.args.opener ∷ []) (take len cs)) behind told.closes;
    }
