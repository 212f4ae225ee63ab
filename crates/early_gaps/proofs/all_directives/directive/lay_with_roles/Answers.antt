use Rattle.std.proofs.Common.{◌≡◌, ◌∙◌, ◌-◌, [], ◌∷◌, List, ℕ, Option, length, ap, arith}
use Rattle.std.proofs.lemmas.List.FromFn.{length-range_with_len}
use Rattle.line_tokens.specs.declared.LineTok.{LineTok}
use Rattle.line_tokens.specs.declared.line.ULine.{ULine}
use Rattle.annotator.specs.Tokens.{roles_of}
use Rattle.item_classes.specs.Viewed.{classes_of}
use Rattle.token_classes.specs.Partners.{partners_of}
use Rattle.token_classes.specs.declared.class.TokenClass.{TokenClass}
use Rattle.replacements.specs.Decisions.{decided_all}
use Rattle.directive_layout.specs.Laid.{laid}
use Rattle.early_gaps.specs.Roles.{one_line, roles_between}
use Rattle.early_gaps.proofs.all_directives.directive.lay_with_roles.Goals as goal

pub roles_of_classes-requires-clause-cut : goal.roles_of_classes-requires-clause-cut
roles_of_classes-requires-clause-cut c =
    let first = c.args.first in
    let end = c.args.dir.now.end in
    let long : length c.in_ok-view.view ≡ end - first = ap length c.in_ok-view.ensures.items ∙ length-range_with_len first (end - first) in
    let begins : c.one_line.result.first ≡ 0 = ap (λ (l : ULine). l.first) c.one_line.ensures in
    let ends : c.one_line.result.last ≡ end - first - 1 = ap (λ (l : ULine). l.last) c.one_line.ensures in
    (begins, (omega (arith, begins), omega (arith, ends, long, c.requires.some)))

pub returns-clause-plan : goal.returns-clause-plan
returns-clause-plan c =
    let arena = c.args.arena.now in
    let dir = c.args.dir.now in
    let view = c.in_ok-view.view in
    let line = c.one_line.result ∷ [] in
    let toks = c.in_ok-toks.toks in
    let partners = c.in_ok-facts.ensures.partners ∙ ap (λ (cs : List TokenClass). partners_of cs) c.in_ok-classes.ensures.classes in
    let told : toks ≡ roles_between arena c.args.first dir.end =
    c.in_ok-toks.ensures.roles
    ∙ (ap (λ (ps : List (Option ℕ)). roles_of arena view ps line) partners
    ∙ (ap (λ (l : ULine). roles_of arena view (partners_of (classes_of arena view)) (l ∷ [])) c.one_line.ensures
    ∙ ap (λ (ids : List ℕ). roles_of arena ids (partners_of (classes_of arena ids)) (one_line (dir.end - c.args.first) ∷ [])) c.in_ok-view.ensures.items)) in
    c.lay.ensures.plan ∙ ap (λ (ts : List LineTok). decided_all c.args.plan.now (laid c.args.style.now arena c.args.depth ts dir)) told
