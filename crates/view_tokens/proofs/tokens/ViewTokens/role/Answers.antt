use Rattle.std.proofs.Common.{◌∙◌, sym, ap, arith, List, get_or}
use Rattle.std.proofs.lemmas.Option.{get_or_from_slice_get}
use Rattle.line_tokens.specs.declared.LineTok.{LineTok}
use Rattle.token_roles.specs.declared.mark.Mark.{Mark}
use Rattle.view_tokens.proofs.Pushed.{no_mark}
use Rattle.view_tokens.proofs.Rows.{view_count, view_token}
use Rattle.view_tokens.proofs.tokens.ViewTokens.role.Goals as goal

pub mark_at-requires : goal.mark_at-requires
mark_at-requires c = omega (arith, view_count c.self.inside.arena.now c.self.inside.view.now c.self.inside.marks.now c.args.self.now (sym c.self.view_is), c.requires)

pub returns : goal.returns
returns c = λ d.
    ap (λ (m : Mark). m.seen.role) (sym (get_or_from_slice_get c.self.inside.marks.now c.args.place c.mark_at.result.now no_mark c.mark_at.ensures))
    ∙ (sym (ap (λ (t : LineTok). t.role) (view_token c.self.inside.arena.now c.self.inside.view.now c.self.inside.marks.now c.args.place d (omega (arith, view_count c.self.inside.arena.now c.self.inside.view.now c.self.inside.marks.now c.args.self.now (sym c.self.view_is), c.requires))))
    ∙ ap (λ (ts : List LineTok). (get_or ts c.args.place d).role) c.self.view_is)
