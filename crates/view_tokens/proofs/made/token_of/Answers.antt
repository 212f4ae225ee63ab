use Rattle.std.proofs.Common.{◌∙◌, ap, sym, Bool, List, drop}
use Rattle.std.proofs.lemmas.Option.{get_or_from_slice_get}
use Rattle.line_tokens.specs.declared.LineTok.{LineTok}
use Rattle.token_roles.specs.declared.mark.Mark.{Mark}
use Rattle.token_roles.specs.Held.{is_held}
use Rattle.view_tokens.specs.Inside.{told}
use Rattle.view_tokens.specs.Tokens.{tok_of}
use Rattle.view_tokens.proofs.made.token_of.Goals as goal

pub returns : goal.returns
returns c = λ d.
    let arena = c.args.arena.now in
    let marks = c.args.marks.now in
    let mark = c.mark_at.result.now in
    c.tell.ensures
    ∙ (ap (λ (t : LineTok). told t mark c.is_held.result) c.item_tok-tok.ensures
    ∙ (ap (λ (held : Bool). tok_of arena c.args.id c.args.apart mark held) (c.is_held.ensures ∙ ap (λ (ms : List Mark). is_held ms) c.marks_from.ensures)
    ∙ ap (λ (m : Mark). tok_of arena c.args.id c.args.apart m (is_held (drop c.args.place marks))) (sym (get_or_from_slice_get marks c.args.place mark d c.mark_at.ensures))))
