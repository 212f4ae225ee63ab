use Rattle.std.proofs.Common.{◌∙◌, ◌∷◌, ◌++◌, [], Bool, ap}
use Rattle.line_tokens.specs.declared.LineTok.{LineTok}
use Rattle.view_tokens.specs.Inside.{told}
use Rattle.view_tokens.specs.Tokens.{tok_of}
use Rattle.view_tokens.proofs.Pushed.{told_last}
use Rattle.view_tokens.proofs.made.push_told.Goals as goal

pub returns-clause-items : goal.returns-clause-items
returns-clause-items c =
    let toks = c.args.toks.now.items in
    let mark = c.args.mark.now in
    told_last toks c.push_reserved.new.self.items c.item_tok.result c.index_mut-tok.result.now c.tell.new.tok mark c.is_hash.result c.len-place.result (c.len-place.ensures ∙ c.args.toks.now.ok.0)
    c.push_reserved.ensures.items c.index_mut-tok.ensures.value c.tell.ensures
    ∙ (ap (λ (tok : LineTok). toks ++ told tok mark c.is_hash.result ∷ []) c.item_tok.ensures
    ∙ ap (λ (held : Bool). toks ++ tok_of c.args.arena.now c.args.id c.args.apart mark held ∷ []) c.is_hash.ensures)
