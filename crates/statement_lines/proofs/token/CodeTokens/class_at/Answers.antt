use Rattle.std.proofs.Common.{◌∙◌, List, ap, length, refl, sym}
use Rattle.statement_lines.specs.declared.token.CodeToken.{CodeToken}
use Rattle.statement_lines.specs.Forms.{class_at}
use Rattle.statement_lines.specs.Tokens.{token_told}
use Rattle.statement_lines.proofs.TokenLemmas.{told_class}
use Rattle.statement_lines.proofs.token.CodeTokens.class_at.Goals as goal

pub returns : goal.returns
returns c =
    let p = c.self.inside.places in
    let classes = c.self.inside.classes.now in
    let token = token_told p.arena.now p.view.now p.comments.now p.touched.now c.self.inside.partners.now c.self.inside.numbers.now (length classes) in
    c.class_in.ensures ∙ sym (told_class token 0 classes c.args.number (λ n class. refl)) ∙ ap (λ (ts : List CodeToken). class_at ts c.args.number) c.self.view_is
