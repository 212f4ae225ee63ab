use Rattle.std.proofs.Common.{◌∙◌, ◌<◌, List, ap, arith, length, sym}
use Rattle.std.specs.Prelude.{slice_get}
use Rattle.token_classes.specs.declared.class.TokenClass.TheVariants.{Nothing}
use Rattle.statement_lines.specs.declared.token.CodeToken.{CodeToken}
use Rattle.statement_lines.specs.Forms.{partner_of}
use Rattle.statement_lines.specs.Tokens.{token_told}
use Rattle.statement_lines.proofs.TokenLemmas.{first_some, told_none}
use Rattle.statement_lines.proofs.token.CodeTokens.partner_at.Goals as goal

pub returns-then-self-number : goal.returns-then-self-number
returns-then-self-number c =
    let p = c.self.inside.places in
    let classes = c.self.inside.classes.now in
    let token = token_told p.arena.now p.view.now p.comments.now p.touched.now c.self.inside.partners.now c.self.inside.numbers.now (length classes) in
    sym (ap partner_of (told_none token 0 classes c.args.number c.if-self-number.true)) ∙ ap (λ (ts : List CodeToken). partner_of (slice_get ts c.args.number)) c.self.view_is

pub returns : goal.returns
returns c =
    let p = c.self.inside.places in
    let classes = c.self.inside.classes.now in
    let token = token_told p.arena.now p.view.now p.comments.now p.touched.now c.self.inside.partners.now c.self.inside.numbers.now (length classes) in
    let within : c.args.number < length classes = omega (arith, c.if-self-number.false) in
    c.partner_told.ensures
    ∙ sym (ap partner_of (first_some token classes c.args.number Nothing within))
    ∙ ap (λ (ts : List CodeToken). partner_of (slice_get ts c.args.number)) c.self.view_is
