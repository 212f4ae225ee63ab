use Rattle.std.proofs.Common.{◌∙◌, ◌<◌, ℕ, List, ap, arith, get_or, length, sym}
use Rattle.token_arena.specs.Gaps.{began_of_item, item_began}
use Rattle.token_classes.specs.declared.class.TokenClass.TheVariants.{Nothing}
use Rattle.statement_lines.specs.declared.token.CodeToken.{CodeToken}
use Rattle.statement_lines.specs.Forms.{began_at, began_of}
use Rattle.statement_lines.specs.Tokens.{token_told}
use Rattle.statement_lines.proofs.TokenLemmas.{first_some, told_none}
use Rattle.statement_lines.proofs.token.CodeTokens.began_at.Goals as goal

pub returns-then-self-number : goal.returns-then-self-number
returns-then-self-number c =
    let p = c.self.inside.places in
    let classes = c.self.inside.classes.now in
    let token = token_told p.arena.now p.view.now p.comments.now p.touched.now c.self.inside.partners.now c.self.inside.numbers.now (length classes) in
    sym (ap began_of (told_none token 0 classes c.args.number c.if-self-number.true)) ∙ ap (λ (ts : List CodeToken). began_at ts c.args.number) c.self.view_is

pub returns : goal.returns
returns c =
    let p = c.self.inside.places in
    let classes = c.self.inside.classes.now in
    let token = token_told p.arena.now p.view.now p.comments.now p.touched.now c.self.inside.partners.now c.self.inside.numbers.now (length classes) in
    let within : c.args.number < length classes = omega (arith, c.if-self-number.false) in
    sym (ap began_of_item c.get.ensures)
    ∙ ap (item_began p.arena.now) (sym (c.at-id.ensures 0))
    ∙ ap (λ (k : ℕ). item_began p.arena.now (get_or p.view.now k 0)) c.place_of-place.ensures
    ∙ sym (ap began_of (first_some token classes c.args.number Nothing within))
    ∙ ap (λ (ts : List CodeToken). began_at ts c.args.number) c.self.view_is
