use Rattle.std.proofs.Common.{◌∙◌, ◌<◌, ℕ, List, ap, arith, length, sym}
use Rattle.std.specs.Prelude.{slice_get}
use Rattle.token_classes.specs.declared.class.TokenClass.TheVariants.{Nothing}
use Rattle.statement_lines.specs.declared.token.CodeToken.{CodeToken}
use Rattle.statement_lines.specs.Forms.{touched_at, touched_of}
use Rattle.statement_lines.specs.Tokens.{is_touched, token_told}
use Rattle.statement_lines.proofs.TokenLemmas.{first_some, told_none}
use Rattle.statement_lines.proofs.token.CodeTokens.touched_at.Goals as goal

pub returns-then-self-number : goal.returns-then-self-number
returns-then-self-number c =
    let p = c.self.inside.places in
    let classes = c.self.inside.classes.now in
    let token = token_told p.arena.now p.view.now p.comments.now p.touched.now c.self.inside.partners.now c.self.inside.numbers.now (length classes) in
    sym (ap touched_of (told_none token 0 classes c.args.number c.if-self-number.true)) ∙ ap (λ (ts : List CodeToken). touched_at ts c.args.number) c.self.view_is

pub returns : goal.returns
returns c =
    let p = c.self.inside.places in
    let classes = c.self.inside.classes.now in
    let token = token_told p.arena.now p.view.now p.comments.now p.touched.now c.self.inside.partners.now c.self.inside.numbers.now (length classes) in
    let within : c.args.number < length classes = omega (arith, c.if-self-number.false) in
    c.is_touched.ensures
    ∙ ap (λ (k : ℕ). is_touched (slice_get p.touched.now k)) c.place_of-place.ensures
    ∙ sym (ap touched_of (first_some token classes c.args.number Nothing within))
    ∙ ap (λ (ts : List CodeToken). touched_at ts c.args.number) c.self.view_is
