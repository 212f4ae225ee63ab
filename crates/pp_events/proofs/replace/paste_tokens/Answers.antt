use Rattle.std.proofs.Common.{◌≡◌, map, refl, ap, sym, ◌∙◌, rules}
use Rattle.pp_model.specs.Token.{Tok, common}
use Rattle.pp_events.specs.View.{shown, tok_shown}
use Rattle.pp_events.proofs.replace.paste_tokens.Goals as goal

pub returns : goal.returns
returns g c =
    let hides : map (λ n. n.items) c.in_ok-hide.hide.items ≡ common (tok_shown c.args.left).hide (tok_shown c.args.right).hide = search rules in
    ap (λ h. let t : Tok = record { token = shown c.in_ok-token.token; kind = c.in_ok-token.kind; hide = h; white = c.args.left.white; line = c.args.left.line } in t) hides
    ∙ sym (c.in_ok-token.ensures (tok_shown c.args.left) (tok_shown c.args.right) refl refl)
