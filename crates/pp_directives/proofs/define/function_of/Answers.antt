use Rattle.std.proofs.Common.{◌≡◌, length, map, ap, ◌∙◌, arith}
use Rattle.std.proofs.lemmas.Grind.{common_steps}
use Rattle.std.proofs.lemmas.Result.{IfOk-weaker}
use Rattle.pp_model.specs.Define.{Params}
use Rattle.pp_events.specs.View.{tok_shown}
use Rattle.pp_directives.proofs.BodyParts.{function_by}
use Rattle.pp_directives.proofs.define.function_of.Goals as goal

pub returns : goal.returns
returns c =
    let p : Params = record { names = map (λ n. n.items) c.args.parameters.items; variadic = c.args.variadic; body = map tok_shown c.args.body.items } in
    let count : c.len.result ≡ length p.names = grind (arith, common_steps) in
    IfOk-weaker c.macro_of.result _ _ (λ r h. h ∙ function_by c.args.name.now p _ _ (ap (λ ns. map (λ n. n.items) ns) c.as_slice.ensures.value ∙ c.in_ok-add_variadic.ensures p.body) count) c.macro_of.ensures
