use Rattle.std.proofs.Common.{◌≡◌, ◌<◌, ◌+◌, [], ◌∷◌, ◌++◌, length, map, drop, ap, sym, ◌∙◌, arith}
use Rattle.std.proofs.lemmas.List.{map-append}
use Rattle.std.proofs.lemmas.Grind.{common_steps}
use Rattle.pp_model.specs.Call.{collect, one_less}
use Rattle.pp_events.specs.View.{tok_shown, toks_shown}
use Rattle.pp_events.specs.Collected.{ended}
use Rattle.pp_events.proofs.Arguments.{token_at}
use Rattle.pp_events.proofs.call.read_args.Goals as goal
use Rattle.pp_events.proofs.call.read_args.Goals.{in-Comma+in_ok-push-in-Comma, in-Within+in_ok-add_tok-in-Within}

pub returns-in-End-clause-read : goal.returns-in-End-clause-read
returns-in-End-clause-read c =
    let arg = map tok_shown c.loop-index.arg.items in
    let args = map toks_shown c.loop-index.args.items in
    let t = c.index-token.result.now in
    let after = map tok_shown (drop (c.loop-index.index + 1) c.args.rest.now.items) in
    let within : c.loop-index.index < length c.args.rest.now.items = grind (arith, common_steps) in
    let split : map tok_shown (drop c.loop-index.index c.args.rest.now.items) ≡ tok_shown t ∷ after = token_at c.args.rest.now.items c.loop-index.index t within c.index-token.ensures in
    let read : map toks_shown c.push.new.self.items ≡ args ++ arg ∷ [] = ap (map toks_shown) c.in_ok-push-in-End.ensures.items ∙ map-append toks_shown c.loop-index.args.items (c.loop-index.arg ∷ []) in
    ap (ended (map toks_shown c.push.new.self.items)) split
    ∙ ap (λ xs. ended xs (tok_shown t ∷ after)) read
    ∙ sym (c.in-End.ensures.marks arg args after)
    ∙ ap (collect c.loop-index.limit c.loop-index.depth arg args) (sym split)
    ∙ c.loop-index.invariant.same

pub loop-index-preserved : goal.loop-index-preserved
loop-index-preserved c =
    let arg = map tok_shown c.loop-index.arg.items in
    let args = map toks_shown c.loop-index.args.items in
    let t = c.index-token.result.now in
    let after = map tok_shown (drop (c.loop-index.index + 1) c.args.rest.now.items) in
    let within : c.loop-index.index < length c.args.rest.now.items = grind (arith, common_steps) in
    let split : map tok_shown (drop c.loop-index.index c.args.rest.now.items) ≡ tok_shown t ∷ after = token_at c.args.rest.now.items c.loop-index.index t within c.index-token.ensures in
    let before : collect c.loop-index.limit c.loop-index.depth arg args (tok_shown t ∷ after) ≡ collect c.args.limit 0 [] (map toks_shown c.args.args.now.items) (map tok_shown (drop 1 c.args.rest.now.items)) =
    ap (collect c.loop-index.limit c.loop-index.depth arg args) (sym split) ∙ c.loop-index.invariant.same in
    elim c.match-mark_of.branch [
      | in-Comma+in_ok-push-in-Comma w ↦
          let read : map toks_shown c.match-mark_of.args.items ≡ args ++ arg ∷ [] = ap (λ v. map toks_shown v.items) w.args-is ∙ ap (map toks_shown) w.in_ok-push-in-Comma.ensures.items ∙ map-append toks_shown c.loop-index.args.items (c.loop-index.arg ∷ []) in
          let none : map tok_shown c.match-mark_of.arg.items ≡ [] = ap (λ v. map tok_shown v.items) w.arg-is ∙ ap (map tok_shown) w.new-arg-in-Comma.ensures.items in
          let fewer : c.match-mark_of.limit ≡ one_less c.loop-index.limit = w.limit-is ∙ w.one_less-limit.ensures in
          record {
            same =
                ap (λ l. collect l c.match-mark_of.depth (map tok_shown c.match-mark_of.arg.items) (map toks_shown c.match-mark_of.args.items) after) fewer
                ∙ ap (λ d. collect (one_less c.loop-index.limit) d (map tok_shown c.match-mark_of.arg.items) (map toks_shown c.match-mark_of.args.items) after) w.depth-is
                ∙ ap (λ xs. collect (one_less c.loop-index.limit) c.loop-index.depth xs (map toks_shown c.match-mark_of.args.items) after) none
                ∙ ap (λ xs. collect (one_less c.loop-index.limit) c.loop-index.depth [] xs after) read
                ∙ sym (w.in-Comma.ensures.marks arg args after)
                ∙ before;
            bound = omega (arith, w.depth-is, c.loop-index.invariant.bound);
          }
      | in-Within+in_ok-add_tok-in-Within w ↦
          let longer : map tok_shown c.match-mark_of.arg.items ≡ arg ++ tok_shown t ∷ [] = ap (λ v. map tok_shown v.items) w.arg-is ∙ w.in_ok-add_tok-in-Within.ensures in
          record {
            same =
                ap (λ l. collect l c.match-mark_of.depth (map tok_shown c.match-mark_of.arg.items) (map toks_shown c.match-mark_of.args.items) after) w.limit-is
                ∙ ap (λ d. collect c.loop-index.limit d (map tok_shown c.match-mark_of.arg.items) (map toks_shown c.match-mark_of.args.items) after) w.depth-is
                ∙ ap (λ xs. collect c.loop-index.limit w.in-Within.inner xs (map toks_shown c.match-mark_of.args.items) after) longer
                ∙ ap (λ v. collect c.loop-index.limit w.in-Within.inner (arg ++ tok_shown t ∷ []) (map toks_shown v.items) after) w.args-is
                ∙ sym (w.in-Within.ensures.marks arg args after)
                ∙ before;
            bound = omega (arith, w.depth-is, w.in-Within.ensures.bound, c.loop-index.invariant.bound);
          }
    ]
